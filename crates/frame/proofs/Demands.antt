-- The three demands, of the code: whatever the functions return and leave in the lent output, by their contracts alone.
-- A contract is one of `Encodes`, `Reads`, `Decodes` and `TakesRow`: no function has another, and none requires anything. The
-- single word's demands stand in the crate `word`.
-- Assumes nothing.
use mathlib.Core.Path.{◌≡◌, refl, sym, ap, subst⁻¹, ◌∙◌}
use mathlib.Core.Logic.{◌≢◌, ◌↔◌, ◌⊎◌, inl, inr, ⊎_elim}
use mathlib.Core.Bool.{Bool, true, false, ◌||◌, true≢false}
use mathlib.Core.List.{List, [], ◌∷◌}
use Prim.Native.Nat.{ℕ, ◌+◌, ◌*◌, ◌≤◌, ◌<◌}
use native.Mathlib.Decide.{ℕ_discrete}
use native.Mathlib.Omega.{arith}
use borrow.Author.Tests.{eq-eqb}
use lib.Dec.{eqb}
use lib.ListN.{length, get_or}
use Rattle.rules.specs.Codes.{small_code, data_bits}
use Rattle.rules.specs.Words.{is_in}
use Rattle.rules.specs.Frames.{Frame, corner}
use Rattle.rules.specs.Bits.{row_bytes, stride, bit_at, frame_of, bytes_of, spare_ones}
use Rattle.rules.specs.Passes as passes
use Rattle.rules.specs.Passes.{Outcome, decoded}
use Rattle.rules.specs.Damage.{spoilt, wrong_bits}
use Rattle.rules.specs.Numbers as rules
use Rattle.rules.specs.Numbers.{most_allowed, data_bytes, frame_bytes, frame_for, encode_output, read_number, read_output, number, figures_of, figures_with, decode_said, decode_output}
use Rattle.rules.proofs.Laws.NumberLaws.{Sized, told_success, told_both}
use Rattle.rules.proofs.Laws.ErasedLaws.{ones_square}
use Rattle.rules.proofs.Promises.Passes.{after, PassRule}
use Rattle.rules.proofs.Promises.Refusals.{NumberTable, GoodRow, row_of_bytes}
use Rattle.rules.proofs.Promises.EntryRules.{Given, EncodeRule, ReadRule, decode_reasons, DecodeRule}
use Rattle.rules.proofs.Promises.EntryRules as entry
use Rattle.rules.proofs.Promises.Repair.{Written, Back, NotErased, Agree}
use Rattle.rules.proofs.Promises.Erased.{small_ones}
use Rattle.rules.proofs.Promises.Promised.{promised_small}
use Rattle.frame.specs.declared.decode.Ending.{Ending}
use Rattle.frame.specs.declared.decode.Ending.TheVariants.{Clean, Repaired, Stuck, Spent}
use Rattle.frame.specs.declared.decode.Report.{Report}
use Rattle.std.specs.Prelude.{Result, Ok, Err}
use Rattle.word.specs.declared.refusal.Refusal.{Refusal}
use Rattle.word.specs.Refused as code
use Rattle.word.specs.Refused.{number_of}
use Rattle.word.proofs.RefusedLaws.{number_some, same_answer}
use Rattle.word.proofs.Demands.{RefusalNumbers, word_demands}
use Rattle.frame.specs.Calls.{Encodes, Reads, Decodes, TakesRow}
use Rattle.frame.specs.Said.{said, figures}
use Rattle.frame.proofs.SaidLaws.{ending_of, report_of, back, back_again, refused_as, apart, has_not_ended, figures_refused, figures_at}

-- ---- Demand 1: every entry point answers, whatever it is given

-- which numbers can occur, and what stands in the output for each: the frame or data; untouched; the received bytes
pub record Demand₁ : Type 0 where
  pub encode :
      (n : ℕ) (message output : List ℕ) (r : ℕ) (exit : List ℕ) → Encodes n message output r exit
      → NumberTable (1 ∷ 2 ∷ 3 ∷ 5 ∷ 10 ∷ []) [] r
      (bytes_of n (frame_for small_code n message)) message output exit
  pub read :
      (n : ℕ) (frame output : List ℕ) (r : ℕ) (exit : List ℕ) → Reads n frame output r exit
      → NumberTable (1 ∷ 2 ∷ 3 ∷ 10 ∷ 6 ∷ []) [] r
      (bytes_of (data_bits small_code n) (corner (data_bits small_code n) (frame_of n frame))) frame output exit
  pub decode :
      (n allowance : ℕ) (received output : List ℕ) (r : Result Report Refusal) (exit : List ℕ) → Decodes n allowance received output r exit
      → NumberTable (1 ∷ 2 ∷ 3 ∷ 4 ∷ 10 ∷ []) (7 ∷ 8 ∷ []) (figures r).number
      (bytes_of n (decoded small_code n allowance (frame_of n received)).last) received output exit
  -- a row that is there takes 3 bytes or more, and any other is empty
  pub row :
      (n : ℕ) (frame : List ℕ) (i : ℕ) (r : List ℕ) → TakesRow n frame i r
      → (GoodRow small_code n frame i → (r ≡ row_of_bytes n frame i) × (length r ≡ row_bytes n) × (3 ≤ row_bytes n))
      × (¬ GoodRow small_code n frame i → r ≡ [])

-- ---- Demand 2: frames and passes are those of the rules, pass for pass

-- the rules' outcome with a report's own fields, had the passes ended so
abbrev pub outcome_as : ℕ → Frame → passes.Ending → Report → Outcome
outcome_as n f e r =
    record {
      ending = e;
      passes = r.passes;
      bits = r.bits;
      rows = r.rows;
      columns = r.columns;
      last = after small_code n f r.passes;
    }

-- the number of the first reason that is there
abbrev pub FirstReason : ℕ → ℕ → List ℕ → List ℕ → ℕ → Type 0
FirstReason n a received output k = Given (decode_reasons small_code n a received output) k

-- no reason is there, and the passes ended so
abbrev pub PassesEnd : ℕ → ℕ → List ℕ → List ℕ → passes.Ending → Report → Type 0
PassesEnd n a received output e r =
    FirstReason n a received output 0 × PassRule small_code n a (frame_of n received) (outcome_as n (frame_of n received) e r)

-- what each ending says of the received bytes, and what then stands in the output
abbrev pub EndingSays : ℕ → ℕ → List ℕ → List ℕ → Ending → Report → List ℕ → Type 0
EndingSays n a received output Clean r exit =
    PassesEnd n a received output passes.clean r × (exit ≡ bytes_of n (after small_code n (frame_of n received) r.passes))
EndingSays n a received output Repaired r exit =
    PassesEnd n a received output passes.repaired r × (exit ≡ bytes_of n (after small_code n (frame_of n received) r.passes))
EndingSays n a received output Stuck r exit = PassesEnd n a received output passes.stuck r × (exit ≡ received)
EndingSays n a received output Spent r exit = PassesEnd n a received output passes.spent r × (exit ≡ received)

-- a refusal, erased among them, has the number of the first reason, and leaves the output
abbrev pub DecodeSays : ℕ → ℕ → List ℕ → List ℕ → Result Report Refusal → List ℕ → Type 0
DecodeSays n a received output (Err e) exit =
    (code.number e ≢ 0) × FirstReason n a received output (code.number e) × (exit ≡ output)
DecodeSays n a received output (Ok r) exit = EndingSays n a received output r.ending r exit

-- a report's fields by their names
abbrev pub ended : Ending → ℕ → ℕ → ℕ → ℕ → Result Report Refusal
ended e p b r c = Ok (record { ending = e; passes = p; bits = b; rows = r; columns = c })

pub record Demand₂ : Type 0 where
  -- the rule of each entry point names each number beside its reason
  pub encode :
      (n : ℕ) (message output : List ℕ) (r : ℕ) (exit : List ℕ) → Encodes n message output r exit
      → EncodeRule small_code n message output r exit
  pub read :
      (n : ℕ) (frame output : List ℕ) (r : ℕ) (exit : List ℕ) → Reads n frame output r exit → ReadRule small_code n frame output r exit
  pub decode :
      (n allowance : ℕ) (received output : List ℕ) (r : Result Report Refusal) (exit : List ℕ) → Decodes n allowance received output r exit
      → DecodeSays n allowance received output r exit
  -- each answer's number and values
  pub taken_is : number_of {A = Unit {0}} (Ok tt) ≡ 0
  pub turned_away_is : (e : Refusal) → number_of {A = Unit {0}} (Err e) ≡ code.number e
  pub refusals_are : RefusalNumbers
  pub refused_is : (e : Refusal) → figures (Err e) ≡ figures_with (code.number e) 0 0 0 0
  pub clean_is : (p b r c : ℕ) → figures (ended Clean p b r c) ≡ figures_with 0 p b 0 0
  pub repaired_is : (p b r c : ℕ) → figures (ended Repaired p b r c) ≡ figures_with 0 p b 0 0
  pub stuck_is : (p b r c : ℕ) → figures (ended Stuck p b r c) ≡ figures_with 7 p b r c
  pub spent_is : (p b r c : ℕ) → figures (ended Spent p b r c) ≡ figures_with 8 p b r c
  -- encode gives 10 for one message alone, 239 rows of ones at n = 256; a message's entries are bytes
  pub one_message :
      (n : ℕ) (message output : List ℕ) (r : ℕ) (exit : List ℕ) → Encodes n message output r exit → ((p : ℕ) → get_or message p 0 < 256)
      → (r ≡ 10) ↔ ((n ≡ 256) × (message ≡ bytes_of 239 (ones_square 239)) × (length output ≡ frame_bytes 256))
  -- and takes every other that is of its size and has no spare bit set
  pub others :
      (n : ℕ) (message output : List ℕ) (r : ℕ) (exit : List ℕ) → Encodes n message output r exit → ((p : ℕ) → get_or message p 0 < 256)
      → Sized small_code n message (data_bytes small_code n) output (frame_bytes n) → spare_ones (data_bits small_code n) message ≡ 0
      → ¬ ((n ≡ 256) × (message ≡ bytes_of 239 (ones_square 239))) → r ≡ 0
  -- what was encoded is read back
  pub back :
      (n : ℕ) (message output frame : List ℕ) → Encodes n message output 0 frame → ((p : ℕ) → get_or message p 0 < 256)
      → (lent : List ℕ) (r : ℕ) (exit : List ℕ) → length lent ≡ data_bytes small_code n → Reads n frame lent r exit
      → (r ≡ 0) × (exit ≡ message)
  -- and is clean, with no pass
  pub clean :
      (n : ℕ) (message output frame : List ℕ) → Encodes n message output 0 frame
      → (allowance : ℕ) (lent : List ℕ) (r : Result Report Refusal) (exit : List ℕ) → length lent ≡ frame_bytes n → 1 ≤ allowance
      → allowance ≤ most_allowed → Decodes n allowance frame lent r exit → (r ≡ ended Clean 0 0 0 0) × (exit ≡ frame)

-- ---- Demand 3: a spoiled frame comes back exactly, in at most two passes, at any allowance of two or more

-- at most two rows have three or more wrong bits; spare bits are no code bits
abbrev pub TwoSpoiled : ℕ → List ℕ → List ℕ → Type 0
TwoSpoiled n written received =
    (length received ≡ frame_bytes n) × (spoilt 2 n (frame_of n written) (frame_of n received) ≤ 2)

-- at every permitted allowance from two on: clean or repaired, in at most two passes, as many bits as were wrong, the written bytes
abbrev pub ComesBack : ℕ → List ℕ → List ℕ → Type 0
ComesBack n written received =
    (allowance : ℕ) (output : List ℕ) (r : Result Report Refusal) (exit : List ℕ) → 2 ≤ allowance → allowance ≤ most_allowed
    → length output ≡ frame_bytes n → Decodes n allowance received output r exit
    → (q : Report) × (r ≡ Ok q) × ((q.ending ≡ Clean) ⊎ (q.ending ≡ Repaired)) × (q.passes ≤ 2) × (q.bits ≡ wrong_bits n written received)
    × (exit ≡ written)

pub record Demand₃ : Type 0 where
  -- any written frame, spoiled so that at most two rows have three or more wrong bits, and not all ones
  pub repairs :
      (n : ℕ) (message blank written : List ℕ) → Encodes n message blank 0 written
      → (received : List ℕ) → TwoSpoiled n written received → NotErased n received → ComesBack n written received
  -- it is not, if a row has no wrong bit, or a column, or if n is 256
  pub row_unharmed :
      (n : ℕ) (message blank written : List ℕ) → Encodes n message blank 0 written
      → (received : List ℕ) → TwoSpoiled n written received → (i : ℕ) → i < n
      → ((j : ℕ) → j < n → bit_at written (i * stride n + j) ≡ bit_at received (i * stride n + j)) → NotErased n received
  pub column_unharmed :
      (n : ℕ) (message blank written : List ℕ) → Encodes n message blank 0 written
      → (received : List ℕ) → TwoSpoiled n written received → (j : ℕ) → j < n
      → ((i : ℕ) → i < n → bit_at written (i * stride n + j) ≡ bit_at received (i * stride n + j)) → NotErased n received
  pub longest :
      (message blank written : List ℕ) → Encodes 256 message blank 0 written
      → (received : List ℕ) → TwoSpoiled 256 written received → NotErased 256 received
  -- so any frame with at most eight wrong bits comes back, whatever was received
  pub eight_bits :
      (n : ℕ) (message blank written : List ℕ) → Encodes n message blank 0 written
      → (received : List ℕ) → length received ≡ frame_bytes n → wrong_bits n written received ≤ 8
      → ComesBack n written received
  -- and any with two rows p and q lost whole
  pub rows_lost :
      (n : ℕ) (message blank written : List ℕ) → Encodes n message blank 0 written
      → (received : List ℕ) (p q : ℕ) → length received ≡ frame_bytes n
      → ((i j : ℕ) → i < n → j < n → i ≢ p → i ≢ q → bit_at written (i * stride n + j) ≡ bit_at received (i * stride n + j))
      → ComesBack n written received
  -- or two columns
  pub columns_lost :
      (n : ℕ) (message blank written : List ℕ) → Encodes n message blank 0 written
      → (received : List ℕ) (p q : ℕ) → length received ≡ frame_bytes n
      → ((i j : ℕ) → i < n → j < n → j ≢ p → j ≢ q → bit_at written (i * stride n + j) ≡ bit_at received (i * stride n + j))
      → ComesBack n written received
  -- whatever the allowance, clean and repaired mean the written bytes, and the count is the number of wrong bits
  pub counts :
      (n : ℕ) (message blank written : List ℕ) → Encodes n message blank 0 written
      → (received : List ℕ) → TwoSpoiled n written received
      → (allowance : ℕ) (output : List ℕ) (q : Report) (exit : List ℕ) → Decodes n allowance received output (Ok q) exit
      → (q.ending ≡ Clean) ⊎ (q.ending ≡ Repaired) → (exit ≡ written) × (q.bits ≡ wrong_bits n written received)
  -- no two different written frames, spoiled so, agree
  pub apart :
      (n : ℕ) (message blank written message' blank' written' : List ℕ) → Encodes n message blank 0 written
      → Encodes n message' blank' 0 written' → written ≢ written'
      → (received received' : List ℕ) → TwoSpoiled n written received → TwoSpoiled n written' received' → ¬ Agree n received received'

-- ---- Two calls alike return and leave the same

pub record Determined : Type 0 where
  pub encode :
      (n : ℕ) (message output : List ℕ) (r r' : Result (Unit {0}) Refusal) (exit exit' : List ℕ)
      → Encodes n message output (number_of r) exit → Encodes n message output (number_of r') exit' → (r ≡ r') × (exit ≡ exit')
  pub read :
      (n : ℕ) (frame output : List ℕ) (r r' : Result (Unit {0}) Refusal) (exit exit' : List ℕ)
      → Reads n frame output (number_of r) exit → Reads n frame output (number_of r') exit' → (r ≡ r') × (exit ≡ exit')
  -- C gets their numbers
  pub encode_numbers :
      (n : ℕ) (message output : List ℕ) (r r' : ℕ) (exit exit' : List ℕ) → Encodes n message output r exit
      → Encodes n message output r' exit' → (r ≡ r') × (exit ≡ exit')
  pub read_numbers :
      (n : ℕ) (frame output : List ℕ) (r r' : ℕ) (exit exit' : List ℕ) → Reads n frame output r exit
      → Reads n frame output r' exit' → (r ≡ r') × (exit ≡ exit')
  pub decode :
      (n allowance : ℕ) (received output : List ℕ) (r r' : Result Report Refusal) (exit exit' : List ℕ)
      → Decodes n allowance received output r exit → Decodes n allowance received output r' exit' → (r ≡ r') × (exit ≡ exit')
  -- its bytes: a contract does not say where a part lies
  pub row : (n : ℕ) (frame : List ℕ) (i : ℕ) (r r' : List ℕ) → TakesRow n frame i r → TakesRow n frame i r' → r ≡ r'

-- ---- The proofs

pub demand₁ : Demand₁
demand₁ = record {
  encode = λ n message output r exit e. rw (e.0, e.1) (promised_small.refuses.encode n message output);
  read = λ n frame output r exit e. rw (e.0, e.1) (promised_small.refuses.read n frame output);
  decode = λ n allowance received output r exit e.
      rw (e.0, e.1) (promised_small.refuses.decode n allowance received output);
  row = λ n frame i r e.
      let p = promised_small.refuses.row n frame i in (
        λ g. let q = p.0 g in (e ∙ q.0, ap length (e ∙ q.0) ∙ q.1, omega (arith, g.0)),
        λ g. e ∙ p.1 g,
      );
}

-- an outcome that keeps the pass rule, in the code's own cases
ending_says :
    (n a : ℕ) (received output exit : List ℕ) (o : Outcome) → FirstReason n a received output 0 → PassRule small_code n a (frame_of n received) o
    → exit ≡ entry.written n received o.ending o.last
    → EndingSays n a received output (ending_of o.ending) (report_of o) exit
ending_says n a received output exit o z k x =
    go o.ending
    (record { ends = k.ends; last_is = refl; bits_are = k.bits_are; rows_are = k.rows_are; columns_are = k.columns_are })
    (x ∙ ap (entry.written n received o.ending) k.last_is)
  where
    go :
        (e : passes.Ending) → PassRule small_code n a (frame_of n received) (outcome_as n (frame_of n received) e (report_of o))
        → exit ≡ entry.written n received e (after small_code n (frame_of n received) o.passes)
        → EndingSays n a received output (ending_of e) (report_of o) exit
    go passes.clean p y = ((z, p), y)
    go passes.repaired p y = ((z, p), y)
    go passes.stuck p y = ((z, p), y)
    go passes.spent p y = ((z, p), y)

decode_says :
    (n a : ℕ) (received output : List ℕ) (r : Result Report Refusal) (exit : List ℕ) → Decodes n a received output r exit
    → DecodeSays n a received output r exit
decode_says n a received output r exit e = go r e.0 (ℕ_discrete rule.refusal 0) (ℕ_discrete rule.refusal 10)
  where
    rule : DecodeRule small_code n a received output (decode_said small_code n a received output) exit
    rule = rw e.1 (promised_small.entries.decodes n a received output)

    refusing : (k : Refusal) → rule.refusal ≢ 0 → code.number k ≡ rule.refusal → DecodeSays n a received output (Err k) exit
    refusing k z q = (number_some k, subst⁻¹ (FirstReason n a received output) q rule.number, rule.untouched z)

    go :
        (r : Result Report Refusal) → said r ≡ decode_said small_code n a received output → Dec (rule.refusal ≡ 0) → Dec (rule.refusal ≡ 10)
        → DecodeSays n a received output r exit
    go (Err k) q (yes z) t = let o = rule.ends z in absurd (apart (code.number k) o.0 (q ∙ o.2))
    go (Err k) q (no z) (yes t) = refusing k z (sym (refused_as k) ∙ ap number (q ∙ rule.erases t) ∙ sym t)
    go (Err k) q (no z) (no t) = refusing k z (sym (refused_as k) ∙ ap number (q ∙ rule.refuses z t))
    go (Ok x) q (yes z) t =
        let o = rule.ends z in
        subst⁻¹ (λ d. DecodeSays n a received output d exit) (sym (back_again (Ok x)) ∙ ap back (q ∙ o.2))
        (ending_says n a received output exit o.0 (rw z at rule.number) o.1 o.3)
    go (Ok x) q (no z) (yes t) = absurd (has_not_ended x rules.erased refl (q ∙ rule.erases t))
    go (Ok x) q (no z) (no t) = absurd (has_not_ended x (rules.refused rule.refusal) refl (q ∙ rule.refuses z t))

pub demand₂ : Demand₂
demand₂ = record {
  encode = λ n message output r exit e. rw (e.0, e.1) (promised_small.entries.encodes n message output);
  read = λ n frame output r exit e. rw (e.0, e.1) (promised_small.entries.reads n frame output);
  decode = decode_says;
  taken_is = refl;
  turned_away_is = λ e. refl;
  refusals_are = word_demands.refusals_are;
  refused_is = figures_refused;
  clean_is = λ p b r c. refl;
  repaired_is = λ p b r c. refl;
  stuck_is = λ p b r c. refl;
  spent_is = λ p b r c. refl;
  one_message = λ n message output r exit e bytes. rw e.0 (small_ones.one_message n message output bytes);
  others = λ n message output r exit e bytes f z other. e.0 ∙ small_ones.others n message output bytes f z other;
  back = λ n message output frame e bytes lent r exit h c.
      let t = promised_small.round_trips.trip n message output (sym e.0) in
      let p : (read_number small_code n frame lent ≡ 0) × (read_output small_code n frame lent ≡ message) =
      subst⁻¹ (λ s. (read_number small_code n s lent ≡ 0) × (read_output small_code n s lent ≡ message)) e.1
      (t.reads bytes (encode_output small_code n message output) lent t.received h) in
      (c.0 ∙ p.0, c.1 ∙ p.1);
  clean = λ n message output frame e allowance lent r exit h lo hi c.
      let t = promised_small.round_trips.trip n message output (sym e.0) in
      let p : (decode_said small_code n allowance frame lent ≡ rules.ended passes.clean 0 0 0 0) × (decode_output small_code n allowance frame lent ≡ frame) =
      subst⁻¹ (λ s. (decode_said small_code n allowance s lent ≡ rules.ended passes.clean 0 0 0 0) × (decode_output small_code n allowance s lent ≡ s)) e.1
      (t.decodes (encode_output small_code n message output) lent allowance t.received h lo hi) in
      (sym (back_again r) ∙ ap back (c.0 ∙ p.0), c.1 ∙ p.1);
}

-- an encoding that gave 0 is one that rules' definition accepts
pub writes : (n : ℕ) (message output written : List ℕ) → Encodes n message output 0 written → Written small_code n written
writes n message output written e = record { input = message; blank = output; accepts = sym e.0; writes = sym e.1 }

-- those of a success: the number is 0, and the bits are its own
success_figures :
    (q : Report) → (q.ending ≡ Clean) ⊎ (q.ending ≡ Repaired) → ((figures (Ok q)).number ≡ 0) × ((figures (Ok q)).bits ≡ q.bits)
success_figures q (inl h) = let k = figures_at q Clean h in (ap (λ f. f.number) k, ap (λ f. f.bits) k)
success_figures q (inr h) = let k = figures_at q Repaired h in (ap (λ f. f.number) k, ap (λ f. f.bits) k)

counts_here :
    (n : ℕ) (message blank written : List ℕ) → Encodes n message blank 0 written
    → (received : List ℕ) → TwoSpoiled n written received
    → (allowance : ℕ) (output : List ℕ) (q : Report) (exit : List ℕ) → Decodes n allowance received output (Ok q) exit
    → (q.ending ≡ Clean) ⊎ (q.ending ≡ Repaired) → (exit ≡ written) × (q.bits ≡ wrong_bits n written received)
counts_here n message blank written e received s allowance output q exit c h =
    let same : figures (Ok q) ≡ figures_of (decode_said small_code n allowance received output) = ap figures_of c.0 in
    let z = success_figures q h in
    let k =
    promised_small.repairs.counts n allowance written received output (writes n message blank written e) s
    (sym (ap (λ f. f.number) same) ∙ z.0) in
    (c.1 ∙ k.0, sym z.1 ∙ ap (λ f. f.bits) same ∙ k.1)

back_here :
    (n : ℕ) (message blank written : List ℕ) → Encodes n message blank 0 written
    → (received : List ℕ) → TwoSpoiled n written received → NotErased n received → ComesBack n written received
back_here n message blank written e received s seen allowance output r exit lo hi h c = go (ℕ_discrete rule.refusal 0) (ℕ_discrete rule.refusal 10)
  where
    comes : Back small_code n allowance written received output
    comes = promised_small.repairs.back n allowance written received output (writes n message blank written e) s seen lo hi h

    rule : DecodeRule small_code n allowance received output (decode_said small_code n allowance received output) (decode_output small_code n allowance received output)
    rule = promised_small.entries.decodes n allowance received output

    go :
        Dec (rule.refusal ≡ 0) → Dec (rule.refusal ≡ 10)
        → (q : Report) × (r ≡ Ok q) × ((q.ending ≡ Clean) ⊎ (q.ending ≡ Repaired)) × (q.passes ≤ 2) × (q.bits ≡ wrong_bits n written received)
        × (exit ≡ written)
    go (yes z) t =
        let o = rule.ends z in
        let q : Report = report_of o.0 in
        let is : r ≡ Ok q = sym (back_again r) ∙ ap back (c.0 ∙ o.2) in
        let ending : (q.ending ≡ Clean) ⊎ (q.ending ≡ Repaired) =
        ⊎_elim (λ x. inl (ap ending_of x)) (λ x. inr (ap ending_of x)) (told_success o.0 (sym (ap number o.2) ∙ comes.zero)) in
        let few : (figures_of (rules.told o.0)).passes ≤ 2 = rw o.2 at comes.few in
        let k = counts_here n message blank written e received s allowance output q exit (sym (ap said is) ∙ c.0, c.1) ending in
        (q, is, ending, omega (arith, few, (told_both o.0).0), k.1, k.0)
    go (no z) (yes t) = let k = sym (ap number (rule.erases t)) ∙ comes.zero in absurd (omega arith)
    go (no z) (no t) = absurd (z (sym (ap number (rule.refuses z t)) ∙ comes.zero))

-- neither of two places
not_named : (i p q : ℕ) → is_in i (p ∷ q ∷ []) ≡ false → (i ≢ p) × (i ≢ q)
unfolding is_in
not_named i p q h =
    let t = split (eqb i p) (eqb i q) h in
    (λ e. true≢false (sym (eq-eqb i p e) ∙ t.0), λ e. true≢false (sym (eq-eqb i q e) ∙ t.1))
  where
    split : (a b : Bool) → (a || (b || false)) ≡ false → (a ≡ false) × (b ≡ false)
    split true b h = absurd (true≢false h)
    split false true h = absurd (true≢false h)
    split false false h = (refl, refl)

module _ (n : ℕ) (message blank written : List ℕ) (e : Encodes n message blank 0 written) (received : List ℕ) (h : length received ≡ frame_bytes n) where
  abbrev w : Written small_code n written
  w = writes n message blank written e

  long : 18 ≤ n
  long = ((promised_small.round_trips.accepts n message blank).0 (sym e.0)).0.from

  eight_back : wrong_bits n written received ≤ 8 → ComesBack n written received
  eight_back few =
      let s = promised_small.repairs.few_bits n written received h (omega (arith, few)) in
      back_here n message blank written e received s (promised_small.repairs.few_seen n written received w s (omega (arith, few, long)))

  rows_back :
      (p q : ℕ) → ((i j : ℕ) → i < n → j < n → i ≢ p → i ≢ q → bit_at written (i * stride n + j) ≡ bit_at received (i * stride n + j))
      → ComesBack n written received
  rows_back p q kept =
      let same : (i j : ℕ) → i < n → j < n → is_in i (p ∷ q ∷ []) ≡ false → bit_at written (i * stride n + j) ≡ bit_at received (i * stride n + j) =
      λ i j hi hj out. let k = not_named i p q out in kept i j hi hj k.0 k.1 in
      let s = promised_small.repairs.rows_lost n written received (p ∷ q ∷ []) (omega arith) h same in
      back_here n message blank written e received s (promised_small.repairs.rows_seen n written received w s (p ∷ q ∷ []) (omega (arith, long)) same)

  columns_back :
      (p q : ℕ) → ((i j : ℕ) → i < n → j < n → j ≢ p → j ≢ q → bit_at written (i * stride n + j) ≡ bit_at received (i * stride n + j))
      → ComesBack n written received
  columns_back p q kept =
      let same : (i j : ℕ) → i < n → j < n → is_in j (p ∷ q ∷ []) ≡ false → bit_at written (i * stride n + j) ≡ bit_at received (i * stride n + j) =
      λ i j hi hj out. let k = not_named j p q out in kept i j hi hj k.0 k.1 in
      let s = promised_small.repairs.columns_lost n written received (p ∷ q ∷ []) (omega arith) h same in
      back_here n message blank written e received s (promised_small.repairs.columns_seen n written received w s (p ∷ q ∷ []) (omega (arith, long)) same)

pub demand₃ : Demand₃
demand₃ = record {
  repairs = back_here;
  row_unharmed = λ n message blank written e received. promised_small.repairs.row_unharmed n written received (writes n message blank written e);
  column_unharmed = λ n message blank written e received. promised_small.repairs.column_unharmed n written received (writes n message blank written e);
  longest = λ message blank written e received s.
      promised_small.repairs.ones_codeword 256 written received (writes 256 message blank written e) s
      ((small_ones.at_256 256 (omega arith) (omega arith)).1 refl);
  counts = counts_here;
  eight_bits = eight_back;
  rows_lost = λ n message blank written e received p q h. rows_back n message blank written e received h p q;
  columns_lost = λ n message blank written e received p q h. columns_back n message blank written e received h p q;
  apart = λ n message blank written message' blank' written' e e' d received received' s s'.
      promised_small.repairs.apart n written written' received received' (writes n message blank written e)
      (writes n message' blank' written' e') d s s';
}

pub determined : Determined
determined = record {
  encode = λ n message output r r' exit exit' e e'. (same_answer r r' (e.0 ∙ sym e'.0), e.1 ∙ sym e'.1);
  read = λ n frame output r r' exit exit' e e'. (same_answer r r' (e.0 ∙ sym e'.0), e.1 ∙ sym e'.1);
  encode_numbers = λ n message output r r' exit exit' e e'. (e.0 ∙ sym e'.0, e.1 ∙ sym e'.1);
  read_numbers = λ n frame output r r' exit exit' e e'. (e.0 ∙ sym e'.0, e.1 ∙ sym e'.1);
  decode = λ n allowance received output r r' exit exit' e e'.
      (sym (back_again r) ∙ ap back (e.0 ∙ sym e'.0) ∙ back_again r', e.1 ∙ sym e'.1);
  row = λ n frame i r r' e e'. e ∙ sym e';
}
