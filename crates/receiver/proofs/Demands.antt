-- The demands, of the receiver and of the frame that it has put together: by the contracts of `receive` and of `frame` alone.
-- Assumes nothing.
use Rattle.std.specs.Prelude.{Result, Ok, Err}
use mathlib.Core.Path.{◌≡◌, refl, sym, ap, ap₂, subst, ◌∙◌}
use mathlib.Core.Logic.{◌≢◌}
use mathlib.Core.Bool.{Bool, false}
use mathlib.Core.List.{List, [], ◌∷◌}
use Prim.Native.Nat.{ℕ, ◌≤◌, ◌<◌}
use native.Mathlib.Decide.{ℕ_discrete}
use lib.ListN.{length, get_or}
use Rattle.rules.specs.Codes.{small_code}
use Rattle.rules.specs.Numbers.{frame_bytes, data_bytes, Exit}
use Rattle.rules.proofs.Promises.Repair.{NotErased, Agree}
use Rattle.word.specs.declared.refusal.Refusal.{Refusal}
use Rattle.word.specs.Refused.{number}
use Rattle.word.proofs.RefusedLaws.{number_some, refusal_with, again}
use Rattle.frame.specs.declared.decode.Report.{Report}
use Rattle.frame.specs.Calls.{Encodes, Reads, Decodes}
use Rattle.frame.proofs.Demands.{DecodeSays, TwoSpoiled, ComesBack, demand₂, demand₃, determined}
use Rattle.receiver.specs.declared.state.State.{State}
use Rattle.receiver.specs.declared.state.Received.{Received}
use Rattle.receiver.specs.Pieces.{Told, fresh_of}
use Rattle.receiver.specs.Calls.{told, Receives}
use Rattle.receiver.proofs.ReceiveRule.{ReceiveRule}
use Rattle.receiver.proofs.Arrivals.{Call, Calls, pieces_of, Cut, call_rule, arrivals}

-- a buffer in which a frame was put together, as it was sent: from some cutting of it, in a buffer that held anything before
abbrev pub Assembled : ℕ → List ℕ → List ℕ → Type 0
Assembled n sent left = (lent : List ℕ) × (calls : List Call) × (end : State) × Cut n sent lent calls end left

pub record ReceiverDemands : Type 0 where
  -- demand 1: whatever the state, the piece and the buffer are
  pub answers :
      (s : State) (piece frame : List ℕ) (r : Told) (exit : List ℕ) → Receives s piece frame r exit
      → ReceiveRule small_code s piece frame r exit
  pub only :
      (s : State) (piece frame : List ℕ) (r r' : Told) (exit exit' : List ℕ) → Receives s piece frame r exit
      → Receives s piece frame r' exit' → (r ≡ r') × (exit ≡ exit')
  -- each answer of the code by its fields: one that is refused leaves the state, and no more is wanted; one that is taken has number 0
  pub refused_is :
      (s : State) (e : Refusal)
      → ((told s (Err e)).state ≡ s) × ((told s (Err e)).number ≡ number e) × ((told s (Err e)).more ≡ false)
  pub taken_is :
      (s : State) (r : Received) → ((told s (Ok r)).state ≡ r.state) × ((told s (Ok r)).number ≡ 0) × ((told s (Ok r)).more ≡ r.more)
  -- the number of a refusal is not 0, and two answers of which the same is told are the same
  pub refused_some : (s : State) (e : Refusal) → (told s (Err e)).number ≢ 0
  pub tells : (s : State) (r r' : Result Received Refusal) → told s r ≡ told s r' → r ≡ r'
  -- a reset begins another frame of as many rows, in the buffer as it is, whatever came before it
  pub next_frame :
      (s : State) (lent : List ℕ) (calls : List Call) (end : State) (left : List ℕ) → 18 ≤ s.n → s.n ≤ 256
      → length lent ≡ frame_bytes s.n → Calls s lent calls end left
      → (fresh : State) → fresh ≡ fresh_of end.n
      → (sent : List ℕ) (calls' : List Call) (end' : State) (left' : List ℕ) → length sent ≡ frame_bytes s.n
      → Calls fresh left calls' end' left' → pieces_of calls' ≡ sent → Cut s.n sent left calls' end' left'
  -- demand 2: decode's answer for what was put together is its answer for what was sent, whatever the cutting
  pub same_answer :
      (n : ℕ) (sent left : List ℕ) → Assembled n sent left
      → (allowance : ℕ) (output : List ℕ) (r r' : Result Report Refusal) (exit exit' : List ℕ) → Decodes n allowance left output r exit
      → Decodes n allowance sent output r' exit' → (r ≡ r') × (exit ≡ exit')
  pub decode :
      (n : ℕ) (sent left : List ℕ) → Assembled n sent left
      → (allowance : ℕ) (output : List ℕ) (r : Result Report Refusal) (exit : List ℕ) → Decodes n allowance left output r exit
      → DecodeSays n allowance sent output r exit
  -- what was encoded, and sent as it was, is read back
  pub back :
      (n : ℕ) (message blank written : List ℕ) → Encodes n message blank 0 written → ((p : ℕ) → get_or message p 0 < 256)
      → (left : List ℕ) → Assembled n written left
      → (lent : List ℕ) (r : ℕ) (exit : List ℕ) → length lent ≡ data_bytes small_code n → Reads n left lent r exit
      → (r ≡ 0) × (exit ≡ message)
  -- demand 3: at most two rows of what was sent have three or more wrong bits, and it is not all ones
  pub repairs :
      (n : ℕ) (message blank written : List ℕ) → Encodes n message blank 0 written
      → (sent left : List ℕ) → Assembled n sent left → TwoSpoiled n written sent → NotErased n sent → ComesBack n written left
  -- no two different written frames, spoiled so and put together, agree
  pub apart :
      (n : ℕ) (message blank written message' blank' written' : List ℕ) → Encodes n message blank 0 written
      → Encodes n message' blank' 0 written' → written ≢ written'
      → (sent left sent' left' : List ℕ) → Assembled n sent left → Assembled n sent' left'
      → TwoSpoiled n written sent → TwoSpoiled n written' sent' → ¬ Agree n left left'

-- ---- The proof

assembled : (n : ℕ) (sent left : List ℕ) → Assembled n sent left → left ≡ sent
assembled n sent left a = (arrivals.cutting n sent a.0 a.1 a.2 left a.3).buffer

tells_apart : (s : State) (r r' : Result Received Refusal) → told s r ≡ told s r' → r ≡ r'
tells_apart s (Err e) (Err d) h = ap Err (sym (again e) ∙ ap (λ (t : Told). refusal_with t.number) h ∙ again d)
tells_apart s (Err e) (Ok q) h = absurd (number_some e (ap (λ (t : Told). t.number) h))
tells_apart s (Ok p) (Err d) h = absurd (number_some d (sym (ap (λ (t : Told). t.number) h)))
tells_apart s (Ok p) (Ok q) h =
    ap₂ (λ (u : State) (m : Bool). Ok (record { state = u; more = m })) (ap (λ (t : Told). t.state) h) (ap (λ (t : Told). t.more) h)

-- n and the buffer's length stay, whatever is taken and refused
of_one_size :
    (calls : List Call) (s : State) (lent : List ℕ) (end : State) (left : List ℕ) → Calls s lent calls end left
    → (end.n ≡ s.n) × (length left ≡ length lent)
of_one_size [] s lent end left (e, f) = (sym (ap (λ (t : State). t.n) e), sym (ap length f))
of_one_size (c ∷ later) s lent end left (t, rest) =
    let r = call_rule s c.piece lent c.said c.frame t in
    let k = of_one_size later c.said.state c.frame end left rest in
    (k.0 ∙ go (ℕ_discrete c.said.number 0) r, k.1 ∙ r.long)
  where
    go : Dec (c.said.number ≡ 0) → ReceiveRule small_code s c.piece lent c.said c.frame → c.said.state.n ≡ s.n
    go (yes z) r = (r.counted z).0
    go (no z) r = ap (λ (u : State). u.n) (r.refused z).0

pub receiver_demands : ReceiverDemands
receiver_demands = record {
  answers = call_rule;
  only = λ s piece frame r r' exit exit' c c'.
      let e = c ∙ sym c' in (ap (λ (x : Exit Told). x.said) e, ap (λ (x : Exit Told). x.output) e);
  refused_is = λ s e. (refl, refl, refl);
  taken_is = λ s r. (refl, refl, refl);
  refused_some = λ s. number_some;
  tells = tells_apart;
  next_frame = λ s lent calls end left from up_to room c fresh e sent calls' end' left' whole k same.
      let o = of_one_size calls s lent end left c in
      record {
        from = from;
        up_to = up_to;
        room = o.1 ∙ room;
        whole = whole;
        in_turn = subst (λ (t : State). Calls t left calls' end' left') (e ∙ ap fresh_of o.0) k;
        pieces = same;
      };
  same_answer = λ n sent left a allowance output r r' exit exit' c c'.
      determined.decode n allowance sent output r r' exit exit'
      (rw (assembled n sent left a) at c) c';
  decode = λ n sent left a allowance output r exit c.
      demand₂.decode n allowance sent output r exit (rw (assembled n sent left a) at c);
  back = λ n message blank written e bytes left a lent r exit long c.
      demand₂.back n message blank written e bytes lent r exit long (rw (assembled n written left a) at c);
  repairs = λ n message blank written e sent left a s seen.
      rw (assembled n sent left a) (demand₃.repairs n message blank written e sent s seen);
  apart = λ n message blank written message' blank' written' e e' d sent left sent' left' a a' s s'.
      rw (assembled n sent left a, assembled n sent' left' a')
      (demand₃.apart n message blank written message' blank' written' e e' d sent sent' s s');
}
