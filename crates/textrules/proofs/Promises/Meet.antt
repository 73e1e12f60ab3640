-- RULES 9 and 10: both programs: what the report says of the dump that is written.
-- Assumes nothing.
use mathlib.Core.Path.{◌≡◌, refl, sym, ap, ap₂, ◌∙◌}
use mathlib.Core.Logic.{◌≢◌}
use mathlib.Core.Bool.{Bool, true, false}
use mathlib.Core.List.{List, [], ◌∷◌, ◌++◌, map, append_assoc, append-nil}
use Prim.Native.Nat.{ℕ, suc, ◌+◌, ◌^◌, ◌≤◌, ◌<◌}
use native.Mathlib.Decide.{ℕ_discrete}
use native.Mathlib.Omega.{arith}
use lib.Dec.{eqb}
use lib.ListN.{length, get_or}
use Rattle.algebra.specs.Sums.{All, AllN}
use Rattle.algebra.specs.Tables.{tab}
use Rattle.rules.specs.Codes.{small_code}
use Rattle.rules.specs.Bits.{bytes_of}
use Rattle.rules.specs.Numbers.{pick, frame_bytes, frame_for, encode_number, encode_output}
use Rattle.rules.proofs.Laws.NumberLaws.{at_zero, at_other}
use Rattle.rules.proofs.Laws.PackLaws.{bytes_of_byte}
use Rattle.textrules.specs.Text.{Text, ascii, same, lines, every, digits, decimal, hex_text}
use Rattle.textrules.specs.Programs.{bad_header, Program, output_from, output}
use Rattle.textrules.specs.Dump.{bad_line, line_of, record_text, line_text, repair, report}
use Rattle.textrules.specs.Factory.{longest_data, DataLine, bad_data, some_data, data_of, given_allowance, blank_frame, data_text, writer}
use Rattle.textrules.proofs.Laws.Computing.{computing}
use Rattle.textrules.proofs.Laws.TextLaws.{Digit, decimal_digits, decimal-some, tabbed}
use Rattle.textrules.proofs.Promises.Records.{record_line, AreBytes, RecordFits, records}
use Rattle.textrules.proofs.Promises.DataRecords.{data_line, DataFits, data_records, NumberShort, short_number}
use Rattle.textrules.proofs.Promises.LongestLine.{longest_line_lem}
use Rattle.textrules.proofs.Promises.Lines.{NoLF, lines_cut}
use Rattle.textrules.proofs.Promises.Outputs.{joined_texts, same_is, same_not, outputs, output_under, out_line_lem, line_no_lf, decimal_no_lf, quoted_no_lf}
use Rattle.textrules.proofs.Promises.Written.{trip, accepted_most, line_accepted, line_refused, mark_no_lf, frame_fields_no_lf, frame_bytes_most}

-- ---- The statement

-- a line of the data, by what is found in the dump at its place: a clean frame where encoding accepts it, else a line that is bad
abbrev pub found_text : ℕ → DataLine → Text
found_text k bad_data = ascii "?\t" ++ decimal k ++ ascii "\n"
found_text k (some_data number n message) =
    pick (eqb (encode_number small_code n message (blank_frame n)) 0)
    (decimal number ++ ascii "\tclean\t0\t0\t0\t0\n")
    (ascii "?\t" ++ decimal k ++ ascii "\n")

-- from the data to the report, without the dump between them
abbrev pub found : Program
found =
    record {
      header = ascii "data\t1";
      longest = longest_data;
      opening = ascii "repair\t1\n";
      line_text = λ k s. found_text k (data_of s);
    }

-- a record of the data
pub record Sent : Type 0 where
  pub number : ℕ
  pub n : ℕ
  pub message : List ℕ

-- how it is written
abbrev pub sent_line : Sent → Text
sent_line s = data_line s.number s.n s.message

-- a line has room for it, and encoding accepts it
abbrev pub Accepted : Sent → Type 0
Accepted s = DataFits s.number s.n s.message × (encode_number small_code s.n s.message (blank_frame s.n) ≡ 0)

-- the number, and that nothing was wrong
abbrev pub found_clean : Sent → Text
found_clean s = decimal s.number ++ ascii "\tclean\t0\t0\t0\t0\n"

-- Written's example: two frames, three refusals and an empty line
abbrev pub MeetExample : Type 0
MeetExample =
    report (output writer (
    ascii "data\t1\n"
    ++ ascii "10\t18\t00\n"
    ++ ascii "21\t18\t80\n"
    ++ ascii "32\t18\t40\n"
    ++ ascii "43\t17\t00\n"
    ++ ascii "54\t18\t0000\n"
    ++ ascii "\n"
    ))
    ≡ ascii "repair\t1\n"
    ++ ascii "10\tclean\t0\t0\t0\t0\n"
    ++ ascii "21\tclean\t0\t0\t0\t0\n"
    ++ ascii "?\t4\n"
    ++ ascii "?\t5\n"
    ++ ascii "?\t6\n"
    ++ ascii "?\t7\n"

-- what is promised of both programs
pub record Meet : Type 0 where
  pub example : MeetExample
  -- whatever the input
  pub meet : (input : Text) → report (output writer input) ≡ output found input
  -- and so by its lines, the one at index i after the header being line i + 2 of the data and of the dump
  pub numbered :
      (input : Text) (later : List Text) → lines input ≡ ascii "data\t1" ∷ later
      → report (output writer input)
      ≡ ascii "repair\t1\n" ++ joined_texts (tab (length later) (λ i. found_text (i + 2) (data_of (get_or later i []))))
  pub bad_header_lem :
      (input first : Text) (later : List Text) → lines input ≡ first ∷ later → first ≢ ascii "data\t1"
      → report (output writer input) ≡ ascii "bad header\n"
  pub no_header : (input : Text) → lines input ≡ [] → report (output writer input) ≡ ascii "bad header\n"
  -- where encoding accepts every record, each is found clean
  pub all_clean :
      (input : Text) (sent : List Sent) → lines input ≡ ascii "data\t1" ∷ map sent_line sent → All Accepted sent
      → report (output writer input) ≡ ascii "repair\t1\n" ++ joined_texts (map found_clean sent)

-- ---- The example: antt computes it

meet_shown : MeetExample
unfolding computing
meet_shown = refl

-- ---- one program's output as another's input

-- line k of p's output gives in q what line k of the input gives in r
abbrev pub Handed : Program → Program → Program → ℕ → Text → Type 0
Handed p q r k s = (t : Text) × NoLF t × (p.line_text k s ≡ t ++ ascii "\n") × (q.line_text k t ≡ r.line_text k s)

pub record Chain (p q r : Program) : Type 0 where
  pub header : r.header ≡ p.header
  pub opening : r.opening ≡ q.opening
  -- p's first line is the one that q asks for, and its complaint is not
  pub hands : p.opening ≡ q.header ++ ascii "\n"
  pub one : NoLF q.header
  pub other : ascii "bad header" ≢ q.header
  pub each : (k : ℕ) (s : Text) → Handed p q r k s

complaint_lines : lines bad_header ≡ ascii "bad header" ∷ []
unfolding lines
complaint_lines = refl

module _ (p q r : Program) (c : Chain p q r) where
  -- the lines below the header
  chain_from : (k : ℕ) (later : List Text) → output_from q k (lines (output_from p k later)) ≡ output_from r k later
  unfolding output_from lines
  chain_from k [] = refl
  chain_from k (s ∷ later) = go (c.each k s) (chain_from (suc k) later)
    where
      rest : Text
      rest = output_from p (suc k) later

      go :
          Handed p q r k s → output_from q (suc k) (lines rest) ≡ output_from r (suc k) later
          → output_from q k (lines (p.line_text k s ++ rest)) ≡ r.line_text k s ++ output_from r (suc k) later
      go (t, free, is, gives) ih =
          ap (λ (u : Text). output_from q k (lines (u ++ rest))) is
          ∙ ap (λ (u : Text). output_from q k (lines u)) (append_assoc t (ascii "\n") rest)
          ∙ ap (output_from q k) (lines_cut t rest free)
          ∙ ap₂ ◌++◌ gives ih

  -- under the header
  chain_good : (input : Text) (later : List Text) → lines input ≡ p.header ∷ later → output q (output p input) ≡ output r input
  chain_good input later e =
      let rest : Text = output_from p 2 later in
      let first : lines (output p input) ≡ q.header ∷ lines rest =
      ap lines (output_under p input later e ∙ ap (λ (t : Text). t ++ rest) c.hands ∙ append_assoc q.header (ascii "\n") rest)
      ∙ lines_cut q.header rest c.one in
      output_under q (output p input) (lines rest) first
      ∙ ap₂ ◌++◌ (sym c.opening) (chain_from 2 later)
      ∙ sym (output_under r input later (e ∙ ap (λ (h : Text). h ∷ later) (sym c.header)))

  -- q complains of p's complaint
  chain_bad : (input : Text) → output p input ≡ bad_header → output r input ≡ bad_header → output q (output p input) ≡ output r input
  chain_bad input e f =
      ap (output q) e ∙ (outputs q).bad_header_lem bad_header (ascii "bad header") [] complaint_lines c.other ∙ sym f

  pub chained : (input : Text) → output q (output p input) ≡ output r input
  chained input = go (lines input) refl
    where
      by :
          (first : Text) (later : List Text) (b : Bool) → lines input ≡ first ∷ later → same first p.header ≡ b
          → output q (output p input) ≡ output r input
      by first later true e h = chain_good input later (e ∙ ap (λ (t : Text). t ∷ later) (same_is first p.header h))
      by first later false e h =
          let is_other : first ≢ p.header = same_not first p.header h in
          chain_bad input ((outputs p).bad_header_lem input first later e is_other)
          ((outputs r).bad_header_lem input first later e (λ z. is_other (z ∙ c.header)))

      go : (ls : List Text) → lines input ≡ ls → output q (output p input) ≡ output r input
      go [] e = chain_bad input ((outputs p).no_header input e) ((outputs r).no_header input e)
      go (first ∷ later) e = by first later (same first p.header) e refl

-- ---- what is no record

first_digit : (a b : Text) (c : ℕ) (s : Text) → 1 ≤ length a → AllN Digit a → c ∷ s ≡ a ++ b → Digit c
first_digit [] b c s some h e = absurd (omega (arith, some))
first_digit (x ∷ a) b c s some h e =
    let is : c ≡ x = ap (λ l. get_or l 0 0) e in (omega (arith, h.0.0, is), omega (arith, h.0.1, is))

-- a line of a dump that begins with no digit is bad
odd_first : (c : ℕ) (s : Text) → ¬ Digit c → line_of (c ∷ s) ≡ bad_line
odd_first c s none =
    (records.bad (c ∷ s)).1
    (λ number n allowance frame fits is.
    none (first_digit (decimal number) (ascii "\t" ++ decimal n ++ ascii "\t" ++ decimal allowance ++ ascii "\t" ++ hex_text frame) c s
    (decimal-some number) (decimal_digits number)
    (is ∙ front (decimal number) (ascii "\t") (decimal n) (ascii "\t") (decimal allowance) (ascii "\t") (hex_text frame))))
  where
    front : (a b c d e f g : Text) → a ++ b ++ c ++ d ++ e ++ f ++ g ≡ a ++ (b ++ c ++ d ++ e ++ f ++ g)
    front a b c d e f g = simp append_assoc

-- ---- what is one

all_bytes : (s : List ℕ) → ((p : ℕ) → get_or s p 0 < 256) → AreBytes s
all_bytes [] h = tt
all_bytes (x ∷ s) h = (h 0, all_bytes s (λ p. h (suc p)))

-- the frame that was written
abbrev frame_from : ℕ → List ℕ → List ℕ
frame_from n message = encode_output small_code n message (blank_frame n)

module _ (number n : ℕ) (message : List ℕ) (small : number < 10 ^ 9) (zero : encode_number small_code n message (blank_frame n) ≡ 0) where
  written_long : length (frame_from n message) ≡ frame_bytes n
  written_long = (trip n message (blank_frame n) zero).received.0

  written_bytes : AreBytes (frame_from n message)
  written_bytes =
      rw (trip n message (blank_frame n) zero).written
      (all_bytes (bytes_of n (frame_for small_code n message)) (bytes_of_byte n (frame_for small_code n message)))

  written_fits : RecordFits number n given_allowance (frame_from n message)
  written_fits =
      let most = accepted_most n message (blank_frame n) zero in
      record {
        number_short = small;
        n_short = omega (arith, most);
        allowance_short = omega arith;
        bytes = written_bytes;
        line_short = longest_line_lem.all_fit number n given_allowance (frame_from n message) small (omega (arith, most)) (omega arith)
            (omega (arith, written_long, frame_bytes_most n most));
      }

  -- what is reported of it
  written_clean :
      (k : ℕ)
      → line_text k (line_of (record_line number n given_allowance (frame_from n message))) ≡ decimal number ++ ascii "\tclean\t0\t0\t0\t0\n"
  unfolding digits
  written_clean k =
      let t = trip n message (blank_frame n) zero in
      let frame : List ℕ = frame_from n message in
      ap (line_text k) (records.read_back number n given_allowance frame written_fits)
      ∙ ap (record_text number) (t.decodes frame frame given_allowance t.received written_long (omega arith) (omega arith)).0

-- ---- line by line

abbrev Found : ℕ → DataLine → Type 0
Found k l = (t : Text) × NoLF t × (data_text k l ≡ t ++ ascii "\n") × (line_text k (line_of t) ≡ found_text k l)

-- a record's line as Records has it
as_record :
    (number n : ℕ) (frame : List ℕ)
    → decimal number ++ tabbed (decimal n ∷ decimal given_allowance ∷ hex_text frame ∷ []) ≡ record_line number n given_allowance frame
as_record number n frame = simp (append_assoc, append-nil)

found_bad : (k : ℕ) → Found k bad_data
found_bad k = (
  ascii "?" ++ tabbed (decimal k ∷ []),
  line_no_lf (ascii "?") (decimal k ∷ []) mark_no_lf.1 (decimal_no_lf k, tt),
  out_line_lem (ascii "?") (decimal k ∷ []),
  ap (line_text k) (odd_first 63 (tabbed (decimal k ∷ [])) (λ h. omega (arith, h.1))),
)

found_clean_lem :
    (k number n : ℕ) (message : List ℕ) → number < 10 ^ 9 → encode_number small_code n message (blank_frame n) ≡ 0
    → Found k (some_data number n message)
found_clean_lem k number n message small zero =
    let fs : List Text = decimal n ∷ decimal given_allowance ∷ hex_text (frame_from n message) ∷ [] in
    let r : ℕ = encode_number small_code n message (blank_frame n) in (
      decimal number ++ tabbed fs,
      line_no_lf (decimal number) fs (decimal_no_lf number) (frame_fields_no_lf n (frame_from n message)),
      line_accepted k number n message zero ∙ out_line_lem (decimal number) fs,
      ap (λ (t : Text). line_text k (line_of t)) (as_record number n (frame_from n message))
          ∙ written_clean number n message small zero k
          ∙ sym (at_zero r (decimal number ++ ascii "\tclean\t0\t0\t0\t0\n") (ascii "?\t" ++ decimal k ++ ascii "\n") zero),
    )

found_refused :
    (k number n : ℕ) (message : List ℕ) → encode_number small_code n message (blank_frame n) ≢ 0 → Found k (some_data number n message)
found_refused k number n message some =
    let r : ℕ = encode_number small_code n message (blank_frame n) in
    let fs : List Text = decimal number ∷ decimal r ∷ [] in (
      ascii "!" ++ tabbed fs,
      line_no_lf (ascii "!") fs mark_no_lf.0 (decimal_no_lf number, (decimal_no_lf r, tt)),
      line_refused k number n r message some refl ∙ out_line_lem (ascii "!") fs,
      ap (line_text k) (odd_first 33 (tabbed fs) (λ h. omega (arith, h.0)))
          ∙ sym (at_other r (decimal number ++ ascii "\tclean\t0\t0\t0\t0\n") (ascii "?\t" ++ decimal k ++ ascii "\n") some),
    )

found_each : (k : ℕ) (l : DataLine) → NumberShort l → Found k l
found_each k bad_data h = found_bad k
found_each k (some_data number n message) h = go (ℕ_discrete (encode_number small_code n message (blank_frame n)) 0)
  where
    go : Dec (encode_number small_code n message (blank_frame n) ≡ 0) → Found k (some_data number n message)
    go (yes z) = found_clean_lem k number n message h z
    go (no z) = found_refused k number n message z

chain : Chain writer repair found
unfolding every
chain = record {
  header = refl;
  opening = refl;
  hands = refl;
  one = quoted_no_lf (ascii "frames\t1") refl;
  other = λ e. omega (arith, ap (λ l. get_or l 0 0) e);
  each = λ k s. found_each k (data_of s) (short_number s);
}

-- ---- both programs

both : (input : Text) → report (output writer input) ≡ output found input
both = chained writer repair found chain

clean_from :
    (k : ℕ) (sent : List Sent) → All Accepted sent
    → output_from found k (map sent_line sent) ≡ joined_texts (map found_clean sent)
unfolding output_from
clean_from k [] h = refl
clean_from k (s ∷ sent) h =
    let r : ℕ = encode_number small_code s.n s.message (blank_frame s.n) in
    ap₂ ◌++◌ (ap (found_text k) (data_records.read_back s.number s.n s.message h.0.0) ∙ at_zero r (found_clean s) (ascii "?\t" ++ decimal k ++ ascii "\n") h.0.1)
    (clean_from (suc k) sent h.1)

pub meets : Meet
meets = record {
  example = meet_shown;
  meet = both;
  numbered = λ input later e. both input ∙ (outputs found).numbered input later e;
  bad_header_lem = λ input first later e h. both input ∙ (outputs found).bad_header_lem input first later e h;
  no_header = λ input e. both input ∙ (outputs found).no_header input e;
  all_clean = λ input sent e h.
      both input
      ∙ output_under found input (map sent_line sent) e
      ∙ ap (λ (t : Text). ascii "repair\t1\n" ++ t) (clean_from 2 sent h);
}
