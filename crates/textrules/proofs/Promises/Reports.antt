-- RULES 9: the report, with an example, and what each line of a dump gives.
-- Assumes nothing.
use mathlib.Core.Path.{◌≡◌, refl}
use mathlib.Core.Logic.{◌≢◌, ◌⊎◌, inl, inr}
use mathlib.Core.Bool.{Bool, true, false}
use mathlib.Core.List.{List, [], ◌∷◌, ◌++◌, map, append_assoc}
use Prim.Native.Nat.{ℕ, ◌+◌}
use lib.Dec.{eqb}
use lib.ListN.{length, get_or}
use Rattle.algebra.specs.Sums.{All}
use Rattle.algebra.specs.Tables.{tab}
use Rattle.rules.specs.Codes.{small_code}
use Rattle.rules.specs.Frames.{is_erased}
use Rattle.rules.specs.Bits.{frame_of}
use Rattle.rules.specs.Passes.{clean, repaired, stuck, spent, decoded}
use Rattle.rules.specs.Numbers.{pick, outside, not_long, not_allowed, frame_bytes, Decoded, refused, erased, undecoded, ended, told, decode_refusal, decode_said}
use Rattle.textrules.specs.Text.{Text, ascii, lines, every, digits, decimal}
use Rattle.textrules.specs.Dump.{Line, bad_line, a_record, line_of, ending_text, reported_counts, record_text, line_text, repair, report, report_cut}
use Rattle.textrules.proofs.Laws.Computing.{computing}
use Rattle.textrules.proofs.Promises.Lines.{NoLF, joined_lines}
use Rattle.textrules.proofs.Promises.RecordSays.{record_says}
use Rattle.textrules.proofs.Promises.Outputs.{joined_texts, outputs, one_lf, decimal_no_lf, decimals_no_lf, quoted_no_lf}

-- ---- The statement

-- the frames of the bench items A to D, a refused one, and an empty line
abbrev pub Example : Type 0
Example =
    report (
    ascii "frames\t1\n"
    ++ ascii "0\t18\t2\t000000000000000000000000000000000000000000000000000000000000000000000000000000000000000000000000000000000000\n"
    ++ ascii "1\t18\t2\tC00000000000000000000000000000000000000000000000000000000000000000000000000000000000000000000000000000000000\n"
    ++ ascii "2\t18\t2\tFFFFC0FFFFC0000000000000000000000000000000000000000000000000000000000000000000000000000000000000000000000000\n"
    ++ ascii "3\t18\t2\tE00000E00000E00000000000000000000000000000000000000000000000000000000000000000000000000000000000000000000000\n"
    ++ ascii "4\t17\t2\t000000000000000000000000000000000000000000000000000000000000000000000000000000000000000000000000000000000000\n"
    ++ ascii "\n"
    )
    ≡ ascii "repair\t1\n"
    ++ ascii "0\tclean\t0\t0\t0\t0\n"
    ++ ascii "1\trepaired\t1\t2\t0\t0\n"
    ++ ascii "2\trepaired\t2\t36\t0\t0\n"
    ++ ascii "3\tstuck\t2\t0\t3\t3\n"
    ++ ascii "4\trefused\t1\t0\t0\t0\n"
    ++ ascii "?\t7\n"

-- item C at allowance 1: four counts that all differ
abbrev pub SpentExample : Type 0
SpentExample =
    report (
    ascii "frames\t1\n"
    ++ ascii "2\t18\t1\tFFFFC0FFFFC0000000000000000000000000000000000000000000000000000000000000000000000000000000000000000000000000\n"
    )
    ≡ ascii "repair\t1\n" ++ ascii "2\tspent\t1\t0\t2\t18\n"

-- ones alone, with the spare bits zero
abbrev pub ErasedExample : Type 0
ErasedExample =
    report (
    ascii "frames\t1\n"
    ++ ascii "5\t18\t2\tFFFFC0FFFFC0FFFFC0FFFFC0FFFFC0FFFFC0FFFFC0FFFFC0FFFFC0FFFFC0FFFFC0FFFFC0FFFFC0FFFFC0FFFFC0FFFFC0FFFFC0FFFFC0\n"
    )
    ≡ ascii "repair\t1\n" ++ ascii "5\terased\t0\t0\t0\t0\n"

-- a record that breaks off, after an empty line
abbrev pub CutExample : Type 0
CutExample = report_cut (ascii "frames\t1\n" ++ ascii "\n" ++ ascii "0\t18\t2\t00") ≡ ascii "repair\t1\n" ++ ascii "?\t2\n"

-- number 3 does not come: the buffer lent is as long as the frame
abbrev pub RefusedBy : Decoded → Type 0
RefusedBy (refused r) = (r ≡ 1) ⊎ ((r ≡ 2) ⊎ (r ≡ 4))
RefusedBy erased = Unit {0}
RefusedBy (ended e p b r c) = Unit {0}

-- what is promised of the report
pub record Reports : Type 0 where
  pub example : Example
  pub spent_example : SpentExample
  pub erased_example : ErasedExample
  -- under its own first line the report has what each line gives; the line at index i after the header is line i + 2
  pub numbered :
      (input : Text) (later : List Text) → lines input ≡ ascii "frames\t1" ∷ later
      → report input ≡ ascii "repair\t1\n" ++ joined_texts (tab (length later) (λ i. line_text (i + 2) (line_of (get_or later i []))))
  -- with another first line, or none, it is one line
  pub bad_header_lem :
      (input first : Text) (later : List Text) → lines input ≡ first ∷ later → first ≢ ascii "frames\t1"
      → report input ≡ ascii "bad header\n"
  pub no_header : (input : Text) → lines input ≡ [] → report input ≡ ascii "bad header\n"
  -- a bad line gives its number
  pub bad_line_lem : (k : ℕ) → line_text k bad_line ≡ ascii "?\t" ++ decimal k ++ ascii "\n"
  -- a record gives what decoding says of its frame
  pub good_line :
      (k number n allowance : ℕ) (frame : List ℕ)
      → line_text k (a_record number n allowance frame) ≡ record_says number (decode_said small_code n allowance frame frame)
  pub refusals : (n allowance : ℕ) (frame : List ℕ) → RefusedBy (decode_said small_code n allowance frame frame)
  -- of an input that broke off, the lines that an LF closed are reported as a dump of these alone would be; with none, nothing is
  pub cut_example : CutExample
  pub cut :
      (l : Text) (ls : List Text) (rest : Text) → All NoLF (l ∷ ls) → NoLF rest
      → report_cut (joined_lines (l ∷ ls) ++ rest) ≡ report (joined_lines (l ∷ ls))
  pub cut_first : (rest : Text) → NoLF rest → report_cut rest ≡ []
  -- each line gives one line, closed by LF
  pub one_line : (k : ℕ) (l : Line) → (t : Text) × NoLF t × (line_text k l ≡ t ++ ascii "\n")

-- ---- The examples: antt computes them

shown : Example
unfolding computing
shown = refl

spent_shown : SpentExample
unfolding computing
spent_shown = refl

erased_shown : ErasedExample
unfolding computing
erased_shown = refl

-- ---- one line

says : (number : ℕ) (d : Decoded) → record_text number d ≡ record_says number d
unfolding digits
says number (refused r) = simp append_assoc
says number erased = refl
says number (ended clean p b r c) = simp append_assoc
says number (ended repaired p b r c) = simp append_assoc
says number (ended stuck p b r c) = simp append_assoc
says number (ended spent p b r c) = simp append_assoc

refused_by : (n allowance : ℕ) (frame : List ℕ) → RefusedBy (decode_said small_code n allowance frame frame)
unfolding decode_said decode_refusal
refused_by n allowance frame = go (outside small_code n) (not_long frame (frame_bytes n)) (not_allowed allowance) (is_erased n (frame_of n frame))
  where
    r : Bool → Bool → Bool → Bool → ℕ
    r a b c d = pick a 1 (pick b 2 (pick b 3 (pick c 4 (pick d 10 0))))

    go : (a b c d : Bool) → RefusedBy (pick (eqb (r a b c d) 0) (told (decoded small_code n allowance (frame_of n frame))) (undecoded (r a b c d)))
    go true b c d = inl refl
    go false true c d = inr (inl refl)
    go false false true d = inr (inr refl)
    go false false false true = tt
    go false false false false = tt

-- ---- one LF, at the end

ending_no_lf : (d : Decoded) → NoLF (ending_text d)
unfolding every
ending_no_lf (refused r) = quoted_no_lf (ascii "refused") refl
ending_no_lf erased = quoted_no_lf (ascii "erased") refl
ending_no_lf (ended clean p b r c) = quoted_no_lf (ascii "clean") refl
ending_no_lf (ended repaired p b r c) = quoted_no_lf (ascii "repaired") refl
ending_no_lf (ended stuck p b r c) = quoted_no_lf (ascii "stuck") refl
ending_no_lf (ended spent p b r c) = quoted_no_lf (ascii "spent") refl

line_one_lf : (k : ℕ) (l : Line) → (t : Text) × NoLF t × (line_text k l ≡ t ++ ascii "\n")
unfolding every
line_one_lf k bad_line = one_lf (ascii "?") (decimal k ∷ []) (quoted_no_lf (ascii "?") refl) (decimal_no_lf k, tt)
line_one_lf k (a_record number n allowance frame) =
    let d : Decoded = decode_said small_code n allowance frame frame in
    one_lf (decimal number) (ending_text d ∷ map decimal (reported_counts d)) (decimal_no_lf number)
    (ending_no_lf d, decimals_no_lf (reported_counts d))

cut_shown : CutExample
unfolding computing
cut_shown = refl

pub reports : Reports
reports = record {
  example = shown;
  spent_example = spent_shown;
  erased_example = erased_shown;
  numbered = (outputs repair).numbered;
  bad_header_lem = (outputs repair).bad_header_lem;
  no_header = (outputs repair).no_header;
  bad_line_lem = λ k. refl;
  good_line = λ k number n allowance frame. says number (decode_said small_code n allowance frame frame);
  refusals = refused_by;
  cut_example = cut_shown;
  cut = (outputs repair).cut;
  cut_first = (outputs repair).cut_first;
  one_line = line_one_lf;
}
