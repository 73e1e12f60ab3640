-- RULES 8: a line of a dump is good exactly if it is the writing of a record, and says which.
-- Assumes nothing.
use mathlib.Core.Path.{◌≡◌, refl, sym, ap, ◌∙◌, subst}
use mathlib.Core.Logic.{◌≢◌, ◌↔◌}
use mathlib.Core.Bool.{Bool, true, false, true≢false}
use mathlib.Core.List.{List, [], ◌∷◌, ◌++◌, map, append_assoc}
use Prim.Native.String.{String}
use Prim.Native.Nat.{ℕ, ◌^◌, ◌≤◌, ◌<◌}
use native.Mathlib.Omega.{arith}
use lib.ListN.{length, get_or}
use Rattle.algebra.specs.Sums.{AllN}
use Rattle.algebra.specs.Tables.{tab, tab_from}
use Rattle.textrules.specs.Text.{Text, ascii, is_decimal, decimal_value, decimal, is_hex, hex_bytes, hex_text}
use Rattle.textrules.specs.Dump.{longest_line, Line, bad_line, a_record, line_of}
use Rattle.textrules.proofs.Laws.Computing.{computing}
use Rattle.textrules.proofs.Laws.TextLaws.{decimal_small, decimal_digits, decimal_first, decimal-some, decimal_short, decimal_value_lem}
use Rattle.textrules.proofs.Laws.DigitFormLaws.{nine_digits, good_decimal, hex_back, good_hex}
use Rattle.textrules.proofs.Laws.RecordFormLaws.{spelled, passes, line_read, says_written, says_only, says_not}

-- ---- The statement

-- how a record is spelled: its number, n and allowance in decimal, the frame in hex, a tab between two of them
abbrev pub record_line : ℕ → ℕ → ℕ → List ℕ → Text
record_line number n allowance frame =
    decimal number ++ ascii "\t" ++ decimal n ++ ascii "\t" ++ decimal allowance ++ ascii "\t" ++ hex_text frame

-- each entry is a byte
abbrev pub AreBytes : List ℕ → Type 0
AreBytes frame = AllN (λ x. x < 256) frame

-- what a line has room for
pub record RecordFits (number n allowance : ℕ) (frame : List ℕ) : Type 0 where
  pub number_short : number < 10 ^ 9
  pub n_short : n < 10 ^ 9
  pub allowance_short : allowance < 10 ^ 9
  pub bytes : AreBytes frame
  pub line_short : length (record_line number n allowance frame) ≤ longest_line

-- a line that says a record is its writing
abbrev pub WrittenAs : Text → Line → Type 0
WrittenAs s bad_line = Unit {0}
WrittenAs s (a_record number n allowance frame) = (s ≡ record_line number n allowance frame) × RecordFits number n allowance frame

-- lines and what they say, the empty one and one with CR among them
abbrev pub line_table : List (String × Line)
line_table =
    ("0\t18\t2\t", a_record 0 18 2 [])
    ∷ ("999999999\t256\t32\t0AFF", a_record 999999999 256 32 (0x0A ∷ 0xFF ∷ []))
    ∷ ("", bad_line)
    ∷ ("0\t18\t2\t00\r", bad_line)
    -- 10 digits, none, and a leading zero
    ∷ ("1000000000\t18\t2\t00", bad_line)
    ∷ ("\t18\t2\t00", bad_line)
    ∷ ("0\t018\t2\t00", bad_line)
    ∷ ("0\t18\t00\t00", bad_line)
    -- lower case, an odd number of digits, another sign
    ∷ ("0\t18\t2\t0a", bad_line)
    ∷ ("0\t18\t2\t000", bad_line)
    ∷ ("0\t18\t+2\t00", bad_line)
    -- three fields, five, and blanks in place of tabs
    ∷ ("0\t18\t2", bad_line)
    ∷ ("0\t18\t2\t00\t", bad_line)
    ∷ ("0 18 2 00", bad_line)
    ∷ []

-- each line of the table says what stands beside it
abbrev pub LinesShown : Type 0
LinesShown = map (λ item. line_of (ascii item.0)) line_table ≡ map (λ item. item.1) line_table

-- what is promised of a dump's lines
pub record Records : Type 0 where
  pub examples : LinesShown
  pub read_back :
      (number n allowance : ℕ) (frame : List ℕ) → RecordFits number n allowance frame
      → line_of (record_line number n allowance frame) ≡ a_record number n allowance frame
  pub only_so : (s : Text) → WrittenAs s (line_of s)
  -- a line is bad exactly if it is the writing of no record
  pub bad :
      (s : Text)
      → (line_of s ≡ bad_line)
      ↔ ((number n allowance : ℕ) (frame : List ℕ) → RecordFits number n allowance frame → s ≢ record_line number n allowance frame)
  -- no line stands for two records
  pub one :
      (number n allowance : ℕ) (frame : List ℕ) (number' n' allowance' : ℕ) (frame' : List ℕ)
      → RecordFits number n allowance frame → RecordFits number' n' allowance' frame'
      → record_line number n allowance frame ≡ record_line number' n' allowance' frame'
      → (number ≡ number') × (n ≡ n') × (allowance ≡ allowance') × (frame ≡ frame')

-- what a decimal is
pub record Decimals : Type 0 where
  pub read_back : (x : ℕ) → decimal_value (decimal x) ≡ x
  -- `0` to `9`
  pub digits : (x : ℕ) → AllN (λ c. (48 ≤ c) × (c ≤ 57)) (decimal x)
  -- a 0 stands first in no number but 0
  pub zero_itself : decimal 0 ≡ ascii "0"
  pub no_leading : (x : ℕ) → x ≢ 0 → get_or (decimal x) 0 0 ≢ 48
  -- nine digits are enough below a thousand million, and for nothing else
  pub nine : (x : ℕ) → ((1 ≤ length (decimal x)) × (length (decimal x) ≤ 9)) ↔ (x < 10 ^ 9)
  pub one : (x y : ℕ) → decimal x ≡ decimal y → x ≡ y
  -- nothing else is read as a number
  pub only_so : (s : Text) → is_decimal s ≡ true → s ≡ decimal (decimal_value s)

-- what a frame in hex is
pub record Hex : Type 0 where
  pub read_back : (frame : List ℕ) → AreBytes frame → hex_bytes (hex_text frame) ≡ frame
  pub only_so : (s : Text) → is_hex s ≡ true → s ≡ hex_text (hex_bytes s)

-- ---- the examples: antt computes them

line_examples : LinesShown
unfolding computing
line_examples = refl

-- ---- a line

-- the brackets moved to the right
pub record_written :
    (number n allowance : ℕ) (frame : List ℕ)
    → record_line number n allowance frame ≡ spelled (number ∷ n ∷ allowance ∷ []) frame
record_written number n allowance frame = simp append_assoc

-- three numbers and bytes as a record
abbrev said : List ℕ → List ℕ → Line
said xs frame = a_record (get_or xs 0 0) (get_or xs 1 0) (get_or xs 2 0) frame

-- what a line says, as any line of numbers and bytes does
line_says_lem : (s : Text) → line_of s ≡ line_read longest_line said bad_line 3 s
unfolding line_of passes tab tab_from
line_says_lem s = refl

-- its writing is read back, and nothing else is read
line_back :
    (number n allowance : ℕ) (frame : List ℕ) → RecordFits number n allowance frame
    → line_of (record_line number n allowance frame) ≡ a_record number n allowance frame
line_back number n allowance frame h =
    let is = record_written number n allowance frame in
    ap line_of is
    ∙ line_says_lem (spelled (number ∷ n ∷ allowance ∷ []) frame)
    ∙ says_written longest_line said bad_line (number ∷ n ∷ allowance ∷ []) frame
    ((h.number_short, (h.n_short, (h.allowance_short, tt))), h.bytes) (rw (← is) h.line_short)

line_only : (s : Text) → WrittenAs s (line_of s)
unfolding tab tab_from
line_only s =
    subst (WrittenAs s) (sym (line_says_lem s)) (says_only longest_line said bad_line 3 s (WrittenAs s) tt
    (λ is h short.
    let here = is ∙ sym (record_written _ _ _ _) in (
      here,
      record {
        number_short = h.0.0;
        n_short = h.0.1.0;
        allowance_short = h.0.1.1.0;
        bytes = h.1;
        line_short = rw (← here) short;
      },
    )))

-- too long to be read
pub line_long : (s : Text) → longest_line < length s → line_of s ≡ bad_line
line_long s h = line_says_lem s ∙ says_not longest_line said bad_line 3 s h

-- whether a line is good, and what it says
abbrev parts : Line → Bool × ℕ × ℕ × ℕ × List ℕ
parts bad_line = (false, 0, 0, 0, [])
parts (a_record number n allowance frame) = (true, number, n, allowance, frame)

pub records : Records
records = record {
  examples = line_examples;
  read_back = line_back;
  only_so = line_only;
  bad = λ s. (
    λ e number n allowance frame h is.
        true≢false (ap (λ l. (parts l).0) (sym (line_back number n allowance frame h) ∙ ap line_of (sym is) ∙ e)),
    λ none.
        elim (line_of s) as (λ l. WrittenAs s l → l ≡ bad_line) [
          | bad_line ↦ λ h. refl
          | a_record number n allowance frame ↦ λ h. absurd (none number n allowance frame h.1 h.0)
        ] (line_only s),
  );
  one = λ number n allowance frame number' n' allowance' frame' h h' e.
      let p = ap parts (sym (line_back number n allowance frame h) ∙ ap line_of e ∙ line_back number' n' allowance' frame' h') in
      (ap (λ q. q.1) p, ap (λ q. q.2) p, ap (λ q. q.3) p, ap (λ q. q.4) p);
}

pub decimals : Decimals
decimals = record {
  read_back = decimal_value_lem;
  digits = decimal_digits;
  zero_itself = decimal_small 0 (omega arith);
  no_leading = decimal_first;
  nine = λ x. (λ h. nine_digits x h.1, λ h. (decimal-some x, decimal_short x 9 h (omega arith)));
  one = λ x y e. sym (decimal_value_lem x) ∙ ap decimal_value e ∙ decimal_value_lem y;
  only_so = λ s h. (good_decimal s h).0;
}

pub hex : Hex
hex = record { read_back = hex_back; only_so = λ s h. (good_hex s h).0 }
