-- RULES 10: a line of the factory's data is good exactly if it is the writing of a record, and says which; the longest line.
-- Assumes nothing.
use mathlib.Core.Path.{◌≡◌, refl, sym, ap, ◌∙◌, subst}
use mathlib.Core.Logic.{◌≢◌, ◌↔◌}
use mathlib.Core.Bool.{Bool, true, false, true≢false}
use mathlib.Core.List.{List, [], ◌∷◌, ◌++◌, map, append_assoc}
use Prim.Native.String.{String}
use Prim.Native.Nat.{ℕ, suc, ◌+◌, ◌*◌, ◌^◌, ◌≤◌, ◌<◌}
use native.Mathlib.Omega.{arith}
use lib.ListN.{length, get_or}
use Rattle.algebra.specs.Tables.{tab, tab_from}
use Rattle.rules.specs.Codes.{small_code}
use Rattle.rules.specs.Numbers.{data_bytes}
use Rattle.textrules.specs.Text.{Text, ascii, decimal, hex_text}
use Rattle.textrules.specs.Factory.{longest_data, DataLine, bad_data, some_data, data_of}
use Rattle.textrules.proofs.Laws.Computing.{computing}
use Rattle.textrules.proofs.Laws.RecordFormLaws.{spelled, written_most, written_nines, passes, line_read, says_written, says_only, says_not}
use Rattle.textrules.proofs.Promises.Records.{AreBytes}

-- ---- The statement

-- how a record is spelled: its number and n in decimal, the data in hex, a tab between two of them
abbrev pub data_line : ℕ → ℕ → List ℕ → Text
data_line number n message = decimal number ++ ascii "\t" ++ decimal n ++ ascii "\t" ++ hex_text message

-- what a line has room for
pub record DataFits (number n : ℕ) (message : List ℕ) : Type 0 where
  pub number_short : number < 10 ^ 9
  pub n_short : n < 10 ^ 9
  pub bytes : AreBytes message
  pub line_short : length (data_line number n message) ≤ longest_data

-- a line that says a record is its writing
abbrev pub DataWrittenAs : Text → DataLine → Type 0
DataWrittenAs s bad_data = Unit {0}
DataWrittenAs s (some_data number n message) = (s ≡ data_line number n message) × DataFits number n message

-- lines and what they say, the empty one and one with CR among them
abbrev pub data_table : List (String × DataLine)
data_table =
    ("0\t18\t00", some_data 0 18 (0 ∷ []))
    ∷ ("7\t18\t", some_data 7 18 [])
    ∷ ("999999999\t256\t0AFF", some_data 999999999 256 (0x0A ∷ 0xFF ∷ []))
    ∷ ("", bad_data)
    ∷ ("0\t18\t00\r", bad_data)
    -- 10 digits, none, and a leading zero
    ∷ ("1000000000\t18\t00", bad_data)
    ∷ ("\t18\t00", bad_data)
    ∷ ("0\t018\t00", bad_data)
    ∷ ("00\t18\t00", bad_data)
    -- lower case, an odd number of digits, another sign
    ∷ ("0\t18\t0a", bad_data)
    ∷ ("0\t18\t000", bad_data)
    ∷ ("0\t+18\t00", bad_data)
    -- two fields, four, and blanks in place of tabs
    ∷ ("0\t18", bad_data)
    ∷ ("0\t18\t2\t00", bad_data)
    ∷ ("0\t18\t00\t", bad_data)
    ∷ ("0 18 00", bad_data)
    ∷ []

-- each line of the table says what stands beside it
abbrev pub DataShown : Type 0
DataShown = map (λ item. data_of (ascii item.0)) data_table ≡ map (λ item. item.1) data_table

-- what is promised of the lines of the factory's data
pub record DataRecords : Type 0 where
  pub examples : DataShown
  pub read_back :
      (number n : ℕ) (message : List ℕ) → DataFits number n message
      → data_of (data_line number n message) ≡ some_data number n message
  pub only_so : (s : Text) → DataWrittenAs s (data_of s)
  -- a line is bad exactly if it is the writing of no record
  pub bad :
      (s : Text)
      → (data_of s ≡ bad_data)
      ↔ ((number n : ℕ) (message : List ℕ) → DataFits number n message → s ≢ data_line number n message)
  -- no line stands for two records
  pub one :
      (number n : ℕ) (message : List ℕ) (number' n' : ℕ) (message' : List ℕ)
      → DataFits number n message → DataFits number' n' message'
      → data_line number n message ≡ data_line number' n' message'
      → (number ≡ number') × (n ≡ n') × (message ≡ message')

-- the greatest record just fits: two numbers of nine digits, and data for n = 256
pub record LongestData : Type 0 where
  pub all_fit :
      (number n : ℕ) (message : List ℕ) → number < 10 ^ 9 → n < 10 ^ 9 → length message ≤ data_bytes small_code 256
      → length (data_line number n message) ≤ longest_data
  pub greatest :
      (message : List ℕ) → length message ≡ data_bytes small_code 256
      → length (data_line 999999999 999999999 message) ≡ longest_data
  -- one byte more is too much
  pub too_long :
      (message : List ℕ) → length message ≡ suc (data_bytes small_code 256)
      → data_of (data_line 999999999 999999999 message) ≡ bad_data
  -- the number itself
  pub characters : longest_data ≡ 14360

-- ---- the examples: antt computes them

data_examples : DataShown
unfolding computing
data_examples = refl

-- ---- a line

-- the brackets moved to the right
data_written : (number n : ℕ) (message : List ℕ) → data_line number n message ≡ spelled (number ∷ n ∷ []) message
data_written number n message = simp append_assoc

-- two numbers and bytes as a record
abbrev said : List ℕ → List ℕ → DataLine
said xs message = some_data (get_or xs 0 0) (get_or xs 1 0) message

-- what a line says, as any line of numbers and bytes does
data_says : (s : Text) → data_of s ≡ line_read longest_data said bad_data 2 s
unfolding data_of passes tab tab_from
data_says s = refl

-- its writing is read back, and nothing else is read
data_back :
    (number n : ℕ) (message : List ℕ) → DataFits number n message → data_of (data_line number n message) ≡ some_data number n message
data_back number n message h =
    let is = data_written number n message in
    ap data_of is
    ∙ data_says (spelled (number ∷ n ∷ []) message)
    ∙ says_written longest_data said bad_data (number ∷ n ∷ []) message ((h.number_short, (h.n_short, tt)), h.bytes)
    (rw (← is) h.line_short)

data_only : (s : Text) → DataWrittenAs s (data_of s)
unfolding tab tab_from
data_only s =
    subst (DataWrittenAs s) (sym (data_says s)) (says_only longest_data said bad_data 2 s (DataWrittenAs s) tt
    (λ is h short.
    let here = is ∙ sym (data_written _ _ _) in
    (here, record { number_short = h.0.0; n_short = h.0.1.0; bytes = h.1; line_short = rw (← here) short })))

-- whether a line is good, and what it says
abbrev parts : DataLine → Bool × ℕ × ℕ × List ℕ
parts bad_data = (false, 0, 0, [])
parts (some_data number n message) = (true, number, n, message)

pub data_records : DataRecords
data_records = record {
  examples = data_examples;
  read_back = data_back;
  only_so = data_only;
  bad = λ s. (
    λ e number n message h is. true≢false (ap (λ l. (parts l).0) (sym (data_back number n message h) ∙ ap data_of (sym is) ∙ e)),
    λ none.
        elim (data_of s) as (λ l. DataWrittenAs s l → l ≡ bad_data) [
          | bad_data ↦ λ h. refl
          | some_data number n message ↦ λ h. absurd (none number n message h.1 h.0)
        ] (data_only s),
  );
  one = λ number n message number' n' message' h h' e.
      let p = ap parts (sym (data_back number n message h) ∙ ap data_of e ∙ data_back number' n' message' h') in
      (ap (λ q. q.1) p, ap (λ q. q.2) p, ap (λ q. q.3) p);
}

-- the number that a line says has nine digits at most
abbrev pub NumberShort : DataLine → Type 0
NumberShort bad_data = Unit {0}
NumberShort (some_data number n message) = number < 10 ^ 9

pub short_number : (s : Text) → NumberShort (data_of s)
short_number s = go (data_of s) (data_only s)
  where
    go : (l : DataLine) → DataWrittenAs s l → NumberShort l
    go bad_data h = tt
    go (some_data number n message) h = h.1.number_short

-- ---- the longest

-- too long to be read
pub data_long : (s : Text) → longest_data < length s → data_of s ≡ bad_data
data_long s h = data_says s ∙ says_not longest_data said bad_data 2 s h

nines-length : (message : List ℕ) → length (data_line 999999999 999999999 message) ≡ 20 + 2 * length message
nines-length message = ap length (data_written 999999999 999999999 message) ∙ written_nines 2 message

pub longest_data_lem : LongestData
longest_data_lem = record {
  all_fit = λ number n message a b f.
      omega (arith, ap length (data_written number n message), written_most (number ∷ n ∷ []) message (a, (b, tt)), f);
  greatest = λ message f. omega (arith, nines-length message, f);
  too_long = λ message f.
      data_long (data_line 999999999 999999999 message) (omega (arith, nines-length message, f));
  characters = refl;
}
