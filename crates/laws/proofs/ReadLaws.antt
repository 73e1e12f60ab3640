-- Reading data and taking a row: what is said and what stands in the output where each check applies, and where none does.
-- Assumes nothing.
use mathlib.Core.Path.{◌≡◌, sym, ap, ◌∙◌}
use mathlib.Core.Logic.{◌≢◌}
use mathlib.Core.Bool.{true, false, not}
use mathlib.Core.List.{List, []}
use Prim.Native.Nat.{ℕ, ◌+◌, ◌*◌, ◌-◌, ◌≤◌, ◌<◌}
use native.Mathlib.Decide.{dec_lt}
use native.Mathlib.Omega.{arith}
use lib.Dec.{eqb, leb, ltb}
use lib.ListN.{length, take, drop}
use borrow.Author.Tests.{eq-eqb, ne_eqb, lt-ltb, le-ltb, le-leb, lt-leb}
use Rattle.rules.specs.Codes.{Code, data_bits, length_limit}
use Rattle.rules.specs.Frames.{corner, bad_rows, is_frame}
use Rattle.rules.specs.Bits.{row_bytes, square_bytes, frame_of, bytes_of}
use Rattle.rules.specs.Numbers.{outside, frame_bytes, read_number, read_output, row_refused, row_part}
use Rattle.rules.proofs.Laws.CodeLaws.{Sound}
use Rattle.rules.proofs.Laws.NumberLaws.{at_zero, read_refused}
use Rattle.rules.proofs.Promises.Refusals.{row_test}
use Rattle.laws.specs.Turns.{turned, cornered}
use Rattle.laws.proofs.CornerLaws.{cornered_corner}
use Rattle.laws.proofs.TurnLaws.{frame_counted}

-- ---- reading data

module _ (code : Code) (n : ℕ) (input output : List ℕ) where
  abbrev pub ReadAs : ℕ → List ℕ → Type 0
  ReadAs r t = (r ≡ read_number code n input output) × (t ≡ read_output code n input output)

  pub read_refuses : (k : ℕ) → k ≢ 0 → k ≡ read_number code n input output → ReadAs k output
  read_refuses k some e = (e, sym (read_refused code n input output (λ z. some (e ∙ z))))

  pub read_takes :
      (t : List ℕ) → 0 ≡ read_number code n input output
      → t ≡ bytes_of (data_bits code n) (cornered (data_bits code n) (data_bits code n) (frame_of n input)) → ReadAs 0 t
  unfolding read_output
  read_takes t z e = (
    z,
    e
        ∙ ap (bytes_of (data_bits code n)) (cornered_corner (data_bits code n) (frame_of n input))
        ∙ sym (at_zero (read_number code n input output) (bytes_of (data_bits code n) (corner (data_bits code n) (frame_of n input))) output (sym z)),
  )

-- a and b count the rows and the columns that are not codewords
pub frame_tested :
    (code : Code) (n : ℕ) (input : List ℕ) (a b : ℕ) → a ≡ bad_rows code n (turned n false (frame_of n input))
    → b ≡ bad_rows code n (turned n true (frame_of n input)) → is_frame code n (frame_of n input) ≡ eqb (a + b) 0
frame_tested code n input a b ha hb = frame_counted code n (frame_of n input) a b ha hb

-- ---- a row

module _ (code : Code) (n : ℕ) (input : List ℕ) (i : ℕ) where
  pub row_1 : outside code n ≡ true → true ≡ row_refused code n input i
  row_1 h = rw h

  pub row_2 : outside code n ≡ false → length input ≢ frame_bytes n → true ≡ row_refused code n input i
  row_2 h a = rw (h, ne_eqb (length input) (frame_bytes n) a)

  pub row_3 : outside code n ≡ false → length input ≡ frame_bytes n → leb n i ≡ row_refused code n input i
  row_3 h a = rw (h, eq-eqb (length input) (frame_bytes n) a) (go (dec_lt i n))
    where
      go : Dec (i < n) → leb n i ≡ not (ltb i n)
      go (yes l) = rw (lt-leb n i l, lt-ltb i n l)
      go (no l) = let g : n ≤ i = omega (arith, l) in rw (le-leb n i g, le-ltb i n g)

  -- where a row is not refused
  pub row_known : Sound code → row_refused code n input i ≡ false → (n ≤ length_limit) × (length input ≡ square_bytes n) × (i < n)
  row_known ok h = let g = (row_test code n input i).0 h in (omega (arith, g.1, ok.not_long_lem), g.2, g.3)

  pub row-none : row_refused code n input i ≡ true → [] ≡ row_part code n input i
  unfolding row_part
  row-none h = rw h

  pub row_part_lem :
      (w : ℕ) → w ≡ row_bytes n → row_refused code n input i ≡ false → take (i * w + w - i * w) (drop (i * w) input) ≡ row_part code n input i
  unfolding row_part
  row_part_lem w e h = let q : i * w + w - i * w ≡ w = omega arith in rw (q, h, e)
