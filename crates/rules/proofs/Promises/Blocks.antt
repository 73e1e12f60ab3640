-- RULES 7: decode's answer in a block: how large its values are, that each has room in 32 bits and is read back, and number 11.
-- Assumes nothing.
use mathlib.Core.Path.{◌≡◌, refl}
use mathlib.Core.Logic.{◌≢◌}
use mathlib.Core.Bool.{Bool, true, false}
use mathlib.Core.List.{List, [], ◌∷◌}
use Prim.Native.Nat.{ℕ, ◌+◌, ◌*◌, ◌/◌, ◌%◌, ◌^◌, ◌≤◌, ◌<◌}
use lib.Dec.{eqb}
use lib.ListN.{length}
use native.Mathlib.Nat.{mul-le-mul}
use native.Mathlib.Omega.{arith}
use borrow.Author.Tests.{eq-eqb, ne_eqb}
use Rattle.rules.specs.Codes.{Code}
use Rattle.rules.specs.Bits.{frame_of}
use Rattle.rules.specs.Passes.{Ending, clean, repaired, stuck, spent, Outcome, decoded}
use Rattle.rules.specs.Numbers.{pick, most_allowed, Figures, figures_with, refused, erased, undecoded, ended, told, figures_of, decode_refusals, decode_refusal, decode_said, decode_output}
use Rattle.rules.specs.Block.{in_bytes, block, read_block, host_decode}
use Rattle.rules.proofs.Laws.Shape.{frame_of-square}
use Rattle.rules.proofs.Laws.CodeLaws.{Sound}
use Rattle.rules.proofs.Laws.OneOfLaws.{all_in, one_of_range}
use Rattle.rules.proofs.Laws.NumberLaws.{numbers, first_in, decode_accepts, at_either}
use Rattle.rules.proofs.Promises.CountBounds.{counts}

-- ---- The statement

-- what the values are of a frame of n rows
pub record Within (n : ℕ) (f : Figures) : Type 0 where
  pub number : f.number ≤ 10
  pub passes : f.passes ≤ most_allowed
  pub bits : f.bits ≤ n * n
  pub rows : f.rows ≤ n
  pub columns : f.columns ≤ n

pub record HasRoom (f : Figures) : Type 0 where
  pub number : f.number < 2 ^ 32
  pub passes : f.passes < 2 ^ 32
  pub bits : f.bits < 2 ^ 32
  pub rows : f.rows < 2 ^ 32
  pub columns : f.columns < 2 ^ 32

-- five values whose bytes all differ
abbrev pub Example : Type 0
Example =
    block (record { number = 0x04030201; passes = 0x08070605; bits = 0x0C0B0A09; rows = 0x100F0E0D; columns = 0x14131211 })
    ≡ 1 ∷ 2 ∷ 3 ∷ 4 ∷ 5 ∷ 6 ∷ 7 ∷ 8 ∷ 9 ∷ 10 ∷ 11 ∷ 12 ∷ 13 ∷ 14 ∷ 15 ∷ 16 ∷ 17 ∷ 18 ∷ 19 ∷ 20 ∷ []

pub record Blocks (code : Code) : Type 0 where
  -- whatever the arguments
  pub within : (n allowance : ℕ) (received output : List ℕ) → Within n (figures_of (decode_said code n allowance received output))
  pub fits : (n allowance : ℕ) (received output : List ℕ) → HasRoom (figures_of (decode_said code n allowance received output))
  pub long : (f : Figures) → length (block f) ≡ 20
  pub read_back : (f : Figures) → HasRoom f → read_block (block f) ≡ f
  pub example : Example
  -- a block of another length: number 11, and nothing is written, whatever else is wrong
  pub other_length :
      (n allowance : ℕ) (received output lent : List ℕ) → length lent ≢ 20
      → host_decode code n allowance received output lent ≡ record { returned = 11; frame = output; block = lent }
  -- else the number is returned, and stands in the block before the other values
  pub of_length :
      (n allowance : ℕ) (received output lent : List ℕ) → length lent ≡ 20
      → host_decode code n allowance received output lent
      ≡ record {
        returned = (figures_of (decode_said code n allowance received output)).number;
        frame = decode_output code n allowance received output;
        block = block (figures_of (decode_said code n allowance received output));
      }

-- ---- how large the values are

wider : (m n : ℕ) (f : Figures) → m ≤ n → Within m f → Within n f
wider m n f h k =
    record {
      number = k.number;
      passes = k.passes;
      bits = let s : m * m ≤ n * n = mul-le-mul h h in omega (arith, k.bits);
      rows = omega (arith, k.rows);
      columns = omega (arith, k.columns);
    }

values_within :
    (n k p b r c : ℕ) → k ≤ 10 → p ≤ most_allowed → b ≤ n * n → r ≤ n → c ≤ n → Within n (figures_with k p b r c)
values_within n k p b r c hk hp hb hr hc = record { number = hk; passes = hp; bits = hb; rows = hr; columns = hc }

-- a number alone, and all else zero
alone : (k : ℕ) → k ≤ 10 → Within 0 (figures_with k 0 0 0 0)
alone k h = values_within 0 k 0 0 0 0 h (omega arith) (omega arith) (omega arith) (omega arith)

undecoded_within : (r : ℕ) → r ≤ 10 → Within 0 (figures_of (undecoded r))
undecoded_within r h = go (eqb r 10)
  where
    go : (b : Bool) → Within 0 (figures_of (pick b erased (refused r)))
    go true = alone 10 (omega arith)
    go false = alone r h

told_within : (n : ℕ) (e : Ending) (p b r c : ℕ) → p ≤ most_allowed → b ≤ n * n → r ≤ n → c ≤ n → Within n (figures_of (ended e p b r c))
told_within n clean p b r c hp hb hr hc = values_within n 0 p b 0 0 (omega arith) hp hb (omega arith) (omega arith)
told_within n repaired p b r c hp hb hr hc = values_within n 0 p b 0 0 (omega arith) hp hb (omega arith) (omega arith)
told_within n stuck p b r c hp hb hr hc = values_within n 7 p b r c (omega arith) hp hb hr hc
told_within n spent p b r c hp hb hr hc = values_within n 8 p b r c (omega arith) hp hb hr hc

-- they are within an m that is not above n, and not above the longest word: n itself, or 0 where nothing is decoded
abbrev Bounded : Code → ℕ → Figures → Type 0
Bounded code n f = (m : ℕ) × (m ≤ n) × (m ≤ code.longest) × Within m f

module _ (code : Code) (ok : Sound code) (n allowance : ℕ) (received output : List ℕ) where
  abbrev refusal : ℕ
  refusal = decode_refusal code n allowance received output

  abbrev outcome : Outcome
  outcome = decoded code n allowance (frame_of n received)

  said_bounded : Bounded code n (figures_of (decode_said code n allowance received output))
  unfolding decode_said decode_refusal all_in
  said_bounded =
      at_either (λ d. Bounded code n (figures_of d)) refusal (told outcome) (undecoded refusal)
      (λ z.
      let k = (decode_accepts code n allowance received output).0 z in
      let c = counts code ok n k.0.from allowance (frame_of n received) k.1.0 (frame_of-square n received) in (
        n,
        omega arith,
        k.0.up_to,
        told_within n outcome.ending outcome.passes outcome.bits outcome.rows outcome.columns
            (omega (arith, c.passes, k.1.1)) c.not_all c.rows c.columns,
      ))
      (λ z. (
        0,
        omega arith,
        omega arith,
        undecoded_within refusal
            (one_of_range 0 10 refusal (0 ∷ numbers (decode_refusals code n allowance received output)) refl
            (first_in (decode_refusals code n allowance received output))).1,
      ))

has_room : (code : Code) → Sound code → (n : ℕ) (f : Figures) → Bounded code n f → HasRoom f
has_room code ok n f b =
    let k = b.3 in
    let few : b.0 ≤ 1024 = omega (arith, b.2, ok.not_long_lem) in
    let s : b.0 * b.0 ≤ 1024 * 1024 = mul-le-mul few few in
    record {
      number = omega (arith, k.number);
      passes = omega (arith, k.passes);
      bits = omega (arith, k.bits);
      rows = omega (arith, k.rows);
      columns = omega (arith, k.columns);
    }

-- ---- a block, and reading it back

block_example : Example
unfolding block in_bytes
block_example = refl

-- four bytes, read back
from_digits : (x a b c d y z w : ℕ) → x ≡ a + y * 2 ^ 8 → y ≡ b + z * 2 ^ 8 → z ≡ c + w * 2 ^ 8 → w ≡ d
    → a + b * 2 ^ 8 + c * 2 ^ 16 + d * 2 ^ 24 ≡ x
from_digits x a b c d y z w hx hy hz hw = omega arith

again : (x : ℕ) → x < 2 ^ 32 → x % 2 ^ 8 + x / 2 ^ 8 % 2 ^ 8 * 2 ^ 8 + x / 2 ^ 16 % 2 ^ 8 * 2 ^ 16 + x / 2 ^ 24 % 2 ^ 8 * 2 ^ 24 ≡ x
again x h =
    from_digits x (x % 2 ^ 8) (x / 2 ^ 8 % 2 ^ 8) (x / 2 ^ 16 % 2 ^ 8) (x / 2 ^ 24 % 2 ^ 8) (x / 2 ^ 8) (x / 2 ^ 16) (x / 2 ^ 24)
    (omega arith) (omega arith) (omega arith) (omega arith)

read_all : (f : Figures) → HasRoom f → read_block (block f) ≡ f
unfolding block read_block in_bytes
read_all f h =
    rw (
      again f.number h.number,
      again f.passes h.passes,
      again f.bits h.bits,
      again f.rows h.rows,
      again f.columns h.columns,
    )

pub blocks : (code : Code) → Sound code → Blocks code
unfolding block in_bytes host_decode
blocks code ok = record {
  within = λ n allowance received output.
      let b = said_bounded code ok n allowance received output in
      wider b.0 n (figures_of (decode_said code n allowance received output)) b.1 b.3;
  fits = λ n allowance received output.
      has_room code ok n (figures_of (decode_said code n allowance received output)) (said_bounded code ok n allowance received output);
  long = λ f. refl;
  read_back = read_all;
  example = block_example;
  other_length = λ n allowance received output lent h. rw (ne_eqb (length lent) 20 h);
  of_length = λ n allowance received output lent h. rw (eq-eqb (length lent) 20 h);
}
