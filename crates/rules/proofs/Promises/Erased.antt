-- RULES 6, number 10: the data that encoding gives it for.
-- Assumes nothing.
use mathlib.Core.Path.{◌≡◌, refl, sym, ap, ◌∙◌}
use mathlib.Core.Logic.{◌≢◌, ◌↔◌}
use mathlib.Core.Bool.{Bool, true, false, not, ◌&&◌}
use mathlib.Core.List.{List}
use Prim.Native.Nat.{ℕ, zero, suc, ◌-◌, ◌≤◌, ◌<◌}
use native.Mathlib.Decide.{dec_lt}
use native.Mathlib.Omega.{arith}
use lib.Dec.{eqb}
use lib.ListN.{length, get_or, take}
use borrow.Author.Tests.{eqb-false, not-true}
use Rattle.algebra.specs.Remainder.{shift, register}
use Rattle.algebra.proofs.TableLaws.{tab-zero, tab-suc}
use Rattle.rules.specs.Codes.{Code, data_bits, g, small_code}
use Rattle.rules.specs.Words.{remainder, checks, is_codeword}
use Rattle.rules.specs.Frames.{Frame, is_erased, corner}
use Rattle.rules.specs.Bits.{frame_of, bytes_of, spare_ones}
use Rattle.rules.specs.Numbers.{frame_bytes, frame_for, encode_number, data_bytes}
use Rattle.rules.proofs.Laws.CodeLaws.{Sound}
use Rattle.rules.proofs.Laws.SmallCode.{sound_small}
use Rattle.rules.proofs.Laws.Shape.{take-tab, corner_square, frame_of-square}
use Rattle.rules.proofs.Laws.CheckLaws.{codeword_checks}
use Rattle.rules.proofs.Laws.FrameLaws.{frame_rows}
use Rattle.rules.proofs.Laws.ErasedLaws.{ones_word, ones_square, AllOnes, erased_ones, ones_square_lem, ones_cells, ones_only, ones_frame, row_ones, corner_ones}
use Rattle.rules.proofs.Laws.PackLaws.{bytes_of-length, frame_of_bytes, bytes_of_frame, spares_of_bytes}
use Rattle.rules.proofs.Laws.NumberLaws.{Sized, encode_accepts, encode_erased}
use Rattle.rules.proofs.Laws.OneOfLaws.{and_both}
use Rattle.rules.proofs.Laws.Computing.{computing}
use Rattle.rules.proofs.Promises.Encoding.{Encoded, encoding}

-- ---- The statements

-- of any code: a frame of ones is that of data of ones, at an n at which the word of ones is a codeword
abbrev pub OnesPromise : Code → Type 0
OnesPromise code =
    (n : ℕ) (input : List ℕ) → code.shortest ≤ n
    → (is_erased n (frame_for code n input) ≡ true)
    ↔ ((is_codeword code n (ones_word n) ≡ true) × AllOnes (data_bits code n) (frame_of (data_bits code n) input))

-- of the small code
pub record SmallOnes : Type 0 where
  -- such an n is 256 alone
  pub at_256 : (n : ℕ) → 18 ≤ n → n ≤ 256 → (is_codeword small_code n (ones_word n) ≡ true) ↔ (n ≡ 256)
  -- so encoding gives 10 for one message alone: 239 rows of 239 ones
  pub one_message :
      (n : ℕ) (input output : List ℕ) → ((p : ℕ) → get_or input p 0 < 256)
      → (encode_number small_code n input output ≡ 10)
      ↔ ((n ≡ 256) × (input ≡ bytes_of 239 (ones_square 239)) × (length output ≡ frame_bytes 256))
  -- and 0 for every other that is of its size and has no spare bit set
  pub others :
      (n : ℕ) (input output : List ℕ) → ((p : ℕ) → get_or input p 0 < 256)
      → Sized small_code n input (data_bytes small_code n) output (frame_bytes n) → spare_ones (data_bits small_code n) input ≡ 0
      → ¬ ((n ≡ 256) × (input ≡ bytes_of 239 (ones_square 239))) → encode_number small_code n input output ≡ 0

-- ---- Data of ones

module _ (code : Code) (ok : Sound code) (n : ℕ) (input : List ℕ) (le : code.shortest ≤ n) where
  abbrev k : ℕ
  k = data_bits code n

  abbrev f : Frame
  f = frame_for code n input

  made : Encoded code n (frame_of k input)
  made = encoding code ok n (frame_of k input) le (frame_of-square k input)

  from_ones : is_erased n f ≡ true → (is_codeword code n (ones_word n) ≡ true) × AllOnes k (frame_of k input)
  from_ones e =
      let all = (erased_ones n f).0 e in
      let first : 0 < n = omega (arith, ok.room) in (
        ap (is_codeword code n) (sym (row_ones n f 0 first made.square (λ j m. all 0 j first m))) ∙ frame_rows code n f made.frame 0 first,
        rw (← made.holds) (corner_ones k n f (omega arith) all),
      )

  to_ones : is_codeword code n (ones_word n) ≡ true → AllOnes k (frame_of k input) → is_erased n f ≡ true
  to_ones c all =
      let s = ones_square_lem n in
      let e : ones_square n ≡ f =
      made.only (ones_square n) s (ones_frame code n c)
      (ones_only k (corner k (ones_square n)) (corner_square k (ones_square n)) (corner_ones k n (ones_square n) (omega arith) (ones_cells n))
      ∙ sym (ones_only k (frame_of k input) (frame_of-square k input) all)) in
      (erased_ones n f).1 (rw (← e) (ones_cells n))

pub ones_promise : (code : Code) (ok : Sound code) → OnesPromise code
ones_promise code ok n input le = (from_ones code ok n input le, λ p. to_ones code ok n input le p.0 p.1)

-- ---- The one length

-- a remainder that is not zero, nor after one coefficient more that is one, and so on, m in all
nonzero : ℕ → ℕ → Bool
nonzero zero r = true
nonzero (suc m) r = not (eqb r 0) && nonzero m (shift 16 g r true)

nonzero_at : (m r i : ℕ) → nonzero m r ≡ true → i < m → register 16 g r (ones_word i) ≢ 0
unfolding nonzero register ones_word
nonzero_at zero r i h l = absurd (omega arith)
nonzero_at (suc m) r zero h l =
    let t = and_both (not (eqb r 0)) (nonzero m (shift 16 g r true)) h in
    λ e. eqb-false r 0 (not-true (eqb r 0) t.0) (ap (register 16 g r) (sym (tab-zero (λ j. true))) ∙ e)
nonzero_at (suc m) r (suc i) h l =
    let t = and_both (not (eqb r 0)) (nonzero m (shift 16 g r true)) h in
    λ e. nonzero_at m (shift 16 g r true) i t.1 (omega arith) (ap (register 16 g r) (sym (tab-suc i (λ j. true))) ∙ e)

-- one test, for up to 254 ones
tested : nonzero 254 1 ≡ true
unfolding computing nonzero
tested = refl

first_one : shift 16 g 0 true ≡ 1
unfolding computing
first_one = refl

at_longest : is_codeword small_code 256 (ones_word 256) ≡ true
unfolding computing ones_word
at_longest = refl

-- fewer than 255 ones leave a remainder
leaves : (m : ℕ) → m < 254 → register 16 g 0 (ones_word (suc m)) ≢ 0
unfolding ones_word register
leaves m h e =
    nonzero_at 254 1 m tested h
    (ap (λ (r : ℕ). register 16 g r (ones_word m)) (sym first_one) ∙ ap (register 16 g 0) (sym (tab-suc m (λ j. true))) ∙ e)

no_remainder : (n : ℕ) → 2 ≤ n → is_codeword small_code n (ones_word n) ≡ true → register 16 g 0 (ones_word (suc (n - 2))) ≡ 0
unfolding checks remainder ones_word
no_remainder n h c =
    let z = codeword_checks small_code n (ones_word n) c in
    let e : n - 1 ≡ suc (n - 2) = omega arith in
    let r : register 16 g 0 (take (n - 1) (ones_word n)) ≡ 0 = omega (arith, z) in
    ap (λ (k : ℕ). register 16 g 0 (ones_word k)) (sym e) ∙ ap (register 16 g 0) (sym (take-tab (n - 1) n (λ j. true) (omega arith))) ∙ r

one-length : (n : ℕ) → 18 ≤ n → n ≤ 256 → (is_codeword small_code n (ones_word n) ≡ true) ↔ (n ≡ 256)
one-length n lo hi = (λ c. go c (dec_lt n 256), λ e. rw e at_longest)
  where
    go : is_codeword small_code n (ones_word n) ≡ true → Dec (n < 256) → n ≡ 256
    go c (yes l) = absurd (leaves (n - 2) (omega arith) (no_remainder n (omega arith) c))
    go c (no l) = omega (arith, l)

-- ---- The one message

one_message_here :
    (n : ℕ) (input output : List ℕ) → ((p : ℕ) → get_or input p 0 < 256)
    → (encode_number small_code n input output ≡ 10)
    ↔ ((n ≡ 256) × (input ≡ bytes_of 239 (ones_square 239)) × (length output ≡ frame_bytes 256))
one_message_here n input output bytes = (there, λ p. back p.0 p.1 p.2)
  where
    there : encode_number small_code n input output ≡ 10 → (n ≡ 256) × (input ≡ bytes_of 239 (ones_square 239)) × (length output ≡ frame_bytes 256)
    there h =
        let a = (encode_erased small_code n input output).0 h in
        let t = from_ones small_code sound_small n input a.0.from a.2 in
        let e : n ≡ 256 = (one-length n a.0.from a.0.up_to).0 t.0 in
        let d : data_bits small_code n ≡ 239 = ap (data_bits small_code) e in (
          e,
          sym (bytes_of_frame (data_bits small_code n) input a.0.taken bytes a.1)
              ∙ ap (bytes_of (data_bits small_code n)) (ones_only (data_bits small_code n) (frame_of (data_bits small_code n) input) (frame_of-square (data_bits small_code n) input) t.1)
              ∙ ap (λ (m : ℕ). bytes_of m (ones_square m)) d,
          a.0.lent ∙ ap frame_bytes e,
        )

    back : n ≡ 256 → input ≡ bytes_of 239 (ones_square 239) → length output ≡ frame_bytes 256 → encode_number small_code n input output ≡ 10
    back e i l =
        let framed : frame_of 239 input ≡ ones_square 239 = ap (frame_of 239) i ∙ frame_of_bytes 239 (ones_square 239) (ones_square_lem 239) in
        rw e
        ((encode_erased small_code 256 input output).1 (
          record { from = omega arith; up_to = omega arith; taken = ap length i ∙ bytes_of-length 239 (ones_square 239); lent = l },
          ap (spare_ones 239) i ∙ spares_of_bytes 239 (ones_square 239) (ones_square_lem 239),
          to_ones small_code sound_small 256 input (omega arith) at_longest (rw framed (ones_cells 239)),
        ))

others_here :
    (n : ℕ) (input output : List ℕ) → ((p : ℕ) → get_or input p 0 < 256)
    → Sized small_code n input (data_bytes small_code n) output (frame_bytes n) → spare_ones (data_bits small_code n) input ≡ 0
    → ¬ ((n ≡ 256) × (input ≡ bytes_of 239 (ones_square 239))) → encode_number small_code n input output ≡ 0
others_here n input output bytes f z other = go (is_erased n (frame_for small_code n input)) refl
  where
    go : (b : Bool) → is_erased n (frame_for small_code n input) ≡ b → encode_number small_code n input output ≡ 0
    go true e =
        let m = (one_message_here n input output bytes).0 ((encode_erased small_code n input output).1 (f, z, e)) in absurd (other (m.0, m.1))
    go false e = (encode_accepts small_code n input output).1 (f, z, e)

pub small_ones : SmallOnes
small_ones = record { at_256 = one-length; one_message = one_message_here; others = others_here }
