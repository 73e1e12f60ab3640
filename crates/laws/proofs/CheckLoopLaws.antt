-- The checks of a word, one bit after another: the remainder and the ones of the bits so far.
-- Assumes nothing.
use mathlib.Core.Path.{◌≡◌, refl, sym, ap, ap₂, ◌∙◌}
use mathlib.Core.Bool.{Bool, true, false}
use mathlib.Core.List.{List, [], ◌∷◌, ◌++◌}
use Prim.Native.Nat.{ℕ, zero, suc, ◌+◌, ◌*◌, ◌-◌, ◌%◌, ◌^◌, ◌≤◌, ◌<◌}
use native.Mathlib.Nat.{mul-le-mul_right}
use native.Mathlib.Numerals.{add-one}
use native.Mathlib.Omega.{arith}
use borrow.Author.Tests.{lt-ltb, le-ltb}
use lib.Bits.{bit_xor}
use lib.ListN.{length}
use lib.Pow.{pow_pos}
use Rattle.algebra.specs.Xor.{◌⊕◌}
use Rattle.algebra.specs.Tables.{tab, num, ones}
use Rattle.algebra.specs.Words.{Word}
use Rattle.algebra.specs.Remainder.{shift, register, is_odd}
use Rattle.algebra.proofs.Digits.{num-le, num_odd}
use Rattle.algebra.proofs.TableLaws.{tab-zero, tab-suc}
use Rattle.rules.specs.Field.{poly}
use Rattle.rules.specs.Codes.{Code, g, small_code}
use Rattle.rules.specs.Words.{with_parity, front_bits, remainder, checks}
use Rattle.rules.specs.Bits.{bit_at}
use Rattle.rules.proofs.Laws.Shape.{take-tab}
use Rattle.rules.proofs.Laws.SmallCode.{sound_small}
use Rattle.rules.proofs.Laws.CodeLaws.{Sound, shift_below}
use Rattle.rules.proofs.Laws.CheckLaws.{ones_last}
use Rattle.laws.specs.InPlace.{bits_at, word_at, Inside}
use Rattle.laws.specs.Located.{remainders_end}

-- ---- one more coefficient

bit_num : (b : ℕ) → b < 2 → num (is_odd b) ≡ b
bit_num b h = num_odd b ∙ (let e : b % 2 ≡ b = omega arith in e)

pub shift_stays : (r b : ℕ) → b < 2 → 2 * r + b < remainders_end small_code → 2 * r + b ≡ shift 16 g r (is_odd b)
unfolding shift
shift_stays r b h l = rw (bit_num b h, lt-ltb (2 * r + b) (2 ^ 16) l)

-- g as the program has it
pub shift_takes : (r b : ℕ) → b < 2 → remainders_end small_code ≤ 2 * r + b → bit_xor (2 * r + b) 94051 ≡ shift 16 g r (is_odd b)
unfolding shift g poly ◌⊕◌
shift_takes r b h l = rw (bit_num b h, le-ltb (2 * r + b) (2 ^ 16) l)

-- and leaves a remainder
pub shift_leaves : (r b : ℕ) → r < remainders_end small_code → b < 2 → remainders_end small_code ≤ 2 * r + b → bit_xor (2 * r + b) 94051 < remainders_end small_code
shift_leaves r b s h l = rw (shift_takes r b h l) (shift_below small_code sound_small r (is_odd b) s)

register_last : (d p r : ℕ) (w : Word) (b : Bool) → register d p r (w ++ b ∷ []) ≡ shift d p (register d p r w) b
unfolding register
register_last d p r [] b = refl
register_last d p r (c ∷ w) b = register_last d p (shift d p r c) w b

-- ---- one more bit of a word

pub tab_last {ℓ} : {A : Type ℓ} (n : ℕ) (f : ℕ → A) → tab (suc n) f ≡ tab n f ++ f n ∷ []
tab_last zero f = tab-suc 0 f ∙ ap (λ l. f 0 ∷ l) (tab-zero (λ i. f (suc i))) ∙ ap (λ l. l ++ f 0 ∷ []) (sym (tab-zero f))
tab_last (suc n) f =
    tab-suc (suc n) f ∙ ap (λ l. f 0 ∷ l) (tab_last n (λ i. f (suc i))) ∙ ap (λ l. l ++ f (suc n) ∷ []) (sym (tab-suc n f))

pub word_at-none : (s : List ℕ) (start step : ℕ) → word_at 0 s start step ≡ []
unfolding word_at
word_at-none s start step = tab-zero (bits_at s start step)

pub word_at_last :
    (j : ℕ) (s : List ℕ) (start step : ℕ) → word_at (suc j) s start step ≡ word_at j s start step ++ bit_at s (start + j * step) ∷ []
unfolding word_at bits_at
word_at_last j s start step = tab_last j (bits_at s start step)

-- ---- the loop over the bits

-- after j bits: the remainder, and the ones
pub record Passed (code : Code) (s : List ℕ) (start step j r o : ℕ) : Type 0 where
  pub remains : r ≡ register code.degree code.generator 0 (word_at j s start step)
  pub below : r < remainders_end code
  pub counted : o ≡ ones (word_at j s start step)
  pub few : o ≤ j

module _ (code : Code) where
  pub passed_none : {s : List ℕ} {start step : ℕ} → Passed code s start step 0 0 0
  unfolding register ones
  passed_none {s} {start} {step} = record {
    remains = ap (register code.degree code.generator 0) (sym (word_at-none s start step));
    below = pow_pos code.degree;
    counted = ap ones (sym (word_at-none s start step));
    few = omega arith;
  }

  -- b is bit j, and r' the remainder with it behind
  pub passed_more :
      Sound code → {s : List ℕ} {start step j r o b r' : ℕ} → Passed code s start step j r o → b ≡ num (bit_at s (start + j * step))
      → r' ≡ shift code.degree code.generator r (is_odd b) → Passed code s start step (j + 1) r' (o + b)
  passed_more ok {s} {start} {step} {j} {r} {o} {b} {r'} p eb es =
      let odd : is_odd b ≡ bit_at s (start + j * step) = ap is_odd eb ∙ odd_num (bit_at s (start + j * step)) in
      rw (add-one j) (record {
        remains = es ∙ ap₂ (λ u v. shift code.degree code.generator u v) p.remains odd
            ∙ sym (ap (register code.degree code.generator 0) (word_at_last j s start step)
            ∙ register_last code.degree code.generator 0 (word_at j s start step) (bit_at s (start + j * step)));
        below = rw es (shift_below code ok r (is_odd b) p.below);
        counted = ap₂ ◌+◌ p.counted eb
            ∙ sym (ap ones (word_at_last j s start step) ∙ ones_last (word_at j s start step) (bit_at s (start + j * step)));
        few = omega (arith, p.few, num-le (bit_at s (start + j * step)));
      })
    where
      odd_num : (c : Bool) → is_odd (num c) ≡ c
      odd_num true = refl
      odd_num false = refl

  -- the checks of a word in place: the remainder is that of all bits but the parity bit
  checks_there :
      (n : ℕ) (s : List ℕ) (start step : ℕ)
      → checks code n (word_at n s start step)
      ≡ with_parity code.extended (register code.degree code.generator 0 (word_at (front_bits code n) s start step))
      (ones (word_at n s start step))
  unfolding checks remainder word_at
  checks_there n s start step =
      ap (λ w. with_parity code.extended (register code.degree code.generator 0 w) (ones (word_at n s start step)))
      (take-tab (front_bits code n) n (bits_at s start step) (omega arith))

-- with the parity bit
pub passed_all :
    {n : ℕ} {s : List ℕ} {start step j r o b : ℕ} → 1 ≤ n → j ≡ n - 1 → Passed small_code s start step j r o
    → b ≡ num (bit_at s (start + j * step)) → 2 * r + (o + b) % 2 ≡ checks small_code n (word_at n s start step)
passed_all {n} {s} {start} {step} {j} {r} {o} {b} h e p eb =
    let l : suc j ≡ n = omega arith in
    ap₂ (λ u v. 2 * u + v % 2)
    (p.remains ∙ ap (λ m. register 16 g 0 (word_at m s start step)) e)
    (ap₂ ◌+◌ p.counted eb ∙ sym (ones_last (word_at j s start step) (bit_at s (start + j * step)))
    ∙ ap ones (sym (word_at_last j s start step) ∙ ap (λ m. word_at m s start step) l))
    ∙ sym (checks_there small_code n s start step)

-- the bit at place j lies within the buffer
pub place_inside : (code : Code) (n : ℕ) (s : List ℕ) (start step j : ℕ) → Inside code n s start step → j ≤ n - 1 → start + j * step < length s * 8
place_inside code n s start step j h l = omega (arith, h.4, mul-le-mul_right step l)
