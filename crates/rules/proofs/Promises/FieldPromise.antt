-- RULES 1: the field, its tables, and g.
-- Assumes nothing.
use mathlib.Core.Path.{◌≡◌, refl, sym, ◌∙◌}
use mathlib.Core.Logic.{◌≢◌, ◌⊎◌}
use mathlib.Core.List.{List, [], ◌∷◌}
use Prim.Native.Nat.{ℕ, suc, ◌+◌, ◌*◌, ◌^◌, ◌≤◌, ◌<◌}
use native.Mathlib.Omega.{arith}
use lib.Dec.{lit<}
use Rattle.algebra.specs.Xor.{◌⊕◌}
use Rattle.algebra.specs.Linear.{lin}
use Rattle.algebra.specs.LogTables.{Tables}
use Rattle.algebra.specs.Register.{iter, turn}
use Rattle.algebra.specs.Tables.{tab, tab_from}
use Rattle.algebra.specs.Remainder.{binary, times}
use Rattle.algebra.specs.Sums.{xsum}
use Rattle.algebra.specs.Marking.{remainder_part, power_part, cube_part, z_power, mark_at, half_at, slot_of}
use Rattle.algebra.specs.Field256.{powers, logs, small_marking}
use Rattle.algebra.proofs.XorLaws.{⊕-lt, ⊕_assoc, ⊕_comm, ⊕-zero, ⊕_self}
use Rattle.algebra.proofs.LinearLaws.{lin_additive, agrees}
use Rattle.algebra.proofs.RegisterLaws.{one-lt}
use Rattle.algebra.proofs.RegisterProduct.{multiply, multiply-lt, multiply_assoc, multiply_comm, one_multiply, multiply_inverse, multiply-none, multiply-⊕}
use Rattle.algebra.proofs.Inverse.{rebuilt, inverse_tested}
use Rattle.algebra.proofs.MarkLaws.{remainder_at, power_at, cube_at}
use Rattle.algebra.proofs.PairLaws.{half_of_one}
use Rattle.algebra.proofs.Field256Laws.{fit256, tables256, round256}
use Rattle.rules.specs.Field.{poly, minimal₁, minimal₃, times_a, power, logarithm, product, value_at}
use Rattle.rules.specs.Codes.{g}
use Rattle.rules.proofs.Laws.FieldLaws.{power_is, logarithm_small, logarithm-zero, power_logarithm, product_powers, product-zero-left, product-zero_right}

-- Under ⊕ and this product the numbers below the size are a field. Each is its own opposite, so a difference is a sum.
pub record IsField (size : ℕ) (product : ℕ → ℕ → ℕ) : Type 0 where
  -- sums, with 0
  pub sum_in : (x y : ℕ) → x < size → y < size → x ⊕ y < size
  pub sum_assoc : (x y z : ℕ) → x ⊕ y ⊕ z ≡ x ⊕ (y ⊕ z)
  pub sum_comm : (x y : ℕ) → x ⊕ y ≡ y ⊕ x
  pub sum_zero : (x : ℕ) → x ⊕ 0 ≡ x
  pub opposite : (x : ℕ) → x ⊕ x ≡ 0
  -- products, with 1
  pub product_in : (x y : ℕ) → x < size → y < size → product x y < size
  pub product_assoc :
      (x y z : ℕ) → x < size → y < size → z < size → product (product x y) z ≡ product x (product y z)
  pub product_comm : (x y : ℕ) → x < size → y < size → product x y ≡ product y x
  pub one_in : 1 < size
  pub product_one : (x : ℕ) → x < size → product 1 x ≡ x
  -- every element but 0 has an inverse, and a product is 0 only if a factor is
  pub inverse : (x : ℕ) → x ≢ 0 → x < size → (y : ℕ) × (y < size) × (product x y ≡ 1)
  pub no_divisors : (x y : ℕ) → x < size → y < size → product x y ≡ 0 → x ≢ 0 → y ≡ 0
  -- the product with a sum is the sum of the products
  pub distributes : (x y z : ℕ) → product x (y ⊕ z) ≡ product x y ⊕ product x z

-- the value at a^r of the polynomial of degree below 8 with the binary digits of x
unfoldable pub low_value : ℕ → ℕ → ℕ
low_value r x = lin (tab 8 (λ e. power (r * e))) x

pub record FieldPromise : Type 0 where
  -- the bytes are a field
  pub bytes : IsField 256 product
  -- a is a root of its polynomial
  pub root₁ : value_at 1 minimal₁ ≡ 0
  -- the first sixteen powers of a, from a^0 on
  pub listed :
      tab 16 power
      ≡ 1 ∷ 2 ∷ 4 ∷ 8 ∷ 16 ∷ 32 ∷ 64 ∷ 128 ∷ 29 ∷ 58 ∷ 116 ∷ 232 ∷ 205 ∷ 135 ∷ 19 ∷ 38 ∷ []
  -- after 255 steps the powers begin again
  pub round : power 255 ≡ 1
  -- each element but 0 is a power
  pub whole : (x : ℕ) → 1 ≤ x → x < 256 → (e : ℕ) × (e < 255) × (power e ≡ x)
  -- a^3 is a root of the second polynomial
  pub root₃ : value_at 3 minimal₃ ≡ 0
  -- which is minimal: no polynomial of a lower degree but 0 has that root
  pub least : (x : ℕ) → 1 ≤ x → x < 256 → low_value 3 x ≢ 0
  -- the rule of the two tables, shown of each table as a whole
  pub tables : Tables 7 29 powers logs
  -- the marks are of this g: z^16, and their `low`
  pub lower : g ≡ 2 ^ 16 + small_marking.low
  -- the mark of an exponent is made of z^e mod g, a^e and a^3e
  pub marks :
      (e : ℕ) → e < 255
      → (remainder_part small_marking (mark_at small_marking e) ≡ z_power small_marking e)
      × (power_part small_marking (mark_at small_marking e) ≡ power e)
      × (cube_part small_marking (mark_at small_marking e) ≡ power (3 * e))
  -- where a^i + a^j is 1, the table of halves has i or j at the slot of a^3i + a^3j
  pub halves :
      (i j : ℕ) → i < 255 → j < 255 → power i ⊕ power j ≡ 1
      → (half_at small_marking (slot_of small_marking (power (3 * i) ⊕ power (3 * j))) ≡ i)
      ⊎ (half_at small_marking (slot_of small_marking (power (3 * i) ⊕ power (3 * j))) ≡ j)
  -- the logarithm of each byte but 0 is the exponent below 255 of which it is the power; 0 has none, and 0 stands for it
  pub logarithms : (x : ℕ) → x ≢ 0 → x < 256 → (logarithm x < 255) × (power (logarithm x) ≡ x)
  pub none : logarithm 0 ≡ 0
  -- the product of two powers is the power of the sum of their exponents, and 0 times anything is 0
  pub products : (i j : ℕ) → product (power i) (power j) ≡ power (i + j)
  pub zeros : (x : ℕ) → (product 0 x ≡ 0) × (product x 0 ≡ 0)
  -- g is the product of the two polynomials
  pub generator : times (poly minimal₁) 0 (binary 9 (poly minimal₃)) ≡ g

-- any register that has tables makes a field
makes_field : (k c : ℕ) (powers logs : List ℕ) → Tables k c powers logs → IsField (2 ^ suc k) (multiply k c)
makes_field k c powers logs t =
    record {
      sum_in = λ x y hx hy. ⊕-lt (suc k) hx hy;
      sum_assoc = ⊕_assoc;
      sum_comm = ⊕_comm;
      sum_zero = ⊕-zero;
      opposite = ⊕_self;
      product_in = multiply-lt k c powers logs t;
      product_assoc = multiply_assoc k c powers logs t;
      product_comm = multiply_comm k c powers logs t;
      one_in = one-lt k;
      product_one = one_multiply k c;
      inverse = multiply_inverse k c powers logs t;
      no_divisors = multiply-none k c powers logs t;
      distributes = multiply-⊕ k c;
    }

-- the columns of the map that takes `low_value 3` back
back : List ℕ
back = 1 ∷ 99 ∷ 236 ∷ 2 ∷ 198 ∷ 175 ∷ 4 ∷ 251 ∷ []

least_here : (x : ℕ) → 1 ≤ x → x < 256 → low_value 3 x ≢ 0
unfolding ◌⊕◌ iter turn tab tab_from poly times_a power low_value lin agrees rebuilt back
least_here x lo hi e =
    let cs : List ℕ = tab 8 (λ e. power (3 * e)) in
    let z : x ≡ 0 =
    inverse_tested 8 ((lin cs, lin back) ∷ []) ((lin_additive cs, lin_additive back), tt) tt hi (lit< tt) (e, tt) in
    omega arith

pub field_promise : FieldPromise
unfolding ◌⊕◌ iter turn tab tab_from xsum poly minimal₁ minimal₃ times_a power value_at binary times g product multiply
field_promise =
    record {
      bytes = makes_field 7 29 powers logs tables256;
      root₁ = refl;
      listed = refl;
      round = power_is 255 ∙ round256;
      whole = λ x lo hi. (logarithm x, logarithm_small x, power_logarithm x (omega arith) hi);
      root₃ = refl;
      least = least_here;
      tables = tables256;
      lower = refl;
      marks = λ e h. (
        remainder_at small_marking fit256 e h,
        power_at small_marking fit256 e h ∙ sym (power_is e),
        cube_at small_marking fit256 e h ∙ sym (power_is (3 * e)),
      );
      halves = λ i j hi hj e.
          rw (power_is (3 * i), power_is (3 * j)) (half_of_one small_marking fit256 i j hi hj (rw (power_is i, power_is j) at e));
      logarithms = λ x n h. (logarithm_small x, power_logarithm x n h);
      none = logarithm-zero;
      products = product_powers;
      zeros = λ x. (product-zero-left x, product-zero_right x);
      generator = refl;
    }
