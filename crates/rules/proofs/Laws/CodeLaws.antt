-- What is asked of a code: two records of premises, and the register laws at a code.
-- Assumes nothing.
use mathlib.Core.Path.{◌≡◌, ap, ◌∙◌}
use mathlib.Core.Logic.{◌↔◌}
use mathlib.Core.Bool.{Bool, false}
use mathlib.Core.List.{◌∷◌, ◌++◌}
use Prim.Native.Nat.{ℕ, suc, ◌+◌, ◌-◌, ◌^◌, ◌≤◌, ◌<◌}
use native.Mathlib.Nat.{pow-suc}
use native.Mathlib.Omega.{arith}
use lib.ListN.{length, replicate}
use Rattle.algebra.specs.Tables.{ones}
use Rattle.algebra.specs.Words.{Word, dot}
use Rattle.algebra.specs.Remainder.{shift, register, powers_down, systematic, from_coefficients, Multiple}
use Rattle.algebra.proofs.RegisterLaws.{iter_doubles}
use Rattle.algebra.proofs.RemainderLaws.{
  ones_none,
  shift-lt,
  powers_down-suc,
  powers_down-length,
  register-++,
  register_start,
  register-none,
  systematic_divisible,
  divisible_zero,
}
use Rattle.algebra.proofs.DivisionLaws.{divides}
use Rattle.rules.specs.Codes.{Code, radius, check_bits, length_limit, radius_limit}
use Rattle.rules.specs.Words.{checks}

-- asked of any code: the generator has the degree, there is room for data, and the limits are kept
pub record Sound (code : Code) : Type 0 where
  -- bit `degree` of the generator is its highest
  pub some_degree : 1 ≤ code.degree
  pub leads : 2 ^ code.degree ≤ code.generator
  pub no_higher : code.generator < 2 ^ suc code.degree
  -- at least one bit is data
  pub room : check_bits code < code.shortest
  pub not_long_lem : code.longest ≤ length_limit
  pub not_wide : radius code ≤ radius_limit

-- asked besides: the distance is at least the claimed one. A word with some ones, but fewer than that, has checks that are not zero
pub record Mends (code : Code) : Type 0 where
  pub sound : Sound code
  pub few :
      (n : ℕ) (w : Word) → code.shortest ≤ n → n ≤ code.longest → length w ≡ n → checks code n w ≡ 0
      → ones w < code.distance → ones w ≡ 0

-- ---- the register of a code

module _ (code : Code) (ok : Sound code) where
  -- the generator is z^(top + 1) and what is lower
  abbrev pub top : ℕ
  top = code.degree - 1

  abbrev lower : ℕ
  lower = code.generator - 2 ^ code.degree

  pub degree_is : code.degree ≡ suc top
  degree_is = omega (arith, ok.some_degree)

  generator_is : code.generator ≡ 2 ^ suc top + lower
  generator_is = rw (← degree_is) (omega (arith, ok.leads))

  lower_small : lower < 2 ^ suc top
  lower_small = rw (← degree_is) (omega (arith, ok.leads, ok.no_higher, pow-suc 2 code.degree))

  pub powers-length : (m : ℕ) → length (powers_down code.degree code.generator m) ≡ m
  powers-length m = rw (degree_is, generator_is) (powers_down-length top lower lower_small m)

  -- the powers before the degree leave themselves
  pub powers_first :
      (m : ℕ) → m < code.degree
      → powers_down code.degree code.generator (suc m) ≡ 2 ^ m ∷ powers_down code.degree code.generator m
  powers_first m h =
      rw (degree_is, generator_is)
      (powers_down-suc top lower lower_small m
      ∙ ap (λ x. x ∷ powers_down (suc top) (2 ^ suc top + lower) m)
      (iter_doubles top lower m (omega (arith, h, degree_is))))

  pub shift_below : (r : ℕ) (b : Bool) → r < 2 ^ code.degree → shift code.degree code.generator r b < 2 ^ code.degree
  shift_below r b h =
      rw (degree_is, generator_is)
      (shift-lt top lower lower_small r b (rw degree_is at h))

  pub register_dot :
      (u : Word)
      → register code.degree code.generator 0 u ≡ dot (powers_down code.degree code.generator (length u)) u
  register_dot u = rw (degree_is, generator_is) (register_start top lower lower_small u)

  pub zeros_front :
      (z : ℕ) (u : Word)
      → register code.degree code.generator 0 (replicate z false ++ u) ≡ register code.degree code.generator 0 u
  zeros_front z u =
      rw (degree_is, generator_is)
      (register-++ top lower lower_small 0 (replicate z false) u
      ∙ ap (λ r. register (suc top) (2 ^ suc top + lower) r u)
      (register-none top lower lower_small (replicate z false) (ones_none z)))

  pub encoded_divisible :
      (u : Word)
      → register code.degree code.generator 0 (systematic code.degree code.generator u) ≡ 0
  encoded_divisible u = rw (degree_is, generator_is) (systematic_divisible top lower lower_small u)

  pub check_digits-zero :
      (w u : Word) → ones w ≡ 0 → length u ≡ code.degree → register code.degree code.generator 0 (w ++ u) ≡ 0
      → ones (w ++ u) ≡ 0
  check_digits-zero w u hw hu e =
      divisible_zero top lower lower_small w u hw (hu ∙ degree_is)
      (rw (degree_is, generator_is) at e)

  pub register_divides :
      (w : Word)
      → (register code.degree code.generator 0 w ≡ 0) ↔ Multiple code.generator (from_coefficients 0 w)
  register_divides w = rw (degree_is, generator_is) (divides top lower lower_small w)
