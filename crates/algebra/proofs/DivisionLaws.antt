-- A shift register leaves the remainder: a word's polynomial is a multiple of g exactly if the register ends at zero.
-- Assumes nothing.
use mathlib.Core.Path.{◌≡◌, refl, sym, ap, ap₂, ◌∙◌}
use mathlib.Core.Logic.{◌↔◌}
use mathlib.Core.Bool.{Bool, true, false, cond}
use mathlib.Core.List.{[], ◌∷◌, ◌++◌}
use Prim.Native.Nat.{ℕ, zero, suc, ◌+◌, ◌*◌, ◌/◌, ◌%◌, ◌^◌, ◌≤◌, ◌<◌}
use native.Mathlib.Nat.{pow-suc, add_comm, zero-add, zero-mul, mod-lt, div-eq_of_lt}
use native.Mathlib.Decide.{dec_lt}
use native.Mathlib.Omega.{arith}
use borrow.Author.Tests.{lt-ltb, le-ltb}
use lib.Dec.{ltb}
use lib.Pow.{pow_pos, split}
use lib.ListN.{length, replicate, length-append, length-replicate}
use Rattle.algebra.specs.Xor.{◌⊕◌}
use Rattle.algebra.specs.Tables.{num}
use Rattle.algebra.specs.Words.{Word, ◌⊻◌, kept}
use Rattle.algebra.specs.Remainder.{shift, register, from_coefficients, times, Multiple}
use Rattle.algebra.proofs.XorLaws.{⊕-zero, zero-⊕, ⊕_swap, ⊕-div, xors}
use Rattle.algebra.proofs.RegisterLaws.{⊕_double}
use Rattle.algebra.proofs.WordLaws.{kept-xor}
use Rattle.algebra.proofs.RemainderLaws.{beside, register-lt}

-- ---- multiples add up

times-⊻ : (g a a' : ℕ) (p q : Word) → length p ≡ length q → times g (a ⊕ a') (p ⊻ q) ≡ times g a p ⊕ times g a' q
unfolding times ◌⊻◌
times-⊻ g a a' [] [] h = refl
times-⊻ g a a' [] (c ∷ q) h = absurd (omega arith)
times-⊻ g a a' (b ∷ p) [] h = absurd (omega arith)
times-⊻ g a a' (b ∷ p) (c ∷ q) h =
    ap (λ x. times g x (p ⊻ q))
    (ap₂ ◌⊕◌ (⊕_double a a') (kept-xor b c g) ∙ ⊕_swap (2 * a) (2 * a') (kept b g) (kept c g))
    ∙ times-⊻ g (2 * a ⊕ kept b g) (2 * a' ⊕ kept c g) p q (omega arith)

-- zeros in front of a quotient change nothing
times_pad : (g m : ℕ) (q : Word) → times g 0 (replicate m false ++ q) ≡ times g 0 q
unfolding times
times_pad g zero q = refl
times_pad g (suc m) q = ap (λ x. times g x (replicate m false ++ q)) (zero-⊕ 0) ∙ times_pad g m q

-- two multiples make a multiple
multiples_add : (g : ℕ) (p q : Word) → (o : Word) × (times g 0 p ⊕ times g 0 q ≡ times g 0 o)
multiples_add g p q =
    let p' : Word = replicate (length q) false ++ p in
    let q' : Word = replicate (length p) false ++ q in
    let e : length p' ≡ length q' =
    length-append (replicate (length q) false) p ∙ ap (λ m. m + length p) (length-replicate (length q) false)
    ∙ add_comm (length q) (length p)
    ∙ sym (length-append (replicate (length p) false) q ∙ ap (λ m. m + length q) (length-replicate (length p) false)) in (
      p' ⊻ q',
      ap₂ ◌⊕◌ (sym (times_pad g (length q) p)) (sym (times_pad g (length p) q)) ∙ sym (times-⊻ g 0 0 p' q' e)
          ∙ ap (λ x. times g x (p' ⊻ q')) (zero-⊕ 0),
    )

-- g is z^(k+1) and the polynomial c below it
module _ (k c : ℕ) (small : c < 2 ^ suc k) where
  abbrev gen : ℕ
  gen = 2 ^ suc k + c

  -- a multiple that reached 2^(k+1) stays there: g has no digit above it
  grown : (a : ℕ) (b : Bool) → 2 ^ suc k ≤ a → 2 ^ suc k ≤ 2 * a ⊕ kept b gen
  grown a false h = rw ⊕-zero (omega arith)
  grown a true h = go (dec_lt (2 * a ⊕ gen) (2 ^ suc k))
    where
      go : Dec (2 * a ⊕ gen < 2 ^ suc k) → 2 ^ suc k ≤ 2 * a ⊕ gen
      go (no l) = omega arith
      go (yes l) =
          let m : ℕ = suc (suc k) in
          let e₀ : (2 * a ⊕ gen) / 2 ^ m ≡ 0 = div-eq_of_lt (omega (arith, pow-suc 2 (suc k))) in
          let e₁ : gen / 2 ^ m ≡ 0 = div-eq_of_lt (omega (arith, pow-suc 2 (suc k))) in
          let e₂ : 2 * a / 2 ^ m ≡ 0 =
          sym (⊕-zero (2 * a / 2 ^ m)) ∙ ap (λ x. 2 * a / 2 ^ m ⊕ x) (sym e₁) ∙ sym (⊕-div m (2 * a) gen) ∙ e₀ in
          let s : 2 * a % 2 ^ m ≡ 2 * a =
          sym (zero-add (2 * a % 2 ^ m)) ∙ ap (λ x. x + 2 * a % 2 ^ m) (sym (zero-mul (2 ^ m)))
          ∙ ap (λ x. x * 2 ^ m + 2 * a % 2 ^ m) (sym e₂) ∙ split (2 * a) m in
          absurd (omega (arith, mod-lt (2 * a) (pow_pos m), pow-suc 2 (suc k)))

  times_large : (a : ℕ) (q : Word) → 2 ^ suc k ≤ a → 2 ^ suc k ≤ times gen a q
  unfolding times
  times_large a [] h = h
  times_large a (b ∷ q) h = times_large (2 * a ⊕ kept b gen) q (grown a b h)

  -- no multiple of g but zero is below 2^(k+1)
  times_small : (q : Word) → times gen 0 q < 2 ^ suc k → times gen 0 q ≡ 0
  unfolding times
  times_small [] h = refl
  times_small (true ∷ q) h =
      let l : 2 ^ suc k ≤ times gen (0 ⊕ gen) q = times_large (0 ⊕ gen) q (rw zero-⊕ (omega arith)) in absurd (omega arith)
  times_small (false ∷ q) h =
      let e : times gen (0 ⊕ 0) q ≡ times gen 0 q = ap (λ x. times gen x q) (zero-⊕ 0) in
      e ∙ times_small q (rw e at h)

  -- one step: what is divided, by what the register holds then and by what was taken off
  step : (r a : ℕ) (b : Bool) → 2 * (r ⊕ a) + num b ≡ (2 * r + num b) ⊕ 2 * a
  step r a b =
      sym (beside (r ⊕ a) b) ∙ ap (λ x. x ⊕ num b) (⊕_double r a)
      ∙ (let e : 2 * r ⊕ 2 * a ⊕ num b ≡ 2 * r ⊕ num b ⊕ 2 * a = simp xors in e) ∙ ap (λ x. x ⊕ 2 * a) (beside r b)

  -- whether g is taken off
  takes : (r : ℕ) (b : Bool) → (t : Bool) × (shift (suc k) gen r b ⊕ kept t gen ≡ 2 * r + num b)
  unfolding shift
  takes r b = go (dec_lt (2 * r + num b) (2 ^ suc k))
    where
      x : ℕ
      x = 2 * r + num b

      go : Dec (x < 2 ^ suc k) → (t : Bool) × (cond (ltb x (2 ^ suc k)) x (x ⊕ gen) ⊕ kept t gen ≡ x)
      go (yes l) = (false, rw (lt-ltb x (2 ^ suc k) l) (⊕-zero x))
      go (no l) =
          let e : x ⊕ gen ⊕ gen ≡ x = simp xors in
          (true, rw (le-ltb x (2 ^ suc k) (omega arith)) e)

  -- the register's remainder, and the quotient by the steps at which g was taken off
  divided : (r : ℕ) (w : Word) → (q : Word) × ((a : ℕ) → from_coefficients (r ⊕ a) w ≡ register (suc k) gen r w ⊕ times gen a q)
  unfolding from_coefficients register times
  divided r [] = ([], λ a. refl)
  divided r (b ∷ w) =
      let r' : ℕ = shift (suc k) gen r b in
      let t = takes r b in
      let i = divided r' w in (
        t.0 ∷ i.0,
        λ a.
            ap (λ x. from_coefficients x w)
            (step r a b ∙ ap (λ x. x ⊕ 2 * a) (sym t.1)
            ∙ (let e : r' ⊕ kept t.0 gen ⊕ 2 * a ≡ r' ⊕ (2 * a ⊕ kept t.0 gen) = simp xors in e))
            ∙ i.1 (2 * a ⊕ kept t.0 gen),
      )

  -- the register ends at zero exactly if the polynomial is a multiple of g
  pub divides : (w : Word) → (register (suc k) (2 ^ suc k + c) 0 w ≡ 0) ↔ Multiple (2 ^ suc k + c) (from_coefficients 0 w)
  divides w =
      let d = divided 0 w in
      let e : from_coefficients 0 w ≡ register (suc k) gen 0 w ⊕ times gen 0 d.0 = ap (λ x. from_coefficients x w) (sym (zero-⊕ 0)) ∙ d.1 0 in (
        λ z. (d.0, e ∙ ap (λ x. x ⊕ times gen 0 d.0) z ∙ zero-⊕ (times gen 0 d.0)),
        λ m.
            let s = multiples_add gen m.0 d.0 in
            let f : register (suc k) gen 0 w ≡ times gen 0 s.0 =
            (let h : register (suc k) gen 0 w ≡ register (suc k) gen 0 w ⊕ times gen 0 d.0 ⊕ times gen 0 d.0 = sym (simp xors) in h)
            ∙ ap (λ x. x ⊕ times gen 0 d.0) (sym e ∙ m.1) ∙ s.1 in
            f ∙ times_small s.0 (rw f at (register-lt k c small 0 w (pow_pos (suc k)))),
      )
