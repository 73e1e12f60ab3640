-- A remainder is the ⊕ of the remainders of the powers at a word's ones; appended check digits make it zero.
-- Assumes nothing.
use mathlib.Core.Path.{◌≡◌, refl, sym, ap, ap₂, ◌∙◌}
use mathlib.Core.Bool.{Bool, true, false, cond}
use mathlib.Core.List.{List, [], ◌∷◌, ◌++◌}
use Prim.Native.Nat.{ℕ, zero, suc, ◌+◌, ◌*◌, ◌-◌, ◌/◌, ◌%◌, ◌^◌, ◌≤◌, ◌<◌}
use native.Mathlib.Nat.{pow-suc, mul_comm, mul_assoc, mul_left_comm, add-mul, zero-add, zero-mul, one-mul, mul-one, mul-le-mul_left, mul-le-mul_right, mod-eq_of_lt, div-eq_of_lt}
use native.Mathlib.Decide.{dec_lt}
use native.Mathlib.Omega.{arith}
use borrow.Author.Tests.{lt-ltb, le-ltb}
use lib.Bits.{xor_shifted}
use lib.Pow.{pow_pos, high, low, mod-pow-add}
use lib.ListN.{length, replicate, length-replicate}
use Rattle.algebra.specs.Xor.{◌⊕◌}
use Rattle.algebra.specs.Register.{iter, turn}
use Rattle.algebra.specs.Tables.{num, ones}
use Rattle.algebra.specs.Words.{Word, kept, dot}
use Rattle.algebra.specs.Remainder.{shift, register, descend, powers_down, is_odd, binary, systematic}
use Rattle.algebra.proofs.Digits.{num-le, num_odd}
use Rattle.algebra.proofs.XorLaws.{⊕_self, ⊕_assoc, ⊕-zero, zero-⊕, ⊕-lt, xors}
use Rattle.algebra.proofs.WordLaws.{dot-none, ones-++}
use Rattle.algebra.proofs.LinearLaws.{⊕-top, additive_iter}
use Rattle.algebra.proofs.RegisterLaws.{turn_additive, turn-lt, iter-suc, iter-zero, one-lt}

-- a digit beside an even number
pub beside : (x : ℕ) (b : Bool) → 2 * x ⊕ num b ≡ 2 * x + num b
unfolding ◌⊕◌
beside x b = rw mul_comm (xor_shifted x 1 (num b) (omega (arith, num-le b)))

-- ---- room for one more digit

room_step : (r m : ℕ) → (r + 1) * 2 ^ suc m ≡ (2 * r + 2) * 2 ^ m
room_step r m =
    ap (λ x. (r + 1) * x) (pow-suc 2 m ∙ mul_comm (2 ^ m) 2) ∙ sym (mul_assoc (r + 1) 2 (2 ^ m))
    ∙ ap (λ x. x * 2 ^ m) (let e : (r + 1) * 2 ≡ 2 * r + 2 = omega arith in e)

room_lt : (r m : ℕ) (b : Bool) {n : ℕ} → (r + 1) * 2 ^ suc m ≤ n → 2 * r + num b < n
room_lt r m b h =
    omega (arith, num-le b, room_step r m, mul-le-mul_left (2 * r + 2) (pow_pos m), mul-one (2 * r + 2))

room_next : (r m : ℕ) (b : Bool) {n : ℕ} → (r + 1) * 2 ^ suc m ≤ n → (2 * r + num b + 1) * 2 ^ m ≤ n
room_next r m b h =
    let l : 2 * r + num b + 1 ≤ 2 * r + 2 = omega (arith, num-le b) in
    omega (arith, room_step r m, mul-le-mul_right (2 ^ m) l)

whole : (m : ℕ) → (0 + 1) * 2 ^ m ≤ 2 ^ m
whole m = omega (arith, one-mul (2 ^ m))

digits_join : (r m x : ℕ) → (2 * r + num (is_odd (x / 2 ^ m))) * 2 ^ m + x % 2 ^ m ≡ r * 2 ^ suc m + x % 2 ^ suc m
digits_join r m x =
    let y : ℕ = x / 2 ^ m % 2 in
    let e₁ : x % 2 ^ suc m ≡ y * 2 ^ m + x % 2 ^ m = ap (λ e. x % 2 ^ e) (let q : suc m ≡ 1 + m = omega arith in q) ∙ mod-pow-add x 1 m in
    let e₂ : (2 * r + y) * 2 ^ m ≡ r * 2 ^ suc m + y * 2 ^ m =
    add-mul (2 * r) y (2 ^ m)
    ∙ ap (λ z. z + y * 2 ^ m) (mul_assoc 2 r (2 ^ m) ∙ mul_left_comm 2 r (2 ^ m) ∙ ap (λ z. r * z) (mul_comm 2 (2 ^ m) ∙ sym (pow-suc 2 m))) in
    ap (λ z. (2 * r + z) * 2 ^ m + x % 2 ^ m) (num_odd (x / 2 ^ m)) ∙ omega arith

pub binary-length : (m x : ℕ) → length (binary m x) ≡ m
unfolding binary
binary-length zero x = refl
binary-length (suc m) x = ap suc (binary-length m x)

pub ones_none : (m : ℕ) → ones (replicate m false) ≡ 0
unfolding ones
ones_none zero = refl
ones_none (suc m) = zero-add (ones (replicate m false)) ∙ ones_none m

-- g is z^(k+1) and the polynomial c below it
module _ (k c : ℕ) (small : c < 2 ^ suc k) where
  -- one more coefficient is one turn, and the coefficient
  pub shift_turn : (r : ℕ) (b : Bool) → r < 2 ^ suc k → shift (suc k) (2 ^ suc k + c) r b ≡ turn k c r ⊕ num b
  unfolding shift turn
  shift_turn r b h = go (dec_lt (2 * r + num b) (2 ^ suc k))
    where
      go :
          Dec (2 * r + num b < 2 ^ suc k)
          → cond (lib.Dec.ltb (2 * r + num b) (2 ^ suc k)) (2 * r + num b) ((2 * r + num b) ⊕ (2 ^ suc k + c))
          ≡ 2 * r % 2 ^ suc k ⊕ r / 2 ^ k % 2 * c ⊕ num b
      go (yes l) =
          let top : r < 2 ^ k = omega (arith, pow-suc 2 k) in
          let e₁ : 2 * r % 2 ^ suc k ≡ 2 * r = mod-eq_of_lt (omega arith) in
          let e₂ : r / 2 ^ k ≡ 0 = div-eq_of_lt top in
          rw (lt-ltb (2 * r + num b) (2 ^ suc k) l, e₁, e₂, zero-mul, ⊕-zero) (sym (beside r b))
      go (no l) =
          let y : ℕ = r - 2 ^ k in
          let q : r ≡ 1 * 2 ^ k + y = omega (arith, pow-suc 2 k, num-le b) in
          let q₂ : 2 * r ≡ 1 * 2 ^ suc k + 2 * y = omega (arith, pow-suc 2 k) in
          let hy : y < 2 ^ k = omega (arith, pow-suc 2 k) in
          let hy₂ : 2 * y < 2 ^ suc k = omega (arith, pow-suc 2 k) in
          let hy₃ : 2 * y + num b < 2 ^ suc k = omega (arith, pow-suc 2 k, num-le b) in
          let e₁ : 2 * r % 2 ^ suc k ≡ 2 * y = ap (λ m. m % 2 ^ suc k) q₂ ∙ low 1 (suc k) hy₂ in
          let e₂ : r / 2 ^ k ≡ 1 = ap (λ m. m / 2 ^ k) q ∙ high 1 k hy in
          let e₃ : 2 * r + num b ≡ 2 ^ suc k ⊕ (2 * y ⊕ num b) =
          (let e : 2 * r + num b ≡ 2 ^ suc k + (2 * y + num b) = omega arith in e)
          ∙ sym (⊕-top (suc k) hy₃) ∙ ap (λ m. 2 ^ suc k ⊕ m) (sym (beside y b)) in
          rw (le-ltb (2 * r + num b) (2 ^ suc k) (omega arith), e₁, e₂, one-mul, e₃, ← (⊕-top (suc k) small)) (simp xors)

  pub shift-lt : (r : ℕ) (b : Bool) → r < 2 ^ suc k → shift (suc k) (2 ^ suc k + c) r b < 2 ^ suc k
  shift-lt r b h =
      rw shift_turn (⊕-lt (suc k) (turn-lt k small r) (omega (arith, num-le b, pow-suc 2 k, pow_pos k)))

  pub register-lt : (r : ℕ) (w : Word) → r < 2 ^ suc k → register (suc k) (2 ^ suc k + c) r w < 2 ^ suc k
  unfolding register
  register-lt r [] h = h
  register-lt r (b ∷ w) h = register-lt (shift (suc k) (2 ^ suc k + c) r b) w (shift-lt r b h)

  shift-false : (r : ℕ) → r < 2 ^ suc k → shift (suc k) (2 ^ suc k + c) r false ≡ turn k c r
  shift-false r h = shift_turn r false h ∙ ⊕-zero (turn k c r)

  -- the powers, the highest first
  descend-suc :
      (m r : ℕ) (behind : List ℕ) → r < 2 ^ suc k
      → descend (suc k) (2 ^ suc k + c) (suc m) r behind
      ≡ iter m (turn k c) r ∷ descend (suc k) (2 ^ suc k + c) m r behind
  unfolding descend iter
  descend-suc zero r behind h = refl
  descend-suc (suc m) r behind h =
      descend-suc m (shift (suc k) (2 ^ suc k + c) r false) (r ∷ behind) (shift-lt r false h)
      ∙ ap (λ x. iter m (turn k c) x ∷ descend (suc k) (2 ^ suc k + c) (suc m) r behind) (shift-false r h)
      ∙ ap (λ x. x ∷ descend (suc k) (2 ^ suc k + c) (suc m) r behind) (sym (iter-suc m (turn k c) r))

  pub powers_down-suc :
      (m : ℕ) → powers_down (suc k) (2 ^ suc k + c) (suc m) ≡ iter m (turn k c) 1 ∷ powers_down (suc k) (2 ^ suc k + c) m
  powers_down-suc m = descend-suc m 1 [] (one-lt k)

  pub powers_down-length : (m : ℕ) → length (powers_down (suc k) (2 ^ suc k + c) m) ≡ m
  unfolding descend
  powers_down-length zero = refl
  powers_down-length (suc m) = ap length (powers_down-suc m) ∙ ap suc (powers_down-length m)

  -- a coefficient, moved up m times
  moved : (m : ℕ) (b : Bool) → iter m (turn k c) (num b) ≡ kept b (iter m (turn k c) 1)
  moved m true = refl
  moved m false = iter-zero k c m

  dot_first :
      (m : ℕ) (b : Bool) (w : Word)
      → dot (powers_down (suc k) (2 ^ suc k + c) (suc m)) (b ∷ w)
      ≡ kept b (iter m (turn k c) 1) ⊕ dot (powers_down (suc k) (2 ^ suc k + c) m) w
  unfolding dot
  dot_first m b w = ap (λ vs. dot vs (b ∷ w)) (powers_down-suc m)

  start : (r : ℕ) → iter 0 (turn k c) r ⊕ dot (powers_down (suc k) (2 ^ suc k + c) 0) [] ≡ r
  unfolding iter dot descend
  start r = ⊕-zero r

  -- the remainder of r followed by w: r moved past w, and the powers at w's ones
  pub register_dot :
      (r : ℕ) (w : Word) → r < 2 ^ suc k
      → register (suc k) (2 ^ suc k + c) r w
      ≡ iter (length w) (turn k c) r ⊕ dot (powers_down (suc k) (2 ^ suc k + c) (length w)) w
  unfolding register
  register_dot r [] h = sym (start r)
  register_dot r (b ∷ w) h =
      register_dot (shift (suc k) (2 ^ suc k + c) r b) w (shift-lt r b h)
      ∙ ap (λ x. x ⊕ dot (powers_down (suc k) (2 ^ suc k + c) (length w)) w)
      (ap (iter (length w) (turn k c)) (shift_turn r b h)
      ∙ additive_iter (turn k c) (turn_additive k c) (length w) (turn k c r) (num b)
      ∙ ap₂ ◌⊕◌ (sym (iter-suc (length w) (turn k c) r)) (moved (length w) b))
      ∙ ⊕_assoc (iter (suc (length w)) (turn k c) r) (kept b (iter (length w) (turn k c) 1))
      (dot (powers_down (suc k) (2 ^ suc k + c) (length w)) w)
      ∙ ap (λ x. iter (suc (length w)) (turn k c) r ⊕ x) (sym (dot_first (length w) b w))

  pub register-++ :
      (r : ℕ) (w u : Word)
      → register (suc k) (2 ^ suc k + c) r (w ++ u)
      ≡ register (suc k) (2 ^ suc k + c) (register (suc k) (2 ^ suc k + c) r w) u
  unfolding register
  register-++ r [] u = refl
  register-++ r (b ∷ w) u = register-++ (shift (suc k) (2 ^ suc k + c) r b) w u

  -- a coefficient that reaches no 2^(k+1) is only put behind
  shift_small : (r m : ℕ) (b : Bool) → (r + 1) * 2 ^ suc m ≤ 2 ^ suc k → shift (suc k) (2 ^ suc k + c) r b ≡ 2 * r + num b
  unfolding shift
  shift_small r m b h = rw (lt-ltb (2 * r + num b) (2 ^ suc k) (room_lt r m b h))

  -- digits that reach no 2^(k+1) are the number they write
  register_binary :
      (m r x : ℕ) → (r + 1) * 2 ^ m ≤ 2 ^ suc k
      → register (suc k) (2 ^ suc k + c) r (binary m x) ≡ r * 2 ^ m + x % 2 ^ m
  unfolding register binary
  register_binary zero r x h = omega arith
  register_binary (suc m) r x h =
      let b : Bool = is_odd (x / 2 ^ m) in
      ap (λ s. register (suc k) (2 ^ suc k + c) s (binary m x)) (shift_small r m b h)
      ∙ register_binary m (2 * r + num b) x (room_next r m b h) ∙ digits_join r m x

  -- and are zero only where all of them are
  register-zero :
      (r : ℕ) (w : Word) → (r + 1) * 2 ^ length w ≤ 2 ^ suc k → register (suc k) (2 ^ suc k + c) r w ≡ 0
      → (r ≡ 0) × (ones w ≡ 0)
  unfolding register ones
  register-zero r [] h e = (e, refl)
  register-zero r (b ∷ w) h e =
      let s = shift_small r (length w) b h in
      let e' : register (suc k) (2 ^ suc k + c) (2 * r + num b) w ≡ 0 = rw s at e in
      let i = register-zero (2 * r + num b) w (room_next r (length w) b h) e' in
      (omega (arith, i.0), omega (arith, i.0, i.1))

  iter_register : (r : ℕ) (w : Word) → r < 2 ^ suc k → ones w ≡ 0 → register (suc k) (2 ^ suc k + c) r w ≡ iter (length w) (turn k c) r
  iter_register r w h e =
      register_dot r w h
      ∙ ap (λ x. iter (length w) (turn k c) r ⊕ x) (dot-none (powers_down (suc k) (2 ^ suc k + c) (length w)) w e)
      ∙ ⊕-zero (iter (length w) (turn k c) r)

  -- from nothing, only the powers at the ones
  pub register_start :
      (w : Word) → register (suc k) (2 ^ suc k + c) 0 w ≡ dot (powers_down (suc k) (2 ^ suc k + c) (length w)) w
  register_start w =
      register_dot 0 w (pow_pos (suc k))
      ∙ ap (λ x. x ⊕ dot (powers_down (suc k) (2 ^ suc k + c) (length w)) w) (iter-zero k c (length w))
      ∙ zero-⊕ (dot (powers_down (suc k) (2 ^ suc k + c) (length w)) w)

  -- with it no remainder is left
  pub systematic_divisible : (w : Word) → register (suc k) (2 ^ suc k + c) 0 (systematic (suc k) (2 ^ suc k + c) w) ≡ 0
  unfolding systematic
  systematic_divisible w =
      let s : ℕ = register (suc k) (2 ^ suc k + c) 0 w in
      let r : ℕ = register (suc k) (2 ^ suc k + c) 0 (w ++ replicate (suc k) false) in
      let v : Word = binary (suc k) r in
      let hs : s < 2 ^ suc k = register-lt 0 w (pow_pos (suc k)) in
      let hr : r < 2 ^ suc k = register-lt 0 (w ++ replicate (suc k) false) (pow_pos (suc k)) in
      let e₁ : r ≡ iter (suc k) (turn k c) s =
      register-++ 0 w (replicate (suc k) false)
      ∙ iter_register s (replicate (suc k) false) hs (ones_none (suc k))
      ∙ ap (λ m. iter m (turn k c) s) (length-replicate (suc k) false) in
      let e₂ : register (suc k) (2 ^ suc k + c) 0 v ≡ r =
      register_binary (suc k) 0 r (whole (suc k)) ∙ ap₂ ◌+◌ (zero-mul (2 ^ suc k)) (mod-eq_of_lt hr) ∙ zero-add r in
      let e₃ : dot (powers_down (suc k) (2 ^ suc k + c) (length v)) v ≡ r = sym (register_start v) ∙ e₂ in
      let e₄ : iter (length v) (turn k c) s ≡ r =
      ap (λ m. iter m (turn k c) s) (binary-length (suc k) r) ∙ sym e₁ in
      register-++ 0 w v ∙ register_dot s v hs ∙ ap₂ ◌⊕◌ e₄ e₃ ∙ ⊕_self r

  -- zeros leave nothing
  pub register-none : (w : Word) → ones w ≡ 0 → register (suc k) (2 ^ suc k + c) 0 w ≡ 0
  register-none w h = iter_register 0 w (pow_pos (suc k)) h ∙ iter-zero k c (length w)

  -- check digits alone are divisible only where all are zero
  pub divisible_zero :
      (w u : Word) → ones w ≡ 0 → length u ≡ suc k → register (suc k) (2 ^ suc k + c) 0 (w ++ u) ≡ 0 → ones (w ++ u) ≡ 0
  divisible_zero w u hw hu e =
      let z : register (suc k) (2 ^ suc k + c) 0 w ≡ 0 = register-none w hw in
      let e' : register (suc k) (2 ^ suc k + c) 0 u ≡ 0 =
      ap (λ r. register (suc k) (2 ^ suc k + c) r u) (sym z) ∙ sym (register-++ 0 w u) ∙ e in
      let i = register-zero 0 u (rw hu (whole (suc k))) e' in
      ones-++ w u ∙ ap₂ ◌+◌ hw i.1
