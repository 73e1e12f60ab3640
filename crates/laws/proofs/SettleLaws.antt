-- The check bits of a word made those of a codeword, place by place: each place settles the highest digit that is left of the checks.
-- Assumes nothing.
use mathlib.Core.Path.{◌≡◌, refl, sym, ap, ap₂, ◌∙◌}
use mathlib.Core.Logic.{◌≢◌}
use mathlib.Core.Bool.{Bool, true, false, cond, xor}
use mathlib.Core.List.{List, [], ◌∷◌, ◌++◌}
use Prim.Native.Nat.{ℕ, zero, suc, ◌+◌, ◌*◌, ◌-◌, ◌/◌, ◌^◌, ◌≤◌, ◌<◌}
use native.Mathlib.Nat.{pow-suc, mul-lt-mul_of_pos_right, add-zero}
use native.Mathlib.Omega.{arith}
use lib.ListN.{length, take, drop, replicate, length-replicate, get_or-replicate, length-drop, take-append-drop}
use lib.Seq.{drop-cons, length-take-le, get_or-take}
use lib.Pow.{pow-add, shl-shr, pow_pos}
use Rattle.algebra.specs.Xor.{◌⊕◌}
use Rattle.algebra.specs.Tables.{num}
use Rattle.algebra.specs.Words.{Word, bit, ◌⊻◌, kept, dot}
use Rattle.algebra.specs.Remainder.{powers_down, descend}
use Rattle.algebra.proofs.XorLaws.{⊕-lt, ⊕-zero, zero-⊕, ⊕_assoc, ⊕_comm, ⊕_cancel}
use Rattle.algebra.proofs.Digits.{num-le}
use Rattle.algebra.proofs.LinearLaws.{⊕-top}
use Rattle.algebra.proofs.WordLaws.{xor_self, ⊻-length, ⊻-bit}
use Rattle.rules.specs.Codes.{Code, check_bits, data_bits}
use Rattle.rules.specs.Words.{placed, front_bits, checks, values}
use Rattle.rules.proofs.Laws.Shape.{word_ext}
use Rattle.rules.proofs.Laws.CodeLaws.{Sound, top, degree_is, powers_first}
use Rattle.rules.proofs.Laws.CheckLaws.{checks_dot, checks-⊻, codeword_checks, zeros_ahead}
use Rattle.rules.proofs.Laws.EncodeWordLaws.{encode-length, encode_data, encode_codeword}
use Rattle.laws.specs.InPlace.{most_bits, word_at, Inside, flip_at, put_bit, put}
use Rattle.laws.specs.Turns.{completed}
use Rattle.laws.proofs.InPlaceLaws.{word_at-length, word_at-bit, put_out}
use Rattle.laws.proofs.CheckLoopLaws.{place_inside}

-- ---- the values of the last places

-- of the last k + 1: powers of two, each with its parity, and 1 at the very last
unfoldable pub last_values : Bool → ℕ → List ℕ
last_values b zero = 1 ∷ []
last_values b (suc k) = (2 ^ suc k + num b) ∷ last_values b k

-- what the bits of e from place m on owe, the last k + 1
unfoldable pub owed : Bool → ℕ → ℕ → Word → ℕ
owed b k m e = dot (last_values b k) (drop m e)

-- the check bits before the last, and the highest digit of the checks
abbrev pub top_digit : Code → ℕ
top_digit code = check_bits code - 1

module _ (code : Code) (ok : Sound code) where
  with_parity_lem :
      (m : ℕ) → m ≤ code.degree
      → placed true (powers_down code.degree code.generator m) ≡ last_values true m
  unfolding last_values descend
  with_parity_lem zero h = refl
  with_parity_lem (suc m) h =
      ap (placed true) (powers_first code ok m h)
      ∙ ap₂ ◌∷◌ (let e : 2 * 2 ^ m + 1 ≡ 2 ^ suc m + 1 = omega (arith, pow-suc 2 m) in e) (with_parity_lem m (omega arith))

  without : (m : ℕ) → m < code.degree → powers_down code.degree code.generator (suc m) ≡ last_values false m
  unfolding last_values descend
  without zero h = powers_first code ok 0 h
  without (suc m) h = powers_first code ok (suc m) h ∙ ap₂ ◌∷◌ (sym (add-zero (2 ^ suc m))) (without m (omega arith))

  settled :
      (b : Bool) → placed b (powers_down code.degree code.generator code.degree) ≡ last_values b (code.degree + num b - 1)
  settled true =
      let e : code.degree ≡ code.degree + 1 - 1 = omega arith in
      with_parity_lem code.degree (omega arith) ∙ ap (last_values true) e
  settled false =
      let e : top code ok ≡ code.degree + 0 - 1 = omega arith in
      ap (powers_down code.degree code.generator) (degree_is code ok) ∙ without (top code ok) (omega arith) ∙ ap (last_values false) e

  values_last : values code (check_bits code) ≡ last_values code.extended (top_digit code)
  unfolding values
  values_last =
      let e : front_bits code (check_bits code) ≡ code.degree = omega arith in
      ap (λ m. placed code.extended (powers_down code.degree code.generator m)) e ∙ settled code.extended

dot_nothing : (e : Word) → dot [] e ≡ 0
unfolding dot
dot_nothing [] = refl
dot_nothing (b ∷ e) = refl

last_one : (p b : Bool) (e : Word) → dot (last_values p 0) (b ∷ e) ≡ num b
unfolding dot last_values
last_one p b e = ap (λ x. kept b 1 ⊕ x) (dot_nothing e) ∙ ⊕-zero (kept b 1) ∙ same b
  where
    same : (b : Bool) → kept b 1 ≡ num b
    same true = refl
    same false = refl

last_lt : (p : Bool) (k : ℕ) (e : Word) → dot (last_values p k) e < 2 ^ suc k
unfolding dot last_values
last_lt p zero [] = omega arith
last_lt p zero (b ∷ e) = omega (arith, last_one p b e, num-le b)
last_lt p (suc k) [] = pow_pos (suc (suc k))
last_lt p (suc k) (b ∷ e) = ⊕-lt (suc (suc k)) (small b) (omega (arith, last_lt p k e, pow-suc 2 (suc k)))
  where
    small : (b : Bool) → kept b (2 ^ suc k + num p) < 2 ^ suc (suc k)
    small true = omega (arith, num-le p, pow-suc 2 (suc k), pow-suc 2 k, pow_pos k)
    small false = pow_pos (suc (suc k))

owed-lt : (p : Bool) (k m : ℕ) (e : Word) → owed p k m e < 2 ^ suc k
unfolding owed
owed-lt p k m e = last_lt p k (drop m e)

owed_next :
    (p : Bool) (k m : ℕ) (e : Word) → m < length e → owed p (suc k) m e ≡ kept (bit e m) (2 ^ suc k + num p) ⊕ owed p k (suc m) e
unfolding owed dot last_values bit
owed_next p k m e h = ap (dot (last_values p (suc k))) (drop-cons e m false h)

owed_end : (p : Bool) (m : ℕ) (e : Word) → m < length e → owed p 0 m e ≡ num (bit e m)
unfolding owed bit
owed_end p m e h = ap (dot (last_values p 0)) (drop-cons e m false h) ∙ last_one p (bit e m) (drop (suc m) e)

-- ---- one place

-- the digit 2^(k+1) is left exactly if the place is wrong, and changing it leaves what the others owe
module _ (p : Bool) (k : ℕ) where
  -- a wrong place owes at least its value's highest digit
  high : (y : ℕ) → y < 2 ^ suc k → 2 ^ suc k ≤ (2 ^ suc k + num p) ⊕ y
  high y h =
      let one : num p < 2 ^ suc k = omega (arith, num-le p, pow-suc 2 k, pow_pos k) in
      let e : (2 ^ suc k + num p) ⊕ y ≡ 2 ^ suc k + (num p ⊕ y) =
      ap (λ x. x ⊕ y) (sym (⊕-top (suc k) one)) ∙ ⊕_assoc (2 ^ suc k) (num p) y ∙ ⊕-top (suc k) (⊕-lt (suc k) one h) in
      omega arith

  taken :
      (b : Bool) (y left : ℕ) → y < 2 ^ suc k → left ≡ kept b (2 ^ suc k + num p) ⊕ y → 2 ^ suc k ≤ left
      → (b ≡ true) × (left ⊕ (2 ^ suc k + num p) ≡ y)
  taken true y left h e l =
      (refl, ap (λ x. x ⊕ (2 ^ suc k + num p)) e ∙ ⊕_comm ((2 ^ suc k + num p) ⊕ y) (2 ^ suc k + num p) ∙ ⊕_cancel (2 ^ suc k + num p) y)
  taken false y left h e l = absurd (omega (arith, zero-⊕ y))

  passed :
      (b : Bool) (y left : ℕ) → y < 2 ^ suc k → left ≡ kept b (2 ^ suc k + num p) ⊕ y → left < 2 ^ suc k
      → (b ≡ false) × (left ≡ y)
  passed true y left h e l = absurd (omega (arith, high y h))
  passed false y left h e l = (refl, e ∙ zero-⊕ y)

-- ---- the checks of a word that begins with zeros

zeros_first : (k : ℕ) (e : Word) → k ≤ length e → ((i : ℕ) → i < k → bit e i ≡ false) → e ≡ replicate k false ++ drop k e
unfolding bit
zeros_first k e l h =
    sym (take-append-drop k e)
    ∙ ap (λ z. z ++ drop k e)
    (word_ext k (take k e) (replicate k false) (length-take-le k e l) (length-replicate k false)
    (λ i hi. get_or-take k e i false hi ∙ h i hi ∙ sym (get_or-replicate k i false false hi)))

-- only the last places owe anything
checks_owed :
    (code : Code) (ok : Sound code) (k : ℕ) (e : Word) → length e ≡ k + check_bits code → ((i : ℕ) → i < k → bit e i ≡ false)
    → checks code (k + check_bits code) e ≡ owed code.extended (top_digit code) k e
unfolding owed
checks_owed code ok k e l h =
    let some : 1 ≤ check_bits code = omega arith in
    ap (checks code (k + check_bits code)) (zeros_first k e (omega arith) h)
    ∙ zeros_ahead code ok (check_bits code) k (drop k e) some
    ∙ checks_dot code ok (check_bits code) (drop k e) some (length-drop k e ∙ (let d : length e - k ≡ check_bits code = omega arith in d))
    ∙ ap (λ vs. dot vs (drop k e)) (values_last code ok)

-- ---- a word in place

-- the bits that encoding changes
unfoldable pub wrong : Code → ℕ → List ℕ → ℕ → ℕ → Word
wrong code n s start step = let w : Word = word_at n s start step in w ⊻ completed code n w

module _ (code : Code) (ok : Sound code) (n : ℕ) (s : List ℕ) (start step : ℕ) (from : code.shortest ≤ n) where
  front_length : length (take (data_bits code n) (word_at n s start step)) ≡ data_bits code n
  front_length = length-take-le (data_bits code n) (word_at n s start step) (omega (arith, word_at-length n s start step))

  whole_length : length (completed code n (word_at n s start step)) ≡ n
  whole_length = encode-length code ok n (take (data_bits code n) (word_at n s start step)) from front_length

  same_length : length (word_at n s start step) ≡ length (completed code n (word_at n s start step))
  same_length = word_at-length n s start step ∙ sym whole_length

  wrong-length : length (wrong code n s start step) ≡ n
  unfolding wrong
  wrong-length = ⊻-length (word_at n s start step) (completed code n (word_at n s start step)) same_length ∙ word_at-length n s start step

  -- no data bit is wrong
  wrong_data : (i : ℕ) → i < data_bits code n → bit (wrong code n s start step) i ≡ false
  unfolding wrong bit
  wrong_data i h =
      let w : Word = word_at n s start step in
      ⊻-bit w (completed code n w) same_length i
      ∙ ap (xor (bit w i)) (encode_data code (take (data_bits code n) w) i (omega (arith, front_length)) ∙ get_or-take (data_bits code n) w i false h)
      ∙ xor_self (bit w i)

  -- and the wrong bits owe the word's checks
  wrong_checks : checks code n (word_at n s start step) ≡ owed code.extended (top_digit code) (data_bits code n) (wrong code n s start step)
  unfolding wrong
  wrong_checks =
      let w : Word = word_at n s start step in
      let u : Word = completed code n w in
      let z : checks code n u ≡ 0 = codeword_checks code n u (encode_codeword code ok n (take (data_bits code n) w) from front_length) in
      let p : n ≡ data_bits code n + check_bits code = omega arith in
      sym (⊕-zero (checks code n w)) ∙ ap (λ x. checks code n w ⊕ x) (sym z)
      ∙ sym (checks-⊻ code ok n w u (omega arith) (word_at-length n s start step) whole_length)
      ∙ ap (λ m. checks code m (w ⊻ u)) p ∙ checks_owed code ok (data_bits code n) (w ⊻ u) (wrong-length ∙ p) wrong_data

  -- one more bit put: flipped where it is wrong
  put_next :
      (m : ℕ) → 1 ≤ step → m < n
      → put (suc m) s start step (completed code n (word_at n s start step))
      ≡ cond (bit (wrong code n s start step) m)
      (flip_at (put m s start step (completed code n (word_at n s start step))) (start + m * step))
      (put m s start step (completed code n (word_at n s start step)))
  unfolding put put_bit wrong
  put_next m pos h =
      let w : Word = word_at n s start step in
      let u : Word = completed code n w in
      ap (λ b. cond b (flip_at (put m s start step u) (start + m * step)) (put m s start step u))
      (ap (λ c. xor c (bit u m))
      (put_out m s start step u (start + m * step) (λ i hi e. omega (arith, mul-lt-mul_of_pos_right hi pos))
      ∙ sym (word_at-bit n s start step m h))
      ∙ sym (⊻-bit w u same_length m))

  -- the data stands there already
  put_data : (m : ℕ) → 1 ≤ step → m ≤ data_bits code n → put m s start step (completed code n (word_at n s start step)) ≡ s
  unfolding put
  put_data zero pos h = refl
  put_data (suc m) pos h =
      put_next m pos (omega arith)
      ∙ ap (λ b. cond b
      (flip_at (put m s start step (completed code n (word_at n s start step))) (start + m * step))
      (put m s start step (completed code n (word_at n s start step)))) (wrong_data m h)
      ∙ put_data m pos (omega arith)

-- ---- the loop

-- the data and the first j check bits are put, and `left` is what the others owe
pub record Settling (code : Code) (n : ℕ) (s₀ : List ℕ) (start step j : ℕ) (s : List ℕ) (left : ℕ) : Type 0 where
  pub inside : Inside code n s₀ start step
  pub turns : j ≤ top_digit code
  pub there : s ≡ put (data_bits code n + j) s₀ start step (completed code n (word_at n s₀ start step))
  pub owes : left ≡ owed code.extended (top_digit code - j) (data_bits code n + j) (wrong code n s₀ start step)

-- the sums and products on the way to a place fit
pub places_fit :
    (code : Code) (ok : Sound code) (n : ℕ) (s : List ℕ) (start step : ℕ) → Inside code n s start step
    → (step ≤ most_bits) × (data_bits code n * step ≤ most_bits) × (start + data_bits code n * step ≤ most_bits)
places_fit code ok n s start step i =
    omega (arith, place_inside code n s start step 1 i (omega arith), place_inside code n s start step (data_bits code n) i (omega arith))

pub settle_start :
    (code : Code) (ok : Sound code) {n : ℕ} {s₀ : List ℕ} {start step left : ℕ} → Inside code n s₀ start step → left ≡ checks code n (word_at n s₀ start step)
    → Settling code n s₀ start step 0 s₀ left
settle_start code ok {n} {s₀} {start} {step} i e =
    let z : data_bits code n ≡ data_bits code n + 0 = omega arith in
    let y : top_digit code ≡ top_digit code - 0 = omega arith in
    record {
      inside = i;
      turns = omega arith;
      there = sym (put_data code ok n s₀ start step i.0 (data_bits code n + 0) i.3 (omega arith));
      owes = e ∙ wrong_checks code ok n s₀ start step i.0 ∙ ap₂ (λ k m. owed code.extended k m (wrong code n s₀ start step)) y z;
    }

module _
    (code : Code) (ok : Sound code) {n : ℕ} {s₀ : List ℕ} {start step j : ℕ} {s : List ℕ} {left : ℕ}
    (c : Settling code n s₀ start step j s left) where
  u : Word
  u = completed code n (word_at n s₀ start step)

  -- this place in the buffer, and the highest digit of its value
  abbrev here : ℕ
  here = start + (data_bits code n + j) * step

  abbrev digit : ℕ
  digit = 2 ^ (top_digit code - j)

  -- as the program shifts it down
  pub settle_digit : 2 ^ top_digit code / 2 ^ j ≡ digit
  settle_digit =
      let e : top_digit code ≡ top_digit code - j + j = omega (arith, c.turns) in
      ap (λ (m : ℕ). 2 ^ m / 2 ^ j) e ∙ ap (λ (m : ℕ). m / 2 ^ j) (pow-add 2 (top_digit code - j) j) ∙ shl-shr digit j

  -- what is put next, and what is owed then
  next :
      (t : List ℕ) (left' : ℕ) → j < top_digit code
      → t ≡ cond (bit (wrong code n s₀ start step) (data_bits code n + j)) (flip_at s here) s
      → left' ≡ owed code.extended (top_digit code - (j + 1)) (suc (data_bits code n + j)) (wrong code n s₀ start step)
      → Settling code n s₀ start step (j + 1) t left'
  unfolding u
  next t left' h e o =
      let p : suc (data_bits code n + j) ≡ data_bits code n + (j + 1) = omega arith in
      let now : t ≡ put (data_bits code n + (j + 1)) s₀ start step u =
      e
      ∙ ap (λ r. cond (bit (wrong code n s₀ start step) (data_bits code n + j)) (flip_at r here) r) c.there
      ∙ sym (put_next code ok n s₀ start step c.inside.0 (data_bits code n + j) c.inside.3 (omega arith))
      ∙ ap (λ m. put m s₀ start step u) p in
      record {
        inside = c.inside;
        turns = omega arith;
        there = now;
        owes = o ∙ ap (λ m. owed code.extended (top_digit code - (j + 1)) m (wrong code n s₀ start step)) p;
      }

  -- what is owed, by this place's bit
  owes_next :
      j < top_digit code
      → left
      ≡ kept (bit (wrong code n s₀ start step) (data_bits code n + j)) (2 ^ suc (top_digit code - (j + 1)) + num code.extended)
      ⊕ owed code.extended (top_digit code - (j + 1)) (suc (data_bits code n + j)) (wrong code n s₀ start step)
  owes_next h =
      let e : Word = wrong code n s₀ start step in
      let q : top_digit code - j ≡ suc (top_digit code - (j + 1)) = omega arith in
      c.owes ∙ ap (λ k. owed code.extended k (data_bits code n + j) e) q
      ∙ owed_next code.extended (top_digit code - (j + 1)) (data_bits code n + j) e (omega (arith, wrong-length code ok n s₀ start step c.inside.0))

  digit_next : j < top_digit code → digit ≡ 2 ^ suc (top_digit code - (j + 1))
  digit_next h = let q : top_digit code - j ≡ suc (top_digit code - (j + 1)) = omega arith in ap (λ e. 2 ^ e) q

  pub settle_flip :
      {t : List ℕ} {left' : ℕ} → j < top_digit code → digit ≤ left → t ≡ flip_at s here → left' ≡ left ⊕ (digit + num code.extended)
      → Settling code n s₀ start step (j + 1) t left'
  settle_flip {t} {left'} h l et el =
      let k : ℕ = top_digit code - (j + 1) in
      let e : Word = wrong code n s₀ start step in
      let r =
      taken code.extended k (bit e (data_bits code n + j)) (owed code.extended k (suc (data_bits code n + j)) e) left (owed-lt code.extended k (suc (data_bits code n + j)) e) (owes_next h)
      (omega (arith, digit_next h)) in
      next t left' h
      (et ∙ ap (λ b. cond b (flip_at s here) s) (sym r.0))
      (el ∙ ap (λ y. left ⊕ (y + num code.extended)) (digit_next h) ∙ r.1)

  pub settle_keep :
      {t : List ℕ} {left' : ℕ} → j < top_digit code → left < digit → t ≡ s → left' ≡ left → Settling code n s₀ start step (j + 1) t left'
  settle_keep {t} {left'} h l et el =
      let k : ℕ = top_digit code - (j + 1) in
      let e : Word = wrong code n s₀ start step in
      let r =
      passed code.extended k (bit e (data_bits code n + j)) (owed code.extended k (suc (data_bits code n + j)) e) left (owed-lt code.extended k (suc (data_bits code n + j)) e) (owes_next h)
      (omega (arith, digit_next h)) in
      next t left' h (et ∙ ap (λ b. cond b (flip_at s here) s) (sym r.0)) (el ∙ r.1)

  -- the last place, after the loop
  last :
      top_digit code ≤ j
      → (left ≡ num (bit (wrong code n s₀ start step) (n - 1)))
      × (cond (bit (wrong code n s₀ start step) (n - 1)) (flip_at s (start + (n - 1) * step)) s ≡ put n s₀ start step u)
  unfolding u
  last lo =
      let e : Word = wrong code n s₀ start step in
      let hi : j ≤ top_digit code = c.turns in
      let z : top_digit code - j ≡ 0 = omega arith in
      let p : data_bits code n + j ≡ n - 1 = omega arith in
      let q : suc (n - 1) ≡ n = omega arith in (
        c.owes ∙ ap₂ (λ k m. owed code.extended k m e) z p ∙ owed_end code.extended (n - 1) e (omega (arith, wrong-length code ok n s₀ start step c.inside.0)),
        ap (λ r. cond (bit e (n - 1)) (flip_at r (start + (n - 1) * step)) r) (c.there ∙ ap (λ m. put m s₀ start step u) p)
            ∙ sym (put_next code ok n s₀ start step c.inside.0 (n - 1) c.inside.3 (omega arith))
            ∙ ap (λ m. put m s₀ start step u) q,
      )

  pub settle_end_flip :
      top_digit code ≤ j → left ≡ 1 → flip_at s (start + (n - 1) * step) ≡ put n s₀ start step (completed code n (word_at n s₀ start step))
  unfolding u
  settle_end_flip lo l = let r = last lo in go (bit (wrong code n s₀ start step) (n - 1)) r.0 r.1
    where
      go : (b : Bool) → left ≡ num b → cond b (flip_at s (start + (n - 1) * step)) s ≡ put n s₀ start step u → flip_at s (start + (n - 1) * step) ≡ put n s₀ start step u
      go true e h = h
      go false e h = absurd (omega arith)

  pub settle_end_keep : top_digit code ≤ j → left ≢ 1 → s ≡ put n s₀ start step (completed code n (word_at n s₀ start step))
  unfolding u
  settle_end_keep lo l = let r = last lo in go (bit (wrong code n s₀ start step) (n - 1)) r.0 r.1
    where
      go : (b : Bool) → left ≡ num b → cond b (flip_at s (start + (n - 1) * step)) s ≡ put n s₀ start step u → s ≡ put n s₀ start step u
      go true e h = absurd (l e)
      go false e h = h
