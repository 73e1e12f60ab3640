-- A word mended in place: flipping the places that its answer names, one after another, puts the mended word there.
-- Assumes nothing.
use mathlib.Core.Path.{◌≡◌, refl, sym, ap, ap₂, ◌∙◌}
use mathlib.Core.Logic.{◌≢◌, ◌⊎◌, inl, inr}
use mathlib.Core.Bool.{Bool, true, false, not, xor, ◌||◌}
use mathlib.Core.List.{List, [], ◌∷◌}
use mathlib.Core.Option.{Option, some, none}
use Prim.Native.Nat.{ℕ, zero, suc, ◌+◌, ◌*◌, ◌≤◌, ◌<◌}
use native.Mathlib.Decide.{dec_lt, ℕ_discrete}
use native.Mathlib.Omega.{arith}
use borrow.Author.Tests.{eq-eqb, ne_eqb}
use lib.ListN.{length}
use Rattle.algebra.specs.Words.{Word, bit}
use Rattle.rules.specs.Codes.{Code}
use Rattle.rules.specs.Words.{checks, answer, places, is_in, changed, mend}
use Rattle.rules.specs.Bits.{bit_at}
use Rattle.rules.proofs.Laws.CodeLaws.{Sound}
use Rattle.rules.proofs.Laws.PatternLaws.{Rising, changed_bit}
use Rattle.rules.proofs.Promises.Answers.{Fits, answer-fits}
use Rattle.laws.specs.InPlace.{word_at, flip_at, put, Inside}
use Rattle.laws.specs.Located.{located}
use Rattle.laws.proofs.InPlaceLaws.{Bytes, word_at-length, word_at-bit, flip_at-length, flip_at_byte, flip_at-same, flip_at-other, put-length, put_byte, put_in, put_out, bits_ext, apart}
use Rattle.laws.proofs.CheckLoopLaws.{place_inside}

-- ---- what a put word is known by

-- a bit of the buffer is one of the word's, or none of them
place_of :
    (n start step x : ℕ) → ((j : ℕ) × (j < n) × (x ≡ start + j * step)) ⊎ ((j : ℕ) → j < n → x ≢ start + j * step)
place_of zero start step x = inr (λ j l. absurd (omega arith))
place_of (suc n) start step x = go (ℕ_discrete x (start + n * step)) (place_of n start step x)
  where
    go :
        Dec (x ≡ start + n * step)
        → ((j : ℕ) × (j < n) × (x ≡ start + j * step)) ⊎ ((j : ℕ) → j < n → x ≢ start + j * step)
        → ((j : ℕ) × (j < suc n) × (x ≡ start + j * step)) ⊎ ((j : ℕ) → j < suc n → x ≢ start + j * step)
    go (yes e) rest = inl (n, omega arith, e)
    go (no e) (inl (j, l, q)) = inl (j, omega arith, q)
    go (no e) (inr past) = inr (λ j l. other j l (ℕ_discrete j n))
      where
        other : (j : ℕ) → j < suc n → Dec (j ≡ n) → x ≢ start + j * step
        other j l (yes q) = λ r. e (r ∙ ap (λ (i : ℕ). start + i * step) q)
        other j l (no q) = past j (omega (arith, q))

-- the word's bits stand in their places, and all else is as it was
pub put_is :
    (code : Code) (n : ℕ) (s t : List ℕ) (start step : ℕ) (u : Word) → Inside code n s start step → Bytes s → Bytes t → length t ≡ length s
    → ((j : ℕ) → j < n → bit_at t (start + j * step) ≡ bit u j)
    → ((x : ℕ) → ((j : ℕ) → j < n → x ≢ start + j * step) → bit_at t x ≡ bit_at s x)
    → t ≡ put n s start step u
put_is code n s t start step u h bs bt l inside past =
    bits_ext t (put n s start step u) (l ∙ sym (put-length n s start step u)) bt (put_byte n s start step u bs)
    (λ x hx. go x (place_of n start step x))
  where
    go :
        (x : ℕ) → ((j : ℕ) × (j < n) × (x ≡ start + j * step)) ⊎ ((j : ℕ) → j < n → x ≢ start + j * step)
        → bit_at t x ≡ bit_at (put n s start step u) x
    go x (inl (j, k, e)) =
        rw e (inside j k ∙ sym (put_in n s start step u j h.3 k (place_inside code n s start step j h (omega arith))))
    go x (inr out) = past x out ∙ sym (put_out n s start step u x out)

-- ---- places flipped one after another

abbrev pub flips : List ℕ → ℕ → ℕ → List ℕ → List ℕ
flips s start step [] = s
flips s start step (p ∷ ps) = flips (flip_at s (start + p * step)) start step ps

flips-length : (s : List ℕ) (start step : ℕ) (ps : List ℕ) → length (flips s start step ps) ≡ length s
flips-length s start step [] = refl
flips-length s start step (p ∷ ps) =
    flips-length (flip_at s (start + p * step)) start step ps ∙ flip_at-length s (start + p * step)

flips_byte : (s : List ℕ) (start step : ℕ) (ps : List ℕ) → Bytes s → Bytes (flips s start step ps)
flips_byte s start step [] b = b
flips_byte s start step (p ∷ ps) b = flips_byte (flip_at s (start + p * step)) start step ps (flip_at_byte s (start + p * step) b)

flips_out :
    (m n : ℕ) (s : List ℕ) (start step : ℕ) (ps : List ℕ) (x : ℕ) → Rising m n ps → ((j : ℕ) → j < n → x ≢ start + j * step)
    → bit_at (flips s start step ps) x ≡ bit_at s x
flips_out m n s start step [] x r h = refl
flips_out m n s start step (p ∷ ps) x r h =
    flips_out (suc p) n (flip_at s (start + p * step)) start step ps x r.2 h ∙ flip_at-other s (start + p * step) x (h p r.1)

is_in_before : (m n : ℕ) (ps : List ℕ) (j : ℕ) → Rising m n ps → j < m → is_in j ps ≡ false
unfolding is_in
is_in_before m n [] j r h = refl
is_in_before m n (p ∷ ps) j r h =
    ap₂ ◌||◌ (ne_eqb j p (λ q. omega (arith, q, r.0))) (is_in_before (suc p) n ps j r.2 (omega (arith, r.0)))

xor-false : (b : Bool) → xor false b ≡ b
unfolding xor
xor-false true = refl
xor-false false = refl

xor-true : (b : Bool) → xor true b ≡ not b
unfolding xor
xor-true true = refl
xor-true false = refl

same_place : (start step j p : ℕ) → 1 ≤ step → start + j * step ≡ start + p * step → j ≡ p
same_place start step j p h e = go (dec_lt j p) (dec_lt p j)
  where
    go : Dec (j < p) → Dec (p < j) → j ≡ p
    go (yes l) k = absurd (omega (arith, e, apart j p step h l))
    go (no l) (yes k) = absurd (omega (arith, e, apart p j step h k))
    go (no l) (no k) = omega (arith, l, k)

flips_in :
    (m n : ℕ) (s : List ℕ) (start step : ℕ) (ps : List ℕ) (j : ℕ) → Rising m n ps → 1 ≤ step → start + j * step < length s * 8
    → bit_at (flips s start step ps) (start + j * step) ≡ xor (is_in j ps) (bit_at s (start + j * step))
unfolding is_in
flips_in m n s start step [] j r h b = sym (xor-false (bit_at s (start + j * step)))
flips_in m n s start step (p ∷ ps) j r h b =
    flips_in (suc p) n (flip_at s (start + p * step)) start step ps j r.2 h (rw (flip_at-length s (start + p * step)) b)
    ∙ go (ℕ_discrete j p)
  where
    go :
        Dec (j ≡ p)
        → xor (is_in j ps) (bit_at (flip_at s (start + p * step)) (start + j * step)) ≡ xor (is_in j (p ∷ ps)) (bit_at s (start + j * step))
    go (yes e) =
        let here : start + j * step ≡ start + p * step = ap (λ (i : ℕ). start + i * step) e in
        let low : start + p * step < length s * 8 = rw here at b in
        ap₂ xor (is_in_before (suc p) n ps j r.2 (omega arith)) (rw here (flip_at-same s (start + p * step) low))
        ∙ xor-false (not (bit_at s (start + p * step)))
        ∙ sym (xor-true (bit_at s (start + p * step)))
        ∙ ap₂ (λ c x. xor (c || is_in j ps) (bit_at s x)) (sym (eq-eqb j p e)) (sym here)
    go (no e) =
        ap (xor (is_in j ps)) (flip_at-other s (start + p * step) (start + j * step) (λ q. e (same_place start step j p h q)))
        ∙ ap (λ c. xor (c || is_in j ps) (bit_at s (start + j * step))) (sym (ne_eqb j p e))

-- ---- the answer's places

pub places_rise :
    (code : Code) (ok : Sound code) (n : ℕ) (w : Word) → code.shortest ≤ n → length w ≡ n → Rising 0 n (places (answer code n w))
places_rise code ok n w h l = go (answer code n w) (answer-fits code ok n h w l)
  where
    go : (a : Option (List ℕ)) → Fits code n w a → Rising 0 n (places a)
    go (some ps) k = k.0
    go none k = tt

-- the answer by the checks alone
pub located_answer : (code : Code) (n : ℕ) (w : Word) (x : ℕ) → x ≡ checks code n w → located code n x ≡ answer code n w
unfolding located answer
located_answer code n w x e = ap (located code n) e

pub mend_in_place :
    (code : Code) (ok : Sound code) (n : ℕ) (s : List ℕ) (start step : ℕ) → Inside code n s start step → Bytes s
    → flips s start step (places (answer code n (word_at n s start step))) ≡ put n s start step (mend code n (word_at n s start step))
unfolding mend
mend_in_place code ok n s start step h b =
    let w : Word = word_at n s start step in
    let ps : List ℕ = places (answer code n w) in
    let long : length w ≡ n = word_at-length n s start step in
    let r : Rising 0 n ps = places_rise code ok n w h.0 long in
    put_is code n s (flips s start step ps) start step (changed ps w) h b (flips_byte s start step ps b) (flips-length s start step ps)
    (λ j l.
    flips_in 0 n s start step ps j r h.3 (place_inside code n s start step j h (omega arith))
    ∙ sym (changed_bit ps w j (omega arith) ∙ ap (xor (is_in j ps)) (word_at-bit n s start step j l)))
    (λ x out. flips_out 0 n s start step ps x r out)
