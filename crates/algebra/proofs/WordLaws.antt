-- Words of one length under ⊻, the number of places in which they differ, and the ⊕ of the values at their ones.
-- Assumes nothing.
use mathlib.Core.Path.{◌≡◌, refl, sym, ap, ap₂, ◌∙◌}
use mathlib.Core.Bool.{Bool, true, false, xor}
use mathlib.Core.List.{List, [], ◌∷◌, ◌++◌}
use Prim.Native.Nat.{ℕ, zero, suc, ◌+◌, ◌≤◌, ◌<◌}
use native.Mathlib.Omega.{arith}
use lib.Dec.{eqb, eqb-zero-suc, eqb-suc-zero, eqb-suc-suc}
use lib.ListN.{length, get_or}
use Rattle.algebra.specs.Xor.{◌⊕◌}
use Rattle.algebra.specs.Tables.{tab, num, ones, total}
use Rattle.algebra.specs.Words.{Word, bit, ◌⊻◌, differ, kept, dot}
use Rattle.algebra.proofs.Digits.{num-le}
use Rattle.algebra.proofs.XorLaws.{⊕_swap, ⊕_self, ⊕-zero, zero-⊕, ⊕_assoc}
use Rattle.algebra.proofs.TableLaws.{num-zero, tab-suc, tab_is, tab_ext, zero-count, count_total, count_most, total-add}

-- ---- xor of two bits

pub xor_self : (b : Bool) → xor b b ≡ false
unfolding xor
xor_self true = refl
xor_self false = refl

pub xor_comm : (b c : Bool) → xor b c ≡ xor c b
unfolding xor
xor_comm true true = refl
xor_comm true false = refl
xor_comm false true = refl
xor_comm false false = refl

pub xor_cancel : (b c : Bool) → xor b (xor b c) ≡ c
unfolding xor
xor_cancel true true = refl
xor_cancel true false = refl
xor_cancel false true = refl
xor_cancel false false = refl

pub xor_false→≡ : (b c : Bool) → xor b c ≡ false → b ≡ c
unfolding xor
xor_false→≡ true true e = refl
xor_false→≡ true false e = e
xor_false→≡ false true e = sym e
xor_false→≡ false false e = refl

xor-num : (b c : Bool) → num (xor b c) ≤ num b + num c
unfolding xor
xor-num true true = omega arith
xor-num true false = omega arith
xor-num false true = omega arith
xor-num false false = omega arith

xor_way : (b c d : Bool) → num (xor b d) ≤ num (xor b c) + num (xor c d)
unfolding xor
xor_way true true d = omega arith
xor_way true false d = omega (arith, num-le (xor true d))
xor_way false true d = omega (arith, num-le (xor false d))
xor_way false false d = omega arith

-- ---- words of one length

pub ⊻-length : (w u : Word) → length w ≡ length u → length (w ⊻ u) ≡ length w
unfolding ◌⊻◌
⊻-length [] [] h = refl
⊻-length [] (c ∷ u) h = refl
⊻-length (b ∷ w) [] h = sym h
⊻-length (b ∷ w) (c ∷ u) h = ap suc (⊻-length w u (omega arith))

pub ⊻-bit : (w u : Word) → length w ≡ length u → (j : ℕ) → bit (w ⊻ u) j ≡ xor (bit w j) (bit u j)
unfolding ◌⊻◌ bit xor
⊻-bit [] [] h j = refl
⊻-bit [] (c ∷ u) h j = absurd (omega arith)
⊻-bit (b ∷ w) [] h j = absurd (omega arith)
⊻-bit (b ∷ w) (c ∷ u) h zero = refl
⊻-bit (b ∷ w) (c ∷ u) h (suc j) = ⊻-bit w u (omega arith) j

pub ⊻_cancel : (w u : Word) → length w ≡ length u → w ⊻ (w ⊻ u) ≡ u
unfolding ◌⊻◌
⊻_cancel [] [] h = refl
⊻_cancel [] (c ∷ u) h = absurd (omega arith)
⊻_cancel (b ∷ w) [] h = absurd (omega arith)
⊻_cancel (b ∷ w) (c ∷ u) h = ap₂ ◌∷◌ (xor_cancel b c) (⊻_cancel w u (omega arith))

pub ⊻_comm : (w u : Word) → w ⊻ u ≡ u ⊻ w
unfolding ◌⊻◌
⊻_comm [] [] = refl
⊻_comm [] (c ∷ u) = refl
⊻_comm (b ∷ w) [] = refl
⊻_comm (b ∷ w) (c ∷ u) = ap₂ ◌∷◌ (xor_comm b c) (⊻_comm w u)

pub differ_self : (w : Word) → differ w w ≡ 0
unfolding ◌⊻◌ ones
differ_self [] = refl
differ_self (b ∷ w) = ap₂ (λ x m. num x + m) (xor_self b) (differ_self w)

pub differ_comm : (w u : Word) → differ w u ≡ differ u w
differ_comm w u = ap ones (⊻_comm w u)

pub differ-zero : (w u : Word) → length w ≡ length u → differ w u ≡ 0 → w ≡ u
unfolding ◌⊻◌ ones
differ-zero [] [] h e = refl
differ-zero [] (c ∷ u) h e = absurd (omega arith)
differ-zero (b ∷ w) [] h e = absurd (omega arith)
differ-zero (b ∷ w) (c ∷ u) h e =
    ap₂ ◌∷◌ (xor_false→≡ b c (num-zero (omega arith))) (differ-zero w u (omega arith) (omega arith))

-- words of n bits differ where their bits do
pub differ_bits :
    (n : ℕ) (w u : Word) → length w ≡ n → length u ≡ n → differ w u ≡ total n (λ j. num (xor (bit w j) (bit u j)))
unfolding bit
differ_bits n w u lw lu =
    ap ones
    (sym (tab_is n (λ j. xor (bit w j) (bit u j)) (w ⊻ u) false (⊻-length w u (lw ∙ sym lu) ∙ lw)
    (λ j h. sym (⊻-bit w u (lw ∙ sym lu) j))))
    ∙ count_total n (λ j. xor (bit w j) (bit u j))

-- in all of them at the most
pub differ_most : (n : ℕ) (w u : Word) → length w ≡ n → length u ≡ n → differ w u ≤ n
differ_most n w u lw lu =
    omega (
      arith,
      differ_bits n w u lw lu,
      count_total n (λ j. xor (bit w j) (bit u j)),
      count_most n (λ j. xor (bit w j) (bit u j)),
    )

-- by way of a third word they differ in as many places or more
pub differ_way :
    (n : ℕ) (w u v : Word) → length w ≡ n → length u ≡ n → length v ≡ n → differ w v ≤ differ w u + differ u v
differ_way n w u v lw lu lv =
    rw (differ_bits n w v lw lv, differ_bits n w u lw lu, differ_bits n u v lu lv)
    (total-add n (λ j. num (xor (bit w j) (bit v j))) (λ j. num (xor (bit w j) (bit u j))) (λ j. num (xor (bit u j) (bit v j)))
    (λ j l. xor_way (bit w j) (bit u j) (bit v j)))

pub ⊻-ones : (w u : Word) → ones (w ⊻ u) ≤ ones w + ones u
unfolding ◌⊻◌ ones
⊻-ones [] [] = omega arith
⊻-ones [] (c ∷ u) = omega arith
⊻-ones (b ∷ w) [] = omega arith
⊻-ones (b ∷ w) (c ∷ u) = omega (arith, xor-num b c, ⊻-ones w u)

-- ---- the values at a word's ones

pub kept-xor : (b c : Bool) (v : ℕ) → kept (xor b c) v ≡ kept b v ⊕ kept c v
unfolding xor
kept-xor true true v = sym (⊕_self v)
kept-xor true false v = sym (⊕-zero v)
kept-xor false true v = sym (zero-⊕ v)
kept-xor false false v = sym (zero-⊕ 0)

pub dot-⊻ : (vs : List ℕ) (w u : Word) → length w ≡ length u → dot vs (w ⊻ u) ≡ dot vs w ⊕ dot vs u
unfolding ◌⊻◌ dot
dot-⊻ [] [] [] h = sym (zero-⊕ 0)
dot-⊻ [] [] (c ∷ u) h = absurd (omega arith)
dot-⊻ [] (b ∷ w) [] h = absurd (omega arith)
dot-⊻ [] (b ∷ w) (c ∷ u) h = sym (zero-⊕ 0)
dot-⊻ (v ∷ vs) [] [] h = sym (zero-⊕ 0)
dot-⊻ (v ∷ vs) [] (c ∷ u) h = absurd (omega arith)
dot-⊻ (v ∷ vs) (b ∷ w) [] h = absurd (omega arith)
dot-⊻ (v ∷ vs) (b ∷ w) (c ∷ u) h =
    ap₂ ◌⊕◌ (kept-xor b c v) (dot-⊻ vs w u (omega arith)) ∙ ⊕_swap (kept b v) (kept c v) (dot vs w) (dot vs u)

-- no ones, no value
pub dot-none : (vs : List ℕ) (w : Word) → ones w ≡ 0 → dot vs w ≡ 0
unfolding dot ones
dot-none [] [] h = refl
dot-none [] (b ∷ w) h = refl
dot-none (v ∷ vs) [] h = refl
dot-none (v ∷ vs) (true ∷ w) h = absurd (omega arith)
dot-none (v ∷ vs) (false ∷ w) h = zero-⊕ (dot vs w) ∙ dot-none vs w (omega arith)

-- one one, one value
pub dot_one : (vs : List ℕ) (p : ℕ) → p < length vs → dot vs (tab (length vs) (λ j. eqb j p)) ≡ get_or vs p 0
unfolding dot
dot_one [] p h = absurd (omega arith)
dot_one (v ∷ vs) zero h =
    ap (dot (v ∷ vs)) (tab-suc (length vs) (λ j. eqb j 0))
    ∙ ap (λ m. v ⊕ m)
    (dot-none vs (tab (length vs) (λ j. eqb (suc j) 0)) (zero-count (length vs) (λ j. eqb (suc j) 0) (λ j l. eqb-suc-zero j)))
    ∙ ⊕-zero v
dot_one (v ∷ vs) (suc p) h =
    ap (dot (v ∷ vs)) (tab-suc (length vs) (λ j. eqb j (suc p)))
    ∙ ap₂ (λ b w. kept b v ⊕ dot vs w) (eqb-zero-suc p)
    (tab_ext (length vs) (λ j. eqb (suc j) (suc p)) (λ j. eqb j p) (λ j l. eqb-suc-suc j p))
    ∙ zero-⊕ (dot vs (tab (length vs) (λ j. eqb j p))) ∙ dot_one vs p (omega arith)

pub dot-++ : (vs us : List ℕ) (w u : Word) → length w ≡ length vs → dot (vs ++ us) (w ++ u) ≡ dot vs w ⊕ dot us u
unfolding dot
dot-++ [] us [] u h = sym (zero-⊕ (dot us u))
dot-++ [] us (b ∷ w) u h = absurd (omega arith)
dot-++ (v ∷ vs) us [] u h = absurd (omega arith)
dot-++ (v ∷ vs) us (b ∷ w) u h =
    ap (λ m. kept b v ⊕ m) (dot-++ vs us w u (omega arith)) ∙ sym (⊕_assoc (kept b v) (dot vs w) (dot us u))

pub ones-++ : (w u : Word) → ones (w ++ u) ≡ ones w + ones u
unfolding ones
ones-++ [] u = omega arith
ones-++ (b ∷ w) u = omega (arith, ones-++ w u)
