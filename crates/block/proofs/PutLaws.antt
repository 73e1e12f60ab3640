-- Numbers put into a block one behind the other.
-- Assumes nothing.
use mathlib.Core.Path.{◌≡◌, refl, sym, ap, ap₂, ◌∙◌}
use mathlib.Core.List.{List, [], ◌∷◌, ◌++◌, append_assoc}
use Prim.Native.Nat.{ℕ, ◌+◌, ◌*◌, ◌≤◌, ◌<◌}
use native.Mathlib.Numerals.{add-one}
use native.Mathlib.Omega.{arith}
use borrow.Rule.Slice.PartMut.{put_mid, post_of}
use lib.ListN.{length, take, get_or, length-append}
use lib.Seq.{take-suc, take-append_seam, length-take-le, take-length}
use Rattle.rules.specs.Block.{low_first, in_bytes}

pub in_bytes_none : [] ≡ in_bytes []
unfolding in_bytes
in_bytes_none = refl

in_bytes_more : (xs : List ℕ) (x : ℕ) → in_bytes (xs ++ (x ∷ [])) ≡ in_bytes xs ++ low_first x
unfolding in_bytes
in_bytes_more [] x = refl
in_bytes_more (y ∷ xs) x = ap (λ t. low_first y ++ t) (in_bytes_more xs x) ∙ sym (append_assoc (low_first y) (in_bytes xs) (low_first x))

-- a number behind those that are there
pub put_more :
    (xs : List ℕ) (i k : ℕ) (s new : List ℕ) → i < length xs → i * 4 + 4 ≤ length s → take (i * 4) s ≡ in_bytes (take i xs)
    → new ≡ low_first (get_or xs i 0) → take ((i + 1) * 4) (put_mid (i * 4) k s new) ≡ in_bytes (take (i + 1) xs)
put_more xs i k s new l h e n =
    let front : List ℕ = take (i * 4) s ++ new in
    let long : (i + 1) * 4 ≡ length front =
    omega (arith, length-append (take (i * 4) s) new, length-take-le (i * 4) s (omega arith), ap length n) in
    ap₂ take long (sym (append_assoc (take (i * 4) s) new (post_of (i * 4) k s)))
    ∙ take-append_seam front (post_of (i * 4) k s)
    ∙ ap₂ ◌++◌ e n
    ∙ sym (in_bytes_more (take i xs) (get_or xs i 0))
    ∙ ap in_bytes (sym (take-suc xs i 0 l) ∙ ap (λ j. take j xs) (sym (add-one i)))

pub put_all : (xs : List ℕ) (i : ℕ) (s : List ℕ) → length xs ≡ i → length s ≡ length xs * 4 → take (i * 4) s ≡ in_bytes (take i xs) → s ≡ in_bytes xs
put_all xs i s e l h =
    let f : i * 4 ≡ length s = omega arith in
    sym (take-length s) ∙ ap (λ j. take j s) (sym f) ∙ h ∙ ap in_bytes (ap (λ j. take j xs) (sym e) ∙ take-length xs)
