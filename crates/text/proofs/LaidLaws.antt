-- Laws of texts laid into a buffer one after the other.
-- Assumes nothing.
use mathlib.Core.Path.{◌≡◌, refl, sym, ap, ap₂, ◌∙◌, subst}
use mathlib.Core.List.{List, [], ◌∷◌, ◌++◌, append_assoc}
use Prim.Native.Nat.{ℕ, ◌+◌, ◌≤◌, ◌<◌}
use native.Mathlib.Nat.{add-zero, add_assoc}
use native.Mathlib.Numerals.{add-one}
use native.Mathlib.Omega.{arith}
use lib.ListN.{length, take, drop, get_or, set, length-append, length-drop, length-set, take-append-drop}
use lib.Seq.{length-take-le, take_all, take_at, drop-append-add, drop-drop, set_split, take-suc}
use Rattle.textrules.specs.Text.{Text}
use Rattle.text.specs.Laid.{laid, Lays}

pub laid_none : (s : List ℕ) (at : ℕ) → laid s at [] ≡ s
unfolding laid
laid_none s at = ap (λ (k : ℕ). take at s ++ drop k s) (add-zero at) ∙ take-append-drop at s

pub laid-length : (s : List ℕ) (at : ℕ) (t : Text) → at + length t ≤ length s → length (laid s at t) ≡ length s
unfolding laid
laid-length s at t h =
    let a = length-append (take at s) (t ++ drop (at + length t) s) in
    let b = length-append t (drop (at + length t) s) in
    let c = length-take-le at s (omega arith) in
    let d = length-drop (at + length t) s in
    omega arith

-- what was laid, and then what comes after it
pub laid_laid : (s : List ℕ) (at : ℕ) (t u : Text) → at + length t ≤ length s → laid (laid s at t) (at + length t) u ≡ laid s at (t ++ u)
unfolding laid
laid_laid s at t u h =
    let p : List ℕ = take at s in
    let d : List ℕ = drop (at + length t) s in
    let l : length (p ++ t) ≡ at + length t =
    length-append p t ∙ ap (λ (k : ℕ). k + length t) (length-take-le at s (omega arith)) in
    let a : p ++ (t ++ d) ≡ (p ++ t) ++ d = sym (append_assoc p t d) in
    ap (λ (x : List ℕ). take (at + length t) x ++ (u ++ drop (at + length t + length u) x)) a
    ∙ ap₂
    (λ (x y : List ℕ). x ++ (u ++ y))
    (take_at (p ++ t) d (at + length t) l)
    (ap (λ (k : ℕ). drop (k + length u) ((p ++ t) ++ d)) (sym l)
    ∙ drop-append-add (p ++ t) d (length u)
    ∙ drop-drop (length u) (at + length t) s
    ∙ ap (λ (k : ℕ). drop k s) (add_assoc at (length t) (length u) ∙ ap (λ (k : ℕ). at + k) (sym (length-append t u))))
    ∙ append_assoc p t (u ++ drop (at + length (t ++ u)) s)
    ∙ ap (λ (x : List ℕ). p ++ x) (sym (append_assoc t u (drop (at + length (t ++ u)) s)))

-- one byte
pub laid_one : (s : List ℕ) (at x : ℕ) → at < length s → set s at x ≡ laid s at (x ∷ [])
unfolding laid
laid_one s at x h =
    set_split s at x h ∙ ap (λ (k : ℕ). take at s ++ (x ∷ drop k s)) (sym (add-one at))

-- one byte after a text
pub laid_more :
    (s : List ℕ) (at : ℕ) (t : Text) (x : ℕ) → at + length t < length s
    → set (laid s at t) (at + length t) x ≡ laid s at (t ++ (x ∷ []))
laid_more s at t x h =
    laid_one (laid s at t) (at + length t) x (omega (arith, laid-length s at t (omega arith)))
    ∙ laid_laid s at t (x ∷ []) (omega arith)

-- a loop that lays t byte by byte
pub laid_step :
    (s : List ℕ) (at : ℕ) (t : Text) (i : ℕ) → at + length t ≤ length s → i < length t
    → set (laid s at (take i t)) (at + i) (get_or t i 0) ≡ laid s at (take (i + 1) t)
laid_step s at t i h l =
    let k = length-take-le i t (omega arith) in
    ap (λ (j : ℕ). set (laid s at (take i t)) (at + j) (get_or t i 0)) (sym k)
    ∙ laid_more s at (take i t) (get_or t i 0) (omega arith)
    ∙ ap (laid s at) (sym (take-suc t i 0 l) ∙ ap (λ (j : ℕ). take j t) (sym (add-one i)))

-- the loop's invariant: the first i bytes of t are laid into s₀
pub record Laying (s₀ : List ℕ) (at : ℕ) (t : Text) (end i : ℕ) (s : List ℕ) : Type 0 where
  pub ends : end ≡ length t
  pub within : i ≤ end
  pub room : at + length t ≤ length s₀
  pub long : length s ≡ length s₀
  pub so_far : s ≡ laid s₀ at (take i t)

pub laying_none : {s : List ℕ} {at end : ℕ} {t : Text} → end ≡ length t → at + length t ≤ length s → Laying s at t end 0 s
laying_none {s} {at} e h = record { ends = e; within = omega arith; room = h; long = refl; so_far = sym (laid_none s at) }

module _ {s₀ s : List ℕ} {at end i : ℕ} {t : Text} (g : Laying s₀ at t end i s) where
  pub laying_next : i < end → Laying s₀ at t end (i + 1) (set s (at + i) (get_or t i 0))
  laying_next h = record {
    ends = g.ends;
    within = omega arith;
    room = g.room;
    long = length-set s (at + i) (get_or t i 0) ∙ g.long;
    so_far =
        ap (λ (x : List ℕ). set x (at + i) (get_or t i 0)) g.so_far ∙ laid_step s₀ at t i g.room (omega (arith, g.ends));
  }

  pub laying_all : end ≤ i → s ≡ laid s₀ at t
  laying_all h = g.so_far ∙ ap (laid s₀ at) (take_all i t (omega (arith, g.ends)))

-- one call after another
pub lays_then :
    (s : List ℕ) (at : ℕ) (t u : Text) (r r₂ : ℕ) (s₁ s₂ : List ℕ) → Lays s at t r s₁ → Lays s₁ r u r₂ s₂
    → Lays s at (t ++ u) r₂ s₂
lays_then s at t u r r₂ s₁ s₂ a b =
    let h : at + length t ≤ length s = omega (arith, a.0, a.1) in (
      omega (arith, a.0, b.0, length-append t u),
      omega (arith, b.1, ap length a.2, laid-length s at t h),
      b.2 ∙ ap₂ (λ (x : List ℕ) (j : ℕ). laid x j u) a.2 a.0 ∙ laid_laid s at t u h,
    )

pub lays_length : (s : List ℕ) (at : ℕ) (t : Text) (r : ℕ) (exit : List ℕ) → Lays s at t r exit → length exit ≡ length s
lays_length s at t r exit l = ap length l.2 ∙ laid-length s at t (omega (arith, l.0, l.1))

-- the same text, by another description
pub lays_as : (out : List ℕ) (at r : ℕ) (exit : List ℕ) (t u : Text) → t ≡ u → Lays out at t r exit → Lays out at u r exit
lays_as out at r exit t u e = subst (λ (x : Text). Lays out at x r exit) e

-- a text that is laid stands within the lent buffer
pub lays_within : (out : List ℕ) (at : ℕ) (t : Text) (r : ℕ) (exit : List ℕ) → Lays out at t r exit → r ≤ length exit
lays_within out at t r exit h = omega (arith, h.1, lays_length out at t r exit h)

-- nothing is laid
pub lays_nothing : (out : List ℕ) → Lays out 0 [] 0 out
lays_nothing out = (refl, omega arith, sym (laid_none out 0))

-- what stands before the place after it
pub lays_taken : (s : List ℕ) (at : ℕ) (t : Text) (r : ℕ) (exit : List ℕ) → Lays s at t r exit → take r exit ≡ take at s ++ t
unfolding laid
lays_taken s at t r exit l =
    let p : List ℕ = take at s in
    let d : List ℕ = drop (at + length t) s in
    let long : length (p ++ t) ≡ at + length t =
    length-append p t ∙ ap (λ (k : ℕ). k + length t) (length-take-le at s (omega (arith, l.0, l.1))) in
    ap₂ take l.0 (l.2 ∙ sym (append_assoc p t d)) ∙ take_at (p ++ t) d (at + length t) long
