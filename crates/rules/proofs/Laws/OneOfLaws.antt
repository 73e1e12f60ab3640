-- Which numbers can occur: a number on a list.
-- Assumes nothing.
use mathlib.Core.Path.{◌≡◌, refl, sym, ap, ◌∙◌}
use mathlib.Core.Logic.{◌≢◌, ◌⊎◌, inl, inr}
use mathlib.Core.Bool.{Bool, true, false, not, ◌&&◌, ◌||◌, or-true, true≢false, false≢true}
use mathlib.Core.List.{List, [], ◌∷◌, ◌++◌}
use Prim.Native.Nat.{ℕ, ◌≤◌}
use lib.Dec.{eqb, leb}
use borrow.Author.Tests.{eqb-true, eq-eqb, leb-true, not-true}
use Rattle.rules.specs.Words.{is_in}

abbrev pub OneOf : ℕ → List ℕ → Type 0
OneOf x l = is_in x l ≡ true

or_cases : (a b : Bool) → (a || b) ≡ true → (a ≡ true) ⊎ (b ≡ true)
or_cases true b h = inl refl
or_cases false b h = inr h

pub and_both : (a b : Bool) → (a && b) ≡ true → (a ≡ true) × (b ≡ true)
and_both true b h = (refl, h)
and_both false b h = absurd (false≢true h)

or_left : (a b : Bool) → a ≡ true → (a || b) ≡ true
or_left a b h = rw h

or_right : (a b : Bool) → b ≡ true → (a || b) ≡ true
or_right a b h = rw h (or-true a)

pub one_of_self : (x : ℕ) → OneOf x (x ∷ [])
unfolding is_in
one_of_self x = or_left (eqb x x) false (eq-eqb x x refl)

pub one_of_cons : (x p : ℕ) (l : List ℕ) → OneOf x (p ∷ l) → (x ≡ p) ⊎ OneOf x l
unfolding is_in
one_of_cons x p l h = go (or_cases (eqb x p) (is_in x l) h)
  where
    go : (eqb x p ≡ true) ⊎ (is_in x l ≡ true) → (x ≡ p) ⊎ OneOf x l
    go (inl e) = inl (eqb-true x p e)
    go (inr e) = inr e

pub one_of_back : (x : ℕ) (l m : List ℕ) → OneOf x m → OneOf x (l ++ m)
unfolding is_in
one_of_back x [] m h = h
one_of_back x (p ∷ l) m h = or_right (eqb x p) (is_in x (l ++ m)) (one_of_back x l m h)

pub one_of_front : (x : ℕ) (l m : List ℕ) → OneOf x l → OneOf x (l ++ m)
unfolding is_in
one_of_front x [] m h = absurd (false≢true h)
one_of_front x (p ∷ l) m h = go (or_cases (eqb x p) (is_in x l) h) (one_of_front x l m)
  where
    go : (eqb x p ≡ true) ⊎ (is_in x l ≡ true) → (OneOf x l → OneOf x (l ++ m)) → (eqb x p || is_in x (l ++ m)) ≡ true
    go (inl e) ih = or_left (eqb x p) (is_in x (l ++ m)) e
    go (inr e) ih = or_right (eqb x p) (is_in x (l ++ m)) (ih e)

-- not on a list: neither its first number nor on the rest
pub none_of_cons : (x p : ℕ) (l : List ℕ) → is_in x (p ∷ l) ≡ false → (x ≢ p) × (is_in x l ≡ false)
unfolding is_in
none_of_cons x p l h = go (eqb x p) refl h
  where
    go : (b : Bool) → eqb x p ≡ b → (b || is_in x l) ≡ false → (x ≢ p) × (is_in x l ≡ false)
    go true e k = absurd (true≢false k)
    go false e k = (λ q. true≢false (sym (eq-eqb x p q) ∙ e), k)

-- no number is on both lists: to be computed
unfoldable pub apart : List ℕ → List ℕ → Bool
apart [] m = true
apart (p ∷ l) m = not (is_in p m) && apart l m

pub one_of_apart : (x : ℕ) (l m : List ℕ) → apart l m ≡ true → OneOf x l → ¬ OneOf x m
unfolding is_in apart
one_of_apart x [] m a h k = false≢true h
one_of_apart x (p ∷ l) m a h k =
    let t = and_both (not (is_in p m)) (apart l m) a in
    go (one_of_cons x p l h) (not-true (is_in p m) t.0) (λ q. one_of_apart x l m t.1 q k)
  where
    go : (x ≡ p) ⊎ OneOf x l → is_in p m ≡ false → (OneOf x l → ⊥) → ⊥
    go (inl e) n rest = true≢false (sym k ∙ ap (λ y. is_in y m) e ∙ n)
    go (inr q) n rest = rest q

-- every number of the list is lo..hi: to be computed
unfoldable pub all_in : ℕ → ℕ → List ℕ → Bool
all_in lo hi [] = true
all_in lo hi (p ∷ l) = leb lo p && leb p hi && all_in lo hi l

pub one_of_range : (lo hi x : ℕ) (l : List ℕ) → all_in lo hi l ≡ true → OneOf x l → (lo ≤ x) × (x ≤ hi)
unfolding is_in all_in
one_of_range lo hi x [] a h = absurd (false≢true h)
one_of_range lo hi x (p ∷ l) a h =
    let r = and_both (leb lo p && leb p hi) (all_in lo hi l) a in
    go (and_both (leb lo p) (leb p hi) r.0) (one_of_cons x p l h) (one_of_range lo hi x l r.1)
  where
    go : (leb lo p ≡ true) × (leb p hi ≡ true) → (x ≡ p) ⊎ OneOf x l → (OneOf x l → (lo ≤ x) × (x ≤ hi)) → (lo ≤ x) × (x ≤ hi)
    go t (inl e) ih = rw e (leb-true lo p t.0, leb-true p hi t.1)
    go t (inr e) ih = ih e
