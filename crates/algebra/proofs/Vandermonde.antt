-- Weights at different places whose first power sums all vanish are all zero, over any field of characteristic two.
-- Assumes nothing.
use mathlib.Core.Path.{◌≡◌, refl, sym, ap, ap₂, ◌∙◌, fun_ext}
use mathlib.Core.List.{List, [], ◌∷◌}
use Prim.Native.Nat.{ℕ, suc, ◌<◌}
use native.Mathlib.Omega.{arith}
use lib.ListN.{length}
use Rattle.algebra.specs.Sums.{All, Distinct}
use Rattle.algebra.proofs.Field.{Field2, power_of}

pub all_map :
    {A : Type 0} {P Q : A → Type 0} → ((a : A) → P a → Q a) → (ps : List A) → All P ps → All Q ps
all_map f [] h = tt
all_map f (a ∷ ps) h = (f a h.0, all_map f ps h.1)

pub all_both :
    {A : Type 0} {P Q R : A → Type 0} → ((a : A) → P a → Q a → R a) → (ps : List A) → All P ps → All Q ps → All R ps
all_both f [] h g = tt
all_both f (a ∷ ps) h g = (f a h.0 g.0, all_both f ps h.1 g.1)

-- the sum of f over a list
unfoldable pub field_sum : {A F : Type 0} → Field2 F → (A → F) → List A → F
field_sum K f [] = K.𝟘
field_sum K f (a ∷ ps) = K.◌⊞◌ (f a) (field_sum K f ps)

module _ {F : Type 0} (K : Field2 F) where
  infixl 65 ◌⊞◌
  infixl 70 ◌⊠◌
  open K use {
    𝟘,
    𝟙,
    ◌⊞◌,
    ◌⊠◌,
    ⊞_comm,
    ⊞_assoc,
    ⊞_𝟘,
    ⊞_self,
    ⊠_comm,
    ⊠_assoc,
    𝟙_⊠,
    ⊠_⊞,
    no_divisors,
  }

  pub ⊠-𝟘 : (x : F) → x ⊠ 𝟘 ≡ 𝟘
  ⊠-𝟘 x = ap (λ (y : F). x ⊠ y) (sym (⊞_self 𝟘)) ∙ ⊠_⊞ x 𝟘 𝟘 ∙ ⊞_self (x ⊠ 𝟘)

  pub ⊞-⊠ : (x y z : F) → (x ⊞ y) ⊠ z ≡ x ⊠ z ⊞ y ⊠ z
  ⊞-⊠ x y z = ⊠_comm (x ⊞ y) z ∙ ⊠_⊞ z x y ∙ ap₂ ◌⊞◌ (⊠_comm z x) (⊠_comm z y)

  pub ⊠-left_comm : (x y z : F) → x ⊠ (y ⊠ z) ≡ y ⊠ (x ⊠ z)
  ⊠-left_comm x y z = sym (⊠_assoc x y z) ∙ ap (λ (w : F). w ⊠ z) (⊠_comm x y) ∙ ⊠_assoc y x z

  pub ⊞_swap : (a b c d : F) → a ⊞ b ⊞ (c ⊞ d) ≡ a ⊞ c ⊞ (b ⊞ d)
  ⊞_swap a b c d =
      ⊞_assoc a b (c ⊞ d) ∙ ap (λ (w : F). a ⊞ w) (sym (⊞_assoc b c d) ∙ ap (λ (w : F). w ⊞ d) (⊞_comm b c) ∙ ⊞_assoc c b d)
      ∙ sym (⊞_assoc a c (b ⊞ d))

  -- every element is its own opposite
  pub ⊞_zero→≡ : {x y : F} → x ⊞ y ≡ 𝟘 → x ≡ y
  ⊞_zero→≡ {x} {y} h =
      sym (⊞_𝟘 x) ∙ ap (λ (w : F). x ⊞ w) (sym (⊞_self y)) ∙ sym (⊞_assoc x y y) ∙ ap (λ (w : F). w ⊞ y) h ∙ ⊞_comm 𝟘 y ∙ ⊞_𝟘 y

  module _ {A : Type 0} where
    pub field_sum-⊞ : (f g : A → F) (ps : List A) → field_sum K (λ a. f a ⊞ g a) ps ≡ field_sum K f ps ⊞ field_sum K g ps
    unfolding field_sum
    field_sum-⊞ f g [] = sym (⊞_self 𝟘)
    field_sum-⊞ f g (a ∷ ps) =
        ap (λ (w : F). f a ⊞ g a ⊞ w) (field_sum-⊞ f g ps) ∙ ⊞_swap (f a) (g a) (field_sum K f ps) (field_sum K g ps)

    pub field_sum-⊠ : (z : F) (f : A → F) (ps : List A) → field_sum K (λ a. z ⊠ f a) ps ≡ z ⊠ field_sum K f ps
    unfolding field_sum
    field_sum-⊠ z f [] = sym (⊠-𝟘 z)
    field_sum-⊠ z f (a ∷ ps) = ap (λ (w : F). z ⊠ f a ⊞ w) (field_sum-⊠ z f ps) ∙ sym (⊠_⊞ z (f a) (field_sum K f ps))

    pub field_sum-𝟘 : (f : A → F) (ps : List A) → All (λ a. f a ≡ 𝟘) ps → field_sum K f ps ≡ 𝟘
    unfolding field_sum
    field_sum-𝟘 f [] h = refl
    field_sum-𝟘 f (a ∷ ps) h = ap₂ ◌⊞◌ h.0 (field_sum-𝟘 f ps h.1) ∙ ⊞_self 𝟘

    -- weights times (x ⊞ z): the next power sum and z times this one
    shift :
        (x c : A → F) (z : F) (m : ℕ) (ps : List A)
        → field_sum K (λ a. power_of K (x a) m ⊠ ((x a ⊞ z) ⊠ c a)) ps
        ≡ field_sum K (λ a. power_of K (x a) (suc m) ⊠ c a) ps ⊞ z ⊠ field_sum K (λ a. power_of K (x a) m ⊠ c a) ps
    unfolding power_of
    shift x c z m ps =
        ap (λ (f : A → F). field_sum K f ps) (fun_ext each)
        ∙ field_sum-⊞ (λ a. power_of K (x a) (suc m) ⊠ c a) (λ a. z ⊠ (power_of K (x a) m ⊠ c a)) ps
        ∙ ap (λ (w : F). field_sum K (λ a. power_of K (x a) (suc m) ⊠ c a) ps ⊞ w) (field_sum-⊠ z (λ a. power_of K (x a) m ⊠ c a) ps)
      where
        one_by_one : (u v w y : F) → u ⊠ ((v ⊞ w) ⊠ y) ≡ v ⊠ u ⊠ y ⊞ w ⊠ (u ⊠ y)
        one_by_one u v w y =
            ap (λ (s : F). u ⊠ s) (⊞-⊠ v w y) ∙ ⊠_⊞ u (v ⊠ y) (w ⊠ y)
            ∙ ap₂ ◌⊞◌ (⊠-left_comm u v y ∙ sym (⊠_assoc v u y)) (⊠-left_comm u w y)

        each :
            (a : A)
            → power_of K (x a) m ⊠ ((x a ⊞ z) ⊠ c a) ≡ power_of K (x a) (suc m) ⊠ c a ⊞ z ⊠ (power_of K (x a) m ⊠ c a)
        each a = one_by_one (power_of K (x a) m) (x a) z (c a)

    -- by induction: times (x ⊞ x b) the weights lose b, and one sum is left over
    pub vandermonde :
        (x : A → F) (ps : List A) → Distinct x ps → (c : A → F)
        → ((m : ℕ) → m < length ps → field_sum K (λ a. power_of K (x a) m ⊠ c a) ps ≡ 𝟘) → All (λ a. c a ≡ 𝟘) ps
    unfolding field_sum power_of
    vandermonde x [] d c h = tt
    vandermonde x (b ∷ ps) d c h =
        (first (rest (vandermonde x ps d.1 c' sums)), rest (vandermonde x ps d.1 c' sums))
      where
        c' : A → F
        c' a = (x a ⊞ x b) ⊠ c a

        𝟘-⊞ : (y : F) → 𝟘 ⊞ y ≡ y
        𝟘-⊞ y = ⊞_comm 𝟘 y ∙ ⊞_𝟘 y

        head : (u : F) → u ⊠ ((x b ⊞ x b) ⊠ c b) ≡ 𝟘
        head u = ap (λ (w : F). u ⊠ (w ⊠ c b)) (⊞_self (x b)) ∙ ap (λ (w : F). u ⊠ w) (⊠_comm 𝟘 (c b) ∙ ⊠-𝟘 (c b)) ∙ ⊠-𝟘 u

        sums : (m : ℕ) → m < length ps → field_sum K (λ a. power_of K (x a) m ⊠ c' a) ps ≡ 𝟘
        sums m hm =
            sym (𝟘-⊞ (field_sum K (λ a. power_of K (x a) m ⊠ c' a) ps))
            ∙ ap (λ (w : F). w ⊞ field_sum K (λ a. power_of K (x a) m ⊠ c' a) ps) (sym (head (power_of K (x b) m)))
            ∙ shift x c (x b) m (b ∷ ps) ∙ ap₂ (λ (u w : F). u ⊞ x b ⊠ w) (h (suc m) (omega arith)) (h m (omega arith))
            ∙ 𝟘-⊞ (x b ⊠ 𝟘) ∙ ⊠-𝟘 (x b)

        rest : All (λ a. c' a ≡ 𝟘) ps → All (λ a. c a ≡ 𝟘) ps
        rest = all_both (λ a n e. no_divisors (x a ⊞ x b) (c a) e (λ z. n (⊞_zero→≡ z))) ps d.0

        first : All (λ a. c a ≡ 𝟘) ps → c b ≡ 𝟘
        first r =
            sym (𝟙_⊠ (c b)) ∙ sym (⊞_𝟘 (𝟙 ⊠ c b))
            ∙ ap (λ (w : F). 𝟙 ⊠ c b ⊞ w)
            (sym (field_sum-𝟘 (λ a. 𝟙 ⊠ c a) ps (all_map (λ a e. 𝟙_⊠ (c a) ∙ e) ps r)))
            ∙ h 0 (omega arith)
