-- What a search for places says of a word, over any values and any radius: the codeword near it, or that there is none. Where
-- few places never ⊕ to zero, nothing else says it.
-- Assumes nothing.
use mathlib.Core.Path.{◌≡◌, refl, sym, ap, subst, ◌∙◌}
use mathlib.Core.List.{List}
use mathlib.Core.Option.{Option, some, none}
use Prim.Native.Nat.{ℕ, ◌+◌, ◌≤◌, ◌<◌}
use native.Mathlib.Nat.{zero-add}
use native.Mathlib.Decide.{dec_lt}
use native.Mathlib.Omega.{arith}
use lib.ListN.{length}
use Rattle.algebra.specs.Xor.{◌⊕◌}
use Rattle.algebra.specs.Tables.{ones}
use Rattle.algebra.specs.Words.{Word, ◌⊻◌, differ, dot}
use Rattle.algebra.proofs.XorLaws.{⊕-zero, ⊕_zero→≡, ≡→⊕-zero}
use Rattle.algebra.proofs.WordLaws.{⊻-length, ⊻_cancel, ⊻-ones, differ-zero, differ_comm, dot-⊻}
use Rattle.rules.specs.Words.{within, places, changed}
use Rattle.rules.proofs.Laws.SearchLaws.{places_from, places-length, Says, within_says}
use Rattle.rules.proofs.Laws.PatternLaws.{Rising, places_rising, pattern, changed_pattern}

-- a codeword, by its values: they ⊕ to zero
abbrev pub Vanishing : ℕ → List ℕ → Word → Type 0
Vanishing n vs c = (length c ≡ n) × (dot vs c ≡ 0)

-- the places found, rising, at most t, make a codeword; or no codeword lies within t
abbrev pub Nearest : ℕ → ℕ → List ℕ → Word → Option (List ℕ) → Type 0
Nearest n t vs w (some ps) = Rising 0 n ps × (length ps ≤ t) × Vanishing n vs (changed ps w)
Nearest n t vs w none = (c : Word) → Vanishing n vs c → t < differ c w

-- a pattern of at most t ones with the word's values
abbrev Fit : ℕ → ℕ → List ℕ → Word → Word → Type 0
Fit n t vs w e = (length e ≡ n) × (ones e ≤ t) × (dot vs e ≡ dot vs w)

-- at most 2 t places never ⊕ to zero
abbrev pub Free : ℕ → ℕ → List ℕ → Type 0
Free n t vs = (e : Word) → length e ≡ n → ones e ≤ t + t → dot vs e ≡ 0 → ones e ≡ 0

-- so patterns of at most t ones with one value are the same
pub same_pattern :
    (n t : ℕ) (vs : List ℕ) → Free n t vs → (e u : Word) → length e ≡ n → length u ≡ n → ones e ≤ t → ones u ≤ t
    → dot vs e ≡ dot vs u → e ≡ u
same_pattern n t vs free e u le lu oe ou d =
    let s : length e ≡ length u = le ∙ sym lu in
    differ-zero e u s
    (free (e ⊻ u) (⊻-length e u s ∙ le) (omega (arith, ⊻-ones e u)) (dot-⊻ vs e u s ∙ ≡→⊕-zero d))

module _ (n t : ℕ) (vs : List ℕ) (w : Word) (l : length w ≡ n) where
  -- a pattern is a codeword within t
  fit_near : (e : Word) → Fit n t vs w e → Vanishing n vs (w ⊻ e) × (differ (w ⊻ e) w ≤ t)
  fit_near e (le, o, d) =
      let s : length w ≡ length e = l ∙ sym le in (
        (⊻-length w e s ∙ l, dot-⊻ vs w e s ∙ ≡→⊕-zero (sym d)),
        omega (arith, differ_comm (w ⊻ e) w, ap ones (⊻_cancel w e s)),
      )

  -- and the other way round
  near_fit : (c : Word) → Vanishing n vs c → differ c w ≤ t → Fit n t vs w (w ⊻ c)
  near_fit c (lc, z) d =
      let s : length w ≡ length c = l ∙ sym lc in
      (⊻-length w c s ∙ l, omega (arith, differ_comm w c), dot-⊻ vs w c s ∙ ap (λ x. dot vs w ⊕ x) z ∙ ⊕-zero (dot vs w))

  -- the places of a pattern are rising, and changing them makes its codeword
  fit_nearest : (e : Word) → Fit n t vs w e → Nearest n t vs w (some (places_from 0 e))
  fit_nearest e f = (
    subst (λ m. Rising 0 m (places_from 0 e)) (zero-add (length e) ∙ f.0) (places_rising 0 e),
    omega (arith, places-length 0 e, f.1),
    rw (changed_pattern w e (f.0 ∙ sym l)) (fit_near e f).0,
  )

  -- rising places that make a codeword are those of a pattern
  nearest_fit : (ps : List ℕ) → Nearest n t vs w (some ps) → (e : Word) × Fit n t vs w e × (places_from 0 e ≡ ps)
  nearest_fit ps (rising, few, code) =
      let p = pattern n 0 ps (subst (λ m. Rising 0 m ps) (sym (zero-add n)) rising) in
      let e : Word = p.0 in
      let c : changed ps w ≡ w ⊻ e = ap (λ x. changed x w) (sym p.2) ∙ changed_pattern w e (p.1 ∙ sym l) in
      let z : dot vs w ⊕ dot vs e ≡ 0 = sym (dot-⊻ vs w e (l ∙ sym p.1)) ∙ ap (dot vs) (sym c) ∙ code.1 in
      (e, (p.1, omega (arith, places-length 0 e, ap length p.2), sym (⊕_zero→≡ z)), p.2)

  pub nearest_within : (ps : List ℕ) → Nearest n t vs w (some ps) → differ (changed ps w) w ≤ t
  nearest_within ps h =
      let f = nearest_fit ps h in
      let c : changed ps w ≡ w ⊻ f.0 =
      ap (λ x. changed x w) (sym f.2) ∙ changed_pattern w f.0 (f.1.0 ∙ sym l) in
      rw c (fit_near f.0 f.1).1

  module _ (long : length vs ≡ n) where
    -- what the search answers is so
    pub search_nearest : Nearest n t vs w (within t vs (dot vs w))
    search_nearest = go (within t vs (dot vs w)) (within_says t vs (dot vs w))
      where
        go : (o : Option (List ℕ)) → Says (λ k. k ≤ t) 0 vs (dot vs w) o → Nearest n t vs w o
        go (some ps) (e, le, o, d, p) = subst (λ x. Nearest n t vs w (some x)) p (fit_nearest e (le ∙ long, o, d))
        go none miss =
            λ c k. elim (dec_lt t (differ c w)) as (λ x. t < differ c w) [
              | yes d ↦ d
              | no d ↦ let f = near_fit c k (omega arith) in absurd (miss (w ⊻ c) (f.0 ∙ sym long) f.1 f.2)
            ]

    module _ (free : Free n t vs) where
      unique : (e e' : Word) → Fit n t vs w e → Fit n t vs w e' → e ≡ e'
      unique e e' (l₁, o₁, d₁) (l₂, o₂, d₂) = same_pattern n t vs free e e' l₁ l₂ o₁ o₂ (d₁ ∙ sym d₂)

      -- and nothing else is
      pub search_only : (o : Option (List ℕ)) → Nearest n t vs w o → o ≡ within t vs (dot vs w)
      search_only o h = go o (within t vs (dot vs w)) h search_nearest
        where
          go : (o o' : Option (List ℕ)) → Nearest n t vs w o → Nearest n t vs w o' → o ≡ o'
          go (some ps) (some ps') h h' =
              let f = nearest_fit ps h in
              let f' = nearest_fit ps' h' in
              ap some (sym f.2 ∙ ap (places_from 0) (unique f.0 f'.0 f.1 f'.1) ∙ f'.2)
          go (some ps) none h far = absurd (let d = nearest_within ps h in let k = far (changed ps w) h.2 in omega arith)
          go none (some ps) far h = absurd (let d = nearest_within ps h in let k = far (changed ps w) h.2 in omega arith)
          go none none h h' = refl

      -- a codeword within t is what the changes make
      pub search_mends : (c : Word) → Vanishing n vs c → differ c w ≤ t → changed (places (within t vs (dot vs w))) w ≡ c
      search_mends c k d =
          let f = near_fit c k d in
          ap (λ o. changed (places o) w) (sym (search_only (some (places_from 0 (w ⊻ c))) (fit_nearest (w ⊻ c) f)))
          ∙ changed_pattern w (w ⊻ c) (f.0 ∙ sym l) ∙ ⊻_cancel w c (l ∙ sym k.0)
