-- From the checks of a word of the small code to its answer: what each way out of the search for it says.
-- Assumes nothing.
use mathlib.Core.Path.{◌≡◌, sym, ◌∙◌}
use mathlib.Core.Logic.{◌≢◌}
use mathlib.Core.List.{List, [], ◌∷◌}
use mathlib.Core.Option.{some, none}
use Prim.Native.Nat.{ℕ, ◌+◌, ◌*◌, ◌-◌, ◌/◌, ◌%◌, ◌≤◌, ◌<◌}
use native.Mathlib.Decide.{ℕ_discrete}
use native.Mathlib.Omega.{arith}
use lib.ListN.{length}
use Rattle.algebra.specs.Xor.{◌⊕◌}
use Rattle.algebra.specs.Sums.{xsum}
use Rattle.algebra.specs.Marking.{z_power, mark_at, mark_of}
use Rattle.algebra.specs.Field256.{small_marking}
use Rattle.algebra.proofs.MarkLaws.{one_marked, two_marked}
use Rattle.algebra.proofs.Field256Laws.{fit256}
use Rattle.rules.specs.Codes.{small_code}
use Rattle.rules.proofs.Laws.PatternLaws.{Rising}
use Rattle.rules.proofs.Laws.SmallCode.{sound_small}
use Rattle.rules.proofs.Promises.Distance.{mends_small}
use Rattle.laws.specs.Located.{checks_end, located}
use Rattle.laws.specs.Search.{NoLone, Lone, NoPair, Pair}
use Rattle.laws.proofs.PlaceLaws.{place_value, places_located, none-located}
use Rattle.laws.proofs.PlaceValues.{last_sum, front-sum, with_last_sum, fronts_sum}

-- z^e mod g
abbrev zp : ℕ → ℕ
zp = z_power small_marking

-- ---- the answer to checks c

module _ (n : ℕ) (h : 18 ≤ n) (b : n ≤ 256) (c : ℕ) where
  pub located_zero : c ≡ 0 → located small_code n c ≡ some []
  unfolding xsum
  located_zero q = places_located small_code mends_small n h b c [] tt (omega arith) (sym q)

  one_located : (p : ℕ) → p < n → xsum (place_value small_code n) (p ∷ []) ≡ c → located small_code n c ≡ some (p ∷ [])
  one_located p l q = places_located small_code mends_small n h b c (p ∷ []) (omega arith, l, tt) (omega arith) q

  two_located : (p q : ℕ) → p < q → q < n → xsum (place_value small_code n) (p ∷ q ∷ []) ≡ c → located small_code n c ≡ some (p ∷ q ∷ [])
  two_located p q l k e = places_located small_code mends_small n h b c (p ∷ q ∷ []) (omega arith, omega arith, (l, k, tt)) (omega arith) e

  pub located_last : c ≡ 1 → located small_code n c ≡ some ((n - 1) ∷ [])
  located_last q = one_located (n - 1) (omega arith) (last_sum n (n - 1) (omega arith) ∙ sym q)

  -- nothing is located where no place has these checks, with the last or without, and no two others
  located_beyond :
      2 ≤ c → ((e : ℕ) → e < n - 1 → c / 2 ≢ zp e) → (c % 2 ≡ 0 → (e f : ℕ) → f < e → e < n - 1 → c / 2 ≢ zp e ⊕ zp f)
      → located small_code n c ≡ none
  unfolding xsum
  located_beyond front lone two = none-located small_code sound_small n h c go
    where
      single : (p : ℕ) → p < n → Dec (p + 1 ≡ n) → xsum (place_value small_code n) (p ∷ []) ≢ c
      single p l (yes d) q = omega (arith, sym (last_sum n p d) ∙ q)
      single p l (no d) q =
          let e : ℕ = n - 2 - p in
          let k : 2 * zp e + 1 ≡ c = sym (front-sum n p e (omega (arith, d))) ∙ q in
          lone e (omega (arith, d)) (omega (arith, k))

      double : (p q : ℕ) → p < q → q < n → Dec (q + 1 ≡ n) → xsum (place_value small_code n) (p ∷ q ∷ []) ≢ c
      double p q l l' (yes d) r =
          let e : ℕ = n - 2 - p in
          let k : 2 * zp e ≡ c = sym (with_last_sum n p q e (omega arith) d) ∙ r in
          lone e (omega arith) (omega (arith, k))
      double p q l l' (no d) r =
          let e : ℕ = n - 2 - p in
          let f : ℕ = n - 2 - q in
          let k : 2 * (zp e ⊕ zp f) ≡ c = sym (fronts_sum n p q e f (omega arith) (omega (arith, d))) ∙ r in
          two (omega (arith, k)) e f (omega (arith, d)) (omega arith) (omega (arith, k))

      go : (ps : List ℕ) → Rising 0 n ps → length ps ≤ 2 → xsum (place_value small_code n) ps ≢ c
      go [] r few q = omega (arith, q)
      go (p ∷ []) r few q = single p r.1 (ℕ_discrete (p + 1) n) q
      go (p ∷ x ∷ []) r few q = double p x (omega (arith, r.2.0)) r.2.1 (ℕ_discrete (x + 1) n) q
      go (p ∷ x ∷ y ∷ ps) r few q = absurd (omega arith)

  -- ---- each way out of the search by the mark w of the remainder

  module _ (w : ℕ) (front : 2 ≤ c) (small : c < checks_end small_code) (mark : w ≡ mark_of small_marking (c / 2)) where
    place_of : (e : ℕ) → e < n - 1 → w ≡ mark_at small_marking e → c / 2 ≡ zp e
    place_of e l q = (one_marked small_marking fit256 (c / 2) e (omega arith) (omega arith)).0 (sym mark ∙ q)

    no_place : NoLone small_marking (n - 1) w → (e : ℕ) → e < n - 1 → c / 2 ≢ zp e
    no_place k e l q = k e l (mark ∙ (one_marked small_marking fit256 (c / 2) e (omega arith) (omega arith)).1 q)

    no_two : NoPair small_marking (n - 1) w → (e f : ℕ) → f < e → e < n - 1 → c / 2 ≢ zp e ⊕ zp f
    no_two k e f o l q =
        k e f o l (mark ∙ (two_marked small_marking fit256 (c / 2) e f (omega arith) (omega arith) (omega arith)).1 q)

    module _ (e : ℕ) (lone : Lone small_marking (n - 1) w e) where
      -- odd: one place
      pub odd_one : c % 2 ≡ 1 → located small_code n c ≡ some ((n - 2 - e) ∷ [])
      odd_one o =
          let k = place_of e lone.below lone.found in
          one_located (n - 2 - e) (omega arith) (front-sum n (n - 2 - e) e (omega arith) ∙ omega (arith, k))

      -- even: the last and one other
      pub even_one : c % 2 ≡ 0 → located small_code n c ≡ some ((n - 2 - e) ∷ (n - 1) ∷ [])
      even_one o =
          let k = place_of e lone.below lone.found in
          two_located (n - 2 - e) (n - 1) (omega arith) (omega arith)
          (with_last_sum n (n - 2 - e) (n - 1) e (omega arith) (omega arith) ∙ omega (arith, k))

    -- even: two others
    pub even_two :
        (high low : ℕ) → Pair small_marking (n - 1) w high low → c % 2 ≡ 0
        → located small_code n c ≡ some ((n - 2 - high) ∷ (n - 2 - low) ∷ [])
    even_two high low pair o =
        let k : c / 2 ≡ zp high ⊕ zp low =
        (two_marked small_marking fit256 (c / 2) high low (omega arith) (omega arith) (omega arith)).0 (sym mark ∙ pair.found) in
        two_located (n - 2 - high) (n - 2 - low) (omega arith) (omega arith)
        (fronts_sum n (n - 2 - high) (n - 2 - low) high low (omega arith) (omega arith) ∙ omega (arith, k))

    -- more than two
    pub odd_beyond : NoLone small_marking (n - 1) w → c % 2 ≡ 1 → located small_code n c ≡ none
    odd_beyond k o = located_beyond front (no_place k) (λ z. absurd (omega arith))

    pub even_beyond : NoLone small_marking (n - 1) w → NoPair small_marking (n - 1) w → located small_code n c ≡ none
    even_beyond k l = located_beyond front (no_place k) (λ z. no_two l)
