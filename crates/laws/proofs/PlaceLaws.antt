-- What is located, over any code: the one rising list of places, as many as the radius at most, whose values ⊕ to the checks.
-- Assumes nothing.
use mathlib.Core.Path.{◌≡◌, refl, sym, ap, ap₂, subst, ◌∙◌}
use mathlib.Core.Logic.{◌≢◌}
use mathlib.Core.List.{List, [], ◌∷◌}
use mathlib.Core.Bool.{true, false}
use mathlib.Core.Option.{Option, some, none}
use Prim.Native.Nat.{ℕ, suc, ◌+◌, ◌≤◌}
use native.Mathlib.Nat.{zero-add, add-suc, suc-add, add-zero}
use native.Mathlib.Omega.{arith}
use lib.ListN.{length, get_or}
use Rattle.algebra.specs.Xor.{◌⊕◌}
use Rattle.algebra.specs.Words.{Word, dot}
use Rattle.algebra.specs.Sums.{xsum}
use Rattle.algebra.proofs.XorLaws.{zero-⊕}
use Rattle.rules.specs.Codes.{Code, radius}
use Rattle.rules.specs.Words.{values, within}
use Rattle.rules.proofs.Laws.CodeLaws.{Sound, Mends}
use Rattle.rules.proofs.Laws.SearchLaws.{places_from, places-length, Says, within_says}
use Rattle.rules.proofs.Laws.PatternLaws.{Rising, places_rising, pattern}
use Rattle.rules.proofs.Laws.NearestLaws.{same_pattern}
use Rattle.rules.proofs.Promises.Answers.{as_long, free}
use Rattle.laws.specs.Located.{located}

-- the value of a place
abbrev pub place_value : Code → ℕ → ℕ → ℕ
place_value code n p = get_or (values code n) p 0

-- the ⊕ at a word's ones is that over their places
dot_places :
    (vs : List ℕ) (w : Word) (p : ℕ) (f : ℕ → ℕ) → length w ≡ length vs → ((j : ℕ) → f (p + j) ≡ get_or vs j 0)
    → dot vs w ≡ xsum f (places_from p w)
unfolding dot places_from xsum
dot_places [] [] p f l h = refl
dot_places [] (b ∷ w) p f l h = absurd (omega arith)
dot_places (v ∷ vs) [] p f l h = absurd (omega arith)
dot_places (v ∷ vs) (true ∷ w) p f l h =
    ap₂ ◌⊕◌ (sym (ap f (sym (add-zero p)) ∙ h 0))
    (dot_places vs w (suc p) f (omega arith) (λ j. ap f (suc-add p j ∙ sym (add-suc p j)) ∙ h (suc j)))
dot_places (v ∷ vs) (false ∷ w) p f l h =
    zero-⊕ (dot vs w)
    ∙ dot_places vs w (suc p) f (omega arith) (λ j. ap f (suc-add p j ∙ sym (add-suc p j)) ∙ h (suc j))

module _ (code : Code) (ok : Sound code) (n : ℕ) (h : code.shortest ≤ n) where
  places_value : (w : Word) → length w ≡ n → dot (values code n) w ≡ xsum (place_value code n) (places_from 0 w)
  places_value w l =
      dot_places (values code n) w 0 (place_value code n) (l ∙ sym (as_long code ok n h)) (λ j. ap (place_value code n) (zero-add j))

  in_word : (e : Word) → length e ≡ length (values code n) → Rising 0 n (places_from 0 e)
  in_word e l = subst (λ m. Rising 0 m (places_from 0 e)) (zero-add (length e) ∙ l ∙ as_long code ok n h) (places_rising 0 e)

  -- where no few places give these checks, nothing is located
  pub none-located :
      (c : ℕ) → ((ps : List ℕ) → Rising 0 n ps → length ps ≤ radius code → xsum (place_value code n) ps ≢ c)
      → located code n c ≡ none
  unfolding located
  none-located c k = go (within (radius code) (values code n) c) (within_says (radius code) (values code n) c)
    where
      go : (o : Option (List ℕ)) → Says (λ k. k ≤ radius code) 0 (values code n) c o → o ≡ none
      go (some x) (e, le, oe, de, qe) =
          absurd (k (places_from 0 e) (in_word e le)
          (omega (arith, places-length 0 e)) (sym (places_value e (le ∙ as_long code ok n h)) ∙ de))
      go none miss = refl

-- whatever few places give these checks are what is located: no others can
pub places_located :
    (code : Code) (able : Mends code) (n : ℕ) → code.shortest ≤ n → n ≤ code.longest → (c : ℕ) (ps : List ℕ) → Rising 0 n ps
    → length ps ≤ radius code → xsum (place_value code n) ps ≡ c → located code n c ≡ some ps
unfolding located
places_located code able n h b c ps r few d =
    let q = pattern n 0 ps (subst (λ m. Rising 0 m ps) (sym (zero-add n)) r) in
    go q.0 q.1 q.2 (within (radius code) (values code n) c) (within_says (radius code) (values code n) c)
  where
    long : length (values code n) ≡ n
    long = as_long code able.sound n h

    value : (w : Word) → length w ≡ n → places_from 0 w ≡ ps → dot (values code n) w ≡ c
    value w l q = places_value code able.sound n h w l ∙ ap (xsum (place_value code n)) q ∙ d

    go :
        (w : Word) → length w ≡ n → places_from 0 w ≡ ps → (o : Option (List ℕ))
        → Says (λ k. k ≤ radius code) 0 (values code n) c o → o ≡ some ps
    go w l q (some x) (e, le, oe, de, qe) =
        ap some
        (sym qe
        ∙ ap (places_from 0)
        (same_pattern n (radius code) (values code n) (free code able n h b) e w (le ∙ long) l oe
        (omega (arith, places-length 0 w, ap length q)) (de ∙ sym (value w l q)))
        ∙ q)
    go w l q none miss =
        absurd (miss w (l ∙ sym long) (omega (arith, places-length 0 w, ap length q)) (value w l q))
