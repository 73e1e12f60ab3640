-- The search for places, over any list of values and any radius: it finds a pattern of ones exactly if there is one.
-- Assumes nothing.
use mathlib.Core.Path.{◌≡◌, refl, sym, ap, ◌∙◌}
use mathlib.Core.Logic.{◌≢◌}
use mathlib.Core.Bool.{Bool, true, false}
use mathlib.Core.List.{List, [], ◌∷◌}
use mathlib.Core.Option.{Option, some, none}
use Prim.Native.Nat.{ℕ, zero, suc, ◌+◌, ◌≤◌}
use native.Mathlib.Nat.{zero-add}
use native.Mathlib.Decide.{dec_lt}
use native.Mathlib.Omega.{arith}
use borrow.Author.Tests.{eqb-true, eqb-false}
use lib.Dec.{eqb}
use lib.ListN.{length, replicate, length-replicate}
use Rattle.algebra.specs.Xor.{◌⊕◌}
use Rattle.algebra.specs.Tables.{ones}
use Rattle.algebra.specs.Words.{Word, dot}
use Rattle.algebra.proofs.XorLaws.{⊕-zero, ⊕_comm, ⊕_cancel, zero-⊕}
use Rattle.algebra.proofs.WordLaws.{dot-none}
use Rattle.algebra.proofs.RemainderLaws.{ones_none}
use Rattle.rules.specs.Words.{exactly, within}

-- the places of a word's ones, counted from p
unfoldable pub places_from : ℕ → Word → List ℕ
places_from p [] = []
places_from p (true ∷ w) = p ∷ places_from (suc p) w
places_from p (false ∷ w) = places_from (suc p) w

pub places-length : (p : ℕ) (w : Word) → length (places_from p w) ≡ ones w
unfolding places_from ones
places-length p [] = refl
places-length p (true ∷ w) = ap suc (places-length (suc p) w) ∙ (let e : suc (ones w) ≡ 1 + ones w = omega arith in e)
places-length p (false ∷ w) = places-length (suc p) w ∙ (let e : ones w ≡ 0 + ones w = omega arith in e)

places-none : (p m : ℕ) → places_from p (replicate m false) ≡ []
unfolding places_from
places-none p zero = refl
places-none p (suc m) = places-none (suc p) m

-- a pattern with as many ones as P asks for, whose values ⊕ to s, and its places
abbrev Hit : (ℕ → Type 0) → ℕ → List ℕ → ℕ → List ℕ → Type 0
Hit P p vs s ps = (w : Word) × (length w ≡ length vs) × P (ones w) × (dot vs w ≡ s) × (places_from p w ≡ ps)

-- there is none
abbrev Miss : (ℕ → Type 0) → List ℕ → ℕ → Type 0
Miss P vs s = (w : Word) → length w ≡ length vs → P (ones w) → dot vs w ≢ s

-- what an answer of a search says
abbrev pub Says : (ℕ → Type 0) → ℕ → List ℕ → ℕ → Option (List ℕ) → Type 0
Says P p vs s (some ps) = Hit P p vs s ps
Says P p vs s none = Miss P vs s

abbrev Exact : ℕ → ℕ → Type 0
Exact e o = o ≡ e

-- the empty list has no ones
miss_nil : (e s : ℕ) → Miss (Exact (suc e)) [] s
unfolding ones
miss_nil e s [] h o = absurd (omega arith)
miss_nil e s (b ∷ w) h o = absurd (omega arith)

-- nothing at the first place
hit_later :
    (P : ℕ → Type 0) (p v : ℕ) (vs : List ℕ) (s : ℕ) (ps : List ℕ) → Hit P (suc p) vs s ps → Hit P p (v ∷ vs) s ps
unfolding ones dot places_from
hit_later P p v vs s ps (w, l, o, d, q) =
    (false ∷ w, ap suc l, rw zero-add o, zero-⊕ (dot vs w) ∙ d, q)

-- the first place and e more
hit_first : (e p v : ℕ) (vs : List ℕ) (s : ℕ) (ps : List ℕ) → Hit (Exact e) (suc p) vs (s ⊕ v) ps → Hit (Exact (suc e)) p (v ∷ vs) s (p ∷ ps)
unfolding ones dot places_from
hit_first e p v vs s ps (w, l, o, d, q) =
    (true ∷ w, ap suc l, omega arith, ap (λ m. v ⊕ m) (d ∙ ⊕_comm s v) ∙ ⊕_cancel v s, ap (λ m. p ∷ m) q)

-- the first place alone
hit_one : (p v : ℕ) (vs : List ℕ) (s : ℕ) → v ≡ s → Hit (Exact 1) p (v ∷ vs) s (p ∷ [])
unfolding ones dot places_from
hit_one p v vs s h =
    let w : Word = replicate (length vs) false in
    let o : ones w ≡ 0 = ones_none (length vs) in
    (true ∷ w, ap suc (length-replicate (length vs) false), omega arith, ap (λ m. v ⊕ m) (dot-none vs w o) ∙ ⊕-zero v ∙ h, ap (λ m. p ∷ m) (places-none (suc p) (length vs)))

-- none with the first place and none without it
miss_both :
    (e v : ℕ) (vs : List ℕ) (s : ℕ) → ((w : Word) → length w ≡ length vs → ones w ≡ e → dot vs w ≢ s ⊕ v) → Miss (Exact (suc e)) vs s
    → Miss (Exact (suc e)) (v ∷ vs) s
unfolding ones dot
miss_both e v vs s first later [] l o d = absurd (omega arith)
miss_both e v vs s first later (true ∷ w) l o d =
    first w (omega arith) (omega arith) (sym (⊕_cancel v (dot vs w)) ∙ ap (λ m. v ⊕ m) d ∙ ⊕_comm v s)
miss_both e v vs s first later (false ∷ w) l o d = later w (omega arith) (omega arith) (sym (zero-⊕ (dot vs w)) ∙ d)

says_later :
    (e p v : ℕ) (vs : List ℕ) (s : ℕ) → ((w : Word) → length w ≡ length vs → ones w ≡ e → dot vs w ≢ s ⊕ v)
    → (o : Option (List ℕ)) → Says (Exact (suc e)) (suc p) vs s o → Says (Exact (suc e)) p (v ∷ vs) s o
says_later e p v vs s first (some ps) h = hit_later (Exact (suc e)) p v vs s ps h
says_later e p v vs s first none h = miss_both e v vs s first h

-- no place at all
says_none : (p : ℕ) (vs : List ℕ) (s : ℕ) → Says (Exact 0) p vs s (elim (eqb s 0) [ true ↦ some [] | false ↦ none ])
says_none p vs s = go (eqb s 0) refl
  where
    go : (b : Bool) → eqb s 0 ≡ b → Says (Exact 0) p vs s (elim b [ true ↦ some [] | false ↦ none ])
    go true q =
        let w : Word = replicate (length vs) false in
        let o : ones w ≡ 0 = ones_none (length vs) in
        (w, length-replicate (length vs) false, o, dot-none vs w o ∙ sym (eqb-true s 0 q), places-none p (length vs))
    go false q = λ w l o d. eqb-false s 0 q (sym d ∙ dot-none vs w o)

pub exactly_says : (e p : ℕ) (vs : List ℕ) (s : ℕ) → Says (Exact e) p vs s (exactly e p vs s)
unfolding exactly
exactly_says zero p vs s = says_none p vs s
exactly_says (suc zero) p [] s = miss_nil zero s
exactly_says (suc zero) p (v ∷ vs) s = go (eqb v s) refl (exactly_says (suc zero) (suc p) vs s)
  where
    go :
        (b : Bool) → eqb v s ≡ b → Says (Exact 1) (suc p) vs s (exactly 1 (suc p) vs s)
        → Says (Exact 1) p (v ∷ vs) s (elim b [ true ↦ some (p ∷ []) | false ↦ exactly 1 (suc p) vs s ])
    go true q h = hit_one p v vs s (eqb-true v s q)
    go false q h =
        says_later zero p v vs s
        (λ w l o d. eqb-false v s q (sym (⊕_cancel s v) ∙ ap (λ m. s ⊕ m) (sym d ∙ dot-none vs w o) ∙ ⊕-zero s))
        (exactly 1 (suc p) vs s) h
exactly_says (suc (suc e)) p [] s = miss_nil (suc e) s
exactly_says (suc (suc e)) p (v ∷ vs) s =
    go (exactly (suc e) (suc p) vs (s ⊕ v)) (exactly_says (suc e) (suc p) vs (s ⊕ v)) (exactly_says (suc (suc e)) (suc p) vs s)
  where
    go :
        (o : Option (List ℕ)) → Says (Exact (suc e)) (suc p) vs (s ⊕ v) o
        → Says (Exact (suc (suc e))) (suc p) vs s (exactly (suc (suc e)) (suc p) vs s)
        → Says (Exact (suc (suc e))) p (v ∷ vs) s
        (elim o [ some ps ↦ some (p ∷ ps) | none ↦ exactly (suc (suc e)) (suc p) vs s ])
    go (some ps) first h = hit_first (suc e) p v vs s ps first
    go none first h = says_later (suc e) p v vs s first (exactly (suc (suc e)) (suc p) vs s) h

abbrev AtMost : ℕ → ℕ → Type 0
AtMost t o = o ≤ t

-- at most t places, whatever the values: found exactly if there are such
pub within_says : (t : ℕ) (vs : List ℕ) (s : ℕ) → Says (AtMost t) 0 vs s (within t vs s)
unfolding within
within_says zero vs s = fewest (exactly zero 0 vs s) (exactly_says zero 0 vs s)
  where
    fewest : (o : Option (List ℕ)) → Says (Exact 0) 0 vs s o → Says (AtMost 0) 0 vs s o
    fewest (some ps) (w, l, o, d, q) = (w, l, omega arith, d, q)
    fewest none miss = λ w l o. miss w l (omega arith)
within_says (suc t) vs s = go (within t vs s) (within_says t vs s)
  where
    go :
        (o : Option (List ℕ)) → Says (AtMost t) 0 vs s o
        → Says (AtMost (suc t)) 0 vs s (elim o [ some ps ↦ some ps | none ↦ exactly (suc t) 0 vs s ])
    go (some ps) (w, l, o, d, q) = (w, l, omega arith, d, q)
    go none fewer = more (exactly (suc t) 0 vs s) (exactly_says (suc t) 0 vs s)
      where
        more : (o : Option (List ℕ)) → Says (Exact (suc t)) 0 vs s o → Says (AtMost (suc t)) 0 vs s o
        more (some ps) (w, l, o, d, q) = (w, l, omega arith, d, q)
        more none exact =
            λ w l o. elim (dec_lt t (ones w)) as (λ h. dot vs w ≢ s)
            [ yes h ↦ exact w l (omega arith) | no h ↦ fewer w l (omega arith) ]
