-- What a chain of iterators gives, in the words of the rules.
-- Assumes nothing.
use mathlib.Core.Path.{◌≡◌, refl, sym, ap, ◌∙◌}
use mathlib.Core.Logic.{◌≢◌}
use mathlib.Core.Bool.{Bool, true, false, cond}
use mathlib.Core.List.{List, map, map-id}
use Prim.Native.Nat.{ℕ, zero, suc, ◌+◌, ◌<◌}
use native.Mathlib.Omega.{arith}
use denote.Param.Members.{Mut}
use denote.Ref.{Bor}
use lib.ListN.{length, get_or}
use Rattle.std.specs.Bool.{⊤, MatchBool}
use Rattle.std.specs.Fn.{Called}
use Rattle.std.specs.declared.ops.Range.{Range}
use Rattle.std.specs.Iterator.Adapters.{enumerate_source, enumerate_count, enumerate_steps}
use Rattle.std.specs.Slice.Iter.{iter_rest}
use Rattle.std.specs.Iterator.{ChecksAll, Drains}
use Rattle.std.specs.Iterator.Runs.{EachRunFrom}
use Rattle.std.proofs.Common.{Option}
use Rattle.std.specs.List.{AllWithin, HoldsAt, range_with_len, enumerate_from, sum_by, fold, filter}
use Rattle.std.proofs.iter.Yields.{fronts, nat_range_steps}
use Rattle.std.proofs.lemmas.Iterator.{cases_from_all, YieldsList-from_range, YieldsList-from_slice, YieldsList}
use Rattle.std.proofs.lemmas.Iterator.Consumers.{YieldsList-from_enumerate, sum_by_from_yields_List, fits_by_from_yields_list, count_from_yields_List}
use Rattle.std.proofs.lemmas.List.Sums.{length-filter}
use Rattle.std.proofs.lemmas.List.FromFn.{length-range_with_len, get_or-range_with_len, length-enumerate_from, get_or-enumerate_from, sum_by-map-range_with_len_more}
use Rattle.algebra.specs.Tables.{all_below, total, count, num}
use Rattle.algebra.proofs.TableLaws.{below_each, below_fails, total-none, total_next, total_ext, count_total}

-- `(0..n).all(f)`, where f computes p
module _ (n : ℕ) (p : ℕ → Bool) where
  there : (i : ℕ) → i < n → get_or (range_with_len 0 n) i 0 ≡ i
  there i l = omega (arith, get_or-range_with_len 0 n i 0 l)

  of_cases :
      (r : Bool)
      → MatchBool r (AllWithin (λ j. p j ≡ true) (range_with_len 0 n) 0 (length (range_with_len 0 n)))
      ((k : ℕ) × (k < length (range_with_len 0 n)) × HoldsAt (λ j. p j ≡ false) (range_with_len 0 n) k)
      → r ≡ all_below n p
  of_cases true h =
      sym ((below_each n p).1 (λ i l. rw (there i l) at (h i 0 (omega arith) (omega (arith, length-range_with_len 0 n)))))
  of_cases false h =
      let l : h.0 < n = omega (arith, length-range_with_len 0 n, h.1) in below_fails n p h.0 l (rw (there h.0 l) at (h.2 0))

  pub below_from_all :
      {F : Type 0} {g : Mut F (ℕ × Unit {0}) Bool} (u : Range ℕ) (f : F) (r : Bool)
      → ChecksAll nat_range_steps g (record { start = 0; end = n }) f r u
      → ((x : ℕ) (q : F) → Called g f (x, tt) true q → (q ≡ f) × (p x ≡ true))
      → ((x : ℕ) (q : F) → Called g f (x, tt) false q → p x ≡ false)
      → r ≡ all_below n p
  below_from_all u f r ran passes fails =
      of_cases r (cases_from_all u f r (λ j. p j ≡ true) (λ j. p j ≡ false) ran (YieldsList-from_range 0 n n refl (omega arith)) passes fails)

-- `xs.iter().enumerate().all(g)`, where g compares each entry with f of its place
module _ (xs : List ℕ) (f : ℕ → ℕ) where
  pub entries_from_all :
      {F : Type 0} {g : Mut F ((ℕ × Bor ℕ) × Unit {0}) Bool} {s u : _} {h : F} (r : Bool)
      → iter_rest (enumerate_source s) ≡ xs → enumerate_count s ≡ 0 → ChecksAll (enumerate_steps fronts) g s h r u
      → ((x : ℕ × Bor ℕ) (q : F) → Called g h (x, tt) true q → (q ≡ h) × (x.1.now ≡ f x.0))
      → ((x : ℕ × Bor ℕ) (q : F) → Called g h (x, tt) false q → x.1.now ≢ f x.0)
      → MatchBool r ((k : ℕ) → k < length xs → get_or xs k 0 ≡ f k) ((k : ℕ) × (k < length xs) × (get_or xs k 0 ≢ f k))
  entries_from_all {s = s} {u = u} {h = h} r e z ran passes fails =
      at_places r
      (cases_from_all u h r (λ x. x.1 ≡ f x.0) (λ x. x.1 ≢ f x.0) ran
      (YieldsList-from_enumerate (YieldsList-from_slice xs e) z) passes fails)
    where
      there : (k : ℕ) → k < length xs → get_or (enumerate_from 0 xs) k (0, 0) ≡ (k, get_or xs k 0)
      there k l = get_or-enumerate_from 0 xs k (0, 0) l ∙ (let e : 0 + k ≡ k = omega arith in rw e)

      at_places :
          (r : Bool)
          → MatchBool r (AllWithin (λ (x : ℕ × ℕ). x.1 ≡ f x.0) (enumerate_from 0 xs) 0 (length (enumerate_from 0 xs)))
          ((k : ℕ) × (k < length (enumerate_from 0 xs)) × HoldsAt (λ (x : ℕ × ℕ). x.1 ≢ f x.0) (enumerate_from 0 xs) k)
          → MatchBool r ((k : ℕ) → k < length xs → get_or xs k 0 ≡ f k) ((k : ℕ) × (k < length xs) × (get_or xs k 0 ≢ f k))
      at_places true h = λ k l. rw (there k l) at (h k (0, 0) (omega arith) (omega (arith, length-enumerate_from 0 xs)))
      at_places false h =
          let l : h.0 < length xs = omega (arith, length-enumerate_from 0 xs, h.1) in (h.0, l, rw (there h.0 l) at (h.2 (0, 0)))

-- ---- over the numbers below n: sums, and how many pass a test

sum_range : (n : ℕ) (f : ℕ → ℕ) → sum_by f (range_with_len 0 n) ≡ total n f
sum_range zero f = sym (total-none f)
sum_range (suc n) f =
    let same = λ (m : ℕ). map-id (range_with_len 0 m) in
    let more : suc n ≡ n + 1 = omega arith in
    ap (λ (m : ℕ). sum_by f (range_with_len 0 m)) more
    ∙ ap (sum_by f) (sym (same (n + 1)))
    ∙ sum_by-map-range_with_len_more f (λ x. x) 0 n n (omega arith)
    ∙ ap (λ xs. sum_by f xs + f n) (same n)
    ∙ ap (λ x. x + f n) (sum_range n f)
    ∙ sym (total_next n f)
    ∙ ap (λ (m : ℕ). total m f) (sym more)

-- `(0..n).map(g).sum()`, where g computes f
pub total_from_sum :
    {S : Type 0} {steps : S → Option ℕ → S → Type 0} (n : ℕ) (f : ℕ → ℕ) (s : S) (r : ℕ)
    → (xs : List ℕ) × (⊤ → Drains steps s xs) × (r ≡ fold (λ a x. a + x) 0 xs)
    → YieldsList steps (λ x. x) s (map f (range_with_len 0 n)) → r ≡ total n f
total_from_sum n f s r ran road = sum_by_from_yields_List f (range_with_len 0 n) s r ran road ∙ sum_range n f

pub fits_from_total :
    {S : Type 0} {steps : S → Option ℕ → S → Type 0} (n : ℕ) (f : ℕ → ℕ) (s : S) (top : ℕ)
    → YieldsList steps (λ x. x) s (map f (range_with_len 0 n)) → total n f < top
    → EachRunFrom steps s (λ p. fold (λ a x. a + x) 0 p.items < top)
fits_from_total n f s top road h = fits_by_from_yields_list f (range_with_len 0 n) s top road (rw (sum_range n f) h)

-- `(0..n).filter(g).count()`, where g computes p
pub count_from_filter :
    {S : Type 0} {steps : S → Option ℕ → S → Type 0} (n : ℕ) (p : ℕ → Bool) (s : S) (r : ℕ)
    → (xs : List ℕ) × Drains steps s xs × (r ≡ length xs)
    → YieldsList steps (λ x. x) s (filter p (range_with_len 0 n)) → r ≡ count n p
count_from_filter n p s r ran road =
    count_from_yields_List s r ran road
    ∙ length-filter p (range_with_len 0 n)
    ∙ sum_range n (λ x. cond (p x) 1 0)
    ∙ total_ext n (λ x. cond (p x) 1 0) (λ x. num (p x)) (λ i l. one (p i))
    ∙ sym (count_total n p)
  where
    one : (b : Bool) → cond b 1 0 ≡ num b
    one true = refl
    one false = refl
