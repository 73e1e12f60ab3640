-- Lists made by a rule: read, compared and counted entry by entry.
-- Assumes nothing.
use mathlib.Core.Path.{◌≡◌, refl, sym, ap, ap₂, ◌∙◌}
use mathlib.Core.Logic.{◌≢◌, ◌↔◌}
use mathlib.Core.Bool.{Bool, true, false, ◌&&◌, and-eq-true_iff}
use mathlib.Core.List.{List, [], ◌∷◌}
use Prim.Native.Nat.{ℕ, zero, suc, ◌+◌, ◌*◌, ◌≤◌, ◌<◌}
use native.Mathlib.Nat.{mul-zero, mul-add, mul-suc, not-suc-le-zero, le_of_suc-le-suc}
use native.Mathlib.Decide.{ℕ_discrete, dec_lt}
use native.Mathlib.Numerals.{add-one}
use native.Mathlib.Omega.{arith}
use lib.ListN.{length, get_or, get_or-eq_default}
use lib.Seq.{ext_get_or}
use Rattle.algebra.specs.Tables.{tab_from, tab, num, ones, sum, count, all_below, total}

tab_from-suc {ℓ} : {A : Type ℓ} (a n : ℕ) (f : ℕ → A) → tab_from (suc a) n f ≡ tab_from a n (λ i. f (suc i))
unfolding tab_from
tab_from-suc a zero f = refl
tab_from-suc a (suc n) f = ap (λ l. f (suc a) ∷ l) (tab_from-suc (suc a) n f)

pub tab-zero {ℓ} : {A : Type ℓ} (f : ℕ → A) → tab 0 f ≡ []
unfolding tab tab_from
tab-zero f = refl

-- the first entry and the others: what every proof below goes by
pub tab-suc {ℓ} : {A : Type ℓ} (n : ℕ) (f : ℕ → A) → tab (suc n) f ≡ f 0 ∷ tab n (λ i. f (suc i))
unfolding tab tab_from
tab-suc n f = ap (λ l. f 0 ∷ l) (tab_from-suc 0 n f)

pub tab-length {ℓ} : {A : Type ℓ} (n : ℕ) (f : ℕ → A) → length (tab n f) ≡ n
tab-length zero f = ap length (tab-zero f)
tab-length (suc n) f = ap length (tab-suc n f) ∙ ap suc (tab-length n (λ i. f (suc i)))

pub tab_at {ℓ} : {A : Type ℓ} (n : ℕ) (f : ℕ → A) (i : ℕ) (d : A) → i < n → get_or (tab n f) i d ≡ f i
tab_at zero f i d h = absurd (not-suc-le-zero h)
tab_at (suc n) f zero d h = ap (λ l. get_or l 0 d) (tab-suc n f)
tab_at (suc n) f (suc i) d h = ap (λ l. get_or l (suc i) d) (tab-suc n f) ∙ tab_at n (λ i. f (suc i)) i d (le_of_suc-le-suc h)

pub tab_past {ℓ} : {A : Type ℓ} (n : ℕ) (f : ℕ → A) (i : ℕ) (d : A) → n ≤ i → get_or (tab n f) i d ≡ d
tab_past n f i d h = get_or-eq_default (tab n f) d (omega (arith, tab-length n f))

-- a list of n entries is the table of a rule that gives them
pub tab_is {ℓ} : {A : Type ℓ} (n : ℕ) (f : ℕ → A) (l : List A) (d : A) → length l ≡ n → ((i : ℕ) → i < n → f i ≡ get_or l i d) → tab n f ≡ l
tab_is n f l d e h =
    ext_get_or d (tab n f) l (tab-length n f ∙ sym e)
    (λ i hi. let hn : i < n = omega (arith, tab-length n f) in tab_at n f i d hn ∙ h i hn)

pub tab_ext {ℓ} : {A : Type ℓ} (n : ℕ) (f g : ℕ → A) → ((i : ℕ) → i < n → f i ≡ g i) → tab n f ≡ tab n g
tab_ext zero f g h = tab-zero f ∙ sym (tab-zero g)
tab_ext (suc n) f g h =
    tab-suc n f
    ∙ ap₂ ◌∷◌ (h 0 (omega arith)) (tab_ext n (λ i. f (suc i)) (λ i. g (suc i)) (λ i hi. h (suc i) (omega arith)))
    ∙ sym (tab-suc n g)

-- ---- counted

count-suc : (n : ℕ) (p : ℕ → Bool) → count (suc n) p ≡ num (p 0) + count n (λ i. p (suc i))
unfolding ones
count-suc n p = ap ones (tab-suc n p)

count_none : (p : ℕ → Bool) → count 0 p ≡ 0
unfolding ones
count_none p = ap ones (tab-zero p)

total-suc : (n : ℕ) (f : ℕ → ℕ) → total (suc n) f ≡ f 0 + total n (λ i. f (suc i))
unfolding sum
total-suc n f = ap sum (tab-suc n f)

pub total-none : (f : ℕ → ℕ) → total 0 f ≡ 0
unfolding sum
total-none f = ap sum (tab-zero f)

-- the others and the last term
pub total_last : (n : ℕ) (f : ℕ → ℕ) → total (suc n) f ≡ total n f + f n
total_last zero f = omega (arith, total-suc 0 f, total-none f, total-none (λ i. f (suc i)))
total_last (suc n) f = omega (arith, total-suc (suc n) f, total-suc n f, total_last n (λ i. f (suc i)))

-- the same as a loop's counter has it
pub total_next : (n : ℕ) (f : ℕ → ℕ) → total (n + 1) f ≡ total n f + f n
total_next n f = ap (λ m. total m f) (add-one n) ∙ total_last n f

-- a count is the sum of ones
pub count_total : (n : ℕ) (p : ℕ → Bool) → count n p ≡ total n (λ i. num (p i))
count_total zero p = count_none p ∙ sym (total-none (λ i. num (p i)))
count_total (suc n) p = count-suc n p ∙ ap (λ m. num (p 0) + m) (count_total n (λ i. p (suc i))) ∙ sym (total-suc n (λ i. num (p i)))

-- sums compare term by term, also where one is scaled
pub total_mono : (c n : ℕ) (f g : ℕ → ℕ) → ((i : ℕ) → i < n → c * f i ≤ g i) → c * total n f ≤ total n g
total_mono c zero f g h = let e : c * total 0 f ≡ 0 = ap (λ m. c * m) (total-none f) ∙ mul-zero c in omega arith
total_mono c (suc n) f g h =
    let here : c * f 0 ≤ g 0 = h 0 (omega arith) in
    let there : c * total n (λ i. f (suc i)) ≤ total n (λ i. g (suc i)) =
    total_mono c n (λ i. f (suc i)) (λ i. g (suc i)) (λ i hi. h (suc i) (omega arith)) in
    let e : c * total (suc n) f ≡ c * f 0 + c * total n (λ i. f (suc i)) =
    ap (λ m. c * m) (total-suc n f) ∙ mul-add c (f 0) (total n (λ i. f (suc i))) in
    omega (arith, total-suc n g)

-- no term is more than c
pub total_most : (c n : ℕ) (f : ℕ → ℕ) → ((i : ℕ) → i < n → f i ≤ c) → total n f ≤ c * n
total_most c zero f h = omega (arith, total-none f)
total_most c (suc n) f h =
    omega (arith, total_last n f, mul-suc c n, total_most c n f (λ i l. h i (omega arith)), h n (omega arith))

pub count_most : (n : ℕ) (p : ℕ → Bool) → count n p ≤ n
count_most n p = let m = total_most 1 n (λ i. num (p i)) (λ i l. one (p i)) in omega (arith, count_total n p)
  where
    one : (b : Bool) → num b ≤ 1
    one true = omega arith
    one false = omega arith

-- term by term against two sums
pub total-add : (n : ℕ) (f g h : ℕ → ℕ) → ((i : ℕ) → i < n → f i ≤ g i + h i) → total n f ≤ total n g + total n h
total-add zero f g h q = omega (arith, total-none f)
total-add (suc n) f g h q =
    omega (
      arith,
      total-suc n f,
      total-suc n g,
      total-suc n h,
      q 0 (omega arith),
      total-add n (λ i. f (suc i)) (λ i. g (suc i)) (λ i. h (suc i)) (λ i l. q (suc i) (omega arith)),
    )

pub count_ext : (n : ℕ) (p q : ℕ → Bool) → ((i : ℕ) → i < n → p i ≡ q i) → count n p ≡ count n q
count_ext n p q h = ap ones (tab_ext n p q h)

pub count_mono : (n : ℕ) (p q : ℕ → Bool) → ((i : ℕ) → i < n → num (p i) ≤ num (q i)) → count n p ≤ count n q
count_mono n p q h =
    let m = total_mono 1 n (λ i. num (p i)) (λ i. num (q i)) (λ i hi. let k = h i hi in omega arith) in
    omega (arith, count_total n p, count_total n q)

pub total-zero : (n : ℕ) (f : ℕ → ℕ) → total n f ≡ 0 → (i : ℕ) → i < n → f i ≡ 0
total-zero zero f e i h = absurd (not-suc-le-zero h)
total-zero (suc n) f e zero h = omega (arith, total-suc n f)
total-zero (suc n) f e (suc i) h =
    total-zero n (λ i. f (suc i)) (omega (arith, total-suc n f)) i (le_of_suc-le-suc h)

pub zero-total : (n : ℕ) (f : ℕ → ℕ) → ((i : ℕ) → i < n → f i ≡ 0) → total n f ≡ 0
zero-total zero f h = total-none f
zero-total (suc n) f h =
    let e : f 0 ≡ 0 = h 0 (omega arith) in
    let r : total n (λ i. f (suc i)) ≡ 0 = zero-total n (λ i. f (suc i)) (λ i hi. h (suc i) (omega arith)) in
    omega (arith, total-suc n f)

pub num-zero : {b : Bool} → num b ≡ 0 → b ≡ false
num-zero {b = true} e = absurd (omega arith)
num-zero {b = false} e = refl

-- nothing is counted exactly if every test fails
pub count-zero : (n : ℕ) (p : ℕ → Bool) → count n p ≡ 0 → (i : ℕ) → i < n → p i ≡ false
count-zero n p e i h = num-zero (total-zero n (λ i. num (p i)) (sym (count_total n p) ∙ e) i h)

pub zero-count : (n : ℕ) (p : ℕ → Bool) → ((i : ℕ) → i < n → p i ≡ false) → count n p ≡ 0
zero-count n p h = count_total n p ∙ zero-total n (λ i. num (p i)) (λ i hi. ap num (h i hi))

-- a sum that is not zero has a term that is not
pub total-some : (n : ℕ) (f : ℕ → ℕ) → total n f ≢ 0 → (i : ℕ) × (i < n) × (f i ≢ 0)
total-some zero f h = absurd (h (total-none f))
total-some (suc n) f h = go (ℕ_discrete (f 0) 0) (total-some n (λ i. f (suc i)))
  where
    go :
        Dec (f 0 ≡ 0) → (total n (λ i. f (suc i)) ≢ 0 → (i : ℕ) × (i < n) × (f (suc i) ≢ 0))
        → (i : ℕ) × (i < suc n) × (f i ≢ 0)
    go (yes z) later = let t = later (λ e. h (total-suc n f ∙ ap₂ ◌+◌ z e)) in (suc t.0, omega (arith, t.1), t.2)
    go (no z) later = (0, omega arith, z)

-- a total below n has a term that is zero
pub total_few : (n : ℕ) (f : ℕ → ℕ) → total n f < n → (i : ℕ) × (i < n) × (f i ≡ 0)
total_few zero f h = absurd (omega arith)
total_few (suc n) f h = go (total_few n f) (ℕ_discrete (f n) 0)
  where
    go : (total n f < n → (i : ℕ) × (i < n) × (f i ≡ 0)) → Dec (f n ≡ 0) → (i : ℕ) × (i < suc n) × (f i ≡ 0)
    go before (yes z) = (n, omega arith, z)
    go before (no z) = let k = before (omega (arith, total_last n f, z, h)) in (k.0, omega (arith, k.1), k.2)

-- and a count that is not zero has counted something
pub count-some : (n : ℕ) (p : ℕ → Bool) → count n p ≢ 0 → (i : ℕ) × (i < n) × (p i ≡ true)
count-some n p h =
    let t = total-some n (λ i. num (p i)) (λ e. h (count_total n p ∙ e)) in (t.0, t.1, go (p t.0) t.2)
  where
    go : (b : Bool) → num b ≢ 0 → b ≡ true
    go true k = refl
    go false k = absurd (k refl)

pub total_ext : (n : ℕ) (f g : ℕ → ℕ) → ((i : ℕ) → i < n → f i ≡ g i) → total n f ≡ total n g
total_ext n f g h = ap sum (tab_ext n f g h)

total_plus : (n : ℕ) (f g : ℕ → ℕ) → total n (λ i. f i + g i) ≡ total n f + total n g
total_plus zero f g = omega (arith, total-none (λ i. f i + g i), total-none f, total-none g)
total_plus (suc n) f g =
    omega (arith, total_last n (λ i. f i + g i), total_last n f, total_last n g, total_plus n f g)

-- the first n terms, and the next m
pub total_split : (n m : ℕ) (f : ℕ → ℕ) → total (n + m) f ≡ total n f + total m (λ i. f (n + i))
total_split n zero f =
    let e : n + 0 ≡ n = omega arith in
    omega (arith, ap (λ k. total k f) e, total-none (λ i. f (n + i)))
total_split n (suc m) f =
    let e : n + suc m ≡ suc (n + m) = omega arith in
    omega (arith, ap (λ k. total k f) e, total_last (n + m) f, total_last m (λ i. f (n + i)), total_split n m f)

-- a sum of sums, turned over
pub total_swap : (n m : ℕ) (c : ℕ → ℕ → ℕ) → total n (λ i. total m (λ j. c i j)) ≡ total m (λ j. total n (λ i. c i j))
total_swap zero m c =
    total-none (λ i. total m (λ j. c i j)) ∙ sym (zero-total m (λ j. total 0 (λ i. c i j)) (λ j h. total-none (λ i. c i j)))
total_swap (suc n) m c =
    total_last n (λ i. total m (λ j. c i j))
    ∙ ap (λ x. x + total m (λ j. c n j)) (total_swap n m c)
    ∙ sym (total_plus m (λ j. total n (λ i. c i j)) (λ j. c n j))
    ∙ total_ext m (λ j. total n (λ i. c i j) + c n j) (λ j. total (suc n) (λ i. c i j)) (λ j h. sym (total_last n (λ i. c i j)))

pub below_each : (n : ℕ) (p : ℕ → Bool) → (all_below n p ≡ true) ↔ ((i : ℕ) → i < n → p i ≡ true)
unfolding all_below
below_each zero p = (λ h i l. absurd (omega arith), λ h. refl)
below_each (suc n) p = (
  λ h i l. let t = (and-eq-true_iff (p n) (all_below n p)).0 h in go i t.0 ((below_each n p).0 t.1) (dec_lt i n) l,
  λ h. (and-eq-true_iff (p n) (all_below n p)).1 (h n (omega arith), (below_each n p).1 (λ i l. h i (omega arith))),
)
  where
    go : (i : ℕ) → p n ≡ true → ((i : ℕ) → i < n → p i ≡ true) → Dec (i < n) → i < suc n → p i ≡ true
    go i last before (yes l) m = before i l
    go i last before (no l) m = let e : i ≡ n = omega (arith, l) in ap p e ∙ last

pub below_none : (p : ℕ → Bool) → true ≡ all_below 0 p
unfolding all_below
below_none p = refl

pub below_next : (n : ℕ) (p : ℕ → Bool) → true ≡ all_below n p → p n ≡ true → true ≡ all_below (n + 1) p
unfolding all_below
below_next n p h e = rw (add-one n) (sym ((and-eq-true_iff (p n) (all_below n p)).1 (e, sym h)))

-- one fails
pub below_fails : (n : ℕ) (p : ℕ → Bool) (i : ℕ) → i < n → p i ≡ false → false ≡ all_below n p
below_fails n p i l e = go (all_below n p) refl
  where
    go : (b : Bool) → all_below n p ≡ b → false ≡ b
    go true h = sym e ∙ (below_each n p).0 h i l
    go false h = refl

pub below_ext : (n : ℕ) (p q : ℕ → Bool) → ((i : ℕ) → i < n → p i ≡ q i) → all_below n p ≡ all_below n q
unfolding all_below
below_ext zero p q h = refl
below_ext (suc n) p q h = ap₂ ◌&&◌ (h n (omega arith)) (below_ext n p q (λ i l. h i (omega arith)))
