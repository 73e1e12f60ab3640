-- A row pass and a column pass give the written frame back where at most t rows have more than t wrong bits. Stated over the
-- radius t and any word code that mends t wrong bits.
-- Assumes nothing.
use mathlib.Core.Path.{◌≡◌, refl, sym, ap, ap₂, ◌∙◌}
use mathlib.Core.Bool.{Bool, true, false, xor, ◌||◌}
use mathlib.Core.List.{List, [], ◌∷◌}
use Prim.Native.Nat.{ℕ, zero, suc, ◌+◌, ◌*◌, ◌≤◌, ◌<◌}
use native.Mathlib.Nat.{mul-one, mul-zero, mul-le-mul_left}
use native.Mathlib.Decide.{dec_lt}
use native.Mathlib.Omega.{arith}
use borrow.Author.Tests.{le-leb, lt-leb, ne_eqb}
use lib.Dec.{leb, eqb, eqb-zero-suc, eqb-suc-suc}
use lib.ListN.{length}
use Rattle.algebra.specs.Tables.{tab, num, ones, count, total}
use Rattle.algebra.specs.Words.{Word, bit, ◌⊻◌, differ}
use Rattle.algebra.proofs.Digits.{num-le}
use Rattle.algebra.proofs.TableLaws.{tab-zero, tab-suc, tab_at, tab_is, count_mono, count_ext, count_total, zero-count, total_mono, total-add, num-zero, total_few}
use Rattle.algebra.proofs.WordLaws.{xor_self, differ_self}
use Rattle.rules.specs.Words.{is_in}
use Rattle.rules.specs.Frames.{Frame, row, cell, transposed}
use Rattle.rules.specs.Passes.{differences}
use Rattle.rules.specs.Damage.{spoilt}
use Rattle.rules.proofs.Laws.Shape.{Square, transposed_square, transposed_row, transposed_twice}

-- two tables differ where their rules do
differ_tab : (n : ℕ) (p q : ℕ → Bool) → differ (tab n p) (tab n q) ≡ count n (λ i. xor (p i) (q i))
unfolding ◌⊻◌ ones
differ_tab zero p q = ap₂ differ (tab-zero p) (tab-zero q) ∙ ap ones (sym (tab-zero (λ i. xor (p i) (q i))))
differ_tab (suc n) p q =
    ap₂ differ (tab-suc n p) (tab-suc n q)
    ∙ ap (λ m. num (xor (p 0) (q 0)) + m) (differ_tab n (λ i. p (suc i)) (λ i. q (suc i)))
    ∙ ap ones (sym (tab-suc n (λ i. xor (p i) (q i))))

-- every row mended
unfoldable pub rows_mended : ℕ → (Word → Word) → Frame → Frame
rows_mended n mend f = tab n (λ i. mend (row f i))

module _
    (n t : ℕ) (code : Word → Bool) (mend : Word → Word)
    (mends : (c w : Word) → length c ≡ n → length w ≡ n → code c ≡ true → differ c w ≤ t → mend w ≡ c)
  where
    abbrev AllCode : Frame → Type 0
    AllCode f = (i : ℕ) → i < n → code (row f i) ≡ true

    -- rows that are codewords are left
    pub rows_left : (f : Frame) → Square n f → AllCode f → rows_mended n mend f ≡ f
    unfolding rows_mended row
    rows_left f s c =
        tab_is n (λ i. mend (row f i)) f [] s.0
        (λ i h. mends (row f i) (row f i) (s.1 i h) (s.1 i h) (c i h) (omega (arith, differ_self (row f i))))

    module _ (f h : Frame) (sf : Square n f) (sh : Square n h) (rows : AllCode f) where
      -- a row with at most t wrong bits comes back
      row_back : (i : ℕ) → i < n → differ (row f i) (row h i) ≤ t → row (rows_mended n mend h) i ≡ row f i
      unfolding rows_mended row
      row_back i l d =
          tab_at n (λ i. mend (row h i)) i [] l ∙ mends (row f i) (row h i) (sf.1 i l) (sh.1 i l) (rows i l) d

      -- what is wrong after the row pass lies in a spoiled row
      wrong_lies :
          (i j : ℕ) → i < n
          → num (xor (cell f i j) (cell (rows_mended n mend h) i j)) ≤ num (leb (suc t) (differ (row f i) (row h i)))
      wrong_lies i j l = go (dec_lt t (differ (row f i) (row h i)))
        where
          go :
              Dec (t < differ (row f i) (row h i))
              → num (xor (cell f i j) (cell (rows_mended n mend h) i j)) ≤ num (leb (suc t) (differ (row f i) (row h i)))
          go (yes d) =
              rw (le-leb (suc t) (differ (row f i) (row h i)) d) (num-le (xor (cell f i j) (cell (rows_mended n mend h) i j)))
          go (no d) =
              let e : row (rows_mended n mend h) i ≡ row f i = row_back i l (omega arith) in
              let x : xor (cell f i j) (cell (rows_mended n mend h) i j) ≡ false =
              ap (λ w. xor (cell f i j) (bit w j)) e ∙ xor_self (cell f i j) in
              omega (arith, ap num x)

      -- so a column has at most as many wrong bits as there are spoiled rows
      column_wrong :
          (j : ℕ) → j < n → differ (row (transposed n f) j) (row (transposed n (rows_mended n mend h)) j) ≤ spoilt t n f h
      unfolding spoilt
      column_wrong j l =
          rw (transposed_row n f j l, transposed_row n (rows_mended n mend h) j l, differ_tab n (λ i. cell f i j) (λ i. cell (rows_mended n mend h) i j))
          (count_mono n (λ i. xor (cell f i j) (cell (rows_mended n mend h) i j)) (λ i. leb (suc t) (differ (row f i) (row h i)))
          (λ i k. wrong_lies i j k))

      pub two_passes :
          AllCode (transposed n f) → spoilt t n f h ≤ t
          → transposed n (rows_mended n mend (transposed n (rows_mended n mend h))) ≡ f
      unfolding rows_mended row
      two_passes columns few =
          let h₁ : Frame = rows_mended n mend h in
          let st = transposed_square n f in
          let sh₁ = transposed_square n h₁ in
          ap (transposed n)
          (tab_is n (λ j. mend (row (transposed n h₁) j)) (transposed n f) [] st.0
          (λ j l.
          mends (row (transposed n f) j) (row (transposed n h₁) j) (st.1 j l) (sh₁.1 j l) (columns j l)
          (let d = column_wrong j l in omega arith)))
          ∙ transposed_twice n f sf

-- ---- damage that is few in every row but t

scaled : (t x : ℕ) → suc t * num (leb (suc t) x) ≤ x
scaled t x = go (dec_lt t x)
  where
    go : Dec (t < x) → suc t * num (leb (suc t) x) ≤ x
    go (yes h) = rw (le-leb (suc t) x h, mul-one) h
    go (no h) = rw (lt-leb (suc t) x (omega arith), mul-zero) (omega arith)

root_le : (t c d : ℕ) → suc t * c ≤ d → d < suc t * suc t → c ≤ t
root_le t c d m l = go (dec_lt t c)
  where
    go : Dec (t < c) → c ≤ t
    go (yes h) = absurd (omega (arith, mul-le-mul_left (suc t) h))
    go (no h) = omega arith

-- fewer than (t + 1)² wrong bits spoil at most t rows
pub few_wrong : (t n : ℕ) (f h : Frame) → differences n f h < suc t * suc t → spoilt t n f h ≤ t
unfolding differences spoilt
few_wrong t n f h d =
    let p : ℕ → Bool = λ i. leb (suc t) (differ (row f i) (row h i)) in
    let m : suc t * total n (λ i. num (p i)) ≤ total n (λ i. differ (row f i) (row h i)) =
    total_mono (suc t) n (λ i. num (p i)) (λ i. differ (row f i) (row h i)) (λ i l. scaled t (differ (row f i) (row h i))) in
    root_le t (count n p) (total n (λ i. differ (row f i) (row h i))) (rw (count_total n p) m) d

count_one : (n a : ℕ) → count n (λ i. eqb i a) ≤ 1
unfolding ones
count_one zero a = omega (arith, ap ones (tab-zero (λ i. eqb i a)))
count_one (suc n) zero =
    let e = ap ones (tab-suc n (λ i. eqb i 0)) in
    let z = zero-count n (λ i. eqb (suc i) 0) (λ i h. ne_eqb (suc i) 0 (λ q. omega (arith, q))) in
    omega (arith, e, z)
count_one (suc n) (suc a) =
    let e = ap ones (tab-suc n (λ i. eqb i (suc a))) in
    let z : count n (λ i. eqb (suc i) (suc a)) ≡ count n (λ i. eqb i a) =
    count_ext n (λ i. eqb (suc i) (suc a)) (λ i. eqb i a) (λ i h. eqb-suc-suc i a) in
    omega (arith, e, z, ap num (eqb-zero-suc a), count_one n a)

or_num : (b c : Bool) → num (b || c) ≤ num b + num c
or_num true c = omega arith
or_num false c = omega arith

count_named : (n : ℕ) (xs : List ℕ) → count n (λ i. is_in i xs) ≤ length xs
unfolding is_in
count_named n [] = let z = zero-count n (λ i. false) (λ i h. refl) in omega arith
count_named n (x ∷ xs) =
    let m : total n (λ i. num (eqb i x || is_in i xs)) ≤ total n (λ i. num (eqb i x)) + total n (λ i. num (is_in i xs)) =
    total-add n (λ i. num (eqb i x || is_in i xs)) (λ i. num (eqb i x)) (λ i. num (is_in i xs)) (λ i h. or_num (eqb i x) (is_in i xs)) in
    omega
    (arith, count_total n (λ i. eqb i x || is_in i xs), count_total n (λ i. eqb i x), count_total n (λ i. is_in i xs), count_one n x, count_named n xs)

-- a list that is shorter than n does not name all below n
pub some_unnamed : (n : ℕ) (xs : List ℕ) → length xs < n → (i : ℕ) × (i < n) × (is_in i xs ≡ false)
some_unnamed n xs h =
    let z = total_few n (λ i. num (is_in i xs)) (omega (arith, count_total n (λ i. is_in i xs), count_named n xs)) in
    (z.0, z.1, num-zero z.2)

-- rows lost whole, at most t of them, spoil at most t rows
pub rows_lost :
    (t n : ℕ) (f h : Frame) (lost : List ℕ) → length lost ≤ t → ((i : ℕ) → i < n → is_in i lost ≡ false → row f i ≡ row h i)
    → spoilt t n f h ≤ t
unfolding spoilt
rows_lost t n f h lost few same =
    let m : count n (λ i. leb (suc t) (differ (row f i) (row h i))) ≤ count n (λ i. is_in i lost) =
    count_mono n (λ i. leb (suc t) (differ (row f i) (row h i))) (λ i. is_in i lost)
    (λ i l. go i l (is_in i lost) refl) in
    omega (arith, count_named n lost)
  where
    go : (i : ℕ) → i < n → (b : Bool) → is_in i lost ≡ b → num (leb (suc t) (differ (row f i) (row h i))) ≤ num (is_in i lost)
    go i l true q = rw q (num-le (leb (suc t) (differ (row f i) (row h i))))
    go i l false q =
        let z : differ (row f i) (row h i) ≡ 0 = ap (λ w. differ (row f i) w) (sym (same i l q)) ∙ differ_self (row f i) in
        let e : leb (suc t) (differ (row f i) (row h i)) ≡ false = lt-leb (suc t) (differ (row f i) (row h i)) (omega arith) in
        omega (arith, ap num e)

-- columns lost whole, at most t of them, leave at most t wrong bits in each row, and spoil none
pub columns_lost :
    (t n : ℕ) (f h : Frame) → Square n f → Square n h → (lost : List ℕ) → length lost ≤ t
    → ((i j : ℕ) → i < n → j < n → is_in j lost ≡ false → cell f i j ≡ cell h i j) → spoilt t n f h ≡ 0
unfolding spoilt bit
columns_lost t n f h sf sh lost few same =
    zero-count n (λ i. leb (suc t) (differ (row f i) (row h i)))
    (λ i l. lt-leb (suc t) (differ (row f i) (row h i)) (omega (arith, wrong i l, count_named n lost)))
  where
    bits : (w : Word) → length w ≡ n → tab n (bit w) ≡ w
    bits w e = tab_is n (bit w) w false e (λ j l. refl)

    only : (i j : ℕ) → i < n → j < n → (b : Bool) → is_in j lost ≡ b → num (xor (cell f i j) (cell h i j)) ≤ num (is_in j lost)
    only i j l k true q = rw q (num-le (xor (cell f i j) (cell h i j)))
    only i j l k false q = rw (same i j l k q, xor_self (cell h i j)) (omega arith)

    wrong : (i : ℕ) → i < n → differ (row f i) (row h i) ≤ count n (λ j. is_in j lost)
    wrong i l =
        let e : differ (row f i) (row h i) ≡ count n (λ j. xor (cell f i j) (cell h i j)) =
        ap₂ differ (sym (bits (row f i) (sf.1 i l))) (sym (bits (row h i) (sh.1 i l))) ∙ differ_tab n (cell f i) (cell h i) in
        rw e (count_mono n (λ j. xor (cell f i j) (cell h i j)) (λ j. is_in j lost) (λ j k. only i j l k (is_in j lost) refl))
