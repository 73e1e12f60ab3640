-- The checks of the entry points: when each accepts, which numbers can occur, and what is said and written by the number.
-- Assumes nothing.
use mathlib.Core.Path.{◌≡◌, refl, sym, ap, ◌∙◌}
use mathlib.Core.Logic.Iff
use mathlib.Core.Logic.{◌≢◌, ◌↔◌, ◌⊎◌, inl, inr}
use mathlib.Core.Bool.{Bool, true, false, not, ◌&&◌, true≢false}
use mathlib.Core.List.{List, [], ◌∷◌, ◌++◌, map}
use Prim.Native.Nat.{ℕ, ◌≤◌}
use native.Mathlib.Omega.{arith}
use lib.Dec.{eqb, leb}
use lib.ListN.{length}
use borrow.Author.Tests.{eqb-true, eqb-false, eq-eqb, ne_eqb, leb-true, le-leb, not-false}
use Rattle.rules.specs.Codes.{Code, data_bits}
use Rattle.rules.specs.Words.{is_in, answer, mend}
use Rattle.rules.specs.Frames.{is_frame, is_erased, corner}
use Rattle.rules.specs.Bits.{row_bytes, word_of, frame_of, word_bytes, bytes_of, spare_ones}
use Rattle.rules.specs.Passes.{Ending, clean, repaired, stuck, spent, Outcome, decoded}
use Rattle.rules.specs.Numbers.{told, handed_out, ended, number, Figures, figures_of, most_allowed, pick, not_allowed, data_bytes, frame_bytes, encode_number, encode_output, frame_for, read_number, read_output, refused, erased, undecoded, decode_refusal, decode_said, decode_output, word_refused, answered, word_refusal, word_said, word_number, word_output, RefusalList, first, size_refusals, encode_refusals, read_refusals, decode_refusals, word_refusals}
use Rattle.rules.proofs.Laws.OneOfLaws.{OneOf, one_of_self, one_of_cons, one_of_back, one_of_front, none_of_cons}

-- ---- a list of checks

abbrev pub numbers : RefusalList → List ℕ
numbers checks = map (λ check. check.1) checks

-- the number given is 0 or one of the list's
pub first_in : (checks : RefusalList) → OneOf (first checks) (0 ∷ numbers checks)
unfolding is_in
first_in [] = refl
first_in (check ∷ later) = go check.0 (first_in later)
  where
    x : ℕ
    x = check.1

    others : List ℕ
    others = numbers later

    skip : (first later ≡ 0) ⊎ OneOf (first later) others → OneOf (first later) (0 ∷ x ∷ others)
    skip (inl e) = rw e refl
    skip (inr h) = one_of_back (first later) (0 ∷ x ∷ []) others h

    go : (b : Bool) → OneOf (first later) (0 ∷ others) → OneOf (pick b x (first later)) (0 ∷ x ∷ others)
    go true h = one_of_back x (0 ∷ []) (x ∷ others) (one_of_front x (x ∷ []) others (one_of_self x))
    go false h = skip (one_of_cons (first later) 0 others h)

-- no check applies
abbrev pub Clear : RefusalList → Type 0
Clear [] = Unit {0}
Clear (check ∷ later) = (check.0 ≡ false) × Clear later

-- 0 is given exactly if none does, where no check has that number
pub first_clear : (checks : RefusalList) → is_in 0 (numbers checks) ≡ false → (first checks ≡ 0) ↔ Clear checks
first_clear [] h = (λ e. tt, λ e. refl)
first_clear (check ∷ later) h = let t = none_of_cons 0 check.1 (numbers later) h in go check.0 t.0 (first_clear later t.1)
  where
    go :
        (b : Bool) → 0 ≢ check.1 → (first later ≡ 0) ↔ Clear later
        → (pick b check.1 (first later) ≡ 0) ↔ ((b ≡ false) × Clear later)
    go true some rest = (λ e. absurd (some (sym e)), λ e. absurd (true≢false e.0))
    go false some rest = (λ e. (refl, rest.0 e), λ e. rest.1 e.1)

-- the last check's number, which is no other's, is given exactly if that one does, and none before it
pub first_last :
    (before : RefusalList) (t : Bool) (r : ℕ) → is_in r (numbers before) ≡ false → r ≢ 0
    → (first (before ++ (t, r) ∷ []) ≡ r) ↔ (Clear before × (t ≡ true))
first_last [] true r other some = (λ e. (tt, refl), λ e. refl)
first_last [] false r other some = (λ e. absurd (some (sym e)), λ c. absurd (true≢false (sym c.1)))
first_last (check ∷ before) t r other some =
    let o = none_of_cons r check.1 (numbers before) other in go check.0 o.0 (first_last before t r o.1 some)
  where
    go :
        (b : Bool) → r ≢ check.1 → (first (before ++ (t, r) ∷ []) ≡ r) ↔ (Clear before × (t ≡ true))
        → (pick b check.1 (first (before ++ (t, r) ∷ [])) ≡ r) ↔ (((b ≡ false) × Clear before) × (t ≡ true))
    go true o rest = (λ e. absurd (o (sym e)), λ c. absurd (true≢false c.0.0))
    go false o rest = (λ e. let c = rest.0 e in ((refl, c.0), c.1), λ c. rest.1 (c.0.1, c.1))

-- ---- the tests: a check that doesn't apply

both : (a b : Bool) → not (a && b) ≡ false → (a ≡ true) × (b ≡ true)
both true b h = (refl, not-false b h)
both false b h = absurd (true≢false h)

pub range_test : (lo hi n : ℕ) → (not (leb lo n && leb n hi) ≡ false) ↔ ((lo ≤ n) × (n ≤ hi))
range_test lo hi n = (
  λ h. let p = both (leb lo n) (leb n hi) h in (leb-true lo n p.0, leb-true n hi p.1),
  λ h. rw (le-leb lo n h.0, le-leb n hi h.1),
)

pub equal_test : (x y : ℕ) → (not (eqb x y) ≡ false) ↔ (x ≡ y)
equal_test x y = (λ h. eqb-true x y (not-false (eqb x y) h), λ h. ap not (eq-eqb x y h))

pub true_test : (b : Bool) → (not b ≡ false) ↔ (b ≡ true)
true_test b = (not-false b, λ h. ap not h)

-- ---- the checks that every entry point begins with

-- n is in range, the input has a bytes and the output b
pub record Sized (code : Code) (n : ℕ) (input : List ℕ) (a : ℕ) (output : List ℕ) (b : ℕ) : Type 0 where
  pub from : code.shortest ≤ n
  pub up_to : n ≤ code.longest
  pub taken : length input ≡ a
  pub lent : length output ≡ b

sized :
    (code : Code) (n : ℕ) (input : List ℕ) (a : ℕ) (output : List ℕ) (b : ℕ) (later : RefusalList)
    → Clear (size_refusals code n input a output b later) ↔ (Sized code n input a output b × Clear later)
sized code n input a output b later = (
  λ c.
      let r = (range_test code.shortest code.longest n).0 c.0 in
      let f : Sized code n input a output b =
      record {
        from = r.0;
        up_to = r.1;
        taken = (equal_test (length input) a).0 c.1.0;
        lent = (equal_test (length output) b).0 c.1.1.0;
      } in
      (f, c.1.1.1),
  λ p.
      let f = p.0 in (
        (range_test code.shortest code.longest n).1 (f.from, f.up_to),
        ((equal_test (length input) a).1 f.taken, ((equal_test (length output) b).1 f.lent, p.1)),
      ),
)

-- and with two checks more
sized_two :
    (code : Code) (n : ℕ) (input : List ℕ) (a : ℕ) (output : List ℕ) (b : ℕ) (t u : Bool) (r q : ℕ) {X Y : Type 0} → (t ≡ false) ↔ X → (u ≡ false) ↔ Y
    → Clear (size_refusals code n input a output b ((t, r) ∷ (u, q) ∷ [])) ↔ (Sized code n input a output b × X × Y)
sized_two code n input a output b t u r q h k =
    let s = sized code n input a output b ((t, r) ∷ (u, q) ∷ []) in (
      λ c. let p = s.0 c in (p.0, h.0 p.1.0, k.0 p.1.1.0),
      λ p. s.1 (p.0, (h.1 p.1, (k.1 p.2, tt))),
    )

-- ---- when each entry point accepts

pub encode_accepts :
    (code : Code) (n : ℕ) (input output : List ℕ)
    → (encode_number code n input output ≡ 0)
    ↔ (Sized code n input (data_bytes code n) output (frame_bytes n) × (spare_ones (data_bits code n) input ≡ 0) × (is_erased n (frame_for code n input) ≡ false))
unfolding encode_number is_in
encode_accepts code n input output =
    Iff.trans (first_clear (encode_refusals code n input output) refl)
    (sized_two code n input (data_bytes code n) output (frame_bytes n) (not (eqb (spare_ones (data_bits code n) input) 0)) (is_erased n (frame_for code n input)) 5 10
    (equal_test (spare_ones (data_bits code n) input) 0) Iff.rfl)

pub read_accepts :
    (code : Code) (n : ℕ) (input output : List ℕ)
    → (read_number code n input output ≡ 0)
    ↔ (Sized code n input (frame_bytes n) output (data_bytes code n) × (is_erased n (frame_of n input) ≡ false) × (is_frame code n (frame_of n input) ≡ true))
unfolding read_number is_in
read_accepts code n input output =
    Iff.trans (first_clear (read_refusals code n input output) refl)
    (sized_two code n input (frame_bytes n) output (data_bytes code n) (is_erased n (frame_of n input)) (not (is_frame code n (frame_of n input))) 10 6
    Iff.rfl (true_test (is_frame code n (frame_of n input))))

pub decode_accepts :
    (code : Code) (n allowance : ℕ) (input output : List ℕ)
    → (decode_refusal code n allowance input output ≡ 0)
    ↔ (Sized code n input (frame_bytes n) output (frame_bytes n) × ((1 ≤ allowance) × (allowance ≤ most_allowed)) × (is_erased n (frame_of n input) ≡ false))
unfolding decode_refusal is_in
decode_accepts code n allowance input output =
    Iff.trans (first_clear (decode_refusals code n allowance input output) refl)
    (sized_two code n input (frame_bytes n) output (frame_bytes n) (not_allowed allowance) (is_erased n (frame_of n input)) 4 10
    (range_test 1 most_allowed allowance) Iff.rfl)

pub word_accepts :
    (code : Code) (n : ℕ) (input output : List ℕ) → (word_refusal code n input output ≡ 0) ↔ Sized code n input (row_bytes n) output (row_bytes n)
unfolding word_refusal is_in
word_accepts code n input output =
    Iff.trans (first_clear (word_refusals code n input output) refl)
    (Iff.trans (sized code n input (row_bytes n) output (row_bytes n) []) (λ h. h.0, λ f. (f, tt)))

-- when encoding gives 10: it would accept but for that
pub encode_erased :
    (code : Code) (n : ℕ) (input output : List ℕ)
    → (encode_number code n input output ≡ 10)
    ↔ (Sized code n input (data_bytes code n) output (frame_bytes n) × (spare_ones (data_bits code n) input ≡ 0) × (is_erased n (frame_for code n input) ≡ true))
unfolding encode_number is_in
encode_erased code n input output =
    let k : ℕ = data_bits code n in
    let spare : RefusalList = (not (eqb (spare_ones k input) 0), 5) ∷ [] in
    let before : RefusalList = size_refusals code n input (data_bytes code n) output (frame_bytes n) spare in
    let s = sized code n input (data_bytes code n) output (frame_bytes n) spare in
    let t = equal_test (spare_ones k input) 0 in
    Iff.trans (first_last before (is_erased n (frame_for code n input)) 10 refl (λ e. omega arith)) (
      λ c. let p = s.0 c.0 in (p.0, t.0 p.1.0, c.1),
      λ p. (s.1 (p.0, (t.1 p.1, tt)), p.2),
    )

-- ---- what is said or written, by the number

pub at_zero {ℓ} : {A : Type ℓ} (r : ℕ) (x y : A) → r ≡ 0 → pick (eqb r 0) x y ≡ x
at_zero r x y h = rw (eq-eqb r 0 h)

pub at_other {ℓ} : {A : Type ℓ} (r : ℕ) (x y : A) → r ≢ 0 → pick (eqb r 0) x y ≡ y
at_other r x y h = rw (ne_eqb r 0 h)

-- a fact of both is a fact of either
pub at_either {ℓ} : {A : Type ℓ} (P : A → Type 0) (r : ℕ) (x y : A) → (r ≡ 0 → P x) → (r ≢ 0 → P y) → P (pick (eqb r 0) x y)
at_either P r x y h k = go (eqb r 0) refl
  where
    go : (b : Bool) → eqb r 0 ≡ b → P (pick b x y)
    go true e = h (eqb-true r 0 e)
    go false e = k (eqb-false r 0 e)

-- ---- a refusal leaves the output as it was

pub encode_refused : (code : Code) (n : ℕ) (input output : List ℕ) → encode_number code n input output ≢ 0 → encode_output code n input output ≡ output
unfolding encode_output
encode_refused code n input output h =
    at_other (encode_number code n input output) (bytes_of n (frame_for code n input)) output h

pub read_refused : (code : Code) (n : ℕ) (input output : List ℕ) → read_number code n input output ≢ 0 → read_output code n input output ≡ output
unfolding read_output
read_refused code n input output h =
    at_other (read_number code n input output) (bytes_of (data_bits code n) (corner (data_bits code n) (frame_of n input))) output h

pub decode_refused :
    (code : Code) (n allowance : ℕ) (input output : List ℕ) → decode_refusal code n allowance input output ≢ 0
    → (decode_said code n allowance input output ≡ undecoded (decode_refusal code n allowance input output))
    × (decode_output code n allowance input output ≡ output)
unfolding decode_said decode_output
decode_refused code n allowance input output h =
    let r : ℕ = decode_refusal code n allowance input output in
    let o : Outcome = decoded code n allowance (frame_of n input) in
    (at_other r (told o) (undecoded r) h, at_other r (handed_out n input o) output h)

-- the checks before it passed, and all code bits are ones
pub decode_erased :
    (code : Code) (n allowance : ℕ) (input output : List ℕ) → Sized code n input (frame_bytes n) output (frame_bytes n)
    → (1 ≤ allowance) × (allowance ≤ most_allowed) → is_erased n (frame_of n input) ≡ true
    → (decode_said code n allowance input output ≡ erased) × (decode_output code n allowance input output ≡ output)
unfolding decode_refusal is_in
decode_erased code n allowance input output f a e =
    let allowed : RefusalList = (not_allowed allowance, 4) ∷ [] in
    let c = (sized code n input (frame_bytes n) output (frame_bytes n) allowed).1 (f, ((range_test 1 most_allowed allowance).1 a, tt)) in
    let z : decode_refusal code n allowance input output ≡ 10 =
    (first_last (size_refusals code n input (frame_bytes n) output (frame_bytes n) allowed) (is_erased n (frame_of n input)) 10 refl (λ h. omega arith)).1 (c, e) in
    let r = decode_refused code n allowance input output (λ h. omega arith) in
    (r.0 ∙ ap undecoded z, r.1)

pub word_refused_lem :
    (code : Code) (n : ℕ) (input output : List ℕ) → word_refusal code n input output ≢ 0
    → (word_said code n input output ≡ word_refused (word_refusal code n input output)) × (word_output code n input output ≡ output)
unfolding word_said word_output
word_refused_lem code n input output h =
    let r : ℕ = word_refusal code n input output in
    let w : List ℕ = word_bytes n (mend code n (word_of n input 0)) in (
      at_other r (answered (answer code n (word_of n input 0))) (word_refused r) h,
      at_other r (pick (eqb (word_number (word_said code n input output)) 0) w input) output h,
    )

-- what is said instead of an outcome carries its number
pub undecoded_number : (r : ℕ) → number (undecoded r) ≡ r
undecoded_number r = go (eqb r 10) refl
  where
    go : (b : Bool) → eqb r 10 ≡ b → number (pick b erased (refused r)) ≡ r
    go true e = sym (eqb-true r 10 e)
    go false e = refl

-- a success hands out the last frame, another ending what was received
pub handed :
    (n : ℕ) (input : List ℕ) (o : Outcome)
    → handed_out n input o ≡ pick (eqb (number (told o)) 0) (bytes_of n o.last) input
handed n input o = go o.ending o.passes o.bits o.rows o.columns
  where
    go :
        (e : Ending) (p b r c : ℕ)
        → elim e as (λ x. List ℕ) [ clean ↦ bytes_of n o.last | repaired ↦ bytes_of n o.last | stuck ↦ input | spent ↦ input ]
        ≡ pick (eqb (number (ended e p b r c)) 0) (bytes_of n o.last) input
    go clean p b r c = refl
    go repaired p b r c = refl
    go stuck p b r c = refl
    go spent p b r c = refl

-- number 0 is said of a success alone
pub told_success : (o : Outcome) → number (told o) ≡ 0 → (o.ending ≡ clean) ⊎ (o.ending ≡ repaired)
told_success o = go o.ending
  where
    go : (e : Ending) → number (ended e o.passes o.bits o.rows o.columns) ≡ 0 → (e ≡ clean) ⊎ (e ≡ repaired)
    go clean z = inl refl
    go repaired z = inr refl
    go stuck z = absurd (omega (arith, z))
    go spent z = absurd (omega (arith, z))

-- passes and bits stand for every ending
pub told_both : (o : Outcome) → ((figures_of (told o)).passes ≡ o.passes) × ((figures_of (told o)).bits ≡ o.bits)
told_both o = go o.ending
  where
    figures : Ending → Figures
    figures e = figures_of (ended e o.passes o.bits o.rows o.columns)

    go : (e : Ending) → ((figures e).passes ≡ o.passes) × ((figures e).bits ≡ o.bits)
    go clean = (refl, refl)
    go repaired = (refl, refl)
    go stuck = (refl, refl)
    go spent = (refl, refl)
