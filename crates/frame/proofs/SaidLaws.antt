-- The code's answers, and what the rules say: one tells the other.
-- Assumes nothing.
use mathlib.Core.Path.{◌≡◌, refl, sym, ap, subst⁻¹, ◌∙◌}
use mathlib.Core.Logic.{◌≢◌, ◌⊎◌, inl, inr}
use mathlib.Core.List.{List, [], ◌∷◌}
use native.Mathlib.Decide.{ℕ_discrete}
use mathlib.Core.Bool.{Bool, true, false, false≢true}
use Prim.Native.Nat.{ℕ}
use native.Mathlib.Omega.{arith}
use Rattle.std.specs.Prelude.{Result, Ok, Err}
use Rattle.rules.specs.Passes as passes
use Rattle.rules.specs.Passes.{Outcome}
use Rattle.rules.specs.Numbers as rules
use lib.Dec.{eqb}
use Rattle.rules.specs.Numbers.{Figures, figures_of, figures_with, told, number, undecoded, pick}
use Rattle.rules.specs.Codes.{small_code}
use Rattle.rules.specs.Words.{is_in}
use Rattle.rules.specs.Bits.{frame_of}
use Rattle.rules.specs.Passes.{decoded}
use Rattle.rules.specs.Numbers.{decode_said, decode_refusal, decode_refusals}
use Rattle.rules.proofs.Laws.OneOfLaws.{OneOf, one_of_cons}
use Rattle.rules.proofs.Laws.NumberLaws.{undecoded_number, first_in, at_zero, decode_refused}
use Rattle.word.specs.declared.refusal.Refusal.{Refusal}
use Rattle.word.specs.declared.refusal.Refusal.TheVariants.{BadN, BadInputLength, BadOutputLength, BadAllowance, SpareBitSet, NotCodewords, Erased, BadBlockLength, PastFrame}
use Rattle.word.specs.Refused as code
use Rattle.word.proofs.RefusedLaws.{refusal_with, again}
use Rattle.frame.specs.declared.decode.Ending.{Ending}
use Rattle.frame.specs.declared.decode.Ending.TheVariants.{Clean, Repaired, Stuck, Spent}
use Rattle.frame.specs.declared.decode.Report.{Report}
use Rattle.frame.specs.Said.{ending_in, told_in, said, figures}

-- ---- back from what the rules say

abbrev pub ending_of : passes.Ending → Ending
ending_of passes.clean = Clean
ending_of passes.repaired = Repaired
ending_of passes.stuck = Stuck
ending_of passes.spent = Spent

abbrev pub report_with : passes.Ending → ℕ → ℕ → ℕ → ℕ → Report
report_with e p b r c = record { ending = ending_of e; passes = p; bits = b; rows = r; columns = c }

abbrev pub report_of : Outcome → Report
report_of o = report_with o.ending o.passes o.bits o.rows o.columns

abbrev pub back : rules.Decoded → Result Report Refusal
back (rules.refused k) = Err (refusal_with k)
back rules.erased = Err Erased
back (rules.ended e p b r c) = Ok (report_with e p b r c)

ending_again : (e : Ending) → ending_of (ending_in e) ≡ e
ending_again Clean = refl
ending_again Repaired = refl
ending_again Stuck = refl
ending_again Spent = refl

pub back_again : (r : Result Report Refusal) → back (said r) ≡ r
back_again (Err BadN) = ap Err (again BadN)
back_again (Err BadInputLength) = ap Err (again BadInputLength)
back_again (Err BadOutputLength) = ap Err (again BadOutputLength)
back_again (Err BadAllowance) = ap Err (again BadAllowance)
back_again (Err SpareBitSet) = ap Err (again SpareBitSet)
back_again (Err NotCodewords) = ap Err (again NotCodewords)
back_again (Err Erased) = refl
back_again (Err BadBlockLength) = ap Err (again BadBlockLength)
back_again (Err PastFrame) = ap Err (again PastFrame)
back_again (Ok x) = ap (λ (e : Ending). Ok (record { ending = e; passes = x.passes; bits = x.bits; rows = x.rows; columns = x.columns })) (ending_again x.ending)

-- what the rules say of an outcome is what its report says
pub told_again : (o : Outcome) → told_in (report_of o) ≡ told o
told_again o = go o.ending
  where
    go : (e : passes.Ending) → told_in (report_with e o.passes o.bits o.rows o.columns) ≡ rules.ended e o.passes o.bits o.rows o.columns
    go passes.clean = refl
    go passes.repaired = refl
    go passes.stuck = refl
    go passes.spent = refl

-- and what the rules say of decoding is what the code's answer says
said_undecoded : (k : ℕ) → OneOf k (1 ∷ 2 ∷ 3 ∷ 4 ∷ 10 ∷ []) → said (back (undecoded k)) ≡ undecoded k
unfolding refusal_with is_in
said_undecoded k h = one (one_of_cons k 1 (2 ∷ 3 ∷ 4 ∷ 10 ∷ []) h)
  where
    Says : ℕ → Type 0
    Says i = said (back (undecoded i)) ≡ undecoded i

    five : (k ≡ 10) ⊎ OneOf k [] → Says k
    five (inl e) = subst⁻¹ Says e refl
    five (inr o) = absurd (false≢true o)

    four : (k ≡ 4) ⊎ OneOf k (10 ∷ []) → Says k
    four (inl e) = subst⁻¹ Says e refl
    four (inr o) = five (one_of_cons k 10 [] o)

    three : (k ≡ 3) ⊎ OneOf k (4 ∷ 10 ∷ []) → Says k
    three (inl e) = subst⁻¹ Says e refl
    three (inr o) = four (one_of_cons k 4 (10 ∷ []) o)

    two : (k ≡ 2) ⊎ OneOf k (3 ∷ 4 ∷ 10 ∷ []) → Says k
    two (inl e) = subst⁻¹ Says e refl
    two (inr o) = three (one_of_cons k 3 (4 ∷ 10 ∷ []) o)

    one : (k ≡ 1) ⊎ OneOf k (2 ∷ 3 ∷ 4 ∷ 10 ∷ []) → Says k
    one (inl e) = subst⁻¹ Says e refl
    one (inr o) = two (one_of_cons k 2 (3 ∷ 4 ∷ 10 ∷ []) o)

pub said_back :
    (n a : ℕ) (input output : List ℕ) → said (back (decode_said small_code n a input output)) ≡ decode_said small_code n a input output
unfolding decode_said decode_refusal
said_back n a input output = go (ℕ_discrete r 0)
  where
    r : ℕ
    r = decode_refusal small_code n a input output

    d : rules.Decoded
    d = decode_said small_code n a input output

    Says : rules.Decoded → Type 0
    Says x = said (back x) ≡ x

    listed : OneOf r (0 ∷ 1 ∷ 2 ∷ 3 ∷ 4 ∷ 10 ∷ [])
    listed = first_in (decode_refusals small_code n a input output)

    other : (r ≡ 0 → ⊥) → (r ≡ 0) ⊎ OneOf r (1 ∷ 2 ∷ 3 ∷ 4 ∷ 10 ∷ []) → Says (undecoded r)
    other z (inl e) = absurd (z e)
    other z (inr o) = said_undecoded r o

    go : Dec (r ≡ 0) → Says d
    go (yes z) = subst⁻¹ Says (at_zero r (told (decoded small_code n a (frame_of n input))) (undecoded r) z) (told_again (decoded small_code n a (frame_of n input)))
    go (no z) = subst⁻¹ Says (decode_refused small_code n a input output z).0 (other z (one_of_cons r 0 (1 ∷ 2 ∷ 3 ∷ 4 ∷ 10 ∷ []) listed))

-- ---- a refusal, or an outcome

-- a refusal says its number
pub refused_as : (e : Refusal) → number (said (Err e)) ≡ code.number e
refused_as e = undecoded_number (code.number e)

abbrev pub has_ended : rules.Decoded → ℕ
has_ended (rules.refused k) = 0
has_ended rules.erased = 0
has_ended (rules.ended e p b r c) = 1

pub apart : (k : ℕ) (o : Outcome) → undecoded k ≢ told o
apart k o h = go (eqb k 10) h
  where
    go : (b : Bool) → pick b rules.erased (rules.refused k) ≡ told o → ⊥
    go true h = let z = ap has_ended h in omega (arith, z)
    go false h = let z = ap has_ended h in omega (arith, z)

pub has_not_ended : (x : Report) (d : rules.Decoded) → has_ended d ≡ 0 → told_in x ≢ d
has_not_ended x d z h = let q = ap has_ended h in omega (arith, q, z)

-- ---- their figures

pub figures_refused : (e : Refusal) → figures (Err e) ≡ figures_with (code.number e) 0 0 0 0
figures_refused BadN = refl
figures_refused BadInputLength = refl
figures_refused BadOutputLength = refl
figures_refused BadAllowance = refl
figures_refused SpareBitSet = refl
figures_refused NotCodewords = refl
figures_refused Erased = refl
figures_refused BadBlockLength = refl
figures_refused PastFrame = refl

-- of a report that ended so
pub figures_at :
    (q : Report) (e : Ending) → q.ending ≡ e
    → figures (Ok q) ≡ figures (Ok (record { ending = e; passes = q.passes; bits = q.bits; rows = q.rows; columns = q.columns }))
figures_at q e h = ap (λ x. figures (Ok (record { ending = x; passes = q.passes; bits = q.bits; rows = q.rows; columns = q.columns }))) h
