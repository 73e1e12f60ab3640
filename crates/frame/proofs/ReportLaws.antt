-- An outcome as the code reports it, and what decoding owes where the passes failed, and where they did not.
-- Assumes nothing.
use mathlib.Core.Path.{◌≡◌, refl, sym, ap, ◌∙◌}
use mathlib.Core.Bool.{Bool, true, false}
use mathlib.Core.List.{List}
use Prim.Native.Nat.{ℕ}
use Rattle.std.specs.Prelude.{Ok}
use Rattle.rules.specs.Codes.{small_code}
use Rattle.rules.specs.Frames.{Frame}
use Rattle.rules.specs.Bits.{frame_of, bytes_of}
use Rattle.rules.specs.Passes as passes
use Rattle.rules.specs.Passes.{Outcome, decoded}
use Rattle.rules.specs.Numbers as rules
use Rattle.rules.specs.Numbers.{pick, told, handed_out, decode_said, decode_output}
use Rattle.laws.proofs.DecodeLaws.{Accepted, accepted}
use Rattle.laws.proofs.PassStepLaws.{Ended}
use Rattle.frame.specs.declared.decode.Ending.{Ending}
use Rattle.frame.specs.declared.decode.Ending.TheVariants.{Clean, Repaired, Stuck, Spent}
use Rattle.frame.specs.declared.decode.Report.{Report}
use Rattle.frame.specs.Said.{ending_in, told_in, said, is_failure}
use Rattle.frame.proofs.SaidLaws.{ending_of, report_with, report_of, told_again}

-- a report, but for its ending
abbrev ended_as : Report → Ending → Report
ended_as x e = record { ending = e; passes = x.passes; bits = x.bits; rows = x.rows; columns = x.columns }

-- a report whose ending and other fields are those of the outcome is the outcome's, and the buffer its frame
pub reported :
    {n a : ℕ} {f : Frame} {s : List ℕ} {e : passes.Ending} {p b r c : ℕ} {x : Report}
    → x.ending ≡ ending_of e → Ended small_code n a f s e p b r c → ended_as x (ending_of e) ≡ report_with e p b r c
    → (told_in x ≡ told (decoded small_code n a f)) × (s ≡ bytes_of n (decoded small_code n a f).last)
reported {n = n} {a = a} {f = f} {x = x} q h same = (
  ap told_in (ap (ended_as x) q ∙ same ∙ ap report_of (sym h.outcome)) ∙ told_again (decoded small_code n a f),
  h.packed ∙ ap (λ o. bytes_of n o.last) (sym h.outcome),
)

-- stuck and spent hand back what was received, clean and repaired the last frame
fails : passes.Ending → Bool
fails passes.clean = false
fails passes.repaired = false
fails passes.stuck = true
fails passes.spent = true

handed_is : (n : ℕ) (input : List ℕ) (o : Outcome) → handed_out n input o ≡ pick (fails o.ending) input (bytes_of n o.last)
unfolding fails
handed_is n input o = go o.ending
  where
    go :
        (e : passes.Ending)
        → elim e as (λ x. List ℕ) [
          | passes.clean ↦ bytes_of n o.last
          | passes.repaired ↦ bytes_of n o.last
          | passes.stuck ↦ input
          | passes.spent ↦ input
        ]
        ≡ pick (fails e) input (bytes_of n o.last)
    go passes.clean = refl
    go passes.repaired = refl
    go passes.stuck = refl
    go passes.spent = refl

fails_in : (e : Ending) → is_failure e ≡ fails (ending_in e)
unfolding fails
fails_in Clean = refl
fails_in Repaired = refl
fails_in Stuck = refl
fails_in Spent = refl

-- the ending of which something is said
ending_at : rules.Decoded → passes.Ending
ending_at (rules.refused k) = passes.stuck
ending_at rules.erased = passes.stuck
ending_at (rules.ended e p b r c) = e

-- all checks passed: the frame was copied, and repaired there
module _
    (n a : ℕ) (input output : List ℕ) (ok : Accepted small_code n a input output)
    (r : Report) (er : told_in r ≡ told (decoded small_code n a (frame_of n input)))
    (b : Bool) (eb : b ≡ is_failure r.ending) (t : List ℕ)
  where
    abbrev out : Outcome
    out = decoded small_code n a (frame_of n input)

    said_is : said (Ok r) ≡ decode_said small_code n a input output
    said_is = er ∙ sym (accepted small_code n a input output ok).0

    failed_as : b ≡ fails out.ending
    unfolding ending_at
    failed_as = eb ∙ fails_in r.ending ∙ ap (λ d. fails (ending_at d)) er

    -- what is handed out, by the test that the code makes
    output_is : decode_output small_code n a input output ≡ pick b input (bytes_of n out.last)
    output_is =
        (accepted small_code n a input output ok).1
        ∙ handed_is n input out
        ∙ ap (λ x. pick x input (bytes_of n out.last)) (sym failed_as)

    pub failed :
        b ≡ true → t ≡ input → (said (Ok r) ≡ decode_said small_code n a input output) × (t ≡ decode_output small_code n a input output)
    failed h e = (said_is, e ∙ sym (output_is ∙ rw h))

    pub succeeded :
        b ≡ false → t ≡ bytes_of n out.last
        → (said (Ok r) ≡ decode_said small_code n a input output) × (t ≡ decode_output small_code n a input output)
    succeeded h e = (said_is, e ∙ sym (output_is ∙ rw h))
