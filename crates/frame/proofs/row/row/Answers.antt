-- `frame::row::row` meets its contract: where the row is not refused, it lies inside the frame.
use mathlib.Core.Path.{◌≡◌, sym, ◌∙◌}
use mathlib.Core.Bool.{false}
use mathlib.Core.List.{List}
use Prim.Native.Nat.{ℕ, ◌*◌, ◌+◌, ◌≤◌}
use native.Mathlib.Omega.{arith}
use lib.ListN.{length}
use Rattle.rules.specs.Codes.{small_code}
use Rattle.rules.specs.Bits.{row_bytes}
use Rattle.rules.specs.Numbers.{row_refused}
use Rattle.rules.proofs.Laws.SmallCode.{sound_small}
use Rattle.laws.specs.InPlace.{most_bytes}
use Rattle.laws.proofs.CornerLaws.{row_fits}
use Rattle.laws.proofs.ReadLaws.{row_known, row-none, row_part_lem}
use Rattle.frame.proofs.row.row.Goals as goal

fits :
    (n : ℕ) (frame : List ℕ) (i w : ℕ) → w ≡ row_bytes n → row_refused small_code n frame i ≡ false
    → (i * w + w ≤ length frame) × (length frame ≤ most_bytes)
fits n frame i w e taken = let k = row_known small_code n frame i sound_small taken in omega (arith, row_fits n w i e k.0 k.2)

pub returns-then-is_refused : goal.returns-then-is_refused
returns-then-is_refused c = row-none small_code _ _ _ (sym c.is_refused.ensures ∙ c.if-is_refused.true)

pub row_bytes-wide-requires : goal.row_bytes-wide-requires
row_bytes-wide-requires c = (row_known small_code _ _ _ sound_small (sym c.is_refused.ensures ∙ c.if-is_refused.false)).0

pub overflow_mul-from : goal.overflow_mul-from
overflow_mul-from c = omega (arith, fits _ _ _ _ c.row_bytes-wide.ensures (sym c.is_refused.ensures ∙ c.if-is_refused.false))

pub overflow_add-result : goal.overflow_add-result
overflow_add-result c = omega (arith, fits _ _ _ _ c.row_bytes-wide.ensures (sym c.is_refused.ensures ∙ c.if-is_refused.false))

pub slice_bounds-result-end-2 : goal.slice_bounds-result-end-2
slice_bounds-result-end-2 c = omega (arith, fits _ _ _ _ c.row_bytes-wide.ensures (sym c.is_refused.ensures ∙ c.if-is_refused.false))

pub returns : goal.returns
returns c =
    row_part_lem small_code _ _ _ _ c.row_bytes-wide.ensures (sym c.is_refused.ensures ∙ c.if-is_refused.false)
