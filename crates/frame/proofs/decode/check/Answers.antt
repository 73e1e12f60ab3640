-- `decode::check` gives the number of the first check that is met.
use Rattle.std.proofs.Common.{◌≡◌, List, ℕ, drop}
use mathlib.Core.Path.{refl, sym, ◌∙◌}
use Rattle.std.proofs.lemmas.Result.{err_from_is_err_and}
use Rattle.rules.specs.Codes.{small_code}
use Rattle.rules.specs.Numbers.{frame_bytes, RefusalList, first, decode_refusal, decode_refusals}
use Rattle.laws.proofs.RefusalLaws.{of_n, of_lengths, n_met, lengths_met, sizes_passed}
use Rattle.word.proofs.RefusedLaws.{number_some}
use Rattle.frame.proofs.decode.check.Goals as goal

-- the checks after the sizes
abbrev later : ℕ → ℕ → List ℕ → List ℕ → RefusalList
later n a input output = drop 3 (decode_refusals small_code n a input output)

-- they decide where those of sizes are passed
passed :
    (n a : ℕ) (input output : List ℕ) → 0 ≡ first (of_n small_code n input (frame_bytes n) output (frame_bytes n))
    → 0 ≡ first (of_lengths small_code n input (frame_bytes n) output (frame_bytes n))
    → first (later n a input output) ≡ decode_refusal small_code n a input output
unfolding decode_refusal
passed n a input output = sizes_passed small_code n input (frame_bytes n) output (frame_bytes n) (later n a input output)

pub returns-in_err-check_n : goal.returns-in_err-check_n
unfolding decode_refusal
returns-in_err-check_n c =
    let a = c.args in
    let p = err_from_is_err_and c.from_residual.result c.from_residual.ensures.1 in
    rw (p.1, p.2)
    (n_met small_code a.n a.received.now (frame_bytes a.n) a.frame.now (frame_bytes a.n) (later a.n a.allowance a.received.now a.frame.now) _ (number_some _)
    c.in_err-check_n.ensures)

pub returns-in_err-check_lengths : goal.returns-in_err-check_lengths
unfolding decode_refusal
returns-in_err-check_lengths c =
    let a = c.args in
    let p = err_from_is_err_and c.from_residual-in_err-check_lengths.result c.from_residual-in_err-check_lengths.ensures.1 in
    rw (p.1, p.2)
    (lengths_met small_code a.n a.received.now (frame_bytes a.n) a.frame.now (frame_bytes a.n) (later a.n a.allowance a.received.now a.frame.now)
    c.in_ok-check_n.ensures _ (number_some _) (rw c.square_bytes-bytes.ensures at c.in_err-check_lengths.ensures))

pub returns-then-not_allowed : goal.returns-then-not_allowed
returns-then-not_allowed c =
    let a = c.args in
    let q : 4 ≡ first (later a.n a.allowance a.received.now a.frame.now) = rw (sym c.if-not_allowed.ensures) refl in
    q ∙ passed _ a.allowance _ _ c.in_ok-check_n.ensures (rw c.square_bytes-bytes.ensures at c.in_ok-check_lengths.ensures)

pub returns-then-is_erased : goal.returns-then-is_erased
returns-then-is_erased c =
    let a = c.args in
    let q : 10 ≡ first (later a.n a.allowance a.received.now a.frame.now) = rw (sym c.if-not_allowed.ensures, sym c.if-is_erased.ensures) refl in
    q ∙ passed _ a.allowance _ _ c.in_ok-check_n.ensures (rw c.square_bytes-bytes.ensures at c.in_ok-check_lengths.ensures)

pub returns : goal.returns
returns c =
    let a = c.args in
    let q : 0 ≡ first (later a.n a.allowance a.received.now a.frame.now) = rw (sym c.if-not_allowed.ensures, sym c.if-is_erased.ensures) refl in
    q ∙ passed _ a.allowance _ _ c.in_ok-check_n.ensures (rw c.square_bytes-bytes.ensures at c.in_ok-check_lengths.ensures)
