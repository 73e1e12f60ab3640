-- `read::check` gives the number of the first check that is met.
use Rattle.std.proofs.Common.{◌≡◌, List, ℕ, drop}
use mathlib.Core.Path.{refl, sym, ◌∙◌}
use Rattle.std.proofs.lemmas.Result.{err_from_is_err_and}
use Rattle.rules.specs.Codes.{small_code}
use Rattle.rules.specs.Numbers.{frame_bytes, data_bytes, RefusalList, first, read_number, read_refusals}
use borrow.Author.Tests.{eq-eqb, ne_eqb}
use Rattle.rules.specs.Bits.{frame_of}
use Rattle.laws.proofs.TurnLaws.{frame_counted}
use Rattle.laws.proofs.RefusalLaws.{of_n, of_lengths, n_met, lengths_met, sizes_passed}
use Rattle.word.proofs.RefusedLaws.{number_some}
use Rattle.frame.proofs.read.check.Goals as goal

-- the checks after the sizes
abbrev later : ℕ → List ℕ → List ℕ → RefusalList
later n input output = drop 3 (read_refusals small_code n input output)

-- they decide where those of sizes are passed
passed :
    (n : ℕ) (input output : List ℕ) → 0 ≡ first (of_n small_code n input (frame_bytes n) output (data_bytes small_code n))
    → 0 ≡ first (of_lengths small_code n input (frame_bytes n) output (data_bytes small_code n))
    → first (later n input output) ≡ read_number small_code n input output
unfolding read_number
passed n input output = sizes_passed small_code n input (frame_bytes n) output (data_bytes small_code n) (later n input output)

pub returns-in_err-check_n : goal.returns-in_err-check_n
unfolding read_number
returns-in_err-check_n c =
    let a = c.args in
    let p = err_from_is_err_and c.from_residual.result c.from_residual.ensures.1 in
    rw (p.1, p.2)
    (n_met small_code a.n a.frame.now (frame_bytes a.n) a.message.now (data_bytes small_code a.n) (later a.n a.frame.now a.message.now) _ (number_some _)
    c.in_err-check_n.ensures)

pub returns-in_err-check_lengths : goal.returns-in_err-check_lengths
unfolding read_number
returns-in_err-check_lengths c =
    let a = c.args in
    let p = err_from_is_err_and c.from_residual-in_err-check_lengths.result c.from_residual-in_err-check_lengths.ensures.1 in
    rw (p.1, p.2)
    (lengths_met small_code a.n a.frame.now (frame_bytes a.n) a.message.now (data_bytes small_code a.n) (later a.n a.frame.now a.message.now)
    c.in_ok-check_n.ensures _ (number_some _) (rw (c.square_bytes.ensures, c.square_bytes-2.ensures) at c.in_err-check_lengths.ensures))

pub returns-then-is_erased : goal.returns-then-is_erased
returns-then-is_erased c =
    let a = c.args in
    let q : 10 ≡ first (later a.n a.frame.now a.message.now) = rw (sym c.is_erased.ensures, c.if-is_erased.true) refl in
    q ∙ passed _ _ _ c.in_ok-check_n.ensures (rw (c.square_bytes.ensures, c.square_bytes-2.ensures) at c.in_ok-check_lengths.ensures)

pub returns-then-bad-ne0 : goal.returns-then-bad-ne0
returns-then-bad-ne0 c =
    let a = c.args in
    let counted = frame_counted small_code a.n (frame_of a.n a.frame.now) _ _ c.bad.ensures.0 c.bad-2.ensures.0 in
    let q : 6 ≡ first (later a.n a.frame.now a.message.now) =
    rw (sym c.is_erased.ensures, c.if-is_erased.false, counted, ne_eqb _ 0 c.if-bad-ne0.true) refl in
    q ∙ passed _ _ _ c.in_ok-check_n.ensures (rw (c.square_bytes.ensures, c.square_bytes-2.ensures) at c.in_ok-check_lengths.ensures)

pub returns : goal.returns
returns c =
    let a = c.args in
    let counted = frame_counted small_code a.n (frame_of a.n a.frame.now) _ _ c.bad.ensures.0 c.bad-2.ensures.0 in
    let q : 0 ≡ first (later a.n a.frame.now a.message.now) =
    rw (sym c.is_erased.ensures, c.if-is_erased.false, counted, eq-eqb _ 0 c.if-bad-ne0.false) refl in
    q ∙ passed _ _ _ c.in_ok-check_n.ensures (rw (c.square_bytes.ensures, c.square_bytes-2.ensures) at c.in_ok-check_lengths.ensures)
