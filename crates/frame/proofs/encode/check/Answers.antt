-- `encode::check` gives the number of the first check that is met.
use Rattle.std.proofs.Common.{◌≡◌, List, ℕ, drop}
use mathlib.Core.Path.{refl, sym, ◌∙◌}
use Rattle.std.proofs.lemmas.Result.{err_from_is_err_and}
use Rattle.rules.specs.Codes.{small_code}
use Rattle.rules.specs.Numbers.{frame_bytes, data_bytes, RefusalList, first, encode_number, encode_refusals}
use Rattle.laws.proofs.RefusalLaws.{of_n, of_lengths, n_met, lengths_met, sizes_passed}
use Rattle.word.proofs.RefusedLaws.{number_some}
use Rattle.frame.proofs.encode.check.Goals as goal

-- the checks after the sizes
abbrev later : ℕ → List ℕ → List ℕ → RefusalList
later n input output = drop 3 (encode_refusals small_code n input output)

-- they decide where those of sizes are passed
passed :
    (n : ℕ) (input output : List ℕ) → 0 ≡ first (of_n small_code n input (data_bytes small_code n) output (frame_bytes n))
    → 0 ≡ first (of_lengths small_code n input (data_bytes small_code n) output (frame_bytes n))
    → first (later n input output) ≡ encode_number small_code n input output
unfolding encode_number
passed n input output = sizes_passed small_code n input (data_bytes small_code n) output (frame_bytes n) (later n input output)

pub returns-in_err-check_n : goal.returns-in_err-check_n
unfolding encode_number
returns-in_err-check_n c =
    let a = c.args in
    let p = err_from_is_err_and c.from_residual.result c.from_residual.ensures.1 in
    rw (p.1, p.2)
    (n_met small_code a.n a.message.now (data_bytes small_code a.n) a.frame.now (frame_bytes a.n) (later a.n a.message.now a.frame.now) _ (number_some _)
    c.in_err-check_n.ensures)

pub returns-in_err-check_lengths : goal.returns-in_err-check_lengths
unfolding encode_number
returns-in_err-check_lengths c =
    let a = c.args in
    let p = err_from_is_err_and c.from_residual-in_err-check_lengths.result c.from_residual-in_err-check_lengths.ensures.1 in
    rw (p.1, p.2)
    (lengths_met small_code a.n a.message.now (data_bytes small_code a.n) a.frame.now (frame_bytes a.n) (later a.n a.message.now a.frame.now)
    c.in_ok-check_n.ensures _ (number_some _) (rw (c.square_bytes.ensures, c.square_bytes-2.ensures) at c.in_err-check_lengths.ensures))

pub returns-then-not-is_packed : goal.returns-then-not-is_packed
returns-then-not-is_packed c =
    let a = c.args in
    let q : 5 ≡ first (later a.n a.message.now a.frame.now) = rw (sym c.is_packed.ensures, c.if-not-is_packed.true) refl in
    q ∙ passed _ _ _ c.in_ok-check_n.ensures (rw (c.square_bytes.ensures, c.square_bytes-2.ensures) at c.in_ok-check_lengths.ensures)

pub returns-then-makes_erased : goal.returns-then-makes_erased
returns-then-makes_erased c =
    let a = c.args in
    let q : 10 ≡ first (later a.n a.message.now a.frame.now) =
    rw (sym c.is_packed.ensures, c.if-not-is_packed.false, sym c.makes_erased.ensures, c.if-makes_erased.true) refl in
    q ∙ passed _ _ _ c.in_ok-check_n.ensures (rw (c.square_bytes.ensures, c.square_bytes-2.ensures) at c.in_ok-check_lengths.ensures)

pub returns : goal.returns
returns c =
    let a = c.args in
    let q : 0 ≡ first (later a.n a.message.now a.frame.now) =
    rw (sym c.is_packed.ensures, c.if-not-is_packed.false, sym c.makes_erased.ensures, c.if-makes_erased.false) refl in
    q ∙ passed _ _ _ c.in_ok-check_n.ensures (rw (c.square_bytes.ensures, c.square_bytes-2.ensures) at c.in_ok-check_lengths.ensures)
