-- `encode::makes_erased` meets its contract: ones are a frame at one n alone, and there that of data of ones.
use native.Mathlib.Omega.{arith}
use Rattle.rules.specs.Codes.{small_code}
use Rattle.laws.proofs.RefusalLaws.{inside}
use Rattle.laws.proofs.ErasedLaws.{data_shorter, data_longest}
use Rattle.frame.proofs.encode.makes_erased.Goals as goal

pub returns-then-n-ne-ONES_CODEWORD : goal.returns-then-n-ne-ONES_CODEWORD
returns-then-n-ne-ONES_CODEWORD c =
    let a = c in
    let r = inside small_code a.args.n a.requires.0 in
    data_shorter a.args.n a.args.message.now r.0 r.1 c.if-n-ne-ONES_CODEWORD.true

pub overflow_sub-n : goal.overflow_sub-n
overflow_sub-n c = omega arith

pub is_erased-requires : goal.is_erased-requires
is_erased-requires c = omega (arith, c.requires.1)

pub returns : goal.returns
returns c =
    let a = c in
    let r = inside small_code a.args.n a.requires.0 in
    data_longest a.args.n a.args.message.now r.0 r.1 c.is_erased.result c.if-n-ne-ONES_CODEWORD.false c.is_erased.ensures
