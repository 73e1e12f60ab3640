-- RULES 2: a word is a codeword exactly if the generator divides its polynomial and, where a parity bit stands behind, its ones
-- are even in number.
-- Assumes nothing.
use mathlib.Core.Path.{◌≡◌}
use mathlib.Core.Logic.Iff
use mathlib.Core.Logic.{◌↔◌}
use mathlib.Core.Bool.{Bool, true, false}
use Prim.Native.Nat.{ℕ, ◌%◌}
use native.Mathlib.Omega.{arith}
use lib.ListN.{take}
use Rattle.algebra.specs.Tables.{ones}
use Rattle.algebra.specs.Words.{Word}
use Rattle.algebra.specs.Remainder.{from_coefficients, Multiple}
use Rattle.rules.specs.Codes.{Code}
use Rattle.rules.specs.Words.{with_parity, front_bits, remainder, checks, is_codeword}
use Rattle.rules.proofs.Laws.CodeLaws.{Sound, register_divides}
use Rattle.rules.proofs.Laws.CheckLaws.{codeword_checks, checks_codeword}

-- the ones are even in number, if that is asked
abbrev pub Even : Bool → ℕ → Type 0
Even true o = o % 2 ≡ 0
Even false o = Unit {0}

-- all bits but the parity bit are the coefficients of a multiple of the generator, the highest power first
abbrev pub Codewords : Code → Type 0
Codewords code =
    (n : ℕ) (w : Word)
    → (is_codeword code n w ≡ true)
    ↔ (Multiple code.generator (from_coefficients 0 (take (front_bits code n) w)) × Even code.extended (ones w))

-- checks are zero where remainder and parity are
checks-zero : (b : Bool) (r o : ℕ) → (with_parity b r o ≡ 0) ↔ ((r ≡ 0) × Even b o)
checks-zero true r o = (λ h. (omega arith, omega arith), λ h. let z = h.0 in let e = h.1 in omega arith)
checks-zero false r o = (λ h. (h, tt), λ h. h.0)

pub codewords : (code : Code) (ok : Sound code) → Codewords code
unfolding checks remainder
codewords code ok n w =
    Iff.trans (codeword_checks code n w, checks_codeword code n w)
    (Iff.trans (checks-zero code.extended (remainder code n w) (ones w))
    (Iff.and (register_divides code ok (take (front_bits code n) w)) Iff.rfl))
