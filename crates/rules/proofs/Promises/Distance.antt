-- RULES 2: how far codewords are apart, and that short words are long ones with zeros cut away.
-- Assumes nothing.
use mathlib.Core.Path.{◌≡◌, sym, ap, ap₂, ◌∙◌}
use mathlib.Core.Logic.{◌≢◌}
use mathlib.Core.Bool.{false}
use mathlib.Core.List.{◌++◌}
use Prim.Native.Nat.{ℕ, ◌+◌, ◌-◌, ◌≤◌, ◌<◌}
use native.Mathlib.Decide.{dec_lt}
use native.Mathlib.Omega.{arith}
use lib.ListN.{length, take, replicate}
use lib.Seq.{length-take-le}
use Rattle.algebra.specs.Xor.{◌⊕◌}
use Rattle.algebra.specs.Tables.{num, ones}
use Rattle.algebra.specs.Words.{Word, bit, ◌⊻◌, differ}
use Rattle.algebra.specs.Remainder.{register}
use Rattle.algebra.specs.Field256.{powers, logs, small_marking}
use Rattle.algebra.proofs.Digits.{num-le}
use Rattle.algebra.proofs.XorLaws.{zero-⊕}
use Rattle.algebra.proofs.WordLaws.{⊻-length, differ-zero}
use Rattle.algebra.proofs.MarkLaws.{sum_of, sum_additive, sum-carried}
use Rattle.algebra.proofs.Field256Laws.{fit256, tables256}
use Rattle.algebra.proofs.Independent.{independent}
use Rattle.rules.specs.Codes.{Code, radius, g, small_code}
use Rattle.rules.specs.Words.{remainder, checks, Codeword}
use Rattle.rules.proofs.Laws.CodeLaws.{Sound, Mends, register_dot}
use Rattle.rules.proofs.Laws.CheckLaws.{last_bit, ones_last, codeword_checks, checks-⊻, zeros_ahead}
use Rattle.rules.proofs.Laws.SmallCode.{low, low_small, g_low, sound_small}

-- different codewords differ in at least d places
abbrev pub DistanceAt : Code → ℕ → Type 0
DistanceAt code d =
    (n : ℕ) → code.shortest ≤ n → n ≤ code.longest → (w u : Word) → Codeword code n w → Codeword code n u → w ≢ u
    → d ≤ differ w u

-- as many as the code claims
abbrev pub Distance : Code → Type 0
Distance code = DistanceAt code code.distance

-- twice the radius is below the distance, and twice a wider one would not be
abbrev pub Widest : Code → Type 0
Widest code = (1 ≤ code.distance → radius code + radius code < code.distance) × (code.distance ≤ radius code + radius code + 2)

-- z zeros in front of a word change none of its checks
abbrev pub Shortened : Code → Type 0
Shortened code =
    (n z : ℕ) → code.shortest ≤ n → (w : Word) → length w ≡ n → checks code (z + n) (replicate z false ++ w) ≡ checks code n w

-- ---- Of any code

pub distance : (code : Code) (able : Mends code) → Distance code
distance code able n h b w u cw cu apart = go (dec_lt (differ w u) code.distance)
  where
    same : length w ≡ length u
    same = cw.0 ∙ sym cu.0

    go : Dec (differ w u < code.distance) → code.distance ≤ differ w u
    go (no l) = omega (arith, l)
    go (yes l) =
        absurd (apart (differ-zero w u same
        (able.few n (w ⊻ u) h b (⊻-length w u same ∙ cw.0)
        (checks-⊻ code able.sound n w u (omega (arith, able.sound.room)) cw.0 cu.0
        ∙ ap₂ ◌⊕◌ (codeword_checks code n w cw.1) (codeword_checks code n u cu.1) ∙ zero-⊕ 0)
        l)))

pub widest : (code : Code) → Widest code
widest code = (λ h. omega arith, omega arith)

pub shortened : (code : Code) (ok : Sound code) → Shortened code
shortened code ok n z h w l = zeros_ahead code ok n z w (omega (arith, ok.room))

-- ---- The small code: any one to five places have checks that are not zero

-- the ones before the parity bit, where these are few and the remainder is zero
few_front : (u : Word) → length u ≤ 255 → ones u ≤ 4 → register 16 g 0 u ≡ 0 → ones u ≡ 0
few_front u long few e =
    independent 15 low low_small 7 29 powers logs tables256 2 (sum_of small_marking) (sum_additive small_marking) (sum-carried small_marking fit256) u long few
    (rw g_low at (sym (register_dot small_code sound_small u) ∙ e))

-- the overall parity leaves no odd number
few_places :
    (n : ℕ) (w : Word) → small_code.shortest ≤ n → n ≤ small_code.longest → length w ≡ n → checks small_code n w ≡ 0
    → ones w < small_code.distance → ones w ≡ 0
unfolding checks remainder
few_places n w h b l e o =
    let m : ℕ = n - 1 in
    let u : Word = take m w in
    let t : ones w ≡ ones u + num (bit w m) = ap ones (last_bit m w (omega (arith, l))) ∙ ones_last u (bit w m) in
    let z : ones u ≡ 0 =
    few_front u (omega (arith, length-take-le m w (omega arith))) (omega (arith, num-le (bit w m))) (omega (arith, e)) in
    omega (arith, num-le (bit w m))

pub mends_small : Mends small_code
mends_small = record { sound = sound_small; few = few_places }
