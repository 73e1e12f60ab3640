-- A record's line, from the code's answer and from what the rules say.
-- Assumes nothing.
use mathlib.Core.Path.{◌≡◌, ap, ◌∙◌}
use mathlib.Core.Bool.{not}
use mathlib.Core.List.{List, [], ◌∷◌}
use Prim.Native.Nat.{ℕ}
use lib.Dec.{eqb}
use lib.ListN.{length}
use Rattle.rules.specs.Codes.{small_code}
use Rattle.rules.specs.Frames.{is_erased}
use Rattle.rules.specs.Bits.{frame_of}
use Rattle.rules.specs.Passes.{decoded}
use Rattle.rules.specs.Numbers as rules
use Rattle.rules.specs.Numbers.{refused, erased, undecoded, ended, pick, first, outside, not_long, not_allowed, frame_bytes, told, decode_refusal, decode_said}

-- the output matters to what is said by its length alone
pub said_of_length :
    (n allowance : ℕ) (input output output₂ : List ℕ) → length output ≡ length output₂
    → decode_said small_code n allowance input output ≡ decode_said small_code n allowance input output₂
unfolding decode_said decode_refusal
said_of_length n allowance input output output₂ h =
    ap
    (λ (l : ℕ).
    let r : ℕ =
    first
    ((outside small_code n, 1)
    ∷ (not_long input (frame_bytes n), 2)
    ∷ (not (eqb l (frame_bytes n)), 3)
    ∷ (not_allowed allowance, 4)
    ∷ (is_erased n (frame_of n input), 10)
    ∷ []) in
    pick (eqb r 0) (told (decoded small_code n allowance (frame_of n input))) (undecoded r))
    h

pub said_alike :
    (n allowance : ℕ) (received mended frame : List ℕ) (d : rules.Decoded) → d ≡ decode_said small_code n allowance received mended
    → received ≡ frame → length mended ≡ length frame → d ≡ decode_said small_code n allowance frame frame
said_alike n allowance received mended frame d e p q =
    e ∙ ap (λ (x : List ℕ). decode_said small_code n allowance x mended) p ∙ said_of_length n allowance frame mended frame q
