-- Decoding's checks in the order in which the program makes them: the number that each gives, and what is said and handed out once all
-- are passed.
-- Assumes nothing.
use mathlib.Core.Path.{◌≡◌, refl, sym, ap, ◌∙◌}
use mathlib.Core.Logic.{◌≢◌}
use mathlib.Core.Bool.{false}
use mathlib.Core.List.{List, ◌++◌}
use Prim.Native.Nat.{ℕ, ◌≤◌}
use lib.ListN.{length, take, drop}
use Rattle.rules.specs.Codes.{Code}
use Rattle.rules.specs.Frames.{Frame, is_erased}
use Rattle.rules.specs.Bits.{square_bytes, frame_of, bytes_of}
use Rattle.rules.specs.Passes.{Outcome, decoded}
use Rattle.rules.specs.Numbers.{told, handed_out, undecoded, most_allowed, decode_refusal, decode_said, decode_output}
use Rattle.rules.proofs.Laws.Shape.{frame_of-square}
use Rattle.rules.proofs.Laws.PackLaws.{bytes_of-length, frame_of_bytes}
use Rattle.rules.proofs.Laws.NumberLaws.{Sized, decode_accepts, decode_refused, at_zero}
use Rattle.laws.specs.Turns.{cornered}
use Rattle.laws.proofs.CornerLaws.{cornered_whole}
use Rattle.laws.proofs.CopyLaws.{copied_whole}

-- ---- the checks

-- what was received stays unless it is decoded
pub refused :
    (code : Code) (n a : ℕ) (input output : List ℕ) (k : ℕ) → k ≢ 0 → k ≡ decode_refusal code n a input output
    → (undecoded k ≡ decode_said code n a input output) × (output ≡ decode_output code n a input output)
refused code n a input output k some e =
    let r = decode_refused code n a input output (λ z. some (e ∙ z)) in (ap undecoded e ∙ sym r.0, sym r.1)

-- ---- all are passed

-- the buffer that the frame was copied to
pub copied_frame :
    (n : ℕ) (input s : List ℕ) → s ≡ bytes_of n (cornered n n (frame_of n input)) → frame_of n s ≡ frame_of n input
copied_frame n input s e =
    ap (frame_of n) (e ∙ ap (bytes_of n) (cornered_whole n (frame_of n input) (frame_of-square n input)))
    ∙ frame_of_bytes n (frame_of n input) (frame_of-square n input)

-- what the checks leave
pub record Accepted (code : Code) (n a : ℕ) (input output : List ℕ) : Type 0 where
  pub sized : Sized code n input (square_bytes n) output (square_bytes n)
  pub some : 1 ≤ a
  pub most : a ≤ most_allowed
  pub seen : is_erased n (frame_of n input) ≡ false

pub accept : (code : Code) (n a : ℕ) (input output : List ℕ) → 0 ≡ decode_refusal code n a input output → Accepted code n a input output
accept code n a input output z =
    let f = (decode_accepts code n a input output).0 (sym z) in
    record { sized = f.0; some = f.1.0; most = f.1.1; seen = f.2 }

pub accepted :
    (code : Code) (n a : ℕ) (input output : List ℕ) → Accepted code n a input output
    → (decode_said code n a input output ≡ told (decoded code n a (frame_of n input)))
    × (decode_output code n a input output ≡ handed_out n input (decoded code n a (frame_of n input)))
unfolding decode_said decode_output
accepted code n a input output h =
    let r : ℕ = decode_refusal code n a input output in
    let o : Outcome = decoded code n a (frame_of n input) in
    let z : r ≡ 0 = (decode_accepts code n a input output).1 (h.sized, (h.some, h.most), h.seen) in
    (at_zero r (told o) (undecoded r) z, at_zero r (handed_out n input o) output z)

-- the received bytes fit over the frame, and copied there they are all of it
module _ (n : ℕ) (input t : List ℕ) (f : Frame) (long : length input ≡ square_bytes n) (framed : t ≡ bytes_of n f) where
  pub as_long : length input ≡ length t
  as_long = long ∙ sym (ap length framed ∙ bytes_of-length n f)

  pub copied_over : (u : List ℕ) → u ≡ take (length input) input ++ drop (length input) t → u ≡ input
  copied_over u h = h ∙ copied_whole (length input) input t refl as_long
