-- RULES 4 and 6: what encoding writes is read back, and is clean, whatever becomes of the spare bits.
-- Assumes nothing.
use mathlib.Core.Path.{◌≡◌, refl, sym, ap, ◌∙◌}
use mathlib.Core.Logic.{◌↔◌}
use mathlib.Core.Bool.{true, false}
use mathlib.Core.List.{List}
use Prim.Native.Nat.{ℕ, ◌≤◌, ◌<◌}
use lib.ListN.{length, get_or}
use Rattle.rules.specs.Codes.{Code, data_bits}
use Rattle.rules.specs.Frames.{Frame, is_frame, is_erased, corner}
use Rattle.rules.specs.Bits.{frame_of, bytes_of, spare_ones}
use Rattle.rules.specs.Passes.{clean, Outcome, good, decoded}
use Rattle.rules.specs.Numbers.{most_allowed, data_bytes, frame_bytes, encode_number, encode_output, frame_for, read_number, read_output, undecoded, ended, told, handed_out, decode_refusal, decode_said, decode_output}
use Rattle.rules.proofs.Laws.CodeLaws.{Sound}
use Rattle.rules.proofs.Laws.Shape.{frame_of-square}
use Rattle.rules.proofs.Laws.PackLaws.{bytes_of-length, frame_of_bytes, bytes_of_frame, spares_of_bytes}
use Rattle.rules.proofs.Laws.PassLaws.{decoded_clean}
use Rattle.rules.proofs.Promises.Encoding.{Encoded, encoding}
use Rattle.rules.proofs.Laws.NumberLaws.{Sized, encode_accepts, read_accepts, decode_accepts, at_zero}

-- a list whose code bits are those that encoding wrote: spare bits set in any way
abbrev pub Received : Code → ℕ → List ℕ → List ℕ → List ℕ → Type 0
Received code n input output s = (length s ≡ frame_bytes n) × (frame_of n s ≡ frame_of n (encode_output code n input output))

-- what follows for data that encoding accepted
pub record Trip (code : Code) (n : ℕ) (input output : List ℕ) : Type 0 where
  pub written : encode_output code n input output ≡ bytes_of n (frame_for code n input)
  -- what was written is itself such a list
  pub received : Received code n input output (encode_output code n input output)
  -- no spare bit of what was written is set
  pub spares : spare_ones n (encode_output code n input output) ≡ 0
  -- the data are read back, if the input's entries are bytes
  pub reads :
      ((p : ℕ) → get_or input p 0 < 256) → (s back : List ℕ) → Received code n input output s → length back ≡ data_bytes code n
      → (read_number code n s back ≡ 0) × (read_output code n s back ≡ input)
  -- decoding makes no pass, and hands out what was written
  pub decodes :
      (s out : List ℕ) (allowance : ℕ) → Received code n input output s → length out ≡ frame_bytes n → 1 ≤ allowance → allowance ≤ most_allowed
      → (decode_said code n allowance s out ≡ ended clean 0 0 0 0) × (decode_output code n allowance s out ≡ encode_output code n input output)

pub record RoundTrips (code : Code) : Type 0 where
  -- encoding is refused only for n, for a size, for a spare bit, or if the frame would be all ones
  pub accepts :
      (n : ℕ) (input output : List ℕ)
      → (encode_number code n input output ≡ 0)
      ↔ (Sized code n input (data_bytes code n) output (frame_bytes n) × (spare_ones (data_bits code n) input ≡ 0) × (is_erased n (frame_for code n input) ≡ false))
  pub trip :
      (n : ℕ) (input output : List ℕ) → encode_number code n input output ≡ 0 → Trip code n input output

-- ---- a frame of codewords is read, and is clean

-- f, in a list of bytes with the spare bits as they may be
module _ (code : Code) (n : ℕ) (s : List ℕ) (le : code.shortest ≤ n) (most : n ≤ code.longest) (long : length s ≡ frame_bytes n) (f : Frame) (is : frame_of n s ≡ f) (some : is_erased n f ≡ false) (whole : is_frame code n f ≡ true) where
  read_frame :
      (back : List ℕ) → length back ≡ data_bytes code n → (read_number code n s back ≡ 0) × (read_output code n s back ≡ bytes_of (data_bits code n) (corner (data_bits code n) f))
  unfolding read_output
  read_frame back e =
      let z : read_number code n s back ≡ 0 =
      (read_accepts code n s back).1 (record { from = le; up_to = most; taken = long; lent = e }, rw is some, rw is whole) in
      (z, at_zero (read_number code n s back) (bytes_of (data_bits code n) (corner (data_bits code n) (frame_of n s))) back z ∙ rw is)

  decode_frame :
      (out : List ℕ) (allowance : ℕ) → length out ≡ frame_bytes n → 1 ≤ allowance → allowance ≤ most_allowed
      → (decode_said code n allowance s out ≡ ended clean 0 0 0 0) × (decode_output code n allowance s out ≡ bytes_of n f)
  unfolding decode_said decode_output
  decode_frame out allowance e lo hi =
      let r : ℕ = decode_refusal code n allowance s out in
      let z : r ≡ 0 = (decode_accepts code n allowance s out).1 (record { from = le; up_to = most; taken = long; lent = e }, (lo, hi), rw is some) in
      let o : Outcome = decoded code n allowance (frame_of n s) in
      let c : o ≡ good clean 0 0 f = ap (decoded code n allowance) is ∙ decoded_clean code n allowance f whole in (
        at_zero r (told o) (undecoded r) z ∙ ap told c,
        at_zero r (handed_out n s o) out z ∙ ap (handed_out n s) c,
      )

-- ---- what encoding wrote

module _ (code : Code) (ok : Sound code) (n : ℕ) (input output : List ℕ) (zero : encode_number code n input output ≡ 0) where
  pub accepted :
      Sized code n input (data_bytes code n) output (frame_bytes n) × (spare_ones (data_bits code n) input ≡ 0) × (is_erased n (frame_for code n input) ≡ false)
  accepted = (encode_accepts code n input output).0 zero

  pub encoded : Encoded code n (frame_of (data_bits code n) input)
  encoded = encoding code ok n (frame_of (data_bits code n) input) accepted.0.from (frame_of-square (data_bits code n) input)

  pub is_written : encode_output code n input output ≡ bytes_of n (frame_for code n input)
  unfolding encode_output
  is_written = at_zero (encode_number code n input output) (bytes_of n (frame_for code n input)) output zero

  -- the frame, where it was received
  pub is_frame_lem : (s : List ℕ) → frame_of n s ≡ frame_of n (encode_output code n input output) → frame_of n s ≡ frame_for code n input
  is_frame_lem s e = e ∙ ap (frame_of n) is_written ∙ frame_of_bytes n (frame_for code n input) encoded.square

trip_here :
    (code : Code) (ok : Sound code) (n : ℕ) (input output : List ℕ) → encode_number code n input output ≡ 0 → Trip code n input output
trip_here code ok n input output zero =
    let a = accepted code ok n input output zero in
    let f : Frame = frame_for code n input in
    let w = is_written code ok n input output zero in
    let e = encoded code ok n input output zero in
    record {
      written = w;
      received = (ap length w ∙ bytes_of-length n f, refl);
      spares = ap (spare_ones n) w ∙ spares_of_bytes n f e.square;
      reads = λ bytes s back r h.
          let p = read_frame code n s a.0.from a.0.up_to r.0 f (is_frame_lem code ok n input output zero s r.1) a.2 e.frame back h in
          (p.0, p.1 ∙ ap (bytes_of (data_bits code n)) e.holds ∙ bytes_of_frame (data_bits code n) input a.0.taken bytes a.1);
      decodes = λ s out allowance r h lo hi.
          let p = decode_frame code n s a.0.from a.0.up_to r.0 f (is_frame_lem code ok n input output zero s r.1) a.2 e.frame out allowance h lo hi in
          (p.0, p.1 ∙ sym w);
    }

pub round_trips : (code : Code) (ok : Sound code) → RoundTrips code
round_trips code ok = record { accepts = encode_accepts code; trip = trip_here code ok }
