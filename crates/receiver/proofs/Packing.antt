-- RULES 14: state and answer as one number: each part has room, and is read back.
-- Assumes nothing.
use Rattle.std.proofs.Common.{rules}
use mathlib.Core.Path.{◌≡◌, refl}
use mathlib.Core.Bool.{Bool, true, false}
use mathlib.Core.List.{List}
use Prim.Native.Nat.{ℕ, ◌+◌, ◌*◌, ◌/◌, ◌%◌, ◌^◌, ◌<◌}
use native.Mathlib.Decide.{ℕ_discrete}
use native.Mathlib.Omega.{arith}
use lib.Dec.{eqb}
use lib.ListN.{length}
use Rattle.algebra.specs.Tables.{num}
use Rattle.rules.specs.Codes.{Code}
use Rattle.rules.specs.Bits.{row_bytes}
use Rattle.rules.proofs.Laws.CodeLaws.{Sound}
use Rattle.laws.proofs.RefusalLaws.{not_longer}
use Rattle.laws.proofs.CornerLaws.{square_small}
use Rattle.receiver.specs.Pieces.{Told, refusal, receive}
use Rattle.receiver.specs.Packed.{state_in, said_in, wanted_bit, packed, Fits}
use Rattle.receiver.proofs.RefusalLaws.{refusal_few, accepted, receive_taken, receive_refused}

-- ---- The statement

pub record Packing (code : Code) : Type 0 where
  -- whatever number of 64 bits goes in, each part of the answer has room
  pub fits : (x : ℕ) → x < 2 ^ 64 → (piece frame : List ℕ) → Fits (receive code (state_in x) piece frame).said
  -- an answer of which each part has room takes 64 bits, bits 9 to 15 of them zero, and is read back
  pub narrow : (r : Told) → Fits r → (packed r < 2 ^ 64) × (packed r % 2 ^ 16 < 2 ^ 9)
  pub read_back : (r : Told) → Fits r → said_in (packed r) ≡ r
  -- what goes in is looked at from bit 16 on
  pub low_bits : (x y : ℕ) → x / 2 ^ 16 ≡ y / 2 ^ 16 → state_in x ≡ state_in y
  -- by example, with parts that all differ
  pub example : packed (record { state = record { n = 0x0102; bytes = 0x03040506 }; number = 14; more = true }) ≡ 0x030405060102010E

-- ---- Room

has_room :
    (code : Code) → Sound code → (x : ℕ) → x < 2 ^ 64 → (piece frame : List ℕ)
    → Fits (receive code (state_in x) piece frame).said
has_room code ok x h piece frame = go (ℕ_discrete (refusal code (state_in x) (length piece) (length frame)) 0)
  where
    room : ((state_in x).n < 2 ^ 16) × ((state_in x).bytes < 2 ^ 32)
    room = (omega arith, omega (arith, h))

    go : Dec (refusal code (state_in x) (length piece) (length frame) ≡ 0) → Fits (receive code (state_in x) piece frame).said
    go (yes z) =
        let a = accepted code (state_in x) (length piece) (length frame) z in
        let s = square_small (state_in x).n (row_bytes (state_in x).n) refl (not_longer code ok (state_in x).n a.0) in
        rw (receive_taken code (state_in x) piece frame z)
        (omega arith, room.0, omega (arith, a.2, s))
    go (no z) =
        rw (receive_refused code (state_in x) piece frame _ refl z)
        (omega (arith, refusal_few code (state_in x) (length piece) (length frame)), room.0, room.1)

-- ---- Read back

-- the parts of such a number; w is the bit for more
record Parts (k w n b x : ℕ) : Type 0 where
  number : x % 2 ^ 8 ≡ k
  wanted : x / 2 ^ 8 % 2 ≡ w
  n_is : x / 2 ^ 16 % 2 ^ 16 ≡ n
  bytes : x / 2 ^ 32 ≡ b
  small : x < 2 ^ 64
  unused : x % 2 ^ 16 < 2 ^ 9

parts : (k w n b : ℕ) → k < 2 ^ 8 → w < 2 → n < 2 ^ 16 → b < 2 ^ 32 → Parts k w n b (k + w * 2 ^ 8 + n * 2 ^ 16 + b * 2 ^ 32)
parts k w n b hk hw hn hb =
    record {
      number = omega (arith, hk, hw);
      wanted = omega (arith, hk, hw);
      n_is = omega (arith, hk, hw, hn);
      bytes = omega (arith, hk, hw, hn);
      small = omega (arith, hk, hw, hn, hb);
      unused = omega (arith, hk, hw);
    }

module _ (r : Told) (f : Fits r) where
  parts_of : Parts r.number (num r.more) r.state.n r.state.bytes (packed r)
  parts_of = go r.more
    where
      go :
          (m : Bool)
          → Parts r.number (num m) r.state.n r.state.bytes
          (r.number + wanted_bit m + r.state.n * 2 ^ 16 + r.state.bytes * 2 ^ 32)
      go true = parts r.number 1 r.state.n r.state.bytes f.0 (omega arith) f.1 f.2
      go false = parts r.number 0 r.state.n r.state.bytes f.0 (omega arith) f.1 f.2

  more_back : eqb (num r.more) 1 ≡ r.more
  more_back = search rules

  back : said_in (packed r) ≡ r
  back = let p = parts_of in rw (p.number, p.wanted, p.n_is, p.bytes, more_back) refl

same_state : (x y : ℕ) → x / 2 ^ 16 ≡ y / 2 ^ 16 → state_in x ≡ state_in y
same_state x y h =
    let e : x / 2 ^ 32 ≡ y / 2 ^ 32 = omega (arith, h) in rw (h, e)

pub packing : (code : Code) → Sound code → Packing code
packing code ok = record {
  fits = has_room code ok;
  narrow = λ r f. let p = parts_of r f in (p.small, p.unused);
  read_back = back;
  low_bits = same_state;
  example = refl;
}
