-- RULES 14 by example: calls at n = 18, whose frame has 54 bytes, one by one; computed.
-- Assumes nothing.
use mathlib.Core.Path.{◌≡◌, refl}
use mathlib.Core.Bool.{Bool, true, false}
use mathlib.Core.List.{List, [], ◌∷◌, ◌++◌}
use Prim.Native.Nat.{ℕ, ◌-◌, ◌^◌}
use lib.ListN.{replicate}
use Rattle.rules.specs.Codes.{small_code}
use Rattle.rules.specs.Numbers.{Exit}
use Rattle.text.specs.Laid.{laid}
use Rattle.receiver.specs.Pieces.{Told, refusal, receive}
use Rattle.receiver.specs.Packed.{host_receive}

-- ---- The statement

-- a call: n, the bytes so far, the piece, the buffer
abbrev pub call : ℕ → ℕ → List ℕ → List ℕ → Exit Told
call n bytes piece frame = receive small_code (record { n = n; bytes = bytes }) piece frame

-- what it gives: n, the bytes so far, the number, whether more is wanted, the buffer
abbrev pub gives : ℕ → ℕ → ℕ → Bool → List ℕ → Exit Told
gives n bytes number more frame =
    record { said = record { state = record { n = n; bytes = bytes }; number = number; more = more }; output = frame }

-- a buffer of so many nines
abbrev pub nines : ℕ → List ℕ
nines m = replicate m 9

-- a piece
abbrev pub three : List ℕ
three = 1 ∷ 2 ∷ 3 ∷ []

pub record Items : Type 0 where
  pub first : call 18 0 three (nines 54) ≡ gives 18 3 0 true (three ++ nines 51)
  pub behind : call 18 7 three (nines 54) ≡ gives 18 10 0 true (nines 7 ++ (three ++ nines 44))
  pub a_byte_short : call 18 50 three (nines 54) ≡ gives 18 53 0 true (nines 50 ++ (three ++ nines 1))
  pub last : call 18 51 three (nines 54) ≡ gives 18 54 0 false (nines 51 ++ three)
  pub past : call 18 52 three (nines 54) ≡ gives 18 52 14 false (nines 54)
  -- empty pieces
  pub nothing_yet : call 18 0 [] (nines 54) ≡ gives 18 0 0 true (nines 54)
  pub nothing_more : call 18 54 [] (nines 54) ≡ gives 18 54 0 false (nines 54)
  pub claims_more : call 18 55 [] (nines 54) ≡ gives 18 55 14 false (nines 54)
  pub claims_most : call 18 (2 ^ 64 - 1) three (nines 54) ≡ gives 18 (2 ^ 64 - 1) 14 false (nines 54)
  -- 1 before 2 before 14
  pub too_short : call 18 55 three (nines 53) ≡ gives 18 55 2 false (nines 53)
  pub too_long : call 18 55 three (nines 55) ≡ gives 18 55 2 false (nines 55)
  pub below : call 17 55 three (nines 53) ≡ gives 17 55 1 false (nines 53)
  pub greatest : call 256 0 [] (nines 54) ≡ gives 256 0 2 false (nines 54)
  pub above : call 257 0 [] (nines 54) ≡ gives 257 0 1 false (nines 54)
  -- as C has it, whatever the lowest 16 bits: taken, the last bytes, refused
  pub for_c_lem :
      host_receive small_code (0x000000070012ABCD) three (nines 54)
      ≡ record { said = 0x0000000A00120100; output = nines 7 ++ (three ++ nines 44) }
  pub last_for_c : host_receive small_code (0x0000003300120100) three (nines 54) ≡ record { said = 0x0000003600120000; output = nines 51 ++ three }
  pub past_for_c : host_receive small_code (0xFFFFFFFF00120100) three (nines 54) ≡ record { said = 0xFFFFFFFF0012000E; output = nines 54 }

-- ---- The proof

pub items : Items
unfolding receive refusal laid host_receive
items = record {
  first = refl;
  behind = refl;
  a_byte_short = refl;
  last = refl;
  past = refl;
  nothing_yet = refl;
  nothing_more = refl;
  claims_more = refl;
  claims_most = refl;
  too_short = refl;
  too_long = refl;
  below = refl;
  greatest = refl;
  above = refl;
  for_c_lem = refl;
  last_for_c = refl;
  past_for_c = refl;
}
