-- Where the promise ends: a frame past the class of demand 3 that the decoder 'repairs' to a frame that was not written.
-- Assumes nothing.
use mathlib.Core.Path.{◌≡◌, refl, sym, ap, ◌∙◌}
use mathlib.Core.Logic.{◌≢◌, ⊎_elim}
use mathlib.Core.Bool.{true, false, true≢false}
use mathlib.Core.List.{List, [], ◌∷◌, ◌++◌}
use Prim.Native.Nat.{ℕ, suc, ◌≤◌}
use native.Mathlib.Omega.{arith}
use lib.ListN.{get_or, replicate}
use Rattle.algebra.specs.Words.{Word, bit, differ}
use Rattle.rules.specs.Codes.{radius, small_code}
use Rattle.rules.specs.Frames.{is_frame}
use Rattle.rules.specs.Bits.{word_of, frame_of, bytes_of}
use Rattle.rules.specs.Passes.{clean, repaired, stuck, differences, good, decoded}
use Rattle.rules.specs.Numbers.{encode_number, encode_output, ended, undecoded, told, handed_out, decode_refusal, decode_said, decode_output, number}
use Rattle.rules.specs.Damage.{spoilt}
use Rattle.rules.proofs.Laws.Shape.{frame_of-square}
use Rattle.rules.proofs.Laws.NumberLaws.{at_zero}
use Rattle.rules.proofs.Laws.Computing.{computing}
use Rattle.rules.proofs.Promises.Distance.{DistanceAt}
use Rattle.rules.proofs.Promises.RepairFrames.{Restored, RepairsFramesAt}
use Rattle.rules.proofs.Promises.Repair.{Written, Back, NotErased, BackAt}

abbrev zeros : ℕ → List ℕ
zeros m = replicate m 0

-- a codeword of 31 bits with six ones, at places 0, 6, 14, 15, 17, 29
abbrev six : List ℕ
six = 0x82 ∷ 0x03 ∷ 0x40 ∷ 0x04 ∷ []

-- the first four of them
abbrev four : List ℕ
four = 0x82 ∷ 0x03 ∷ 0x00 ∷ 0x00 ∷ []

-- written: all zero. Received: sixteen wrong bits, where rows 0, 6, 14, 15 meet columns 0, 6, 14, 15
abbrev written : List ℕ
written = zeros 124

abbrev received : List ℕ
received = four ++ zeros 20 ++ four ++ zeros 28 ++ four ++ four ++ zeros 60

-- handed out: the frame that has the six ones in each of six rows
abbrev other : List ℕ
other = six ++ zeros 20 ++ six ++ zeros 28 ++ six ++ six ++ zeros 4 ++ six ++ zeros 44 ++ six ++ zeros 4

pub record Limit : Type 0 where
  -- a written frame
  pub encoded : encode_number small_code 31 (zeros 28) (zeros 124) ≡ 0
  pub frame : encode_output small_code 31 (zeros 28) (zeros 124) ≡ written
  -- four rows have three or more wrong bits, sixteen in all
  pub rows : spoilt 2 31 (frame_of 31 written) (frame_of 31 received) ≡ 4
  pub bits : differences 31 (frame_of 31 written) (frame_of 31 received) ≡ 16
  -- number 0, and another frame
  pub said : decode_said small_code 31 2 received (zeros 124) ≡ ended repaired 2 20 0 0
  pub handed : decode_output small_code 31 2 received (zeros 124) ≡ other
  pub wrong : other ≢ written
  -- the distance is no more than is claimed: `six` and zero are codewords
  pub no_farther : ¬ DistanceAt small_code (suc small_code.distance)
  -- three rows of three wrong bits are already too many: item D is not mended
  pub three_rows : ¬ RepairsFramesAt small_code (suc (radius small_code))
  pub three_rows_bytes : ¬ BackAt small_code (suc (radius small_code)) NotErased

-- item D
abbrev nine : List ℕ
nine = 0xE0 ∷ 0 ∷ 0 ∷ 0xE0 ∷ 0 ∷ 0 ∷ 0xE0 ∷ zeros 47

farther_none : ¬ DistanceAt small_code (suc small_code.distance)
unfolding computing
farther_none d =
    let w : Word = word_of 31 six 0 in
    let u : Word = word_of 31 (zeros 4) 0 in
    let e : differ w u ≡ 6 = refl in
    let h : suc small_code.distance ≤ differ w u =
    d 31 (omega arith) (omega arith) w u (refl, refl) (refl, refl) (λ q. true≢false (ap (λ x. bit x 0) q)) in
    absurd (omega arith)

nine_stuck : (decoded small_code 18 2 (frame_of 18 nine)).ending ≡ stuck
unfolding computing
nine_stuck = refl

nine_said : number (decode_said small_code 18 2 nine (zeros 54)) ≡ 7
unfolding computing
nine_said = refl

nine_rows : (is_frame small_code 18 (frame_of 18 (zeros 54)) ≡ true) × (spoilt 2 18 (frame_of 18 (zeros 54)) (frame_of 18 nine) ≡ 3)
unfolding computing
nine_rows = (refl, refl)

zeros_written : Written small_code 18 (zeros 54)
unfolding computing
zeros_written = record { input = 0 ∷ []; blank = zeros 54; accepts = refl; writes = refl }

nine_seen : NotErased 18 nine
unfolding computing
nine_seen all = let z : false ≡ true = all 17 17 (omega arith) (omega arith) in true≢false (sym z)

no_three : ¬ RepairsFramesAt small_code (suc (radius small_code))
no_three r =
    let b : Restored (frame_of 18 (zeros 54)) (decoded small_code 18 2 (frame_of 18 nine)) =
    r 18 2 (omega arith) (omega arith) (omega arith) (frame_of 18 (zeros 54)) (frame_of 18 nine) (frame_of-square 18 (zeros 54))
    (frame_of-square 18 nine) nine_rows.0 (omega (arith, nine_rows.1)) in
    ⊎_elim (λ q. apart (sym nine_stuck ∙ q)) (λ q. apart' (sym nine_stuck ∙ q)) b.success
  where
    apart : stuck ≢ clean
    apart q = let z : ◌≡◌ {A = ℕ} 0 1 = cc in omega arith

    apart' : stuck ≢ repaired
    apart' q = let z : ◌≡◌ {A = ℕ} 0 1 = cc in omega arith

no_three_bytes : ¬ BackAt small_code (suc (radius small_code)) NotErased
no_three_bytes r =
    let b : Back small_code 18 2 (zeros 54) nine (zeros 54) =
    r 18 2 (zeros 54) nine (zeros 54) zeros_written (refl, omega (arith, nine_rows.1)) nine_seen (omega arith) (omega arith) refl in
    omega (arith, b.zero, nine_said)

-- computed once, for what is said and for the output
goes_wrong : decoded small_code 31 2 (frame_of 31 received) ≡ good repaired 2 20 (frame_of 31 other)
unfolding computing
goes_wrong = refl

accepted : decode_refusal small_code 31 2 received (zeros 124) ≡ 0
unfolding computing
accepted = refl

said_here : decode_said small_code 31 2 received (zeros 124) ≡ ended repaired 2 20 0 0
unfolding decode_said
said_here =
    at_zero (decode_refusal small_code 31 2 received (zeros 124)) (told (decoded small_code 31 2 (frame_of 31 received)))
    (undecoded (decode_refusal small_code 31 2 received (zeros 124))) accepted
    ∙ ap told goes_wrong

other_bytes : bytes_of 31 (frame_of 31 other) ≡ other
unfolding computing
other_bytes = refl

handed_here : decode_output small_code 31 2 received (zeros 124) ≡ other
unfolding decode_output
handed_here =
    at_zero (decode_refusal small_code 31 2 received (zeros 124)) (handed_out 31 received (decoded small_code 31 2 (frame_of 31 received))) (zeros 124) accepted
    ∙ ap (handed_out 31 received) goes_wrong ∙ other_bytes

encoded_here : (encode_number small_code 31 (zeros 28) (zeros 124) ≡ 0) × (encode_output small_code 31 (zeros 28) (zeros 124) ≡ written)
unfolding computing
encoded_here = (refl, refl)

counted_here :
    (spoilt 2 31 (frame_of 31 written) (frame_of 31 received) ≡ 4)
    × (differences 31 (frame_of 31 written) (frame_of 31 received) ≡ 16)
unfolding computing
counted_here = (refl, refl)

other_wrong : other ≢ written
other_wrong e = let z = ap (λ l. get_or l 0 0) e in omega arith

pub limit : Limit
limit = record {
  encoded = encoded_here.0;
  frame = encoded_here.1;
  rows = counted_here.0;
  bits = counted_here.1;
  said = said_here;
  handed = handed_here;
  wrong = other_wrong;
  no_farther = farther_none;
  three_rows = no_three;
  three_rows_bytes = no_three_bytes;
}
