-- Where number 10 ends: demand 3 needs its premise, since a written frame can be spoiled, within the class, to all ones; and what is
-- nearly all ones can be repaired to it.
-- Assumes nothing.
use mathlib.Core.Path.{◌≡◌, refl, sym, ap, ◌∙◌}
use mathlib.Core.Bool.{Bool, true, false, not, ◌&&◌, ◌||◌, true≢false}
use mathlib.Core.List.{List}
use Prim.Native.Nat.{ℕ, ◌≤◌}
use native.Mathlib.Omega.{arith}
use lib.Dec.{eqb}
use lib.ListN.{length}
use Rattle.algebra.specs.Tables.{tab, count}
use Rattle.algebra.specs.Words.{Word, differ}
use Rattle.rules.specs.Codes.{Code, radius, data_bits, small_code}
use Rattle.rules.specs.Words.{is_codeword}
use Rattle.rules.specs.Frames.{Frame, Square, row, cell, is_frame, corner}
use Rattle.rules.specs.Bits.{frame_of, bytes_of}
use Rattle.rules.specs.Passes.{differences, decoded}
use Rattle.rules.specs.Numbers.{most_allowed, frame_bytes, frame_for, encode_number, erased, number, decode_said}
use Rattle.rules.specs.Damage.{spoilt}
use Rattle.rules.proofs.Laws.CodeLaws.{Sound, Mends}
use Rattle.rules.proofs.Laws.SmallCode.{sound_small}
use Rattle.rules.proofs.Laws.Shape.{square_tab, corner_square, frame_of-square}
use Rattle.rules.proofs.Laws.ErasedLaws.{ones_word, ones_square, AllOnes, ones_square_lem, ones_cells, ones_frame, erased_ones, not_erased, not_ones}
use Rattle.rules.proofs.Laws.PackLaws.{bytes_of-length, frame_of_bytes, spares_of_bytes}
use Rattle.rules.proofs.Laws.NumberLaws.{Sized, encode_accepts, decode_erased}
use Rattle.rules.proofs.Laws.Computing.{computing}
use Rattle.rules.proofs.Promises.Distance.{mends_small}
use Rattle.rules.proofs.Promises.Encoding.{encoding}
use Rattle.rules.proofs.Promises.RoundTrip.{accepted, encoded, is_written}
use Rattle.rules.proofs.Promises.RepairFrames.{Restored, repairs_frames, counts_damage}
use Rattle.rules.proofs.Promises.Repair.{Written, Spoiled, Back, NotErased, BackAt, frame_back}

-- a codeword of 80 bits: ones but for places 2 and 21
abbrev has_one : ℕ → Bool
has_one i = not (eqb i 2 || eqb i 21)

unfoldable pub holed : Word
holed = tab 80 has_one

-- row i is that word where it has a one at place i, and else zero
unfoldable pub products : Frame
products = tab 80 (λ i. tab 80 (λ j. has_one i && has_one j))

abbrev written : List ℕ
written = bytes_of 80 products

-- all ones; a row of 80 bits has no spare bit
abbrev received : List ℕ
received = bytes_of 80 (ones_square 80)

pub record Premise : Type 0 where
  pub codeword : is_codeword small_code 80 holed ≡ true
  -- a written frame
  pub encoded : Written small_code 80 written
  -- 78 rows with two wrong bits, and two that are lost, so it is of the class; 316 bits are wrong
  pub two : count 80 (λ i. eqb (differ (row (frame_of 80 written) i) (row (frame_of 80 received) i)) 2) ≡ 78
  pub rows : spoilt 2 80 (frame_of 80 written) (frame_of 80 received) ≡ 2
  pub bits : differences 80 (frame_of 80 written) (frame_of 80 received) ≡ 316
  -- the passes would give it back
  pub passes :
      Restored (frame_of 80 written) (decoded small_code 80 2 (frame_of 80 received))
      × ((decoded small_code 80 2 (frame_of 80 received)).bits ≡ 316)
  -- but it is said to be erased
  pub said : (output : List ℕ) → length output ≡ frame_bytes 80 → decode_said small_code 80 2 received output ≡ erased
  -- so that the demand fails where nothing is asked of what was received
  pub needed : ¬ BackAt small_code (radius small_code) (λ n received. Unit {0})

-- where the word of ones is a codeword, the square of ones is a frame, though none that was written: a frame that is erased but for bits
-- within the class is repaired to it, with number 0. The small code has such words at n = 256
pub record NearlyErased (code : Code) : Type 0 where
  pub handed_out_lem :
      (n allowance : ℕ) (received output : List ℕ) → Sized code n received (frame_bytes n) output (frame_bytes n) → 2 ≤ allowance → allowance ≤ most_allowed
      → is_codeword code n (ones_word n) ≡ true → Spoiled code n (bytes_of n (ones_square n)) received → NotErased n received
      → Back code n allowance (bytes_of n (ones_square n)) received output
  pub not_written : (n : ℕ) → ¬ Written code n (bytes_of n (ones_square n))

-- ---- Every frame but that of ones can be written

module _
    (code : Code) (ok : Sound code) (n : ℕ) (f : Frame) (lo : code.shortest ≤ n) (hi : n ≤ code.longest) (s : Square n f)
    (whole : is_frame code n f ≡ true) (some : ¬ AllOnes n f) where
  abbrev k : ℕ
  k = data_bits code n

  abbrev message : List ℕ
  message = bytes_of k (corner k f)

  same : frame_for code n message ≡ f
  same =
      sym
      ((encoding code ok n (frame_of k message) lo (frame_of-square k message)).only f s whole
      (sym (frame_of_bytes k (corner k f) (corner_square k f))))

  accepts : encode_number code n message (bytes_of n f) ≡ 0
  accepts =
      (encode_accepts code n message (bytes_of n f)).1 (
        record { from = lo; up_to = hi; taken = bytes_of-length k (corner k f); lent = bytes_of-length n f },
        spares_of_bytes k (corner k f) (corner_square k f),
        rw same (not_erased n f some),
      )

  frame_written : Written code n (bytes_of n f)
  frame_written =
      record { input = message; blank = bytes_of n f; accepts = accepts; writes = is_written code ok n message (bytes_of n f) accepts ∙ ap (bytes_of n) same }

-- ---- The proof

products_square : Square 80 products
unfolding products
products_square = square_tab 80 (λ i j. has_one i && has_one j)

computed :
    (is_codeword small_code 80 holed ≡ true) × (is_frame small_code 80 products ≡ true) × (cell products 2 2 ≡ false)
    × (count 80 (λ i. eqb (differ (row products i) (row (ones_square 80) i)) 2) ≡ 78)
    × (spoilt 2 80 products (ones_square 80) ≡ 2) × (differences 80 products (ones_square 80) ≡ 316)
unfolding computing holed products ones_square ones_word
computed = (refl, refl, refl, refl, refl, refl)

written_is : frame_of 80 written ≡ products
written_is = frame_of_bytes 80 products products_square

received_is : frame_of 80 received ≡ ones_square 80
received_is = frame_of_bytes 80 (ones_square 80) (ones_square_lem 80)

encoded_here : Written small_code 80 written
encoded_here =
    frame_written small_code sound_small 80 products (omega arith) (omega arith) products_square computed.1
    (λ all. true≢false (sym (all 2 2 (omega arith) (omega arith)) ∙ computed.2))

rows_here : spoilt 2 80 (frame_of 80 written) (frame_of 80 received) ≡ 2
rows_here = rw (written_is, received_is) computed.4

bits_here : differences 80 (frame_of 80 written) (frame_of 80 received) ≡ 316
bits_here = rw (written_is, received_is) computed.5

passes_here : Restored products (decoded small_code 80 2 (ones_square 80)) × ((decoded small_code 80 2 (ones_square 80)).bits ≡ 316)
passes_here =
    let few : spoilt 2 80 products (ones_square 80) ≤ 2 = omega (arith, computed.4) in
    let r : Restored products (decoded small_code 80 2 (ones_square 80)) =
    repairs_frames small_code mends_small 80 2 (omega arith) (omega arith) (omega arith) products (ones_square 80) products_square (ones_square_lem 80)
    computed.1 few in (
      r,
      (counts_damage small_code mends_small 80 2 (omega arith) (omega arith) (omega arith) products (ones_square 80) products_square
          (ones_square_lem 80) computed.1 few r.success).1
          ∙ computed.5,
    )

said_here : (output : List ℕ) → length output ≡ frame_bytes 80 → decode_said small_code 80 2 received output ≡ erased
said_here output lent =
    (decode_erased small_code 80 2 received output
    (record { from = omega arith; up_to = omega arith; taken = bytes_of-length 80 (ones_square 80); lent = lent }) (omega arith, omega arith)
    (rw received_is ((erased_ones 80 (ones_square 80)).1 (ones_cells 80)))).0

needed_here : ¬ BackAt small_code (radius small_code) (λ n received. Unit {0})
needed_here back =
    let b : Back small_code 80 2 written received written =
    back 80 2 written received written encoded_here (bytes_of-length 80 (ones_square 80), omega (arith, rows_here)) tt (omega arith) (omega arith)
    (bytes_of-length 80 products) in
    omega (arith, b.zero, ap number (said_here written (bytes_of-length 80 products)))

pub premise : Premise
premise = record {
  codeword = computed.0;
  encoded = encoded_here;
  two = rw (written_is, received_is) computed.3;
  rows = rows_here;
  bits = bits_here;
  passes = rw (written_is, received_is) passes_here;
  said = said_here;
  needed = needed_here;
}

-- ---- The frame of ones

unwritten : (code : Code) (ok : Sound code) (n : ℕ) → ¬ Written code n (bytes_of n (ones_square n))
unwritten code ok n w =
    let f : Frame = frame_for code n w.input in
    let same : bytes_of n f ≡ bytes_of n (ones_square n) = sym (is_written code ok n w.input w.blank w.accepts) ∙ w.writes in
    let e : f ≡ ones_square n =
    sym (frame_of_bytes n f (encoded code ok n w.input w.blank w.accepts).square)
    ∙ ap (frame_of n) same
    ∙ frame_of_bytes n (ones_square n) (ones_square_lem n) in
    not_ones n f (accepted code ok n w.input w.blank w.accepts).2 (rw e (ones_cells n))

pub nearly_erased : (code : Code) (able : Mends code) → NearlyErased code
nearly_erased code able = record {
  handed_out_lem = λ n a received output k lo hi c s seen.
      frame_back code able n a (ones_square n) received output k lo hi (ones_square_lem n) (ones_frame code n c)
      (rw (frame_of_bytes n (ones_square n) (ones_square_lem n)) at s.1) seen;
  not_written = unwritten code able.sound;
}
