-- RULES 11: the bench items, as one table under one statement.
-- Assumes nothing.
use mathlib.Core.Path.{◌≡◌, refl, sym, ap, ap₂, ◌∙◌}
use mathlib.Core.Logic.{◌⊎◌, inl, inr}
use mathlib.Core.Bool.{Bool, true, false}
use mathlib.Core.List.{List, [], ◌∷◌, ◌++◌, map}
use mathlib.Core.Option.{Option, some, none}
use Prim.Native.Nat.{ℕ, zero, suc}
use native.Mathlib.Omega.{arith}
use lib.Dec.{eqb}
use lib.ListN.{replicate}
use Rattle.algebra.specs.Tables.{ones, total}
use Rattle.algebra.specs.Words.{Word, bit}
use Rattle.rules.specs.Codes.{small_code}
use Rattle.rules.specs.Words.{remainder, is_codeword, Codeword, answer, places, changed, mend}
use Rattle.rules.specs.Frames.{row}
use Rattle.rules.specs.Bits.{row_bytes, word_of, frame_of, word_bytes}
use Rattle.rules.specs.Passes.{clean, repaired, stuck, spent, Outcome, decoded}
use Rattle.rules.specs.Numbers.{frame_bytes, encode_number, encode_output, Decoded, refused, erased, ended, decode_refusal, decode_said, decode_output, WordSaid, answered, number, word_said, word_number, word_output, pick, told, handed_out, undecoded, word_refused, word_refusal}
use Rattle.rules.specs.Block.{HostAnswer, host_decode}
use Rattle.rules.proofs.Laws.SmallCode.{sound_small}
use Rattle.rules.proofs.Laws.Shape.{word_of-length}
use Rattle.rules.proofs.Laws.EncodeWordLaws.{codeword_unique}
use Rattle.rules.proofs.Laws.Computing.{computing}

-- what is asked of an entry point; every lent output is full of nines
pub data Asked : Type 0 where
  -- n, allowance, received bytes
  decode : ℕ → ℕ → List ℕ → Asked
  -- n, data
  encode : ℕ → List ℕ → Asked
  -- n, received bytes
  word : ℕ → List ℕ → Asked
  -- n, a frame's bytes: how many of its code bits are ones
  weigh : ℕ → List ℕ → Asked

pub data Got : Type 0 where
  -- the number, what is said, the output
  decodes : ℕ → Decoded → List ℕ → Got
  encodes : ℕ → List ℕ → Got
  words : ℕ → WordSaid → List ℕ → Got
  weighs : ℕ → Got

unfoldable pub nines : ℕ → List ℕ
nines m = replicate m 9

unfoldable pub got : Asked → Got
got (decode n a s) =
    let said : Decoded = decode_said small_code n a s (nines (frame_bytes n)) in
    decodes (number said) said (decode_output small_code n a s (nines (frame_bytes n)))
got (encode n d) = encodes (encode_number small_code n d (nines (frame_bytes n))) (encode_output small_code n d (nines (frame_bytes n)))
got (word n s) =
    let said : WordSaid = word_said small_code n s (nines (row_bytes n)) in
    words (word_number said) said (word_output small_code n s (nines (row_bytes n)))
got (weigh n s) = weighs (total n (λ i. ones (row (frame_of n s) i)))

-- the two codewords of 18 bits, each as one row
abbrev o : List ℕ
o = 0x00 ∷ 0x00 ∷ 0x00 ∷ []

abbrev c : List ℕ
c = 0xB7 ∷ 0xB1 ∷ 0xC0 ∷ []

abbrev all : List ℕ
all = 0xFF ∷ 0xFF ∷ 0xC0 ∷ []

-- m rows of ones, spare bits zero
unfoldable pub all_rows : ℕ → List ℕ
all_rows zero = []
all_rows (suc m) = all ++ all_rows m

abbrev zeros : ℕ → List ℕ
zeros m = replicate m 0

-- the frame whose data bit is one: row i is `c` where `c` has a one at place i
abbrev square : List ℕ
square = c ++ o ++ c ++ c ++ o ++ c ++ c ++ c ++ c ++ o ++ c ++ c ++ o ++ o ++ o ++ c ++ c ++ c

-- the nine bits of item D
abbrev nine : List ℕ
nine = 0xE0 ∷ 0 ∷ 0 ∷ 0xE0 ∷ 0 ∷ 0 ∷ 0xE0 ∷ 0 ∷ 0 ∷ zeros 45

unfoldable pub table : List (Asked × Got)
table =
    -- A: a frame of zeros
    (decode 18 2 (zeros 54), decodes 0 (ended clean 0 0 0 0) (zeros 54))
    -- B: two wrong bits in one row
    ∷ (decode 18 2 (0xC0 ∷ zeros 53), decodes 0 (ended repaired 1 2 0 0) (zeros 54))
    -- C: two rows of ones
    ∷ (decode 18 2 (all ++ all ++ zeros 48), decodes 0 (ended repaired 2 36 0 0) (zeros 54))
    -- and the same at allowance 1
    ∷ (decode 18 1 (all ++ all ++ zeros 48), decodes 8 (ended spent 1 0 2 18) (all ++ all ++ zeros 48))
    -- D: three wrong bits in each of three rows, in the same columns
    ∷ (decode 18 2 nine, decodes 7 (ended stuck 2 0 3 3) nine)
    -- the data bit is one
    ∷ (encode 18 (0x80 ∷ []), encodes 0 square)
    -- the code bits of that frame that are ones
    ∷ (weigh 18 square, weighs 144)
    -- the parity bit is wrong
    ∷ (word 18 (0x00 ∷ 0x00 ∷ 0x40 ∷ []), words 0 (answered (some (17 ∷ []))) o)
    -- three wrong bits
    ∷ (word 18 (0xE0 ∷ 0x00 ∷ 0x00 ∷ []), words 9 (answered none) (0xE0 ∷ 0x00 ∷ 0x00 ∷ []))
    -- 256 ones are a codeword
    ∷ (word 256 (replicate 32 0xFF), words 0 (answered (some [])) (replicate 32 0xFF))
    -- 255 and 254 are none, and could be mended only where places were cut away
    ∷ (word 255 (replicate 31 0xFF ++ 0xFE ∷ []), words 9 (answered none) (replicate 31 0xFF ++ 0xFE ∷ []))
    ∷ (word 254 (replicate 31 0xFF ++ 0xFC ∷ []), words 9 (answered none) (replicate 31 0xFF ++ 0xFC ∷ []))
    -- A, and a spare bit set
    ∷ (decode 18 2 (0x00 ∷ 0x00 ∷ 0x20 ∷ zeros 51), decodes 0 (ended clean 0 0 0 0) (zeros 54))
    -- ones alone, spare bits zero and set; at allowance 0; and but for one code bit
    ∷ (decode 18 2 (all_rows 18), decodes 10 erased (nines 54))
    ∷ (decode 18 2 (replicate 54 0xFF), decodes 10 erased (nines 54))
    ∷ (decode 18 0 (replicate 54 0xFF), decodes 4 (refused 4) (nines 54))
    ∷ (decode 18 2 (0x7F ∷ replicate 53 0xFF), decodes 7 (ended stuck 2 0 18 18) (0x7F ∷ replicate 53 0xFF))
    ∷ []

-- every item of a table gets what stands beside it
abbrev pub AsListed : List (Asked × Got) → Type 0
AsListed items = map (λ item. got item.0) items ≡ map (λ item. item.1) items

-- the statement
abbrev pub Bench : Type 0
Bench = AsListed table

-- ---- The proof: antt computes it, each decoding once for what is said and for the output

quick : Asked → Got
quick (decode n a s) =
    let r : ℕ = decode_refusal small_code n a s (nines (frame_bytes n)) in
    let o : Outcome = decoded small_code n a (frame_of n s) in
    pick (eqb r 0) (decodes (number (told o)) (told o) (handed_out n s o)) (decodes (number (undecoded r)) (undecoded r) (nines (frame_bytes n)))
quick (encode n d) = got (encode n d)
quick (word n s) =
    let r : ℕ = word_refusal small_code n s (nines (row_bytes n)) in
    let a : Option (List ℕ) = answer small_code n (word_of n s 0) in
    let m : ℕ = word_number (answered a) in
    pick (eqb r 0) (words m (answered a) (pick (eqb m 0) (word_bytes n (changed (places a) (word_of n s 0))) s))
    (words r (word_refused r) (nines (row_bytes n)))
quick (weigh n s) = got (weigh n s)

quick_is : (x : Asked) → got x ≡ quick x
unfolding got quick decode_said decode_output word_said word_output mend
quick_is (decode n a s) = go (eqb (decode_refusal small_code n a s (nines (frame_bytes n))) 0)
  where
    r : ℕ
    r = decode_refusal small_code n a s (nines (frame_bytes n))

    o : Outcome
    o = decoded small_code n a (frame_of n s)

    go :
        (b : Bool)
        → decodes (number (pick b (told o) (undecoded r))) (pick b (told o) (undecoded r)) (pick b (handed_out n s o) (nines (frame_bytes n)))
        ≡ pick b (decodes (number (told o)) (told o) (handed_out n s o)) (decodes (number (undecoded r)) (undecoded r) (nines (frame_bytes n)))
    go true = refl
    go false = refl
quick_is (encode n d) = refl
quick_is (word n s) = go (eqb (word_refusal small_code n s (nines (row_bytes n))) 0)
  where
    r : ℕ
    r = word_refusal small_code n s (nines (row_bytes n))

    a : Option (List ℕ)
    a = answer small_code n (word_of n s 0)

    w : List ℕ
    w = word_bytes n (changed (places a) (word_of n s 0))

    go :
        (b : Bool)
        → words (word_number (pick b (answered a) (word_refused r))) (pick b (answered a) (word_refused r))
        (pick b (pick (eqb (word_number (pick b (answered a) (word_refused r))) 0) w s) (nines (row_bytes n)))
        ≡ pick b (words (word_number (answered a)) (answered a) (pick (eqb (word_number (answered a)) 0) w s))
        (words r (word_refused r) (nines (row_bytes n)))
    go true = refl
    go false = refl
quick_is (weigh n s) = refl

quickly : (items : List (Asked × Got)) → map (λ item. quick item.0) items ≡ map (λ item. item.1) items → AsListed items
quickly items h = all items ∙ h
  where
    all : (items : List (Asked × Got)) → map (λ item. got item.0) items ≡ map (λ item. quick item.0) items
    all [] = refl
    all (item ∷ items) = ap₂ ◌∷◌ (quick_is item.0) (all items)

pub bench : Bench
unfolding computing nines got quick table all_rows
bench = quickly table refl

-- ---- More items: the errors of reasoning that no item above shows, and passes after the second

-- places 0, 8 and 13 of 32 have the remainder of places 16 and 30
abbrev three : List ℕ
three = 0x80 ∷ 0x84 ∷ 0x00 ∷ 0x00 ∷ []

abbrev pair : List ℕ
pair = 0x00 ∷ 0x00 ∷ 0x80 ∷ 0x02 ∷ []

-- three rows of 18 bits, each by its first byte, all else zero
abbrev rows3 : ℕ → ℕ → ℕ → List ℕ
rows3 x y z = x ∷ 0 ∷ 0 ∷ y ∷ 0 ∷ 0 ∷ z ∷ zeros 47

-- item D, and one wrong bit in row 10
abbrev half : List ℕ
half = 0xE0 ∷ 0 ∷ 0 ∷ 0xE0 ∷ 0 ∷ 0 ∷ 0xE0 ∷ 0 ∷ 0 ∷ zeros 21 ++ 0x00 ∷ 0x20 ∷ 0x00 ∷ zeros 21

-- ten of the twelve ones of B7 B1 C0, so pass 1 sets the two others
abbrev ten : List ℕ
ten = 0x17 ∷ 0xB1 ∷ 0xC0 ∷ zeros 51

unfoldable pub more : List (Asked × Got)
more =
    -- three wrong bits, of which the remainder alone locates two others
    (word 32 three, words 9 (answered none) three)
    ∷ (word 32 pair, words 0 (answered (some (16 ∷ 30 ∷ []))) (zeros 4))
    -- stuck after a bit was mended: the received bytes
    ∷ (decode 18 2 half, decodes 7 (ended stuck 2 1 3 3) half)
    -- pass 3 decodes the rows again
    ∷ (decode 18 3 (rows3 0xE0 0xD0 0xC8), decodes 0 (ended repaired 3 9 0 0) (zeros 54))
    -- spent after it changed bits: rows and columns of the last frame, the received bytes
    ∷ (decode 18 2 (rows3 0xE0 0xD0 0xC8), decodes 8 (ended spent 2 3 3 2) (rows3 0xE0 0xD0 0xC8))
    -- stuck at pass 3
    ∷ (decode 18 4 (rows3 0xE4 0xE0 0xE0), decodes 7 (ended stuck 3 1 3 3) (rows3 0xE4 0xE0 0xE0))
    -- ten received bits were wrong, and ten are counted; pass 1 adds 2 and pass 2 takes away 12, which sums to 14
    ∷ (decode 18 2 ten, decodes 0 (ended repaired 2 10 0 0) (zeros 54))
    ∷ []

pub record MoreItems : Type 0 where
  pub shown : AsListed more
  pub located : remainder small_code 32 (word_of 32 three 0) ≡ remainder small_code 32 (word_of 32 pair 0)

pub more_items : MoreItems
unfolding computing nines got quick more
more_items = record { shown = quickly more refl; located = refl }

-- ---- Where the ranges of n, of the allowance and of the sizes end

-- the number that refuses: n, allowance, bytes received, bytes lent
unfoldable pub refusal : ℕ → ℕ → ℕ → ℕ → ℕ
refusal n allowance received lent = decode_refusal small_code n allowance (zeros received) (nines lent)

abbrev pub Ranges : Type 0
Ranges =
    -- n: one too small, one too great, the smallest, the greatest
    refusal 17 2 51 51 ∷ refusal 257 2 8481 8481 ∷ refusal 18 2 54 54 ∷ refusal 256 2 8192 8192
    -- the allowance, likewise
    ∷ refusal 18 0 54 54 ∷ refusal 18 201 54 54 ∷ refusal 18 1 54 54 ∷ refusal 18 200 54 54
    -- the received bytes one too few and one too many, and the lent ones
    ∷ refusal 18 2 53 54 ∷ refusal 18 2 55 54 ∷ refusal 18 2 54 53 ∷ refusal 18 2 54 55 ∷ []
    ≡ 1 ∷ 1 ∷ 0 ∷ 0 ∷ 4 ∷ 4 ∷ 0 ∷ 0 ∷ 2 ∷ 2 ∷ 3 ∷ 3 ∷ []

pub ranges : Ranges
unfolding computing nines refusal
ranges = refl

-- ---- What C gets: n, allowance, received bytes; every lent block is full of nines too

unfoldable pub for_c : ℕ → ℕ → List ℕ → ℕ → HostAnswer
for_c n allowance received long = host_decode small_code n allowance received (nines (frame_bytes n)) (nines long)

pub record HostItems : Type 0 where
  -- item C at allowance 1: number 8, 1 pass, 0 bits, 2 rows, 18 columns
  pub spent :
      for_c 18 1 (all ++ all ++ zeros 48) 20
      ≡ record {
        returned = 8;
        frame = all ++ all ++ zeros 48;
        block = 8 ∷ 0 ∷ 0 ∷ 0 ∷ 1 ∷ 0 ∷ 0 ∷ 0 ∷ 0 ∷ 0 ∷ 0 ∷ 0 ∷ 2 ∷ 0 ∷ 0 ∷ 0 ∷ 18 ∷ 0 ∷ 0 ∷ 0 ∷ [];
      }
  -- a refusal is written into the block, and nothing into the frame
  pub refused_4 : for_c 18 201 (zeros 54) 20 ≡ record { returned = 4; frame = nines 54; block = 4 ∷ zeros 19 }
  -- a block one byte too short, and one too long with an n out of range besides
  pub short : for_c 18 1 (all ++ all ++ zeros 48) 19 ≡ record { returned = 11; frame = nines 54; block = nines 19 }
  pub long : for_c 17 1 (zeros 51) 21 ≡ record { returned = 11; frame = nines 51; block = nines 21 }

pub host_items : HostItems
unfolding computing nines for_c
host_items = record { spent = refl; refused_4 = refl; short = refl; long = refl }

-- ---- The codewords of 18 bits

pub record TwoCodewords : Type 0 where
  pub both : (is_codeword small_code 18 (word_of 18 o 0) ≡ true) × (is_codeword small_code 18 (word_of 18 c 0) ≡ true)
  pub twelve : ones (word_of 18 c 0) ≡ 12
  pub only : (w : Word) → Codeword small_code 18 w → (w ≡ word_of 18 o 0) ⊎ (w ≡ word_of 18 c 0)

-- one data bit, so one of the two
by_data :
    (u : List ℕ) (w : Word) → Codeword small_code 18 w → is_codeword small_code 18 (word_of 18 u 0) ≡ true → bit w 0 ≡ bit (word_of 18 u 0) 0
    → w ≡ word_of 18 u 0
by_data u w k whole e =
    codeword_unique small_code sound_small 18 w (word_of 18 u 0) (omega arith) k.0 (word_of-length 18 u 0) k.1 whole
    (λ j h. let z : j ≡ 0 = omega arith in ap (λ i. bit w i) z ∙ e ∙ ap (λ i. bit (word_of 18 u 0) i) (sym z))

pub two_codewords : TwoCodewords
unfolding computing
two_codewords = record {
  both = (refl, refl);
  twelve = refl;
  only = λ w k. elim (bit w 0) as (λ b. bit w 0 ≡ b → (w ≡ word_of 18 o 0) ⊎ (w ≡ word_of 18 c 0)) [
    | true ↦ λ e. inr (by_data c w k refl e)
    | false ↦ λ e. inl (by_data o w k refl e)
  ] refl;
}
