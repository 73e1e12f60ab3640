-- Bytes of a frame's upper left corner, and when a square's bytes have no spare bit set.
-- Assumes nothing.
use mathlib.Core.Path.{◌≡◌, refl, sym, ap, ap₂, ◌∙◌}
use mathlib.Core.Logic.{◌≢◌}
use mathlib.Core.Bool.{Bool, true, false, ◌&&◌}
use mathlib.Core.List.{List, []}
use Prim.Native.Nat.{ℕ, zero, suc, ◌+◌, ◌*◌, ◌/◌, ◌%◌, ◌≤◌, ◌<◌}
use native.Mathlib.Decide.{dec_lt}
use native.Mathlib.Nat.{mul_assoc, mul-le-mul, mul-le-mul_right, div-lt_iff_lt-mul, mod-lt, suc-mul}
use native.Mathlib.Omega.{arith}
use lib.Dec.{eqb, ltb}
use lib.ListN.{length, get_or}
use borrow.Author.Tests.{lt-ltb, le-ltb, eq-eqb, ne_eqb}
use Rattle.algebra.specs.Tables.{tab, num}
use Rattle.algebra.specs.Words.{Word, bit}
use Rattle.algebra.proofs.TableLaws.{tab_at, tab_past, tab-length, tab_ext}
use Rattle.rules.specs.Codes.{Code, length_limit}
use Rattle.rules.specs.Frames.{Frame, row, cell, corner}
use Rattle.rules.specs.Bits.{row_bytes, stride, square_bytes, bit_at, word_of, frame_of, packed, byte_of, bytes_of, spare_ones}
use Rattle.rules.proofs.Laws.Shape.{square_tab, Square, square_ext, corner_square, corner_cell, bit_past, bit_tab, row_tab, frame_of-cell, frame_of-square, word_of-length, word_of-bit}
use Rattle.rules.proofs.Laws.PackLaws.{frame_of_bytes, bytes_of-length, bytes_of_frame, spares_of_bytes}
use Rattle.std.specs.Bool.{MatchBool}
use Rattle.laws.specs.InPlace.{most_bytes}
use Rattle.laws.proofs.CopyLaws.{written_all}
use Rattle.laws.specs.Turns.{cornered, Ready}

-- ---- sizes, where w stands for the bytes of a row

pub square_small : (n w : ℕ) → w ≡ row_bytes n → n ≤ length_limit → n * w ≤ most_bytes
square_small n w e h = mul-le-mul {n₂ = length_limit} {m₂ = row_bytes length_limit} h (omega arith)

-- row i lies inside
pub row_fits : (n w i : ℕ) → w ≡ row_bytes n → n ≤ length_limit → i < n → (i * w + w ≤ square_bytes n) × (square_bytes n ≤ most_bytes)
row_fits n w i e h l =
    (rw e (omega (arith, suc-mul i (row_bytes n), mul-le-mul_right (row_bytes n) l)), square_small n (row_bytes n) refl h)

pub place_small : (n w p : ℕ) → w ≡ row_bytes n → 1 ≤ n → n ≤ length_limit → p % w ≤ length_limit
place_small n w p e l h = let pos : 0 < w = omega arith in omega (arith, mod-lt p pos)

-- ---- a byte by its word's bits

packed_ext : (w u : Word) → ((j : ℕ) → bit w j ≡ bit u j) → (a m : ℕ) → packed w a m ≡ packed u a m
unfolding packed
packed_ext w u h a zero = refl
packed_ext w u h a (suc m) = ap₂ (λ (x : ℕ) (b : Bool). x * 2 + num b) (packed_ext w u h a m) (h (a + m))

pub byte_of_ext : (w u : Word) (b : ℕ) → ((j : ℕ) → bit w j ≡ bit u j) → byte_of w b ≡ byte_of u b
byte_of_ext w u b h = packed_ext w u h (b * 8) 8

byte_of-none : (b : ℕ) → byte_of [] b ≡ 0
unfolding packed bit
byte_of-none b = refl

-- ---- a row of the corner

-- k bits: where `inside` holds the first m of the rule's, and all else zero
abbrev cut : ℕ → ℕ → Bool → (ℕ → Bool) → Word
cut k m inside p = tab k (λ j. inside && (ltb j m && p j))

cut_in : (k m : ℕ) (p : ℕ → Bool) (j : ℕ) → m ≤ k → j < m → bit (cut k m true p) j ≡ p j
cut_in k m p j h l = bit_tab k (λ j. ltb j m && p j) j (omega arith) ∙ rw (lt-ltb j m l)

and_false : (b : Bool) → b && false ≡ false
and_false true = refl
and_false false = refl

cut_out : (k m : ℕ) (inside : Bool) (p : ℕ → Bool) (j : ℕ) → m ≤ j → bit (cut k m inside p) j ≡ false
cut_out k m inside p j h = go (dec_lt j k)
  where
    go : Dec (j < k) → bit (cut k m inside p) j ≡ false
    go (yes l) = bit_tab k (λ j. inside && (ltb j m && p j)) j l ∙ rw (le-ltb j m h) (and_false inside)
    go (no l) = bit_past (cut k m inside p) j (omega (arith, l, tab-length k (λ j. inside && (ltb j m && p j))))

cut-none : (k m : ℕ) (p : ℕ → Bool) (j : ℕ) → bit (cut k m false p) j ≡ bit [] j
unfolding bit
cut-none k m p j = go (dec_lt j k)
  where
    go : Dec (j < k) → bit (cut k m false p) j ≡ false
    go (yes l) = bit_tab k (λ j. false) j l
    go (no l) = bit_past (cut k m false p) j (omega (arith, l, tab-length k (λ (j : ℕ). false)))

module _ (m n k : ℕ) (s : List ℕ) (i : ℕ) where
  row_cut : i < k → row (cornered m k (frame_of n s)) i ≡ cut k m (ltb i m) (λ j. cell (frame_of n s) i j)
  unfolding cornered
  row_cut h = row_tab k (λ i. cut k m (ltb i m) (λ j. cell (frame_of n s) i j)) i h

  pub row_inside :
      m ≤ n → m ≤ k → i < m → (b : ℕ) → byte_of (row (cornered m k (frame_of n s)) i) b ≡ byte_of (word_of m s (i * row_bytes n * 8)) b
  row_inside hn hk hi b =
      byte_of_ext (row (cornered m k (frame_of n s)) i) (word_of m s (i * row_bytes n * 8)) b
      (λ j. ap (λ (w : Word). bit w j) (row_cut (omega arith) ∙ rw (lt-ltb i m hi)) ∙ go j (dec_lt j m))
    where
      go : (j : ℕ) → Dec (j < m) → bit (cut k m true (λ j. cell (frame_of n s) i j)) j ≡ bit (word_of m s (i * row_bytes n * 8)) j
      go j (yes l) =
          let e : i * stride n + j ≡ i * row_bytes n * 8 + j = omega (arith, mul_assoc i (row_bytes n) 8) in
          cut_in k m (λ j. cell (frame_of n s) i j) j hk l
          ∙ frame_of-cell n s i j (omega arith) (omega arith)
          ∙ ap (bit_at s) e
          ∙ sym (word_of-bit m s (i * row_bytes n * 8) j l)
      go j (no l) =
          cut_out k m true (λ j. cell (frame_of n s) i j) j (omega (arith, l))
          ∙ sym (bit_past (word_of m s (i * row_bytes n * 8)) j (omega (arith, l, word_of-length m s (i * row_bytes n * 8))))

  row_past : k ≤ i → row (cornered m k (frame_of n s)) i ≡ []
  unfolding row cornered
  row_past h = tab_past k (λ i. cut k m (ltb i m) (λ j. cell (frame_of n s) i j)) i [] h

  pub row_outside : m ≤ i → (b : ℕ) → byte_of (row (cornered m k (frame_of n s)) i) b ≡ 0
  row_outside hm b = go (dec_lt i k)
    where
      go : Dec (i < k) → byte_of (row (cornered m k (frame_of n s)) i) b ≡ 0
      go (yes hk) =
          byte_of_ext (row (cornered m k (frame_of n s)) i) [] b
          (λ j. ap (λ (w : Word). bit w j) (row_cut hk ∙ rw (le-ltb i m hm)) ∙ cut-none k m (λ j. cell (frame_of n s) i j) j)
          ∙ byte_of-none b
      go (no h) = ap (λ (w : Word). byte_of w b) (row_past (omega (arith, h))) ∙ byte_of-none b

-- a byte of the corner's row i, as a row of any square that holds the corner
pub corner_same :
    (m n k : ℕ) (s : List ℕ) (i b : ℕ) → m ≤ n → m ≤ k
    → byte_of (row (cornered m m (frame_of n s)) i) b ≡ byte_of (row (cornered m k (frame_of n s)) i) b
corner_same m n k s i b hn hk = go (dec_lt i m)
  where
    go : Dec (i < m) → byte_of (row (cornered m m (frame_of n s)) i) b ≡ byte_of (row (cornered m k (frame_of n s)) i) b
    go (yes h) = row_inside m n m s i hn (omega arith) h b ∙ sym (row_inside m n k s i hn hk h b)
    go (no h) = row_outside m n m s i (omega (arith, h)) b ∙ sym (row_outside m n k s i (omega (arith, h)) b)

-- byte p of a square of k rows is byte p % row_bytes k of row p / row_bytes k
abbrev pub split_byte : ℕ → Frame → ℕ → ℕ
split_byte k f p = byte_of (row f (p / row_bytes k)) (p % row_bytes k)

pub row_below : (k p : ℕ) → 1 ≤ k → p < square_bytes k → (p / row_bytes k < k) × (p % row_bytes k < row_bytes k)
row_below k p h l = let pos : 0 < row_bytes k = omega arith in ((div-lt_iff_lt-mul pos).1 l, mod-lt p pos)

-- the corner of a square as large as itself
pub cornered_corner : (k : ℕ) (f : Frame) → cornered k k f ≡ corner k f
unfolding cornered corner
cornered_corner k f =
    tab_ext k (λ i. cut k k (ltb i k) (λ j. cell f i j)) (λ i. tab k (λ j. cell f i j))
    (λ i hi. tab_ext k (λ j. ltb i k && (ltb j k && cell f i j)) (λ j. cell f i j) (λ j hj. rw (lt-ltb i k hi, lt-ltb j k hj)))

-- is the square
pub cornered_whole : (n : ℕ) (f : Frame) → Square n f → cornered n n f ≡ f
cornered_whole n f s =
    cornered_corner n f ∙ square_ext n (corner n f) f (corner_square n f) s (λ i j hi hj. corner_cell n f i j hi hj)

-- ---- spare bits

pub cornered_square : (m n : ℕ) (f : Frame) → Square n (cornered m n f)
unfolding cornered
cornered_square m n f = square_tab n (λ i j. ltb i m && (ltb j m && cell f i j))

-- a frame's own bytes have none set
pub ready : (code : Code) (n : ℕ) (f : Frame) (t : List ℕ) → code.shortest ≤ n → n ≤ code.longest → Square n f → t ≡ bytes_of n f → Ready code n t
ready code n f t lo hi s e = (
  (lo, hi, ap length e ∙ bytes_of-length n f),
  e ∙ sym (ap (bytes_of n) (ap (frame_of n) e ∙ frame_of_bytes n f s)),
)

abbrev whole : ℕ → List ℕ → List ℕ
whole n s = bytes_of n (cornered n n (frame_of n s))

whole_is : (n : ℕ) (s : List ℕ) → whole n s ≡ bytes_of n (frame_of n s)
whole_is n s = ap (bytes_of n) (cornered_whole n (frame_of n s) (frame_of-square n s))

-- no spare bit is set exactly if every byte is what its row's own bits make it
pub packed_tells :
    (n : ℕ) (s : List ℕ) (r : Bool) → length s ≡ square_bytes n → ((p : ℕ) → get_or s p 0 < 256)
    → MatchBool r ((p : ℕ) → p < length s → get_or s p 0 ≡ split_byte n (cornered n n (frame_of n s)) p)
    ((p : ℕ) × (p < length s) × (get_or s p 0 ≢ split_byte n (cornered n n (frame_of n s)) p))
    → r ≡ eqb (spare_ones n s) 0
unfolding bytes_of
packed_tells n s true e b h =
    let all : s ≡ whole n s = written_all (square_bytes n) (split_byte n (cornered n n (frame_of n s))) e (λ p l. h p (omega arith)) in
    sym (eq-eqb (spare_ones n s) 0 (ap (spare_ones n) (all ∙ whole_is n s) ∙ spares_of_bytes n (frame_of n s) (frame_of-square n s)))
packed_tells n s false e b (p, l, h) =
    sym
    (ne_eqb (spare_ones n s) 0
    (λ z.
    h
    (sym (ap (λ (t : List ℕ). get_or t p 0) (whole_is n s ∙ bytes_of_frame n s e b z))
    ∙ tab_at (square_bytes n) (split_byte n (cornered n n (frame_of n s))) p 0 (omega arith))))
