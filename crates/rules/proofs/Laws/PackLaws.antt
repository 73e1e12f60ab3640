-- Frames and words written as bytes and read back, and bytes read as a frame and written back.
-- Assumes nothing.
use mathlib.Core.Path.{◌≡◌, sym, ap, ◌∙◌}
use mathlib.Core.Logic.{◌≢◌}
use mathlib.Core.Bool.{true, false}
use mathlib.Core.List.{List}
use Prim.Native.Nat.{ℕ, ◌+◌, ◌*◌, ◌-◌, ◌/◌, ◌%◌, ◌^◌, ◌≤◌, ◌<◌}
use native.Mathlib.Nat.{mul_assoc}
use native.Mathlib.Decide.{dec_lt}
use native.Mathlib.Omega.{arith}
use lib.Arith.{digits_lt, digits_div, digits_mod}
use lib.ListN.{length, get_or}
use Rattle.algebra.specs.Tables.{tab, count}
use Rattle.algebra.specs.Words.{Word, bit}
use Rattle.algebra.specs.Remainder.{is_odd}
use Rattle.algebra.proofs.TableLaws.{tab-length, tab_at, tab_past, total-zero, zero-total, total-some, count-zero, zero-count, count-some}
use Rattle.rules.specs.Frames.{Frame, row, cell}
use Rattle.rules.specs.Bits.{row_bytes, stride, square_bytes, bit_at, frame_of, byte_of, word_bytes, bytes_of, spare_ones}
use Rattle.rules.proofs.Laws.Shape.{Square, square_ext, bit_past, frame_of-square, frame_of-cell}
use Rattle.rules.proofs.Laws.BitLaws.{bytes_ext, byte_of-lt, byte_of_digit, bit_at_split}

-- entry by entry below k, and so past the end
tab-lt : (m : ℕ) (f : ℕ → ℕ) (k : ℕ) → ((i : ℕ) → f i < k) → (p : ℕ) → get_or (tab m f) p 0 < k
tab-lt m f k h p = go (dec_lt p m)
  where
    go : Dec (p < m) → get_or (tab m f) p 0 < k
    go (yes i) = omega (arith, tab_at m f p 0 i, h p)
    go (no i) = omega (arith, tab_past m f p 0 (omega (arith, i)), h p)

-- the bits of a list whose r bytes from place a on are a word's
bits_of :
    (s : List ℕ) (w : Word) (a r : ℕ) → ((b : ℕ) → b < r → get_or s (a + b) 0 ≡ byte_of w b)
    → (j : ℕ) → j < r * 8 → bit_at s (a * 8 + j) ≡ bit w j
bits_of s w a r h j hj =
    let p : a * 8 + j ≡ (a + j / 8) * 8 + j % 8 = omega arith in
    let q : j / 8 * 8 + j % 8 ≡ j = omega arith in
    ap (bit_at s) p
    ∙ bit_at_split s (a + j / 8) (j % 8) (omega arith)
    ∙ ap (λ (x : ℕ). is_odd (x / 2 ^ (7 - j % 8))) (h (j / 8) (omega arith))
    ∙ byte_of_digit w (j / 8) (j % 8) (omega arith)
    ∙ ap (bit w) q

-- ---- a word

pub word_bytes-length : (n : ℕ) (w : Word) → length (word_bytes n w) ≡ row_bytes n
unfolding word_bytes
word_bytes-length n w = tab-length (row_bytes n) (λ b. byte_of w b)

pub word_bytes_at : (n : ℕ) (w : Word) (b : ℕ) → b < row_bytes n → get_or (word_bytes n w) b 0 ≡ byte_of w b
unfolding word_bytes
word_bytes_at n w b h = tab_at (row_bytes n) (λ b. byte_of w b) b 0 h

pub word_bytes_byte : (n : ℕ) (w : Word) (p : ℕ) → get_or (word_bytes n w) p 0 < 256
unfolding word_bytes
word_bytes_byte n w p = tab-lt (row_bytes n) (λ b. byte_of w b) 256 (λ b. byte_of-lt w b) p

-- at spare bits too: past a word's end its bits are false
pub word_bytes-bit : (n : ℕ) (w : Word) (j : ℕ) → j < stride n → bit_at (word_bytes n w) j ≡ bit w j
word_bytes-bit n w j h =
    let e : 0 * 8 + j ≡ j = omega arith in
    rw e at (bits_of (word_bytes n w) w 0 (row_bytes n) (λ b hb. let z : 0 + b ≡ b = omega arith in rw z (word_bytes_at n w b hb)) j h)

-- ---- a frame

pub bytes_of-length : (n : ℕ) (f : Frame) → length (bytes_of n f) ≡ square_bytes n
unfolding bytes_of
bytes_of-length n f = tab-length (square_bytes n) (λ b. byte_of (row f (b / row_bytes n)) (b % row_bytes n))

pub bytes_of_byte : (n : ℕ) (f : Frame) (p : ℕ) → get_or (bytes_of n f) p 0 < 256
unfolding bytes_of
bytes_of_byte n f p =
    tab-lt (square_bytes n) (λ b. byte_of (row f (b / row_bytes n)) (b % row_bytes n)) 256
    (λ b. byte_of-lt (row f (b / row_bytes n)) (b % row_bytes n)) p

pub bytes_of_at : (n : ℕ) (f : Frame) (i b : ℕ) → i < n → b < row_bytes n → get_or (bytes_of n f) (i * row_bytes n + b) 0 ≡ byte_of (row f i) b
unfolding bytes_of
bytes_of_at n f i b hi hb =
    tab_at (square_bytes n) (λ b. byte_of (row f (b / row_bytes n)) (b % row_bytes n)) (i * row_bytes n + b) 0 (digits_lt hi hb)
    ∙ rw (digits_div i hb, digits_mod i hb)

-- at spare bits too, as for a word
pub bytes_of-bit : (n : ℕ) (f : Frame) (i j : ℕ) → i < n → j < stride n → bit_at (bytes_of n f) (i * stride n + j) ≡ bit (row f i) j
bytes_of-bit n f i j hi hj =
    let e : i * row_bytes n * 8 + j ≡ i * stride n + j = omega (arith, mul_assoc i (row_bytes n) 8) in
    rw e at (bits_of (bytes_of n f) (row f i) (i * row_bytes n) (row_bytes n) (λ b hb. bytes_of_at n f i b hi hb) j hj)

pub frame_of_bytes : (n : ℕ) (f : Frame) → Square n f → frame_of n (bytes_of n f) ≡ f
frame_of_bytes n f s =
    square_ext n (frame_of n (bytes_of n f)) f (frame_of-square n (bytes_of n f)) s
    (λ i j hi hj. frame_of-cell n (bytes_of n f) i j hi hj ∙ bytes_of-bit n f i j hi (omega arith))

-- ---- spare bits

pub spares_of_bytes : (n : ℕ) (f : Frame) → Square n f → spare_ones n (bytes_of n f) ≡ 0
unfolding spare_ones
spares_of_bytes n f s =
    zero-total n (λ i. count (stride n - n) (λ j. bit_at (bytes_of n f) (i * stride n + n + j)))
    (λ i hi. zero-count (stride n - n) (λ j. bit_at (bytes_of n f) (i * stride n + n + j))
    (λ j hj.
    let e : i * stride n + n + j ≡ i * stride n + (n + j) = omega arith in
    ap (bit_at (bytes_of n f)) e ∙ bytes_of-bit n f i (n + j) hi (omega arith) ∙ bit_past (row f i) (n + j) (omega (arith, s.1 i hi))))

pub spare_zero : (n : ℕ) (s : List ℕ) → spare_ones n s ≡ 0 → (i j : ℕ) → i < n → n ≤ j → j < stride n → bit_at s (i * stride n + j) ≡ false
unfolding spare_ones
spare_zero n s z i j hi lo hi' =
    let e : i * stride n + j ≡ i * stride n + n + (j - n) = omega arith in
    ap (bit_at s) e
    ∙ count-zero (stride n - n) (λ j. bit_at s (i * stride n + n + j))
    (total-zero n (λ i. count (stride n - n) (λ j. bit_at s (i * stride n + n + j))) z i hi) (j - n) (omega arith)

pub spare_some :
    (n : ℕ) (s : List ℕ) → spare_ones n s ≢ 0
    → (i : ℕ) × (j : ℕ) × (i < n) × (n ≤ j) × (j < stride n) × (bit_at s (i * stride n + j) ≡ true)
unfolding spare_ones
spare_some n s h =
    let t = total-some n (λ i. count (stride n - n) (λ j. bit_at s (i * stride n + n + j))) h in
    let i : ℕ = t.0 in
    let c = count-some (stride n - n) (λ j. bit_at s (i * stride n + n + j)) t.2 in
    let j : ℕ = n + c.0 in
    let e : i * stride n + j ≡ i * stride n + n + c.0 = omega arith in
    (i, j, t.1, omega arith, omega (arith, c.1), ap (bit_at s) e ∙ c.2)

-- frames that agree in all code bits are read alike
pub spare_free :
    (n : ℕ) (s t : List ℕ)
    → ((i j : ℕ) → i < n → j < n → bit_at s (i * stride n + j) ≡ bit_at t (i * stride n + j)) → frame_of n s ≡ frame_of n t
spare_free n s t h =
    square_ext n (frame_of n s) (frame_of n t) (frame_of-square n s) (frame_of-square n t)
    (λ i j hi hj. frame_of-cell n s i j hi hj ∙ h i j hi hj ∙ sym (frame_of-cell n t i j hi hj))

-- bytes without set spare bits are what their frame is written as
pub bytes_of_frame : (n : ℕ) (s : List ℕ) → length s ≡ square_bytes n → ((p : ℕ) → get_or s p 0 < 256) → spare_ones n s ≡ 0 → bytes_of n (frame_of n s) ≡ s
bytes_of_frame n s e b z =
    bytes_ext n (row_bytes n) (bytes_of n (frame_of n s)) s (bytes_of-length n (frame_of n s)) e (bytes_of_byte n (frame_of n s)) b
    (λ i j hi hj. bytes_of-bit n (frame_of n s) i j hi hj ∙ go i j hi hj (dec_lt j n))
  where
    go : (i j : ℕ) → i < n → j < stride n → Dec (j < n) → cell (frame_of n s) i j ≡ bit_at s (i * stride n + j)
    go i j hi hj (yes h) = frame_of-cell n s i j hi h
    go i j hi hj (no h) =
        bit_past (row (frame_of n s) i) j (omega (arith, (frame_of-square n s).1 i hi, h))
        ∙ sym (spare_zero n s z i j hi (omega (arith, h)) hj)
