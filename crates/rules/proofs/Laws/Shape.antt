-- Squares of bits: known by their cells, and read where a rule made them.
-- Assumes nothing.
use mathlib.Core.Path.{◌≡◌, sym, ap, ◌∙◌}
use mathlib.Core.Bool.{Bool, false}
use mathlib.Core.List.{List, []}
use Prim.Native.Nat.{ℕ, ◌+◌, ◌*◌, ◌≤◌, ◌<◌}
use native.Mathlib.Omega.{arith}
use lib.ListN.{length, get_or, take, get_or-eq_default}
use lib.Seq.{ext_get_or, length-take-le, get_or-take}
use Rattle.algebra.specs.Tables.{tab}
use Rattle.algebra.specs.Words.{Word, bit}
use Rattle.algebra.proofs.TableLaws.{tab-length, tab_at}
use Rattle.rules.specs.Frames.{Frame, row, cell, transposed, corner}
pub use Rattle.rules.specs.Frames.{Square}
use Rattle.rules.specs.Bits.{stride, bit_at, word_of, frame_of}

-- ---- known by their bits

pub word_ext : (n : ℕ) (w u : Word) → length w ≡ n → length u ≡ n → ((j : ℕ) → j < n → bit w j ≡ bit u j) → w ≡ u
unfolding bit
word_ext n w u hw hu h = ext_get_or false w u (hw ∙ sym hu) (λ j hj. h j (omega arith))

pub square_ext : (n : ℕ) (f h : Frame) → Square n f → Square n h → ((i j : ℕ) → i < n → j < n → cell f i j ≡ cell h i j) → f ≡ h
unfolding row
square_ext n f h sf sh e =
    ext_get_or [] f h (sf.0 ∙ sym sh.0)
    (λ i hi. let hn : i < n = omega (arith, sf.0) in word_ext n (get_or f i []) (get_or h i []) (sf.1 i hn) (sh.1 i hn) (λ j hj. e i j hn hj))

pub bit_past : (w : Word) (j : ℕ) → length w ≤ j → bit w j ≡ false
unfolding bit
bit_past w j h = get_or-eq_default w false h

-- ---- made by a rule

pub bit_tab : (n : ℕ) (p : ℕ → Bool) (j : ℕ) → j < n → bit (tab n p) j ≡ p j
unfolding bit
bit_tab n p j h = tab_at n p j false h

-- the first m bits of a word made by a rule
pub take-tab : (m n : ℕ) (p : ℕ → Bool) → m ≤ n → take m (tab n p) ≡ tab m p
unfolding bit
take-tab m n p h =
    word_ext m (take m (tab n p)) (tab m p) (length-take-le m (tab n p) (omega (arith, tab-length n p))) (tab-length m p)
    (λ j hj. get_or-take m (tab n p) j false hj ∙ bit_tab n p j (omega arith) ∙ sym (bit_tab m p j hj))

pub row_tab : (n : ℕ) (r : ℕ → Word) (i : ℕ) → i < n → row (tab n r) i ≡ r i
unfolding row
row_tab n r i h = tab_at n r i [] h

pub square_tab : (n : ℕ) (c : ℕ → ℕ → Bool) → Square n (tab n (λ i. tab n (λ j. c i j)))
square_tab n c = (
  tab-length n (λ i. tab n (λ j. c i j)),
  λ i h. ap length (row_tab n (λ i. tab n (λ j. c i j)) i h) ∙ tab-length n (λ j. c i j),
)

pub cell_tab : (n : ℕ) (c : ℕ → ℕ → Bool) (i j : ℕ) → i < n → j < n → cell (tab n (λ i. tab n (λ j. c i j))) i j ≡ c i j
cell_tab n c i j hi hj =
    ap (λ (w : Word). bit w j) (row_tab n (λ i. tab n (λ j. c i j)) i hi) ∙ bit_tab n (λ j. c i j) j hj

-- ---- transposed

pub transposed_square : (n : ℕ) (f : Frame) → Square n (transposed n f)
unfolding transposed
transposed_square n f = square_tab n (λ j i. cell f i j)

pub transposed_cell : (n : ℕ) (f : Frame) (i j : ℕ) → i < n → j < n → cell (transposed n f) i j ≡ cell f j i
unfolding transposed
transposed_cell n f i j hi hj = cell_tab n (λ j i. cell f i j) i j hi hj

-- column i as a word
pub transposed_row : (n : ℕ) (f : Frame) (i : ℕ) → i < n → row (transposed n f) i ≡ tab n (λ j. cell f j i)
unfolding transposed
transposed_row n f i h = row_tab n (λ j. tab n (λ i. cell f i j)) i h

pub transposed_twice : (n : ℕ) (f : Frame) → Square n f → transposed n (transposed n f) ≡ f
transposed_twice n f s =
    square_ext n (transposed n (transposed n f)) f (transposed_square n (transposed n f)) s
    (λ i j hi hj. transposed_cell n (transposed n f) i j hi hj ∙ transposed_cell n f j i hj hi)

-- ---- corner

pub corner_square : (k : ℕ) (f : Frame) → Square k (corner k f)
unfolding corner
corner_square k f = square_tab k (λ i j. cell f i j)

pub corner_cell : (k : ℕ) (f : Frame) (i j : ℕ) → i < k → j < k → cell (corner k f) i j ≡ cell f i j
unfolding corner
corner_cell k f i j hi hj = cell_tab k (λ i j. cell f i j) i j hi hj

-- ---- read from bytes

pub frame_of-square : (n : ℕ) (s : List ℕ) → Square n (frame_of n s)
unfolding frame_of word_of
frame_of-square n s = square_tab n (λ i j. bit_at s (i * stride n + j))

pub frame_of-row : (n : ℕ) (s : List ℕ) (i : ℕ) → i < n → row (frame_of n s) i ≡ word_of n s (i * stride n)
unfolding frame_of
frame_of-row n s i h = row_tab n (λ i. word_of n s (i * stride n)) i h

pub frame_of-cell : (n : ℕ) (s : List ℕ) (i j : ℕ) → i < n → j < n → cell (frame_of n s) i j ≡ bit_at s (i * stride n + j)
unfolding frame_of word_of
frame_of-cell n s i j hi hj = cell_tab n (λ i j. bit_at s (i * stride n + j)) i j hi hj

pub word_of-length : (n : ℕ) (s : List ℕ) (start : ℕ) → length (word_of n s start) ≡ n
unfolding word_of
word_of-length n s start = tab-length n (λ j. bit_at s (start + j))

pub word_of-bit : (n : ℕ) (s : List ℕ) (start j : ℕ) → j < n → bit (word_of n s start) j ≡ bit_at s (start + j)
unfolding word_of
word_of-bit n s start j h = bit_tab n (λ j. bit_at s (start + j)) j h
