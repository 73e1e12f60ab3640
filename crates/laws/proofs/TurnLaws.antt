-- A frame's words in one of two directions, one after another.
-- Assumes nothing.
use mathlib.Core.Path.{◌≡◌, refl, sym, ap, ◌∙◌}
use mathlib.Core.Logic.{◌≢◌}
use mathlib.Core.Bool.{Bool, true, false, cond}
use mathlib.Core.List.{List, []}
use Prim.Native.Nat.{ℕ, ◌+◌, ◌*◌, ◌-◌, ◌/◌, ◌%◌, ◌≤◌, ◌<◌}
use native.Mathlib.Nat.{mul-one, mul_assoc, mul-le-mul}
use native.Mathlib.Decide.{dec_lt, ℕ_discrete}
use native.Mathlib.Omega.{arith}
use borrow.Author.Tests.{lt-ltb, le-ltb}
use lib.Arith.{digits_lt, digits_div, digits_mod}
use lib.Dec.{eqb, ltb}
use lib.ListN.{length}
use lib.Seq.{ext_get_or}
use Rattle.algebra.specs.Words.{Word}
use Rattle.algebra.proofs.TableLaws.{tab-length}
use Rattle.rules.specs.Codes.{Code, length_limit}
use Rattle.rules.specs.Frames.{Frame, row, cell, Square, bad_rows, bad_columns, is_frame}
use Rattle.rules.specs.Bits.{row_bytes, stride, square_bytes, bit_at, frame_of, bytes_of}
use Rattle.rules.proofs.Laws.CodeLaws.{Sound}
use Rattle.rules.proofs.Laws.Shape.{word_ext, row_tab, bit_past, transposed_square, transposed_cell, transposed_twice, frame_of-square, frame_of-cell}
use Rattle.rules.proofs.Laws.BitLaws.{bytes_ext}
use Rattle.rules.proofs.Laws.PackLaws.{bytes_of-length, bytes_of_byte, bytes_of-bit, frame_of_bytes}
use Rattle.laws.specs.InPlace.{word_at, put, Inside}
use Rattle.laws.specs.Turns.{turned, start_of, step_of, partly, worked, Whole}
use Rattle.laws.proofs.InPlaceLaws.{Bytes, word_at-length, word_at-bit, put-length, put_byte, put_in, put_out}

-- a rule that keeps the length of a word of n bits
abbrev pub Keeps : ℕ → (Word → Word) → Type 0
Keeps n rule = (w : Word) → length w ≡ n → length (rule w) ≡ n

-- ---- turned

pub turned_square : (n : ℕ) (columns : Bool) (f : Frame) → Square n f → Square n (turned n columns f)
unfolding turned
turned_square n true f s = transposed_square n f
turned_square n false f s = s

pub turned_twice : (n : ℕ) (columns : Bool) (f : Frame) → Square n f → turned n columns (turned n columns f) ≡ f
unfolding turned
turned_twice n true f s = transposed_twice n f s
turned_twice n false f s = refl

-- squares are known by their rows
pub rows_ext : (n : ℕ) (f h : Frame) → Square n f → Square n h → ((i : ℕ) → i < n → row f i ≡ row h i) → f ≡ h
unfolding row
rows_ext n f h sf sh e = ext_get_or [] f h (sf.0 ∙ sym sh.0) (λ i l. e i (omega (arith, sf.0)))

-- ---- the first words changed

partly_row :
    (n : ℕ) (rule : Word → Word) (k : ℕ) (f : Frame) (i : ℕ) → i < n
    → row (partly n rule k f) i ≡ cond (ltb i k) (rule (row f i)) (row f i)
unfolding partly
partly_row n rule k f i h = row_tab n (λ i. cond (ltb i k) (rule (row f i)) (row f i)) i h

partly-length : (n : ℕ) (rule : Word → Word) (k : ℕ) (f : Frame) → length (partly n rule k f) ≡ n
unfolding partly
partly-length n rule k f = tab-length n (λ i. cond (ltb i k) (rule (row f i)) (row f i))

partly_square : (n : ℕ) (rule : Word → Word) (k : ℕ) (f : Frame) → Keeps n rule → Square n f → Square n (partly n rule k f)
partly_square n rule k f r s = (
  partly-length n rule k f,
  λ i h. ap length (partly_row n rule k f i h) ∙ go (ltb i k) (row f i) (s.1 i h),
)
  where
    go : (b : Bool) (w : Word) → length w ≡ n → length (cond b (rule w) w) ≡ n
    go true w e = r w e
    go false w e = e

pub worked_square : (n : ℕ) (columns : Bool) (rule : Word → Word) (k : ℕ) (f : Frame) → Keeps n rule → Square n f → Square n (worked n columns rule k f)
worked_square n columns rule k f r s =
    turned_square n columns (partly n rule k (turned n columns f))
    (partly_square n rule k (turned n columns f) r (turned_square n columns f s))

-- word i, by whether its turn has come
pub worked_row :
    (n : ℕ) (columns : Bool) (rule : Word → Word) (k i : ℕ) (f : Frame) → Keeps n rule → Square n f → i < n
    → row (turned n columns (worked n columns rule k f)) i
    ≡ cond (ltb i k) (rule (row (turned n columns f) i)) (row (turned n columns f) i)
worked_row n columns rule k i f r s h =
    ap (λ x. row x i)
    (turned_twice n columns (partly n rule k (turned n columns f))
    (partly_square n rule k (turned n columns f) r (turned_square n columns f s)))
    ∙ partly_row n rule k (turned n columns f) i h

pub worked_done :
    (n : ℕ) (columns : Bool) (rule : Word → Word) (k i : ℕ) (f : Frame) → Keeps n rule → Square n f → i < k → i < n
    → row (turned n columns (worked n columns rule k f)) i ≡ rule (row (turned n columns f) i)
worked_done n columns rule k i f r s h b = worked_row n columns rule k i f r s b ∙ rw (lt-ltb i k h)

-- a word whose turn has not come is as it was
pub worked_later :
    (n : ℕ) (columns : Bool) (rule : Word → Word) (k i : ℕ) (f : Frame) → Keeps n rule → Square n f → k ≤ i → i < n
    → row (turned n columns (worked n columns rule k f)) i ≡ row (turned n columns f) i
worked_later n columns rule k i f r s h b = worked_row n columns rule k i f r s b ∙ rw (le-ltb i k h)

-- nothing is done before the first word
pub worked-none : (n : ℕ) (columns : Bool) (rule : Word → Word) (f : Frame) → Square n f → worked n columns rule 0 f ≡ f
worked-none n columns rule f s =
    ap (turned n columns) (go (turned n columns f) (turned_square n columns f s)) ∙ turned_twice n columns f s
  where
    same : (g : Frame) (i : ℕ) → i < n → row (partly n rule 0 g) i ≡ row g i
    same g i h = partly_row n rule 0 g i h ∙ rw (le-ltb i 0 (omega arith))

    square : (g : Frame) → Square n g → Square n (partly n rule 0 g)
    square g q = (partly-length n rule 0 g, λ i h. ap length (same g i h) ∙ q.1 i h)

    go : (g : Frame) → Square n g → partly n rule 0 g ≡ g
    go g q = rows_ext n (partly n rule 0 g) g (square g q) q (same g)

-- ---- where a word's bits lie

-- as the program computes it, from the bytes of a row
pub start_down : (n : ℕ) (columns : Bool) (k : ℕ) → columns ≡ true → k ≡ start_of n columns k
unfolding start_of
start_down n columns k e = rw e

pub start_across : (n : ℕ) (columns : Bool) (k w : ℕ) → columns ≡ false → w ≡ row_bytes n → k * (w * 8) ≡ start_of n columns k
unfolding start_of
start_across n columns k w e h = rw (e, h)

pub step_down : (n : ℕ) (columns : Bool) (w : ℕ) → columns ≡ true → w ≡ row_bytes n → w * 8 ≡ step_of n columns
unfolding step_of
step_down n columns w e h = rw (e, h)

pub step_across : (n : ℕ) (columns : Bool) → columns ≡ false → 1 ≡ step_of n columns
unfolding step_of
step_across n columns e = rw e

-- bit j of word k, as a bit of a row
across : (n k j : ℕ) → start_of n false k + j * step_of n false ≡ k * stride n + j
unfolding start_of step_of
across n k j = omega (arith, mul-one j)

down : (n k j : ℕ) → start_of n true k + j * step_of n true ≡ j * stride n + k
unfolding start_of step_of
down n k j = omega arith

-- a place names its row and its bit
digits_same : (w a b c d : ℕ) → b < w → d < w → a * w + b ≡ c * w + d → (a ≡ c) × (b ≡ d)
digits_same w a b c d hb hd e = (
  sym (digits_div a hb) ∙ ap (λ (x : ℕ). x / w) e ∙ digits_div c hd,
  sym (digits_mod a hb) ∙ ap (λ (x : ℕ). x % w) e ∙ digits_mod c hd,
)

-- two words have no place in common
words_apart :
    (n : ℕ) (columns : Bool) (i k j e : ℕ) → i < n → k < n → j < n → e < n → i ≢ k
    → start_of n columns i + j * step_of n columns ≢ start_of n columns k + e * step_of n columns
words_apart n true i k j e hi hk hj he h q =
    h (digits_same (stride n) j i e k (omega arith) (omega arith) (sym (down n i j) ∙ q ∙ down n k e)).1
words_apart n false i k j e hi hk hj he h q =
    h (digits_same (stride n) i j k e (omega arith) (omega arith) (sym (across n i j) ∙ q ∙ across n k e)).0

-- and none is a spare bit
spare_apart :
    (n : ℕ) (columns : Bool) (i j k e : ℕ) → n ≤ j → j < stride n → k < n → e < n
    → i * stride n + j ≢ start_of n columns k + e * step_of n columns
spare_apart n true i j k e lo hi hk he q =
    absurd (omega (arith, (digits_same (stride n) i j e k hi (omega arith) (q ∙ down n k e)).1))
spare_apart n false i j k e lo hi hk he q =
    absurd (omega (arith, (digits_same (stride n) i j k e hi (omega arith) (q ∙ across n k e)).1))

-- a word's bits lie in the buffer
place_inside :
    (n : ℕ) (s : List ℕ) (columns : Bool) (k j : ℕ) → length s ≡ square_bytes n → k < n → j < n
    → start_of n columns k + j * step_of n columns < length s * 8
place_inside n s true k j e hk hj =
    let b : j * stride n + k < n * stride n = digits_lt hj (omega arith) in
    omega (arith, down n k j, mul_assoc n (row_bytes n) 8)
place_inside n s false k j e hk hj =
    let b : k * stride n + j < n * stride n = digits_lt hk (omega arith) in
    omega (arith, across n k j, mul_assoc n (row_bytes n) 8)

step-some : (n : ℕ) (columns : Bool) → 1 ≤ n → 1 ≤ step_of n columns
unfolding step_of
step-some n true h = omega arith
step-some n false h = omega arith

-- a word lies inside a buffer of a frame's size
pub word_inside : (code : Code) (ok : Sound code) (n : ℕ) (s : List ℕ) (columns : Bool) (k : ℕ) → Whole code n s → k < n → Inside code n s (start_of n columns k) (step_of n columns)
word_inside code ok n s columns k w h =
    let l : n ≤ length_limit = omega (arith, w.1, ok.not_long_lem) in
    let r : row_bytes n ≤ row_bytes length_limit = omega arith in
    let m : n * row_bytes n ≤ length_limit * row_bytes length_limit = mul-le-mul l r in (
      w.0,
      w.1,
      omega (arith, w.2),
      step-some n columns (omega (arith, h)),
      place_inside n s columns k (n - 1) w.2 h (omega arith),
    )

turned_cell :
    (n : ℕ) (s : List ℕ) (columns : Bool) (k j : ℕ) → k < n → j < n
    → cell (turned n columns (frame_of n s)) k j ≡ bit_at s (start_of n columns k + j * step_of n columns)
unfolding turned
turned_cell n s true k j hk hj =
    transposed_cell n (frame_of n s) k j hk hj ∙ frame_of-cell n s j k hj hk ∙ ap (bit_at s) (sym (down n k j))
turned_cell n s false k j hk hj = frame_of-cell n s k j hk hj ∙ ap (bit_at s) (sym (across n k j))

-- and is that word of the frame
pub word_there :
    (n : ℕ) (s : List ℕ) (columns : Bool) (k : ℕ) → k < n
    → word_at n s (start_of n columns k) (step_of n columns) ≡ row (turned n columns (frame_of n s)) k
word_there n s columns k h =
    word_ext n (word_at n s (start_of n columns k) (step_of n columns)) (row (turned n columns (frame_of n s)) k)
    (word_at-length n s (start_of n columns k) (step_of n columns))
    ((turned_square n columns (frame_of n s) (frame_of-square n s)).1 k h)
    (λ j l. word_at-bit n s (start_of n columns k) (step_of n columns) j l ∙ sym (turned_cell n s columns k j h l))

-- ---- a word put in place

-- bytes whose spare bits are zero are their frame's
pub packed_frame :
    (n : ℕ) (s : List ℕ) → length s ≡ square_bytes n → Bytes s
    → ((i j : ℕ) → i < n → n ≤ j → j < stride n → bit_at s (i * stride n + j) ≡ false) → s ≡ bytes_of n (frame_of n s)
packed_frame n s e b z =
    bytes_ext n (row_bytes n) s (bytes_of n (frame_of n s)) e (bytes_of-length n (frame_of n s)) b (bytes_of_byte n (frame_of n s))
    (λ i j hi hj. go i j hi hj (dec_lt j n) ∙ sym (bytes_of-bit n (frame_of n s) i j hi hj))
  where
    go : (i j : ℕ) → i < n → j < stride n → Dec (j < n) → bit_at s (i * stride n + j) ≡ cell (frame_of n s) i j
    go i j hi hj (yes h) = sym (frame_of-cell n s i j hi h)
    go i j hi hj (no h) =
        z i j hi (omega (arith, h)) hj ∙ sym (bit_past (row (frame_of n s) i) j (omega (arith, (frame_of-square n s).1 i hi, h)))

module _
    (n : ℕ) (s : List ℕ) (columns : Bool) (k : ℕ) (u : Word) (some : 1 ≤ n) (long : length s ≡ square_bytes n) (h : k < n)
  where
    abbrev put_word : List ℕ
    put_word = put n s (start_of n columns k) (step_of n columns) u

    put_here : length u ≡ n → row (turned n columns (frame_of n put_word)) k ≡ u
    put_here l =
        word_ext n (row (turned n columns (frame_of n put_word)) k) u
        ((turned_square n columns (frame_of n put_word) (frame_of-square n put_word)).1 k h) l
        (λ j b.
        turned_cell n put_word columns k j h b
        ∙ put_in n s (start_of n columns k) (step_of n columns) u j (step-some n columns some) b
        (place_inside n s columns k j long h b))

    put_there : (i : ℕ) → i < n → i ≢ k → row (turned n columns (frame_of n put_word)) i ≡ row (turned n columns (frame_of n s)) i
    put_there i hi d =
        word_ext n (row (turned n columns (frame_of n put_word)) i) (row (turned n columns (frame_of n s)) i)
        ((turned_square n columns (frame_of n put_word) (frame_of-square n put_word)).1 i hi)
        ((turned_square n columns (frame_of n s) (frame_of-square n s)).1 i hi)
        (λ j b.
        turned_cell n put_word columns i j hi b
        ∙ put_out n s (start_of n columns k) (step_of n columns) u (start_of n columns i + j * step_of n columns)
        (λ e he. words_apart n columns i k j e hi h b he d)
        ∙ sym (turned_cell n s columns i j hi b))

    put_spare : (i j : ℕ) → n ≤ j → j < stride n → bit_at put_word (i * stride n + j) ≡ bit_at s (i * stride n + j)
    put_spare i j lo hi =
        put_out n s (start_of n columns k) (step_of n columns) u (i * stride n + j) (λ e he. spare_apart n columns i j k e lo hi h he)

-- the next word put in place
pub put_worked :
    (code : Code) (n : ℕ) (s : List ℕ) (columns : Bool) (rule : Word → Word) (k : ℕ) (f : Frame) → Keeps n rule → Square n f → Whole code n s → k < n
    → s ≡ bytes_of n (worked n columns rule k f)
    → put n s (start_of n columns k) (step_of n columns) (rule (row (turned n columns f) k)) ≡ bytes_of n (worked n columns rule (k + 1) f)
put_worked code n s columns rule k f r q w h e = packed ∙ ap (bytes_of n) framed
  where
    some : 1 ≤ n
    some = omega (arith, h)

    u : Word
    u = rule (row (turned n columns f) k)

    long : length u ≡ n
    long = r (row (turned n columns f) k) ((turned_square n columns f q).1 k h)

    t : List ℕ
    t = put n s (start_of n columns k) (step_of n columns) u

    before : Frame
    before = worked n columns rule k f

    later : Frame
    later = worked n columns rule (k + 1) f

    framed_before : frame_of n s ≡ before
    framed_before = ap (frame_of n) e ∙ frame_of_bytes n before (worked_square n columns rule k f r q)

    bytes : Bytes s
    bytes p = rw e (bytes_of_byte n before p)

    spare : (i j : ℕ) → i < n → n ≤ j → j < stride n → bit_at s (i * stride n + j) ≡ false
    spare i j hi lo hj =
        ap (λ x. bit_at x (i * stride n + j)) e
        ∙ bytes_of-bit n before i j hi hj
        ∙ bit_past (row before i) j (omega (arith, (worked_square n columns rule k f r q).1 i hi))

    packed : t ≡ bytes_of n (frame_of n t)
    packed =
        packed_frame n t (put-length n s (start_of n columns k) (step_of n columns) u ∙ w.2)
        (put_byte n s (start_of n columns k) (step_of n columns) u bytes)
        (λ i j hi lo hj. put_spare n s columns k u some w.2 h i j lo hj ∙ spare i j hi lo hj)

    turn : (i : ℕ) → i ≢ k → Dec (i < k) → ltb i k ≡ ltb i (k + 1)
    turn i p (yes l) = lt-ltb i k l ∙ sym (lt-ltb i (k + 1) (omega arith))
    turn i p (no l) = le-ltb i k (omega (arith, l)) ∙ sym (le-ltb i (k + 1) (omega (arith, l, p)))

    same : (i : ℕ) → i < n → Dec (i ≡ k) → row (turned n columns (frame_of n t)) i ≡ row (turned n columns later) i
    same i hi (yes p) =
        rw p (put_here n s columns k u some w.2 h long ∙ sym (worked_done n columns rule (k + 1) k f r q (omega arith) h))
    same i hi (no p) =
        put_there n s columns k u some w.2 h i hi p
        ∙ ap (λ x. row (turned n columns x) i) framed_before
        ∙ worked_row n columns rule k i f r q hi
        ∙ ap (λ b. cond b (rule (row (turned n columns f) i)) (row (turned n columns f) i)) (turn i p (dec_lt i k))
        ∙ sym (worked_row n columns rule (k + 1) i f r q hi)

    framed : frame_of n t ≡ later
    framed =
        sym (turned_twice n columns (frame_of n t) (frame_of-square n t))
        ∙ ap (turned n columns)
        (rows_ext n (turned n columns (frame_of n t)) (turned n columns later)
        (turned_square n columns (frame_of n t) (frame_of-square n t))
        (turned_square n columns later (worked_square n columns rule (k + 1) f r q))
        (λ i hi. same i hi (ℕ_discrete i k)))
        ∙ turned_twice n columns later (worked_square n columns rule (k + 1) f r q)

-- whether any word in either direction is not a codeword
pub frame_counted :
    (code : Code) (n : ℕ) (f : Frame) (a b : ℕ) → a ≡ bad_rows code n (turned n false f) → b ≡ bad_rows code n (turned n true f) → is_frame code n f ≡ eqb (a + b) 0
unfolding is_frame bad_columns turned
frame_counted code n f a b ha hb = rw (ha, hb)
