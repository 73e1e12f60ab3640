-- RULES 10: the dump that is written, with an example, and what each line of the factory's data gives.
-- Assumes nothing.
use mathlib.Core.Path.{◌≡◌, refl, sym, ap, ◌∙◌}
use mathlib.Core.Logic.{◌≢◌}
use mathlib.Core.Bool.{Bool, true, false, not}
use mathlib.Core.List.{List, [], ◌∷◌, ◌++◌, append_assoc}
use Prim.Native.Nat.{ℕ, zero, suc, ◌+◌, ◌*◌, ◌/◌, ◌%◌, ◌^◌, ◌≤◌, ◌<◌}
use native.Mathlib.Nat.{mul-le-mul}
use native.Mathlib.Omega.{arith}
use lib.Dec.{leb→le, eqb}
use lib.ListN.{length, get_or, length-append, length-replicate}
use Rattle.algebra.specs.Sums.{All, AllN}
use Rattle.algebra.specs.Tables.{tab}
use Rattle.rules.specs.Codes.{small_code, data_bits}
use Rattle.rules.specs.Words.{is_in}
use Rattle.rules.specs.Frames.{is_erased}
use Rattle.rules.specs.Bits.{row_bytes, spare_ones}
use Rattle.rules.specs.Numbers.{pick, outside, not_long, frame_bytes, data_bytes, frame_for, encode_number, encode_output}
use Rattle.rules.proofs.Laws.OneOfLaws.{OneOf, all_in, one_of_range}
use Rattle.rules.proofs.Laws.NumberLaws.{equal_test, at_zero, at_other, at_either}
use Rattle.rules.proofs.Laws.SmallCode.{sound_small}
use Rattle.rules.proofs.Promises.RoundTrip.{Trip, round_trips}
use Rattle.textrules.specs.Text.{Text, ascii, lines, every, digits, decimal, hex_digit, hex_text}
use Rattle.textrules.specs.Programs.{output, output_cut}
use Rattle.textrules.specs.Dump.{longest_line}
use Rattle.textrules.specs.Factory.{DataLine, bad_data, some_data, data_of, given_allowance, frame_line, refused_line, blank_frame, encoded_text, given_text, data_text, writer}
use Rattle.textrules.proofs.Laws.Computing.{computing}
use Rattle.textrules.proofs.Laws.TextLaws.{decimal_short}
use Rattle.textrules.proofs.Promises.DataRecords.{NumberShort, short_number}
use Rattle.textrules.proofs.Promises.Lines.{NoLF, joined_lines}
use Rattle.textrules.proofs.Promises.Outputs.{joined_texts, outputs, one_lf, decimal_no_lf, quoted_no_lf}
use Rattle.textrules.proofs.Laws.DigitFormLaws.{hex_length}

-- ---- The statement

-- no data, one bit, a spare bit, n = 17, a byte too many, and an empty line. Row i of the second frame is B7 B1 C0 where bit i of
-- these is one
abbrev pub WrittenExample : Type 0
WrittenExample =
    output writer (
    ascii "data\t1\n"
    ++ ascii "10\t18\t00\n"
    ++ ascii "21\t18\t80\n"
    ++ ascii "32\t18\t40\n"
    ++ ascii "43\t17\t00\n"
    ++ ascii "54\t18\t0000\n"
    ++ ascii "\n"
    )
    ≡ ascii "frames\t1\n"
    ++ ascii "10\t18\t8\t000000000000000000000000000000000000000000000000000000000000000000000000000000000000000000000000000000000000\n"
    ++ ascii "21\t18\t8\tB7B1C0000000B7B1C0B7B1C0000000B7B1C0B7B1C0B7B1C0B7B1C0000000B7B1C0B7B1C0000000000000000000B7B1C0B7B1C0B7B1C0\n"
    ++ ascii "!\t32\t5\n"
    ++ ascii "!\t43\t1\n"
    ++ ascii "!\t54\t2\n"
    ++ ascii "?\t7\n"

-- what is promised of the dump
pub record Written : Type 0 where
  pub example : WrittenExample
  -- under its own first line the dump has what each line gives; the line at index i after the header is line i + 2
  pub numbered :
      (input : Text) (later : List Text) → lines input ≡ ascii "data\t1" ∷ later
      → output writer input ≡ ascii "frames\t1\n" ++ joined_texts (tab (length later) (λ i. data_text (i + 2) (data_of (get_or later i []))))
  -- with another first line, or none, it is one line
  pub bad_header_lem :
      (input first : Text) (later : List Text) → lines input ≡ first ∷ later → first ≢ ascii "data\t1"
      → output writer input ≡ ascii "bad header\n"
  pub no_header : (input : Text) → lines input ≡ [] → output writer input ≡ ascii "bad header\n"
  -- of an input that broke off, the lines that an LF closed give what an input of these alone would; with none, nothing is given
  pub cut :
      (l : Text) (ls : List Text) (rest : Text) → All NoLF (l ∷ ls) → NoLF rest
      → output_cut writer (joined_lines (l ∷ ls) ++ rest) ≡ output writer (joined_lines (l ∷ ls))
  pub cut_first : (rest : Text) → NoLF rest → output_cut writer rest ≡ []
  -- a bad line gives its number
  pub bad_line_lem : (k : ℕ) → data_text k bad_data ≡ ascii "?\t" ++ decimal k ++ ascii "\n"
  -- data that encoding accepts give their frame
  pub accepted_line :
      (k number n : ℕ) (message : List ℕ) → encode_number small_code n message (blank_frame n) ≡ 0
      → data_text k (some_data number n message)
      ≡ decimal number ++ ascii "\t" ++ decimal n ++ ascii "\t8\t" ++ hex_text (encode_output small_code n message (blank_frame n)) ++ ascii "\n"
  -- others the number of the refusal
  pub refused_line_lem :
      (k number n r : ℕ) (message : List ℕ) → r ≢ 0 → encode_number small_code n message (blank_frame n) ≡ r
      → data_text k (some_data number n message) ≡ ascii "!\t" ++ decimal number ++ ascii "\t" ++ decimal r ++ ascii "\n"
  -- number 3 does not come: the buffer lent is as long as the frame
  pub refusals : (n : ℕ) (message : List ℕ) → OneOf (encode_number small_code n message (blank_frame n)) (0 ∷ 1 ∷ 2 ∷ 5 ∷ 10 ∷ [])
  -- nothing depends on what the buffer lent holds
  pub any_buffer :
      (n : ℕ) (message out : List ℕ) → length out ≡ frame_bytes n
      → (encode_number small_code n message out ≡ encode_number small_code n message (blank_frame n))
      × (encode_number small_code n message (blank_frame n) ≡ 0
      → encode_output small_code n message out ≡ encode_output small_code n message (blank_frame n))
  -- nor, where n is out of range, on its length
  pub any_length :
      (n : ℕ) (message out : List ℕ) → outside small_code n ≡ true
      → (encode_number small_code n message out ≡ 1) × (encode_number small_code n message (blank_frame n) ≡ 1)
  -- each line gives one line, closed by LF
  pub one_line : (k : ℕ) (l : DataLine) → (t : Text) × NoLF t × (data_text k l ≡ t ++ ascii "\n")
  -- of at most 9 + 1 + 3 + 1 + 1 + 1 + 16384 characters besides, whatever the line, and the program that reports has room for those
  pub short : (k : ℕ) (s : Text) → k < 2 ^ 64 → length (data_text k (data_of s)) ≤ suc 16400
  pub room : 16400 ≤ longest_line
  -- the number itself
  pub allowance : given_allowance ≡ 8

-- ---- The example: antt computes it

written_shown : WrittenExample
unfolding computing
written_shown = refl

-- ---- the buffer lent

-- the number of the encoding, from whether the buffer has another length than the frame
number_by : ℕ → List ℕ → Bool → ℕ
number_by n message b =
    pick (outside small_code n) 1
    (pick (not_long message (data_bytes small_code n)) 2
    (pick b 3 (pick (not (eqb (spare_ones (data_bits small_code n) message) 0)) 5 (pick (is_erased n (frame_for small_code n message)) 10 0))))

lent_number :
    (n : ℕ) (message out : List ℕ) → length out ≡ frame_bytes n → encode_number small_code n message out ≡ number_by n message false
unfolding encode_number number_by
lent_number n message out e = ap (number_by n message) ((equal_test (length out) (frame_bytes n)).1 e)

blank_length : (n : ℕ) → length (blank_frame n) ≡ frame_bytes n
blank_length n = length-replicate (frame_bytes n) 0

blank_number : (n : ℕ) (message : List ℕ) → encode_number small_code n message (blank_frame n) ≡ number_by n message false
blank_number n message = lent_number n message (blank_frame n) (blank_length n)

blank_refusals : (n : ℕ) (message : List ℕ) → OneOf (encode_number small_code n message (blank_frame n)) (0 ∷ 1 ∷ 2 ∷ 5 ∷ 10 ∷ [])
unfolding is_in number_by
blank_refusals n message =
    rw (blank_number n message)
    (go (outside small_code n) (not_long message (data_bytes small_code n)) (not (eqb (spare_ones (data_bits small_code n) message) 0))
    (is_erased n (frame_for small_code n message)))
  where
    go : (a b c d : Bool) → OneOf (pick a 1 (pick b 2 (pick false 3 (pick c 5 (pick d 10 0))))) (0 ∷ 1 ∷ 2 ∷ 5 ∷ 10 ∷ [])
    go true b c d = refl
    go false true c d = refl
    go false false true d = refl
    go false false false true = refl
    go false false false false = refl

-- what was accepted
pub trip : (n : ℕ) (message out : List ℕ) → encode_number small_code n message out ≡ 0 → Trip small_code n message out
trip = (round_trips small_code sound_small).trip

pub any_number :
    (n : ℕ) (message out : List ℕ) → length out ≡ frame_bytes n
    → encode_number small_code n message out ≡ encode_number small_code n message (blank_frame n)
any_number n message out e = lent_number n message out e ∙ sym (blank_number n message)

pub any_output :
    (n : ℕ) (message out : List ℕ) → length out ≡ frame_bytes n → encode_number small_code n message (blank_frame n) ≡ 0
    → encode_output small_code n message out ≡ encode_output small_code n message (blank_frame n)
any_output n message out e z =
    (trip n message out (any_number n message out e ∙ z)).written ∙ sym (trip n message (blank_frame n) z).written

-- where n is out of range, the buffer may have any length
pub outside_number :
    (n : ℕ) (message out : List ℕ) → outside small_code n ≡ true
    → (encode_number small_code n message out ≡ 1) × (encode_number small_code n message (blank_frame n) ≡ 1)
unfolding encode_number
outside_number n message out h = (one out, one (blank_frame n))
  where
    one : (out : List ℕ) → encode_number small_code n message out ≡ 1
    one out = rw h

-- ---- one line

frame_says :
    (number n : ℕ) (frame : List ℕ)
    → frame_line number n frame ≡ decimal number ++ ascii "\t" ++ decimal n ++ ascii "\t8\t" ++ hex_text frame ++ ascii "\n"
unfolding digits
frame_says number n frame = simp append_assoc

refused_says :
    (number r : ℕ) → refused_line number r ≡ ascii "!\t" ++ decimal number ++ ascii "\t" ++ decimal r ++ ascii "\n"
refused_says number r = simp append_assoc

pub line_accepted :
    (k number n : ℕ) (message : List ℕ) → encode_number small_code n message (blank_frame n) ≡ 0
    → data_text k (some_data number n message) ≡ frame_line number n (encode_output small_code n message (blank_frame n))
line_accepted k number n message z =
    let r : ℕ = encode_number small_code n message (blank_frame n) in
    at_zero r (frame_line number n (encode_output small_code n message (blank_frame n))) (refused_line number r) z

pub line_refused :
    (k number n r : ℕ) (message : List ℕ) → r ≢ 0 → encode_number small_code n message (blank_frame n) ≡ r
    → data_text k (some_data number n message) ≡ refused_line number r
line_refused k number n r message some e =
    let frame : List ℕ = encode_output small_code n message (blank_frame n) in
    ap (λ (x : ℕ). encoded_text number n x frame) e ∙ at_other r (frame_line number n frame) (refused_line number r) some

-- ---- one LF, at the end

-- a fact of each entry and of what stands for none is a fact of the entry at any place
all_at : (P : ℕ → Type 0) (s : Text) (d i : ℕ) → AllN P s → P d → P (get_or s i d)
all_at P [] d i h k = k
all_at P (x ∷ s) d zero h k = h.0
all_at P (x ∷ s) d (suc i) h k = all_at P s d i h.1 k

hex_digit_no_lf : (h : ℕ) → hex_digit h ≢ 10
unfolding every
hex_digit_no_lf h =
    all_at (λ x. x ≢ 10) (ascii "0123456789ABCDEF") 0 h (quoted_no_lf (ascii "0123456789ABCDEF") refl) (λ e. omega (arith, e))

hex_no_lf : (frame : List ℕ) → NoLF (hex_text frame)
unfolding hex_text
hex_no_lf [] = tt
hex_no_lf (x ∷ frame) = (hex_digit_no_lf (x / 16), (hex_digit_no_lf (x % 16), hex_no_lf frame))

pub frame_fields_no_lf : (n : ℕ) (frame : List ℕ) → All NoLF (decimal n ∷ decimal given_allowance ∷ hex_text frame ∷ [])
frame_fields_no_lf n frame = (decimal_no_lf n, (decimal_no_lf given_allowance, (hex_no_lf frame, tt)))

pub mark_no_lf : NoLF (ascii "!") × NoLF (ascii "?")
unfolding every
mark_no_lf = (quoted_no_lf (ascii "!") refl, quoted_no_lf (ascii "?") refl)

line_one_lf : (k : ℕ) (l : DataLine) → (t : Text) × NoLF t × (data_text k l ≡ t ++ ascii "\n")
line_one_lf k bad_data = one_lf (ascii "?") (decimal k ∷ []) mark_no_lf.1 (decimal_no_lf k, tt)
line_one_lf k (some_data number n message) =
    let r : ℕ = encode_number small_code n message (blank_frame n) in
    let frame : List ℕ = encode_output small_code n message (blank_frame n) in
    at_either (λ u. (t : Text) × NoLF t × (u ≡ t ++ ascii "\n")) r (frame_line number n frame) (refused_line number r)
    (λ z. one_lf (decimal number) (decimal n ∷ decimal given_allowance ∷ hex_text frame ∷ []) (decimal_no_lf number)
    (frame_fields_no_lf n frame))
    (λ z. one_lf (ascii "!") (decimal number ∷ decimal r ∷ []) mark_no_lf.0 (decimal_no_lf number, (decimal_no_lf r, tt)))

-- ---- the length

pub frame_bytes_most : (n : ℕ) → n ≤ 256 → frame_bytes n ≤ 8192
frame_bytes_most n h = let wide : row_bytes n ≤ 32 = omega arith in mul-le-mul h wide

-- the number, n, the allowance, three tabs, the frame and the LF
frame_line_length :
    (number n : ℕ) (frame : List ℕ)
    → length (frame_line number n frame) ≡ length (decimal number) + length (decimal n) + 5 + 2 * length frame
unfolding digits
frame_line_length number n frame =
    omega (
      arith,
      length-append (decimal number) (9 ∷ (decimal n ++ 9 ∷ 56 ∷ 9 ∷ (hex_text frame ++ 10 ∷ []))),
      length-append (decimal n) (9 ∷ 56 ∷ 9 ∷ (hex_text frame ++ 10 ∷ [])),
      length-append (hex_text frame) (10 ∷ []),
      hex_length frame,
    )

frame_line_most :
    (number n : ℕ) (frame : List ℕ) → number < 10 ^ 9 → n ≤ 256 → length (frame_line number n frame) ≤ 17 + 2 * length frame
frame_line_most number n frame h k =
    omega (arith, frame_line_length number n frame, decimal_short number 9 h (omega arith), decimal_short n 3 (omega arith) (omega arith))

frame_line_short :
    (number n : ℕ) (frame : List ℕ) → number < 10 ^ 9 → n ≤ 256 → length frame ≡ frame_bytes n
    → length (frame_line number n frame) ≤ 16401
frame_line_short number n frame h k e = omega (arith, frame_line_most number n frame h k, frame_bytes_most n k, e)

refused_line_short : (number r : ℕ) → number < 10 ^ 9 → r ≤ 10 → length (refused_line number r) ≤ 15
refused_line_short number r h k =
    omega (
      arith,
      length-append (decimal number) (9 ∷ (decimal r ++ 10 ∷ [])),
      length-append (decimal r) (10 ∷ []),
      decimal_short number 9 h (omega arith),
      decimal_short r 2 (omega arith) (omega arith),
    )

-- the numbers of the refusals have two digits at most
blank_most : (n : ℕ) (message : List ℕ) → encode_number small_code n message (blank_frame n) ≤ 10
unfolding all_in
blank_most n message =
    (one_of_range 0 10 (encode_number small_code n message (blank_frame n)) (0 ∷ 1 ∷ 2 ∷ 5 ∷ 10 ∷ []) refl (blank_refusals n message)).1

-- what encoding accepts has n up to 256
pub accepted_most : (n : ℕ) (message out : List ℕ) → encode_number small_code n message out ≡ 0 → n ≤ 256
accepted_most n message out z = (((round_trips small_code sound_small).accepts n message out).0 z).0.up_to

record_length : (number n : ℕ) (message : List ℕ) → number < 10 ^ 9 → length (given_text number n message) ≤ 16401
record_length number n message h =
    let r : ℕ = encode_number small_code n message (blank_frame n) in
    let frame : List ℕ = encode_output small_code n message (blank_frame n) in
    at_either (λ t. length t ≤ 16401) r (frame_line number n frame) (refused_line number r)
    (λ z. frame_line_short number n frame h (accepted_most n message (blank_frame n) z) (trip n message (blank_frame n) z).received.0)
    (λ z. omega (arith, refused_line_short number r h (blank_most n message)))

line_length : (k : ℕ) → k < 2 ^ 64 → (l : DataLine) → NumberShort l → length (data_text k l) ≤ 16401
line_length k h bad_data s =
    let few = leb→le (2 ^ 64) (10 ^ 20) tt in
    omega (arith, length-append (decimal k) (10 ∷ []), decimal_short k 20 (omega (arith, h, few)) (omega arith))
line_length k h (some_data number n message) s = record_length number n message s

pub written : Written
written = record {
  example = written_shown;
  numbered = (outputs writer).numbered;
  bad_header_lem = (outputs writer).bad_header_lem;
  no_header = (outputs writer).no_header;
  cut = (outputs writer).cut;
  cut_first = (outputs writer).cut_first;
  bad_line_lem = λ k. refl;
  accepted_line = λ k number n message z.
      line_accepted k number n message z ∙ frame_says number n (encode_output small_code n message (blank_frame n));
  refused_line_lem = λ k number n r message some e. line_refused k number n r message some e ∙ refused_says number r;
  refusals = blank_refusals;
  any_buffer = λ n message out e. (any_number n message out e, any_output n message out e);
  any_length = outside_number;
  one_line = line_one_lf;
  short = λ k s h. line_length k h (data_of s) (short_number s);
  room = omega arith;
  allowance = refl;
}
