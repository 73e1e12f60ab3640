-- What a line gives, as the code goes: the opening, the digits, the frame or the refusal.
-- Assumes nothing.
use mathlib.Core.Path.{◌≡◌, refl, sym, ap, subst, ◌∙◌}
use mathlib.Core.Logic.{◌≢◌}
use mathlib.Core.Bool.{Bool, true, false, ◌&&◌}
use mathlib.Core.List.{List}
use Prim.Native.Nat.{ℕ, ◌≤◌}
use native.Mathlib.Omega.{arith}
use lib.Dec.{leb}
use lib.ListN.{length}
use borrow.Author.Tests.{eq-eqb, ne_eqb, leb-true, not-false}
use Rattle.rules.specs.Codes.{small_code}
use Rattle.rules.specs.Numbers.{pick, outside, frame_bytes, encode_number, encode_output}
use Rattle.rules.proofs.Laws.OneOfLaws.{and_both}
use Rattle.textrules.specs.Text.{Text, decimal}
use Rattle.textrules.specs.Dump.{greatest_frame}
use Rattle.textrules.specs.Factory.{some_data, data_of, blank_frame, frame_line, refused_line, given_text}
use Rattle.textrules.proofs.Laws.TextLaws.{decimal_short, decimal_small}
use Rattle.textrules.proofs.Promises.DataRecords.{NumberShort, short_number}
use Rattle.textrules.proofs.Promises.Written.{any_number, any_output, outside_number, trip, accepted_most, frame_bytes_most}
use Rattle.factory.specs.Room.{NineDigits, FitsLine, buffer_for}

-- ---- the number on a line of data

pub number_short : (s : Text) {number n : ℕ} {bytes : List ℕ} → data_of s ≡ some_data number n bytes → NineDigits number
number_short s e = subst NumberShort e (short_number s)

-- ---- sizes

inside_most : (n : ℕ) → outside small_code n ≡ false → n ≤ 256
inside_most n h =
    leb-true n 256 (and_both (leb 18 n) (leb n 256) (not-false (leb 18 n && leb n 256) h)).1

module _ (n : ℕ) (x : Bool) (is : x ≡ outside small_code n) where
  pub n_most : x ≡ false → n ≤ 256
  n_most e = inside_most n (sym is ∙ e)

  pub size_outside : x ≡ true → (0 ≡ buffer_for n) × (0 ≤ greatest_frame)
  size_outside e = (sym (ap (λ (b : Bool). pick b 0 (frame_bytes n)) (sym is ∙ e)), omega arith)

  pub size_inside : x ≡ false → (r : ℕ) → r ≡ frame_bytes n → (r ≡ buffer_for n) × (r ≤ greatest_frame)
  size_inside e r q = (
    q ∙ sym (ap (λ (b : Bool). pick b 0 (frame_bytes n)) (sym is ∙ e)),
    omega (arith, q, frame_bytes_most n (n_most e)),
  )

-- digits
pub nine_most : (x : ℕ) → NineDigits x → length (decimal x) ≤ 9
nine_most x h = decimal_short x 9 h (omega arith)

pub three_most : (n : ℕ) → n ≤ 256 → length (decimal n) ≤ 3
three_most n h = decimal_short n 3 (omega (arith, h)) (omega arith)

pub allowance_one : length (decimal 8) ≡ 1
allowance_one = ap length (decimal_small 8 (omega arith))

-- ---- a record, whatever the lent buffer had

module _ (n : ℕ) (message out : List ℕ) (lent : length out ≡ buffer_for n) where
  lent_frame : outside small_code n ≡ false → length out ≡ frame_bytes n
  lent_frame f = lent ∙ ap (λ (b : Bool). pick b 0 (frame_bytes n)) f

  alike : encode_number small_code n message out ≡ encode_number small_code n message (blank_frame n)
  alike = go (outside small_code n) refl
    where
      go : (b : Bool) → outside small_code n ≡ b → encode_number small_code n message out ≡ encode_number small_code n message (blank_frame n)
      go true e = let q = outside_number n message out e in q.0 ∙ sym q.1
      go false e = any_number n message out (lent_frame e)

  frame_alike :
      encode_number small_code n message (blank_frame n) ≡ 0
      → encode_output small_code n message out ≡ encode_output small_code n message (blank_frame n)
  frame_alike z = go (outside small_code n) refl
    where
      go :
          (b : Bool) → outside small_code n ≡ b
          → encode_output small_code n message out ≡ encode_output small_code n message (blank_frame n)
      go true e = absurd (omega (arith, z, (outside_number n message out e).1))
      go false e = any_output n message out (lent_frame e) z

  module _ (number x : ℕ) (is : x ≡ encode_number small_code n message out) where
    pub refused_written : x ≢ 0 → refused_line number x ≡ given_text number n message
    refused_written d =
        let z : ℕ = encode_number small_code n message (blank_frame n) in
        let e : x ≡ z = is ∙ alike in
        let f : List ℕ = encode_output small_code n message (blank_frame n) in
        ap (refused_line number) e
        ∙ sym (ap (λ (b : Bool). pick b (frame_line number n f) (refused_line number z)) (ne_eqb z 0 (λ q. d (e ∙ q))))

    -- what its line has room for
    pub frame_fits : NineDigits number → x ≡ 0 → (frame : List ℕ) → frame ≡ encode_output small_code n message out → FitsLine number n frame
    frame_fits h q frame fe =
        let z = sym is ∙ q in
        let most = accepted_most n message out z in
        (h, most, omega (arith, ap length fe ∙ (trip n message out z).received.0, frame_bytes_most n most))

    pub frame_written :
        x ≡ 0 → (frame : List ℕ) → frame ≡ encode_output small_code n message out → frame_line number n frame ≡ given_text number n message
    frame_written q frame fe =
        let z : ℕ = encode_number small_code n message (blank_frame n) in
        let e : z ≡ 0 = sym (is ∙ alike) ∙ q in
        let f : List ℕ = encode_output small_code n message (blank_frame n) in
        ap (frame_line number n) (fe ∙ frame_alike e)
        ∙ sym (ap (λ (b : Bool). pick b (frame_line number n f) (refused_line number z)) (eq-eqb z 0 e))
