-- RULES 14, without the definition: what a call returns, and what the lent buffer has then.
-- Assumes nothing.
use Rattle.std.proofs.Common.{rules}
use Rattle.std.proofs.Math.Seq.{get_or-append_right}
use mathlib.Core.Path.{◌≡◌, refl, sym, ◌∙◌}
use mathlib.Core.Logic.{◌≢◌, ◌↔◌, ◌⊎◌, inl, inr}
use mathlib.Core.Bool.{true, false}
use mathlib.Core.List.{List, [], ◌∷◌}
use Prim.Native.Nat.{ℕ, ◌+◌, ◌-◌, ◌≤◌, ◌<◌}
use native.Mathlib.Decide.{ℕ_discrete, dec_lt}
use native.Mathlib.Omega.{arith}
use lib.Dec.{ltb}
use lib.ListN.{length, get_or, get_or-append}
use lib.Seq.{length-take-le, get_or-append-add, get_or-take, get_or-drop, ext_get_or}
use Rattle.rules.specs.Codes.{Code}
use Rattle.rules.specs.Numbers.{frame_bytes, Exit}
use Rattle.rules.proofs.Promises.EntryRules.{Reasons, Given}
use Rattle.text.specs.Laid.{laid}
use Rattle.text.proofs.LaidLaws.{laid-length}
use Rattle.receiver.specs.declared.state.State.{State}
use Rattle.receiver.specs.Pieces.{Told, refusal, receive}
use Rattle.receiver.proofs.RefusalLaws.{accepted, receive_taken, receive_refused}

-- ---- The statement

-- the range of n; the length of the buffer; a state that claims more bytes than the frame has; a piece that would run past it
abbrev pub receive_reasons : Code → State → List ℕ → List ℕ → Reasons
receive_reasons code s piece frame =
    (¬ ((code.shortest ≤ s.n) × (s.n ≤ code.longest)), 1) ∷ (length frame ≢ frame_bytes s.n, 2)
    ∷ (frame_bytes s.n < s.bytes, 14) ∷ (frame_bytes s.n - s.bytes < length piece, 14) ∷ []

pub record ReceiveRule (code : Code) (s : State) (piece frame : List ℕ) (r : Told) (exit : List ℕ) : Type 0 where
  pub number : Given (receive_reasons code s piece frame) r.number
  -- refused: state and buffer are as they were, and no more is wanted
  pub refused : r.number ≢ 0 → (r.state ≡ s) × (r.more ≡ false) × (exit ≡ frame)
  -- taken: the state counts the piece, and more is wanted while bytes are missing
  pub counted : r.number ≡ 0 → (r.state.n ≡ s.n) × (r.state.bytes ≡ s.bytes + length piece)
  pub wanted : r.number ≡ 0 → (r.more ≡ true) ↔ (s.bytes + length piece < frame_bytes s.n)
  -- the piece stands behind the bytes so far
  pub placed : r.number ≡ 0 → (i : ℕ) → i < length piece → get_or exit (s.bytes + i) 0 ≡ get_or piece i 0
  -- and, whatever the number, no other byte changes
  pub others : (p : ℕ) → (p < s.bytes) ⊎ (s.bytes + length piece ≤ p) → get_or exit p 0 ≡ get_or frame p 0
  pub long : length exit ≡ length frame

pub record Receiving (code : Code) : Type 0 where
  -- the definition keeps the rule, and nothing else does
  pub keeps : (s : State) (piece frame : List ℕ) → let e = receive code s piece frame in ReceiveRule code s piece frame e.said e.output
  pub only :
      (s : State) (piece frame : List ℕ) (r : Told) (exit : List ℕ) → ReceiveRule code s piece frame r exit
      → ◌≡◌ {A = Exit Told} (record { said = r; output = exit }) (receive code s piece frame)

-- ---- A piece in its place, byte by byte

module _ (s : List ℕ) (at : ℕ) (t : List ℕ) (room : at + length t ≤ length s) where
  laid_in : (i : ℕ) → i < length t → get_or (laid s at t) (at + i) 0 ≡ get_or t i 0
  unfolding laid
  laid_in i h = grind (arith, length-take-le, get_or-append-add, get_or-append)

  laid_out : (p : ℕ) → (p < at) ⊎ (at + length t ≤ p) → get_or (laid s at t) p 0 ≡ get_or s p 0
  unfolding laid
  laid_out p (inl h) = grind (arith, length-take-le, get_or-append, get_or-take)
  laid_out p (inr h) = grind (arith, length-take-le, get_or-append_right, get_or-drop)

-- ---- The number

module _ (code : Code) (s : State) (piece frame : List ℕ) where
  abbrev number : ℕ
  number = refusal code s (length piece) (length frame)

  -- the first reason that is there has the definition's number
  given_number : (k : ℕ) → Given (receive_reasons code s piece frame) k → k ≡ number
  unfolding refusal
  given_number k g = search rules

  number_given : Given (receive_reasons code s piece frame) number
  unfolding refusal
  number_given = search rules

  kept : let e = receive code s piece frame in ReceiveRule code s piece frame e.said e.output
  kept = go (ℕ_discrete number 0)
    where
      go : Dec (number ≡ 0) → let e = receive code s piece frame in ReceiveRule code s piece frame e.said e.output
      go (yes z) =
          let a = accepted code s (length piece) (length frame) z in
          let room : s.bytes + length piece ≤ length frame = omega (arith, a.1, a.2) in
          rw (receive_taken code s piece frame z)
          (record {
            number = rw z at number_given;
            refused = λ h. absurd (h refl);
            counted = λ h. (refl, refl);
            wanted = λ h. search rules;
            placed = λ h. laid_in frame s.bytes piece room;
            others = laid_out frame s.bytes piece room;
            long = laid-length frame s.bytes piece room;
          })
      go (no z) =
          rw (receive_refused code s piece frame number refl z)
          (record {
            number = number_given;
            refused = λ h. (refl, refl, refl);
            counted = λ h. absurd (z h);
            wanted = λ h. absurd (z h);
            placed = λ h. absurd (z h);
            others = λ p h. refl;
            long = refl;
          })

  module _ (r : Told) (exit : List ℕ) (g : ReceiveRule code s piece frame r exit) where
    is_number : r.number ≡ number
    is_number = given_number r.number g.number

    -- every byte, where the piece is taken
    bytes_are : s.bytes + length piece ≤ length frame → r.number ≡ 0 → exit ≡ laid frame s.bytes piece
    bytes_are room z =
        ext_get_or 0 exit (laid frame s.bytes piece) (g.long ∙ sym (laid-length frame s.bytes piece room))
        (λ p h. go p (dec_lt p s.bytes) (dec_lt p (s.bytes + length piece)))
      where
        go :
            (p : ℕ) → Dec (p < s.bytes) → Dec (p < s.bytes + length piece) → get_or exit p 0 ≡ get_or (laid frame s.bytes piece) p 0
        go p (yes h) t = g.others p (inl h) ∙ sym (laid_out frame s.bytes piece room p (inl h))
        go p (no h) (no t) =
            let k : s.bytes + length piece ≤ p = omega (arith, t) in
            g.others p (inr k) ∙ sym (laid_out frame s.bytes piece room p (inr k))
        go p (no h) (yes t) =
            let e : s.bytes + (p - s.bytes) ≡ p = omega (arith, h) in
            let k : p - s.bytes < length piece = omega (arith, h, t) in
            rw e at (g.placed z (p - s.bytes) k ∙ sym (laid_in frame s.bytes piece room (p - s.bytes) k))

    more_is : (r.more ≡ true) ↔ (s.bytes + length piece < frame_bytes s.n) → r.more ≡ ltb (s.bytes + length piece) (frame_bytes s.n)
    more_is t = search rules

    alone : ◌≡◌ {A = Exit Told} (record { said = r; output = exit }) (receive code s piece frame)
    alone = go (ℕ_discrete r.number 0)
      where
        go : Dec (r.number ≡ 0) → ◌≡◌ {A = Exit Told} (record { said = r; output = exit }) (receive code s piece frame)
        go (yes z) =
            let a = accepted code s (length piece) (length frame) (sym is_number ∙ z) in
            let c = g.counted z in
            let b = bytes_are (omega (arith, a.1, a.2)) z in
            let m = more_is (g.wanted z) in
            let q = receive_taken code s piece frame (sym is_number ∙ z) in
            rw q (search (rules, z, c.0, c.1, b, m))
        go (no z) =
            let c = g.refused z in
            rw (receive_refused code s piece frame r.number (sym is_number) z) (search (rules, c.0, c.1, c.2))

pub receiving : (code : Code) → Receiving code
receiving code = record { keeps = kept code; only = alone code }
