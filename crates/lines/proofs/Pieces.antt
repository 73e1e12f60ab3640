-- RULES 8: a program's output, whatever the pieces. For every program, every input and every way of cutting it, what the calls hand
-- out, in order, is the output of the whole input; before `finish` has said that the input ended, it is that of an input that broke off.
-- That there are such calls for every input and every cutting is what the functions' proofs say: each returns whatever it is
-- given, and of a piece that has a byte at least one is taken.
-- Assumes nothing.
use mathlib.Core.Path.{◌≡◌, refl, sym, ap, ap₂, ◌∙◌}
use mathlib.Core.List.{List, [], ◌∷◌, ◌++◌}
use Prim.Native.Nat.{ℕ, suc, ◌^◌, ◌≤◌, ◌<◌}
use lib.ListN.{length, take}
use Rattle.textrules.specs.Text.{Text}
use Rattle.textrules.specs.Programs.{Program, output, output_cut}
use Rattle.lines.specs.declared.state.State.{State}
use Rattle.lines.specs.declared.state.Event.{Event}
use Rattle.lines.specs.declared.state.Taken.{Taken}
use Rattle.lines.specs.Stream.{at_start, event_at_end, Kept, keeping, after_all}
use Rattle.lines.specs.Say.{event_text, Regular}
use Rattle.lines.specs.Calls.{Takes, Says}
use Rattle.lines.proofs.HandedLaws.{handed, after-append, handed-append, piece_left, piece_text, piece_within, piece_some}
use Rattle.lines.proofs.RunLaws.{run_output}
use Rattle.lines.proofs.CutLaws.{run_handed, handed_cut}

-- ---- The statement

-- a piece taken, and what the program said of it: the piece, what `take` returned and left in the line buffer, and the text that was
-- handed out
pub record Call : Type 0 where
  pub piece : Text
  pub taken : Taken
  pub line : List ℕ
  pub text : Text

-- calls one after the other, each with the state and the line buffer that the one before left; those of the last stand at the end
abbrev pub Calls : Program → State → List ℕ → List Call → State → List ℕ → Type 0
Calls p s line [] end left = (s ≡ end) × (line ≡ left)
Calls p s line (c ∷ later) end left =
    Takes p.header s c.piece line c.taken c.line
    × Says p c.taken.event c.line c.text
    × Calls p c.taken.state c.line later end left

-- the input: of a piece those bytes that were taken; the rest is for the next call
abbrev pub input_of : List Call → Text
input_of [] = []
input_of (c ∷ later) = take c.taken.taken c.piece ++ input_of later

-- what was handed out
abbrev pub text_of : List Call → Text
text_of [] = []
text_of (c ∷ later) = c.text ++ text_of later

pub record Pieces (p : Program) : Type 0 where
  -- of a piece no more is taken than there is, and something where there is anything
  pub within :
      (s : State) (piece : Text) (line : List ℕ) (r : Taken) (line₁ : List ℕ) → Takes p.header s piece line r line₁
      → r.taken ≤ length piece
  pub some :
      (s : State) (piece : Text) (line : List ℕ) (r : Taken) (line₁ : List ℕ) → Takes p.header s piece line r line₁
      → 0 < length piece → 0 < r.taken
  -- from the start, with a line buffer that holds anything. Past 2^64 lines the line numbers would not fit a machine word
  pub whole :
      (line : List ℕ) → length line ≡ p.longest → (calls : List Call) (end : State) (left : List ℕ)
      → Calls p at_start line calls end left → (last : Event) → last ≡ event_at_end p.header end left → (text : Text)
      → Says p last left text → suc (length (input_of calls)) < 2 ^ 64
      → text_of calls ++ text ≡ output p (input_of calls)
  -- without the end
  pub cut :
      (line : List ℕ) → length line ≡ p.longest → (calls : List Call) (end : State) (left : List ℕ)
      → Calls p at_start line calls end left → suc (length (input_of calls)) < 2 ^ 64
      → text_of calls ≡ output_cut p (input_of calls)

-- ---- the calls, as their bytes one after the other

record ByteByByte (p : Program) (k : Kept) (calls : List Call) (end : State) (left : List ℕ) : Type 0 where
  text : text_of calls ≡ handed p k (input_of calls)
  last : keeping end left ≡ after_all p.header k (input_of calls)

calls_bytes :
    (p : Program) (calls : List Call) (s : State) (line : List ℕ) (end : State) (left : List ℕ) → Calls p s line calls end left
    → ByteByByte p (keeping s line) calls end left
unfolding handed after_all
calls_bytes p [] s line end left c = record { text = refl; last = ap₂ keeping (sym c.0) (sym c.1) }
calls_bytes p (c ∷ later) s line end left (t, l, rest) =
    let k : Kept = keeping s line in
    let a : Text = take c.taken.taken c.piece in
    let b = calls_bytes p later c.taken.state c.line end left rest in
    let q = piece_left p s c.piece line c.taken c.line t in
    let e =
    l.1
    ∙ piece_text p s c.piece line c.taken c.line t in
    record {
      text =
          ap₂ (λ (u v : Text). u ++ v) e (b.text ∙ ap (λ (j : Kept). handed p j (input_of later)) q)
          ∙ sym (handed-append p a (input_of later) k);
      last =
          b.last ∙ ap (λ (j : Kept). after_all p.header j (input_of later)) q ∙ sym (after-append p.header a (input_of later) k);
    }

pub pieces : (p : Program) → Regular p → Pieces p
pieces p ok = record {
  within = piece_within p.header;
  some = piece_some p.header;
  whole = λ line f calls end left c last q text e h.
      let b = calls_bytes p calls at_start line end left c in
      ap₂ (λ (u v : Text). u ++ v) b.text
      (e.1
      ∙ ap (λ (v : Event). event_text p v left) q
      ∙ ap (λ (k : Kept). event_text p (event_at_end p.header k.state k.line) k.line) b.last)
      ∙ sym (run_handed p (input_of calls) (keeping at_start line))
      ∙ run_output p ok line (input_of calls) f h;
  cut = λ line f calls end left c h.
      (calls_bytes p calls at_start line end left c).text ∙ handed_cut p ok line f (input_of calls) h;
}
