-- A program's turns, whatever the reads gave: each is a step through the input and what the program said of it. What was said, in
-- order, is the program's output of all bytes that were read; where a read or a write failed, that of an input that broke off.
-- Assumes nothing.
use mathlib.Core.Path.{◌≡◌, refl, sym, ap, ap₂, ◌∙◌}
use mathlib.Core.Logic.{inl, inr}
use mathlib.Core.Bool.{Bool, true, false}
use mathlib.Core.List.{List, [], ◌∷◌, ◌++◌, append_assoc, append-nil}
use Prim.Native.Nat.{ℕ, suc, ◌+◌, ◌-◌, ◌^◌, ◌≤◌, ◌<◌}
use native.Mathlib.Nat.{sub-zero}
use native.Mathlib.Omega.{arith}
use lib.ListN.{length, take, drop, length-take}
use lib.Dec.{leb, ltb}
use lib.Seq.{take-take, take-add, drop-drop}
use borrow.Author.Tests.{ltb-false, le-leb, leb-true}
use Rattle.rules.specs.Numbers.{pick}
use Rattle.rules.proofs.Laws.OneOfLaws.{and_both}
use Rattle.textrules.specs.Text.{Text}
use Rattle.textrules.specs.Programs.{Program, output, output_cut}
use Rattle.lines.specs.declared.state.State.{State}
use Rattle.lines.specs.declared.state.Event.{Event}
use Rattle.lines.specs.declared.state.Taken.{Taken}
use Rattle.lines.specs.Stream.{event_at_end, keeping, Stop, stopped}
use Rattle.lines.specs.Say.{Regular}
use Rattle.lines.specs.Calls.{Takes, Says, LeavesSome}
use Rattle.lines.proofs.HandedLaws.{piece_left, piece_within, some_then}
use Rattle.lines.proofs.Pieces.{Call, Calls, input_of, text_of, pieces}
use Rattle.input.specs.declared.reading.Input.{Input}
use Rattle.input.specs.declared.reading.Step.TheVariants.{More, Ended}
use Rattle.input.specs.Calls.{piece_bytes, at_begin, has_more, TakesLine, StepsIf, Steps}

-- ---- The statement

-- a step with more behind it, the piece and the line buffer that it left, and what the program said of it
pub record Turn : Type 0 where
  pub input : Input
  pub event : Event
  pub piece : List ℕ
  pub line : List ℕ
  pub text : Text

-- turns one after the other, each of which may have more behind it
abbrev pub Turns : Program → Input → List ℕ → List ℕ → List Turn → Input → List ℕ → List ℕ → Type 0
Turns p i piece line [] end left kept = (i ≡ end) × (piece ≡ left) × (line ≡ kept)
Turns p i piece line (t ∷ later) end left kept =
    Steps p.header i piece line (More t.input t.event) t.piece t.line
    × Says p t.event t.line t.text
    × Turns p t.input t.piece t.line later end left kept

-- where a step begins in the piece that it leaves
abbrev pub beginning : Input → ℕ
beginning i = pick (has_more i) i.from 0

-- the bytes that the steps took
abbrev pub read_in : Input → List Turn → Text
read_in i [] = []
read_in i (t ∷ later) = take (t.input.from - beginning i) (drop (beginning i) t.piece) ++ read_in t.input later

-- all that the reads gave: each piece whole, when it was read
abbrev pub pieces_in : Input → List Turn → Text
pieces_in i [] = []
pieces_in i (t ∷ later) = pick (has_more i) [] (take t.input.to t.piece) ++ pieces_in t.input later

-- what was handed out
abbrev pub said_in : List Turn → Text
said_in [] = []
said_in (t ∷ later) = t.text ++ said_in later

-- what is promised of a program that goes on so
pub record Streams (p : Program) : Type 0 where
  -- up to the end of the input
  pub whole :
      (piece line : List ℕ) → length line ≡ p.longest → (turns : List Turn) (end : Input) (left kept : List ℕ)
      → Turns p at_begin piece line turns end left kept
      → (last : Event) (piece₁ line₁ : List ℕ) → Steps p.header end left kept (Ended last) piece₁ line₁
      → (text : Text) → Says p last line₁ text → suc (length (pieces_in at_begin turns)) < 2 ^ 64
      → said_in turns ++ text ≡ output p (pieces_in at_begin turns)
  -- where a read or a write failed
  pub cut :
      (piece line : List ℕ) → length line ≡ p.longest → (turns : List Turn) (end : Input) (left kept : List ℕ)
      → Turns p at_begin piece line turns end left kept → suc (length (read_in at_begin turns)) < 2 ^ 64
      → said_in turns ≡ output_cut p (read_in at_begin turns)

-- ---- a step with more behind it takes bytes of the piece that it leaves

-- a line taken of what is left is a call of `take`
line_takes :
    (header : Text) (i : Input) (piece line : List ℕ) (q : Input) (e : Event) (line₁ : List ℕ) → TakesLine header i piece line (More q e) line₁
    → Takes header i.state (take (i.to - i.from) (drop i.from piece)) line (record { state = q.state; event = e; taken = q.from - i.from }) line₁
    × (i.from ≤ q.from)
    × (q.to ≡ i.to)
line_takes header i piece line q e line₁ (a, b) =
    let s : Stop = stopped header (keeping i.state line) (take (i.to - i.from) (drop i.from piece)) in
    let at : q ≡ record { state = s.kept.state; from = i.from + s.taken; to = i.to } = cc in
    let event : e ≡ s.event = cc in
    let from : q.from ≡ i.from + s.taken = ap (λ (x : Input). x.from) at in (
      (ap₂ keeping (ap (λ (x : Input). x.state) at) b, event, omega (arith, from)),
      omega (arith, from),
      ap (λ (x : Input). x.to) at,
    )

-- so is each such step, from where it begins in the piece; b says whether something was left
record StepTakes (b : Bool) (header : Text) (i : Input) (piece line : List ℕ) (q : Input) (e : Event) (piece₁ line₁ : List ℕ) : Type 0 where
  takes :
      Takes header i.state (take (q.to - pick b i.from 0) (drop (pick b i.from 0) piece₁)) line
      (record { state = q.state; event = e; taken = q.from - pick b i.from 0 }) line₁
  begins : pick b i.from 0 ≤ q.from
  fits : q.to ≤ piece_bytes
  there :
      pick b (take (i.to - i.from) (drop i.from piece)) [] ++ pick b [] (take q.to piece₁)
      ≡ take (q.to - pick b i.from 0) (drop (pick b i.from 0) piece₁)

step_takes :
    (header : Text) (i : Input) (piece line : List ℕ) (q : Input) (e : Event) (piece₁ line₁ : List ℕ)
    → Steps header i piece line (More q e) piece₁ line₁ → StepTakes (has_more i) header i piece line q e piece₁ line₁
step_takes header i piece line q e piece₁ line₁ h = go (has_more i) refl h
  where
    go : (b : Bool) → has_more i ≡ b → StepsIf b header i piece line (More q e) piece₁ line₁ → StepTakes b header i piece line q e piece₁ line₁
    go true w (same, a) =
        let t = line_takes header i piece line q e line₁ a in
        let k = leb-true i.to piece_bytes (and_both (ltb i.from i.to) (leb i.to piece_bytes) w).1 in
        record {
          takes = rw (same, t.2) t.0;
          begins = t.1;
          fits = omega (arith, t.2, k);
          there = append-nil _ ∙ rw (same, t.2) refl;
        }
    go false w (inl (to, z, l, a)) =
        let t = line_takes header (record { state = i.state; from = 0; to = to }) piece₁ line q e line₁ a in
        record {
          takes = rw t.2 t.0;
          begins = t.1;
          fits = omega (arith, t.2, l);
          there = ap (λ (n : ℕ). take n piece₁) (sym (sub-zero q.to));
        }
    go false w (inr (inl x, y)) = cc
    go false w (inr (inr x, y)) = cc

-- ---- the other steps

-- what is still to be taken
abbrev rest_of : Input → List ℕ → Text
rest_of i piece = pick (has_more i) (take (i.to - i.from) (drop i.from piece)) []

step_ends :
    (header : Text) (i : Input) (piece line : List ℕ) (e : Event) (piece₁ line₁ : List ℕ) → Steps header i piece line (Ended e) piece₁ line₁
    → (e ≡ event_at_end header i.state line) × (line₁ ≡ line) × (rest_of i piece ≡ [])
step_ends header i piece line e piece₁ line₁ h = go (has_more i) h
  where
    go :
        (b : Bool) → StepsIf b header i piece line (Ended e) piece₁ line₁
        → (e ≡ event_at_end header i.state line) × (line₁ ≡ line) × (pick b (take (i.to - i.from) (drop i.from piece)) [] ≡ [])
    go true (same, (x, y)) = cc
    go false (inl (to, z, l, (x, y))) = cc
    go false (inr (inl x, y)) = (cc, y, refl)
    go false (inr (inr x, y)) = cc

-- ---- what a step leaves, some bytes leave

pub goes_on :
    (p : Program) (s : State) (line₀ : List ℕ) (i : Input) (piece line : List ℕ) (q : Input) (e : Event) (piece₁ line₁ : List ℕ) (header : Text)
    → LeavesSome p.header s line₀ i.state line → header ≡ p.header → Steps header i piece line (More q e) piece₁ line₁
    → LeavesSome p.header s line₀ q.state line₁
goes_on p s line₀ i piece line q e piece₁ line₁ header a h st =
    let t = step_takes p.header i piece line q e piece₁ line₁ (rw (← h) st) in
    some_then _ _ _ _ _ _ _ a (_, piece_left p i.state _ line _ line₁ t.takes)

-- ---- turns are calls of `take`

record Made (p : Program) (i : Input) (line : List ℕ) (turns : List Turn) (end : Input) (kept : List ℕ) : Type 0 where
  calls : List Call
  chain : Calls p i.state line calls end.state kept
  bytes : input_of calls ≡ read_in i turns
  text : text_of calls ≡ said_in turns

made :
    (p : Program) (turns : List Turn) (i : Input) (piece line : List ℕ) (end : Input) (left kept : List ℕ)
    → Turns p i piece line turns end left kept → Made p i line turns end kept
made p [] i piece line end left kept h =
    record { calls = []; chain = (ap (λ (j : Input). j.state) h.0, h.2); bytes = refl; text = refl }
made p (t ∷ later) i piece line end left kept (st, says, rest) =
    let b : ℕ = beginning i in
    let m : Text = take (t.input.to - b) (drop b t.piece) in
    let c : Taken = record { state = t.input.state; event = t.event; taken = t.input.from - b } in
    let a = step_takes p.header i piece line t.input t.event t.piece t.line st in
    let most = piece_within p.header i.state m line c t.line a.takes in
    let l = made p later t.input t.piece t.line end left kept rest in
    record {
      calls = record { piece = m; taken = c; line = t.line; text = t.text } ∷ l.calls;
      chain = (a.takes, says, l.chain);
      bytes =
          ap₂ (λ (u v : Text). u ++ v)
          (take-take (t.input.from - b) (t.input.to - b) (drop b t.piece) (omega (arith, most, length-take (t.input.to - b) (drop b t.piece)))) l.bytes;
      text = ap (λ (u : Text). t.text ++ u) l.text;
    }

-- ---- of what the reads gave nothing is passed over, and nothing is taken twice

left_is : (i : Input) (piece : List ℕ) → i.to ≤ piece_bytes → take (i.to - i.from) (drop i.from piece) ≡ rest_of i piece
left_is i piece h = go (ltb i.from i.to) refl
  where
    go : (b : Bool) → ltb i.from i.to ≡ b → take (i.to - i.from) (drop i.from piece) ≡ rest_of i piece
    go true e = rw (e, le-leb i.to piece_bytes h) refl
    go false e = let none : i.to - i.from ≡ 0 = omega (arith, ltb-false i.from i.to e) in rw (e, none) refl

all_read :
    (p : Program) (turns : List Turn) (i : Input) (piece line : List ℕ) (end : Input) (left kept : List ℕ)
    → Turns p i piece line turns end left kept → rest_of i piece ++ pieces_in i turns ≡ read_in i turns ++ rest_of end left
all_read p [] i piece line end left kept h = append-nil (rest_of i piece) ∙ ap₂ rest_of h.0 h.1
all_read p (t ∷ later) i piece line end left kept (st, says, rest) =
    let b : ℕ = beginning i in
    let q : Input = t.input in
    let m : Text = take (q.to - b) (drop b t.piece) in
    let u : Text = take (q.from - b) (drop b t.piece) in
    let a = step_takes p.header i piece line q t.event t.piece t.line st in
    let most = piece_within p.header i.state m line _ t.line a.takes in
    let sizes : q.to - b ≡ (q.from - b) + (q.to - q.from) = omega (arith, a.begins, most, length-take (q.to - b) (drop b t.piece)) in
    let from : b + (q.from - b) ≡ q.from = omega (arith, a.begins) in
    let split : m ≡ u ++ rest_of q t.piece =
    ap (λ (n : ℕ). take n (drop b t.piece)) sizes
    ∙ take-add (q.from - b) (q.to - q.from) (drop b t.piece)
    ∙ ap (λ (l : List ℕ). u ++ take (q.to - q.from) l) (drop-drop (q.from - b) b t.piece ∙ ap (λ (n : ℕ). drop n t.piece) from)
    ∙ ap (λ (l : List ℕ). u ++ l) (left_is q t.piece a.fits) in
    let ih = all_read p later q t.piece t.line end left kept rest in
    sym (append_assoc (rest_of i piece) (pick (has_more i) [] (take q.to t.piece)) (pieces_in q later))
    ∙ ap (λ (v : Text). v ++ pieces_in q later) (a.there ∙ split)
    ∙ append_assoc u (rest_of q t.piece) (pieces_in q later)
    ∙ ap (λ (v : Text). u ++ v) ih
    ∙ sym (append_assoc u (read_in q later) (rest_of end left))

pub streams : (p : Program) → Regular p → Streams p
streams p ok = record {
  whole = λ piece line f turns end left kept h last piece₁ line₁ st text says b.
      let m = made p turns at_begin piece line end left kept h in
      let e = step_ends p.header end left kept last piece₁ line₁ st in
      let all : pieces_in at_begin turns ≡ input_of m.calls =
      all_read p turns at_begin piece line end left kept h ∙ rw e.2 (append-nil (read_in at_begin turns)) ∙ sym m.bytes in
      let says : Says p last kept text = rw (← e.1) says in
      ap (λ (t : Text). t ++ text) (sym m.text)
      ∙ (pieces p ok).whole line f m.calls end.state kept m.chain last e.0 text says (omega (arith, b, ap length all))
      ∙ ap (output p) (sym all);
  cut = λ piece line f turns end left kept h b.
      let m = made p turns at_begin piece line end left kept h in
      sym m.text
      ∙ (pieces p ok).cut line f m.calls end.state kept m.chain (omega (arith, b, ap length m.bytes))
      ∙ ap (output_cut p) m.bytes;
}
