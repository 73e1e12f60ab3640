-- A piece taken byte by byte, up to the first LF: the loop.
-- Assumes nothing.
use mathlib.Core.Path.{◌≡◌, refl}
use mathlib.Core.Logic.{◌≢◌}
use mathlib.Core.Bool.{true, false}
use mathlib.Core.List.{List, ◌∷◌}
use Prim.Native.Nat.{ℕ, suc, ◌+◌, ◌≤◌, ◌<◌}
use native.Mathlib.Numerals.{add-one}
use native.Mathlib.Omega.{arith}
use lib.ListN.{length, drop, get_or, set, length-set, drop_of_length-le}
use lib.Seq.{drop-cons}
use borrow.Author.Tests.{eq-eqb, ne_eqb}
use Rattle.textrules.specs.Text.{Text, lf}
use Rattle.lines.specs.declared.state.State.{State}
use Rattle.lines.specs.declared.state.Event.TheVariants.{Nothing}
use Rattle.lines.specs.Stream.{closed, next_line, longer, Kept, keeping, kept_after, event_after, Stop, up_to_lf, stopped}
use Rattle.lines.specs.Calls.{Takes}
use Rattle.lines.proofs.StateLaws.{after_lf, after_other}

-- where a piece is left at an LF
abbrev at_lf : Text → Kept → ℕ → ℕ → Stop
at_lf header k i x = record { kept = kept_after header k x; event = event_after header k.state k.line x; taken = suc i }

-- where all of it was taken
abbrev at_all : Kept → ℕ → Stop
at_all k i = record { kept = k; event = Nothing; taken = i }

pub up_lf : (header : Text) (k : Kept) (i x : ℕ) (m : Text) → x ≡ lf → up_to_lf header k i (x ∷ m) ≡ at_lf header k i x
unfolding up_to_lf
up_lf header k i x m e = rw (eq-eqb x lf e) refl

pub up_other :
    (header : Text) (k : Kept) (i x : ℕ) (m : Text) → x ≢ lf → up_to_lf header k i (x ∷ m) ≡ up_to_lf header (kept_after header k x) (suc i) m
unfolding up_to_lf
up_other header k i x m d = rw (ne_eqb x lf d) refl

pub stopped_going : (header : Text) (k : Kept) (piece : Text) → k.state.rejected ≡ false → stopped header k piece ≡ up_to_lf header k 0 piece
unfolding stopped
stopped_going header k piece e = rw e refl

pub stopped_rejected : (header : Text) (k : Kept) (piece : Text) → k.state.rejected ≡ true → stopped header k piece ≡ at_all k (length piece)
unfolding stopped
stopped_rejected header k piece e = rw e refl

-- ---- the loop: what is left to take from here on

-- from the whole answer to what the call says of it
pub takes :
    (header : Text) (s : State) (piece : Text) (line : List ℕ) (q : Stop) → q ≡ stopped header (keeping s line) piece
    → Takes header s piece line (record { state = q.kept.state; event = q.event; taken = q.taken }) q.kept.line
takes header s piece line q e = rw (← e) (refl, refl, refl)

module _ (header : Text) (k : Kept) (piece : Text) (i : ℕ) where
  pub all_taken : length piece ≤ i → i ≤ length piece → at_all k (length piece) ≡ up_to_lf header k i (drop i piece)
  unfolding up_to_lf
  all_taken h l = let e : length piece ≡ i = omega arith in rw (drop_of_length-le piece h, e) refl

  module _ (h : i < length piece) (going : k.state.rejected ≡ false) where
    pub lf_taken :
        get_or piece i 0 ≡ lf
        → record { kept = keeping (next_line header k.state k.line) k.line; event = closed header k.state k.line; taken = i + 1 }
        ≡ up_to_lf header k i (drop i piece)
    lf_taken e =
        let a = after_lf header k (get_or piece i 0) going e in
        rw (drop-cons piece i 0 h, up_lf header k i (get_or piece i 0) (drop (suc i) piece) e, add-one, a.0, a.1) refl

    pub other_taken :
        get_or piece i 0 ≢ lf → (s : State) (line : List ℕ) → line ≡ set k.line k.state.length (get_or piece i 0) → s ≡ longer (length line) k.state
        → up_to_lf header (keeping s line) (i + 1) (drop (i + 1) piece) ≡ up_to_lf header k i (drop i piece)
    other_taken d s line el es =
        let a = after_other header k (get_or piece i 0) going d in
        let b : keeping s line ≡ kept_after header k (get_or piece i 0) = rw (es, el, length-set, a.0) refl in
        rw (drop-cons piece i 0 h, up_other header k i (get_or piece i 0) (drop (suc i) piece) d, add-one, b) refl
