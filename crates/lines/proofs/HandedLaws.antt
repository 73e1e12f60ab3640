-- What bytes leave and what a program hands out for them, whatever follows; and a piece, which is its bytes, one after the other.
-- Assumes nothing.
use mathlib.Core.Path.{◌≡◌, refl, sym, ap, ap₂, ◌∙◌}
use mathlib.Core.Logic.{◌≢◌}
use mathlib.Core.Bool.{Bool, true, false}
use mathlib.Core.List.{List, [], ◌∷◌, ◌++◌, append_assoc, append-nil}
use Prim.Native.Nat.{ℕ, suc, ◌+◌, ◌≤◌, ◌<◌}
use native.Mathlib.Decide.{ℕ_discrete}
use native.Mathlib.Omega.{arith}
use lib.ListN.{length, take}
use Rattle.textrules.specs.Text.{Text, lf}
use Rattle.textrules.specs.Programs.{Program}
use Rattle.lines.specs.declared.state.State.{State}
use Rattle.lines.specs.declared.state.Event.{Event}
use Rattle.lines.specs.declared.state.Event.TheVariants.{Nothing}
use Rattle.lines.specs.declared.state.Taken.{Taken}
use Rattle.lines.specs.Stream.{event_after, Kept, keeping, kept_after, after_all, Stop, up_to_lf, stopped}
use Rattle.lines.specs.Say.{event_text}
use Rattle.lines.specs.Calls.{Takes, Leaves, LeavesSome}
use Rattle.lines.proofs.StateLaws.{after_rejected, after_other}
use Rattle.lines.proofs.StopLaws.{up_lf, up_other, stopped_going, stopped_rejected}

-- ---- what is left

pub after-append : (header a b : Text) (k : Kept) → after_all header k (a ++ b) ≡ after_all header (after_all header k a) b
unfolding after_all
after-append header [] b k = refl
after-append header (x ∷ a) b k = after-append header a b (kept_after header k x)

after_all_rejected : (header m : Text) (k : Kept) → k.state.rejected ≡ true → after_all header k m ≡ k
unfolding after_all
after_all_rejected header [] k e = refl
after_all_rejected header (x ∷ m) k e = rw (after_rejected header k x e).0 (after_all_rejected header m k e)

-- a byte that is no LF makes nothing happen
event_none : (header : Text) (k : Kept) (x : ℕ) → x ≢ lf → event_after header k.state k.line x ≡ Nothing
event_none header k x d = go k.state.rejected refl
  where
    go : (b : Bool) → k.state.rejected ≡ b → event_after header k.state k.line x ≡ Nothing
    go true e = (after_rejected header k x e).1
    go false e = (after_other header k x e d).1

module _ (p : Program) where
  -- the text that is handed out for a byte
  abbrev pub text_after : Kept → ℕ → Text
  text_after k x = event_text p (event_after p.header k.state k.line x) (kept_after p.header k x).line

  -- and byte by byte
  unfoldable pub handed : Kept → Text → Text
  handed k [] = []
  handed k (x ∷ m) = text_after k x ++ handed (kept_after p.header k x) m

  pub handed-append : (a b : Text) (k : Kept) → handed k (a ++ b) ≡ handed k a ++ handed (after_all p.header k a) b
  unfolding after_all handed
  handed-append [] b k = refl
  handed-append (x ∷ a) b k = rw (handed-append a b (kept_after p.header k x), append_assoc) refl

  pub text-none : (k : Kept) (x : ℕ) → x ≢ lf → text_after k x ≡ []
  text-none k x d = rw (event_none p.header k x d) refl

  handed_rejected : (m : Text) (k : Kept) → k.state.rejected ≡ true → handed k m ≡ []
  unfolding handed
  handed_rejected [] k e = refl
  handed_rejected (x ∷ m) k e =
      let q = after_rejected p.header k x e in
      rw (q.1, q.0) (handed_rejected m k e)

  -- ---- a piece

  -- so many bytes were taken from the i-th on: what is left and what is handed out is theirs
  record Took (k : Kept) (i : ℕ) (piece : Text) (e : Stop) : Type 0 where
    many : ℕ
    bytes : e.taken ≡ i + many
    left : e.kept ≡ after_all p.header k (take many piece)
    text : event_text p e.event e.kept.line ≡ handed k (take many piece)

  took_up : (piece : Text) (k : Kept) (i : ℕ) → Took k i piece (up_to_lf p.header k i piece)
  unfolding up_to_lf after_all handed
  took_up [] k i = record { many = 0; bytes = omega arith; left = refl; text = refl }
  took_up (x ∷ piece) k i = go (ℕ_discrete x lf) (took_up piece (kept_after p.header k x) (suc i))
    where
      go :
          Dec (x ≡ lf) → Took (kept_after p.header k x) (suc i) piece (up_to_lf p.header (kept_after p.header k x) (suc i) piece)
          → Took k i (x ∷ piece) (up_to_lf p.header k i (x ∷ piece))
      go (yes e) t =
          rw (up_lf p.header k i x piece e) (record { many = 1; bytes = omega arith; left = refl; text = sym (append-nil (text_after k x)) })
      go (no d) t =
          rw (up_other p.header k i x piece d)
          (record { many = suc t.many; bytes = t.bytes ∙ omega arith; left = t.left; text = t.text ∙ rw (text-none k x d) refl })

  took : (k : Kept) (piece : Text) → Took k 0 piece (stopped p.header k piece)
  took k piece = go k.state.rejected refl
    where
      go : (b : Bool) → k.state.rejected ≡ b → Took k 0 piece (stopped p.header k piece)
      go true e =
          rw (stopped_rejected p.header k piece e)
          (record {
            many = length piece;
            bytes = omega arith;
            left = sym (after_all_rejected p.header (take (length piece) piece) k e);
            text = sym (handed_rejected (take (length piece) piece) k e);
          })
      go false e = rw (stopped_going p.header k piece e) (took_up piece k 0)

  module _ (s : State) (piece : Text) (line : List ℕ) (r : Taken) (line₁ : List ℕ) (t : Takes p.header s piece line r line₁) where
    w : Took (keeping s line) 0 piece (stopped p.header (keeping s line) piece)
    w = took (keeping s line) piece

    many_taken : w.many ≡ r.taken
    many_taken = omega (arith, w.bytes, t.2)

    -- the state and the line buffer that a call leaves are those that the bytes leave that it took
    pub piece_left : Leaves p.header s line (take r.taken piece) r.state line₁
    piece_left = t.0 ∙ w.left ∙ ap (λ (j : ℕ). after_all p.header (keeping s line) (take j piece)) many_taken

    pub piece_text : event_text p r.event line₁ ≡ handed (keeping s line) (take r.taken piece)
    piece_text =
        ap₂ (λ (e : Event) (k : Kept). event_text p e k.line) t.1 t.0
        ∙ w.text
        ∙ ap (λ (j : ℕ). handed (keeping s line) (take j piece)) many_taken

-- ---- bytes one after the other

pub some-none : (header : Text) (s : State) (line : List ℕ) (k : Kept) → k ≡ keeping s line → LeavesSome header s line k.state k.line
unfolding after_all
some-none header s line k e = ([], e)

pub some_then :
    (header : Text) (s : State) (line : List ℕ) (s₁ : State) (line₁ : List ℕ) (s₂ : State) (line₂ : List ℕ)
    → LeavesSome header s line s₁ line₁ → LeavesSome header s₁ line₁ s₂ line₂ → LeavesSome header s line s₂ line₂
some_then header s line s₁ line₁ s₂ line₂ (a, e) (b, q) =
    (a ++ b, q ∙ ap (λ (k : Kept). after_all header k b) e ∙ sym (after-append header a b (keeping s line)))

-- ---- of a piece no more is taken than there is

up_most : (header : Text) (piece : Text) (k : Kept) (i : ℕ) → (up_to_lf header k i piece).taken ≤ i + length piece
unfolding up_to_lf
up_most header [] k i = omega arith
up_most header (x ∷ piece) k i = go (ℕ_discrete x lf) (up_most header piece (kept_after header k x) (suc i))
  where
    go :
        Dec (x ≡ lf) → (up_to_lf header (kept_after header k x) (suc i) piece).taken ≤ suc i + length piece
        → (up_to_lf header k i (x ∷ piece)).taken ≤ i + suc (length piece)
    go (yes e) h = omega (arith, ap (λ (u : Stop). u.taken) (up_lf header k i x piece e))
    go (no d) h = omega (arith, h, ap (λ (u : Stop). u.taken) (up_other header k i x piece d))

stopped_most : (header : Text) (k : Kept) (piece : Text) → (stopped header k piece).taken ≤ length piece
stopped_most header k piece = go k.state.rejected refl
  where
    go : (b : Bool) → k.state.rejected ≡ b → (stopped header k piece).taken ≤ length piece
    go true e = omega (arith, ap (λ (u : Stop). u.taken) (stopped_rejected header k piece e))
    go false e = omega (arith, ap (λ (u : Stop). u.taken) (stopped_going header k piece e), up_most header piece k 0)

pub piece_within :
    (header : Text) (s : State) (piece : Text) (line : List ℕ) (r : Taken) (line₁ : List ℕ) → Takes header s piece line r line₁
    → r.taken ≤ length piece
piece_within header s piece line r line₁ t = omega (arith, t.2, stopped_most header (keeping s line) piece)

-- ---- and of one with a byte, at least one

up_least : (header : Text) (piece : Text) (k : Kept) (i : ℕ) → i ≤ (up_to_lf header k i piece).taken
unfolding up_to_lf
up_least header [] k i = omega arith
up_least header (x ∷ piece) k i = go (ℕ_discrete x lf) (up_least header piece (kept_after header k x) (suc i))
  where
    go : Dec (x ≡ lf) → suc i ≤ (up_to_lf header (kept_after header k x) (suc i) piece).taken → i ≤ (up_to_lf header k i (x ∷ piece)).taken
    go (yes e) h = omega (arith, ap (λ (u : Stop). u.taken) (up_lf header k i x piece e))
    go (no d) h = omega (arith, h, ap (λ (u : Stop). u.taken) (up_other header k i x piece d))

stopped-some : (header : Text) (k : Kept) (piece : Text) → 0 < length piece → 0 < (stopped header k piece).taken
stopped-some header k [] h = absurd (omega (arith, h))
stopped-some header k (x ∷ piece) h = go k.state.rejected refl (ℕ_discrete x lf)
  where
    go : (b : Bool) → k.state.rejected ≡ b → Dec (x ≡ lf) → 0 < (stopped header k (x ∷ piece)).taken
    go true e d = omega (arith, ap (λ (u : Stop). u.taken) (stopped_rejected header k (x ∷ piece) e))
    go false e (yes q) =
        omega (arith, ap (λ (u : Stop). u.taken) (stopped_going header k (x ∷ piece) e ∙ up_lf header k 0 x piece q))
    go false e (no q) =
        omega (
          arith,
          ap (λ (u : Stop). u.taken) (stopped_going header k (x ∷ piece) e ∙ up_other header k 0 x piece q),
          up_least header piece (kept_after header k x) 1,
        )

pub piece_some :
    (header : Text) (s : State) (piece : Text) (line : List ℕ) (r : Taken) (line₁ : List ℕ) → Takes header s piece line r line₁
    → 0 < length piece → 0 < r.taken
piece_some header s piece line r line₁ t h = omega (arith, t.2, stopped-some header (keeping s line) piece h)
