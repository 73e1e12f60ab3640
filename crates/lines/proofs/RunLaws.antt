-- What is still to be handed out from a state on, for the input that is left: the output of the lines that are left.
-- Assumes nothing.
use mathlib.Core.Path.{◌≡◌, refl, sym, ap, ◌∙◌}
use mathlib.Core.Logic.{◌≢◌, ◌⊎◌, inl, inr}
use mathlib.Core.Bool.{Bool, true, false, not, ◌&&◌}
use mathlib.Core.List.{List, [], ◌∷◌, ◌++◌, append_assoc, append-nil, cons-ne-nil}
use Prim.Native.Nat.{ℕ, suc, ◌+◌, ◌^◌, ◌≤◌, ◌<◌}
use native.Mathlib.Decide.{dec_lt, ℕ_discrete}
use native.Mathlib.Omega.{arith}
use lib.Dec.{eqb}
use lib.ListN.{length, take, set, length-append, length-set}
use lib.Seq.{take-suc-set}
use borrow.Author.Tests.{eq-eqb, ne_eqb, lt-ltb, le-leb, lt-leb}
use Rattle.std.proofs.lemmas.Bool.{false_from_ne_true}
use Rattle.rules.specs.Numbers.{pick}
use Rattle.textrules.specs.Text.{Text, lf, same, lines}
use Rattle.textrules.specs.Programs.{bad_header, Program, output_from, under_header, output}
use Rattle.textrules.proofs.Laws.TextLaws.{all_append}
use Rattle.textrules.proofs.Promises.Lines.{NoLF, lines_cut, lines_open}
use Rattle.textrules.proofs.Promises.Outputs.{same_is}
use Rattle.lines.specs.declared.state.State.{State}
use Rattle.lines.specs.Stream.{at_start, most_lines, is_header, closed, next_line, longer, event_at_end, Kept, keeping, kept_after}
use Rattle.lines.specs.Say.{event_text, Regular}
use Rattle.lines.proofs.StateLaws.{header_over, closed_first, closed_over, closed_kept, after_rejected, after_lf, after_other, end_rejected, end_none, end_line}
use Rattle.lines.proofs.HandedLaws.{text_after}

-- a state at the start of line k
abbrev line_state : ℕ → Bool → State
line_state k b = record { number = k; length = 0; rejected = b }

module _ (p : Program) where
  -- what is handed out from here on
  unfoldable pub run : Kept → Text → Text
  run k [] = event_text p (event_at_end p.header k.state k.line) k.line
  run k (x ∷ m) = text_after p k x ++ run (kept_after p.header k x) m

  -- the output of the lines from line k on
  unfoldable pub remaining : ℕ → List Text → Text
  remaining k ls = pick (eqb k 1) (under_header p ls) (output_from p k ls)

  -- what line k gives, the first one too
  abbrev line_says : ℕ → Text → Text
  line_says k t = pick (eqb k 1) (pick (same t p.header) p.opening bad_header) (p.line_text k t)

  -- t is what has come of a line: the state and the buffer hold it, or know that it is too long
  abbrev Held : State → List ℕ → Text → Type 0
  Held s line t =
      ((s.length ≡ length t) × (length t ≤ p.longest) × (take s.length line ≡ t)) ⊎ ((p.longest < s.length) × (p.longest < length t))

  record Partial (s : State) (line : List ℕ) (t : Text) : Type 0 where
    going : s.rejected ≡ false
    some : 1 ≤ s.number
    full : length line ≡ p.longest
    no_lf : NoLF t
    is_held : Held s line t

  -- ---- after a bad header

  run_rejected : (m : Text) (k : Kept) → k.state.rejected ≡ true → run k m ≡ []
  unfolding run
  run_rejected [] k e = rw (end_rejected p.header k.state k.line e) refl
  run_rejected (x ∷ m) k e =
      let q = after_rejected p.header k x e in
      rw (q.1, q.0) (run_rejected m k e)

  -- ---- line k and those after it

  remaining_line :
      (k : ℕ) (t : Text) (ls : List Text) (u : Text) → 1 ≤ k
      → (k ≡ 1 → same t p.header ≡ true → u ≡ remaining 2 ls)
      → (k ≡ 1 → same t p.header ≡ false → u ≡ [])
      → (k ≢ 1 → u ≡ remaining (suc k) ls)
      → line_says k t ++ u ≡ remaining k (t ∷ ls)
  unfolding remaining output_from
  remaining_line k t ls u some good bad more = go (ℕ_discrete k 1)
    where
      first : (b : Bool) → same t p.header ≡ b → k ≡ 1 → pick b p.opening bad_header ++ u ≡ pick b (p.opening ++ output_from p 2 ls) bad_header
      first true q e = ap (λ (v : Text). p.opening ++ v) (good e q)
      first false q e = ap (λ (v : Text). bad_header ++ v) (bad e q) ∙ append-nil bad_header

      go : Dec (k ≡ 1) → line_says k t ++ u ≡ pick (eqb k 1) (under_header p (t ∷ ls)) (output_from p k (t ∷ ls))
      go (yes e) = rw (eq-eqb k 1 e) (first (same t p.header) refl e)
      go (no d) =
          rw (ne_eqb k 1 d)
          (ap (λ (v : Text). p.line_text k t ++ v) (more d ∙ rw (ne_eqb (suc k) 1 (λ e. d (omega (arith, some, e)))) refl))

  none_left : (k : ℕ) → k ≢ 1 → [] ≡ remaining k []
  unfolding remaining output_from
  none_left k d = rw (ne_eqb k 1 d) refl

  -- ---- one more character

  longer_held :
      (s : State) (line : List ℕ) (t : Text) (x : ℕ) → length line ≡ p.longest → Held s line t
      → Held (longer (length line) s) (set line s.length x) (t ++ (x ∷ []))
  longer_held s line t x f (inl h) = go (dec_lt s.length p.longest)
    where
      l : length (t ++ (x ∷ [])) ≡ length t + 1
      l = length-append t (x ∷ [])

      up : (longer (length line) s).length ≡ suc s.length
      up = ap (λ (b : Bool). pick b (suc s.length) s.length) (le-leb s.length (length line) (omega (arith, f, h.0, h.1)))

      go : Dec (s.length < p.longest) → Held (longer (length line) s) (set line s.length x) (t ++ (x ∷ []))
      go (yes k) =
          inl (
            omega (arith, l, up, h.0),
            omega (arith, l, h.0, k),
            ap (λ (j : ℕ). take j (set line s.length x)) up
                ∙ take-suc-set line s.length x (omega (arith, f, k))
                ∙ ap (λ (u : Text). u ++ (x ∷ [])) h.2,
          )
      go (no k) = inr (omega (arith, up, k), omega (arith, l, h.0, k))
  longer_held s line t x f (inr h) =
      inr (
        omega (arith, h.0, ap (λ (b : Bool). pick b (suc s.length) s.length) (lt-leb s.length (length line) (omega (arith, f, h.0)))),
        omega (arith, h.1, length-append t (x ∷ [])),
      )

  longer_partial :
      (s : State) (line : List ℕ) (t : Text) (x : ℕ) → x ≢ lf → Partial s line t
      → Partial (longer (length line) s) (set line s.length x) (t ++ (x ∷ []))
  longer_partial s line t x d g = record {
    going = refl;
    some = g.some;
    full = length-set line s.length x ∙ g.full;
    no_lf = all_append (λ y. y ≢ 10) t (x ∷ []) g.no_lf (d, tt);
    is_held = longer_held s line t x g.full g.is_held;
  }

  length_none : (s : State) (line : List ℕ) → Held s line [] → s.length ≡ 0
  length_none s line (inl h) = h.0
  length_none s line (inr h) = absurd (omega (arith, h.1))

  length_some : (s : State) (line : List ℕ) (x : ℕ) (t : Text) → Held s line (x ∷ t) → s.length ≢ 0
  length_some s line x t (inl h) e = omega (arith, h.0, e)
  length_some s line x t (inr h) e = omega (arith, h.0, e)

  begin_partial : (k : ℕ) (line : List ℕ) → 1 ≤ k → length line ≡ p.longest → Partial (line_state k false) line []
  begin_partial k line h f = record { going = refl; some = h; full = f; no_lf = tt; is_held = inl (refl, omega arith, refl) }

  -- ---- a whole line

  module _ (ok : Regular p) where
    too_long_header : (t : Text) → p.longest < length t → same t p.header ≡ false
    too_long_header t h =
        false_from_ne_true (same t p.header) (λ k. omega (arith, h, ap length (same_is t p.header k), ok.header_short))

    none-same : same [] p.header ≡ false
    none-same = false_from_ne_true (same [] p.header) (λ k. ok.header_some (sym (same_is [] p.header k)))

    held_header : (s : State) (line : List ℕ) (t : Text) → length line ≡ p.longest → Held s line t → is_header p.header s.length line ≡ same t p.header
    held_header s line t f (inl h) = rw (le-leb s.length (length line) (omega (arith, f, h.0, h.1)), h.2) refl
    held_header s line t f (inr h) =
        sym (header_over p.header s.length line (omega (arith, f, h.0))) ∙ sym (too_long_header t h.1)

    later_says :
        (s : State) (line : List ℕ) (t : Text) → s.number ≢ 1 → length line ≡ p.longest → Held s line t
        → event_text p (closed p.header s line) line ≡ p.line_text s.number t
    later_says s line t d f (inl h) =
        rw (closed_kept p.header s line d (omega (arith, f, h.0, h.1))) (ap (p.line_text s.number) h.2)
    later_says s line t d f (inr h) =
        rw (closed_over p.header s line d (omega (arith, f, h.0))) (sym (ok.too_long s.number t h.1))

    closed_says : (s : State) (line : List ℕ) (t : Text) → Partial s line t → event_text p (closed p.header s line) line ≡ line_says s.number t
    closed_says s line t g = go (ℕ_discrete s.number 1)
      where
        go : Dec (s.number ≡ 1) → event_text p (closed p.header s line) line ≡ line_says s.number t
        go (yes e) = rw (closed_first p.header s line e, held_header s line t g.full g.is_held, eq-eqb s.number 1 e) refl
        go (no d) = rw (ne_eqb s.number 1 d) (later_says s line t d g.full g.is_held)

    -- the state after its LF
    next_state :
        (s : State) (line : List ℕ) (t : Text) → Partial s line t → s.number < most_lines
        → next_line p.header s line ≡ line_state (suc s.number) (eqb s.number 1 && not (same t p.header))
    unfolding next_line
    next_state s line t g h = rw (lt-ltb s.number most_lines h, held_header s line t g.full g.is_held) refl

    -- ---- the end

    -- nothing after the last LF
    end_between : (s : State) (line : List ℕ) → Partial s line [] → event_text p (event_at_end p.header s line) line ≡ remaining s.number []
    unfolding remaining output_from
    end_between s line g = go (ℕ_discrete s.number 1)
      where
        z : s.length ≡ 0
        z = length_none s line g.is_held

        go : Dec (s.number ≡ 1) → event_text p (event_at_end p.header s line) line ≡ pick (eqb s.number 1) bad_header (output_from p s.number [])
        go (yes e) =
            rw (end_line p.header s line g.going (rw (eq-eqb s.length 0 z, eq-eqb s.number 1 e) refl))
            (closed_says s line [] g ∙ rw (eq-eqb s.number 1 e, none-same) refl)
        go (no d) =
            rw (end_none p.header s line g.going (rw (eq-eqb s.length 0 z, ne_eqb s.number 1 d) refl), ne_eqb s.number 1 d) refl

    -- a last line without its LF
    end_open :
        (s : State) (line : List ℕ) (x : ℕ) (t : Text) → Partial s line (x ∷ t)
        → event_text p (event_at_end p.header s line) line ≡ remaining s.number ((x ∷ t) ∷ [])
    end_open s line x t g =
        rw (end_line p.header s line g.going (rw (ne_eqb s.length 0 (length_some s line x t g.is_held)) refl)) (closed_says s line (x ∷ t) g)
        ∙ sym (append-nil (line_says s.number (x ∷ t)))
        ∙ remaining_line s.number (x ∷ t) [] [] g.some (λ e q. none_left 2 (λ w. omega (arith, w))) (λ e q. refl)
        (λ d. none_left (suc s.number) (λ e. d (omega (arith, g.some, e))))

    -- ---- every input

    abbrev Remains : Text → Type 0
    Remains m =
        (s : State) (line : List ℕ) (t : Text) → Partial s line t → s.number + length m < 2 ^ 64
        → run (keeping s line) m ≡ remaining s.number (lines (t ++ m))

    -- a new line begins
    run_begun :
        (m : Text) → Remains m → (k : ℕ) (line : List ℕ) (b : Bool) → b ≡ false → length line ≡ p.longest → suc k + length m < 2 ^ 64
        → run (keeping (line_state (suc k) b) line) m ≡ remaining (suc k) (lines m)
    run_begun m ih k line b e f h =
        ap (λ (c : Bool). run (keeping (line_state (suc k) c) line) m) e
        ∙ ih (line_state (suc k) false) line [] (begin_partial (suc k) line (omega arith) f) h

    run_line :
        (m : Text) → Remains m → (s : State) (line : List ℕ) (t : Text) → Partial s line t → s.number + suc (length m) < 2 ^ 64
        → line_says s.number t ++ run (keeping (line_state (suc s.number) (eqb s.number 1 && not (same t p.header))) line) m
        ≡ remaining s.number (t ∷ lines m)
    run_line m ih s line t g h =
        let k : ℕ = s.number in
        let b : Bool = eqb k 1 && not (same t p.header) in
        remaining_line k t (lines m) (run (keeping (line_state (suc k) b) line) m) g.some
        (λ e w. run_begun m ih k line b (rw (eq-eqb k 1 e, w) refl) g.full (omega (arith, h)) ∙ ap (λ (j : ℕ). remaining (suc j) (lines m)) e)
        (λ e w. run_rejected m (keeping (line_state (suc k) b) line) (rw (eq-eqb k 1 e, w) refl))
        (λ d. run_begun m ih k line b (rw (ne_eqb k 1 d) refl) g.full (omega (arith, h)))

    run_step :
        (x : ℕ) (m : Text) → Remains m → (s : State) (line : List ℕ) (t : Text) → Partial s line t
        → s.number + suc (length m) < 2 ^ 64
        → text_after p (keeping s line) x ++ run (kept_after p.header (keeping s line) x) m ≡ remaining s.number (lines (t ++ (x ∷ m)))
    run_step x m ih s line t g h = go (ℕ_discrete x lf)
      where
        go : Dec (x ≡ lf) → text_after p (keeping s line) x ++ run (kept_after p.header (keeping s line) x) m ≡ remaining s.number (lines (t ++ (x ∷ m)))
        go (yes e) =
            let q = after_lf p.header (keeping s line) x g.going e in
            rw (q.0, ap (λ (j : Kept). j.line) q.0, q.1, closed_says s line t g, next_state s line t g (omega (arith, h))) (run_line m ih s line t g h)
            ∙ ap (remaining s.number) (sym (ap (λ (y : ℕ). lines (t ++ (y ∷ m))) e ∙ lines_cut t m g.no_lf))
        go (no d) =
            let q = after_other p.header (keeping s line) x g.going d in
            rw (q.0, q.1) (ih (longer (length line) s) (set line s.length x) (t ++ (x ∷ [])) (longer_partial s line t x d g) (omega (arith, h)))
            ∙ ap (λ (u : Text). remaining s.number (lines u)) (append_assoc t (x ∷ []) m)

    -- what is left to hand out is the output of the lines that are left, the first of which begins with t
    run_remaining : (m : Text) → Remains m
    unfolding run lines
    run_remaining [] s line [] g h = end_between s line g
    run_remaining [] s line (x ∷ t) g h =
        end_open s line x t g
        ∙ ap (remaining s.number) (sym (ap lines (append-nil (x ∷ t)) ∙ lines_open (x ∷ t) g.no_lf (cons-ne-nil x t)))
    run_remaining (x ∷ m) s line t g h = run_step x m (run_remaining m) s line t g h

    pub run_output :
        (line : List ℕ) (input : Text) → length line ≡ p.longest → suc (length input) < 2 ^ 64 → run (keeping at_start line) input ≡ output p input
    unfolding remaining output
    run_output line input f h = run_remaining input at_start line [] (begin_partial 1 line (omega arith) f) (omega (arith, h))
