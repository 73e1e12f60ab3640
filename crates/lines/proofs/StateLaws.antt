-- One byte's rule, case by case, as the code goes.
-- Assumes nothing.
use mathlib.Core.Path.{◌≡◌, refl, sym, ap, ◌∙◌}
use mathlib.Core.Logic.{◌≢◌}
use mathlib.Core.Bool.{Bool, true, false, not}
use mathlib.Core.List.{List}
use Prim.Native.Nat.{ℕ, ◌+◌, ◌-◌, ◌≤◌, ◌<◌}
use native.Mathlib.Nat.{sub-zero}
use native.Mathlib.Numerals.{add-one}
use lib.Dec.{eqb}
use lib.ListN.{length, take, set}
use lib.Seq.{set_out}
use borrow.Author.Tests.{eq-eqb, ne_eqb, lt-ltb, le-ltb, le-leb, lt-leb}
use Rattle.textrules.specs.Text.{Text, lf, same}
use Rattle.lines.specs.declared.state.State.{State}
use Rattle.lines.specs.declared.state.Event.TheVariants.{Nothing, Header, Line, Long}
use Rattle.lines.specs.Stream.{most_lines, following, is_header, closed, next_line, longer, is_between, state_after, line_after, event_after, event_at_end, Kept, keeping, kept_after}

pub following_more : (k : ℕ) → k < most_lines → k + 1 ≡ following k
following_more k h = rw (lt-ltb k most_lines h) (add-one k)

pub following_same : (k : ℕ) → most_lines ≤ k → k ≡ following k
following_same k h = rw (le-ltb k most_lines h)

pub keep_out : (line : List ℕ) (p x : ℕ) → length line ≤ p → line ≡ set line p x
keep_out line p x h = sym (set_out line p x h)

-- ---- the header

module _ (header : Text) (l : ℕ) (line : List ℕ) where
  pub header_over : length line < l → false ≡ is_header header l line
  header_over h = rw (lt-leb l (length line) h) refl

  pub header_kept : l ≤ length line → (r : Bool) → r ≡ same (take (l - 0) line) header → r ≡ is_header header l line
  header_kept h r k = rw (le-leb l (length line) h) (k ∙ ap (λ (n : ℕ). same (take n line) header) (sub-zero l))

module _ (header : Text) (s : State) (line : List ℕ) where
  -- ---- a whole line

  pub closed_first : s.number ≡ 1 → closed header s line ≡ Header (is_header header s.length line)
  unfolding closed
  closed_first e = rw (eq-eqb s.number 1 e) refl

  pub closed_over : s.number ≢ 1 → length line < s.length → closed header s line ≡ Long s.number
  unfolding closed
  closed_over d h = rw (ne_eqb s.number 1 d, lt-leb s.length (length line) h) refl

  pub closed_kept : s.number ≢ 1 → s.length ≤ length line → closed header s line ≡ Line s.number s.length
  unfolding closed
  closed_kept d h = rw (ne_eqb s.number 1 d, le-leb s.length (length line) h) refl

  -- ---- at the end

  pub end_rejected : s.rejected ≡ true → event_at_end header s line ≡ Nothing
  unfolding event_at_end
  end_rejected e = rw e refl

  module _ (going : s.rejected ≡ false) where
    pub end_none : is_between s ≡ true → event_at_end header s line ≡ Nothing
    unfolding event_at_end
    end_none e = rw (going, e) refl

    pub end_line : is_between s ≡ false → event_at_end header s line ≡ closed header s line
    unfolding event_at_end
    end_line e = rw (going, e) refl

-- ---- after a byte

module _ (header : Text) (k : Kept) (x : ℕ) where
  pub after_rejected : k.state.rejected ≡ true → (kept_after header k x ≡ k) × (event_after header k.state k.line x ≡ Nothing)
  unfolding state_after line_after event_after
  after_rejected e = rw e (refl, refl)

  module _ (going : k.state.rejected ≡ false) where
    pub after_lf :
        x ≡ lf
        → (kept_after header k x ≡ keeping (next_line header k.state k.line) k.line)
        × (event_after header k.state k.line x ≡ closed header k.state k.line)
    unfolding state_after line_after event_after
    after_lf e = rw (going, eq-eqb x lf e) (refl, refl)

    pub after_other :
        x ≢ lf
        → (kept_after header k x ≡ keeping (longer (length k.line) k.state) (set k.line k.state.length x))
        × (event_after header k.state k.line x ≡ Nothing)
    unfolding state_after line_after event_after
    after_other d = rw (going, ne_eqb x lf d) (refl, refl)

-- ---- between two lines

pub between_not : (s : State) → s.length ≢ 0 → false ≡ is_between s
between_not s d = rw (ne_eqb s.length 0 d)

pub between_so : (s : State) → s.length ≡ 0 → not (eqb s.number 1) ≡ is_between s
between_so s e = rw (eq-eqb s.length 0 e)
