-- RULES 8: what the lines of a text are.
-- Assumes nothing.
use mathlib.Core.Path.{◌≡◌, refl, sym, ap, ap₂, ◌∙◌}
use mathlib.Core.Logic.{◌≢◌, ◌⊎◌, inl, inr}
use mathlib.Core.List.{List, [], ◌∷◌, ◌++◌, append_assoc, cons-ne-nil}
use mathlib.Core.Bool.{false}
use Prim.Native.Nat.{ℕ}
use native.Mathlib.Decide.{ℕ_discrete}
use borrow.Author.Tests.{ne_eqb}
use Rattle.algebra.specs.Sums.{All, AllN}
use Rattle.textrules.specs.Text.{Text, ascii, parted, lines, onto_whole, whole_lines}

-- ---- The statement

-- no LF, which is 10
abbrev pub NoLF : Text → Type 0
NoLF t = AllN (λ x. x ≢ 10) t

-- lines, each with the LF that closes it
abbrev pub joined_lines : List Text → Text
joined_lines [] = []
joined_lines (l ∷ ls) = l ++ ascii "\n" ++ joined_lines ls

-- what is promised of a text's lines
pub record Lines : Type 0 where
  -- after the last LF there is no line, if nothing follows it
  pub all_closed : (ls : List Text) → All NoLF ls → lines (joined_lines ls) ≡ ls
  -- and one that is not closed, if something does
  pub last_open :
      (ls : List Text) (t : Text) → All NoLF ls → NoLF t → t ≢ [] → lines (joined_lines ls ++ t) ≡ ls ++ (t ∷ [])
  -- each text is one of these, so this is what its lines are
  pub one_of_these :
      (s : Text)
      → ((ls : List Text) × All NoLF ls × (s ≡ joined_lines ls))
      ⊎ ((ls : List Text) × (t : Text) × All NoLF ls × NoLF t × (t ≢ []) × (s ≡ joined_lines ls ++ t))
  pub no_lf : (s : Text) → All NoLF (lines s)
  -- the whole lines of a text: what no LF closes is left out
  pub whole_lines_lem : (ls : List Text) (t : Text) → All NoLF ls → NoLF t → whole_lines (joined_lines ls ++ t) ≡ joined_lines ls

-- ---- The proof

-- the first line, up to an LF
pub lines_cut : (u t : Text) → NoLF u → lines (u ++ 10 ∷ t) ≡ u ∷ lines t
unfolding lines
lines_cut [] t h = refl
lines_cut (x ∷ u) t h = ap₂ (λ b l. parted b x l) (ne_eqb x 10 h.0) (lines_cut u t h.1)

pub lines_open : (t : Text) → NoLF t → t ≢ [] → lines t ≡ t ∷ []
unfolding lines
lines_open [] h some = absurd (some refl)
lines_open (x ∷ []) h some = ap (λ b. parted b x (lines [])) (ne_eqb x 10 h.0)
lines_open (x ∷ y ∷ t) h some =
    ap₂ (λ b l. parted b x l) (ne_eqb x 10 h.0) (lines_open (y ∷ t) h.1 (λ e. cons-ne-nil y t e))

lines_closed : (ls : List Text) → All NoLF ls → lines (joined_lines ls) ≡ ls
unfolding lines
lines_closed [] h = refl
lines_closed (l ∷ ls) h =
    ap lines (append_assoc l (10 ∷ []) (joined_lines ls)) ∙ lines_cut l (joined_lines ls) h.0 ∙ ap (λ r. l ∷ r) (lines_closed ls h.1)

lines_last : (ls : List Text) (t : Text) → All NoLF ls → NoLF t → t ≢ [] → lines (joined_lines ls ++ t) ≡ ls ++ (t ∷ [])
lines_last [] t h k some = lines_open t k some
lines_last (l ∷ ls) t h k some =
    ap lines (append_assoc (l ++ 10 ∷ []) (joined_lines ls) t ∙ append_assoc l (10 ∷ []) (joined_lines ls ++ t))
    ∙ lines_cut l (joined_lines ls ++ t) h.0
    ∙ ap (λ r. l ∷ r) (lines_last ls t h.1 k some)

abbrev Form : Text → Type 0
Form s =
    ((ls : List Text) × All NoLF ls × (s ≡ joined_lines ls))
    ⊎ ((ls : List Text) × (t : Text) × All NoLF ls × NoLF t × (t ≢ []) × (s ≡ joined_lines ls ++ t))

form_lf : (x : ℕ) (s : Text) → x ≡ 10 → Form s → Form (x ∷ s)
form_lf x s e (inl (ls, h, is)) = inl ([] ∷ ls, (tt, h), ap₂ ◌∷◌ e is)
form_lf x s e (inr (ls, t, h, k, some, is)) = inr ([] ∷ ls, t, (tt, h), k, some, ap₂ ◌∷◌ e is)

form_other : (x : ℕ) (s : Text) → x ≢ 10 → Form s → Form (x ∷ s)
form_other x s e (inl ([], h, is)) = inr ([], x ∷ [], tt, (e, tt), cons-ne-nil x [], ap (λ r. x ∷ r) is)
form_other x s e (inl (l ∷ ls, h, is)) = inl ((x ∷ l) ∷ ls, ((e, h.0), h.1), ap (λ r. x ∷ r) is)
form_other x s e (inr ([], t, h, k, some, is)) = inr ([], x ∷ t, tt, (e, k), cons-ne-nil x t, ap (λ r. x ∷ r) is)
form_other x s e (inr (l ∷ ls, t, h, k, some, is)) = inr ((x ∷ l) ∷ ls, t, ((e, h.0), h.1), k, some, ap (λ r. x ∷ r) is)

forms : (s : Text) → Form s
forms [] = inl ([], tt, refl)
forms (x ∷ s) = go (ℕ_discrete x 10) (forms s)
  where
    go : Dec (x ≡ 10) → Form s → Form (x ∷ s)
    go (yes e) f = form_lf x s e f
    go (no e) f = form_other x s e f

all_last : (ls : List Text) (t : Text) → All NoLF ls → NoLF t → All NoLF (ls ++ (t ∷ []))
all_last [] t h k = (k, tt)
all_last (l ∷ ls) t h k = (h.0, all_last ls t h.1 k)

none_has : (s : Text) → Form s → All NoLF (lines s)
none_has s (inl (ls, h, is)) = rw (is, lines_closed ls h) h
none_has s (inr (ls, t, h, k, some, is)) = rw (is, lines_last ls t h k some) (all_last ls t h k)

whole-none : (t : Text) → NoLF t → whole_lines t ≡ []
unfolding whole_lines
whole-none [] h = refl
whole-none (x ∷ t) h = ap₂ (λ b s. onto_whole b x s) (ne_eqb x 10 h.0) (whole-none t h.1)

whole_cut : (u t : Text) → NoLF u → whole_lines (u ++ 10 ∷ t) ≡ u ++ 10 ∷ whole_lines t
unfolding whole_lines
whole_cut [] t h = refl
whole_cut (x ∷ u) t h = ap₂ (λ b s. onto_whole b x s) (ne_eqb x 10 h.0) (whole_cut u t h.1) ∙ go u
  where
    go : (u : Text) → onto_whole false x (u ++ 10 ∷ whole_lines t) ≡ x ∷ (u ++ 10 ∷ whole_lines t)
    go [] = refl
    go (y ∷ u) = refl

wholes : (ls : List Text) (t : Text) → All NoLF ls → NoLF t → whole_lines (joined_lines ls ++ t) ≡ joined_lines ls
wholes [] t h k = whole-none t k
wholes (l ∷ ls) t h k =
    ap whole_lines (append_assoc (l ++ 10 ∷ []) (joined_lines ls) t ∙ append_assoc l (10 ∷ []) (joined_lines ls ++ t))
    ∙ whole_cut l (joined_lines ls ++ t) h.0
    ∙ ap (λ s. l ++ 10 ∷ s) (wholes ls t h.1 k)
    ∙ sym (append_assoc l (10 ∷ []) (joined_lines ls))

pub lines_promise : Lines
lines_promise = record {
  all_closed = lines_closed;
  last_open = lines_last;
  one_of_these = forms;
  no_lf = λ s. none_has s (forms s);
  whole_lines_lem = wholes;
}
