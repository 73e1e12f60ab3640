-- RULES 8: what a program makes of its input, by the lines.
-- Assumes nothing.
use mathlib.Core.Path.{◌≡◌, refl, sym, ap, ap₂, ◌∙◌}
use mathlib.Core.Logic.{◌≢◌}
use mathlib.Core.Bool.{Bool, true, false, not, ◌&&◌, false≢true}
use mathlib.Core.List.{List, [], ◌∷◌, ◌++◌, map, append_assoc}
use Prim.Native.Nat.{ℕ, suc, ◌+◌}
use native.Mathlib.Nat.{zero-add}
use native.Mathlib.Omega.{arith}
use lib.Dec.{eqb}
use lib.ListN.{length, get_or}
use borrow.Author.Tests.{eqb-true, eqb-false, eq-eqb, not-true}
use Rattle.algebra.specs.Sums.{All}
use Rattle.algebra.specs.Tables.{tab}
use Rattle.algebra.proofs.TableLaws.{tab-zero, tab-suc, tab_ext}
use Rattle.rules.specs.Numbers.{pick}
use Rattle.textrules.specs.Text.{Text, ascii, same, lines, every, decimal}
use Rattle.textrules.specs.Programs.{after_tabs, out_line, bad_header, Program, output_from, under_header, output, output_some, output_cut}
use Rattle.rules.proofs.Laws.OneOfLaws.{and_both}
use Rattle.textrules.proofs.Laws.TextLaws.{all_append, all_so, every_all, Digit, decimal_digits, tabbed}
use Rattle.textrules.proofs.Promises.Lines.{NoLF, joined_lines, lines_promise}

-- ---- The statement

-- the texts, one after the other
abbrev pub joined_texts : List Text → Text
joined_texts [] = []
joined_texts (t ∷ ts) = t ++ joined_texts ts

-- what is promised of every program
pub record Outputs (p : Program) : Type 0 where
  -- under its own first line the output has what each line gives; the line at index i after the header is line i + 2
  pub numbered :
      (input : Text) (later : List Text) → lines input ≡ p.header ∷ later
      → output p input ≡ p.opening ++ joined_texts (tab (length later) (λ i. p.line_text (i + 2) (get_or later i [])))
  -- with another first line, or none, it is one line
  pub bad_header_lem :
      (input first : Text) (later : List Text) → lines input ≡ first ∷ later → first ≢ p.header
      → output p input ≡ ascii "bad header\n"
  pub no_header : (input : Text) → lines input ≡ [] → output p input ≡ ascii "bad header\n"
  -- of an input that broke off, the lines that an LF closed give what an input of these alone would; with none, nothing is given
  pub cut :
      (l : Text) (ls : List Text) (rest : Text) → All NoLF (l ∷ ls) → NoLF rest
      → output_cut p (joined_lines (l ∷ ls) ++ rest) ≡ output p (joined_lines (l ∷ ls))
  pub cut_first : (rest : Text) → NoLF rest → output_cut p rest ≡ []

-- ---- the header

pub same_self : (s : Text) → same s s ≡ true
unfolding same
same_self [] = refl
same_self (x ∷ s) = ap₂ ◌&&◌ (eq-eqb x x refl) (same_self s)

pub same_is : (s t : Text) → same s t ≡ true → s ≡ t
unfolding same
same_is [] [] h = refl
same_is [] (y ∷ t) h = absurd (false≢true h)
same_is (x ∷ s) [] h = absurd (false≢true h)
same_is (x ∷ s) (y ∷ t) h = let k = and_both (eqb x y) (same s t) h in ap₂ ◌∷◌ (eqb-true x y k.0) (same_is s t k.1)

pub same_not : (s t : Text) → same s t ≡ false → s ≢ t
same_not s t h e = false≢true (sym h ∙ ap (same s) (sym e) ∙ same_self s)

module _ (p : Program) where
  header_bad : (input first : Text) (later : List Text) → lines input ≡ first ∷ later → first ≢ p.header → output p input ≡ bad_header
  unfolding output
  header_bad input first later e h = ap (under_header p) e ∙ go (same first p.header) _ refl
    where
      go : (b : Bool) (t : Text) → same first p.header ≡ b → pick b t bad_header ≡ bad_header
      go true t k = absurd (h (same_is first p.header k))
      go false t k = refl

  header-none : (input : Text) → lines input ≡ [] → output p input ≡ bad_header
  unfolding output
  header-none input e = ap (under_header p) e

  -- ---- the lines under it

  -- what line k and those after it give
  given : ℕ → List Text → ℕ → Text
  given k later i = p.line_text (i + k) (get_or later i [])

  given_first : (k : ℕ) (s : Text) (later : List Text) → given k (s ∷ later) 0 ≡ p.line_text k s
  unfolding given
  given_first k s later = ap (λ (m : ℕ). p.line_text m s) (zero-add k)

  given_next : (k : ℕ) (s : Text) (later : List Text) (i : ℕ) → given k (s ∷ later) (suc i) ≡ given (suc k) later i
  unfolding given
  given_next k s later i =
      let e : suc i + k ≡ i + suc k = omega arith in ap (λ (m : ℕ). p.line_text m (get_or later i [])) e

  from_line : (k : ℕ) (later : List Text) → output_from p k later ≡ joined_texts (tab (length later) (given k later))
  unfolding output_from
  from_line k [] = sym (ap joined_texts (tab-zero (given k [])))
  from_line k (s ∷ later) =
      sym (ap joined_texts (tab-suc (length later) (given k (s ∷ later)))
      ∙ ap₂ ◌++◌ (given_first k s later)
      (ap joined_texts (tab_ext (length later) (λ i. given k (s ∷ later) (suc i)) (given (suc k) later) (λ i h. given_next k s later i))
      ∙ sym (from_line (suc k) later)))

  -- the header's own line first
  pub output_under : (input : Text) (later : List Text) → lines input ≡ p.header ∷ later → output p input ≡ p.opening ++ output_from p 2 later
  unfolding output
  output_under input later e =
      ap (under_header p) e ∙ ap (λ (b : Bool). pick b (p.opening ++ output_from p 2 later) bad_header) (same_self p.header)

  lines_numbered :
      (input : Text) (later : List Text) → lines input ≡ p.header ∷ later
      → output p input ≡ p.opening ++ joined_texts (tab (length later) (given 2 later))
  lines_numbered input later e = output_under input later e ∙ ap (λ (t : Text). p.opening ++ t) (from_line 2 later)

  -- ---- an input that broke off

  cut_lines :
      (l : Text) (ls : List Text) (rest : Text) → All NoLF (l ∷ ls) → NoLF rest
      → output_cut p (joined_lines (l ∷ ls) ++ rest) ≡ output p (joined_lines (l ∷ ls))
  unfolding output_cut
  cut_lines l ls rest h k = ap (output_some p) (lines_promise.whole_lines_lem (l ∷ ls) rest h k) ∙ go l
    where
      go : (l : Text) → output_some p (joined_lines (l ∷ ls)) ≡ output p (joined_lines (l ∷ ls))
      go [] = refl
      go (x ∷ l) = refl

  cut-none : (rest : Text) → NoLF rest → output_cut p rest ≡ []
  unfolding output_cut
  cut-none rest k = ap (output_some p) (lines_promise.whole_lines_lem [] rest tt k)

pub outputs : (p : Program) → Outputs p
unfolding given
outputs p = record {
  numbered = lines_numbered p;
  bad_header_lem = header_bad p;
  no_header = header-none p;
  cut = cut_lines p;
  cut_first = cut-none p;
}

-- ---- one LF, at the end

after_tabs_lem : (fs : List Text) → after_tabs fs ≡ tabbed fs ++ ascii "\n"
after_tabs_lem [] = refl
after_tabs_lem (f ∷ fs) =
    ap (λ t. 9 ∷ t) (ap (λ t. f ++ t) (after_tabs_lem fs) ∙ sym (append_assoc f (tabbed fs) (ascii "\n")))

tabbed_no_lf : (fs : List Text) → All NoLF fs → NoLF (tabbed fs)
tabbed_no_lf [] h = tt
tabbed_no_lf (f ∷ fs) h = (λ e. omega (arith, e), all_append (λ x. x ≢ 10) f (tabbed fs) h.0 (tabbed_no_lf fs h.1))

-- a line of the output, and its LF
pub out_line_lem : (f : Text) (fs : List Text) → out_line f fs ≡ (f ++ tabbed fs) ++ ascii "\n"
out_line_lem f fs = ap (λ t. f ++ t) (after_tabs_lem fs) ∙ sym (append_assoc f (tabbed fs) (ascii "\n"))

pub line_no_lf : (f : Text) (fs : List Text) → NoLF f → All NoLF fs → NoLF (f ++ tabbed fs)
line_no_lf f fs h k = all_append (λ x. x ≢ 10) f (tabbed fs) h (tabbed_no_lf fs k)

pub one_lf :
    (f : Text) (fs : List Text) → NoLF f → All NoLF fs → (t : Text) × NoLF t × (out_line f fs ≡ t ++ ascii "\n")
one_lf f fs h k = (f ++ tabbed fs, line_no_lf f fs h k, out_line_lem f fs)

pub decimal_no_lf : (x : ℕ) → NoLF (decimal x)
decimal_no_lf x = all_so Digit (λ c. c ≢ 10) (λ c h e. omega (arith, h.0, e)) (decimal x) (decimal_digits x)

pub decimals_no_lf : (xs : List ℕ) → All NoLF (map decimal xs)
decimals_no_lf [] = tt
decimals_no_lf (x ∷ xs) = (decimal_no_lf x, decimals_no_lf xs)

-- a quoted text: to be computed
pub quoted_no_lf : (t : Text) → every (λ x. not (eqb x 10)) t ≡ true → NoLF t
quoted_no_lf t h =
    all_so (λ x. not (eqb x 10) ≡ true) (λ x. x ≢ 10) (λ x k. eqb-false x 10 (not-true (eqb x 10) k)) t
    (every_all (λ x. not (eqb x 10)) t h)
