-- RULES 8: what the text programs have in common: a text in under a header, a text out, line by line.
use Rattle.std.specs.Prelude.{List, [], ◌∷◌, ◌++◌, ℕ, suc}
use Rattle.rules.specs.Numbers.{pick}
use Rattle.textrules.specs.Text.{Text, ascii, lf, tabulator, same, lines, whole_lines, decimal}

-- the fields after the first, each behind a tab, and the LF
abbrev pub after_tabs : List Text → Text
after_tabs [] = lf ∷ []
after_tabs (f ∷ fs) = tabulator ∷ (f ++ after_tabs fs)

-- a line of the output, from its first field and the others
abbrev pub out_line : Text → List Text → Text
out_line f fs = f ++ after_tabs fs

-- the one line of the output where the input has another header, or none
abbrev pub bad_header : Text
bad_header = out_line (ascii "bad header") []

-- what the bad line k gives
abbrev pub questioned : ℕ → Text
questioned k = out_line (ascii "?") (decimal k ∷ [])

-- what tells one program from another
pub record Program : Type 0 where
  -- the first line that it asks for
  pub header : Text
  -- the characters of the longest line, without its LF
  pub longest : ℕ
  -- the first line that it writes
  pub opening : Text
  -- what line k gives
  pub line_text : ℕ → Text → Text

-- what the lines from line k on give
unfoldable pub output_from : Program → ℕ → List Text → Text
output_from p k [] = []
output_from p k (s ∷ later) = p.line_text k s ++ output_from p (suc k) later

-- nothing but `bad header` is given where the first line is another, or is missing
abbrev pub under_header : Program → List Text → Text
under_header p [] = bad_header
under_header p (s ∷ later) = pick (same s p.header) (p.opening ++ output_from p 2 later) bad_header

-- the whole output
unfoldable pub output : Program → Text → Text
output p input = under_header p (lines input)

-- ---- The output of an input that broke off

-- nothing for nothing: no `bad header` where no line came
abbrev pub output_some : Program → Text → Text
output_some p [] = []
output_some p (x ∷ s) = output p (x ∷ s)

-- a line that no LF closed may have gone on, so nothing is said of it; where no LF came, nothing is said at all
unfoldable pub output_cut : Program → Text → Text
output_cut p input = output_some p (whole_lines input)
