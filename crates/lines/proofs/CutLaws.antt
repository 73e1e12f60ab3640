-- An input that broke off: what its bytes hand out is the output of its whole lines.
-- Assumes nothing.
use mathlib.Core.Path.{◌≡◌, refl, sym, ap, ◌∙◌}
use mathlib.Core.Logic.{◌≢◌, ◌⊎◌, inl, inr}
use mathlib.Core.Bool.{Bool, true, false, not, ◌&&◌}
use mathlib.Core.List.{List, [], ◌∷◌, ◌++◌, append_assoc, append-nil}
use Prim.Native.Nat.{ℕ, suc, ◌^◌, ◌≤◌, ◌<◌}
use native.Mathlib.Omega.{arith}
use lib.Dec.{eqb, ltb}
use lib.ListN.{length, length-append}
use borrow.Author.Tests.{ne_eqb, ltb-false}
use Rattle.algebra.specs.Sums.{All}
use Rattle.rules.specs.Numbers.{pick}
use Rattle.textrules.specs.Text.{Text, lf}
use Rattle.textrules.specs.Programs.{Program, output, output_cut}
use Rattle.textrules.proofs.Promises.Lines.{NoLF, joined_lines, lines_promise}
use Rattle.textrules.proofs.Promises.Outputs.{outputs}
use Rattle.lines.specs.declared.state.State.{State}
use Rattle.lines.specs.declared.state.Event.{Event}
use Rattle.lines.specs.declared.state.Event.TheVariants.{Nothing}
use Rattle.lines.specs.Stream.{at_start, most_lines, following, is_header, next_line, longer, state_after, event_at_end, Kept, keeping, kept_after, after_all}
use Rattle.lines.specs.Say.{event_text, Regular}
use Rattle.lines.proofs.StateLaws.{after_rejected, after_lf, end_rejected, end_none}
use Rattle.lines.proofs.HandedLaws.{handed, after-append, handed-append, text-none}
use Rattle.lines.proofs.RunLaws.{run, run_output}

-- ---- after an LF nothing happens at the end

module _ (header : Text) where
  -- lines are counted from 1
  abbrev Counted : Kept → Type 0
  Counted k = 1 ≤ k.state.number

  counted_next : (k : Kept) (x : ℕ) → Counted k → Counted (kept_after header k x)
  unfolding state_after next_line
  counted_next k x h = go k.state.rejected (eqb x lf) (ltb k.state.number most_lines)
    where
      go :
          (a b c : Bool)
          → 1
          ≤ (pick a k.state
          (pick b
          (record {
            number = pick c (suc k.state.number) k.state.number;
            length = 0;
            rejected = eqb k.state.number 1 && not (is_header header k.state.length k.line);
          })
          (longer (length k.line) k.state))
          ).number
      go true b c = h
      go false true true = omega arith
      go false true false = h
      go false false c = h

  counted_all : (m : Text) (k : Kept) → Counted k → Counted (after_all header k m)
  unfolding after_all
  counted_all [] k h = h
  counted_all (x ∷ m) k h = counted_all m (kept_after header k x) (counted_next k x h)

  following_more_than_one : (n : ℕ) → 1 ≤ n → following n ≢ 1
  following_more_than_one n h = go (ltb n most_lines) refl
    where
      go : (b : Bool) → ltb n most_lines ≡ b → pick b (suc n) n ≢ 1
      go true e q = omega (arith, h, q)
      go false e q = omega (arith, ltb-false n most_lines e, q)

  abbrev at_end : Kept → Event
  at_end k = event_at_end header k.state k.line

  next_line_end : (s : State) (line l : List ℕ) → 1 ≤ s.number → event_at_end header (next_line header s line) l ≡ Nothing
  unfolding next_line
  next_line_end s line l h = go (next_line header s line).rejected refl
    where
      go : (b : Bool) → (next_line header s line).rejected ≡ b → event_at_end header (next_line header s line) l ≡ Nothing
      go true e = end_rejected header (next_line header s line) l e
      go false e =
          end_none header (next_line header s line) l e (ap not (ne_eqb (following s.number) 1 (following_more_than_one s.number h)))

  lf_end : (k : Kept) → Counted k → at_end (kept_after header k lf) ≡ Nothing
  lf_end k h = go k.state.rejected refl
    where
      go : (b : Bool) → k.state.rejected ≡ b → at_end (kept_after header k lf) ≡ Nothing
      go true e = ap at_end (after_rejected header k lf e).0 ∙ end_rejected header k.state k.line e
      go false e = ap at_end (after_lf header k lf e refl).0 ∙ next_line_end k.state k.line k.line h

  lines_end : (ls : List Text) (l : Text) (k : Kept) → Counted k → at_end (after_all header k (joined_lines (l ∷ ls))) ≡ Nothing
  unfolding after_all
  lines_end [] l k h =
      rw (append-nil (l ++ lf ∷ []), after-append header l (lf ∷ []) k) (lf_end (after_all header k l) (counted_all l k h))
  lines_end (l₂ ∷ ls) l k h =
      rw (after-append header (l ++ lf ∷ []) (joined_lines (l₂ ∷ ls)) k)
      (lines_end ls l₂ (after_all header k (l ++ lf ∷ [])) (counted_all (l ++ lf ∷ []) k h))

module _ (p : Program) where
  -- with its end, an input hands out one text more
  pub run_handed :
      (m : Text) (k : Kept)
      → run p k m
      ≡ handed p k m ++ event_text p (event_at_end p.header (after_all p.header k m).state (after_all p.header k m).line) (after_all p.header k m).line
  unfolding run handed after_all
  run_handed [] k = refl
  run_handed (x ∷ m) k = rw (run_handed m (kept_after p.header k x), append_assoc) refl

  -- no LF, no text
  handed_open : (t : Text) (k : Kept) → NoLF t → handed p k t ≡ []
  unfolding handed
  handed_open [] k h = refl
  handed_open (x ∷ t) k h = rw (text-none p k x h.0) (handed_open t (kept_after p.header k x) h.1)

  -- ---- every input

  module _ (ok : Regular p) (line : List ℕ) (full : length line ≡ p.longest) where
    abbrev begin : Kept
    begin = keeping at_start line

    handed_lines :
        (l : Text) (ls : List Text) → suc (length (joined_lines (l ∷ ls))) < 2 ^ 64
        → handed p begin (joined_lines (l ∷ ls)) ≡ output p (joined_lines (l ∷ ls))
    handed_lines l ls h =
        let m : Text = joined_lines (l ∷ ls) in
        let k : Kept = after_all p.header begin m in
        sym (append-nil (handed p begin m))
        ∙ ap (λ (e : Event). handed p begin m ++ event_text p e k.line) (sym (lines_end p.header ls l begin (omega arith)))
        ∙ sym (run_handed m begin)
        ∙ run_output p ok line m full h

    handed_form :
        (ls : List Text) (t : Text) → All NoLF ls → NoLF t → suc (length (joined_lines ls ++ t)) < 2 ^ 64
        → handed p begin (joined_lines ls ++ t) ≡ output_cut p (joined_lines ls ++ t)
    handed_form [] t h k b = handed_open t begin k ∙ sym ((outputs p).cut_first t k)
    handed_form (l ∷ ls) t h k b =
        let m : Text = joined_lines (l ∷ ls) in
        handed-append p m t begin
        ∙ ap (λ (u : Text). handed p begin m ++ u) (handed_open t (after_all p.header begin m) k)
        ∙ append-nil (handed p begin m)
        ∙ handed_lines l ls (omega (arith, b, length-append m t))
        ∙ sym ((outputs p).cut l ls t h k)

    pub handed_cut : (m : Text) → suc (length m) < 2 ^ 64 → handed p begin m ≡ output_cut p m
    handed_cut m b = go (lines_promise.one_of_these m)
      where
        of : (ls : List Text) (t : Text) → m ≡ joined_lines ls ++ t → All NoLF ls → NoLF t → handed p begin m ≡ output_cut p m
        of ls t e h k =
            ap (handed p begin) e ∙ handed_form ls t h k (omega (arith, b, ap length e)) ∙ sym (ap (output_cut p) e)

        go :
            ((ls : List Text) × All NoLF ls × (m ≡ joined_lines ls))
            ⊎ ((ls : List Text) × (t : Text) × All NoLF ls × NoLF t × (t ≢ []) × (m ≡ joined_lines ls ++ t))
            → handed p begin m ≡ output_cut p m
        go (inl (ls, h, is)) = of ls [] (is ∙ sym (append-nil (joined_lines ls))) h tt
        go (inr (ls, t, h, k, some, is)) = of ls t is h k
