-- RULES 2: a word has no answer exactly if every codeword differs in more places than the radius; else the answer leads to the only
-- one that doesn't.
-- Assumes nothing.
use mathlib.Core.Path.{◌≡◌, refl, sym, ap, subst, ◌∙◌}
use mathlib.Core.Logic.{◌≢◌, ◌↔◌}
use mathlib.Core.Bool.{true, xor, not-not}
use mathlib.Core.List.{List, []}
use mathlib.Core.Option.{Option, some, none}
use Prim.Native.Nat.{ℕ, ◌≤◌, ◌<◌}
use native.Mathlib.Decide.{dec_lt}
use native.Mathlib.Omega.{arith}
use lib.ListN.{length}
use Rattle.algebra.specs.Tables.{ones}
use Rattle.algebra.specs.Words.{Word, bit, differ, dot}
use Rattle.rules.specs.Codes.{Code, radius}
use Rattle.rules.specs.Words.{is_codeword, Codeword, values, within, answer, places, is_in, changed, mend}
use Rattle.rules.proofs.Laws.Shape.{word_ext}
use Rattle.rules.proofs.Laws.CodeLaws.{Sound, Mends}
use Rattle.rules.proofs.Laws.CheckLaws.{values_length, checks_dot, codeword_checks, checks_codeword}
use Rattle.rules.proofs.Laws.PatternLaws.{Rising, changed-length, changed_bit}
use Rattle.rules.proofs.Laws.NearestLaws.{Vanishing, Nearest, Free, nearest_within, search_nearest, search_only, search_mends}

-- ---- The statement

-- what each answer says of the word: rising places, as many as the radius at most, that make it a codeword; or that none is so
-- near. No search is named
abbrev pub Fits : Code → ℕ → Word → Option (List ℕ) → Type 0
Fits code n w (some ps) = Rising 0 n ps × (length ps ≤ radius code) × (is_codeword code n (changed ps w) ≡ true)
Fits code n w none = (c : Word) → Codeword code n c → radius code < differ c w

pub record WordPromise (code : Code) (n : ℕ) (w : Word) : Type 0 where
  -- the answer fits, and nothing else does
  pub fits : Fits code n w (answer code n w)
  pub only : (a : Option (List ℕ)) → Fits code n w a → a ≡ answer code n w
  -- refused exactly where all codewords are farther than the radius
  pub refused : (answer code n w ≡ none) ↔ ((c : Word) → Codeword code n c → radius code < differ c w)
  -- else mended to a codeword that is not farther, and there is no other
  pub accepted : answer code n w ≢ none → Codeword code n (mend code n w) × (differ (mend code n w) w ≤ radius code)
  pub mended : (c : Word) → Codeword code n c → differ c w ≤ radius code → mend code n w ≡ c
  -- a refused word stays as it was
  pub left : answer code n w ≡ none → mend code n w ≡ w

abbrev pub Answers : Code → Type 0
Answers code =
    (n : ℕ) → code.shortest ≤ n → n ≤ code.longest → (w : Word) → length w ≡ n → WordPromise code n w

-- ---- The proof: the search over the word's own n places

pub changed-none : (w : Word) → changed [] w ≡ w
unfolding is_in xor
changed-none w = word_ext (length w) (changed [] w) w (changed-length [] w) refl (λ j h. changed_bit [] w j h ∙ not-not (bit w j))

module _ (code : Code) (ok : Sound code) (n : ℕ) (h : code.shortest ≤ n) where
  pos : 1 ≤ n
  pos = omega (arith, ok.room)

  pub as_long : length (values code n) ≡ n
  as_long = values_length code ok n pos

  -- codewords by their checks and by their values
  vanishes : (c : Word) → Codeword code n c → Vanishing n (values code n) c
  vanishes c (l, k) = (l, sym (checks_dot code ok n c pos l) ∙ codeword_checks code n c k)

  is-codeword : (c : Word) → Vanishing n (values code n) c → Codeword code n c
  is-codeword c (l, z) = (l, checks_codeword code n c (checks_dot code ok n c pos l ∙ z))

  module _ (w : Word) (l : length w ≡ n) where
    -- what is found are places of this word, by its checks, remainder and parity
    answer-is : answer code n w ≡ within (radius code) (values code n) (dot (values code n) w)
    unfolding answer
    answer-is = ap (within (radius code) (values code n)) (checks_dot code ok n w pos l)

    -- the statement is that of the search
    fits-as : (o : Option (List ℕ)) → Nearest n (radius code) (values code n) w o → Fits code n w o
    fits-as (some ps) k = (k.0, k.1, (is-codeword (changed ps w) k.2).1)
    fits-as none k = λ c m. k c (vanishes c m)

    as_fits : (o : Option (List ℕ)) → Fits code n w o → Nearest n (radius code) (values code n) w o
    as_fits (some ps) k = (k.0, k.1, vanishes (changed ps w) (changed-length ps w ∙ l, k.2))
    as_fits none k = λ c m. k c (is-codeword c m)

    found : Nearest n (radius code) (values code n) w (answer code n w)
    found = rw answer-is (search_nearest n (radius code) (values code n) w l as_long)

    pub answer-fits : Fits code n w (answer code n w)
    answer-fits = fits-as (answer code n w) found

    accepted-here : answer code n w ≢ none → Codeword code n (mend code n w) × (differ (mend code n w) w ≤ radius code)
    unfolding mend
    accepted-here k = go (answer code n w) k found
      where
        go :
            (o : Option (List ℕ)) → o ≢ none → Nearest n (radius code) (values code n) w o
            → Codeword code n (changed (places o) w) × (differ (changed (places o) w) w ≤ radius code)
        go (some ps) k m =
            (is-codeword (changed ps w) m.2, nearest_within n (radius code) (values code n) w l ps m)
        go none k m = absurd (k refl)

    left_here : answer code n w ≡ none → mend code n w ≡ w
    unfolding mend
    left_here q = ap (λ o. changed (places o) w) q ∙ changed-none w

-- that nothing else fits takes the distance
module _ (code : Code) (able : Mends code) (n : ℕ) (h : code.shortest ≤ n) (b : n ≤ code.longest) where
  abbrev ok : Sound code
  ok = able.sound

  pub free : Free n (radius code) (values code n)
  free e l o z =
      elim (dec_lt (ones e) code.distance) as (λ k. ones e ≡ 0) [
        | yes k ↦ able.few n e h b l (checks_dot code ok n e (pos code ok n h) l ∙ z) k
        | no k ↦ omega (arith, k, o)
      ]

  module _ (w : Word) (l : length w ≡ n) where
    only_here : (a : Option (List ℕ)) → Fits code n w a → a ≡ answer code n w
    only_here a k =
        search_only n (radius code) (values code n) w l (as_long code ok n h) free a (as_fits code ok n h w l a k)
        ∙ sym (answer-is code ok n h w l)

    mended-here : (c : Word) → Codeword code n c → differ c w ≤ radius code → mend code n w ≡ c
    unfolding mend
    mended-here c k d =
        ap (λ o. changed (places o) w) (answer-is code ok n h w l)
        ∙ search_mends n (radius code) (values code n) w l (as_long code ok n h) free c (vanishes code ok n h c k) d

pub answers : (code : Code) (able : Mends code) → Answers code
answers code able n h b w l =
    let fits : Fits code n w (answer code n w) = answer-fits code able.sound n h w l in
    record {
      fits = fits;
      only = only_here code able n h b w l;
      refused = (λ q. subst (Fits code n w) q fits, λ k. sym (only_here code able n h b w l none k));
      accepted = accepted-here code able.sound n h w l;
      mended = mended-here code able n h b w l;
      left = left_here code able.sound n h w l;
    }
