-- What the answer to a word in a buffer says of it: its places lie within the word, and flipping them puts the mended word there.
-- Assumes nothing.
use mathlib.Core.Path.{◌≡◌, sym, ap, ◌∙◌}
use mathlib.Core.Logic.{◌⊎◌, inl, inr}
use mathlib.Core.List.{List, []}
use Prim.Native.Nat.{ℕ, ◌+◌, ◌*◌, ◌<◌}
use native.Mathlib.Omega.{arith}
use lib.ListN.{length}
use Rattle.rules.specs.Codes.{small_code}
use Rattle.rules.specs.Words.{answer, places, mend}
use Rattle.rules.proofs.Laws.SmallCode.{sound_small}
use Rattle.rules.proofs.Laws.PatternLaws.{Rising}
use Rattle.rules.proofs.Promises.CountBounds.{mend_flips}
use Rattle.laws.specs.InPlace.{word_at, put, Inside}
use Rattle.laws.proofs.InPlaceLaws.{Bytes, word_at-length}
use Rattle.laws.proofs.CheckLoopLaws.{place_inside}
use Rattle.laws.proofs.MendLaws.{flips, places_rise, mend_in_place}
use Rattle.word.specs.Said.{answer_of}
use Rattle.word.specs.declared.locate.Answer.{Answer}
use Rattle.word.specs.declared.locate.Answer.TheVariants.{Codeword, OnePlace, TwoPlaces, Beyond}
use Rattle.word.proofs.SaidLaws.{named, told_named}

-- two answers name no place
pub names_none : {r : Answer} → (r ≡ Codeword) ⊎ (r ≡ Beyond) → [] ≡ named r
names_none (inl e) = ap named (sym e)
names_none (inr e) = ap named (sym e)

-- r is the answer to the word that starts at `start` and goes by `step`
module _
    (n : ℕ) (s : List ℕ) (start step : ℕ) (r : Answer) (h : Inside small_code n s start step)
    (says : r ≡ answer_of (answer small_code n (word_at n s start step)))
  where
    names : places (answer small_code n (word_at n s start step)) ≡ named r
    names =
        told_named (answer small_code n (word_at n s start step))
        (mend_flips small_code sound_small n h.0 (word_at n s start step) (word_at-length n s start step)).1
        ∙ ap named (sym says)

    rising : Rising 0 n (named r)
    rising = rw names at (places_rise small_code sound_small n (word_at n s start step) h.0 (word_at-length n s start step))

    pub mended : {t : List ℕ} → Bytes s → t ≡ flips s start step (named r) → t ≡ put n s start step (mend small_code n (word_at n s start step))
    mended b q = q ∙ ap (flips s start step) (sym names) ∙ mend_in_place small_code sound_small n s start step h b

    pub one_inside : (p : ℕ) → r ≡ OnePlace p → start + p * step < length s * 8
    one_inside p e = let k : Rising 0 n (named (OnePlace p)) = rw e at rising in place_inside small_code n s start step p h (omega (arith, k.1))

    pub low_inside : (p q : ℕ) → r ≡ TwoPlaces p q → start + p * step < length s * 8
    low_inside p q e =
        let k : Rising 0 n (named (TwoPlaces p q)) = rw e at rising in place_inside small_code n s start step p h (omega (arith, k.1))

    pub high_inside : (p q : ℕ) → r ≡ TwoPlaces p q → start + q * step < length s * 8
    high_inside p q e =
        let k : Rising 0 n (named (TwoPlaces p q)) = rw e at rising in place_inside small_code n s start step q h (omega (arith, k.2.1))
