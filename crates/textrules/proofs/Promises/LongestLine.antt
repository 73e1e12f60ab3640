-- RULES 8: the longest line is that of the greatest record.
-- Assumes nothing.
use mathlib.Core.Path.{◌≡◌, refl, ap, ◌∙◌}
use mathlib.Core.List.{List, [], ◌∷◌}
use Prim.Native.Nat.{ℕ, suc, ◌+◌, ◌*◌, ◌^◌, ◌≤◌, ◌<◌}
use native.Mathlib.Omega.{arith}
use lib.ListN.{length}
use Rattle.rules.specs.Numbers.{frame_bytes}
use Rattle.textrules.specs.Dump.{longest_line, bad_line, line_of}
use Rattle.textrules.proofs.Laws.RecordFormLaws.{written_most, written_nines}
use Rattle.textrules.proofs.Promises.Records.{record_line, record_written, line_long}

-- ---- The statement

-- the greatest record just fits: three numbers of nine digits, and a frame at n = 256
pub record LongestLine : Type 0 where
  pub all_fit :
      (number n allowance : ℕ) (frame : List ℕ) → number < 10 ^ 9 → n < 10 ^ 9 → allowance < 10 ^ 9 → length frame ≤ frame_bytes 256
      → length (record_line number n allowance frame) ≤ longest_line
  pub greatest :
      (frame : List ℕ) → length frame ≡ frame_bytes 256
      → length (record_line 999999999 999999999 999999999 frame) ≡ longest_line
  -- one byte more is too much
  pub too_long :
      (frame : List ℕ) → length frame ≡ suc (frame_bytes 256)
      → line_of (record_line 999999999 999999999 999999999 frame) ≡ bad_line
  -- the number itself
  pub characters : longest_line ≡ 16414

-- ---- The proof

nines-length : (frame : List ℕ) → length (record_line 999999999 999999999 999999999 frame) ≡ 30 + 2 * length frame
nines-length frame = ap length (record_written 999999999 999999999 999999999 frame) ∙ written_nines 3 frame

pub longest_line_lem : LongestLine
longest_line_lem = record {
  all_fit = λ number n allowance frame a b c f.
      let most = written_most (number ∷ n ∷ allowance ∷ []) frame (a, (b, (c, tt))) in
      omega (arith, ap length (record_written number n allowance frame), most, f);
  greatest = λ frame f. omega (arith, nines-length frame, f);
  too_long = λ frame f. line_long (record_line 999999999 999999999 999999999 frame) (omega (arith, nines-length frame, f));
  characters = refl;
}
