-- Lists by their entries: what a loop that writes one entry after another has written.
-- Assumes nothing.
use mathlib.Core.Path.{◌≡◌, sym, ap, ap₂, ◌∙◌}
use mathlib.Core.List.{List, ◌++◌, append-nil}
use Prim.Native.Nat.{ℕ, ◌<◌}
use native.Mathlib.Omega.{arith}
use Rattle.algebra.specs.Tables.{tab}
use Rattle.algebra.proofs.TableLaws.{tab-length, tab_at}
use lib.ListN.{length, take, drop, get_or}
use lib.Seq.{ext_get_or, take_all, drop-length}

-- each entry is written as wanted
pub written_all : (n : ℕ) (f : ℕ → ℕ) {s : List ℕ} → length s ≡ n → ((k : ℕ) → k < n → get_or s k 0 ≡ f k) → s ≡ tab n f
written_all n f {s} e h =
    ext_get_or 0 s (tab n f) (e ∙ sym (tab-length n f)) (λ k l. h k (omega arith) ∙ sym (tab_at n f k 0 (omega arith)))

-- a list copied over one as long
pub copied_whole : (k : ℕ) (s t : List ℕ) → k ≡ length s → length s ≡ length t → take k s ++ drop k t ≡ s
copied_whole k s t e h =
    ap₂ ◌++◌ (take_all k s (omega arith)) (ap (λ (j : ℕ). drop j t) (e ∙ h) ∙ drop-length t) ∙ append-nil s
