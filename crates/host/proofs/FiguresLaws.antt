-- Decode's answer in the code's struct, by its cases, and as what C gets.
-- Assumes nothing.
use mathlib.Core.Path.{◌≡◌, sym, ap, ap₂, ◌∙◌}
use mathlib.Core.Logic.{◌≢◌}
use mathlib.Core.List.{List}
use Prim.Native.Nat.{ℕ}
use lib.ListN.{length}
use Rattle.rules.specs.Codes.{small_code}
use Rattle.rules.specs.Numbers as rules
use Rattle.rules.specs.Numbers.{decode_said}
use Rattle.rules.specs.Block.{block}
use Rattle.rules.proofs.Promises.Promised.{promised_small}
use Rattle.std.specs.Prelude.{Result}
use Rattle.word.specs.declared.refusal.Refusal.{Refusal}
use Rattle.frame.specs.declared.decode.Report.{Report}
use Rattle.frame.specs.Calls.{Decodes}
use Rattle.frame.specs.Said.{figures}
use Rattle.host.specs.declared.figures.Figures.{Figures}
use Rattle.host.specs.Figured.{figures_in}
use Rattle.host.specs.Calls.{HostDecodes}

module _ (n allowance : ℕ) (received output lent : List ℕ) where
  pub refused_block : length lent ≢ 20 → HostDecodes n allowance received output lent 11 output lent
  refused_block h = sym (promised_small.blocks.other_length n allowance received output lent h)

  -- what was decoded, and its values in the block
  pub put_block :
      (d : Result Report Refusal) (f : Figures) (exit left : List ℕ) → length lent ≡ 20 → Decodes n allowance received output d exit
      → figures_in f ≡ figures d → left ≡ block (figures_in f) → HostDecodes n allowance received output lent f.number exit left
  put_block d f exit left long e q p =
      let is : figures_in f ≡ rules.figures_of (decode_said small_code n allowance received output) =
      q ∙ ap rules.figures_of e.0 in
      ap (λ x. record { returned = f.number; frame = exit; block = x }) p
      ∙ ap₂ (λ x y. record { returned = x.number; frame = y; block = block x }) is e.1
      ∙ sym (promised_small.blocks.of_length n allowance received output lent long)
