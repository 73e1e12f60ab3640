-- Two calls with the same arguments and the same lent bytes return the same and leave the same.
-- Assumes nothing.
use mathlib.Core.Path.{◌≡◌, sym, ap, ◌∙◌}
use mathlib.Core.List.{List}
use Prim.Native.Nat.{ℕ}
use Rattle.textrules.specs.Text.{Text}
use Rattle.textrules.specs.Programs.{Program}
use Rattle.lines.specs.declared.state.State.{State}
use Rattle.lines.specs.declared.state.Event.{Event}
use Rattle.lines.specs.declared.state.Taken.{Taken}
use Rattle.lines.specs.Stream.{Kept, keeping}
use Rattle.lines.specs.Calls.{Takes, Says}

pub record Determined : Type 0 where
  pub piece :
      (header : Text) (s : State) (p : Text) (line : List ℕ) (r r' : Taken) (line₁ line₁' : List ℕ)
      → Takes header s p line r line₁ → Takes header s p line r' line₁' → (r ≡ r') × (line₁ ≡ line₁')
  pub text :
      (p : Program) (e : Event) (line : List ℕ) (text text' : Text) → Says p e line text → Says p e line text' → text ≡ text'

three : {s s' : State} {e e' : Event} {a a' : ℕ} → s ≡ s' → e ≡ e' → a ≡ a' → ◌≡◌ {A = Taken} (record { state = s; event = e; taken = a }) (record { state = s'; event = e'; taken = a' })
three e f g = rw (e, f, g)

pub determined : Determined
determined = record {
  piece = λ header s p line r r' line₁ line₁' t t'.
      let k : keeping r.state line₁ ≡ keeping r'.state line₁' = t.0 ∙ sym t'.0 in (
        three (ap (λ (j : Kept). j.state) k) (t.1 ∙ sym t'.1) (t.2 ∙ sym t'.2),
        ap (λ (j : Kept). j.line) k,
      );
  text = λ p e line text text' l l'. l.1 ∙ sym l'.1;
}
