-- The contracts of `gazenohyri_decode` and `gazenohyri_receive`, each as one equation about a call: its arguments, what was in the lent
-- buffers, the number returned, and what is in them then. Encode and read have the contracts of `frame`.
use Rattle.std.specs.Prelude.{◌≡◌, List, ℕ}
use Rattle.rules.specs.Codes.{small_code}
use Rattle.rules.specs.Numbers.{Exit}
use Rattle.rules.specs.Block.{HostAnswer, host_decode}
use Rattle.receiver.specs.Packed.{host_receive}

abbrev pub HostDecodes : ℕ → ℕ → List ℕ → List ℕ → List ℕ → ℕ → List ℕ → List ℕ → Type 0
HostDecodes n allowance received output lent r exit left =
    ◌≡◌ {A = HostAnswer} (record { returned = r; frame = exit; block = left }) (host_decode small_code n allowance received output lent)

abbrev pub HostReceives : ℕ → List ℕ → List ℕ → ℕ → List ℕ → Type 0
HostReceives state piece frame r exit = ◌≡◌ {A = Exit ℕ} (record { said = r; output = exit }) (host_receive small_code state piece frame)
