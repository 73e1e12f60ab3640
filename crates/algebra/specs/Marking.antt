-- The marks of places, over any field and any register: for each exponent e one number made of z^e mod g, a^e and a^3e.
use Rattle.std.specs.Prelude.{◌≡◌, ◌⊎◌, Bool, cond, ◌||◌, List, map, ℕ, suc, ◌+◌, ◌*◌, ◌-◌, ◌/◌, ◌%◌, ◌^◌, ◌<◌, eqb, get_or}
use Rattle.algebra.specs.Xor.{◌⊕◌}
use Rattle.algebra.specs.Register.{iter, turn}
use Rattle.algebra.specs.Linear.{lin}
use Rattle.algebra.specs.Tables.{tab}

pub record Marking : Type 0 where
  -- 'times a' is turn top tap, and 'times z' modulo g is turn last low
  pub top : ℕ
  pub tap : ℕ
  pub last : ℕ
  pub low : ℕ
  -- by exponent, by element, and by slot
  pub marks : List ℕ
  pub logs : List ℕ
  pub halves : List ℕ

-- the powers of a come round after so many
abbrev pub order : Marking → ℕ
order m = 2 ^ suc m.top - 1

-- one step: a number of the field times a, and a remainder by g times z
abbrev pub times_a : Marking → ℕ → ℕ
times_a m = turn m.top m.tap

abbrev pub times_z : Marking → ℕ → ℕ
times_z m = turn m.last m.low

-- a^e, and z^e mod g
abbrev pub a_power : Marking → ℕ → ℕ
a_power m e = iter e (times_a m) 1

abbrev pub z_power : Marking → ℕ → ℕ
z_power m e = iter e (times_z m) 1

-- the three parts of a mark, from its lowest digit up: z^e, a^e, a^3e
abbrev pub remainder_part : Marking → ℕ → ℕ
remainder_part m w = w % 2 ^ suc m.last

abbrev pub power_part : Marking → ℕ → ℕ
power_part m w = w / 2 ^ suc m.last % 2 ^ suc m.top

abbrev pub cube_part : Marking → ℕ → ℕ
cube_part m w = w / 2 ^ suc m.last / 2 ^ suc m.top

-- the powers of a, as the marks have them
abbrev pub powers_of : Marking → List ℕ
powers_of m = map (power_part m) m.marks

-- the mark of an exponent
abbrev pub mark_at : Marking → ℕ → ℕ
mark_at m e = get_or m.marks e 0

-- the logarithm of an element, and the half at a slot
abbrev pub log_at : Marking → ℕ → ℕ
log_at m x = get_or m.logs x 0

abbrev pub half_at : Marking → ℕ → ℕ
half_at m k = get_or m.halves k 0

-- the mark of a remainder: that of z^i for each of its ones
unfoldable pub mark_of : Marking → ℕ → ℕ
mark_of m x = lin (tab (suc m.last) (mark_at m)) x

-- where a pair with this sum of cubes has its half: at the logarithm; for 0 behind them all
abbrev pub slot_of : Marking → ℕ → ℕ
slot_of m x = cond (eqb x 0) (order m) (log_at m x)

-- a^i and a^j ⊕ to 1: at their slot stands i or j
unfoldable pub is_half : Marking → ℕ → Bool
is_half m i =
    let j : ℕ = log_at m (power_part m (mark_at m i) ⊕ 1) in
    let h : ℕ = half_at m (slot_of m (cube_part m (mark_at m i) ⊕ cube_part m (mark_at m j))) in
    eqb h i || eqb h j

-- ---- What the steps to a half give

-- x less the order, or x itself, is e
abbrev pub Reduced : Marking → ℕ → ℕ → Type 0
Reduced m x e = (x ≡ e) ⊎ (x ≡ e + order m)

-- k is the slot of s over a^3l, that is of the number from which 3 l steps lead to s
abbrev pub Slot : Marking → ℕ → ℕ → ℕ → Type 0
Slot m l s k = (t : ℕ) → t < 2 ^ suc m.top → iter (3 * l) (times_a m) t ≡ s → k ≡ slot_of m t
