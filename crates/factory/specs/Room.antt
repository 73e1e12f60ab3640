-- RULES 10: what a line of the dump has room for.
use Rattle.std.specs.Prelude.{List, ℕ, ◌^◌, ◌≤◌, ◌<◌, length}
use Rattle.rules.specs.Codes.{small_code}
use Rattle.rules.specs.Numbers.{pick, outside, frame_bytes}
use Rattle.textrules.specs.Dump.{greatest_frame}

-- a number as a line has it
abbrev pub NineDigits : ℕ → Type 0
NineDigits x = x < 10 ^ 9

-- what a frame's line has room for
abbrev pub FitsLine : ℕ → ℕ → List ℕ → Type 0
FitsLine number n frame = NineDigits number × (n ≤ small_code.longest) × (length frame ≤ greatest_frame)

-- the bytes that are lent for a frame: none where n is refused
abbrev pub buffer_for : ℕ → ℕ
buffer_for n = pick (outside small_code n) 0 (frame_bytes n)
