-- RULES 9: a record's line, as the report is to have it.
use mathlib.Core.List.{◌++◌}
use Prim.Native.Nat.{ℕ}
use Rattle.rules.specs.Passes.{clean, repaired, stuck, spent}
use Rattle.rules.specs.Numbers.{Decoded, refused, erased, ended}
use Rattle.textrules.specs.Text.{Text, ascii, decimal}

-- a record's line, from what decoding said
abbrev pub record_says : ℕ → Decoded → Text
record_says number (refused r) = decimal number ++ ascii "\trefused\t" ++ decimal r ++ ascii "\t0\t0\t0\n"
record_says number erased = decimal number ++ ascii "\terased\t0\t0\t0\t0\n"
record_says number (ended clean p b r c) = decimal number ++ ascii "\tclean\t" ++ decimal p ++ ascii "\t" ++ decimal b ++ ascii "\t0\t0\n"
record_says number (ended repaired p b r c) = decimal number ++ ascii "\trepaired\t" ++ decimal p ++ ascii "\t" ++ decimal b ++ ascii "\t0\t0\n"
record_says number (ended stuck p b r c) =
    decimal number ++ ascii "\tstuck\t" ++ decimal p ++ ascii "\t" ++ decimal b ++ ascii "\t" ++ decimal r ++ ascii "\t" ++ decimal c ++ ascii "\n"
record_says number (ended spent p b r c) =
    decimal number ++ ascii "\tspent\t" ++ decimal p ++ ascii "\t" ++ decimal b ++ ascii "\t" ++ decimal r ++ ascii "\t" ++ decimal c ++ ascii "\n"
