-- From the code's struct to the values of the rules.
use Rattle.rules.specs.Numbers as rules
use Rattle.host.specs.declared.figures.Figures.{Figures}

-- each value in the field of its name
abbrev pub figures_in : Figures → rules.Figures
figures_in f =
    record { number = f.number; passes = f.passes; bits = f.bits; rows = f.rows; columns = f.columns }
