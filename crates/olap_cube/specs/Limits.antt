-- The number of dimensions that a cube of the program may have. The definitions bound no cube.
use Rattle.std.specs.Prelude.{ℕ}

-- dimensions of a cube that a command takes
abbrev pub most_dimensions : ℕ
most_dimensions = 4
