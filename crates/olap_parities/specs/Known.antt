-- What is known of variables.
--     value_of   what a table says of a variable
--     Knows      the valuation is as the table says
use Rattle.std.specs.Prelude.{◌≡◌, ℕ, Bool, List, Option, Some, None, slice_index_or}

-- what the table says of a variable, of which it may say nothing
abbrev pub value_of : List (Option Bool) → ℕ → Option Bool
value_of values x = slice_index_or values x None

-- the value is this one, if it is known
abbrev pub Fits : Option Bool → Bool → Type 0
Fits None b = Unit {0}
Fits (Some known) b = b ≡ known

-- each variable that the table knows has the value that it says
abbrev pub Knows : List (Option Bool) → (ℕ → Bool) → Type 0
Knows values v = (x : ℕ) → Fits (value_of values x) (v x)
