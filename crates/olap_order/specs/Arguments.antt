-- The words after a command's name. They are known by their numbers on the command line: the name is the first word.
--     word       the word of a number
--     at_word    a step over that word
--     exactly, at_least, between    an order that takes that many words; with fewer or more there is no command
use Rattle.std.specs.Prelude.{ℕ, ◌-◌, ◌&&◌, ◌==◌, nat_le, List, [], length, slice_index_or, Option, None, Some, if◌then◌else◌}
use Rattle.olap_order.specs.Order.{Order}

-- the word of that number
abbrev pub word : ℕ → List (List ℕ) → List ℕ
word at words = slice_index_or words (at - 2) []

-- a step that judges the word of that number
abbrev pub at_word : {T : Type 0} → (ℕ → List ℕ → Order T) → ℕ → List (List ℕ) → Order T
at_word step at words = step at (word at words)

-- an order that takes exactly n words
abbrev pub exactly : {Q : Type 0} → ℕ → (List (List ℕ) → Order Q) → List (List ℕ) → Option (Order Q)
exactly n order words = if length words == n then Some (order words) else None

-- n words or more
abbrev pub at_least : {Q : Type 0} → ℕ → (List (List ℕ) → Order Q) → List (List ℕ) → Option (Order Q)
at_least n order words = if nat_le n (length words) then Some (order words) else None

-- at least m words and at most n
abbrev pub between : {Q : Type 0} → ℕ → ℕ → (List (List ℕ) → Order Q) → List (List ℕ) → Option (Order Q)
between m n order words = if nat_le m (length words) && nat_le (length words) n then Some (order words) else None
