-- Instances whose members are named by numerals where names are numbers.
use Rattle.std.specs.Prelude.{ℕ, IsSome, IsTrue}
use Rattle.olap_base.specs.Graph.{Graph, is_number}
use Rattle.olap_base.specs.Instance.{Instance, IsMember, category_of, name_of}
use Rattle.olap_numerals.specs.Numerals.{number_of}

-- the name of each member of a number category is a numeral
abbrev pub HasNumerals : Graph → Instance → Type 0
HasNumerals g i = (x : ℕ) → IsMember i x → IsTrue (is_number g (category_of i x)) → IsSome (number_of (name_of i x))
