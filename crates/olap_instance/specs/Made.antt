-- Instances that were made for a graph.
use Rattle.std.specs.Prelude.{ℕ}
use Rattle.olap_numerals.specs.Named.{HasNumerals}
use Rattle.olap_base.specs.Graph.{Graph, IsCategory}
use Rattle.olap_base.specs.Instance.{Instance, IsMember, category_of}

-- each member's category is one of the graph, and its name a numeral where names are numbers
pub record IsMadeFor (g : Graph) (i : Instance) : Type 0 where
  pub categories : (x : ℕ) → IsMember i x → IsCategory g (category_of i x)
  pub numerals : HasNumerals g i
