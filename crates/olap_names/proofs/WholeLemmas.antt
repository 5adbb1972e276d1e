-- A schema is its graph and its constraints.
use Rattle.std.proofs.Common.{◌≡◌, List, ap, ◌∙◌}
use Rattle.olap_ast.specs.Schema.{Constraint, Schema}
use Rattle.olap_base.specs.Graph.{Graph}
use Rattle.olap_names.specs.Names.{with_graph}

-- with a graph and constraints that are the schema's it is the schema
pub whole_is : (s : Schema) (g : Graph) (cs : List Constraint) → g ≡ s.graph → cs ≡ s.constraints → with_graph g cs ≡ s
whole_is s g cs e f = ap (λ h. with_graph h cs) e ∙ ap (λ l. with_graph s.graph l) f
