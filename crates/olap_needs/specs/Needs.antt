-- What must be added to a schema so that a target is summarizable from sources.
--     by_one        the formula: a member reaches the target by one source, if at all
--     IsNeeded      a bottom category with a member, in some legal instance, that doesn't
--     AreNeeded     all such categories
--     with_needs    the schema with a constraint more for each of them
--     AreEmptied    those of them that can then have no member
--     HasRoom       the constraints of a schema are within the limits
--     needs_text    a line for each of the constraints
use Rattle.std.specs.Prelude.{ℕ, ◌<◌, ◌≤◌, List, ◌++◌, map, length, sum_by, AllPairs, Contains}
use Rattle.olap_base.specs.Graph.{Graph, IsBottom}
use Rattle.olap_base.specs.Limits.{most_constraints, most_nodes, most_schema_nodes}
use Rattle.olap_ast.specs.Findings.{IsUnsatisfiable}
use Rattle.olap_ast.specs.Formula.{Formula, Formula.Implies, Formula.One, Formula.Reach}
use Rattle.olap_ast.specs.Questions.{IsImplied}
use Rattle.olap_ast.specs.Schema.{Constraint, Schema}
use Rattle.olap_ast.specs.Summarizable.{vias}
use Rattle.olap_ast.specs.Valid.{node_count}
use Rattle.olap_schema_text.specs.Printing.{constraint_text, text_of_lines}

-- the formula: if a member reaches c, it does so by exactly one of the sources
abbrev pub by_one : ℕ → List ℕ → Formula
by_one c sources = Implies (Reach c) (One (vias c sources))

-- this formula as a constraint on the members of b
abbrev pub need : ℕ → List ℕ → ℕ → Constraint
need c sources b = record { root = b; formula = by_one c sources }

-- a bottom category whose constraint some legal instance doesn't meet
abbrev pub IsNeeded : Schema → ℕ → List ℕ → ℕ → Type 0
IsNeeded s c sources b = IsBottom s.graph b × (IsImplied s b (by_one c sources) → ⊥)

-- exactly the numbers of which P holds, ascending
pub record AreAscending (P : ℕ → Type 0) (bs : List ℕ) : Type 0 where
  pub ordered : AllPairs ◌<◌ bs
  pub sound : (b : ℕ) → Contains bs b → P b
  pub complete : (b : ℕ) → P b → Contains bs b

-- exactly the categories that need a constraint, in declaration order
abbrev pub AreNeeded : Schema → ℕ → List ℕ → List ℕ → Type 0
AreNeeded s c sources = AreAscending (IsNeeded s c sources)

-- the schema with these constraints after its own
abbrev pub with_needs : Schema → ℕ → List ℕ → List ℕ → Schema
with_needs s c sources bs = record s { constraints = s.constraints ++ map (need c sources) bs }

-- exactly those of these categories that can have no member once the constraints are added, in declaration order
abbrev pub AreEmptied : Schema → ℕ → List ℕ → List ℕ → List ℕ → Type 0
AreEmptied s c sources bs =
    AreAscending (λ b. Contains bs b × IsUnsatisfiable (with_needs s c sources bs) b)

-- the schema's constraints are within the limits
pub record HasRoom (s : Schema) : Type 0 where
  pub constraints : length s.constraints ≤ most_constraints
  pub each : (c : Constraint) → Contains s.constraints c → node_count c.formula ≤ most_nodes
  pub nodes : sum_by (λ c. node_count c.formula) s.constraints ≤ most_schema_nodes

-- a line for each of the constraints
abbrev pub needs_text : Graph → ℕ → List ℕ → List ℕ → List ℕ
needs_text g c sources bs = text_of_lines (map (constraint_text g) (map (need c sources) bs))
