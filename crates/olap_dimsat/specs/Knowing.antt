-- The knowledge that a trail gives of the frozen dimensions that agree with it.
--     told           of a variable
--     presence       of whether a category has a member
--     knowledge      of edges, of reaching and of names
--     member_in      where a category's member stands
--     IsFalseAt      the formula is false at the category's member, if it has one
--     IsBroken       the constraint's root has a member, and the formula is false there
use Rattle.std.specs.Prelude.{ℕ, zero, suc, ◌&&◌, true, Option, Some, None, List, IsTrue, nat_lt, if◌then◌else◌}
use Rattle.olap_base.specs.Graph.{category_count}
use Rattle.olap_base.specs.Naming.{place_of}
use Rattle.olap_base.specs.Reaching.{category_reaches}
use Rattle.olap_ast.specs.Formula.{Formula, Holds}
use Rattle.olap_ast.specs.Frozen.{Frozen, chosen, is_present, thawed}
use Rattle.olap_ast.specs.Schema.{Constraint}
use Rattle.olap_ast.specs.ThreeValues.{value_of_both}
use Rattle.olap_ast.specs.declared.three_values.Truth3.{Truth3}
use Rattle.olap_ast.specs.declared.three_values.Truth3.TheVariants.{No, Yes, Unknown}
use Rattle.olap_clauses.specs.declared.values.Value.{Value}
use Rattle.olap_clauses.specs.declared.values.Value.TheVariants.{Unknown as Untold, Yes as Stands, No as Fails}
use Rattle.olap_clauses.specs.declared.trails.Trail.{Trail}
use Rattle.olap_clauses.specs.Standing.{value_of}
use Rattle.olap_clauses.specs.Trails.{values_of}
use Rattle.olap_eval.specs.Partial.{Knowledge}
use Rattle.olap_frozen.specs.Chosen as choices
use Rattle.olap_graph.specs.Lookups.{edge_between}
use Rattle.olap_trail.specs.Decisions.{Decided, present_graph}
use Rattle.olap_names.specs.Names.{candidates_of, others_of}
use Rattle.olap_encoding.specs.Layouts.{on_variable, present_variable, name_variable}
use Rattle.olap_dimsat.specs.Tasks.{Task, schema_of, graph_of}
use Rattle.olap_dimsat.specs.Reads.{OfAgreeing}

-- ---- what is known

-- a literal that stands is true
abbrev pub truth_of : Value → Truth3
truth_of Untold = Unknown
truth_of Stands = Yes
truth_of Fails = No

-- what the trail tells of a variable
abbrev pub told : Trail → ℕ → Truth3
told trail x = truth_of (value_of (values_of trail) (record { variable = x; positive = true }))

-- whether the category has a member; what is no category has none
abbrev pub presence : Task → Trail → ℕ → Truth3
presence t trail c = if nat_lt c (category_count (graph_of t)) then told trail (present_variable t.layout c) else No

-- whether the edge is present; there may be none
abbrev pub told_of_edge : Trail → Option ℕ → Truth3
told_of_edge trail None = No
told_of_edge trail (Some e) = told trail (on_variable e)

-- whether a walk of present edges leads from a to b: surely where edges were decided so, and never where the graph
-- has none
abbrev pub way : Task → Decided → ℕ → ℕ → Truth3
way t d a b = if category_reaches (present_graph d) a b then Yes
    else if category_reaches (graph_of t) a b then Unknown else No

-- whether both hold, as far as it is known
abbrev pub both : Truth3 → Truth3 → Truth3
both x y = value_of_both ◌&&◌ x y

-- whether the category's name is the one at this place beside the first; of texts that are none nothing is known
abbrev pub told_of_name : Task → Trail → ℕ → Option ℕ → Truth3
told_of_name t trail c None = Unknown
told_of_name t trail c (Some j) = told trail (name_variable t.layout c j)

-- whether the category's name is the text; `All` has no variable for its own
abbrev pub naming : Task → Trail → ℕ → List ℕ → Truth3
naming t trail zero text = Unknown
naming t trail (suc c) text = told_of_name t trail (suc c) (place_of text (others_of t.question.candidates (suc c)))

-- what the trail tells of edges, of reaching and of names, with the decisions on edges; of numbers it tells nothing
abbrev pub knowledge : Task → Trail → Decided → Knowledge
knowledge t trail d = record {
  edge = λ a b. told_of_edge trail (edge_between (graph_of t) a b);
  reaches = λ a b. both (both (presence t trail a) (presence t trail b)) (way t d a b);
  name = naming t trail;
  number = λ c op n. Unknown;
}

-- ---- what follows

-- where the category's member stands
abbrev pub member_in : Task → Frozen → ℕ → ℕ
member_in t f c = choices.place_of (graph_of t) t.question.root (chosen (graph_of t).edges f.edges) c

-- the formula is true at the category's member
abbrev pub HoldsAt : Task → Frozen → ℕ → Formula → Type 0
HoldsAt t f c q =
    Holds (thawed (schema_of t) (candidates_of t.question.candidates) t.question.root f) (member_in t f c) q

-- the category has a member
abbrev pub HasMember : Task → Frozen → ℕ → Type 0
HasMember t f c = IsTrue (is_present t.question.root (chosen (graph_of t).edges f.edges) c)

-- in each frozen dimension that agrees, the formula is false at the category's member, if it has one
abbrev pub IsFalseAt : Task → Trail → ℕ → Formula → Type 0
IsFalseAt t trail c q = OfAgreeing t trail (λ f. HasMember t f c → HoldsAt t f c q → ⊥)

-- in each that agrees, the constraint's root has a member, and the formula is false there
abbrev pub IsBroken : Task → Trail → Constraint → Type 0
IsBroken t trail k = OfAgreeing t trail (λ f. HasMember t f k.root × (HoldsAt t f k.root k.formula → ⊥))
