-- The edges and ways that the program has seen, of those that it goes through in their order.
--     AreOfGraph       ways between categories of a graph
--     is_possible      an edge that wasn't decided absent
--     LeadsHere        of ways, those that are there
--     SeenDecisions    of decisions on edges, those that say present
--     SeenPossible     of the edges of a graph, those that weren't decided absent
--     TouchedByDecisions    the ends of those that say present
use Rattle.std.specs.Prelude.{ℕ, Bool, Contains, List, Option, false, true, slice_index_or, unwrap_or}
use Rattle.std.specs.FinSet as set
use Rattle.std.specs.Ordering.{nat_cmp}
use Rattle.olap_base.specs.Graph.{Graph, IsCategory}
use Rattle.olap_graph.specs.Lookups.{edge_at}
use Rattle.olap_trail.specs.Decisions.{Decided, status_of}
use Rattle.olap_trail.specs.declared.decisions.Decision.{Decision}
use Rattle.olap_proof.specs.KeptWays.{leading_way}
use Rattle.olap_proof.specs.Places.{Way as WayHere}
use Rattle.olap_proof.specs.Walking.{SeenUpTo, TouchedUpTo}

-- it wasn't decided that the edge is absent
abbrev pub is_possible : Option Bool → Bool
is_possible present = unwrap_or present true

-- a way that is there leads from c to d
abbrev pub LeadsHere : List WayHere → ℕ → ℕ → Type 0
LeadsHere ways c d = Contains ways (leading_way c d)

-- the decision at a place of the list
abbrev pub decision_at : List Decision → ℕ → Decision
decision_at decisions k = slice_index_or decisions k (record { edge = record { 0 = 0 }; present = false })

-- one of the first i decisions says that an edge from c to d is present
abbrev pub SeenDecisions : Graph → List Decision → ℕ → ℕ → ℕ → Type 0
SeenDecisions g ds i c d = SeenUpTo (λ k. (decision_at ds k).present) (λ k. (edge_at g (decision_at ds k).edge.0).child)
    (λ k. (edge_at g (decision_at ds k).edge.0).parent) i c d

-- one of the first i edges, that wasn't decided absent, leads from c to d
abbrev pub SeenPossible : Decided → ℕ → ℕ → ℕ → Type 0
SeenPossible t i c d = SeenUpTo (λ k. is_possible (status_of t k)) (λ k. (edge_at t.graph k).child)
    (λ k. (edge_at t.graph k).parent) i c d

-- the ways lead from one category to another
abbrev pub AreOfGraph : Graph → List WayHere → Type 0
AreOfGraph g ways = (w : WayHere) → Contains ways w → IsCategory g w.child × IsCategory g w.parent

-- the number was in the set, or is an end of the edge of one of the first i decisions, that says present
abbrev pub TouchedByDecisions : set.FinSet nat_cmp → Graph → List Decision → ℕ → ℕ → Type 0
TouchedByDecisions old g ds i x = TouchedUpTo old (λ k. (decision_at ds k).present)
    (λ k. (edge_at g (decision_at ds k).edge.0).child) (λ k. (edge_at g (decision_at ds k).edge.0).parent) i x
