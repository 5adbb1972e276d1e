-- Places of a graph, whose decisions are about what is there.
--     IsWithin      the place is of the graph, and its decisions are about its categories and their names
--     AreKnown      the set has the categories that are known to have a member
--     truth_of      what is known of an edge that was decided
--     when_there    what is known of a name that was decided
use Rattle.std.specs.Prelude.{◌≡◌, ◌≤◌, ◌<◌, ◌↔◌, ℕ, [], All, Bool, Contains, IsTrue, Option, if◌then◌else◌, length, option_map, slice_index_or, unwrap_or}
use Rattle.std.specs.FinSet as set
use Rattle.std.specs.Ordering.{nat_cmp}
use Rattle.olap_base.specs.Graph.{Graph, IsCategory, category_count}
use Rattle.olap_ast.specs.ThreeValues.{known}
use Rattle.olap_ast.specs.declared.three_values.Truth3.{Truth3}
use Rattle.olap_ast.specs.declared.three_values.Truth3.TheVariants.{No, Yes, Unknown}
use Rattle.olap_names.specs.Names.{Named}
use Rattle.olap_proof.specs.Places.{Naming, Place, is_known}
use Rattle.olap_proof.specs.Seen.{AreOfGraph}
use Rattle.olap_proof.specs.Walking.{IsIn}

-- the place is of the graph, and its decisions are about its edges, its categories and their names
pub record IsWithin (g : Graph) (k : Named) (p : Place) : Type 0 where
  pub graph : p.decided.graph ≡ g
  pub root : IsCategory g p.decided.root
  pub edges : All (λ d. d.edge < length g.edges) p.decided.decisions
  pub ways : AreOfGraph g p.ways
  pub texts : length k.texts ≡ category_count g
  pub indexes : (n : Naming) → Contains p.namings n
      → IsCategory g n.category × (n.index ≤ length (slice_index_or k.texts n.category []))

-- the set has the categories that are known to have a member
abbrev pub AreKnown : Place → set.FinSet nat_cmp → Type 0
AreKnown p s = (x : ℕ) → IsIn s x ↔ IsTrue (is_known p x)

-- what a decision says
abbrev pub truth_of : Option Bool → Truth3
truth_of present = unwrap_or (option_map known present) Unknown

-- No where the name isn't this one; Yes where it is, and the category has a member
abbrev pub when_there : Place → ℕ → Bool → Truth3
when_there p c same = if same then (if is_known p c then Yes else Unknown) else No
