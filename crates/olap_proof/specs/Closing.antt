-- When a line closes its place, in two parts.
--     IsAbout      what it names is in the schema
--     IsCyclic, IsShortened, IsDead, IsLoose, IsUnreached, IsClash, IsUnmet
--                  reasons why no frozen dimension has what is decided
--     Closes       the line names such a reason
use Rattle.std.specs.Prelude.{◌≡◌, ◌≢◌, ◌<◌, ◌⊎◌, ℕ, List, All, true, false, MatchOption, Some, IsTrue, length, slice_get}
use Rattle.olap_base.specs.Chains.{Leads}
use Rattle.olap_base.specs.Graph.{CategoryReaches, Graph, HasEdge, IsCategory}
use Rattle.olap_ast.specs.Formula.{Formula}
use Rattle.olap_ast.specs.Frozen.{Candidates}
use Rattle.olap_ast.specs.Schema.{Constraint, Schema}
use Rattle.olap_ast.specs.declared.three_values.Truth3.TheVariants.{No}
use Rattle.olap_eval.specs.Partial.{value_at}
use Rattle.olap_graph.specs.Lookups.{edge_at, edges_from}
use Rattle.olap_trail.specs.Decisions.{present_graph, status_of}
use Rattle.olap_proof.specs.declared.forms.Form.{Form}
use Rattle.olap_proof.specs.declared.forms.Form.TheVariants.{Long, Short}
use Rattle.olap_proof.specs.Places.{Place, is_known, knowledge, leads, possible_graph, truth_of_reach, way_of}
use Rattle.olap_proof.specs.Lines.{IsNoStep, Line, Line.Asked, Line.Clash, Line.Cycle, Line.Dead, Line.EdgeOrNot, Line.Loose, Line.NameOf, Line.Shortcut, Line.Unmet, Line.Unreached, Line.WayOrNot}

-- what the line names is in the schema
abbrev pub IsAbout : Schema → Line → Type 0
IsAbout s (EdgeOrNot e) = e < length s.graph.edges
IsAbout s (NameOf c) = IsCategory s.graph c
IsAbout s (WayOrNot a b) = IsCategory s.graph a × IsCategory s.graph b
IsAbout s (Dead c) = IsCategory s.graph c
IsAbout s (Loose e) = e < length s.graph.edges
IsAbout s (Unreached c) = IsCategory s.graph c
IsAbout s (Clash a b) = IsCategory s.graph a × IsCategory s.graph b
IsAbout s (Unmet n) = n < length s.constraints
IsAbout s l = Unit {0}

-- a walk of edges leads back to where it began
abbrev pub IsCyclic : Graph → Type 0
IsCyclic g = (c : ℕ) × Leads (HasEdge g) c c

-- an edge, and a walk of two edges or more between the same categories
abbrev pub IsShortened : Graph → Type 0
IsShortened g = (a b c : ℕ) × HasEdge g a b × HasEdge g a c × Leads (HasEdge g) c b

-- c has a member, and all edges out of c are absent
abbrev pub IsDead : Graph → Place → ℕ → Type 0
IsDead g p c = (c ≢ 0) × IsTrue (is_known p c) × All (λ e. status_of p.decided e ≡ Some false) (edges_from g c)

-- the edge is present, and no walk of edges that aren't absent leads from the root to its child, another category
abbrev pub IsLoose : Graph → Place → ℕ → Type 0
IsLoose g p e = ((edge_at g e).child ≢ p.decided.root) × (status_of p.decided e ≡ Some true)
    × (CategoryReaches (possible_graph p.decided) p.decided.root (edge_at g e).child → ⊥)

-- c has a member, and the root's, another one, doesn't reach it
abbrev pub IsUnreached : Form → Place → ℕ → Type 0
IsUnreached f p c = (c ≢ p.decided.root) × IsTrue (is_known p c) × (truth_of_reach f p p.decided.root c ≡ No)

-- it was decided that the way is there, and no first step of it can be; or that it isn't, and it is known to be
abbrev pub IsClash : Form → Graph → Place → ℕ → ℕ → Type 0
IsClash f g p a b =
    ((way_of p.ways a b ≡ Some true) × (a ≢ b) × All (IsNoStep f g p b) (edges_from g a))
    ⊎ ((way_of p.ways a b ≡ Some false) × IsTrue (leads f p a b))

-- the root of the constraint has a member, at which the formula is known to be false
abbrev pub IsUnmet : Form → Candidates → Place → Constraint → Type 0
IsUnmet f k p c = IsTrue (is_known p c.root) × (value_at (knowledge f k p) c.root c.formula ≡ No)

-- the constraint at this place of the list
abbrev pub IsUnmetAt : Form → List Constraint → ℕ → Candidates → Place → Type 0
IsUnmetAt f cs n k p = MatchOption (slice_get cs n) ⊥ (IsUnmet f k p)

-- no frozen dimension for the question has what is decided, for the reason that the line says
abbrev pub Closes : Form → Schema → Formula → Candidates → Place → Line → Type 0
Closes f s q k p (Dead c) = IsDead s.graph p c
Closes f s q k p Cycle = IsCyclic (present_graph p.decided)
Closes f s q k p Shortcut = IsShortened (present_graph p.decided)
Closes f s q k p (Loose e) = (f ≡ Long) × IsLoose s.graph p e
Closes f s q k p (Unreached c) = (f ≡ Short) × IsUnreached f p c
Closes f s q k p (Clash a b) = (f ≡ Short) × IsClash f s.graph p a b
Closes f s q k p (Unmet n) = IsUnmetAt f s.constraints n k p
Closes f s q k p Asked = value_at (knowledge f k p) p.decided.root q ≡ No
Closes f s q k p l = ⊥
