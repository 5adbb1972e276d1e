-- Places at which nothing is left to decide.
--     IsFull              each edge is decided, and the name of each declared category
--     FullPlacesClose     some line closes such a place, or what is decided there is a frozen dimension
use Rattle.std.specs.Prelude.{◌≡◌, ◌≢◌, ◌<◌, ◌≤◌, ◌⊎◌, ℕ, [], None, Some, length}
use Rattle.olap_base.specs.Graph.{Graph, IsDeclared, IsHierarchy}
use Rattle.olap_ast.specs.Formula.{Formula}
use Rattle.olap_ast.specs.Frozen.{AreCandidates, Candidates, Frozen, IsFrozen}
use Rattle.olap_ast.specs.Schema.{Schema}
use Rattle.olap_trail.specs.Decisions.{AreDecisions, status_of}
use Rattle.olap_proof.specs.declared.forms.Form.{Form}
use Rattle.olap_proof.specs.Lines.{Line}
use Rattle.olap_proof.specs.Closing.{Closes, IsAbout}
use Rattle.olap_proof.specs.Places.{Place, index_of}

-- no edge is decided twice, each edge is decided, and the name of each declared category; no way is
pub record IsFull (g : Graph) (k : Candidates) (p : Place) : Type 0 where
  pub graph : p.decided.graph ≡ g
  pub decisions : AreDecisions p.decided
  pub edges : (e : ℕ) → e < length g.edges → status_of p.decided e ≢ None
  pub names : (c : ℕ) → IsDeclared g c → index_of p.namings c ≢ None
  pub in_range : (c i : ℕ) → index_of p.namings c ≡ Some i → i ≤ length (k.texts c)
  pub no_ways : p.ways ≡ []

-- in either form, where nothing is left to decide, some line closes the place, or there is a frozen dimension
abbrev pub FullPlacesClose : Type 0
FullPlacesClose = (m : Form) (s : Schema) (q : Formula) (k : Candidates) (p : Place) → IsHierarchy s.graph
    → AreCandidates s q k → IsFull s.graph k p
    → ((l : Line) × IsAbout s l × Closes m s q k p l) ⊎ ((f : Frozen) × IsFrozen s q p.decided.root k f)
