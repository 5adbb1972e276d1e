-- Lines that close some of what is open, whatever else is.
--     IsPlaceOf    a place of this schema, at which no way is decided
--     Close        the lines close these, and leave what else is open
--     Adds         bytes are appended: such lines, each ended by an LF
--     HasNoFrozen  no bottom category has a frozen dimension
use Rattle.std.specs.Prelude.{◌≡◌, ◌≤◌, ◌++◌, ℕ, Contains, List, [], length}
use Rattle.olap_ast.specs.Formula.{Formula}
use Rattle.olap_ast.specs.Frozen.{AreCandidates, Candidates, Frozen, IsFrozen}
use Rattle.olap_ast.specs.Schema.{Schema}
use Rattle.olap_base.specs.Graph.{Graph, IsBottom, IsCategory, IsHierarchy}
use Rattle.olap_trail.specs.Decisions.{AreDecisions}
use Rattle.olap_proof.specs.declared.forms.Form.{Form}
use Rattle.olap_proof.specs.Certificates.{Open, Runs, lines_text}
use Rattle.olap_proof.specs.Places.{Naming, Place}

-- no edge is decided twice, the names that are decided have indexes, and no way is decided
pub record IsPlaceOf (g : Graph) (k : Candidates) (p : Place) : Type 0 where
  pub graph : p.decided.graph ≡ g
  pub decisions : AreDecisions p.decided
  pub indexes : (n : Naming) → Contains p.namings n
      → IsCategory g n.category × (n.index ≤ length (k.texts n.category))
  pub no_ways : p.ways ≡ []

-- the lines close these, whatever else is open, and whatever lines come after
abbrev pub Close : Form → Schema → Formula → Candidates → List Open → List (List ℕ) → Type 0
Close f s q k os lines = (after : List (List ℕ)) (rest end : List Open) → Runs f s q k after rest end
    → Runs f s q k (lines ++ after) (os ++ rest) end

-- lines that close these are appended, each ended by an LF
abbrev pub Adds : Form → Schema → Formula → Candidates → List Open → List ℕ → List ℕ → Type 0
Adds f s q k os old new = (lines : List (List ℕ)) × (new ≡ old ++ lines_text lines) × Close f s q k os lines

-- no bottom category has a frozen dimension for the question
abbrev pub HasNoFrozen : Schema → Formula → Type 0
HasNoFrozen s q = IsHierarchy s.graph → (k : Candidates) → AreCandidates s q k → (b : ℕ) → IsBottom s.graph b
    → (f : Frozen) → IsFrozen s q b k f → ⊥
