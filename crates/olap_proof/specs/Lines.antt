-- The lines of a certificate's trees: what each says, and when one closes its place.
--     Line         a split of what is still open, or a reason why nothing is
--     line_text    its bytes, without the LF
--     IsReason     no frozen dimension has what is decided: the line says why
use Rattle.std.specs.Prelude.{◌≡◌, ◌≢◌, ◌<◌, ◌⊎◌, ◌++◌, ℕ, suc, List, ◌∷◌, All, true, false, MatchOption, Some, IsTrue, codes, length, slice_get}
use Rattle.std.specs.Fmt.{decimal}
use Rattle.olap_base.specs.Bytes.{space}
use Rattle.olap_base.specs.Chains.{Leads}
use Rattle.olap_base.specs.Graph.{CategoryReaches, Graph, HasEdge, IsCategory}
use Rattle.olap_ast.specs.Formula.{Formula}
use Rattle.olap_ast.specs.Frozen.{Candidates}
use Rattle.olap_ast.specs.Schema.{Schema}
use Rattle.olap_ast.specs.declared.three_values.Truth3.TheVariants.{No}
use Rattle.olap_eval.specs.Partial.{value_at}
use Rattle.olap_graph.specs.Lookups.{edge_at, edges_from, name_of_category}
use Rattle.olap_trail.specs.Decisions.{present_graph, status_of}
use Rattle.olap_proof.specs.declared.forms.Form.{Form}
use Rattle.olap_proof.specs.declared.forms.Form.TheVariants.{Long, Short}
use Rattle.olap_proof.specs.Places.{Place, is_known, knowledge, leads, possible_graph, truth_of_reach, way_of}

-- the first three kinds split a place into cases; the others close it
pub data Line : Type 0 where
  EdgeOrNot : (edge : ℕ) → Line
  NameOf : (category : ℕ) → Line
  WayOrNot : (child parent : ℕ) → Line
  Dead : (category : ℕ) → Line
  Cycle : Line
  Shortcut : Line
  Loose : (edge : ℕ) → Line
  Unreached : (category : ℕ) → Line
  Clash : (child parent : ℕ) → Line
  Unmet : (constraint : ℕ) → Line
  Asked : Line

-- ---- the bytes

-- two words, with a space between them
abbrev pub words : List ℕ → List ℕ → List ℕ
words w v = w ++ space ∷ v

-- the names of two categories
abbrev pub way_words : Graph → ℕ → ℕ → List ℕ
way_words g a b = words (name_of_category g a) (name_of_category g b)

-- the names of an edge's ends
abbrev pub edge_words : Graph → ℕ → List ℕ
edge_words g e = way_words g (edge_at g e).child (edge_at g e).parent

-- constraints are numbered from 1
abbrev pub line_text : Graph → Line → List ℕ
line_text g (EdgeOrNot e) = words (codes "edge") (edge_words g e)
line_text g (NameOf c) = words (codes "name") (name_of_category g c)
line_text g (WayOrNot a b) = words (codes "reach") (way_words g a b)
line_text g (Dead c) = words (codes "dead") (name_of_category g c)
line_text g Cycle = codes "cycle"
line_text g Shortcut = codes "shortcut"
line_text g (Loose e) = words (codes "loose") (edge_words g e)
line_text g (Unreached c) = words (codes "loose") (name_of_category g c)
line_text g (Clash a b) = words (codes "steps") (way_words g a b)
line_text g (Unmet n) = words (codes "constraint") (decimal (suc n))
line_text g Asked = codes "question"

-- ---- the reasons

-- the edge is absent, or what it leads to doesn't reach b
abbrev pub IsNoStep : Form → Graph → Place → ℕ → ℕ → Type 0
IsNoStep f g p b e = (status_of p.decided e ≡ Some false) ⊎ (truth_of_reach f p (edge_at g e).parent b ≡ No)

-- what the line names is in the schema, and no frozen dimension for the question has what is decided: the line says why
abbrev pub IsReason : Form → Schema → Formula → Candidates → Place → Line → Type 0
-- c has a member, and all edges out of c are absent
IsReason f s q k p (Dead c) = IsCategory s.graph c × (c ≢ 0) × IsTrue (is_known p c)
    × All (λ e. status_of p.decided e ≡ Some false) (edges_from s.graph c)
-- a walk of present edges leads back to where it began
IsReason f s q k p Cycle = (c : ℕ) × Leads (HasEdge (present_graph p.decided)) c c
-- a present edge, and a walk of two present edges or more between the same categories
IsReason f s q k p Shortcut = let g = present_graph p.decided in
    (a b c : ℕ) × HasEdge g a b × HasEdge g a c × Leads (HasEdge g) c b
-- the edge is present, and no walk of edges that aren't absent leads from the root to its child, another category
IsReason f s q k p (Loose e) = (f ≡ Long) × (e < length s.graph.edges)
    × ((edge_at s.graph e).child ≢ p.decided.root) × (status_of p.decided e ≡ Some true)
    × (CategoryReaches (possible_graph p.decided) p.decided.root (edge_at s.graph e).child → ⊥)
-- c has a member, and the root's, another one, doesn't reach it
IsReason f s q k p (Unreached c) = (f ≡ Short) × IsCategory s.graph c × (c ≢ p.decided.root) × IsTrue (is_known p c)
    × (truth_of_reach f p p.decided.root c ≡ No)
-- it was decided that the way is there, and no first step of it can be; or that it isn't, and it is known to be
IsReason f s q k p (Clash a b) = (f ≡ Short) × IsCategory s.graph a × IsCategory s.graph b
    × (((way_of p.ways a b ≡ Some true) × (a ≢ b) × All (IsNoStep f s.graph p b) (edges_from s.graph a))
    ⊎ ((way_of p.ways a b ≡ Some false) × IsTrue (leads f p a b)))
-- the root of the constraint has a member, at which the formula is known to be false
IsReason f s q k p (Unmet n) = MatchOption (slice_get s.constraints n) ⊥
    (λ c. IsTrue (is_known p c.root) × (value_at (knowledge f k p) c.root c.formula ≡ No))
-- the question is known to be false at the root
IsReason f s q k p Asked = value_at (knowledge f k p) p.decided.root q ≡ No
IsReason f s q k p l = ⊥
