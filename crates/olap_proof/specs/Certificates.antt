-- Certificates: lines, each of which splits the first case that is open, or closes it.
--     Open                    what is still open
--     Steps                   a line does with what is open
--     Runs                    and lines do, one after another
--     IsCertificate           the lines close all
--     IsCertificateText       a text is such lines, each ended by an LF
--     IsFirstWrong            the line that is the first with nothing that it does
--     CertificatesAreRight    a certificate exists only where the target is summarizable
use Rattle.std.specs.Prelude.{◌≡◌, ◌≢◌, ◌<◌, ◌+◌, ◌++◌, ◌==◌, ℕ, List, [], ◌∷◌, Bool, true, false, None, codes, filter, flat_map, length, map, not}
use Rattle.std.specs.List.{list_any, range_with_len}
use Rattle.olap_base.specs.Bytes.{line_feed}
use Rattle.olap_base.specs.Graph.{Graph, IsCategory, IsDeclared, IsHierarchy}
use Rattle.olap_ast.specs.Formula.{Formula}
use Rattle.olap_ast.specs.Frozen.{AreCandidates, Candidates}
use Rattle.olap_ast.specs.Schema.{Schema}
use Rattle.olap_ast.specs.Summarizable.{IsSummarizable, not_by_one}
use Rattle.olap_graph.specs.Lookups.{name_of_category}
use Rattle.olap_trail.specs.Decisions.{status_of}
use Rattle.olap_proof.specs.declared.forms.Form.{Form}
use Rattle.olap_proof.specs.declared.forms.Form.TheVariants.{Long, Short}
use Rattle.olap_proof.specs.Places.{Place, index_of, way_of}
use Rattle.olap_proof.specs.Lines.{IsReason, Line, Line.EdgeOrNot, Line.NameOf, Line.WayOrNot, line_text, words}

-- ---- the first lines

-- a certificate's first line
abbrev pub head_text : Form → List ℕ
head_text Long = codes "certificate 1"
head_text Short = codes "short certificate 1"

-- the line above a bottom category's tree
abbrev pub bottom_text : Graph → ℕ → List ℕ
bottom_text g b = words (codes "bottom") (name_of_category g b)

-- the bottom categories in declaration order
abbrev pub bottoms_of : Graph → List ℕ
bottoms_of g = filter (λ c. not (list_any (λ e. e.parent == c) g.edges)) (range_with_len 1 (length g.names))

-- ---- what is open

-- the first line, a bottom category that isn't begun, or a place in its tree
pub data Open : Type 0 where
  Head : Open
  Bottom : (root : ℕ) → Open
  At : Place → Open

-- nothing is decided
abbrev pub start : Graph → ℕ → Place
start g b = record { decided = record { graph = g; root = b; decisions = [] }; namings = []; ways = [] }

-- the place with one more decision on an edge
abbrev pub with_edge : Place → ℕ → Bool → Place
with_edge p e b =
    record p { decided = record p.decided { decisions = p.decided.decisions ++ record { edge = e; present = b } ∷ [] } }

-- the place with one more decision on a name
abbrev pub with_name : Place → ℕ → ℕ → Place
with_name p c i = record p { namings = p.namings ++ (record { category = c; index = i }) ∷ [] }

-- the place with one more decision on a way
abbrev pub with_way : Place → ℕ → ℕ → Bool → Place
with_way p a b t = record p { ways = p.ways ++ (record { child = a; parent = b; there = t }) ∷ [] }

-- the places of the category's names: the first, and the others
abbrev pub indexes_of : Candidates → ℕ → List ℕ
indexes_of k c = range_with_len 0 (length (k.texts c) + 1)

-- ---- certificates

-- the line acts on the first open item, and leaves these open in its place
pub data Steps (f : Form) (s : Schema) (q : Formula) (k : Candidates) : List ℕ → Open → List Open → Type 0 where
  begins : Steps f s q k (head_text f) Head (map Bottom (bottoms_of s.graph))
  roots : {b : ℕ} → Steps f s q k (bottom_text s.graph b) (Bottom b) (At (start s.graph b) ∷ [])
  edges : {p : Place} {e : ℕ} → e < length s.graph.edges → status_of p.decided e ≡ None
      → Steps f s q k (line_text s.graph (EdgeOrNot e)) (At p) (At (with_edge p e false) ∷ At (with_edge p e true) ∷ [])
  names : {p : Place} {c : ℕ} → IsDeclared s.graph c → index_of p.namings c ≡ None
      → Steps f s q k (line_text s.graph (NameOf c)) (At p) (map (λ i. At (with_name p c i)) (indexes_of k c))
  ways : {p : Place} {a b : ℕ} → f ≡ Short → IsCategory s.graph a → IsCategory s.graph b → way_of p.ways a b ≡ None
      → Steps f s q k (line_text s.graph (WayOrNot a b)) (At p)
      (At (with_way p a b false) ∷ At (with_way p a b true) ∷ [])
  closes : {p : Place} (l : Line) → IsReason f s q k p l → Steps f s q k (line_text s.graph l) (At p) []

-- the lines act one after another, each on the first open item, and turn one list of open items into the other
pub data Runs (f : Form) (s : Schema) (q : Formula) (k : Candidates) : List (List ℕ) → List Open → List Open → Type 0
  where
    none : {os : List Open} → Runs f s q k [] os os
    more : {line : List ℕ} {lines : List (List ℕ)} {o : Open} {new rest end : List Open}
        → Steps f s q k line o new → Runs f s q k lines (new ++ rest) end → Runs f s q k (line ∷ lines) (o ∷ rest) end

-- the lines, begun with the first line open, leave nothing open
abbrev pub IsCertificate : Form → Schema → Formula → Candidates → List (List ℕ) → Type 0
IsCertificate f s q k lines = Runs f s q k lines (Head ∷ []) []

-- ---- texts

-- lines, each ended by an LF
abbrev pub lines_text : List (List ℕ) → List ℕ
lines_text lines = flat_map (λ line. line ++ line_feed ∷ []) lines

-- the text is a certificate's lines, each ended by an LF
abbrev pub IsCertificateText : Form → Schema → Formula → Candidates → List ℕ → Type 0
IsCertificateText f s q k text =
    (lines : List (List ℕ)) × (text ≡ lines_text lines) × Runs f s q k lines (Head ∷ []) []

-- this line is the first that is wrong, counted from 1 on: those before it run; then the text ends while something is
-- open, or what stands there is no line that does something
pub record IsFirstWrong (f : Form) (s : Schema) (q : Formula) (k : Candidates) (text : List ℕ) (at : ℕ) : Type 0
  where
    pub lines : List (List ℕ)
    pub rest : List ℕ
    pub open_there : List Open
    pub parts : text ≡ lines_text lines ++ rest
    pub counted : at ≡ length lines + 1
    pub run : Runs f s q k lines (Head ∷ []) open_there
    pub too_early : rest ≡ [] → open_there ≢ []
    pub stuck : (line more : List ℕ) (left : List Open) → rest ≡ line ++ line_feed ∷ more
        → Runs f s q k (line ∷ []) open_there left → ⊥

-- a certificate, of either form, exists only if the target is summarizable
abbrev pub CertificatesAreRight : Type 0
CertificatesAreRight = (f : Form) (s : Schema) (c : ℕ) (sources : List ℕ) (k : Candidates) (lines : List (List ℕ))
    → IsHierarchy s.graph → AreCandidates s (not_by_one c sources) k
    → IsCertificate f s (not_by_one c sources) k lines → IsSummarizable s c sources
