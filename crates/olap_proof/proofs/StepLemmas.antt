-- What a line does, if it does anything.
use Rattle.std.proofs.Common.{◌≡◌, ℕ, ◌<◌, ◌++◌, List, [], ◌∷◌, length, map, true, false, None, refl, subst}
use Rattle.olap_base.specs.Graph.{IsCategory, IsDeclared}
use Rattle.olap_ast.specs.{Formula.Formula, Frozen.Candidates, Schema.Schema}
use Rattle.olap_trail.specs.Decisions.{status_of}
use Rattle.olap_proof.proofs.ReasonLemmas.{about_of, closes_of}
use Rattle.olap_proof.specs.Certificates.{Open, Open.At, Open.Bottom, Open.Head, Runs, Runs.more, Runs.none, Steps, Steps.begins, Steps.closes, Steps.edges, Steps.names, Steps.roots, Steps.ways, bottom_text, bottoms_of, head_text, indexes_of, start, with_edge, with_name, with_way}
use Rattle.olap_proof.specs.Closing.{Closes, IsAbout}
use Rattle.olap_proof.specs.Lines.{Line, Line.EdgeOrNot, Line.NameOf, Line.WayOrNot, line_text}
use Rattle.olap_proof.specs.{Places.{Place, index_of, way_of}, declared.forms.Form.Form}
use Rattle.olap_proof.specs.declared.forms.Form.TheVariants.{Short}

-- a line splits a place, or closes it
pub data AtStep (f : Form) (s : Schema) (q : Formula) (k : Candidates) (line : List ℕ) (p : Place) (new : List Open)
    : Type 0 where
  by_edge : (e : ℕ) → line ≡ line_text s.graph (EdgeOrNot e) → e < length s.graph.edges
      → status_of p.decided e ≡ None → new ≡ At (with_edge p e false) ∷ At (with_edge p e true) ∷ []
      → AtStep f s q k line p new
  by_name : (c : ℕ) → line ≡ line_text s.graph (NameOf c) → IsDeclared s.graph c → index_of p.namings c ≡ None
      → new ≡ map (λ i. At (with_name p c i)) (indexes_of k c) → AtStep f s q k line p new
  by_way : (a b : ℕ) → line ≡ line_text s.graph (WayOrNot a b) → f ≡ Short → IsCategory s.graph a
      → IsCategory s.graph b → way_of p.ways a b ≡ None
      → new ≡ At (with_way p a b false) ∷ At (with_way p a b true) ∷ [] → AtStep f s q k line p new
  by_reason : (l : Line) → line ≡ line_text s.graph l → IsAbout s l → Closes f s q k p l → new ≡ []
      → AtStep f s q k line p new

-- what a line does with what is open
abbrev Happens : Form → Schema → Formula → Candidates → List ℕ → List Open → Open → Type 0
Happens f s q k line new Head = (line ≡ head_text f) × (new ≡ map Bottom (bottoms_of s.graph))
Happens f s q k line new (Bottom b) = (line ≡ bottom_text s.graph b) × (new ≡ At (start s.graph b) ∷ [])
Happens f s q k line new (At p) = AtStep f s q k line p new

-- and it does
happens : (f : Form) (s : Schema) (q : Formula) (k : Candidates) {line : List ℕ} {o : Open} {new : List Open}
    → Steps f s q k line o new → Happens f s q k line new o
happens f s q k begins = (refl, refl)
happens f s q k roots = (refl, refl)
happens f s q k (edges {e = i} l u) = by_edge i refl l u refl
happens f s q k (names {c = c} l u) = by_name c refl l u refl
happens f s q k (ways {a = a} {b = b} o i j u) = by_way a b refl o i j u refl
happens f s q k (closes {p = x} l h) = by_reason l refl (about_of f s q k x l h) (closes_of f s q k x l h) refl

-- what a line does with a place is one of these
pub step_at : (f : Form) (s : Schema) (q : Formula) (k : Candidates) {line : List ℕ} {o : Open} {new : List Open}
    → Steps f s q k line o new → (p : Place) → o ≡ At p → AtStep f s q k line p new
step_at f s q k {line} {o} {new} step p e = subst (Happens f s q k line new) e (happens f s q k step)

-- the first line is the form's
pub step_head : (f : Form) (s : Schema) (q : Formula) (k : Candidates) {line : List ℕ} {o : Open} {new : List Open}
    → Steps f s q k line o new → o ≡ Head → (line ≡ head_text f) × (new ≡ map Bottom (bottoms_of s.graph))
step_head f s q k {line} {o} {new} step e = subst (Happens f s q k line new) e (happens f s q k step)

-- above a tree the bottom category is named
pub step_bottom : (f : Form) (s : Schema) (q : Formula) (k : Candidates) {line : List ℕ} {o : Open} {new : List Open}
    → Steps f s q k line o new → (b : ℕ) → o ≡ Bottom b
    → (line ≡ bottom_text s.graph b) × (new ≡ At (start s.graph b) ∷ [])
step_bottom f s q k {line} {o} {new} step b e = subst (Happens f s q k line new) e (happens f s q k step)

-- the first of some lines does something with what is open first
pub data FirstStep (f : Form) (s : Schema) (q : Formula) (k : Candidates) (line : List ℕ) (lines : List (List ℕ))
    (os end : List Open) : Type 0 where
  first : (o : Open) (new rest : List Open) → os ≡ o ∷ rest → Steps f s q k line o new
      → Runs f s q k lines (new ++ rest) end → FirstStep f s q k line lines os end

-- what the first line does, and the others after it
pub first_step : (f : Form) (s : Schema) (q : Formula) (k : Candidates) {all : List (List ℕ)} {os end : List Open}
    → Runs f s q k all os end → (line : List ℕ) (lines : List (List ℕ)) → all ≡ line ∷ lines
    → FirstStep f s q k line lines os end
first_step f s q k none line lines e = absurd (cc)
first_step f s q k (more {line = x} {lines = xs} {o = o} {new = new} {rest = rest} {end = end} step run) line lines e =
    let same : x ≡ line = cc in
    let others : xs ≡ lines = cc in
    first o new rest refl (subst (λ y. Steps f s q k y o new) same step)
    (subst (λ ys. Runs f s q k ys (new ++ rest) end) others run)

-- what the first line does with what is open first, and the others after it
pub runs_first : (f : Form) (s : Schema) (q : Formula) (k : Candidates) {line : List ℕ} {lines : List (List ℕ)}
    {o : Open} {rest end : List Open} → Runs f s q k (line ∷ lines) (o ∷ rest) end
    → (new : List Open) × Steps f s q k line o new × Runs f s q k lines (new ++ rest) end
runs_first f s q k {line} {lines} {o} {rest} {end} run = go (first_step f s q k run line lines refl)
  where
    go : FirstStep f s q k line lines (o ∷ rest) end
        → (new : List Open) × Steps f s q k line o new × Runs f s q k lines (new ++ rest) end
    go (first x new others e step left) =
        let there : x ≡ o = cc in
        let same : others ≡ rest = cc in (
          new,
          subst (λ y. Steps f s q k line y new) there step,
          subst (λ os. Runs f s q k lines (new ++ os) end) same left,
        )

-- where nothing is open no line runs
pub nothing_runs : (f : Form) (s : Schema) (q : Formula) (k : Candidates) {lines : List (List ℕ)} {os end : List Open}
    → Runs f s q k lines os end → os ≡ [] → lines ≡ []
nothing_runs f s q k none e = refl
nothing_runs f s q k (more step run) e = absurd (cc)
