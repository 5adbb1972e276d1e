-- The question of summarizability, and the names that it and a schema speak of.
use Rattle.std.{proofs.Common.{◌≡◌, ℕ, List, subst, sym}, specs.Prelude.{All, Err, IfOk, Ok, OnOk, Result}}
use Rattle.olap_base.specs.Graph.{Graph, IsBottom, IsCategory, IsHierarchy}
use Rattle.olap_ast.proofs.{SourceLemmas.{question_at, question_few}, Summing.summarizable_exactly}
use Rattle.olap_ast.specs.{Formula.Formula, Frozen.{AreCandidates, Candidates, Frozen, IsFrozen}}
use Rattle.olap_ast.specs.{Schema.{Constraint, Schema}, Summarizable.{IsSummarizable, not_by_one}}
use Rattle.olap_ast.specs.Valid.{IsFormulaAt, IsValidSchema}
use Rattle.olap_names.{proofs.NameableLemmas.can_be_named, specs.Names.{CanBeNamed, with_graph}}
use Rattle.olap_proof.{proofs.CertificateLemmas.certificates_are_right, specs.Certificates.IsCertificateText}
use Rattle.olap_proof.specs.Trees.{HasNoFrozen}
use Rattle.olap_proof.specs.Verifying.{IsCertificateFor, IsCertificateOf, IsFirstWrongFor, IsFirstWrongOf}
use Rattle.olap_proof.specs.declared.forms.Form.{Form}

-- ---- names

-- the schema of its parts
schema_whole : (s : Schema) {g : Graph} {cs : List Constraint} → g ≡ s.graph → cs ≡ s.constraints
    → with_graph g cs ≡ s
schema_whole s p q = λ i. record { graph = p i; constraints = q i }

-- the constraints and the question can be named
pub question_named : (s : Schema) {g : Graph} {cs : List Constraint} {q : Formula} (c : ℕ) (sources : List ℕ)
    → g ≡ s.graph → cs ≡ s.constraints → q ≡ not_by_one c sources → IsValidSchema s → IsCategory s.graph c
    → All (IsCategory s.graph) sources → CanBeNamed g cs q
question_named s {g} {cs} {q} c sources graph constraints e v t h =
    let same = schema_whole s graph constraints in
    let w = subst (λ (x : Schema). IsValidSchema x) (sym same) v in
    can_be_named g cs 0 q w.formulas (subst (λ (x : Formula). IsFormulaAt g 0 x) (sym e)
    (question_at g 0 c sources (subst (λ (x : Schema). IsCategory x.graph c) (sym same) t)
    (subst (λ (x : Schema). All (IsCategory x.graph) sources) (sym same) h)))
    (question_few (with_graph g cs) q c sources e w)

-- ---- the schema of the parts

module _ (f : Form) (s : Schema) (c : ℕ) (sources : List ℕ) {g : Graph} {cs : List Constraint} {q : Formula}
    (graph : g ≡ s.graph) (constraints : cs ≡ s.constraints) (e : q ≡ not_by_one c sources) where
  same : with_graph g cs ≡ s
  same = schema_whole s graph constraints

  -- a certificate of the parts is one of the whole
  certified : (text : List ℕ) → IsCertificateOf f (with_graph g cs) q text → IsCertificateFor f s c sources text
  certified text t = subst (λ (x : Schema). IsCertificateFor f x c sources text) same
      (subst (λ (x : Formula). IsCertificateOf f (with_graph g cs) x text) e t)

  -- which is accepted
  pub accepted : {A E : Type 0} (text : List ℕ) (r : Result A E) → OnOk r (IsCertificateOf f (with_graph g cs) q text)
      → OnOk r (IsCertificateFor f s c sources text)
  accepted text (Ok a) t = certified text t
  accepted text (Err a) t = t

  -- so the target is summarizable
  pub shown : {A E : Type 0} (text : List ℕ) → IsHierarchy s.graph → (r : Result A E)
      → OnOk r (IsCertificateOf f (with_graph g cs) q text) → OnOk r (IsSummarizable s c sources)
  shown text hier (Ok a) t = let u = certified text t in certificates_are_right f s c sources u.0 u.2.0 hier u.1 u.2.2
  shown text hier (Err a) t = t

  -- the first wrong line for the parts is the first for the whole
  pub rejected : (text : List ℕ) {line : ℕ} → IsFirstWrongOf f (with_graph g cs) q text line
      → IsFirstWrongFor f s c sources text line
  rejected text {line} w = subst (λ (x : Schema). IsFirstWrongFor f x c sources text line) same
      (subst (λ (x : Formula). IsFirstWrongOf f (with_graph g cs) x text line) e w)

  -- a text that is written is a certificate
  pub written : {E : Type 0} (r : Result (List ℕ) E) → IfOk r (IsCertificateOf f (with_graph g cs) q)
      → IfOk r (IsCertificateFor f s c sources)
  written (Ok text) t = certified text t
  written (Err x) t = t

-- where the target is summarizable, no bottom category has a frozen dimension for the question
pub none_frozen : (s : Schema) (c : ℕ) (sources : List ℕ) {g : Graph} {cs : List Constraint} {q : Formula}
    → g ≡ s.graph → cs ≡ s.constraints → q ≡ not_by_one c sources → IsSummarizable s c sources
    → HasNoFrozen (with_graph g cs) q
none_frozen s c sources {g} {cs} {q} graph constraints e told hier k are =
    let part = with_graph g cs in
    let same = schema_whole s graph constraints in
    subst (λ (x : Formula). (b : ℕ) → IsBottom part.graph b → (v : Frozen) → IsFrozen part x b k v → ⊥) (sym e)
    ((summarizable_exactly part c sources k hier (subst (λ (x : Formula). AreCandidates part x k) e are)).0
    (subst (λ (x : Schema). IsSummarizable x c sources) (sym same) told))

-- a certificate is one of the candidates that it was written with
pub named : {E : Type 0} (f : Form) (s : Schema) (q : Formula) (k : Candidates) → AreCandidates s q k
    → (r : Result (List ℕ) E) → IfOk r (IsCertificateText f s q k) → IfOk r (IsCertificateOf f s q)
named f s q k are (Ok text) t = (k, are, t)
named f s q k are (Err x) t = t
