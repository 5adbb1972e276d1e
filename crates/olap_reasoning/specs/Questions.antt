-- What is asked about all legal instances of a schema, and what answers it.
--     Question   a command's question, with all that it needs
--     IsAnswer   a status and bytes answer the question
use Rattle.std.specs.Prelude.{◌≡◌, ℕ, List, codes}
use Rattle.olap_ast.specs.Findings.{IsUnsatisfiable}
use Rattle.olap_ast.specs.Formula.{Formula}
use Rattle.olap_ast.specs.Questions.{IsImplied}
use Rattle.olap_ast.specs.Schema.{Schema}
use Rattle.olap_ast.specs.Summarizable.{IsSummarizable, not_by_one}
use Rattle.olap_order.specs.Outputs.{line, refusal}
use Rattle.olap_order.specs.declared.status.Status.{Status}
use Rattle.olap_order.specs.declared.status.Status.TheVariants.{Yes, No, Refused}
use Rattle.olap_proof.specs.Verifying.{IsCertificateOf}
use Rattle.olap_proof.specs.declared.forms.Form.{Form}
use Rattle.olap_reasoning.specs.Certificates.{ShowsMember, ShowsUnmet, ShowsDifference}
use Rattle.olap_reasoning.specs.Listings.{HasTooMany, ListsFindings, ListsFrozen}
use Rattle.olap_reasoning.specs.Needing.{HasNoRoom, ListsEmptied, ListsNeeds}
use Rattle.olap_reasoning.specs.ShapeListings.{HasTooManyShapes, ListsShapes}

-- a command's question, with all that it needs
pub data Question : Type 0 where
  -- can the category have a member in a legal instance?
  BySatisfiable : (schema : Schema) (category : ℕ) → Question
  -- does every legal instance meet the constraint?
  ByImplied : (schema : Schema) (root : ℕ) (formula : Formula) → Question
  -- is the target's view always that from the sources' views?
  BySummarizable : (schema : Schema) (target : ℕ) (sources : List ℕ) → Question
  -- why is the target's view always that from the sources' views?
  ByProof : (form : Form) (schema : Schema) (target : ℕ) (sources : List ℕ) → Question
  -- what must be added so that the target's view is always that from the sources' views?
  ByNeeds : (schema : Schema) (target : ℕ) (sources : List ℕ) → Question
  -- which frozen dimensions with this root are there?
  ByFrozen : (schema : Schema) (root : ℕ) → Question
  -- which sets of edges do they have?
  ByShapes : (schema : Schema) (root : ℕ) → Question
  -- what does the schema say or do for nothing?
  ByAudit : (schema : Schema) → Question

-- this status and these bytes answer the question
abbrev pub IsAnswer : Question → Status → List ℕ → Type 0
IsAnswer (BySatisfiable s c) Yes bytes = ShowsMember s c bytes
IsAnswer (BySatisfiable s c) No bytes = IsUnsatisfiable s c × (bytes ≡ line (codes "no"))
IsAnswer (ByImplied s r q) Yes bytes = IsImplied s r q × (bytes ≡ line (codes "yes"))
IsAnswer (ByImplied s r q) No bytes = ShowsUnmet s r q bytes
IsAnswer (BySummarizable s c sources) Yes bytes = IsSummarizable s c sources × (bytes ≡ line (codes "yes"))
IsAnswer (BySummarizable s c sources) No bytes = ShowsDifference s c sources bytes
IsAnswer (ByProof f s c sources) Yes bytes =
    IsSummarizable s c sources × IsCertificateOf f s (not_by_one c sources) bytes
IsAnswer (ByProof f s c sources) No bytes = ShowsDifference s c sources bytes
IsAnswer (ByNeeds s c sources) Yes bytes = ListsNeeds s c sources bytes
IsAnswer (ByNeeds s c sources) No bytes = ListsEmptied s c sources bytes
IsAnswer (ByNeeds s c sources) Refused bytes = HasNoRoom s c sources × (bytes ≡ refusal (codes "needs TooMany"))
IsAnswer (ByFrozen s c) Yes bytes = ListsFrozen s c bytes
IsAnswer (ByFrozen s c) Refused bytes = HasTooMany s c × (bytes ≡ refusal (codes "frozen TooMany"))
IsAnswer (ByShapes s c) Yes bytes = ListsShapes s c bytes
IsAnswer (ByShapes s c) Refused bytes = HasTooManyShapes s c × (bytes ≡ refusal (codes "shapes TooMany"))
IsAnswer (ByAudit s) Yes bytes = ListsFindings s bytes
IsAnswer q status bytes = ⊥
