-- What the definitions leave no choice in.
--     AreCertificates        two texts that answer why
--     AnswersAreOne          a question has one status at most, and one list of bytes but for certificates of a yes
--     AllFrozenAreOne        all frozen dimensions are one list
--     TooManyAreNotListed    if there are more than may be listed, no list has all
--     FindingsAreOne         the findings are one list
use Rattle.std.specs.Prelude.{◌≡◌, ◌⊎◌, ℕ, List}
use Rattle.olap_ast.specs.Findings.{AreFindings, Finding}
use Rattle.olap_ast.specs.Formula.{Formula}
use Rattle.olap_ast.specs.Frozen.{Candidates, Frozen}
use Rattle.olap_ast.specs.Schema.{Schema}
use Rattle.olap_dimsat.specs.Listed.{AreAllFrozen}
use Rattle.olap_order.specs.declared.status.Status.{Status}
use Rattle.olap_order.specs.declared.status.Status.TheVariants.{Yes}
use Rattle.olap_reasoning.specs.Listings.{HasTooMany, ListsFrozen}
use Rattle.olap_proof.specs.Verifying.{IsCertificateFor}
use Rattle.olap_reasoning.specs.Questions.{IsAnswer, Question, ByProof}

-- the question is why a target is summarizable, and both texts are certificates for it
abbrev pub AreCertificates : Question → List ℕ → List ℕ → Type 0
AreCertificates (ByProof f s c sources) b d = IsCertificateFor f s c sources b × IsCertificateFor f s c sources d
AreCertificates q b d = ⊥

-- a question has at most one status, and at most one list of bytes, except that there may be many certificates
abbrev pub AnswersAreOne : Type 0
AnswersAreOne = (q : Question) (s t : Status) (b c : List ℕ) → IsAnswer q s b → IsAnswer q t c
    → (s ≡ t) × ((b ≡ c) ⊎ ((s ≡ Yes) × AreCertificates q b c))

-- all frozen dimensions with a root for a question are one list, whichever candidates are taken
abbrev pub AllFrozenAreOne : Type 0
AllFrozenAreOne = (s : Schema) (q : Formula) (r : ℕ) (k h : Candidates) (all others : List Frozen)
    → AreAllFrozen s q r k all → AreAllFrozen s q r h others → all ≡ others

-- if there are more frozen dimensions than may be listed, no list has all
abbrev pub TooManyAreNotListed : Type 0
TooManyAreNotListed = (s : Schema) (c : ℕ) (bytes : List ℕ) → HasTooMany s c → ListsFrozen s c bytes → ⊥

-- the findings of a schema are one list
abbrev pub FindingsAreOne : Type 0
FindingsAreOne = (s : Schema) (findings others : List Finding) → AreFindings s findings → AreFindings s others
    → findings ≡ others
