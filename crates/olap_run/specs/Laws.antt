-- What the definitions leave no choice in, and that there is an outcome.
--     AreCertificates    two texts that answer words which ask for a certificate
--     OutcomeIsOne       words and files have one status at most, and one list of bytes but for certificates of a yes
--     OutcomeExists      and they have them, where each file that the order comes to is held
--     ProvedIsAccepted   what `prove` writes `verify` accepts
use Rattle.std.specs.Prelude.{◌≡◌, ◌⊎◌, ◌≤◌, ◌∷◌, ℕ, List, MatchOption, Some, codes, length}
use Rattle.olap_base.specs.Limits.{most_certificate_bytes, most_words}
use Rattle.olap_outside.specs.Files.{Files}
use Rattle.olap_order.specs.Order.{Order, Done, IsHeld, Told, Read}
use Rattle.olap_order.specs.Outputs.{line}
use Rattle.olap_order.specs.declared.status.Status.{Status}
use Rattle.olap_order.specs.declared.status.Status.TheVariants.{Yes}
use Rattle.olap_proof.specs.declared.forms.Form.{Form}
use Rattle.olap_proof.specs.declared.forms.Form.TheVariants.{Long, Short}
use Rattle.olap_reasoning.specs.Laws as reasoning
use Rattle.olap_run.specs.Commands.{order_of}
use Rattle.olap_run.specs.Outcome.{Outcome}
use Rattle.olap_run.specs.Questions.{Question, OfReasoning}

-- the order comes to a question that asks for a certificate, and both texts are certificates for it
abbrev pub AreCertificates : Files → Order Question → List ℕ → List ℕ → Type 0
AreCertificates files (Done (OfReasoning q)) b c = reasoning.AreCertificates q b c
AreCertificates files (Done q) b c = ⊥
AreCertificates files (Told status text) b c = ⊥
AreCertificates files (Read name next) b c =
    MatchOption (files name) ⊥ (λ text. AreCertificates files (next text) b c)

-- for words and files there is one status at most, and one list of bytes, but that a yes may have many certificates
abbrev pub OutcomeIsOne : Type 0
OutcomeIsOne = (words : List (List ℕ)) (files : Files) (s t : Status) (b c : List ℕ) → Outcome words files s b
    → Outcome words files t c → (s ≡ t) × ((b ≡ c) ⊎ ((s ≡ Yes) × AreCertificates files (order_of words) b c))

-- for words and files of which each that the order comes to is held, there are a status and bytes that are the outcome
abbrev pub OutcomeExists : Type 0
OutcomeExists = (words : List (List ℕ)) (files : Files) → IsHeld files (order_of words)
    → (status : Status) × (bytes : List ℕ) × Outcome words files status bytes

-- the command that writes a certificate of that form
abbrev pub proving : Form → List ℕ
proving Long = codes "prove"
proving Short = codes "prove-short"

-- the command that judges one
abbrev pub judging : Form → List ℕ
judging Long = codes "verify"
judging Short = codes "verify-short"

-- what `prove` writes with status 0, if it fits a certificate's file, `verify` accepts from a file that holds it, by
-- the same words
abbrev pub ProvedIsAccepted : Type 0
ProvedIsAccepted = (form : Form) (schema certificate target : List ℕ) (sources : List (List ℕ)) (files : Files)
    (text : List ℕ) → length (judging form ∷ schema ∷ certificate ∷ target ∷ sources) ≤ most_words
    → Outcome (proving form ∷ schema ∷ target ∷ sources) files Yes text
    → files certificate ≡ Some text → length text ≤ most_certificate_bytes
    → Outcome (judging form ∷ schema ∷ certificate ∷ target ∷ sources) files Yes (line (codes "accepted"))
