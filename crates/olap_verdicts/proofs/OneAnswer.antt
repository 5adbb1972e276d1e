-- There is one answer at most to a question about a text, and where it is yes the target is summarizable.
use Rattle.std.{proofs.Common.{◌≡◌, ◌<◌, ◌^◌, ◌++◌, ◌∙◌, ℕ, List, length, ap, sym, inl, inr, arith}, specs.Fmt.decimal}
use Rattle.std.specs.Prelude.{codes}
use Rattle.olap_ast.specs.{Schema.Schema, Summarizable.not_by_one, Valid.IsValidSchema}
use Rattle.olap_order.specs.Outputs.{line}
use Rattle.olap_proof.specs.Certificates.{CertificatesAreRight}
use Rattle.olap_proof.specs.{Verifying.{IsCertificateFor, IsFirstWrongFor, VerdictsAreOne}, declared.forms.Form.Form}
use Rattle.olap_verdicts.specs.{Laws.{AcceptedIsSummarizable, AnswersAreOne}, Questions.ByCertificate}

module _ (one : VerdictsAreOne) where
  few : (s : Schema) → IsValidSchema s → length s.constraints < 2 ^ 64
  few s v = let l = v.constraints_fit in omega (arith, l)

  none_wrong : (f : Form) (s : Schema) (c : ℕ) (sources text : List ℕ) (at : ℕ) → IsValidSchema s
      → IsCertificateFor f s c sources text → IsFirstWrongFor f s c sources text at → ⊥
  none_wrong f s c sources text at v t w = (one f s (not_by_one c sources) text v.hierarchy (few s v)).0 at w t

  one_wrong : (f : Form) (s : Schema) (c : ℕ) (sources text : List ℕ) (at other : ℕ) → IsValidSchema s
      → IsFirstWrongFor f s c sources text at → IsFirstWrongFor f s c sources text other → at ≡ other
  one_wrong f s c sources text at other v w x =
      (one f s (not_by_one c sources) text v.hierarchy (few s v)).1 at other w x

  pub answers_are_one : AnswersAreOne
  answers_are_one (ByCertificate f s c sources text) x y b d v (inl p) (inl q) = (p.0 ∙ sym q.0, p.2 ∙ sym q.2)
  answers_are_one (ByCertificate f s c sources text) x y b d v (inl p) (inr q) =
      absurd (none_wrong f s c sources text q.1.0 v p.1 q.1.1)
  answers_are_one (ByCertificate f s c sources text) x y b d v (inr p) (inl q) =
      absurd (none_wrong f s c sources text p.1.0 v q.1 p.1.1)
  answers_are_one (ByCertificate f s c sources text) x y b d v (inr p) (inr q) = (
    p.0 ∙ sym q.0,
    p.1.2
        ∙ ap (λ n. line (codes "rejected line " ++ decimal n)) (one_wrong f s c sources text p.1.0 q.1.0 v p.1.1 q.1.1)
        ∙ sym q.1.2,
  )

-- a certificate is there only where the target is summarizable
pub accepted_is_summarizable : CertificatesAreRight → AcceptedIsSummarizable
accepted_is_summarizable right f s c sources text bytes v (inl p) =
    right f s c sources p.1.0 p.1.2.0 v.hierarchy p.1.1 p.1.2.2
accepted_is_summarizable right f s c sources text bytes v (inr p) = absurd (let e = p.0 in cc)
