-- Each question about all legal instances of a valid schema has an answer.
use Rattle.std.{proofs.Common.{ℕ, List, ◌++◌, length, refl, inl, inr}, specs.Fmt.decimal}
use Rattle.std.specs.Prelude.{◌⊎◌, codes, flat_map}
use Rattle.olap_base.{proofs.GeneralLemmas.at_most_or_greater, specs.Limits.most_frozen, specs.Ranks.AreExactly}
use Rattle.olap_ast.specs.Formula.{Formula, Formula.Not, Formula.Truth}
use Rattle.olap_ast.specs.Frozen.{AreCandidates, Candidates, Frozen, IsFrozen, IsLeastFrozen, code, thawed}
use Rattle.olap_ast.specs.Questions.{ImpliedExactlyIfNoneFrozen, SourcesHaveCandidates, UnsatisfiableExactlyIfNoneFrozen, ValidSchemasHaveCandidates}
use Rattle.olap_ast.specs.{Schema.Schema, Summarizable.IsSummarizable, Valid.{IsQuestion, IsValidSchema}}
use Rattle.olap_cex.specs.{CexText.counterexample_text, FrozenText.frozen_text}
use Rattle.olap_exists.specs.Existing.{CounterexamplesExist, FindingsExist, FrozenAreListed, LeastFrozenExist}
use Rattle.olap_instance.specs.Printing.{text_of_instance}
use Rattle.olap_needs.specs.Laws.{NeedsLeaveMembers}
use Rattle.olap_order.specs.{Outputs.{line, refusal}, declared.status.Status.Status}
use Rattle.olap_order.specs.declared.status.Status.TheVariants.{Yes, No, Refused}
use Rattle.olap_proof.specs.{Certificates.lines_text, Existing.CertificatesExistExactlyWhereSummarizable}
use Rattle.olap_proof.specs.{Verifying.IsCertificateFor, declared.forms.Form.Form}
use Rattle.olap_reasoning.proofs.{SomeNeeds.needs_exist, SomeShapes.shapes_exist}
use Rattle.olap_reasoning.specs.{Certificates.ShowsDifference, Existing.AnswersExist, Listings.finding_text}
use Rattle.olap_reasoning.specs.Questions.{IsAnswer, Question, BySatisfiable, ByImplied, BySummarizable, ByProof, ByFrozen, ByAudit, ByNeeds, ByShapes}

-- the question has an answer
abbrev Answered : Question → Type 0
Answered q = (status : Status) × (bytes : List ℕ) × IsAnswer q status bytes

-- a category has a member in a least frozen dimension, or none
satisfied : LeastFrozenExist → ValidSchemasHaveCandidates → UnsatisfiableExactlyIfNoneFrozen → (s : Schema) (c : ℕ)
    → IsValidSchema s → Answered (BySatisfiable s c)
satisfied least candidates unsatisfiable s c v =
    let k = candidates s 0 Truth v tt in go k.0 k.1 (least s Truth c k.0 k.1)
  where
    go : (k : Candidates) → AreCandidates s Truth k
        → ((f : Frozen) × IsLeastFrozen s Truth c k f) ⊎ ((f : Frozen) → IsFrozen s Truth c k f → ⊥)
        → Answered (BySatisfiable s c)
    go k are (inl t) = (
      Yes,
      line (codes "yes") ++ frozen_text s.graph k c t.0,
      record { candidates = k; frozen = t.0; least = t.1; text = refl },
    )
    go k are (inr n) = (No, line (codes "no"), ((unsatisfiable s c k v.hierarchy are).1 n, refl))

-- a constraint is met, or a least frozen dimension doesn't meet it
met : LeastFrozenExist → ValidSchemasHaveCandidates → ImpliedExactlyIfNoneFrozen → (s : Schema) (r : ℕ) (q : Formula)
    → IsValidSchema s → IsQuestion s r q → Answered (ByImplied s r q)
met least candidates implied s r q v t =
    let k = candidates s r (Not q) v t.formula in go k.0 k.1 (least s (Not q) r k.0 k.1)
  where
    go : (k : Candidates) → AreCandidates s (Not q) k
        → ((f : Frozen) × IsLeastFrozen s (Not q) r k f) ⊎ ((f : Frozen) → IsFrozen s (Not q) r k f → ⊥)
        → Answered (ByImplied s r q)
    go k are (inl t) = (
      No,
      line (codes "no") ++ (frozen_text s.graph k r t.0 ++ text_of_instance s.graph (thawed s k r t.0)),
      record { candidates = k; frozen = t.0; least = t.1; text = refl },
    )
    go k are (inr n) = (Yes, line (codes "yes"), ((implied s r q k v.hierarchy are).1 n, refl))

-- a target is summarizable, or there is a difference to show
summed : CounterexamplesExist → (s : Schema) (c : ℕ) (sources : List ℕ) → IsValidSchema s
    → IsSummarizable s c sources ⊎ ((bytes : List ℕ) × ShowsDifference s c sources bytes)
summed counterexamples s c sources v = elim (counterexamples s c sources v) [
  | inl h ↦ inl h
  | inr t ↦ inr (
    line (codes "no") ++ (frozen_text s.graph t.0 t.1 t.2 ++ counterexample_text s t.0 t.1 t.2 c sources),
    record { candidates = t.0; root = t.1; frozen = t.2; counterexample = t.3; text = refl },
  )
]

-- where a target is summarizable, a text says why
certified : SourcesHaveCandidates → CertificatesExistExactlyWhereSummarizable → (f : Form) (s : Schema) (c : ℕ)
    (sources : List ℕ) → IsValidSchema s → IsSummarizable s c sources
    → (bytes : List ℕ) × IsCertificateFor f s c sources bytes
certified candidates certificates f s c sources v h =
    let k = candidates s c sources v in
    let w = (certificates f s c sources k.0 v.hierarchy k.1).0 h in
    (lines_text w.0, (k.0, k.1, (w.0, refl, w.1)))

-- all frozen dimensions are told, or that they are too many
listed : FrozenAreListed → ValidSchemasHaveCandidates → (s : Schema) (c : ℕ) → IsValidSchema s
    → Answered (ByFrozen s c)
listed lists candidates s c v = let k = candidates s 0 Truth v tt in go k.0 k.1 (lists s Truth c k.0 k.1)
  where
    go : (k : Candidates) → AreCandidates s Truth k
        → (all : List Frozen) × AreExactly code (IsFrozen s Truth c k) all → Answered (ByFrozen s c)
    go k are t = elim (at_most_or_greater (length t.0) most_frozen) [
      | inl l ↦ (
        Yes,
        flat_map (frozen_text s.graph k c) t.0 ++ line (codes "count " ++ decimal (length t.0)),
        record {
          candidates = k;
          frozen = t.0;
          all = (are, t.1);
          few = l;
          text = refl;
        },
      )
      | inr m ↦ (
        Refused,
        refusal (codes "frozen TooMany"),
        (
          (
            k,
            record {
              candidates = are;
              some = t.0;
              many = m;
              differ = λ i j d l h. (t.1.ordered i j d l h).1;
              sound = t.1.sound;
            },
          ),
          refl,
        ),
      )
    ]

module _ (least : LeastFrozenExist) (lists : FrozenAreListed) (counterexamples : CounterexamplesExist)
    (findings : FindingsExist) (candidates : ValidSchemasHaveCandidates) (of_sources : SourcesHaveCandidates)
    (unsatisfiable : UnsatisfiableExactlyIfNoneFrozen) (implied : ImpliedExactlyIfNoneFrozen)
    (certificates : CertificatesExistExactlyWhereSummarizable) (leave : NeedsLeaveMembers) where
  pub answers_exist : AnswersExist
  answers_exist (BySatisfiable s c) v = satisfied least candidates unsatisfiable s c v
  answers_exist (ByImplied s r q) t = met least candidates implied s r q t.0 t.1
  answers_exist (BySummarizable s c sources) v = elim (summed counterexamples s c sources v) [
    | inl h ↦ (Yes, line (codes "yes"), (h, refl))
    | inr t ↦ (No, t.0, t.1)
  ]
  answers_exist (ByProof f s c sources) v = elim (summed counterexamples s c sources v) [
    | inl h ↦ let w = certified of_sources certificates f s c sources v h in (Yes, w.0, (h, w.1))
    | inr t ↦ (No, t.0, t.1)
  ]
  answers_exist (ByNeeds s c sources) v = needs_exist least implied leave of_sources s c sources v
  answers_exist (ByFrozen s c) v = listed lists candidates s c v
  answers_exist (ByShapes s c) v = shapes_exist lists candidates s c v
  answers_exist (ByAudit s) v =
      let t = findings s v in (
        Yes,
        flat_map (finding_text s.graph) t.0 ++ line (codes "findings " ++ decimal (length t.0)),
        record { findings = t.0; are_findings = t.1; text = refl },
      )
