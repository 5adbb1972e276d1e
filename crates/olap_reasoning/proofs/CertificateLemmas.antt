-- What is found answers a question.
use Rattle.std.proofs.Common.{◌≡◌, ℕ, ◌<◌, List, ◌++◌, codes, Ok, subst, sym, inl, inr}
use Rattle.std.proofs.lemmas.List.{get_or-map, length-map, Elements.Contains-append_cases}
use Rattle.std.specs.{List.list_any, Prelude.{All, Contains, IsTrue, flat_map}, Str.is_utf8}
use Rattle.olap_base.proofs.{GeneralLemmas.first_of_not_or, ListLemmas.Contains-nil}
use Rattle.olap_base.specs.{Graph.{Graph, IsCategory, IsHierarchy}, Instance.{IsMember, ReachesCategory}}
use Rattle.olap_base.specs.declared.ids.CatId.{CatId}
use Rattle.olap_ast.proofs.{ComparedLemmas.atom_of_text, SourceLemmas.vias_free}
use Rattle.olap_ast.specs.{Atoms.{all_equalities, equalities}, Constants.IsConstant}
use Rattle.olap_ast.specs.Formula.{Formula, Formula.Truth, Formula.Not, Constant.AText}
use Rattle.olap_ast.specs.{Frozen.{IsFrozen, IsLeastFrozen}, Schema.Schema, Summarizable.{IsSummarizable, not_by_one}}
use Rattle.olap_ast.specs.Trees.{numbers_of}
use Rattle.olap_instance.specs.Printing.{text_of_instance}
use Rattle.olap_cex.specs.{CexText.counterexample_text, FoundFor.{IsFoundFor, found_instance, found_place}}
use Rattle.olap_cex.specs.{FrozenText.frozen_text, Laws.{QuestionIsTrue, RootIsMember}}
use Rattle.olap_frozen.specs.{LeastFound.{IsLeastFound, frozen_of}, declared.founding.Found.Found}
use Rattle.olap_names.specs.Names.{candidates_of}
use Rattle.olap_schema.specs.Readable.{is_control, AreTexts}
use Rattle.olap_summ.specs.Counterexamples.{IsCounterexampleFound}
use Rattle.olap_reasoning.{proofs.ReplyLemmas.answers_by, specs.Certificates.{ShowsDifference, ShowsUnmet}}
use Rattle.olap_reasoning.specs.Questions.{ByImplied, ByProof, BySatisfiable, IsAnswer, Question}
use Rattle.olap_order.specs.{Judged.Replies, Order.Done, Outputs.line, declared.replies.Reply.Reply}
use Rattle.olap_order.specs.declared.status.Status.TheVariants.{No, Yes}
use Rattle.olap_proof.specs.{Verifying.IsCertificateFor, declared.forms.Form.Form}

-- ---- replies

-- the least frozen dimension that was found shows that the category can have a member
pub member_shown : (s : Schema) (c : ℕ) (found : Found) → IsLeastFound s Truth c found → (reply : Reply)
    → reply.status ≡ Yes
    → reply.bytes.items ≡ line (codes "yes") ++ frozen_text s.graph (candidates_of found.candidates)
    found.frozen.root.0 (frozen_of found.frozen)
    → Replies IsAnswer (Done (BySatisfiable s c)) (Ok reply)
member_shown s c found least reply status text = answers_by (BySatisfiable s c) Yes tt reply status (record {
  candidates = candidates_of found.candidates;
  frozen = frozen_of found.frozen;
  least = least.least;
  text = subst (λ r. reply.bytes.items ≡ line (codes "yes") ++ frozen_text s.graph (candidates_of found.candidates)
      r (frozen_of found.frozen)) least.root text;
})

-- the least frozen dimension that was found shows that the constraint isn't met by all legal instances
pub unmet_shown : (s : Schema) (r : ℕ) (q : Formula) (found : Found) → IsLeastFound s (Not q) r found → (reply : Reply)
    → reply.status ≡ No
    → reply.bytes.items ≡ line (codes "no") ++ (frozen_text s.graph (candidates_of found.candidates)
    found.frozen.root.0 (frozen_of found.frozen) ++ text_of_instance s.graph (found_instance s.graph found))
    → Replies IsAnswer (Done (ByImplied s r q)) (Ok reply)
unmet_shown s r q found least reply status text =
    answers_by (ByImplied s r q) No tt reply status (at_root r least text)
  where
    at_root : (r : ℕ) → IsLeastFound s (Not q) r found
        → reply.bytes.items ≡ line (codes "no") ++ (frozen_text s.graph (candidates_of found.candidates)
        found.frozen.root.0 (frozen_of found.frozen) ++ text_of_instance s.graph (found_instance s.graph found))
        → ShowsUnmet s r q reply.bytes.items
    at_root r l e = subst (λ x. ShowsUnmet s x q reply.bytes.items) l.root (record {
      candidates = candidates_of found.candidates;
      frozen = frozen_of found.frozen;
      least = subst (λ x. IsLeastFrozen s (Not q) x (candidates_of found.candidates) (frozen_of found.frozen))
          (sym l.root) l.least;
      text = e;
    })

-- the counterexample that was found shows that the view isn't always that from the sources' views, which answers each
-- question that this answers
pub difference_shown : (q : Question) (s : Schema) (c : ℕ) (sources : List ℕ) (found : Found)
    → IsCounterexampleFound s c sources found
    → ((bytes : List ℕ) → ShowsDifference s c sources bytes → IsAnswer q No bytes)
    → (reply : Reply) → reply.status ≡ No
    → reply.bytes.items ≡ line (codes "no") ++ (frozen_text s.graph (candidates_of found.candidates)
    found.frozen.root.0 (frozen_of found.frozen)
    ++ counterexample_text s (candidates_of found.candidates) found.frozen.root.0 (frozen_of found.frozen) c sources)
    → Replies IsAnswer (Done q) (Ok reply)
difference_shown q s c sources found f answers reply status text =
    answers_by q No tt reply status (answers reply.bytes.items (record {
      candidates = candidates_of found.candidates;
      root = found.frozen.root.0;
      frozen = frozen_of found.frozen;
      counterexample = f.is_one;
      text = text;
    }))

-- a certificate shows that the target is summarizable
pub certificate_shown : (f : Form) (s : Schema) (c : ℕ) (sources : List ℕ) → IsSummarizable s c sources
    → (reply : Reply) → reply.status ≡ Yes → IsCertificateFor f s c sources reply.bytes.items
    → Replies IsAnswer (Done (ByProof f s c sources)) (Ok reply)
certificate_shown f s c sources is reply status certificate =
    answers_by (ByProof f s c sources) Yes tt reply status (is, certificate)

-- ---- constants are UTF-8

-- the atoms of a schema and a question have texts
pub all_texts : (s : Schema) (q : Formula) → AreTexts (flat_map (λ c. equalities c.formula) s.constraints)
    → AreTexts (equalities q) → AreTexts (all_equalities s q)
all_texts s q a b e h = elim (Contains-append_cases (flat_map (λ c. equalities c.formula) s.constraints)
    (equalities q) e h) [
      | inl x ↦ a e x
      | inr y ↦ b e y
    ]

-- where all texts that are compared are UTF-8, the constants are
constant_is_utf8 : (s : Schema) (q : Formula) → AreTexts (all_equalities s q) → (c : ℕ) (text : List ℕ)
    → IsConstant s q c (AText text) → IsTrue (is_utf8 text)
constant_is_utf8 s q a c text h =
    first_of_not_or (is_utf8 text) (list_any is_control text)
    (a (record { category = c; text = text }) (atom_of_text s q c text h))

-- the question of summarizability compares no texts
pub question_has_texts : (c : ℕ) (sources : List ℕ) → AreTexts (equalities (not_by_one c sources))
question_has_texts c sources e h = absurd (Contains-nil e (subst (λ es. Contains es e) (vias_free c sources) h))

-- ---- what is found may be printed

-- what the search found for a question is a frozen dimension of the graph
pub found_for : (s : Schema) (q : Formula) (r : ℕ) (found : Found) → IsCategory s.graph r → IsLeastFound s q r found
    → AreTexts (all_equalities s q) → IsFoundFor s.graph found
found_for s q r found category l texts = record {
  sized = l.sized;
  root = subst (IsCategory s.graph) (sym l.root) category;
  constraints = s.constraints;
  question = q;
  candidates = l.least.candidates;
  is_one = subst (λ x. IsFrozen s q x (candidates_of found.candidates) (frozen_of found.frozen))
      (sym l.root) l.least.is_one;
  utf8 = constant_is_utf8 s q texts;
}

-- so is a counterexample that was found
pub found_for_difference : (s : Schema) (c : ℕ) (sources : List ℕ) (found : Found)
    → IsCounterexampleFound s c sources found
    → AreTexts (flat_map (λ c. equalities c.formula) s.constraints) → IsFoundFor s.graph found
found_for_difference s c sources found f texts = record {
  sized = f.sized;
  root = f.is_one.bottom.0.1;
  constraints = s.constraints;
  question = not_by_one c sources;
  candidates = f.is_one.least.candidates;
  is_one = f.is_one.least.is_one;
  utf8 = constant_is_utf8 s (not_by_one c sources)
      (all_texts s (not_by_one c sources) texts (question_has_texts c sources));
}

-- the root of a counterexample reaches the target
pub target_reached : QuestionIsTrue → (s : Schema) (c : ℕ) (sources : List ℕ) (found : Found) → IsHierarchy s.graph
    → IsCounterexampleFound s c sources found
    → ReachesCategory (found_instance s.graph found) (found_place s.graph found) c
target_reached law s c sources found hierarchy f = (law s (not_by_one c sources) found.frozen.root.0
    (candidates_of found.candidates) (frozen_of found.frozen) hierarchy f.is_one.bottom.0.1 f.is_one.least.is_one).0

-- the root is a member
pub root_there : RootIsMember → (s : Schema) (c : ℕ) (sources : List ℕ) (found : Found) → IsHierarchy s.graph
    → IsCounterexampleFound s c sources found → IsMember (found_instance s.graph found) (found_place s.graph found)
root_there law s c sources found hierarchy f = (law s (not_by_one c sources) found.frozen.root.0
    (candidates_of found.candidates) (frozen_of found.frozen) hierarchy f.is_one.bottom.0.1 f.is_one.least.is_one).0

-- the sources' numbers are categories, so the sources are
pub sources_are : (g : Graph) (sources : List CatId) → All (IsCategory g) (numbers_of sources)
    → All (λ (s : CatId). IsCategory g s.0) sources
sources_are g sources a k d l = subst (IsCategory g) (get_or-map (λ (s : CatId). s.0) sources k d 0 l)
    (a k 0 (subst (λ n. k < n) (sym (length-map sources (λ (s : CatId). s.0))) l))
