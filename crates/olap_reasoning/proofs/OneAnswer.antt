-- There is one answer at most to a question about all legal instances.
use Rattle.std.proofs.Common.{◌≡◌, ◌⊎◌, ℕ, ◌≤◌, List, ◌++◌, length, refl, ap, sym, ◌∙◌, inl, inr, arith}
use Rattle.std.specs.{Fmt.decimal, Prelude.{codes, flat_map}}
use Rattle.olap_ast.proofs.Determined.{findings_are_one, not_both_answers, not_more, one_list, same_name, the_counterexample_is_one, the_least_is_one}
use Rattle.olap_ast.specs.{Findings.IsUnsatisfiable, Formula.{Formula, Formula.Truth, Formula.Not}}
use Rattle.olap_ast.specs.{Frozen.{Frozen, root_place, thawed}, Questions.IsImplied, Schema.Schema}
use Rattle.olap_ast.specs.Summarizable.{IsSummarizable}
use Rattle.olap_cex.{proofs.OneLine.same_line, specs.CexText.{direct_sum, sums_text, views_sum}}
use Rattle.olap_cex.specs.FrozenText.{frozen_text}
use Rattle.olap_instance.specs.Printing.{text_of_instance}
use Rattle.olap_order.specs.{Outputs.line, declared.status.Status.Status}
use Rattle.olap_order.specs.declared.status.Status.TheVariants.{Yes, No, Refused}
use Rattle.olap_reasoning.proofs.{NeedsLemmas.one_needs, ShapeLemmas.{shapes_are_one, too_many_shapes_are_not_listed}}
use Rattle.olap_reasoning.specs.Certificates.{ShowsDifference, ShowsMember, ShowsUnmet}
use Rattle.olap_reasoning.specs.Laws.{AllFrozenAreOne, AnswersAreOne, AreCertificates, FindingsAreOne, TooManyAreNotListed}
use Rattle.olap_reasoning.specs.Listings.{HasTooMany, ListsFindings, ListsFrozen, finding_text}
use Rattle.olap_reasoning.specs.Questions.{IsAnswer, Question, BySatisfiable, ByImplied, BySummarizable, ByProof, ByNeeds, ByFrozen, ByShapes, ByAudit}
use Rattle.olap_reasoning.specs.ShapeListings.{HasTooManyShapes, ListsShapes}

-- ---- the line of a frozen dimension

-- ---- satisfiable, implies, summarizable

-- a yes of `satisfiable` has one text
one_member : (s : Schema) (c : ℕ) (xs ys : List ℕ) → ShowsMember s c xs → ShowsMember s c ys → xs ≡ ys
one_member s c xs ys a b =
    let r = the_least_is_one s Truth c a.candidates b.candidates a.frozen b.frozen a.least b.least in
    let l = same_line s.graph a.candidates b.candidates c c a.frozen b.frozen refl r.0 r.1 in
    a.text ∙ ap (λ t. line (codes "yes") ++ t) l ∙ sym b.text

-- it has none where the answer is no
no_member : (s : Schema) (c : ℕ) (ys : List ℕ) → IsUnsatisfiable s c → ShowsMember s c ys → ⊥
no_member s c ys u m = let z = m.least.is_one.stands_for in
    u (thawed s m.candidates c m.frozen) z.legal z.root z.root_is

-- a no of `implies` has one text
one_unmet : (s : Schema) (r : ℕ) (q : Formula) (xs ys : List ℕ) → ShowsUnmet s r q xs → ShowsUnmet s r q ys → xs ≡ ys
one_unmet s r q xs ys a b =
    let o = the_least_is_one s (Not q) r a.candidates b.candidates a.frozen b.frozen a.least b.least in
    let l = same_line s.graph a.candidates b.candidates r r a.frozen b.frozen refl o.0 o.1 in
    let t = o.2 in
    a.text ∙ (λ i. line (codes "no") ++ (l i ++ text_of_instance s.graph (t i))) ∙ sym b.text

-- it has none where the answer is yes
no_unmet : (s : Schema) (r : ℕ) (q : Formula) (ys : List ℕ) → IsImplied s r q → ShowsUnmet s r q ys → ⊥
no_unmet s r q ys u m = let z = m.least.is_one.stands_for in
    z.true_at_root (u (thawed s m.candidates r m.frozen) z.legal z.root z.root_is)

-- a no of `summarizable` has one text
one_difference : (s : Schema) (c : ℕ) (sources xs ys : List ℕ) → ShowsDifference s c sources xs
    → ShowsDifference s c sources ys → xs ≡ ys
one_difference s c sources xs ys a b =
    let o = the_counterexample_is_one s c sources a.candidates b.candidates a.root b.root a.frozen b.frozen
    a.counterexample b.counterexample in
    let q = o.0 in let p = o.1 in let t = o.3 in
    let l = same_line s.graph a.candidates b.candidates a.root b.root a.frozen b.frozen q p o.2 in
    a.text ∙ (λ i. line (codes "no") ++ (l i ++ (text_of_instance s.graph (t i) ++ sums_text s.graph (q i) c
    (direct_sum (t i) (root_place s (q i) (p i)) c) (views_sum (t i) (root_place s (q i) (p i)) c sources))))
    ∙ sym b.text

-- it has none where the answer is yes
no_difference : (s : Schema) (c : ℕ) (sources ys : List ℕ) → IsSummarizable s c sources → ShowsDifference s c sources ys
    → ⊥
no_difference s c sources ys u m = not_both_answers s c sources m.candidates m.root m.frozen u m.counterexample

-- ---- frozen, audit

-- the list of all frozen dimensions has one text
one_listing : (s : Schema) (c : ℕ) (xs ys : List ℕ) → ListsFrozen s c xs → ListsFrozen s c ys → xs ≡ ys
one_listing s c xs ys a b =
    let k = a.candidates in let h = b.candidates in
    let p : a.frozen ≡ b.frozen =
    one_list s Truth c k h a.all.0 b.all.0 a.frozen b.frozen a.all.1.ordered
    b.all.1.ordered a.all.1.sound b.all.1.sound a.all.1.complete b.all.1.complete in
    let m : (f : Frozen) → frozen_text s.graph k c f ≡ frozen_text s.graph h c f = λ f.
    same_line s.graph k h c c f f refl refl (λ d. same_name s Truth k h a.all.0 b.all.0 f d) in
    a.text ∙ (λ i. flat_map (λ f. m f i) (p i) ++ line (codes "count " ++ decimal (length (p i)))) ∙ sym b.text

-- there is none where they are too many
no_listing : (s : Schema) (c : ℕ) (ys : List ℕ) → HasTooMany s c → ListsFrozen s c ys → ⊥
no_listing s c ys m l =
    let h = m.0 in let t = m.1 in
    let r : length t.some ≤ length l.frozen = not_more s Truth c l.candidates h l.all.0 t.candidates l.frozen
    t.some l.all.1.complete t.differ t.sound in
    let many = t.many in let few = l.few in omega (arith, r, many, few)

-- the list of all shapes has one text
one_shaping : (s : Schema) (c : ℕ) (xs ys : List ℕ) → ListsShapes s c xs → ListsShapes s c ys → xs ≡ ys
one_shaping s c xs ys a b =
    let k = a.candidates in let h = b.candidates in
    let p : a.frozen ≡ b.frozen = shapes_are_one s Truth c k h a.frozen b.frozen a.all b.all in
    let m : (f : Frozen) → frozen_text s.graph k c f ≡ frozen_text s.graph h c f = λ f.
    same_line s.graph k h c c f f refl refl (λ d. same_name s Truth k h a.all.candidates b.all.candidates f d) in
    a.text ∙ (λ i. flat_map (λ f. m f i) (p i) ++ line (codes "count " ++ decimal (length (p i)))) ∙ sym b.text

-- there is none where they are too many
no_shaping : (s : Schema) (c : ℕ) (ys : List ℕ) → HasTooManyShapes s c → ListsShapes s c ys → ⊥
no_shaping = too_many_shapes_are_not_listed

-- the findings have one text
one_audit : (s : Schema) (xs ys : List ℕ) → ListsFindings s xs → ListsFindings s ys → xs ≡ ys
one_audit s xs ys a b =
    let p = findings_are_one s a.findings b.findings a.are_findings b.are_findings in
    a.text ∙ ap (λ fs. flat_map (finding_text s.graph) fs ++ line (codes "findings " ++ decimal (length fs))) p
    ∙ sym b.text

-- ---- all questions

-- one status and one text for each question, but for certificates of a yes
one_answer : (q : Question) (s t : Status) (xs ys : List ℕ) → IsAnswer q s xs → IsAnswer q t ys
    → (s ≡ t) × ((xs ≡ ys) ⊎ ((s ≡ Yes) × AreCertificates q xs ys))
one_answer (BySatisfiable z c) Yes Yes xs ys a b = (refl, inl (one_member z c xs ys a b))
one_answer (BySatisfiable z c) Yes No xs ys a b = absurd (no_member z c xs b.0 a)
one_answer (BySatisfiable z c) Yes t xs ys a b = absurd b
one_answer (BySatisfiable z c) No Yes xs ys a b = absurd (no_member z c ys a.0 b)
one_answer (BySatisfiable z c) No No xs ys a b = (refl, inl (a.1 ∙ sym b.1))
one_answer (BySatisfiable z c) No t xs ys a b = absurd b
one_answer (BySatisfiable z c) s t xs ys a b = absurd a
one_answer (ByImplied z r q) Yes Yes xs ys a b = (refl, inl (a.1 ∙ sym b.1))
one_answer (ByImplied z r q) Yes No xs ys a b = absurd (no_unmet z r q ys a.0 b)
one_answer (ByImplied z r q) Yes t xs ys a b = absurd b
one_answer (ByImplied z r q) No Yes xs ys a b = absurd (no_unmet z r q xs b.0 a)
one_answer (ByImplied z r q) No No xs ys a b = (refl, inl (one_unmet z r q xs ys a b))
one_answer (ByImplied z r q) No t xs ys a b = absurd b
one_answer (ByImplied z r q) s t xs ys a b = absurd a
one_answer (BySummarizable z c sources) Yes Yes xs ys a b = (refl, inl (a.1 ∙ sym b.1))
one_answer (BySummarizable z c sources) Yes No xs ys a b = absurd (no_difference z c sources ys a.0 b)
one_answer (BySummarizable z c sources) Yes t xs ys a b = absurd b
one_answer (BySummarizable z c sources) No Yes xs ys a b = absurd (no_difference z c sources xs b.0 a)
one_answer (BySummarizable z c sources) No No xs ys a b = (refl, inl (one_difference z c sources xs ys a b))
one_answer (BySummarizable z c sources) No t xs ys a b = absurd b
one_answer (BySummarizable z c sources) s t xs ys a b = absurd a
one_answer (ByProof f z c sources) Yes Yes xs ys a b = (refl, inr (refl, (a.1, b.1)))
one_answer (ByProof f z c sources) Yes No xs ys a b = absurd (no_difference z c sources ys a.0 b)
one_answer (ByProof f z c sources) Yes t xs ys a b = absurd b
one_answer (ByProof f z c sources) No Yes xs ys a b = absurd (no_difference z c sources xs b.0 a)
one_answer (ByProof f z c sources) No No xs ys a b = (refl, inl (one_difference z c sources xs ys a b))
one_answer (ByProof f z c sources) No t xs ys a b = absurd b
one_answer (ByProof f z c sources) s t xs ys a b = absurd a
one_answer (ByNeeds z c sources) s t xs ys a b =
    let one = one_needs z c sources s t xs ys a b in (one.0, inl one.1)
one_answer (ByFrozen z c) Yes Yes xs ys a b = (refl, inl (one_listing z c xs ys a b))
one_answer (ByFrozen z c) Yes Refused xs ys a b = absurd (no_listing z c xs b.0 a)
one_answer (ByFrozen z c) Yes t xs ys a b = absurd b
one_answer (ByFrozen z c) Refused Yes xs ys a b = absurd (no_listing z c ys a.0 b)
one_answer (ByFrozen z c) Refused Refused xs ys a b = (refl, inl (a.1 ∙ sym b.1))
one_answer (ByFrozen z c) Refused t xs ys a b = absurd b
one_answer (ByFrozen z c) s t xs ys a b = absurd a
one_answer (ByShapes z c) Yes Yes xs ys a b = (refl, inl (one_shaping z c xs ys a b))
one_answer (ByShapes z c) Yes Refused xs ys a b = absurd (no_shaping z c xs b.0 a)
one_answer (ByShapes z c) Yes t xs ys a b = absurd b
one_answer (ByShapes z c) Refused Yes xs ys a b = absurd (no_shaping z c ys a.0 b)
one_answer (ByShapes z c) Refused Refused xs ys a b = (refl, inl (a.1 ∙ sym b.1))
one_answer (ByShapes z c) Refused t xs ys a b = absurd b
one_answer (ByShapes z c) s t xs ys a b = absurd a
one_answer (ByAudit z) Yes Yes xs ys a b = (refl, inl (one_audit z xs ys a b))
one_answer (ByAudit z) Yes t xs ys a b = absurd b
one_answer (ByAudit z) s t xs ys a b = absurd a

-- so it is of all questions
pub answers_are_one : AnswersAreOne
answers_are_one = one_answer

-- ---- the parts of an answer

-- all frozen dimensions are one list
pub all_frozen_are_one : AllFrozenAreOne
all_frozen_are_one s q r k h xs ys a b = one_list s q r k h a.0 b.0 xs ys a.1.ordered b.1.ordered a.1.sound b.1.sound
    a.1.complete b.1.complete

-- if there are too many, no list has all
pub too_many_are_not_listed : TooManyAreNotListed
too_many_are_not_listed = no_listing

-- the findings are one list
pub findings_are_one_list : FindingsAreOne
findings_are_one_list = findings_are_one
