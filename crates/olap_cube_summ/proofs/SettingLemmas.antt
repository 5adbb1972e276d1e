-- The questions of a cube, and the answers to them.
use Rattle.std.proofs.Common.{◌≡◌, ℕ, ◌+◌, ◌<◌, ◌≤◌, ◌↔◌, ◌++◌, List, [], ◌∷◌, Bool, true, false, length, get_or, ap, sym, subst, ◌∙◌, inl, inr, arith}
use Rattle.std.proofs.lemmas.List.{get_or-map, get_or_append_left, get_or_push, length-map}
use Rattle.std.specs.Prelude.{All, IsTrue, slice_index, slice_index_or}
use Rattle.olap_ast.{proofs.AtomLemmas.has_kinds, specs.Formula.Formula.Truth, specs.Schema.Schema}
use Rattle.olap_ast.specs.Valid.{IsValidSchema}
use Rattle.olap_base.proofs.{GeneralLemmas.below_or_same, ListLemmas.get_or_inside}
use Rattle.olap_base.specs.{Graph.{IsCategory, IsHierarchy}, Limits.most_views}
use Rattle.olap_bits.specs.declared.sets.CatSet.{CatSet}
use Rattle.olap_cube.specs.CubeSummarizable.{CubeSummarizableExactlyIfNoneBad, IsCubeSummarizable, IsKinded, graphs_of}
use Rattle.olap_cube_summ.proofs.{AnswerLemmas.none_bad, PlaceLemmas.{category_at, category_count}}
use Rattle.olap_cube_summ.specs.{Choices.AreFamiliesOf, Dimensions.{AreCategoriesOf, no_schema}}
use Rattle.olap_cube_summ.specs.{Families.{AreUnions, IsOrdered}, Masks.{CanBeBad, all_of}, Patterns.AreFamilies}
use Rattle.olap_cube_summ.specs.Questions.{AreQuestions, AreQuestionsOf, no_question, sources_in, target_in}
use Rattle.olap_cube_summ.specs.declared.{families.Family.Family, questions.Question.Question}

-- ---- categories of each dimension

-- the questions are ones of the schemas
pub are_questions_of : (ss : List Schema) (c : List ℕ) (sources : List (List ℕ)) (qs : List Question)
    → AreCategoriesOf ss c → All (AreCategoriesOf ss) sources → length sources ≤ most_views → AreQuestions c sources qs
    → AreQuestionsOf ss qs
are_questions_of ss c sources qs t all few asked = record {
  count = count;
  each = λ i l. let m : i < length qs = subst (λ w. i < w) (sym count) l in record {
    target = subst (IsCategory (slice_index_or ss i no_schema).graph)
        (ap (λ w. slice_index w i) (sym asked.targets) ∙ get_or-map target_in qs i no_question 0 m)
        (category_at ss c i t l);
    sources = λ k d o. let n : k < length sources = subst (λ w. k < w)
        (length-map (get_or qs i no_question).sources (λ x. x.0) ∙ asked.counts i no_question m) o in
        subst (IsCategory (slice_index_or ss i no_schema).graph)
        (ap (λ w. slice_index w i) (sym (asked.rows k n))
        ∙ get_or-map (λ q. slice_index (sources_in q) k) qs i no_question 0 m
        ∙ get_or_inside (sources_in (get_or qs i no_question)) k 0 d o)
        (category_at ss (slice_index_or sources k []) i (all k [] n) l);
    few = rw (asked.counts i no_question m) few;
  };
}
  where
    count : length qs ≡ length ss
    count = sym (length-map qs target_in) ∙ ap length asked.targets ∙ category_count ss c t

-- ---- families of each dimension

-- one dimension more
pub families_next : (ss : List Schema) (qs : List Question) (i : ℕ) (all next : List (List Family)) (new : List Family)
    (s : Schema) (q : Question) → i < length qs → s ≡ slice_index_or ss i no_schema → q ≡ get_or qs i q → length all ≡ i
    → next ≡ all ++ new ∷ [] → AreFamilies s q new
    → ((j : ℕ) → j < i
    → AreFamilies (slice_index_or ss j no_schema) (slice_index_or qs j no_question) (slice_index_or all j []))
    → (j : ℕ) → j < i + 1
    → AreFamilies (slice_index_or ss j no_schema) (slice_index_or qs j no_question) (slice_index_or next j [])
families_next ss qs i all next new s q l x y n made a before j m = elim (below_or_same j i (omega arith)) [
  | inl o ↦ rw (made, get_or_append_left all (new ∷ []) [] j (rw n o)) (before j o)
  | inr e ↦ rw e here
]
  where
    here : AreFamilies (slice_index_or ss i no_schema) (slice_index_or qs i no_question) (slice_index_or next i [])
    here = rw (made, get_or_push all new [] i n) (rw (x, y ∙ get_or_inside qs i q no_question l) at a)

-- one schema more that is valid
pub valid_next : (ss : List Schema) (i : ℕ) (s : Schema) → s ≡ slice_index_or ss i no_schema → IsValidSchema s
    → ((j : ℕ) → j < i → IsValidSchema (slice_index_or ss j no_schema)) → (j : ℕ) → j < i + 1
    → IsValidSchema (slice_index_or ss j no_schema)
valid_next ss i s e v before j l = elim (below_or_same j i (omega arith)) [
  | inl o ↦ before j o
  | inr q ↦ rw (q, ← e) v
]

-- after the last all are
pub all_valid : (ss : List Schema) (i : ℕ) → length ss ≤ i
    → ((j : ℕ) → j < i → IsValidSchema (slice_index_or ss j no_schema)) → All IsValidSchema ss
all_valid ss i n v k d l = subst IsValidSchema (get_or_inside ss k no_schema d l) (v k (omega arith))

-- graphs of valid schemas are hierarchies
pub hierarchies : (ss : List Schema) → All IsValidSchema ss → All IsHierarchy (graphs_of ss)
hierarchies ss v k d l =
    let m : k < length ss = subst (λ w. k < w) (length-map ss (λ s. s.graph)) l in
    subst IsHierarchy (sym (get_or-map (λ (s : Schema). s.graph) ss k no_schema d m)) (v k no_schema m).hierarchy

-- and their atoms are of the kinds of their categories
pub kinded : (ss : List Schema) → All IsValidSchema ss → All IsKinded ss
kinded ss v k d l = has_kinds (get_or ss k d) 0 Truth (v k d l).formulas tt

-- they are ordered
pub all_ordered : (ss : List Schema) (qs : List Question) (fss : List (List Family)) → AreFamiliesOf ss qs fss
    → All IsOrdered fss
all_ordered ss qs fss f k d l =
    subst IsOrdered (get_or_inside fss k [] d l) (f.each k (subst (λ w. k < w) f.count l)).ordered

-- ---- where no choice is bad

-- that all sources can be bad in no families is: the target is summarizable
pub summarizable_is : CubeSummarizableExactlyIfNoneBad → (ss : List Schema) (c : List ℕ) (sources : List (List ℕ))
    (qs : List Question) (fss : List (List Family)) → AreQuestions c sources qs → AreQuestionsOf ss qs
    → AreFamiliesOf ss qs fss → All IsValidSchema ss → (n : ℕ) → length sources ≡ n
    → (sets items : List (CatSet 4)) → AreUnions fss sets → items ≡ sets → (mask : ℕ) → mask ≡ all_of n → (b : Bool)
    → IsTrue b ↔ CanBeBad n items mask → b ≡ false → IsCubeSummarizable ss c sources
summarizable_is law ss c sources qs fss asked of families valid n e sets items u same mask full b is lost =
    (law ss c sources (hierarchies ss valid) (kinded ss valid)).1
    (none_bad ss c sources qs fss asked of families sets u none)
  where
    none : CanBeBad (length sources) sets (all_of (length sources)) → ⊥
    none bad = let z : false ≡ true = sym lost ∙ is.1 (rw (full, same, ← e) bad) in cc
