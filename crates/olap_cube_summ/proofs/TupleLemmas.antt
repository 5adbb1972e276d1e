-- Tuples of categories, and the questions that are made of them.
use Rattle.std.proofs.Common.{◌≡◌, ℕ, ◌+◌, ◌<◌, List, [], ◌∷◌, ◌++◌, eqb, length, map, take, get_or, refl, ap, sym, subst, ◌∙◌}
use Rattle.std.proofs.lemmas.{Bool.Decides.Decides-eqb, Grind.same_number_lists}
use Rattle.std.{proofs.lemmas.List.{get_or-map, length-map, map-append, take_more}, specs.Bool.Decides}
use Rattle.std.specs.Prelude.{All, slice_index, slice_index_or}
use Rattle.olap_base.{proofs.ListLemmas.get_or_inside, specs.declared.ids.CatId.CatId}
use Rattle.olap_ast.specs.Trees.{numbers_of}
use Rattle.olap_cube.specs.{Told.{tuple_of, tuples_in}, declared.tuples.Tuple.Tuple}
use Rattle.olap_cube_summ.specs.Questions.{AreQuestions, IsColumn, no_question, sources_in, target_in}
use Rattle.olap_cube_summ.specs.declared.questions.Question.{Question}

-- ---- tuples

-- a category by its number
abbrev category_of_number : ℕ → CatId
category_of_number n = record { 0 = n }

-- categories are those of their numbers
back : (xs : List CatId) → map category_of_number (map (λ c. c.0) xs) ≡ xs
back [] = refl
back (x ∷ xs) = ap (λ w. x ∷ w) (back xs)

-- categories with the same numbers are the same
pub same_by_numbers : (xs ys : List CatId) → map (λ (c : CatId). c.0) xs ≡ map (λ (c : CatId). c.0) ys → xs ≡ ys
same_by_numbers xs ys e = sym (back xs) ∙ ap (map category_of_number) e ∙ back ys

-- the test of two categories
pub same_category : (a b : CatId) → Decides (eqb a.0 b.0) (a ≡ b)
same_category a b = let d = Decides-eqb a.0 b.0 in (
  λ e. (let q = d.0 e in λ i. record { 0 = q i }),
  λ e. d.1 (ap (λ (c : CatId). c.0) e),
)

-- the tuple at a place
pub tuple_at : (ts : List Tuple) (k : ℕ) (t : Tuple) → k < length ts → t ≡ get_or ts k t
    → slice_index_or (tuples_in ts) k [] ≡ tuple_of t
tuple_at ts k t l e = get_or-map tuple_of ts k t [] l ∙ ap tuple_of (sym e)

-- what all tuples keep, it keeps
pub kept_at : (P : List ℕ → Type 0) (ts : List Tuple) (k : ℕ) (t : Tuple) → k < length ts → t ≡ get_or ts k t
    → All P (tuples_in ts) → P (tuple_of t)
kept_at P ts k t l e all = subst P (tuple_at ts k t l e) (all k [] (rw length-map l))

-- the i-th categories of the first tuples, and that of one tuple more
pub column_more : (ts : List Tuple) (i k : ℕ) (t : Tuple) (old new : List CatId) (c : CatId) → k < length ts
    → t ≡ get_or ts k t → new ≡ old ++ c ∷ [] → c.0 ≡ get_or (tuple_of t) i 0
    → numbers_of old ≡ map (λ w. get_or w i 0) (take k (tuples_in ts))
    → numbers_of new ≡ map (λ w. get_or w i 0) (take (k + 1) (tuples_in ts))
column_more ts i k t old new c l is e n so =
    let cut : List ℕ → ℕ = λ w. get_or w i 0 in
    let all = tuples_in ts in
    let inside : k < length all = rw length-map l in
    ap numbers_of e ∙ map-append (λ (d : CatId). d.0) old (c ∷ []) ∙ ap (λ (ns : List ℕ). ns ++ c.0 ∷ []) so
    ∙ ap (λ m. map cut (take k all) ++ m ∷ []) (n ∙ ap cut (sym (tuple_at ts k t l is)))
    ∙ sym (map-append cut (take k all) (get_or all k [] ∷ [])) ∙ ap (map cut) (sym (take_more all k [] inside))

-- those of all tuples
pub column_is : (ts : List (List ℕ)) (i : ℕ) (ns : List ℕ) → ns ≡ map (λ w. get_or w i 0) ts → IsColumn i ts ns
column_is ts i ns e = record {
  count = ap length e ∙ length-map ts (λ w. get_or w i 0);
  each = λ k l. ap (λ (ms : List ℕ). get_or ms k 0) e ∙ get_or-map (λ (w : List ℕ). get_or w i 0) ts k [] 0 l;
}

-- ---- questions

-- what they ask together
pub are_questions : (c : List ℕ) (sources : List (List ℕ)) (n i : ℕ) (qs : List Question) → length c ≡ n
    → All (λ t. length t ≡ n) sources → i ≡ n → length qs ≡ i
    → ((j : ℕ) → j < i → target_in (slice_index_or qs j no_question) ≡ slice_index c j)
    → ((j : ℕ) → j < i → IsColumn j sources (sources_in (slice_index_or qs j no_question))) → AreQuestions c sources qs
are_questions c sources n i qs lc ls e lq targets columns = record {
  targets = same_number_lists (map target_in qs) c (length-map qs target_in ∙ lq ∙ e ∙ sym lc)
      (λ k l. let m : k < length qs = subst (λ w. k < w) (length-map qs target_in) l in
      get_or-map target_in qs k no_question 0 m ∙ targets k (subst (λ w. k < w) lq m));
  counts = λ k d l. let t = columns k (subst (λ w. k < w) lq l) in
      subst (λ (q : Question). length q.sources ≡ length sources) (get_or_inside qs k no_question d l)
      (sym (length-map (get_or qs k no_question).sources (λ (x : CatId). x.0)) ∙ t.count);
  rows = λ k l. same_number_lists (map (λ q. slice_index (sources_in q) k) qs) (slice_index_or sources k [])
      (length-map qs (λ q. slice_index (sources_in q) k) ∙ lq ∙ e ∙ sym (ls k [] l))
      (λ j m. let o : j < length qs = subst (λ w. j < w) (length-map qs (λ q. slice_index (sources_in q) k)) m in
      get_or-map (λ q. slice_index (sources_in q) k) qs j no_question 0 o
      ∙ (columns j (subst (λ w. j < w) lq o)).each k l);
}
