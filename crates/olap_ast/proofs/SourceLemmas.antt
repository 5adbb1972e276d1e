-- Sources, one by one.
use Rattle.std.proofs.Common.{◌≡◌, ◌⊎◌, ◌∙◌, ℕ, suc, ◌+◌, ◌<◌, ◌≤◌, List, [], ◌∷◌, ◌++◌, append-nil, length, get_or, drop, drop-cons, inl, inr, refl, ap, sym, subst, arith}
use Rattle.std.{proofs.lemmas.List.{get_or-map, length-map}, specs.Prelude.{All, flat_map, slice_index}}
use Rattle.olap_base.specs.{Graph.{Graph, IsCategory}, Limits.most_constants, declared.ids.CatId.CatId}
use Rattle.olap_ast.proofs.{AtomLemmas.has_kinds, CandidatesExist.candidates_exist, ComparedLemmas.constraints_counted}
use Rattle.olap_ast.proofs.SameAtoms.{kinds_too}
use Rattle.olap_ast.specs.Atoms.{all_comparisons, all_equalities, comparisons, comparisons_of_terms, equalities, equalities_of_terms}
use Rattle.olap_ast.specs.{Constants.HasKinds, Formula.{Formula, Formula.Truth, Formula.Via, Terms.More}}
use Rattle.olap_ast.specs.{Pairs.pair_count, Questions.{ValidSchemasHaveCandidates, SourcesHaveCandidates}}
use Rattle.olap_ast.specs.{Schema.{Constraint, Schema}, Summarizable.{not_by_one, vias}, Trees.numbers_of}
use Rattle.olap_ast.specs.Valid.{AreFormulasAt, IsFormulaAt, IsValidSchema}

-- one source more
pub vias_more : (c : ℕ) (sources : List CatId) (k n : ℕ) (d : CatId) → k + 1 ≡ n → k < length sources
    → vias c (drop k (numbers_of sources)) ≡ More (Via (get_or sources k d).0 c) (vias c (drop n (numbers_of sources)))
vias_more c sources k n d e h =
    ap (vias c) (drop-cons (numbers_of sources) k 0 (let l = length-map sources (λ (x : CatId). x.0) in omega arith))
    ∙ ap (λ m. More (Via m c) (vias c (drop (suc k) (numbers_of sources))))
    (get_or-map (λ (x : CatId). x.0) sources k d 0 h)
    ∙ ap (λ m. More (Via (get_or sources k d).0 c) (vias c (drop m (numbers_of sources))))
    (let z : suc k ≡ n = omega arith in z)

-- the number of a source
pub number_at : (sources : List CatId) (i : ℕ) → i < length sources
    → slice_index (numbers_of sources) i ≡ (get_or sources i (record { 0 = 0 })).0
number_at sources i h = get_or-map (λ (x : CatId). x.0) sources i (record { 0 = 0 }) 0 h

-- what holds below n, and at n, holds below n + 1
pub until : (P : ℕ → Type 0) (n : ℕ) → ((d : ℕ) → d < n → P d) → P n → (d : ℕ) → d < n + 1 → P d
until P n f p d h = elim (which d n h) [ inl l ↦ f d l | inr e ↦ subst P (sym e) p ]
  where
    which : (d n : ℕ) → d < n + 1 → (d < n) ⊎ (d ≡ n)
    which d n h = grind arith

-- the terms of the sources have no atom on names
pub vias_free : (c : ℕ) (sources : List ℕ) → equalities_of_terms (vias c sources) ≡ []
vias_free c [] = refl
vias_free c (s ∷ ss) = vias_free c ss

-- and none on numbers
vias_numberless : (c : ℕ) (sources : List ℕ) → comparisons_of_terms (vias c sources) ≡ []
vias_numberless c [] = refl
vias_numberless c (s ∷ ss) = vias_numberless c ss

-- so the question of summarizability has none on names
pub question_free : (c : ℕ) (sources : List ℕ) → equalities (not_by_one c sources) ≡ []
question_free c sources = vias_free c sources

-- and none on numbers
pub question_numberless : (c : ℕ) (sources : List ℕ) → comparisons (not_by_one c sources) ≡ []
question_numberless c sources = vias_numberless c sources

-- ---- the question, as one of a schema

-- the terms are of the graph where the target and the sources are
vias_at : (g : Graph) (b c : ℕ) (sources : List ℕ) → IsCategory g c → All (IsCategory g) sources
    → AreFormulasAt g b (vias c sources)
vias_at g b c [] t h = tt
vias_at g b c (s ∷ ss) t h = ((h 0 s (omega arith), t), vias_at g b c ss t (λ i d l. h (suc i) d (omega arith)))

-- it is of the graph
pub question_at : (g : Graph) (b c : ℕ) (sources : List ℕ) → IsCategory g c → All (IsCategory g) sources
    → IsFormulaAt g b (not_by_one c sources)
question_at g b c sources t h = (t, vias_at g b c sources t h)

-- a question without constants keeps the limit
pub no_more_constants : (s : Schema) (q : Formula) → IsValidSchema s → equalities q ≡ [] → comparisons q ≡ []
    → pair_count (all_equalities s q) (all_comparisons s q) ≤ most_constants
no_more_constants s q v e f =
    let texts : all_equalities s q ≡ flat_map (λ (c : Constraint). equalities c.formula) s.constraints =
    ap (λ xs. flat_map (λ (c : Constraint). equalities c.formula) s.constraints ++ xs) e
    ∙ append-nil (flat_map (λ (c : Constraint). equalities c.formula) s.constraints) in
    let ns : all_comparisons s q ≡ flat_map (λ (c : Constraint). comparisons c.formula) s.constraints =
    ap (λ xs. flat_map (λ (c : Constraint). comparisons c.formula) s.constraints ++ xs) f
    ∙ append-nil (flat_map (λ (c : Constraint). comparisons c.formula) s.constraints) in
    rw texts (rw ns (subst (λ n. n ≤ most_constants) (constraints_counted s.constraints) v.constants_fit))

-- so the question of summarizability keeps it
pub question_few : (s : Schema) (q : Formula) (c : ℕ) (sources : List ℕ) → q ≡ not_by_one c sources → IsValidSchema s
    → pair_count (all_equalities s q) (all_comparisons s q) ≤ most_constants
question_few s q c sources e v =
    no_more_constants s q v (ap equalities e ∙ question_free c sources)
    (ap comparisons e ∙ question_numberless c sources)

-- the question asks no texts and no numbers, so it is of the kinds of a valid schema
pub question_kinds : (s : Schema) (c : ℕ) (sources : List ℕ) → IsValidSchema s → HasKinds s (not_by_one c sources)
question_kinds s c sources v = kinds_too s Truth (not_by_one c sources) (sym (question_free c sources))
    (sym (question_numberless c sources)) (has_kinds s 0 Truth v.formulas tt)

-- ---- candidates

-- a valid schema and a formula of its graph have candidates
pub formulas_have_candidates : ValidSchemasHaveCandidates
formulas_have_candidates s r q v f = candidates_exist s q (has_kinds s r q v.formulas f)

-- and so have a valid schema and the question of summarizability
pub sources_have_candidates : SourcesHaveCandidates
sources_have_candidates s c sources v = candidates_exist s (not_by_one c sources) (question_kinds s c sources v)
