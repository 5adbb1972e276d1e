-- The questions of an audit.
use Rattle.std.proofs.Common.{◌≡◌, ℕ, ◌<◌, List, [], ◌∷◌, ◌++◌, length, get_or, refl, ap, sym, subst, ◌∙◌, ◌↔◌, inl, inr, map, Some, arith}
use Rattle.std.proofs.lemmas.List.{length-map, Elements.Contains-append_cases}
use Rattle.std.{proofs.lemmas.Option.{slice_get-map, slice_get_read}, specs.Option.option_map}
use Rattle.std.specs.Prelude.{◌≤◌, Contains, flat_map, remove, slice_get}
use Rattle.olap_base.proofs.ListLemmas.{AllPairs-from_Distinct, Contains-flat_map, Contains-nil, Contains-slice_get}
use Rattle.olap_base.specs.{Deciding.{below_is_member, contains_cases}, Graph.{Graph, HasEdge, IsCategory, IsHierarchy}}
use Rattle.olap_base.specs.{Limits.most_constants, declared.ids.CatId.CatId}
use Rattle.olap_ast.proofs.{ComparedLemmas.constraints_counted, QuestionLemmas.one_step}
use Rattle.olap_ast.specs.Atoms.{all_comparisons, all_equalities, comparisons, equalities}
use Rattle.olap_ast.specs.{Findings.{IsRedundant, IsUnused, without}, Formula.Formula.Path, Pairs.pair_count}
use Rattle.olap_ast.specs.{Questions.IsImplied, Schema.{Constraint, Meets, Schema}, Trees.{constraint_of, formula_of}}
use Rattle.olap_ast.specs.Valid.{IsFormulaAt, IsValidSchema}
use Rattle.olap_ast.specs.declared.formulas.Constraint.{Constraint as StoredConstraint}
use Rattle.olap_schema.proofs.{PairCounting.{few_numbers, few_pairs}, WithoutLemmas.{atoms_left, number_atoms_left}}
use Rattle.olap_summ.{proofs.NowhereLemmas.as_well, specs.Answers.IsNowhere}

-- ---- edges

-- no member with that edge, as the audit asks it, is: the edge is unused
pub unused_is : (s : Schema) (c d : ℕ) (N : Type 0) → N ↔ IsNowhere s (Path (d ∷ [])) c
    → N ↔ IsUnused s (record { child = c; parent = d })
unused_is s c d N e =
    as_well N (IsNowhere s (Path (d ∷ [])) c) (IsUnused s (record { child = c; parent = d })) e
    (λ n i l x y b p q. n i l x (below_is_member i x y b, p) (y ∷ [], (b, tt), ap (λ w. w ∷ []) q))
    (λ u i l x m h. let t = one_step i x d h in u i l x t.0 t.1 m.1 t.2)

-- an edge as a formula at its child is one of the graph
pub edge_at_child : (g : Graph) (c d : ℕ) → IsHierarchy g → HasEdge g c d → IsFormulaAt g c (Path (d ∷ []))
edge_at_child g c d hier h = (
  λ e. absurd (cc),
  (h, tt),
  AllPairs-from_Distinct (c ∷ d ∷ []) (
    λ a. elim (contains_cases c d [] a) [
      | inl q ↦ hier.no_loop c d h (sym q)
      | inr n ↦ Contains-nil c n
    ],
    (λ a. Contains-nil d a, tt),
  ),
)

-- the path of one category that was pushed
pub path_of : (path pushed start : List CatId) (d : CatId) → path ≡ pushed → pushed ≡ start ++ d ∷ [] → start ≡ []
    → map (λ (c : CatId). c.0) path ≡ d.0 ∷ []
path_of path pushed start d e p q = ap (map (λ (c : CatId). c.0)) (e ∙ p ∙ ap (λ l. l ++ d ∷ []) q)

-- ---- constraints

-- implied by the schema without it is: the constraint is redundant
pub redundant_is : (s : Schema) (k : ℕ) (c : Constraint) (P : Type 0) → slice_get s.constraints k ≡ Some c
    → P ↔ IsImplied (without s k) c.root c.formula → P ↔ IsRedundant s k
redundant_is s k c P at e = (
  λ p. (c, at, e.0 p),
  λ r. e.1 (λ i l. subst (λ (w : Constraint). Meets i w) (same r.0 r.1) (r.2 i l)),
)
  where
    same : (d : Constraint) → slice_get s.constraints k ≡ Some d → d ≡ c
    same d q = let t : Some d ≡ Some c = sym q ∙ at in cc

-- a constraint has no constants that the schema with it lacks
pub few_asked : (s : Schema) (k : ℕ) (c : Constraint) → IsValidSchema s → Contains s.constraints c
    → pair_count (all_equalities (without s k) c.formula) (all_comparisons (without s k) c.formula) ≤ most_constants
few_asked s k c v h =
    let left = flat_map (λ (b : Constraint). equalities b.formula) (remove s.constraints k) in
    let few = few_pairs (left ++ equalities c.formula) (flat_map (λ b. equalities b.formula) s.constraints)
    (λ a m. elim (Contains-append_cases left (equalities c.formula) a m) [
      | inl t ↦ atoms_left s.constraints k a t
      | inr t ↦ Contains-flat_map (λ b. equalities b.formula) s.constraints c a h t
    ]) in
    let numbers_left = flat_map (λ (b : Constraint). comparisons b.formula) (remove s.constraints k) in
    let few_too = few_numbers (numbers_left ++ comparisons c.formula)
    (flat_map (λ b. comparisons b.formula) s.constraints)
    (λ a m. elim (Contains-append_cases numbers_left (comparisons c.formula) a m) [
      | inl t ↦ number_atoms_left s.constraints k a t
      | inr t ↦ Contains-flat_map (λ b. comparisons b.formula) s.constraints c a h t
    ]) in
    let fit = subst (λ n. n ≤ most_constants) (constraints_counted s.constraints) v.constants_fit in
    omega arith

-- ---- a stored constraint, asked of the schema without it

module _ (s t : Schema) (k : ℕ) (stored : List StoredConstraint) (c : StoredConstraint) (v : IsValidSchema s)
    (h : k < length s.constraints) (listed : map constraint_of stored ≡ s.constraints)
    (is : c ≡ get_or stored k c) (same : t ≡ without s k) where
  asked_at : slice_get s.constraints k ≡ Some (constraint_of c)
  asked_at =
      let inside : k < length stored =
      let e = length-map stored constraint_of in let m = ap length listed in omega (arith, h, e, m) in
      ap (λ cs. slice_get cs k) (sym listed) ∙ slice_get-map constraint_of stored k
      ∙ ap (option_map constraint_of) (slice_get_read stored (length stored) k c refl inside is)

  among : Contains s.constraints (constraint_of c)
  among = Contains-slice_get s.constraints k (constraint_of c) asked_at

  pub asked_root : IsCategory t.graph c.root.0
  asked_root = rw same (v.roots (constraint_of c) among).1

  pub asked_formula : IsFormulaAt t.graph c.root.0 (formula_of c.formula)
  asked_formula = rw same (v.formulas (constraint_of c) among)

  pub asked_few : pair_count (all_equalities t (formula_of c.formula)) (all_comparisons t (formula_of c.formula))
      ≤ most_constants
  asked_few = rw same (few_asked s k (constraint_of c) v among)

  pub asked_is : (P : Type 0) → P ↔ IsImplied t c.root.0 (formula_of c.formula) → P ↔ IsRedundant s k
  asked_is P e = redundant_is s k (constraint_of c) P asked_at (rw same at e)
