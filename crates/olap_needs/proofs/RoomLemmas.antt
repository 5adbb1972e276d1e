-- With the constraints that are needed a schema stays readable, within the limits.
use Rattle.std.proofs.Common.{◌≡◌, ◌∙◌, ◌↔◌, ℕ, suc, ◌+◌, ◌*◌, ◌<◌, ◌≤◌, List, [], ◌∷◌, ◌++◌, append-nil, length, map, refl, ap, sym, subst, inl, inr, arith}
use Rattle.std.proofs.lemmas.List.{length-append, length-map, Concat.flat_map-append}
use Rattle.std.proofs.lemmas.List.Elements.{Contains-append_cases, Contains-append_right}
use Rattle.std.{proofs.lemmas.List.Sums.{sum_by-append, sum_by-cons}, specs.Prelude.{Contains, flat_map, max, sum_by}}
use Rattle.olap_base.{proofs.ListLemmas.{Contains-from_map, contains_head}, specs.Graph.IsDeclared}
use Rattle.olap_base.specs.Limits.{most_constants, most_constraints, most_depth, most_nodes, most_schema_nodes, most_words}
use Rattle.olap_ast.proofs.ComparedLemmas.{constants_counted, constraints_counted}
use Rattle.olap_ast.proofs.SourceLemmas.{no_more_constants, question_at, question_free, question_numberless}
use Rattle.olap_ast.specs.{Atoms.{comparisons, equalities}, Pairs.pair_count, Schema.{Constraint, Schema}}
use Rattle.olap_ast.specs.{Summarizable.vias, Trees.formula_of}
use Rattle.olap_ast.specs.Valid.{IsFormulaAt, depth_of, depth_of_terms, node_count, node_count_of_terms}
use Rattle.olap_schema.specs.Readable.{AreTexts}
use Rattle.olap_needs.specs.{Laws.{EachNeedIsQuestion, NeedsStayReadable}, Needs.{HasRoom, by_one, need, with_needs}}
use Rattle.olap_ast.specs.declared.formulas.Constraint as stored

-- ---- atoms

-- the constraints that are needed have no constants
none_more : {A : Type 0} (f : Constraint → List A) (c : ℕ) (sources bs : List ℕ)
    → ((b : ℕ) → f (need c sources b) ≡ []) → flat_map f (map (need c sources) bs) ≡ []
none_more f c sources [] e = refl
none_more f c sources (b ∷ bs) e =
    ap (λ xs. xs ++ flat_map f (map (need c sources) bs)) (e b) ∙ none_more f c sources bs e

-- so there are no more with them
same_atoms : {A : Type 0} (f : Constraint → List A) (s : Schema) (c : ℕ) (sources bs : List ℕ)
    → ((b : ℕ) → f (need c sources b) ≡ [])
    → flat_map f (with_needs s c sources bs).constraints ≡ flat_map f s.constraints
same_atoms f s c sources bs e = flat_map-append f s.constraints (map (need c sources) bs)
    ∙ ap (λ xs. flat_map f s.constraints ++ xs) (none_more f c sources bs e) ∙ append-nil (flat_map f s.constraints)

-- ---- levels

-- the deepest source is a leaf
shallow : (c : ℕ) (sources : List ℕ) → depth_of_terms (vias c sources) ≤ 1
shallow c [] = omega arith
shallow c (s ∷ ss) = top (depth_of_terms (vias c ss)) (shallow c ss)
  where
    top : (n : ℕ) → n ≤ 1 → max 1 n ≤ 1
    top n h = grind (arith, h)

-- so there are three levels at most
few_levels : (c : ℕ) (sources : List ℕ) → depth_of (by_one c sources) ≤ most_depth
few_levels c sources = top (depth_of_terms (vias c sources)) (shallow c sources)
  where
    top : (n : ℕ) → n ≤ 1 → 1 + max 1 (1 + n) ≤ most_depth
    top n h = grind (arith, h)

-- ---- the schema

-- what holds of the schema's constraints and of those that are needed holds of both
both : (s : Schema) (c : ℕ) (sources bs : List ℕ) (P : Constraint → Type 0)
    → ((d : Constraint) → Contains s.constraints d → P d)
    → ((b : ℕ) → Contains bs b → P (need c sources b))
    → (d : Constraint) → Contains (with_needs s c sources bs).constraints d → P d
both s c sources bs P old new d h = elim (Contains-append_cases s.constraints (map (need c sources) bs) d h) [
  | inl k ↦ old d k
  | inr k ↦ let t = Contains-from_map (need c sources) bs d k in subst P t.2 (new t.0 t.1)
]

-- the law
pub needs_stay_readable : NeedsStayReadable
needs_stay_readable s c sources bs r t cs n room =
    let texts = same_atoms (λ d. equalities d.formula) s c sources bs (λ b. question_free c sources) in
    let numbers = same_atoms (λ d. comparisons d.formula) s c sources bs (λ b. question_numberless c sources) in
    record {
      valid = record {
        hierarchy = r.valid.hierarchy;
        roots = both s c sources bs (λ d. IsDeclared s.graph d.root) r.valid.roots (λ b k. (n.sound b k).0.0);
        formulas = both s c sources bs (λ d. IsFormulaAt s.graph d.root d.formula) r.valid.formulas
            (λ b k. question_at s.graph b c sources t cs);
        categories_fit = r.valid.categories_fit;
        names_fit = r.valid.names_fit;
        edges_fit = r.valid.edges_fit;
        constraints_fit = room.constraints;
        nodes_fit = room.each;
        all_nodes_fit = room.nodes;
        depth_fits = both s c sources bs (λ d. depth_of d.formula ≤ most_depth) r.valid.depth_fits
            (λ b k. few_levels c sources);
        constants_fit = subst (λ n. n ≤ most_constants)
            (sym (constraints_counted (with_needs s c sources bs).constraints))
            (subst (λ xs. pair_count xs
            (flat_map (λ d. comparisons d.formula) (with_needs s c sources bs).constraints) ≤ most_constants)
            (sym texts)
            (subst (λ ys. pair_count (flat_map (λ d. equalities d.formula) s.constraints) ys ≤ most_constants)
            (sym numbers)
            (subst (λ n. n ≤ most_constants) (constraints_counted s.constraints) r.valid.constants_fit)));
      };
      texts = subst AreTexts (sym texts) r.texts;
    }

-- ---- each by itself

-- a node for each source
source_nodes : (c : ℕ) (sources : List ℕ) → node_count_of_terms (vias c sources) ≡ length sources
source_nodes c [] = refl
source_nodes c (s ∷ ss) = let e = source_nodes c ss in omega arith

-- the law
pub each_need_is_question : EachNeedIsQuestion
each_need_is_question s c sources bs r t cs few n b k = record {
  declared = (n.sound b k).0.0;
  formula = question_at s.graph b c sources t cs;
  nodes_fit = let e = source_nodes c sources in few_nodes (node_count_of_terms (vias c sources)) (omega arith);
  depth_fits = few_levels c sources;
  constants_fit = subst (λ n. n ≤ most_constants) (sym (constants_counted s.constraints (by_one c sources)))
      (no_more_constants s (by_one c sources) r.valid (question_free c sources) (question_numberless c sources));
}
  where
    few_nodes : (m : ℕ) → m ≤ most_words → 1 + 1 + (1 + m) ≤ most_nodes
    few_nodes m h = grind (arith, h)

-- ---- room

-- the nodes of a constraint
abbrev nodes_of : Constraint → ℕ
nodes_of d = node_count d.formula

-- those of a stored one
abbrev pub stored_nodes : stored.Constraint → ℕ
stored_nodes d = node_count (formula_of d.formula)

-- no time this many
no_times : (n : ℕ) → 0 ≡ 0 * n
no_times n = grind arith

-- one more time this many
once_more : (m k n : ℕ) → n ≡ 3 + k → n + m * (3 + k) ≡ suc m * (3 + k)
once_more m k n e = more ∙ ap (λ w. w * (3 + k)) next
  where
    next : 1 + m ≡ suc m
    next = omega arith

    more : n + m * (3 + k) ≡ (1 + m) * (3 + k)
    more = grind (arith, e)

-- a constraint that is needed has three nodes, and one for each source
needed_nodes : (c : ℕ) (sources bs : List ℕ)
    → sum_by nodes_of (map (need c sources) bs) ≡ length bs * (3 + length sources)
needed_nodes c sources [] = no_times (3 + length sources)
needed_nodes c sources (b ∷ bs) =
    let nodes : nodes_of (need c sources b) ≡ 3 + length sources = let e = source_nodes c sources in omega arith in
    sum_by-cons nodes_of (need c sources b) (map (need c sources) bs)
    ∙ ap (λ n. nodes_of (need c sources b) + n) (needed_nodes c sources bs)
    ∙ once_more (length bs) (length sources) (nodes_of (need c sources b)) nodes

-- each of them does
need_nodes : (c : ℕ) (sources : List ℕ) (b : ℕ) → nodes_of (need c sources b) ≡ 3 + length sources
need_nodes c sources b = let e = source_nodes c sources in omega arith

-- so where each has few nodes, and there is one of them, this many are few
few_of_one : (s : Schema) (c : ℕ) (sources bs : List ℕ)
    → ((d : Constraint) → Contains (with_needs s c sources bs).constraints d → nodes_of d ≤ most_nodes)
    → 0 < length bs → 3 + length sources ≤ most_nodes
few_of_one s c sources [] each l = absurd (omega (arith, l))
few_of_one s c sources (b ∷ bs) each l =
    let more = map (need c sources) bs in
    let last = Contains-append_right s.constraints (need c sources b ∷ more) (need c sources b)
    (contains_head (need c sources b) more) in
    let few = each (need c sources b) last in
    let count = need_nodes c sources b in
    omega (arith, few, count)

-- what holds of a schema that is within the limits with them
abbrev HasRoomFor : Schema → List ℕ → List ℕ → Type 0
HasRoomFor s sources bs = (length s.constraints + length bs ≤ most_constraints)
    × (0 < length bs → 3 + length sources ≤ most_nodes)
    × (sum_by (λ (d : Constraint). node_count d.formula) s.constraints + length bs * (3 + length sources)
    ≤ most_schema_nodes)

-- with them a schema whose constraints have few nodes each is within the limits exactly if this many constraints, and
-- their nodes, are
pub room_exactly : (s : Schema) (c : ℕ) (sources bs : List ℕ)
    → ((d : Constraint) → Contains s.constraints d → node_count d.formula ≤ most_nodes)
    → HasRoom (with_needs s c sources bs) ↔ HasRoomFor s sources bs
room_exactly s c sources bs old =
    let more = map (need c sources) bs in
    let count : length (s.constraints ++ more) ≡ length s.constraints + length bs =
    length-append s.constraints more ∙ ap (λ n. length s.constraints + n) (length-map bs (need c sources)) in
    let nodes : sum_by nodes_of (s.constraints ++ more)
    ≡ sum_by nodes_of s.constraints + length bs * (3 + length sources) =
    sum_by-append nodes_of s.constraints more
    ∙ ap (λ n. sum_by nodes_of s.constraints + n) (needed_nodes c sources bs) in (
      λ r. (
        subst (λ n. n ≤ most_constraints) count r.constraints,
        few_of_one s c sources bs r.each,
        subst (λ n. n ≤ most_schema_nodes) nodes r.nodes,
      ),
      λ t. record {
        constraints = subst (λ n. n ≤ most_constraints) (sym count) t.0;
        each = both s c sources bs (λ d. node_count d.formula ≤ most_nodes) old
            (λ b k.
            let l = k.1 in
            let few = t.1 (omega (arith, l)) in
            let n = need_nodes c sources b in
            omega (arith, few, n));
        nodes = subst (λ n. n ≤ most_schema_nodes) (sym nodes) t.2;
      },
    )
