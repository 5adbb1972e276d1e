-- A schema stays readable where a constraint is taken out.
use Rattle.std.proofs.Common.{◌≡◌, ◌<◌, ◌≤◌, ◌+◌, ℕ, suc, List, ◌++◌, length, get_or, take, drop, inl, inr, map, ap, sym, subst, ◌∙◌, arith}
use Rattle.std.proofs.lemmas.List.{drop-map, take-append-drop, take-map, Concat.flat_map-append, Edits.length-remove}
use Rattle.std.proofs.lemmas.List.Elements.{Contains-append_cases, Contains-append_left, Contains-append_right}
use Rattle.std.proofs.lemmas.List.Sums.{sum_by-append, sum_by-drop_more, sum_by-take-drop}
use Rattle.std.specs.Prelude.{Contains, flat_map, remove, sum_by}
use Rattle.olap_base.specs.{Graph.Graph, Limits.most_constants}
use Rattle.olap_ast.proofs.ComparedLemmas.{constraints_counted}
use Rattle.olap_ast.specs.{Atoms.{Comparison, Equality, comparisons, equalities}, Findings.without}
use Rattle.olap_ast.specs.{Formula.Formula.Truth, Pairs.pair_count, Schema.{Constraint, Schema}, Valid.node_count}
use Rattle.olap_schema.{proofs.PairCounting.{few_numbers, few_pairs}, specs.Readable.IsReadable}

-- what is left was there
pub Contains-remove : {A : Type 0} (xs : List A) (k : ℕ) (x : A) → Contains (remove xs k) x → Contains xs x
Contains-remove xs k x c = elim (Contains-append_cases (take k xs) (drop (suc k) xs) x c) [
  | inl h ↦ whole k (Contains-append_left (take k xs) (drop k xs) x h)
  | inr h ↦ whole (suc k) (Contains-append_right (take (suc k) xs) (drop (suc k) xs) x h)
]
  where
    whole : (n : ℕ) → Contains (take n xs ++ drop n xs) x → Contains xs x
    whole n d = subst (λ l. Contains l x) (take-append-drop n xs) d

-- and what is made of it
flat_left : {A B : Type 0} (f : A → List B) (xs : List A) (k : ℕ) (b : B)
    → Contains (flat_map f (remove xs k)) b → Contains (flat_map f xs) b
flat_left f xs k b c =
    elim (Contains-append_cases (flat_map f (take k xs)) (flat_map f (drop (suc k) xs)) b
    (subst (λ l. Contains l b) (flat_map-append f (take k xs) (drop (suc k) xs)) c)) [
      | inl h ↦ whole k (Contains-append_left (flat_map f (take k xs)) (flat_map f (drop k xs)) b h)
      | inr h ↦ whole (suc k) (Contains-append_right (flat_map f (take (suc k) xs)) (flat_map f (drop (suc k) xs)) b h)
    ]
  where
    whole : (n : ℕ) → Contains (flat_map f (take n xs) ++ flat_map f (drop n xs)) b → Contains (flat_map f xs) b
    whole n d =
        subst (λ l. Contains l b)
        (sym (flat_map-append f (take n xs) (drop n xs)) ∙ ap (flat_map f) (take-append-drop n xs)) d

-- atoms that are left were there
pub atoms_left : (cs : List Constraint) (k : ℕ) (a : Equality)
    → Contains (flat_map (λ c. equalities c.formula) (remove cs k)) a
    → Contains (flat_map (λ c. equalities c.formula) cs) a
atoms_left cs k a c = flat_left (λ c. equalities c.formula) cs k a c

-- and comparisons
pub number_atoms_left : (cs : List Constraint) (k : ℕ) (a : Comparison)
    → Contains (flat_map (λ c. comparisons c.formula) (remove cs k)) a
    → Contains (flat_map (λ c. comparisons c.formula) cs) a
number_atoms_left cs k a c = flat_left (λ c. comparisons c.formula) cs k a c

-- there are no more nodes
fewer_nodes : {A : Type 0} (f : A → ℕ) (xs : List A) (k : ℕ) (d : A) → k < length xs
    → sum_by f (remove xs k) ≤ sum_by f xs
fewer_nodes f xs k d l =
    let parts = sum_by-append f (take k xs) (drop (suc k) xs) in
    let whole = sum_by-take-drop f xs k in
    let next : k + 1 ≡ suc k = omega arith in
    let more = subst (λ n. sum_by f (drop k xs) ≡ f (get_or xs k d) + sum_by f (drop n xs)) next
    (sum_by-drop_more f xs k d l) in
    omega arith

-- the theorem: each condition of being readable is one of all constraints
pub without_is_readable : (s : Schema) (k : ℕ) → k < length s.constraints → IsReadable s → IsReadable (without s k)
without_is_readable s k l r =
    let left = Contains-remove s.constraints k in
    record {
      valid = record {
        hierarchy = r.valid.hierarchy;
        roots = λ c h. r.valid.roots c (left c h);
        formulas = λ c h. r.valid.formulas c (left c h);
        categories_fit = r.valid.categories_fit;
        names_fit = r.valid.names_fit;
        edges_fit = r.valid.edges_fit;
        constraints_fit =
            let few = length-remove s.constraints k l in
            let fit = r.valid.constraints_fit in
            omega arith;
        nodes_fit = λ c h. r.valid.nodes_fit c (left c h);
        all_nodes_fit =
            let few = fewer_nodes (λ (c : Constraint). node_count c.formula) s.constraints k
            (record { root = 0; formula = Truth }) l in
            let fit = r.valid.all_nodes_fit in
            omega arith;
        depth_fits = λ c h. r.valid.depth_fits c (left c h);
        constants_fit =
            let few = few_pairs
            (flat_map (λ c. equalities c.formula) (remove s.constraints k))
            (flat_map (λ c. equalities c.formula) s.constraints) (atoms_left s.constraints k) in
            let few_too = few_numbers
            (flat_map (λ c. comparisons c.formula) (remove s.constraints k))
            (flat_map (λ c. comparisons c.formula) s.constraints) (number_atoms_left s.constraints k) in
            let fit = subst (λ n. n ≤ most_constants) (constraints_counted s.constraints) r.valid.constants_fit in
            let fits : pair_count (flat_map (λ c. equalities c.formula) (remove s.constraints k))
            (flat_map (λ c. comparisons c.formula) (remove s.constraints k)) ≤ most_constants = omega arith in
            subst (λ n. n ≤ most_constants) (sym (constraints_counted (remove s.constraints k))) fits;
      };
      texts = λ a h. r.texts a (atoms_left s.constraints k a h);
    }

-- the same, of a graph and a list under other names
pub same_readable : (g h : Graph) (cs ds : List Constraint) (k : ℕ)
    → IsReadable (record { graph = g; constraints = cs })
    → h ≡ g → ds ≡ remove cs k → k < length cs → IsReadable (record { graph = h; constraints = ds })
same_readable g h cs ds k r e q l =
    subst (λ x. IsReadable (record { graph = x; constraints = ds })) (sym e)
    (subst (λ x. IsReadable (record { graph = g; constraints = x })) (sym q)
    (without_is_readable (record { graph = g; constraints = cs }) k l r))

-- the constraints before and after the one are those that are left
pub left_over : {A B : Type 0} (f : A → B) (xs : List A) (k n : ℕ) → n ≡ k + 1
    → map f (take k xs) ++ map f (drop n xs) ≡ remove (map f xs) k
left_over f xs k n e =
    let next : n ≡ suc k = omega arith in
    sym (ap (λ l. l ++ drop (suc k) (map f xs)) (take-map f k xs)
    ∙ ap (λ l. map f (take k xs) ++ l) (drop-map f (suc k) xs ∙ ap (λ m. map f (drop m xs)) (sym next)))
