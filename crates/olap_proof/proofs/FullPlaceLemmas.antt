-- Where nothing is left to decide: the frozen dimension that was decided, and that it is one where no line closes.
use Rattle.std.proofs.Common.{◌≡◌, ℕ, ℤ, zero, suc, ◌<◌, ◌≤◌, List, [], length, map, get_or, Bool, true, false, cond, Option, Some, None, refl, ap, sym, subst, ◌∙◌, inl, inr, arith}
use Rattle.std.proofs.lemmas.{Bool.{or_cases, eqb-true}, List.length-map}
use Rattle.std.proofs.lemmas.{List.FromFn.{get_or-map-range_with_len, length-range_with_len}, Slice.Eq.bytes_eq-Decides}
use Rattle.std.specs.{List.range_with_len, Prelude.{◌&&◌, ◌||◌, ◌≢◌, codes, option_map}, Str.bytes_eq}
use Rattle.olap_base.proofs.StepLemmas.{wider}
use Rattle.olap_base.specs.{Graph.{Edge, Graph, HasEdge, IsHierarchy, category_count, is_number}, Instance.Instance}
use Rattle.olap_base.specs.Reaching.{category_reaches, category_reaches_is}
use Rattle.olap_base.specs.Steps.{Steps, Steps-from_reaches, reaches_from_Steps}
use Rattle.olap_ast.{proofs.Shape.right_true, specs.Constants.IsNameOf, specs.Formula.{Formula, Holds, IsNumbered}}
use Rattle.olap_ast.specs.Frozen.{AreCandidates, Candidates, Frozen, IsFrozen, instance_of, is_present, name_in, text_of_index}
use Rattle.olap_ast.specs.{Schema.Schema, declared.three_values.Truth3.TheVariants.{No, Yes, Unknown}}
use Rattle.olap_eval.{proofs.PartialLemmas.values_are_truths, specs.Partial.{Agrees as Tells, Completes, value_at}}
use Rattle.olap_eval.specs.Shapes.{HasEdgeThere, HasNameThere, HasNumberThere, ReachesThere}
use Rattle.olap_frozen.proofs.{ChosenLemmas.{bit_joins, edge_inside, no_edge_joins}, LeafLemmas.name_of_kind}
use Rattle.olap_frozen.specs.Chosen.{AreNames, IsChoice, IsMet, IsSound, Joins, place_of}
use Rattle.olap_graph.specs.Lookups.{edge_between}
use Rattle.olap_names.specs.Names.{name_at}
use Rattle.olap_numerals.specs.Comparing.{Op, is_numbered}
use Rattle.olap_trail.specs.Decisions.{Decided, Decision, status_in}
use Rattle.olap_proof.proofs.{AgreeingLemmas.walk_present, ChosenEdgeLemmas.{bit_of, bits_of, edges_chosen}}
use Rattle.olap_proof.{proofs.ToldLemmas.{IsTold, formula_told, truth_told, unmet_listed}, specs.Closing.IsUnmetAt}
use Rattle.olap_proof.specs.FullPlaces.{IsFull}
use Rattle.olap_proof.specs.Places.{Naming, Place, index_of, is_known, is_top, knowledge, leading_edges, leading_graph, name_of, possible_graph, truth_of_edge, truth_of_name, truth_of_reach}
use Rattle.olap_proof.specs.{Within.truth_of, declared.forms.Form.Form, declared.forms.Form.TheVariants.{Long, Short}}
use Rattle.olap_frozen.proofs.ChosenInstance as made
use Rattle.olap_proof.proofs.ChosenEdgeLemmas as laws

-- the top is 0
top_zero : (m : Form) (b : ℕ) → is_top m b ≡ true → b ≡ 0
top_zero Long b h = absurd (cc)
top_zero Short b h = eqb-true b 0 h

-- ---- the value

-- the index that was decided, or that of the first name
abbrev pub index_or : Option ℕ → ℕ
index_or None = 0
index_or (Some i) = i

-- an absent category has the index 0
abbrev pub index_there : Graph → ℕ → List Decision → List Naming → ℕ → ℕ
index_there g r ds ns c = cond (is_present r (edges_chosen g ds) (suc c)) (index_or (index_of ns (suc c))) 0

-- the edges and the names that were decided
abbrev pub value_of_place : Graph → ℕ → List Decision → List Naming → Frozen
value_of_place g r ds ns = record {
  edges = bits_of g ds;
  names = map (index_there g r ds ns) (range_with_len 0 (length g.names));
}

module _ (s : Schema) (k : Candidates) (hier : IsHierarchy s.graph) (r : ℕ) (ds : List Decision) (ns : List Naming)
    (full : IsFull s.graph k (record {
      decided = record { graph = s.graph; root = r; decisions = ds };
      namings = ns;
      ways = [];
    })) where
  abbrev t : Decided
  t = record { graph = s.graph; root = r; decisions = ds }

  abbrev p : Place
  p = record { decided = record { graph = s.graph; root = r; decisions = ds }; namings = ns; ways = [] }

  abbrev es : List Edge
  es = edges_chosen s.graph ds

  abbrev present : ℕ → Bool
  present = is_present r es

  -- ---- what is known of the edges

  ch : IsChoice s.graph r es
  ch = laws.ch s k hier r ds ns full

  status_full : (e : ℕ) → e < length s.graph.edges → (b : Bool) × (status_in ds e ≡ Some b)
  status_full e h = laws.status_full s k hier r ds ns full e h

  bit_at : (e : ℕ) → e < length s.graph.edges → get_or (bits_of s.graph ds) e false ≡ bit_of (status_in ds e)
  bit_at e h = laws.bit_at s k hier r ds ns full e h

  joins_possible : (x y : ℕ) → Joins es x y → HasEdge (possible_graph t) x y
  joins_possible x y j = laws.joins_possible s k hier r ds ns full x y j

  possible_joins : (x y : ℕ) → HasEdge (possible_graph t) x y → Joins es x y
  possible_joins x y h = laws.possible_joins s k hier r ds ns full x y h

  joins_leading : (x y : ℕ) → Joins es x y → Joins (leading_edges p) x y
  joins_leading x y j = laws.joins_leading s k hier r ds ns full x y j

  leading_joins : (x y : ℕ) → Joins (leading_edges p) x y → Joins es x y
  leading_joins x y j = laws.leading_joins s k hier r ds ns full x y j

  known_present : (c : ℕ) → is_known p c ≡ true → present c ≡ true
  known_present c h = laws.known_present s k hier r ds ns full c h

  present_known : (c : ℕ) → present c ≡ true → is_known p c ≡ true
  present_known c h = laws.present_known s k hier r ds ns full c h

  -- ---- names

  abbrev pub name : ℕ → List ℕ
  name = name_in k (value_of_place s.graph r ds ns)

  -- the index of the name, where the category is present
  index_at : (c : ℕ) → present (suc c) ≡ true → (i : ℕ) × (index_of ns (suc c) ≡ Some i)
      × (get_or (map (index_there s.graph r ds ns) (range_with_len 0 (length s.graph.names))) c 0 ≡ i)
  index_at c h = go (index_of ns (suc c)) refl
    where
      inside : suc c < category_count s.graph
      inside = made.present_category s.graph r es ch (suc c) h

      go : (o : Option ℕ) → index_of ns (suc c) ≡ o → (i : ℕ) × (index_of ns (suc c) ≡ Some i)
          × (get_or (map (index_there s.graph r ds ns) (range_with_len 0 (length s.graph.names))) c 0 ≡ i)
      go None q = absurd (full.names (suc c) ((λ e. absurd (omega arith)), inside) q)
      go (Some i) q = (
        i,
        q,
        get_or-map-range_with_len (index_there s.graph r ds ns) 0 (length s.graph.names) c c 0
            (let n = inside in omega arith) (omega arith)
            ∙ ap (λ b. cond b (index_or (index_of ns (suc c))) 0) h ∙ ap index_or q,
      )

  name_decided : (c : ℕ) → present c ≡ true → (w : List ℕ) × (name_of k ns c ≡ Some w) × (name c ≡ w)
  name_decided zero h = (codes "all", refl, refl)
  name_decided (suc c) h =
      let i = index_at c h in
      let text = text_of_index (k.first (suc c)) (k.texts (suc c)) in
      (name_at k (suc c) i.0, ap (option_map (name_at k (suc c))) i.1, ap text i.2)

  are_names : (q : Formula) → AreCandidates s q k → AreNames s q r es name
  are_names q are = record { all = refl; known = known }
    where
      known : (c : ℕ) → present c ≡ true → c ≢ 0 → IsNameOf (is_number s.graph c) s q c (name c)
      known zero h n = absurd (n refl)
      known (suc c) h n =
          let i = index_at c h in
          subst (λ j. IsNameOf (is_number s.graph (suc c)) s q (suc c)
          (text_of_index (k.first (suc c)) (k.texts (suc c)) j)) (sym i.2)
          (name_of_kind (is_number s.graph (suc c)) s q (suc c) (k.first (suc c)) (k.texts (suc c)) i.0
          (full.in_range (suc c) i.0 i.1) (are.names c))

  -- ---- what is known is so, and at a category that has a member nothing is unknown

  abbrev pub inst : Instance
  inst = instance_of s.graph r es name

  abbrev pub place : ℕ → ℕ
  place = place_of s.graph r es

  edge_is : (c d : ℕ) → Tells (truth_of_edge t (edge_between s.graph c d)) (HasEdgeThere inst present place c d)
      × IsTold (truth_of_edge t (edge_between s.graph c d))
  edge_is c d = go (edge_between s.graph c d) refl
    where
      of_bit : (i : ℕ) → edge_between s.graph c d ≡ Some i → (b : Bool) → get_or (bits_of s.graph ds) i false ≡ b
          → Tells (truth_of (Some b)) (HasEdgeThere inst present place c d) × IsTold (truth_of (Some b))
      of_bit i e true q =
          let j = (bit_joins s.graph (bits_of s.graph ds) c d i hier e).0 q in (
            (
              made.child_present s.graph r es ch c d j,
              made.parent_present s.graph r es ch c d j,
              made.edge_below s.graph r es ch name c d j,
            ),
            tt,
          )
      of_bit i e false q = (
        λ w.
            let b = (bit_joins s.graph (bits_of s.graph ds) c d i hier e).1
            ((made.below_joins s.graph r es ch name c d w.0 w.1).0 w.2) in
            let z : true ≡ false = sym b ∙ q in cc,
        tt,
      )

      go : (o : Option ℕ) → edge_between s.graph c d ≡ o
          → Tells (truth_of_edge t o) (HasEdgeThere inst present place c d) × IsTold (truth_of_edge t o)
      go None e = (
        λ h. no_edge_joins s.graph (bits_of s.graph ds) c d e
            ((made.below_joins s.graph r es ch name c d h.0 h.1).0 h.2),
        tt,
      )
      go (Some i) e =
          let h = edge_inside s.graph c d i e in
          let q = status_full i h in
          subst (λ o. Tells (truth_of o) (HasEdgeThere inst present place c d) × IsTold (truth_of o)) (sym q.1)
          (of_bit i e q.0 (bit_at i h ∙ ap bit_of q.1))

  name_is : (c : ℕ) (text : List ℕ)
      → Tells (truth_of_name p c (λ w. bytes_eq w text) (name_of k ns c)) (HasNameThere inst present place c text)
  name_is c text = go (name_of k ns c) refl
    where
      same : (w : List ℕ) → name_of k ns c ≡ Some w → present c ≡ true → name c ≡ w
      same w q h = let n = name_decided c h in let e : n.0 ≡ w = cc in n.2 ∙ e

      of_test : (w : List ℕ) → name_of k ns c ≡ Some w → (a : Bool) → bytes_eq w text ≡ a
          → (b : Bool) → is_known p c ≡ b
          → Tells (cond a (cond b Yes Unknown) No) (HasNameThere inst present place c text)
      of_test w q true x true y =
          let h = known_present c y in
          (h, made.name_there s.graph r es ch name c h ∙ same w q h ∙ (bytes_eq-Decides w text).0 x)
      of_test w q true x false y = tt
      of_test w q false x b y = λ h.
          let v = (bytes_eq-Decides w text).1
          (sym (same w q h.0) ∙ sym (made.name_there s.graph r es ch name c h.0) ∙ h.1) in
          let z : true ≡ false = sym v ∙ x in cc

      go : (o : Option (List ℕ)) → name_of k ns c ≡ o
          → Tells (truth_of_name p c (λ w. bytes_eq w text) o) (HasNameThere inst present place c text)
      go None q = tt
      go (Some w) q = of_test w q (bytes_eq w text) refl (is_known p c) refl

  name_told : (c : ℕ) (passes : List ℕ → Bool) → present c ≡ true
      → IsTold (truth_of_name p c passes (name_of k ns c))
  name_told c passes h =
      let n = name_decided c h in
      subst (λ o. IsTold (truth_of_name p c passes o)) (sym n.1)
      (go (passes n.0) (is_known p c) (present_known c h))
    where
      go : (a b : Bool) → b ≡ true → IsTold (cond a (cond b Yes Unknown) No)
      go true true y = tt
      go true false y = absurd (cc)
      go false b y = tt

  number_is : (c : ℕ) (op : Op) (n : ℤ)
      → Tells (truth_of_name p c (λ w. is_numbered w op n) (name_of k ns c)) (HasNumberThere inst present place c op n)
  number_is c op n = go (name_of k ns c) refl
    where
      same : (w : List ℕ) → name_of k ns c ≡ Some w → present c ≡ true → name c ≡ w
      same w q h = let d = name_decided c h in let e : d.0 ≡ w = cc in d.2 ∙ e

      of_test : (w : List ℕ) → name_of k ns c ≡ Some w → (a : Bool) → is_numbered w op n ≡ a
          → (b : Bool) → is_known p c ≡ b
          → Tells (cond a (cond b Yes Unknown) No) (HasNumberThere inst present place c op n)
      of_test w q true x true y =
          let h = known_present c y in
          let e = made.name_there s.graph r es ch name c h ∙ same w q h in
          (h, subst (λ t. IsNumbered t op n) (sym e) x)
      of_test w q true x false y = tt
      of_test w q false x b y = λ h.
          let e = made.name_there s.graph r es ch name c h.0 ∙ same w q h.0 in
          let v = subst (λ t. IsNumbered t op n) e h.1 in
          let z : true ≡ false = sym v ∙ x in cc

      go : (o : Option (List ℕ)) → name_of k ns c ≡ o
          → Tells (truth_of_name p c (λ w. is_numbered w op n) o) (HasNumberThere inst present place c op n)
      go None q = tt
      go (Some w) q = of_test w q (is_numbered w op n) refl (is_known p c) refl

  -- what is known to lead on is so, where each category reaches all
  module _ (m : Form) (tops : (c : ℕ) → present c ≡ true → Steps (Joins es) c 0) where
    leads_walk : (c e : ℕ) → present c ≡ true → is_top m e || category_reaches (leading_graph p) c e ≡ true
        → Steps (Joins es) c e
    leads_walk c e h y = elim (or_cases (is_top m e) (category_reaches (leading_graph p) c e) y) [
      | inl a ↦ subst (λ x. Steps (Joins es) c x) (sym (top_zero m e a)) (tops c h)
      | inr a ↦ wider leading_joins (Steps-from_reaches ((category_reaches_is (leading_graph p) c e).0 a))
    ]

    reach_is : (c e : ℕ) → Tells (truth_of_reach m p c e) (ReachesThere inst present place c e)
    reach_is c e = go (is_known p c) refl (is_top m e || category_reaches (leading_graph p) c e) refl
        (category_reaches (possible_graph t) c e) refl
      where
        unreached : category_reaches (possible_graph t) c e ≡ false → ReachesThere inst present place c e → ⊥
        unreached x h =
            let w = (made.reaches_walk s.graph r es ch name c e h.0 h.1).0 h.2 in
            let v = (category_reaches_is (possible_graph t) c e).1 (reaches_from_Steps (wider joins_possible w)) in
            let z : true ≡ false = sym v ∙ x in cc

        go : (a : Bool) → is_known p c ≡ a
            → (b : Bool) → is_top m e || category_reaches (leading_graph p) c e ≡ b
            → (w : Bool) → category_reaches (possible_graph t) c e ≡ w
            → Tells (cond (a && b) Yes (cond w Unknown No)) (ReachesThere inst present place c e)
        go true x true y w z =
            let h = known_present c x in
            let v = leads_walk c e h y in
            let i = walk_present s.graph r es ch h v in
            (h, i, (made.reaches_walk s.graph r es ch name c e h i).1 v)
        go true x false y true z = tt
        go true x false y false z = unreached z
        go false x b y true z = tt
        go false x b y false z = unreached z

    reach_told : (c e : ℕ) → present c ≡ true → IsTold (truth_of_reach m p c e)
    reach_told c e h = go (is_known p c) (present_known c h)
        (is_top m e || category_reaches (leading_graph p) c e) refl
        (category_reaches (possible_graph t) c e) refl
      where
        go : (a : Bool) → a ≡ true → (b : Bool) → is_top m e || category_reaches (leading_graph p) c e ≡ b
            → (w : Bool) → category_reaches (possible_graph t) c e ≡ w → IsTold (cond (a && b) Yes (cond w Unknown No))
        go false x b y w z = absurd (cc)
        go true x true y w z = tt
        go true x false y false z = tt
        go true x false y true z =
            let v = wider possible_joins (Steps-from_reaches ((category_reaches_is (possible_graph t) c e).0 z)) in
            let u = (category_reaches_is (leading_graph p) c e).1 (reaches_from_Steps (wider joins_leading v)) in
            let z : true ≡ false =
            sym (right_true (is_top m e) (category_reaches (leading_graph p) c e) u) ∙ y in absurd (cc)

    reach_there : (c e : ℕ) → truth_of_reach m p c e ≡ Yes → present e ≡ true
    reach_there c e q =
        let h : ReachesThere inst present place c e =
        subst (λ v. Tells v (ReachesThere inst present place c e)) q (reach_is c e) in h.1

    completes : Completes (knowledge m k p) inst present place
    completes = record { edges = λ c d. (edge_is c d).0; reaching = reach_is; names = name_is; numbers = number_is }

    -- what isn't known to be false is true
    pub truth_at : (c : ℕ) (f : Formula) → present c ≡ true → (value_at (knowledge m k p) c f ≡ No → ⊥)
        → Holds inst (place c) f
    truth_at c f h n =
        truth_told (value_at (knowledge m k p) c f) (Holds inst (place c) f)
        (values_are_truths (knowledge m k p) inst present place (made.chosen_shape s.graph r es ch name) completes c h
        f)
        (formula_told (knowledge m k p) (λ c. present c ≡ true) (λ c d. (edge_is c d).1) reach_told reach_there
        (λ c text. name_told c (λ w. bytes_eq w text)) (λ c op n. name_told c (λ w. is_numbered w op n)) c h f) n

    -- ---- the frozen dimension

    module _ (q : Formula) (are : AreCandidates s q k) (lawful : IsSound r es)
        (no_unmet : (n : ℕ) → IsUnmetAt m s.constraints n k p → ⊥)
        (not_asked : value_at (knowledge m k p) r q ≡ No → ⊥) where
      met : IsMet s q r es name
      met = record {
        meets = λ c i h. truth_at c.root c.formula h (λ n.
            let w = unmet_listed m k p s.constraints c i (present_known c.root h, n) in no_unmet w.0 w.1);
        question = truth_at r q (made.root_present s.graph r es ch) not_asked;
      }

      abbrev indexes : List ℕ
      indexes = map (index_there s.graph r ds ns) (range_with_len 0 (length s.graph.names))

      name_count : length indexes ≡ length s.graph.names
      name_count =
          length-map (range_with_len 0 (length s.graph.names)) (index_there s.graph r ds ns)
          ∙ length-range_with_len 0 (length s.graph.names)

      index_is : (c : ℕ) → c < length indexes → get_or indexes c 0 ≡ index_there s.graph r ds ns c
      index_is c h =
          get_or-map-range_with_len (index_there s.graph r ds ns) 0 (length s.graph.names) c c 0
          (let n = name_count in omega arith) (omega arith)

      small : (c : ℕ) → index_there s.graph r ds ns c ≤ length (k.texts (suc c))
      small c = go (present (suc c)) (index_of ns (suc c)) refl
        where
          go : (b : Bool) (o : Option ℕ) → index_of ns (suc c) ≡ o → cond b (index_or o) 0 ≤ length (k.texts (suc c))
          go false o e = omega arith
          go true None e = omega arith
          go true (Some i) e = full.in_range (suc c) i e

      -- what was decided
      pub frozen_there : IsFrozen s q r k (value_of_place s.graph r ds ns)
      frozen_there = record {
        edge_count = length-map (range_with_len 0 (length s.graph.edges)) (λ e. bit_of (status_in ds e))
            ∙ length-range_with_len 0 (length s.graph.edges);
        name_count = name_count;
        in_range = λ c h. let e = index_is c h in let l = small c in omega arith;
        absent = λ c h a. index_is c h ∙ ap (λ b. cond b (index_or (index_of ns (suc c))) 0) a;
        stands_for = made.frozen_from s q r es ch name (are_names q are) lawful met;
      }
