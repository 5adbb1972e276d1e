-- The instance that stands for the edges that the members above one member use: a part of the instance, with one
-- member for each category.
use Rattle.std.proofs.Common.{◌≡◌, ℕ, suc, ◌<◌, ◌≤◌, List, [], ◌∷◌, length, map, get_or, true, ◌||◌, refl, ap, sym, subst, ◌∙◌, ◌⊎◌, inl, inr, arith}
use Rattle.std.proofs.lemmas.{Bool.{or_cases, eqb-true, eq-eqb}, List.{get_or-map, length-map}}
use Rattle.std.proofs.lemmas.List.Elements.{Contains-get_or, Contains-append_left, Contains-append_right}
use Rattle.std.specs.{List.{range_with_len, list_any}, Prelude.{Contains, ◌==◌, AllPairs, ◌≢◌, filter, codes}}
use Rattle.olap_base.proofs.AboveLemmas.{reaches_all, place_in_injective}
use Rattle.olap_base.proofs.ListLemmas.{contains_head, Contains-map, Contains-from_map, Contains-filter, Contains-from_filter, Contains-from_range_at, Contains-range_at, place_in_is, Distinct, Distinct-range, Distinct-filter, Distinct-map, Distinct-places, AllPairs-from_Distinct, Distinct-from_AllPairs, list_any_is}
use Rattle.olap_base.proofs.Part.{IsPart, part_lawful, part_instance, part_lift, part_inside}
use Rattle.olap_base.specs.{Above.{place_in, HasOneMemberEach}, Deciding.below_is_member}
use Rattle.olap_base.specs.Graph.{Graph, Edge, IsHierarchy}
use Rattle.olap_base.specs.Instance.{Instance, nobody, IsInstance, IsLawful, IsBelow, Reaches, member_at, category_of, name_of, parents_of}
use Rattle.olap_base.specs.Steps.{Steps, Steps.here, Steps.step, Steps-append, reaches_from_Steps}
use Rattle.olap_ast.proofs.Shape.{left_true, right_true, seen, Seen, seen_from, is_seen, seen_edges, member_above, member_above_is, last_step, Distinct-push, same_edge, same_id, last_in}
use Rattle.olap_ast.specs.Frozen.{is_present, categories_in_order, present_categories, id_of, member_of, instance_of}
use native.Mathlib.Decide.{ℕ_discrete}

module _ (g : Graph) (i : Instance) (hier : IsHierarchy g) (v : IsInstance i) (w : IsLawful g i) (x : ℕ)
    (hx : x < length i) where
  -- the categories of the shape
  abbrev pub shape_categories : List ℕ
  shape_categories = present_categories g (category_of i x) (seen_edges g i x)

  -- a member's category is in the graph
  in_order : (y : ℕ) → y < length i → Contains (categories_in_order g) (category_of i y)
  in_order y h = elim (ℕ_discrete (category_of i y) 0) [
    | yes e ↦ Contains-append_right (range_with_len 1 (length g.names)) (0 ∷ []) (category_of i y)
        (subst (λ c. Contains (0 ∷ []) c) (sym e) (contains_head 0 []))
    | no n ↦ let t = w.up_connectivity y h n in
        let b = (hier.categories (category_of i y) (category_of i t.0) (w.connectivity y t.0 t.1)).0 in
        Contains-append_left (range_with_len 1 (length g.names)) (0 ∷ []) (category_of i y)
        (Contains-range_at 1 (length g.names) (category_of i y) (above_zero (category_of i y) n) (omega arith))
  ]
    where
      above_zero : (c : ℕ) → c ≢ 0 → 1 ≤ c
      above_zero c n = omega arith

  -- what is below another above x uses an edge
  edge_seen : (y z : ℕ) → Steps (IsBelow i) x y → IsBelow i y z →
      Contains (seen_edges g i x) (record { child = category_of i y; parent = category_of i z })
  edge_seen y z s b =
      Contains-filter (seen i x) g.edges (record { child = category_of i y; parent = category_of i z })
      (is_seen i x (record { child = category_of i y; parent = category_of i z })
      (record { child = y; parent = z; reached = s; child_is = refl; below = b; parent_is = refl }))
      (w.connectivity y z b)

  -- the category of a member above x is in the shape
  present_of : (y : ℕ) → y < length i → Steps (IsBelow i) x y → Contains shape_categories (category_of i y)
  present_of y h s = Contains-filter (is_present (category_of i x) (seen_edges g i x)) (categories_in_order g)
      (category_of i y) (go (last_step s)) (in_order y h)
    where
      go : (x ≡ y) ⊎ ((z : ℕ) × Steps (IsBelow i) x z × IsBelow i z y) →
          is_present (category_of i x) (seen_edges g i x) (category_of i y) ≡ true
      go (inl q) = left_true (category_of i y == category_of i x)
          (list_any (λ e. (e.child == category_of i y) || (e.parent == category_of i y)) (seen_edges g i x))
          (eq-eqb (category_of i y) (category_of i x) (ap (category_of i) (sym q)))
      go (inr t) = right_true (category_of i y == category_of i x)
          (list_any (λ e. (e.child == category_of i y) || (e.parent == category_of i y)) (seen_edges g i x))
          ((list_any_is (λ (e : Edge). (e.child == category_of i y) || (e.parent == category_of i y))
          (seen_edges g i x)).1 (
            record { child = category_of i t.0; parent = category_of i y },
            edge_seen t.0 y t.1 t.2,
            right_true (category_of i t.0 == category_of i y) (category_of i y == category_of i y)
                (eq-eqb (category_of i y) (category_of i y) refl),
          ))

  -- each category in the shape is that of a member above x
  from_present : (c : ℕ) → Contains shape_categories c →
      (y : ℕ) × (y < length i) × Steps (IsBelow i) x y × (category_of i y ≡ c)
  from_present c h = go (or_cases (c == category_of i x)
      (list_any (λ e. (e.child == c) || (e.parent == c)) (seen_edges g i x))
      (Contains-from_filter (is_present (category_of i x) (seen_edges g i x)) (categories_in_order g) c h).1)
    where
      edge : (e : Edge) → Seen i x e → (e.child == c ≡ true) ⊎ (e.parent == c ≡ true) →
          (y : ℕ) × (y < length i) × Steps (IsBelow i) x y × (category_of i y ≡ c)
      edge e s (inl a) = (
        s.child,
        below_is_member i s.child s.parent s.below,
        s.reached,
        s.child_is
            ∙ eqb-true e.child c a,
      )
      edge e s (inr a) = (
        s.parent,
        v.parents_are_members s.child s.parent s.below,
        Steps-append s.reached (step s.below here),
        s.parent_is ∙ eqb-true e.parent c a,
      )

      go : (c == category_of i x ≡ true)
          ⊎ (list_any (λ e. (e.child == c) || (e.parent == c)) (seen_edges g i x) ≡ true) →
          (y : ℕ) × (y < length i) × Steps (IsBelow i) x y × (category_of i y ≡ c)
      go (inl a) = (x, hx, here, sym (eqb-true c (category_of i x) a))
      go (inr a) = let t = (list_any_is (λ (e : Edge). (e.child == c) || (e.parent == c)) (seen_edges g i x)).0 a in
          edge t.0 (seen_from i x t.0 (Contains-from_filter (seen i x) g.edges t.0 t.1).1)
          (or_cases (t.0.child == c) (t.0.parent == c) t.2)

  -- the member of a present category
  pub member_of_present : (c : ℕ) → Contains shape_categories c →
      (member_above i x c < length i) × Steps (IsBelow i) x (member_above i x c)
      × (category_of i (member_above i x c) ≡ c)
  member_of_present c h =
      let t = from_present c h in
      let q : member_above i x c ≡ t.0 = ap (member_above i x) (sym t.3) ∙ member_above_is g i w x t.0 t.1 t.2 in (
        subst (λ y. y < length i) (sym q) t.1,
        subst (λ y. Steps (IsBelow i) x y) (sym q) t.2,
        ap (category_of i) q
            ∙ t.3,
      )

  -- no category stands twice in the shape
  distinct_categories : Distinct shape_categories
  distinct_categories = Distinct-filter (is_present (category_of i x) (seen_edges g i x)) (categories_in_order g)
      (Distinct-push (range_with_len 1 (length g.names)) 0 (Distinct-range 1 (length g.names))
      (λ c. let h = Contains-from_range_at 1 (length g.names) 0 c in omega (arith, h.0)))

  -- ---- the instance that stands for the shape

  module _ (name : ℕ → List ℕ) where
    -- a member for each category, with the names that are given
    abbrev pub shape : Instance
    shape = instance_of g (category_of i x) (seen_edges g i x) name

    -- which member of i a member of the shape is
    abbrev pub whole : ℕ → ℕ
    whole k = member_above i x (get_or shape_categories k 0)

    -- the shape has a member for each of its categories
    pub length_shape : length shape ≡ length shape_categories
    length_shape = length-map shape_categories (member_of g name shape_categories (seen_edges g i x))

    -- a member of the shape is that of the category at its place
    at_shape : (k : ℕ) → k < length shape →
        member_at shape k ≡ member_of g name shape_categories (seen_edges g i x) (get_or shape_categories k 0)
    at_shape k h = get_or-map (member_of g name shape_categories (seen_edges g i x)) shape_categories k 0 nobody
        (rw (← length_shape) h)

    -- whose category is one of the shape's
    pub listed : (k : ℕ) → k < length shape → Contains shape_categories (get_or shape_categories k 0)
    listed k h = Contains-get_or shape_categories k 0 (rw (← length_shape) h)

    -- and is its own
    pub category_shape : (k : ℕ) → k < length shape → category_of shape k ≡ get_or shape_categories k 0
    category_shape k h = ap (λ m. m.category) (at_shape k h)

    -- the edges out of a category
    abbrev edges_of : ℕ → List Edge
    edges_of c = filter (λ e. e.child == c) (seen_edges g i x)

    -- its parents are the places of the categories that its edges lead to
    parents_shape : (k : ℕ) → k < length shape →
        parents_of shape k ≡ map (λ e. place_in shape_categories e.parent) (edges_of (get_or shape_categories k 0))
    parents_shape k h = ap (λ m. m.parents) (at_shape k h)

    -- an edge out of a category that is listed
    edge_of : (c : ℕ) (e : Edge) → Contains (edges_of c) e → (e.child ≡ c) × Seen i x e × Contains g.edges e
    edge_of c e h =
        let t = Contains-from_filter (λ (e : Edge). e.child == c) (seen_edges g i x) e h in
        let u = Contains-from_filter (seen i x) g.edges e t.0 in
        (eqb-true e.child c t.1, seen_from i x e u.1, u.0)

    -- an edge that is used leads to a category of the shape
    parent_present : (e : Edge) → Seen i x e → Contains shape_categories e.parent
    parent_present e s = rw s.parent_is at (present_of s.parent (v.parents_are_members s.child s.parent s.below)
        (Steps-append s.reached (step s.below here)))

    -- a parent in the shape comes from a parent in the instance
    shape_below : (k l : ℕ) → IsBelow shape k l → (l < length shape) × IsBelow i (whole k) (whole l)
    shape_below k l b =
        let c = get_or shape_categories k 0 in
        let t = Contains-from_map (λ (e : Edge). place_in shape_categories e.parent) (edges_of c) l
        (subst (λ ps. Contains ps l) (parents_shape k (below_is_member shape k l b)) b) in
        let u = edge_of c t.0 t.1 in
        let s = u.1 in
        let p = place_in_is shape_categories t.0.parent (parent_present t.0 s) in
        let child : s.child ≡ whole k = sym
        (member_above_is g i w x s.child (below_is_member i s.child s.parent s.below) s.reached)
        ∙ ap (member_above i x) (s.child_is ∙ u.0) in
        let parent : s.parent ≡ whole l =
        sym (member_above_is g i w x s.parent (v.parents_are_members s.child s.parent s.below)
        (Steps-append s.reached (step s.below here)))
        ∙ ap (member_above i x) (s.parent_is ∙ sym p.1 ∙ ap (λ z. get_or shape_categories z 0) t.2) in (
          rw (length_shape, ← t.2) p.0,
          rw child at (subst (λ z. IsBelow i s.child z) parent s.below),
        )

    -- a parent in the instance has a place in the shape
    shape_above : (k y : ℕ) → k < length shape → IsBelow i (whole k) y → (l : ℕ) × IsBelow shape k l × (whole l ≡ y)
    shape_above k y h b =
        let c = get_or shape_categories k 0 in
        let m = member_of_present c (listed k h) in
        let a : Contains (edges_of c) (record { child = category_of i (whole k); parent = category_of i y }) =
        Contains-filter (λ (e : Edge). e.child == c) (seen_edges g i x)
        (record { child = category_of i (whole k); parent = category_of i y })
        (eq-eqb (category_of i (whole k)) c m.2) (edge_seen (whole k) y m.1 b) in
        let s : Steps (IsBelow i) x y = Steps-append m.1 (step b here) in
        let in' = v.parents_are_members (whole k) y b in
        let p = place_in_is shape_categories (category_of i y) (present_of y in' s) in (
          place_in shape_categories (category_of i y),
          rw (parents_shape k h) (Contains-map (λ (e : Edge). place_in shape_categories e.parent) (edges_of c)
              (record { child = category_of i (whole k); parent = category_of i y }) a),
          ap (member_above i x) p.1 ∙ member_above_is g i w x y in' s,
        )

    -- the shape is a part of the instance
    pub shape_is_part : IsPart i shape whole
    shape_is_part = record {
      member = λ k h. (member_of_present (get_or shape_categories k 0) (listed k h)).0;
      category = λ k h. category_shape k h ∙ sym (member_of_present (get_or shape_categories k 0) (listed k h)).2;
      inside = λ k l b. (shape_below k l b).0;
      below = λ k l b. (shape_below k l b).1;
      above = shape_above;
      injective = λ k l hk hl q. Distinct-places shape_categories distinct_categories k l 0 (rw (← length_shape) hk)
          (rw (← length_shape) hl)
          (sym (member_of_present (get_or shape_categories k 0) (listed k hk)).2 ∙ ap (category_of i) q
          ∙ (member_of_present (get_or shape_categories l 0) (listed l hl)).2);
    }

    -- ids differ, as the graph's names do
    ids_shape : (k l : ℕ) → k < length shape → l < length shape → (member_at shape k).id ≡ (member_at shape l).id →
        k ≡ l
    ids_shape k l hk hl q = shape_is_part.injective k l hk hl
        (ap (member_above i x) (same_id g hier (get_or shape_categories k 0) (get_or shape_categories l 0)
        (ordered k hk) (ordered l hl) (sym (ap (λ m. m.id) (at_shape k hk)) ∙ q
        ∙ ap (λ m. m.id) (at_shape l hl))))
      where
        ordered : (k : ℕ) → k < length shape → Contains (categories_in_order g) (get_or shape_categories k 0)
        ordered k h =
            (Contains-from_filter (is_present (category_of i x) (seen_edges g i x)) (categories_in_order g)
            (get_or shape_categories k 0) (listed k h)).0

    -- no parent stands twice
    parents_differ_shape : (k : ℕ) → AllPairs ◌≢◌ (parents_of shape k)
    parents_differ_shape k a b d l h =
        subst (λ ps. AllPairs ◌≢◌ ps) (sym (parents_shape k (has_parent k b h)))
        (AllPairs-from_Distinct (map (λ (e : Edge). place_in shape_categories e.parent)
        (edges_of (get_or shape_categories k 0))) (apart k)) a b d l h
      where
        has_parent : (k b : ℕ) → b < length (parents_of shape k) → k < length shape
        has_parent k b h = below_is_member shape k (get_or (parents_of shape k) b 0)
            (Contains-get_or (parents_of shape k) b 0 h)

        apart : (k : ℕ) → Distinct (map (λ (e : Edge). place_in shape_categories e.parent)
            (edges_of (get_or shape_categories k 0)))
        apart k = Distinct-map (λ (e : Edge). place_in shape_categories e.parent)
            (edges_of (get_or shape_categories k 0))
            (Distinct-filter (λ (e : Edge). e.child == get_or shape_categories k 0) (seen_edges g i x)
            (Distinct-filter (seen i x) g.edges (Distinct-from_AllPairs g.edges hier.edges_differ)))
            (λ e f c d q. let s = edge_of (get_or shape_categories k 0) e c in
            let t = edge_of (get_or shape_categories k 0) f d in
            same_edge e f (s.0 ∙ sym t.0)
            (place_in_injective shape_categories e.parent f.parent (parent_present e s.1)
            (parent_present f t.1) q))

    -- `all` comes last
    pub all_place : ℕ
    all_place = place_in shape_categories 0

    -- x has steps to `all`
    all_above : (a : ℕ) × (suc a ≡ length i) × Steps (IsBelow i) x a
    all_above = reaches_all g i v w x hx

    -- so the shape has its category
    all_present : Contains shape_categories 0
    all_present = let t = all_above in let in' : t.0 < length i = let q = t.1 in omega arith in
        subst (λ c. Contains shape_categories c) ((v.all_is_last t.0 in').1 t.1) (present_of t.0 in' t.2)

    -- at the last place
    all_last : suc all_place ≡ length shape
    unfolding all_place
    all_last = last_in (is_present (category_of i x) (seen_edges g i x)) (range_with_len 1 (length g.names)) 0
        (λ c. let h = Contains-from_range_at 1 (length g.names) 0 c in omega (arith, h.0))
        (Contains-from_filter (is_present (category_of i x) (seen_edges g i x))
        (categories_in_order g) 0 all_present).1 ∙ sym length_shape

    -- whose member is the last of the instance
    whole_all : suc (whole all_place) ≡ length i
    unfolding all_place
    whole_all = let p = place_in_is shape_categories 0 all_present in let t =
        all_above in let in' : t.0 < length i =
        let q = t.1 in omega arith in
        ap suc (ap (member_above i x) (p.1 ∙ sym ((v.all_is_last t.0 in').1 t.1))
        ∙ member_above_is g i w x t.0 in' t.2) ∙ t.1

    -- where `all` keeps its name, the shape is an instance
    pub shape_instance : name 0 ≡ codes "all" → IsInstance shape
    unfolding all_place
    shape_instance n =
        let h : all_place < length shape = let q = all_last in omega arith in
        let z = (place_in_is shape_categories 0 all_present).1 in
        let m = at_shape all_place h in
        part_instance i shape whole shape_is_part all_place v all_last whole_all ids_shape parents_differ_shape
        (ap (λ m. m.id) m ∙ ap (id_of g) z ∙ sym (v.all_id (whole all_place) whole_all))
        (ap (λ m. m.name) m ∙ ap name z ∙ n ∙ sym (v.all_name (whole all_place) whole_all))

    -- it is lawful
    pub shape_lawful : IsLawful g shape
    shape_lawful = part_lawful i shape whole shape_is_part g w

    -- and each category has at most one member
    pub shape_one_each : HasOneMemberEach shape
    shape_one_each k l hk hl q = Distinct-places shape_categories distinct_categories k l 0 (rw (← length_shape) hk)
        (rw (← length_shape) hl) (sym (category_shape k hk) ∙ q ∙ category_shape l hl)

    -- x's member in the shape
    pub shape_root : ℕ
    shape_root = place_in shape_categories (category_of i x)

    -- it is of x's category, and stands for x
    pub shape_root_is : (shape_root < length shape) × (category_of shape shape_root ≡ category_of i x)
        × (whole shape_root ≡ x)
    unfolding shape_root
    shape_root_is = let p = place_in_is shape_categories (category_of i x) (present_of x hx here) in
        let h : place_in shape_categories (category_of i x) < length shape = rw length_shape p.0 in (
          h,
          category_shape (place_in shape_categories (category_of i x)) h ∙ p.1,
          ap (member_above i x) p.1
              ∙ member_above_is g i w x x hx here,
        )

    -- it reaches each member of the shape
    pub shape_reached : (k : ℕ) → k < length shape → Reaches shape shape_root k
    shape_reached k h =
        let r = shape_root_is in
        let t = part_lift i shape whole shape_is_part
        (member_of_present (get_or shape_categories k 0) (listed k h)).1 shape_root r.0 r.2 in
        reaches_from_Steps (subst (λ l. Steps (IsBelow shape) shape_root l)
        (shape_is_part.injective t.0 k (part_inside i shape whole shape_is_part r.0 t.1) h t.2) t.1)

    -- a member has the name that its category is given
    pub name_shape : (k : ℕ) → k < length shape → name_of shape k ≡ name (category_of shape k)
    name_shape k h = ap (λ m. m.name) (at_shape k h) ∙ ap name (sym (category_shape k h))
