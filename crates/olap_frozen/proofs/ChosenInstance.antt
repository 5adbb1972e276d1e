-- The instance that a choice of edges and names stands for, read on the chosen edges: its members are the present
-- categories, `<` is the chosen edges, `<<` is a walk of them, and each law has its reading.
use Rattle.std.proofs.Common.{◌≡◌, ℕ, suc, ◌-◌, ◌<◌, ◌≤◌, List, [], ◌∷◌, length, map, get_or, Bool, true, false, ◌||◌, refl, ap, sym, subst, ◌∙◌, ◌↔◌, ◌⊎◌, inl, inr, arith}
use Rattle.std.proofs.lemmas.{Bool.{or_left, or_right, or_cases, eqb-true, eq-eqb}, List.{get_or-map, length-map}}
use Rattle.std.proofs.lemmas.List.Elements.{Contains-get_or, Contains-append_left, Contains-append_right}
use Rattle.std.specs.List.{range_with_len, list_any}
use Rattle.std.specs.Prelude.{Contains, ◌==◌, AllPairs, ◌≢◌, filter, codes, IsSome, IsTrue}
use Rattle.olap_base.proofs.AboveLemmas.{place_in_injective}
use Rattle.olap_base.proofs.ListLemmas.{contains_head, Contains-map, Contains-from_map, Contains-filter, Contains-from_filter, Contains-from_range_at, Contains-range_at, place_in_is, Distinct, Distinct-range, Distinct-filter, Distinct-map, Distinct-places, AllPairs-from_Distinct, Distinct-from_AllPairs, list_any_is}
use Rattle.olap_base.specs.{Above.{place_in, HasOneMemberEach}, Deciding.below_is_member}
use Rattle.olap_base.specs.Graph.{Graph, Edge, IsCategory, HasEdge, is_number}
use Rattle.olap_base.specs.Instance.{Instance, nobody, IsInstance, IsLawful, IsBelow, IsMember, IsMemberOf, Reaches, member_at, category_of, name_of, parents_of}
use Rattle.olap_base.specs.Steps.{Steps, Steps.here, Steps.step, Climb, Climb.climb, Steps-from_reaches, reaches_from_Steps, Climb-from_leads, leads_from_Climb}
use Rattle.olap_ast.{proofs.Shape.{Distinct-push, same_edge, same_id, last_in}, specs.Constants.IsNameOf}
use Rattle.olap_ast.specs.Formula.{Formula, Holds}
use Rattle.olap_ast.specs.Frozen.{is_present, categories_in_order, present_categories, id_of, member_of, instance_of, IsFrozenInstance}
use Rattle.olap_ast.specs.Schema.{Schema}
use Rattle.olap_numerals.{proofs.NumeralLemmas.numbers_read_back, specs.Numerals.number_of}
use Rattle.olap_eval.specs.Shapes.{IsShape}
use Rattle.olap_frozen.specs.Chosen.{AreNames, FrozenExactlyIfSound, IsChoice, IsMet, Joins, IsSound}
use native.Mathlib.Decide.{ℕ_discrete}

-- a declared category has a number from 1 on
above_zero : (c : ℕ) → c ≢ 0 → 1 ≤ c
above_zero c n = omega arith

-- ---- the present categories

module _ (g : Graph) (r : ℕ) (es : List Edge) (ch : IsChoice g r es) where
  abbrev pub cats : List ℕ
  cats = present_categories g r es

  abbrev pub place : ℕ → ℕ
  place c = place_in cats c

  abbrev ends : ℕ → Edge → Bool
  ends c e = (e.child == c) || (e.parent == c)

  in_order : (c : ℕ) → IsCategory g c → Contains (categories_in_order g) c
  in_order c h = elim (ℕ_discrete c 0) [
    | yes e ↦ Contains-append_right (range_with_len 1 (length g.names)) (0 ∷ []) c
        (subst (λ k. Contains (0 ∷ []) k) (sym e) (contains_head 0 []))
    | no n ↦ Contains-append_left (range_with_len 1 (length g.names)) (0 ∷ []) c
        (let z = above_zero c n in Contains-range_at 1 (length g.names) c z (omega arith))
  ]

  pub joined_categories : (c d : ℕ) → Joins es c d → IsCategory g c × IsCategory g d
  joined_categories c d j = ch.hierarchy.categories c d (ch.within (record { child = c; parent = d }) j)

  pub child_present : (c d : ℕ) → Joins es c d → is_present r es c ≡ true
  child_present c d j = or_right (c == r) (list_any (ends c) es)
      ((list_any_is (ends c) es).1
      (record { child = c; parent = d }, j, or_left (c == c) (d == c) (eq-eqb c c refl)))

  pub parent_present : (c d : ℕ) → Joins es c d → is_present r es d ≡ true
  parent_present c d j = or_right (d == r) (list_any (ends d) es)
      ((list_any_is (ends d) es).1
      (record { child = c; parent = d }, j, or_right (c == d) (d == d) (eq-eqb d d refl)))

  pub root_present : is_present r es r ≡ true
  root_present = or_left (r == r) (list_any (ends r) es) (eq-eqb r r refl)

  -- a present category is the root, or at an end of a chosen edge
  pub present_cases : (c : ℕ) → is_present r es c ≡ true
      → (c ≡ r) ⊎ (((d : ℕ) × Joins es c d) ⊎ ((d : ℕ) × Joins es d c))
  present_cases c p = go (or_cases (c == r) (list_any (ends c) es) p)
    where
      end : (e : Edge) → Contains es e → (e.child == c ≡ true) ⊎ (e.parent == c ≡ true)
          → ((d : ℕ) × Joins es c d) ⊎ ((d : ℕ) × Joins es d c)
      end e h (inl a) = inl (e.parent, subst (λ k. Joins es k e.parent) (eqb-true e.child c a) h)
      end e h (inr a) = inr (e.child, subst (λ k. Joins es e.child k) (eqb-true e.parent c a) h)

      go : (c == r ≡ true) ⊎ (list_any (ends c) es ≡ true)
          → (c ≡ r) ⊎ (((d : ℕ) × Joins es c d) ⊎ ((d : ℕ) × Joins es d c))
      go (inl e) = inl (eqb-true c r e)
      go (inr e) = let t = (list_any_is (ends c) es).0 e in
          inr (end t.0 t.1 (or_cases (t.0.child == c) (t.0.parent == c) t.2))

  pub present_category : (c : ℕ) → is_present r es c ≡ true → IsCategory g c
  present_category c p = elim (present_cases c p) [
    | inl e ↦ subst (λ k. IsCategory g k) (sym e) ch.root
    | inr s ↦ elim s [ inl t ↦ (joined_categories c t.0 t.1).0 | inr t ↦ (joined_categories t.0 c t.1).1 ]
  ]

  present_listed : (c : ℕ) → is_present r es c ≡ true → Contains cats c
  present_listed c p =
      Contains-filter (is_present r es) (categories_in_order g) c p (in_order c (present_category c p))

  distinct_cats : Distinct cats
  distinct_cats = Distinct-filter (is_present r es) (categories_in_order g)
      (Distinct-push (range_with_len 1 (length g.names)) 0 (Distinct-range 1 (length g.names))
      (λ c. let h = Contains-from_range_at 1 (length g.names) 0 c in omega (arith, h.0)))

  pub place_is : (c : ℕ) → is_present r es c ≡ true → (place c < length cats) × (get_or cats (place c) 0 ≡ c)
  place_is c p = place_in_is cats c (present_listed c p)

  pub cat_present : (k : ℕ) → k < length cats → is_present r es (get_or cats k 0) ≡ true
  cat_present k h = (Contains-from_filter (is_present r es) (categories_in_order g) (get_or cats k 0)
      (Contains-get_or cats k 0 h)).1

  cat_in_order : (k : ℕ) → k < length cats → Contains (categories_in_order g) (get_or cats k 0)
  cat_in_order k h = (Contains-from_filter (is_present r es) (categories_in_order g) (get_or cats k 0)
      (Contains-get_or cats k 0 h)).0

  pub place_of_cat : (k : ℕ) → k < length cats → place (get_or cats k 0) ≡ k
  place_of_cat k h =
      let p = place_is (get_or cats k 0) (cat_present k h) in
      Distinct-places cats distinct_cats (place (get_or cats k 0)) k 0 p.0 h p.1

  same_cat : (k l : ℕ) → k < length cats → l < length cats → get_or cats k 0 ≡ get_or cats l 0 → k ≡ l
  same_cat k l hk hl q = Distinct-places cats distinct_cats k l 0 hk hl q

  -- `All` comes last
  all_last : is_present r es 0 ≡ true → suc (place 0) ≡ length cats
  all_last p = last_in (is_present r es) (range_with_len 1 (length g.names)) 0
      (λ c. let h = Contains-from_range_at 1 (length g.names) 0 c in omega (arith, h.0)) p

  -- ---- the instance

  module _ (name : ℕ → List ℕ) where
    abbrev pub inst : Instance
    inst = instance_of g r es name

    pub length_inst : length inst ≡ length cats
    length_inst = length-map cats (member_of g name cats es)

    in_cats : (k : ℕ) → k < length inst → k < length cats
    in_cats k h = subst (λ n. k < n) length_inst h

    in_inst : (k : ℕ) → k < length cats → k < length inst
    in_inst k h = subst (λ n. k < n) (sym length_inst) h

    at_inst : (k : ℕ) → k < length cats → member_at inst k ≡ member_of g name cats es (get_or cats k 0)
    at_inst k h = get_or-map (member_of g name cats es) cats k 0 nobody h

    pub category_inst : (k : ℕ) → k < length cats → category_of inst k ≡ get_or cats k 0
    category_inst k h = ap (λ m. m.category) (at_inst k h)

    pub name_inst : (k : ℕ) → k < length cats → name_of inst k ≡ name (get_or cats k 0)
    name_inst k h = ap (λ m. m.name) (at_inst k h)

    abbrev to_place : Edge → ℕ
    to_place e = place_in cats e.parent

    abbrev leaves : ℕ → Edge → Bool
    leaves c e = e.child == c

    parents_inst : (k : ℕ) → k < length cats → parents_of inst k ≡ map to_place (filter (leaves (get_or cats k 0)) es)
    parents_inst k h = ap (λ m. m.parents) (at_inst k h)

    -- `<` is a chosen edge
    pub below_edge : (k l : ℕ) → IsBelow inst k l
        → (k < length cats) × (l < length cats) × Joins es (get_or cats k 0) (get_or cats l 0)
    below_edge k l b =
        let h = in_cats k (below_is_member inst k l b) in
        let c = get_or cats k 0 in
        let t = Contains-from_map to_place (filter (leaves c) es) l
        (subst (λ ps. Contains ps l) (parents_inst k h) b) in
        let u = Contains-from_filter (leaves c) es t.0 t.1 in
        let e : t.0.child ≡ c = eqb-true t.0.child c u.1 in
        let p = place_is t.0.parent (parent_present t.0.child t.0.parent u.0) in (
          h,
          subst (λ m. m < length cats) t.2 p.0,
          subst (λ a. Joins es a (get_or cats l 0)) e
              (subst (λ d. Joins es t.0.child d) (sym p.1 ∙ ap (λ m. get_or cats m 0) t.2) u.0),
        )

    pub edge_below : (c d : ℕ) → Joins es c d → IsBelow inst (place c) (place d)
    edge_below c d j =
        let p = place_is c (child_present c d j) in
        let e : Edge = record { child = c; parent = d } in
        subst (λ ps. Contains ps (place d)) (sym (parents_inst (place c) p.0))
        (Contains-map to_place (filter (leaves (get_or cats (place c) 0)) es) e
        (Contains-filter (leaves (get_or cats (place c) 0)) es e (eq-eqb c (get_or cats (place c) 0) (sym p.1)) j))

    -- `<<` is a walk
    pub steps_down : {k l : ℕ} → Steps (IsBelow inst) k l → Steps (Joins es) (get_or cats k 0) (get_or cats l 0)
    steps_down here = here
    steps_down (step {x = k} {y = m} b s) = step (below_edge k m b).2 (steps_down s)

    pub climb_down : {k l : ℕ} → Climb (IsBelow inst) k l → Climb (Joins es) (get_or cats k 0) (get_or cats l 0)
    climb_down {k} (climb {z = m} b s) = climb (below_edge k m b).2 (steps_down s)

    pub steps_up : {c d : ℕ} → Steps (Joins es) c d → Steps (IsBelow inst) (place c) (place d)
    steps_up here = here
    steps_up (step {x = c} {y = m} j s) = step (edge_below c m j) (steps_up s)

    pub climb_up : {c d : ℕ} → Climb (Joins es) c d → Climb (IsBelow inst) (place c) (place d)
    climb_up {c} (climb {z = m} j s) = climb (edge_below c m j) (steps_up s)

    steps_inside : {k l : ℕ} → k < length cats → Steps (IsBelow inst) k l → l < length cats
    steps_inside h here = h
    steps_inside h (step {x = k} {y = m} b s) = steps_inside (below_edge k m b).1 s

    climb_ends : {k l : ℕ} → Climb (IsBelow inst) k l → (k < length cats) × (l < length cats)
    climb_ends {k} (climb {z = m} b s) = let t = below_edge k m b in (t.0, steps_inside t.1 s)

    -- the member of a present category
    pub member_is : (c : ℕ) → is_present r es c ≡ true → IsMemberOf inst c (place c)
    member_is c p = let t = place_is c p in (in_inst (place c) t.0, category_inst (place c) t.0 ∙ t.1)

    pub only_member : (c x : ℕ) → IsMemberOf inst c x → (is_present r es c ≡ true) × (place c ≡ x)
    only_member c x m =
        let h = in_cats x m.0 in
        let e : get_or cats x 0 ≡ c = sym (category_inst x h) ∙ m.1 in (
          subst (λ d. is_present r es d ≡ true) e (cat_present x h),
          ap place (sym e) ∙ place_of_cat x h,
        )

    pub reaches_walk : (c d : ℕ) → is_present r es c ≡ true → is_present r es d ≡ true
        → Reaches inst (place c) (place d) ↔ Steps (Joins es) c d
    reaches_walk c d p q = (
      λ s. subst (λ a. Steps (Joins es) a d) (place_is c p).1
          (subst (λ b. Steps (Joins es) (get_or cats (place c) 0) b) (place_is d q).1
          (steps_down (Steps-from_reaches s))),
      λ s. reaches_from_Steps (steps_up s),
    )

    pub below_joins : (c d : ℕ) → is_present r es c ≡ true → is_present r es d ≡ true
        → IsBelow inst (place c) (place d) ↔ Joins es c d
    below_joins c d p q = (
      λ b. subst (λ a. Joins es a d) (place_is c p).1
          (subst (λ k. Joins es (get_or cats (place c) 0) k) (place_is d q).1 (below_edge (place c) (place d) b).2),
      λ j. edge_below c d j,
    )

    pub name_there : (c : ℕ) → is_present r es c ≡ true → name_of inst (place c) ≡ name c
    name_there c p = let t = place_is c p in name_inst (place c) t.0 ∙ ap name t.1

    -- the instance is a shape with the present categories' members in their places
    pub chosen_shape : IsShape inst (is_present r es) place
    chosen_shape = record {
      members = member_is;
      closed = λ c y p s.
          let h = steps_inside (place_is c p).0 (Steps-from_reaches s) in
          let e = category_inst y h in (
            subst (λ d. is_present r es d ≡ true) (sym e) (cat_present y h),
            ap place e
                ∙ place_of_cat y h,
          );
    }

    pub chosen_one_each : HasOneMemberEach inst
    chosen_one_each x y hx hy q =
        let a = in_cats x hx in
        let b = in_cats y hy in
        same_cat x y a b (sym (category_inst x a) ∙ q ∙ category_inst y b)

    -- ---- it is an instance exactly if `All` is present

    parents_differ : (k : ℕ) → AllPairs ◌≢◌ (parents_of inst k)
    parents_differ k a b d l h =
        let in' = in_cats k (below_is_member inst k (get_or (parents_of inst k) b 0)
        (Contains-get_or (parents_of inst k) b 0 h)) in
        subst (λ ps. AllPairs ◌≢◌ ps) (sym (parents_inst k in'))
        (AllPairs-from_Distinct (map to_place (filter (leaves (get_or cats k 0)) es)) (apart (get_or cats k 0)))
        a b d l h
      where
        apart : (c : ℕ) → Distinct (map to_place (filter (leaves c) es))
        apart c = Distinct-map to_place (filter (leaves c) es)
            (Distinct-filter (leaves c) es (Distinct-from_AllPairs es ch.differ))
            (λ e f x y q.
            let s = Contains-from_filter (leaves c) es e x in
            let t = Contains-from_filter (leaves c) es f y in
            same_edge e f (eqb-true e.child c s.1 ∙ sym (eqb-true f.child c t.1))
            (place_in_injective cats e.parent f.parent
            (present_listed e.parent (parent_present e.child e.parent s.0))
            (present_listed f.parent (parent_present f.child f.parent t.0)) q))

    ids_differ : (x y : ℕ) → IsMember inst x → IsMember inst y → (member_at inst x).id ≡ (member_at inst y).id → x ≡ y
    ids_differ x y hx hy q =
        let a = in_cats x hx in
        let b = in_cats y hy in
        same_cat x y a b (same_id g ch.hierarchy (get_or cats x 0) (get_or cats y 0) (cat_in_order x a)
        (cat_in_order y b)
        (sym (ap (λ m. m.id) (at_inst x a)) ∙ q ∙ ap (λ m. m.id) (at_inst y b)))

    pub chosen_instance : is_present r es 0 ≡ true → name 0 ≡ codes "all" → IsInstance inst
    chosen_instance p n =
        let last : suc (place 0) ≡ length inst = all_last p ∙ sym length_inst in
        let at = place_is 0 p in
        record {
          ids_differ = ids_differ;
          parents_are_members = λ x y b. in_inst y (below_edge x y b).1;
          parents_differ = parents_differ;
          some_member = omega arith;
          all_is_last = λ x h. (
            λ e. ap suc (sym (only_member 0 x (h, e)).1) ∙ last,
            λ e. let q : x ≡ place 0 = omega arith in
                ap (category_of inst) q ∙ (member_is 0 p).1,
          );
          all_id = λ x e. let q : x ≡ place 0 = omega arith in
              ap (λ z. (member_at inst z).id) q ∙ ap (λ m. m.id) (at_inst (place 0) at.0) ∙ ap (id_of g) at.1;
          all_name = λ x e. let q : x ≡ place 0 = omega arith in
              ap (name_of inst) q ∙ name_inst (place 0) at.0 ∙ ap name at.1 ∙ n;
        }

    -- ---- the laws

    pub chosen_lawful : IsSound r es → IsLawful g inst
    chosen_lawful s = record {
      connectivity = λ x y b.
          let t = below_edge x y b in
          subst (λ c. HasEdge g c (category_of inst y)) (sym (category_inst x t.0))
          (subst (λ d. HasEdge g (get_or cats x 0) d) (sym (category_inst y t.1))
          (ch.within (record { child = get_or cats x 0; parent = get_or cats y 0 }) t.2));
      up_connectivity = λ x h n.
          let a = in_cats x h in
          let t = s.upward (get_or cats x 0) (cat_present x a) (λ e. n (category_inst x a ∙ e)) in (
            place t.0,
            subst (λ k. IsBelow inst k (place t.0)) (place_of_cat x a)
                (edge_below (get_or cats x 0) t.0 t.1),
          );
      stratification = λ x y f q.
          let c = Climb-from_leads f in
          let e = climb_ends c in
          s.acyclic (get_or cats x 0)
          (subst (λ d. Climb (Joins es) (get_or cats x 0) d)
          (sym (sym (category_inst x e.0) ∙ q ∙ category_inst y e.1)) (climb_down c));
      partitioning = λ x y z f h q.
          let e = (climb_ends (Climb-from_leads f)).1 in
          let i = (climb_ends (Climb-from_leads h)).1 in
          same_cat y z e i (sym (category_inst y e) ∙ q ∙ category_inst z i);
      shortcuts = λ x y z b c f. s.straight (get_or cats x 0) (get_or cats y 0) (get_or cats z 0)
          (below_edge x y b).2 (below_edge x z c).2 (climb_down (Climb-from_leads f));
    }

    top_present : IsInstance inst → is_present r es 0 ≡ true
    top_present v =
        let some = v.some_member in
        let x = length inst - 1 in
        let h : x < length inst = omega arith in
        let e : suc x ≡ length inst = omega arith in
        (only_member 0 x (h, (v.all_is_last x h).1 e)).0

    pub sound_from : IsInstance inst → IsLawful g inst → ((y : ℕ) → IsMember inst y → Reaches inst (place r) y)
        → IsSound r es
    sound_from v w all = record {
      top = top_present v;
      reached = λ c p. (reaches_walk r c root_present p).0 (all (place c) (member_is c p).0);
      upward = λ c p n.
          let m = member_is c p in
          let t = w.up_connectivity (place c) m.0 (λ e. n (sym m.1 ∙ e)) in
          let b = below_edge (place c) t.0 t.1 in
          (get_or cats t.0 0, subst (λ a. Joins es a (get_or cats t.0 0)) (place_is c p).1 b.2);
      acyclic = λ c k. w.stratification (place c) (place c) (leads_from_Climb (climb_up k)) refl;
      straight = λ c d e j k l. w.shortcuts (place c) (place d) (place e) (edge_below c d j) (edge_below c e k)
          (leads_from_Climb (climb_up l));
    }

-- ---- frozen dimensions

-- `All` is no number category
not_all : (g : Graph) (c : ℕ) → IsTrue (is_number g c) → c ≢ 0
not_all g c b e = absurd (let z : IsTrue (is_number g 0) = subst (λ d. IsTrue (is_number g d)) e b in cc)

-- a name of a number category is a numeral
named_numeral : (b : Bool) (s : Schema) (q : Formula) (d : ℕ) (name : List ℕ) → IsNameOf b s q d name → IsTrue b
    → IsSome (number_of name)
named_numeral false s q d name n e = absurd (cc)
named_numeral true s q d name n e =
    subst (λ o. IsSome o) (sym (ap number_of n.2 ∙ numbers_read_back n.0 n.1.0)) refl

module _ (s : Schema) (q : Formula) (r : ℕ) (es : List Edge) (ch : IsChoice s.graph r es) (name : ℕ → List ℕ) where
  pub frozen_from : AreNames s q r es name → IsSound r es → IsMet s q r es name
      → IsFrozenInstance s q r (instance_of s.graph r es name)
  frozen_from n sound met =
      let g = s.graph in
      let i = inst g r es ch name in
      let root = member_is g r es ch name r (root_present g r es ch) in
      record {
        legal = record {
          is_instance = chosen_instance g r es ch name sound.top n.all;
          numerals = λ y h b. let o = only_member g r es ch name (category_of i y) y (h, refl) in
              named_numeral (is_number g (category_of i y)) s q (category_of i y) (name_of i y)
              (subst (λ t. IsNameOf (is_number g (category_of i y)) s q (category_of i y) t)
              (sym (name_there g r es ch name (category_of i y) o.0) ∙ ap (name_of i) o.1)
              (n.known (category_of i y) o.0 (not_all g (category_of i y) b))) b;
          lawful = chosen_lawful g r es ch name sound;
          meets = λ k c x m. let o = only_member g r es ch name k.root x m in
              subst (λ y. Holds i y k.formula) o.1 (met.meets k c o.0);
        };
        one_each = chosen_one_each g r es ch name;
        root = place g r es ch r;
        root_is = root;
        reached = λ y h. let o = only_member g r es ch name (category_of i y) y (h, refl) in
            subst (λ z. Reaches i (place g r es ch r) z) o.1
            ((reaches_walk g r es ch name r (category_of i y) (root_present g r es ch) o.0).1
            (sound.reached (category_of i y) o.0));
        named = λ y h e. let o = only_member g r es ch name (category_of i y) y (h, refl) in
            subst (λ t. IsNameOf (is_number g (category_of i y)) s q (category_of i y) t)
            (sym (name_there g r es ch name (category_of i y) o.0) ∙ ap (name_of i) o.1)
            (n.known (category_of i y) o.0 e);
        true_at_root = met.question;
      }

  pub sound_of_frozen : IsFrozenInstance s q r (instance_of s.graph r es name) → IsSound r es
  sound_of_frozen f =
      let g = s.graph in
      let i = inst g r es ch name in
      let o = only_member g r es ch name r f.root f.root_is in
      sound_from g r es ch name f.legal.is_instance f.legal.lawful
      (λ y h. subst (λ x. Reaches i x y) (sym o.1) (f.reached y h))

  pub met_of_frozen : IsFrozenInstance s q r (instance_of s.graph r es name) → IsMet s q r es name
  met_of_frozen f =
      let g = s.graph in
      let i = inst g r es ch name in
      let o = only_member g r es ch name r f.root f.root_is in
      record {
        meets = λ k c p. f.legal.meets k c (place g r es ch k.root) (member_is g r es ch name k.root p);
        question = subst (λ x. Holds i x q) (sym o.1) f.true_at_root;
      }

-- the theorem, by the laws one after another
pub frozen_exactly_if_sound : FrozenExactlyIfSound
frozen_exactly_if_sound s q r es name ch n = (
  λ f. (sound_of_frozen s q r es ch name f, met_of_frozen s q r es ch name f),
  λ t. frozen_from s q r es ch name n t.0 t.1,
)
