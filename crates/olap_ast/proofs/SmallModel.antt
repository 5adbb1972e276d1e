-- What one member of a legal instance reaches gives a frozen dimension.
use Rattle.std.proofs.Common.{◌≡◌, ℕ, zero, suc, ◌<◌, ◌≤◌, List, [], ◌∷◌, length, map, get_or, Bool, true, false, cond, refl, ap, sym, subst, ◌∙◌, ◌↔◌, inl, inr, arith}
use Rattle.std.proofs.lemmas.List.{length-map, get_or_default}
use Rattle.std.proofs.lemmas.List.FromFn.{length-map-range_with_len, get_or-map-range_with_len}
use Rattle.std.specs.{List.range_with_len, Prelude.{Contains, IsSome, IsTrue, filter, slice_index}}
use Rattle.olap_base.proofs.{ListLemmas.{Contains-from_filter, Contains-nil, contains_head}, Part.IsPart}
use Rattle.olap_base.specs.{Deciding.{decide_contains, contains_cons}, Graph.{Edge, IsHierarchy, is_number}}
use Rattle.olap_base.specs.Instance.{Instance, IsMemberOf, category_of, name_of}
use Rattle.olap_ast.proofs.CandidatesExist.{fresh_is_one, fresh_names_exist}
use Rattle.olap_ast.proofs.ConstantLemmas.{constant_in_constraint, constant_in_question, number_in_constraint, number_in_question}
use Rattle.olap_ast.proofs.NewNames.{new_all, new_known, new_numbered, new_spells, new_text}
use Rattle.olap_ast.proofs.Shape.{seen, seen_edges, member_above, declared}
use Rattle.olap_ast.proofs.ShapeInstance.{shape_categories, shape, whole, shape_is_part, shape_instance, shape_lawful, shape_one_each, shape_root, shape_root_is, shape_reached, name_shape, listed, category_shape}
use Rattle.olap_ast.{proofs.Truth.{AsksOnly, same, NamesAgree, NumbersAgree}, specs.Atoms.{comparisons, equalities}}
use Rattle.olap_ast.specs.Constants.{IsConstant, IsFreshName, IsNameOf, new_name, numbers}
use Rattle.olap_ast.specs.Formula.{Constant.ANumber, Constant.AText, Formula, Holds, IsNumbered}
use Rattle.olap_ast.specs.Frozen.{Frozen, Candidates, AreCandidates, AreNamesOf, is_present, categories_in_order, instance_of, chosen, text_of_index, name_in, thawed, IsFrozen, IsFrozenInstance, FrozenExactlyIfSomeInstance}
use Rattle.olap_ast.specs.Schema.{Schema, IsLegal}
use Rattle.olap_numerals.{proofs.NameLemmas.has_name, specs.Numerals.number_of}
use native.Mathlib.Decide.{ℕ_discrete}
use mathlib.Core.List.{List-discrete}

-- ---- edges and names as bits and indexes

-- the edges whose bits are a test's are those that pass it
chosen_by : (t : Edge → Bool) (es : List Edge) → chosen es (map t es) ≡ filter t es
chosen_by t [] = refl
chosen_by t (e ∷ es) = ap (λ l. cond (t e) (e ∷ l) l) (chosen_by t es)

-- the place of the text among the names, or 0
index_of : List ℕ → List (List ℕ) → List ℕ → ℕ
index_of first texts name =
    elim (decide_contains (List-discrete ℕ_discrete) (first ∷ texts) name) [ yes c ↦ c.0 | no n ↦ 0 ]

-- the text at a place
text_at : (first : List ℕ) (texts : List (List ℕ)) (n : ℕ) (name : List ℕ) → n ≤ length texts →
    text_of_index first texts n ≡ get_or (first ∷ texts) n name
text_at first texts zero name h = refl
text_at first texts (suc n) name h = get_or_default texts n first name (omega arith)

-- the number is in range, and the index of the name if that is among the names
record IsIndex (first : List ℕ) (texts : List (List ℕ)) (name : List ℕ) (n : ℕ) : Type 0 where
  in_range : n ≤ length texts
  named : Contains (first ∷ texts) name → text_of_index first texts n ≡ name

-- the place of the text is such a number
index_of_is : (first : List ℕ) (texts : List (List ℕ)) (name : List ℕ) →
    IsIndex first texts name (index_of first texts name)
unfolding index_of
index_of_is first texts name = go (decide_contains (List-discrete ℕ_discrete) (first ∷ texts) name)
  where
    go : (d : Dec (Contains (first ∷ texts) name)) → IsIndex first texts name (elim d [ yes c ↦ c.0 | no n ↦ 0 ])
    go (yes c) =
        let h : c.0 ≤ length texts = let l = c.1 in omega arith in
        record { in_range = h; named = λ d. text_at first texts c.0 name h ∙ c.2 }
    go (no n) = record { in_range = omega arith; named = λ d. absurd (n d) }

-- a name of its own is among a category's names
pub among : (s : Schema) (q : Formula) (d : ℕ) (first : List ℕ) (others : List (List ℕ)) (name : List ℕ) (m : Bool) →
    AreNamesOf m s q d first others → IsNameOf m s q d name → Contains (first ∷ others) name
among s q d first others name false k (inl c) = contains_cons name others first (k.1.complete name c)
among s q d first others name false k (inr f) = rw (← fresh_is_one s q first name k.0 f) (contains_head first others)
among s q d first others name true k t = rw t.2 (has_name (numbers s q d) first others k t.0 t.1)

module _ (s : Schema) (q : Formula) (k : Candidates) (hier : IsHierarchy s.graph) (ok : AreCandidates s q k)
    (fresh : List ℕ) (is_fresh : IsFreshName s q fresh) (i : Instance) (legal : IsLegal s i) (x : ℕ)
    (hx : x < length i) where
  -- the new name of the member of a declared category, and its index
  wanted : ℕ → List ℕ → List ℕ
  wanted c name = new_name s q fresh (suc c) name

  -- the place of that name among the category's names
  place : ℕ → List ℕ → ℕ
  place c name = index_of (k.first (suc c)) (k.texts (suc c)) (wanted c name)

  -- that place where the category is in the shape, else 0
  index : ℕ → ℕ
  index c = cond (is_present (category_of i x) (seen_edges s.graph i x) (suc c))
      (place c (name_of i (member_above i x (suc c)))) 0

  -- the edges that are used above x, and the indexes of the new names
  abbrev frozen : Frozen
  frozen =
      record { edges = map (seen i x) s.graph.edges; names = map index (range_with_len 0 (length s.graph.names)) }

  -- the name that a category has there
  abbrev name : ℕ → List ℕ
  name c = name_in k frozen c

  -- a declared category's index
  names_at : (c : ℕ) → c < length s.graph.names → slice_index frozen.names c ≡ index c
  names_at c h = get_or-map-range_with_len index 0 (length s.graph.names) c c 0 h (omega arith)

  -- the shape above x, with these names
  abbrev small : Instance
  small = shape s.graph i hier legal.is_instance legal.lawful x hx name

  -- which member of the instance one of the shape is
  abbrev of_small : ℕ → ℕ
  of_small m = whole s.graph i hier legal.is_instance legal.lawful x hx name m

  -- it is the instance of the frozen dimension
  thawed_is : thawed s k (category_of i x) frozen ≡ small
  thawed_is = ap (λ es. instance_of s.graph (category_of i x) es name) (chosen_by (seen i x) s.graph.edges)

  -- the name of a declared category's member, as an index
  name_at : (c : ℕ) → Contains (shape_categories s.graph i hier legal.is_instance legal.lawful x hx) (suc c) →
      (slice_index frozen.names c ≡ place c (name_of i (member_above i x (suc c))))
  unfolding index
  name_at c h = let t = Contains-from_filter (is_present (category_of i x) (seen_edges s.graph i x))
      (categories_in_order s.graph) (suc c) h in
      names_at c (declared s.graph c t.0)
      ∙ yes_index (is_present (category_of i x) (seen_edges s.graph i x) (suc c)) t.1
    where
      yes_index : (b : Bool) → b ≡ true →
          cond b (place c (name_of i (member_above i x (suc c)))) 0
          ≡ place c (name_of i (member_above i x (suc c)))
      yes_index true e = refl
      yes_index false e = absurd (cc)

  -- a member of a number category has a numeral for its name
  numeral_at : (y : ℕ) → y < length i → IsTrue (is_number s.graph (category_of i y)) → IsSome (number_of (name_of i y))
  numeral_at y h = legal.numerals y h

  -- the name of the member of a category, in the small instance
  name_is : (c : ℕ) → Contains (shape_categories s.graph i hier legal.is_instance legal.lawful x hx) c →
      (y : ℕ) → y ≡ member_above i x c → category_of i y ≡ c → y < length i
      → name c ≡ new_name s q fresh c (name_of i y)
  unfolding place wanted
  name_is zero h y e f l = sym (legal.is_instance.all_name y ((legal.is_instance.all_is_last y l).0 f))
      ∙ sym (new_all s q fresh ok.kinds is_fresh.free 0 refl (name_of i y))
  name_is (suc c) h y e f l =
      let t = index_of_is (k.first (suc c)) (k.texts (suc c)) (wanted c (name_of i y)) in
      let n : name (suc c) ≡ text_of_index (k.first (suc c)) (k.texts (suc c)) (place c (name_of i y)) =
      ap (text_of_index (k.first (suc c)) (k.texts (suc c))) (name_at c h ∙ ap (λ z. place c (name_of i z)) (sym e)) in
      n ∙ t.named (among s q (suc c) (k.first (suc c)) (k.texts (suc c)) (wanted c (name_of i y))
      (is_number s.graph (suc c)) (ok.names c)
      (new_known s q fresh ok.kinds is_fresh.free (suc c) is_fresh (λ z. absurd (omega arith)) (name_of i y)
      (λ b. numeral_at y l (subst (λ d. IsTrue (is_number s.graph d)) (sym f) b))))

  -- the shape is a part of the instance
  the_part : IsPart i small of_small
  the_part = shape_is_part s.graph i hier legal.is_instance legal.lawful x hx name

  -- a member of the shape has the new name of its member
  the_name : (m : ℕ) → m < length small
      → name_of small m ≡ new_name s q fresh (category_of small m) (name_of i (of_small m))
  the_name m h =
      let c = category_shape s.graph i hier legal.is_instance legal.lawful x hx name m h in
      name_shape s.graph i hier legal.is_instance legal.lawful x hx name m h ∙ ap name c
      ∙ name_is (get_or (shape_categories s.graph i hier legal.is_instance legal.lawful x hx) m 0)
      (listed s.graph i hier legal.is_instance legal.lawful x hx name m h) (of_small m) refl
      (sym (the_part.category m h) ∙ c) (the_part.member m h)
      ∙ ap (λ d. new_name s q fresh d (name_of i (of_small m))) (sym c)

  -- which has a numeral for its name where its category is one of numbers
  small_numeral : (m : ℕ) → m < length small → IsTrue (is_number s.graph (category_of small m))
      → IsSome (number_of (name_of i (of_small m)))
  small_numeral m h b = numeral_at (of_small m) (the_part.member m h)
      (subst (λ c. IsTrue (is_number s.graph c)) (the_part.category m h) b)

  -- the names answer alike where texts are asked for
  names_agree : NamesAgree i small of_small (λ d text. IsConstant s q d (AText text))
  names_agree m text h t =
      let u = new_text s q fresh ok.kinds is_fresh.free (category_of small m) (name_of i (of_small m)) text t in
      (λ z. u.0 (sym (the_name m h) ∙ z), λ z. the_name m h ∙ u.1 z)

  -- and where numbers are
  numbers_agree : NumbersAgree i small of_small (λ d n. IsConstant s q d (ANumber n))
  numbers_agree m op n h t =
      let u = new_numbered s q fresh ok.kinds is_fresh.free (category_of small m) (name_of i (of_small m)) op n t
      (small_numeral m h) in (
        λ z. u.0 (subst (λ w. IsNumbered w op n) (the_name m h) z),
        λ z. subst (λ w. IsNumbered w op n) (sym (the_name m h)) (u.1 z),
      )

  -- so formulas that ask only for these have the same truths
  same_truth : (m : ℕ) → m < length small → (f : Formula) →
      AsksOnly (λ d text. IsConstant s q d (AText text)) (λ d n. IsConstant s q d (ANumber n)) (equalities f)
      (comparisons f)
      → Holds small m f ↔ Holds i (of_small m) f
  same_truth = same i small of_small (shape_is_part s.graph i hier legal.is_instance legal.lawful x hx name)
      (λ d text. IsConstant s q d (AText text)) (λ d n. IsConstant s q d (ANumber n)) names_agree numbers_agree

  -- where x meets the question, the shape is frozen for it
  small_is_frozen : Holds i x q → IsFrozenInstance s q (category_of i x) small
  small_is_frozen t =
      let p = shape_is_part s.graph i hier legal.is_instance legal.lawful x hx name in
      let r = shape_root_is s.graph i hier legal.is_instance legal.lawful x hx name in
      let a = shape_root s.graph i hier legal.is_instance legal.lawful x hx name in
      record {
        legal = record {
          is_instance = shape_instance s.graph i hier legal.is_instance legal.lawful x hx name refl;
          numerals = λ m h b. subst (λ w. IsSome (number_of w)) (sym (the_name m h))
              (new_spells s q fresh ok.kinds is_fresh.free (category_of small m) (name_of i (of_small m)) b
              (small_numeral m h b));
          lawful = shape_lawful s.graph i hier legal.is_instance legal.lawful x hx name;
          meets = λ c d m h. (same_truth m h.0 c.formula
              (constant_in_constraint s q c d, number_in_constraint s q c d)).1
              (legal.meets c d (of_small m) (p.member m h.0, sym (p.category m h.0) ∙ h.1));
        };
        one_each = shape_one_each s.graph i hier legal.is_instance legal.lawful x hx name;
        root = a;
        root_is = (r.0, r.1);
        reached = shape_reached s.graph i hier legal.is_instance legal.lawful x hx name;
        named = λ m h n. subst (λ w. IsNameOf (is_number s.graph (category_of small m)) s q (category_of small m) w)
            (sym (the_name m h))
            (new_known s q fresh ok.kinds is_fresh.free (category_of small m) is_fresh n (name_of i (of_small m))
            (small_numeral m h));
        true_at_root = (same_truth a r.0 q (constant_in_question s q, number_in_question s q)).1
            (subst (λ y. Holds i y q) (sym r.2) t);
      }

  -- and the bits and indexes are a frozen dimension
  frozen_is : Holds i x q → IsFrozen s q (category_of i x) k frozen
  unfolding index place wanted
  frozen_is t = record {
    edge_count = length-map s.graph.edges (seen i x);
    name_count = length-map-range_with_len index 0 (length s.graph.names);
    in_range = λ c h. let l : c < length s.graph.names = rw length-map-range_with_len at h in
        rw (names_at c l) (bound c (is_present (category_of i x) (seen_edges s.graph i x) (suc c))
        (index_of_is (k.first (suc c)) (k.texts (suc c)) (wanted c (name_of i (member_above i x (suc c))))));
    absent = λ c h e. let l : c < length s.graph.names = rw length-map-range_with_len at h in
        names_at c l ∙ no_index (is_present (category_of i x) (seen_edges s.graph i x) (suc c))
        (place c (name_of i (member_above i x (suc c))))
        (sym (ap (λ es. is_present (category_of i x) es (suc c)) (chosen_by (seen i x) s.graph.edges)) ∙ e);
    stands_for = subst (λ j. IsFrozenInstance s q (category_of i x) j) (sym thawed_is) (small_is_frozen t);
  }
    where
      bound : (c : ℕ) (b : Bool) →
          IsIndex (k.first (suc c)) (k.texts (suc c)) (wanted c (name_of i (member_above i x (suc c))))
          (place c (name_of i (member_above i x (suc c)))) →
          cond b (place c (name_of i (member_above i x (suc c)))) 0 ≤ length (k.texts (suc c))
      bound c true t = t.in_range
      bound c false t = omega arith

      no_index : (b : Bool) (n : ℕ) → b ≡ false → cond b n 0 ≡ 0
      no_index true n e = absurd (cc)
      no_index false n e = refl

  -- at the root's member the formulas without names have the truths that they have at x
  truths : (h : Formula) → equalities h ≡ [] → comparisons h ≡ [] → (m : ℕ) → IsMemberOf small (category_of i x) m →
      Holds small m h ↔ Holds i x h
  truths h none no_numbers m t =
      let r = shape_root_is s.graph i hier legal.is_instance legal.lawful x hx name in
      let a = shape_root s.graph i hier legal.is_instance legal.lawful x hx name in
      let e : m ≡ a = shape_one_each s.graph i hier legal.is_instance legal.lawful x hx name m a t.0 r.0
      (t.1 ∙ sym r.1) in
      let u = same_truth a r.0 h (
        (λ d text c. absurd (Contains-nil (record { category = d; text = text })
            (subst (λ l. Contains l (record { category = d; text = text })) none c))),
        (λ d n c. absurd (Contains-nil (record { category = d; number = n })
            (subst (λ l. Contains l (record { category = d; number = n })) no_numbers c))),
      ) in (
        λ z. subst (λ y. Holds i y h) r.2 (u.0 (subst (λ n. Holds small n h) e z)),
        λ z. subst (λ n. Holds small n h) (sym e) (u.1 (subst (λ y. Holds i y h) (sym r.2) z)),
      )

  -- the same of the frozen dimension's instance
  truths_thawed : (h : Formula) → equalities h ≡ [] → comparisons h ≡ [] → (m : ℕ) →
      IsMemberOf (thawed s k (category_of i x) frozen) (category_of i x) m →
      Holds (thawed s k (category_of i x) frozen) m h ↔ Holds i x h
  truths_thawed h none no_numbers = rw thawed_is (truths h none no_numbers)

-- there is one with the member's category as its root, at which the formulas without names are as true as at the member
pub frozen_alike : (s : Schema) (q : Formula) (k : Candidates) → IsHierarchy s.graph → AreCandidates s q k
    → (i : Instance) → IsLegal s i → (x : ℕ) → x < length i → Holds i x q
    → (f : Frozen) × IsFrozen s q (category_of i x) k f
    × ((h : Formula) → equalities h ≡ [] → comparisons h ≡ [] → (m : ℕ)
    → IsMemberOf (thawed s k (category_of i x) f) (category_of i x) m
    → Holds (thawed s k (category_of i x) f) m h ↔ Holds i x h)
frozen_alike s q k hier ok i l x hx t = let z = fresh_names_exist s q in (
  frozen s q k hier ok z.0 z.1 i l x hx,
  frozen_is s q k hier ok z.0 z.1 i l x hx t,
  truths_thawed s q k hier ok z.0 z.1 i l x hx,
)

-- there is a frozen dimension exactly if some legal instance has a member that meets the question
pub frozen_exactly : FrozenExactlyIfSomeInstance
frozen_exactly s q r k hier ok = (
  λ f. let t = f.1.stands_for in (thawed s k r f.0, t.legal, t.root, t.root_is, t.true_at_root),
  λ t. go t.0 t.1 t.2 t.3 t.4,
)
  where
    go : (i : Instance) → IsLegal s i → (x : ℕ) → IsMemberOf i r x → Holds i x q → (f : Frozen) × IsFrozen s q r k f
    go i l x m t =
        let z = fresh_names_exist s q in
        let e = frozen s q k hier ok z.0 z.1 i l x m.0 in
        (e, subst (λ d. IsFrozen s q d k e) m.1 (frozen_is s q k hier ok z.0 z.1 i l x m.0 t))
