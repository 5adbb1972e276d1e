-- Instances in the making.
use Rattle.std.proofs.Common.{rules, ◌≡◌, ◌≢◌, ◌+◌, ◌<◌, ◌≤◌, ◌==◌, ◌||◌, ◌++◌, ◌∷◌, ◌∙◌, ◌⊎◌, inl, inr, false, ℕ, zero, suc, List, [], length, map, codes, get_or, Option, Some, None, refl, sym, ap, arith}
use Rattle.std.proofs.{Math.Seq.get_or-append_seam, lemmas.Bool.{or_parts, cases_lt}, lemmas.Bool.Decides.eqb_tells}
use Rattle.std.proofs.lemmas.List.{get_or-map, get_or-set_other, get_or-set_same, get_or_append_left, length-append, length-map, length-set}
use Rattle.std.proofs.lemmas.List.{Elements.Contains-push_cases, Quantifiers.all_pairs_push}
use Rattle.std.{proofs.lemmas.Slice.Eq.bytes_eq-Decides, specs.List.list_any}
use Rattle.std.specs.{Prelude.{Contains, IfSome, IsTrue, is_some, unwrap_or, nat_le}, Str.{bytes_eq, is_utf8}}
use Rattle.olap_base.proofs.GeneralLemmas.{not_zero, none_from_is_some}
use Rattle.olap_base.proofs.ListLemmas.{AllPairs-from_Distinct, Contains-from_map, Distinct-from_AllPairs, Distinct-map}
use Rattle.olap_base.specs.{Bytes.semicolon, Graph.{Graph, IsHierarchy}}
use Rattle.olap_base.specs.{Instance.{Instance, Member, category_of, member_at, name_of, nobody}, Limits.most_members}
use Rattle.olap_base.specs.Naming.{place_of}
use Rattle.olap_instance.proofs.{Checks.{absent-at, else-none, good-number, within}, Completing.AreComplete}
use Rattle.olap_instance.specs.Drafts.{Draft, HasParent, IsDraft, has_numbers, named_refusal, no_members, parents_so_far, places_of, with_member, with_parent}
use Rattle.olap_instance.specs.{InstanceText.{is_bad_id, is_bad_number, is_too_long}, Members.{IsMemberId, childless}}
use Rattle.olap_instance.specs.Passes.{ids_in}

-- a draft without members
pub draft-none : (g : Graph) → IsHierarchy g → IsDraft (no_members g)
draft-none g h = search rules

-- what is past the end of a list of lists is empty
past-end : (xs : List (List (Option ℕ))) (x : ℕ) → length xs ≤ x → get_or xs x [] ≡ []
past-end [] x l = refl
past-end (y ∷ ys) zero l = absurd (omega arith)
past-end (y ∷ ys) (suc x) l = past-end ys x (omega arith)

-- ---- one member more

-- a member that isn't refused: what its id, its category and its name are
record IsAccepted (d : Draft) (id : List ℕ) (category : ℕ) (name : List ℕ) : Type 0 where
  good : is_bad_id id ≡ false
  short : is_too_long id ≡ false
  declared : (category == 0) ≡ false
  numeral : is_bad_number (has_numbers d category) name ≡ false
  fresh : (bytes_eq id (codes "all") || is_some (place_of id (ids_in d.members))) ≡ false
  room : nat_le most_members (length d.members + 1) ≡ false

-- what the refusal tells if there is none
accepted : (d : Draft) (id : List ℕ) (category : ℕ) (name : List ℕ) → named_refusal d id category name ≡ None
    → IsAccepted d id category name
accepted d id category name e = grind (arith, else-none)

module _ (d : Draft) (h : IsDraft d) (id : List ℕ) (category : ℕ) (name : List ℕ)
    (passes : named_refusal d id category name ≡ None) where
  abbrev new : Member
  new = childless id category name

  abbrev more : Instance
  more = d.members ++ new ∷ []

  ok : IsAccepted d id category name
  ok = accepted d id category name passes

  pub fresh-is : (bytes_eq id (codes "all") ≡ false) × (place_of id (ids_in d.members) ≡ None)
  fresh-is =
      let n = or_parts (bytes_eq id (codes "all")) (is_some (place_of id (ids_in d.members))) ok.fresh in
      (n.0, none_from_is_some (place_of id (ids_in d.members)) n.1)

  old-at : (x : ℕ) → x < length d.members → member_at more x ≡ member_at d.members x
  old-at x l = get_or_append_left d.members (new ∷ []) nobody x l

  new-at : member_at more (length d.members) ≡ new
  new-at = get_or-append_seam d.members new [] nobody

  old-or-new : (x : ℕ) → x < length more → (x < length d.members) ⊎ (x ≡ length d.members)
  old-or-new x l = let n = length-append d.members (new ∷ []) in
      elim (eqb_tells x (length d.members)) [ inl t ↦ inr t.1 | inr f ↦ let ne = f.1 in inl (omega arith) ]

  old-id : (x : ℕ) → x < length d.members → (member_at more x).id ≡ (member_at d.members x).id
  old-id x l = ap (λ (m : Member). m.id) (old-at x l)

  new-id : (x : ℕ) → x ≡ length d.members → (member_at more x).id ≡ id
  new-id x e = rw e (ap (λ (m : Member). m.id) new-at)

  -- no old member has the new id
  not-new : (x : ℕ) → x < length d.members → (member_at d.members x).id ≢ id
  not-new x l e =
      let n = length-map d.members (λ m. m.id) in
      let at : get_or (ids_in d.members) x [] ≡ (member_at d.members x).id =
      get_or-map (λ m. m.id) d.members x nobody [] l in
      absent-at id (ids_in d.members) 0 x fresh-is.1 (omega arith) (at ∙ e)

  old-parents : (x : ℕ) → get_or (d.parents ++ [] ∷ []) x [] ≡ get_or d.parents x []
  old-parents x = elim (cases_lt x (length d.parents)) [
    | inl l ↦ get_or_append_left d.parents ([] ∷ []) [] x l
    | inr l ↦ by d.parents x l
  ]
    where
      by : (ps : List (List (Option ℕ))) (x : ℕ) → length ps ≤ x → get_or (ps ++ [] ∷ []) x [] ≡ get_or ps x []
      by [] zero l = refl
      by [] (suc x) l = refl
      by (p ∷ ps) zero l = absurd (omega arith)
      by (p ∷ ps) (suc x) l = by ps x (omega arith)

  differ : (x y : ℕ) → x < length more → y < length more → (member_at more x).id ≡ (member_at more y).id → x ≡ y
  differ x y lx ly e = elim (old-or-new x lx) [
    | inl a ↦ elim (old-or-new y ly) [
      | inl b ↦ h.ids_differ x y a b (sym (old-id x a) ∙ e ∙ old-id y b)
      | inr b ↦ absurd (not-new x a (sym (old-id x a) ∙ e ∙ new-id y b))
    ]
    | inr a ↦ elim (old-or-new y ly) [
      | inl b ↦ absurd (not-new y b (sym (old-id y b) ∙ sym e ∙ new-id x a))
      | inr b ↦ a ∙ sym b
    ]
  ]

  not-all : (x : ℕ) → x < length more → (member_at more x).id ≢ codes "all"
  not-all x l e = elim (old-or-new x l) [
    | inl a ↦ h.not_all x a (sym (old-id x a) ∙ e)
    | inr a ↦ let t = (bytes_eq-Decides id (codes "all")).1 (sym (new-id x a) ∙ e) in cc (t, fresh-is.0)
  ]

  pub draft-member : category < d.categories → IsTrue (is_utf8 id) → IsTrue (is_utf8 name)
      → IsDraft (with_member d id category name)
  draft-member known text1 text2 = record {
    kinds_known = h.kinds_known;
    numerals = λ x l. elim (old-or-new x l) [
      | inl a ↦ rw (category_of, name_of, old-at x a) (h.numerals x a)
      | inr a ↦ rw (category_of, name_of, a, new-at) (good-number (has_numbers d category) name ok.numeral)
    ];
    as_many =
        let a = length-append d.members (new ∷ []) in
        let b = length-append d.parents ([] ∷ []) in
        let e = h.as_many in
        omega arith;
    few = let a = length-append d.members (new ∷ []) in let f = below-limit (length d.members) ok.room in omega arith;
    ids_differ = differ;
    not_all = not-all;
    declared = λ x l. elim (old-or-new x l) [
      | inl a ↦ rw (category_of, old-at x a) (h.declared x a)
      | inr a ↦ rw (category_of, a, new-at) (not_zero category ok.declared, known)
    ];
    texts = λ x l. elim (old-or-new x l) [
      | inl a ↦ rw (old-at x a) (h.texts x a)
      | inr a ↦ rw (a, new-at) good-texts
    ];
    parents_are_members = λ x y c.
        let n = length-append d.members (new ∷ []) in
        let old = h.parents_are_members x y (rw (old-parents x) at c) in
        omega arith;
    parents_differ = λ x. rw (old-parents x) (h.parents_differ x);
  }
    where
      below-limit : (n : ℕ) → nat_le most_members (n + 1) ≡ false → n + 2 ≤ most_members
      below-limit n e = grind arith

      good-texts : IsMemberId id × IsTrue (is_utf8 name)
      good-texts =
          let b = or_parts (length id == 0) (list_any (λ b. b == semicolon) id) ok.good in
          let id-good : IsMemberId id =
          record { utf8 = text1; short = within (length id) ok.short; filled = not_zero (length id) b.0; whole = b.1 }
          in
          (id-good, text2)

-- ---- one parent more

module _ (d : Draft) (h : IsDraft d) (x : ℕ) (l : x < length d.members) (p : Option ℕ) where
  in-parents : x < length d.parents
  in-parents = let e = h.as_many in omega arith

  parents-now : (y : ℕ) → (y ≡ x → ⊥) → parents_so_far (with_parent d x p) y ≡ parents_so_far d y
  parents-now y n = get_or-set_other d.parents x y (parents_so_far d x ++ p ∷ []) [] n

  parents-here : parents_so_far (with_parent d x p) x ≡ parents_so_far d x ++ p ∷ []
  parents-here = get_or-set_same d.parents x (parents_so_far d x ++ p ∷ []) [] in-parents

  pub draft-parent : IfSome p (λ y. y < length d.members) → (HasParent d x p → ⊥) → IsDraft (with_parent d x p)
  draft-parent inside absent = record {
    kinds_known = h.kinds_known;
    numerals = h.numerals;
    as_many = h.as_many ∙ sym (length-set d.parents x (parents_so_far d x ++ p ∷ []));
    few = h.few;
    ids_differ = h.ids_differ;
    not_all = h.not_all;
    declared = h.declared;
    texts = h.texts;
    parents_are_members = λ y z c. elim (eqb_tells y x) [
      | inl t ↦ here z (rw (t.1, parents-here) at c)
      | inr f ↦ h.parents_are_members y z (rw (parents-now y f.1) at c)
    ];
    parents_differ = λ y. elim (eqb_tells y x) [
      | inl t ↦ rw (t.1, parents-here)
          (all_pairs_push ◌≢◌ (parents_so_far d x) p (h.parents_differ x)
          (λ k e lk s. absent (k, lk, any-default (parents_so_far d x) k p e lk ∙ s)))
      | inr f ↦ rw (parents-now y f.1) (h.parents_differ y)
    ];
  }
    where
      any-default : (xs : List (Option ℕ)) (j : ℕ) (d e : Option ℕ) → j < length xs → get_or xs j d ≡ get_or xs j e
      any-default [] j d e l = absurd (omega arith)
      any-default (x ∷ xs) zero d e l = refl
      any-default (x ∷ xs) (suc j) d e l = any-default xs j d e (omega arith)

      some : (q : Option ℕ) (z : ℕ) → IfSome q (λ y. y < length d.members) → q ≡ Some z → z < length d.members
      some None z i e = cc e
      some (Some y) z i e = let s : y ≡ z = cc in omega (arith, i)

      here : (z : ℕ) → Contains (parents_so_far d x ++ p ∷ []) (Some z) → z < length d.members
      here z c = elim (Contains-push_cases (parents_so_far d x) p (Some z) c) [
        | inl a ↦ h.parents_are_members x z a
        | inr e ↦ some p z inside e
      ]

-- ---- the end

module _ (d : Draft) (h : IsDraft d) where
  place-of-parent : (p : Option ℕ) (y : ℕ) → unwrap_or p (length d.members) ≡ y
      → ((z : ℕ) → p ≡ Some z → z < length d.members) → y ≤ length d.members
  place-of-parent None y e inside = omega arith
  place-of-parent (Some z) y e inside = let k = inside z refl in omega arith

  same-parent : (p q : Option ℕ) → ((z : ℕ) → p ≡ Some z → z < length d.members)
      → ((z : ℕ) → q ≡ Some z → z < length d.members)
      → unwrap_or p (length d.members) ≡ unwrap_or q (length d.members) → p ≡ q
  same-parent None None i j e = refl
  same-parent None (Some z) i j e = let k = j z refl in absurd (omega arith)
  same-parent (Some z) None i j e = let k = i z refl in absurd (omega arith)
  same-parent (Some y) (Some z) i j e = ap Some e

  parents-at : (x : ℕ) → x < length d.members
      → get_or (map (places_of (length d.members)) d.parents) x [] ≡ places_of (length d.members) (parents_so_far d x)
  parents-at x l = let e = h.as_many in get_or-map (places_of (length d.members)) d.parents x [] [] (omega arith)

  -- a draft lacks nothing but `all`
  pub draft-complete : AreComplete d.members (map (places_of (length d.members)) d.parents)
  draft-complete = record {
    as_many = h.as_many ∙ sym (length-map d.parents (places_of (length d.members)));
    few = let f = h.few in omega arith;
    ids_differ = h.ids_differ;
    not_all = h.not_all;
    declared = λ x l. (h.declared x l).0;
    texts = h.texts;
    parents_inside = λ x y l c.
        let k = Contains-from_map (λ p. unwrap_or p (length d.members)) (parents_so_far d x) y
        (rw (parents-at x l) at c) in
        place-of-parent k.0 y k.2 (λ z e. h.parents_are_members x z (rw e at k.1));
    parents_differ = λ x l.
        rw (parents-at x l) (AllPairs-from_Distinct (places_of (length d.members) (parents_so_far d x))
        (Distinct-map (λ p. unwrap_or p (length d.members)) (parents_so_far d x)
        (Distinct-from_AllPairs (parents_so_far d x) (h.parents_differ x))
        (λ p q cp cq e. same-parent p q (λ z s. h.parents_are_members x z (rw s at cp))
        (λ z s. h.parents_are_members x z (rw s at cq)) e)));
  }
