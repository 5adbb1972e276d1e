-- Tables: their places, and what joining a summary leaves.
--     places_start, _add, _skip, _done     places, member by member
--     ids_more, ids_taken, id_in, id_fresh   categories one by one
use Rattle.std.proofs.Common.{rules, ◌≡◌, ◌≢◌, ℕ, ◌+◌, ◌<◌, List, [], ◌∷◌, ◌++◌, length, get_or, set, take, map, Bool, true, false, ◌&&◌, ◌||◌, refl, ap, sym, subst, ◌∙◌, arith, Option, Some, None, get_or-set_same, get_or-set_other}
use Rattle.std.proofs.lemmas.{Bool.{eqb-true, eq-eqb}, Grind.common_steps}
use Rattle.std.proofs.lemmas.List.{get_or-map, get_or-take, get_or_default, length-map, length-set, length-take-le, map-append, take-map, take_more}
use Rattle.std.{proofs.lemmas.List.Folds.list_any-append, specs.List.list_any, specs.Option.option_map}
use Rattle.std.specs.Prelude.{◌==◌, Contains, AllPairs}
use Rattle.olap_base.proofs.{GeneralLemmas.or_false, ListLemmas.{Contains-map, list_any_is}, TotalLemmas.⊕_none}
use Rattle.olap_base.specs.{Instance.{Instance, ReachesCategory, category_of}, Reaching.{reaches, reaches_is}}
use Rattle.olap_base.specs.{Summaries.{Summary, ◌⊕◌}, Views.View, declared.ids.CatId.CatId}
use Rattle.olap_legal.specs.Ancestors.{IsAncestor}
use Rattle.olap_view.specs.Seen.{each_view_of, ids, summary_of, view_of}
use Rattle.olap_view.specs.Tables.{AreJoined, AreJoinedIn, HasPlaces, IsAmong, JoinedSoFar, PlacesSoFar, categories_of, place_in, summary_at, when}
use Rattle.olap_view.specs.declared.tables.Table.{Table}
use native.Mathlib.Decide.{ℕ_discrete}
use Rattle.olap_view.specs.declared.summaries.Summary as told
use Rattle.olap_view.specs.declared.views.View as told_view

-- ---- places

-- no member has a place yet
pub places_start : (i : Instance) (cs places : List ℕ) → length places ≡ length i → PlacesSoFar i cs 0 0 places
places_start i cs places e = search rules

module _ (i : Instance) (cs : List ℕ) (n k : ℕ) (places : List ℕ) (p : PlacesSoFar i cs n k places) where
  -- the next member gets the next place
  pub places_add : n < length i → PlacesSoFar i cs (n + 1) (k + 1) (set places n k)
  places_add h = record {
    size = length-set places n k ∙ p.size;
    few = let f = p.few in omega arith;
    inside = λ y l c. elim (ℕ_discrete y n) [
      | yes e ↦ let q = here y e in omega arith
      | no m ↦ let q = there y m in let b : y < n = omega arith in let f = p.inside y b c in omega arith
    ];
    apart = λ y z l m c d e. elim (ℕ_discrete y n) [
      | yes q ↦ elim (ℕ_discrete z n) [
        | yes r ↦ q ∙ sym r
        | no r ↦ let b : z < n = omega arith in let f = p.inside z b d in let s = here y q in let t = there z r in
            absurd (omega arith)
      ]
      | no q ↦ elim (ℕ_discrete z n) [
        | yes r ↦ let b : y < n = omega arith in let f = p.inside y b c in let s = here z r in let t = there y q in
            absurd (omega arith)
        | no r ↦ p.apart y z (omega arith) (omega arith) c d (sym (there y q) ∙ e ∙ there z r)
      ]
    ];
  }
    where
      size : n < length places
      size = let s = p.size in omega arith

      here : (y : ℕ) → y ≡ n → get_or (set places n k) y 0 ≡ k
      here y e = subst (λ z. get_or (set places n k) z 0 ≡ k) (sym e) (let s = size in rw get_or-set_same refl)

      there : (y : ℕ) → y ≢ n → get_or (set places n k) y 0 ≡ get_or places y 0
      there y m = rw get_or-set_other refl

  -- the next member, of another category, gets none
  pub places_skip : (Contains cs (category_of i n) → ⊥) → PlacesSoFar i cs (n + 1) k places
  places_skip m = record {
    size = p.size;
    few = let f = p.few in omega arith;
    inside = λ y l c. elim (ℕ_discrete y n) [
      | yes e ↦ absurd (m (subst (λ z. Contains cs (category_of i z)) e c))
      | no q ↦ p.inside y (omega arith) c
    ];
    apart = λ y z l h c d e. elim (ℕ_discrete y n) [
      | yes q ↦ absurd (m (subst (λ z. Contains cs (category_of i z)) q c))
      | no q ↦ elim (ℕ_discrete z n) [
        | yes r ↦ absurd (m (subst (λ w. Contains cs (category_of i w)) r d))
        | no r ↦ p.apart y z (omega arith) (omega arith) c d e
      ]
    ];
  }

-- ---- joining in one category

-- two tests of which not both hold
no_test : (a b : Bool) → (a ≡ true → b ≡ true → ⊥) → (a && b) ≡ false
no_test true true f = absurd (f refl refl)
no_test true false f = refl
no_test false b f = refl

-- a test that fails joins nothing
nothing_more : (o : Option Summary) (b : Bool) (s : Summary) → b ≡ false → o ≡ o ⊕ when b s
nothing_more o b s e = sym (⊕_none o) ∙ ap (λ t. o ⊕ when t s) (sym e)

module _ (i : Instance) (c x : ℕ) (s : Summary) (before : Table) (p : HasPlaces i before)
    (k : Contains (categories_of before) c) where
  -- joined where a member is reached
  pub joined_some : (y : ℕ) (o : Option told.Summary) (after : Table) → IsAncestor i x c y
      → after.categories ≡ before.categories → after.places ≡ before.places
      → after.summaries.items ≡ set before.summaries.items (place_in before y) o
      → option_map summary_of o ≡ summary_at before y ⊕ Some s → AreJoinedIn i c x s before after
  joined_some y o after a e f g h = record {
    same_categories = e;
    same_places = f;
    same_length = ap length g ∙ length-set before.summaries.items (place_in before y) o;
    at = λ z m. at z m (ℕ_discrete z y);
  }
    where
      among : IsAmong i (categories_of before) y
      among = record {
        member = a.is_member.0;
        category = subst (Contains (categories_of before))
            (sym a.is_member.1) k;
      }

      inside : place_in before y < length before.summaries.items
      inside = p.inside y among

      seen : (z : ℕ) → summary_at after z
          ≡ option_map summary_of (get_or (set before.summaries.items (place_in before y) o) (place_in before z) None)
      seen z = ap (λ q. option_map summary_of (get_or after.summaries.items (get_or q.items z 0) None)) f
          ∙ ap (λ l. option_map summary_of (get_or l (place_in before z) None)) g

      here : get_or (set before.summaries.items (place_in before y) o) (place_in before y) None ≡ o
      here = let q = inside in rw get_or-set_same refl

      there : (w : ℕ) → w ≢ place_in before y
          → get_or (set before.summaries.items (place_in before y) o) w None ≡ get_or before.summaries.items w None
      there w n = rw get_or-set_other refl

      tested : (category_of i y == c && reaches i x y) ≡ true
      tested = ap (λ b. b && reaches i x y) (eq-eqb (category_of i y) c a.is_member.1)
          ∙ (reaches_is i x y).1 a.reached

      at : (z : ℕ) → IsAmong i (categories_of before) z → Dec (z ≡ y)
          → summary_at after z ≡ summary_at before z ⊕ when (category_of i z == c && reaches i x z) s
      at z m (yes q) = subst (λ w. summary_at after w ≡ summary_at before w ⊕ when
          (category_of i w == c && reaches i x w) s)
          (sym q) (seen y ∙ ap (option_map summary_of) here ∙ h ∙ ap (λ b. summary_at before y ⊕ when b s) (sym tested))
      at z m (no n) = seen z
          ∙ ap (option_map summary_of) (there (place_in before z) (λ q. n (p.apart z y m among q)))
          ∙ nothing_more (summary_at before z) (category_of i z == c && reaches i x z) s
          (no_test (category_of i z == c) (reaches i x z)
          (λ u v. n (a.only z (m.member, eqb-true (category_of i z) c u) ((reaches_is i x z).0 v))))

  -- nothing is joined where none is
  pub joined_none : (ReachesCategory i x c → ⊥) → AreJoinedIn i c x s before before
  joined_none n = record {
    same_categories = refl;
    same_places = refl;
    same_length = refl;
    at = λ z m. nothing_more (summary_at before z) (category_of i z == c && reaches i x z) s
        (no_test (category_of i z == c) (reaches i x z)
        (λ u v. n (z, (m.member, eqb-true (category_of i z) c u), (reaches_is i x z).0 v)));
  }

-- ---- joining in all categories

-- a category of the list is found in it
any_is : (d : ℕ) (cs : List ℕ) → Contains cs d → list_any (λ e. d == e) cs ≡ true
any_is d cs k = (list_any_is (λ e. d == e) cs).1 (d, k, eq-eqb d d refl)

-- what is found is in the list
any_from : (d : ℕ) (cs : List ℕ) → list_any (λ e. d == e) cs ≡ true → Contains cs d
any_from d cs e = let t = (list_any_is (λ e. d == e) cs).0 e in subst (Contains cs) (sym (eqb-true d t.0 t.2)) t.1

-- what isn't in the list isn't found
pub none_before : (d : ℕ) (cs : List ℕ) → (Contains cs d → ⊥) → list_any (λ e. d == e) cs ≡ false
none_before d cs n = grind (arith, any_from)

-- joined in no category yet
pub so_far_start : (i : Instance) (x : ℕ) (s : Summary) (before : Table) → JoinedSoFar i [] x s before before
so_far_start i x s before = search ⊕_none

module _ (i : Instance) (done : List ℕ) (c x : ℕ) (s : Summary) (before between : Table)
    (j : JoinedSoFar i done x s before between) (new : Contains done c → ⊥) where
  -- a member of c isn't touched yet
  pub untouched : (y : ℕ) → IsAmong i (categories_of before) y → category_of i y ≡ c
      → summary_at between y ≡ summary_at before y
  untouched y m e = j.at y m
      ∙ ap (λ b. summary_at before y ⊕ when (b && reaches i x y) s)
      (none_before (category_of i y) done (λ k. new (subst (Contains done) e k)))
      ∙ ⊕_none (summary_at before y)

  -- joined in one category more
  pub so_far_step : (after : Table) → AreJoinedIn i c x s between after
      → JoinedSoFar i (done ++ c ∷ []) x s before after
  so_far_step after a = record {
    same_categories = a.same_categories ∙ j.same_categories;
    same_places = a.same_places ∙ j.same_places;
    same_length = a.same_length ∙ j.same_length;
    at = λ y m. a.at y (record {
      member = m.member;
      category =
          subst (λ l. Contains l (category_of i y)) (sym (ap (λ l. map (λ d. d.0) l.items) j.same_categories))
          m.category;
    })
        ∙ go y m (category_of i y == c) refl
        ∙ ap (λ b. summary_at before y ⊕ when (b && reaches i x y) s)
        (sym (list_any-append (λ d. category_of i y == d) done (c ∷ [])));
  }
    where
      go : (y : ℕ) → IsAmong i (categories_of before) y → (b : Bool) → (category_of i y == c) ≡ b
          → summary_at between y ⊕ when (category_of i y == c && reaches i x y) s
          ≡ summary_at before y ⊕ when
          ((list_any (λ d. category_of i y == d) done || list_any (λ d. category_of i y == d) (c ∷ []))
          && reaches i x y) s
      go y m true e =
          let q = eqb-true (category_of i y) c e in
          let n = none_before (category_of i y) done (λ k. new (subst (Contains done) q k)) in
          ap (λ o. o ⊕ when (category_of i y == c && reaches i x y) s) (untouched y m q)
          ∙ ap (λ b. summary_at before y ⊕ when (b && reaches i x y) s)
          (sym (ap (λ t. t || list_any (λ d. category_of i y == d) (c ∷ [])) n ∙ or_false (category_of i y == c)))
      go y m false e =
          ap (λ b. summary_at between y ⊕ when (b && reaches i x y) s) e
          ∙ ⊕_none (summary_at between y) ∙ j.at y m
          ∙ ap (λ b. summary_at before y ⊕ when (b && reaches i x y) s)
          (sym (ap (λ t. list_any (λ d. category_of i y == d) done || (t || false)) e
          ∙ or_false (list_any (λ d. category_of i y == d) done)))

-- joined in all categories
pub joined_all : (i : Instance) (x : ℕ) (s : Summary) (before after : Table)
    → JoinedSoFar i (categories_of before) x s before after → AreJoined i x s before after
joined_all i x s before after j = grind (arith, common_steps, any_is)

-- ---- what is as large has the same places

-- a table as large, with the same places
pub places_kept : (i : Instance) (before after : Table) → after.categories ≡ before.categories
    → after.places ≡ before.places → length after.summaries.items ≡ length before.summaries.items
    → HasPlaces i before → HasPlaces i after
places_kept i before after e f g p = search rules

-- ---- categories one by one

-- a list without repeats doesn't have its k-th item before it
not_before : (xs : List ℕ) (k : ℕ) → AllPairs ◌≢◌ xs → k < length xs → Contains (take k xs) (get_or xs k 0) → ⊥
not_before xs k a h c =
    let size : length (take k xs) ≡ k = length-take-le k xs (omega arith) in
    let before : c.0 < k = omega (arith, c.1) in
    let same : get_or xs c.0 (get_or xs k 0) ≡ get_or xs k (get_or xs k 0) =
    sym (get_or-take k xs c.0 (get_or xs k 0) before) ∙ c.2 ∙ get_or_default xs k 0 (get_or xs k 0) h in
    a c.0 k (get_or xs k 0) before h same

module _ (cs : List CatId) (k : ℕ) (c : CatId) (h : k < length cs) (e : c ≡ get_or cs k c) where
  -- the first categories with one more
  pub ids_more : ids (take (k + 1) cs) ≡ ids (take k cs) ++ c.0 ∷ []
  ids_more = ap ids (take_more cs k c h) ∙ map-append (λ (d : CatId). d.0) (take k cs) (get_or cs k c ∷ [])
      ∙ ap (λ (d : CatId). ids (take k cs) ++ d.0 ∷ []) (sym e)

  -- the k-th is one of them
  pub id_in : Contains (ids cs) c.0
  id_in = Contains-map (λ (d : CatId). d.0) cs c (k, h, sym e)

  -- its number stands at its place
  id_at : get_or (ids cs) k 0 ≡ c.0
  id_at = get_or-map (λ (d : CatId). d.0) cs k c 0 h ∙ ap (λ (d : CatId). d.0) (sym e)

  -- it isn't among those before it
  pub id_fresh : AllPairs ◌≢◌ (ids cs) → Contains (ids (take k cs)) c.0 → ⊥
  id_fresh a m = not_before (ids cs) k a (simp length-map h)
      (subst (λ (l : List ℕ). Contains l (get_or (ids cs) k 0)) (sym (take-map (λ (d : CatId). d.0) k cs))
      (subst (λ (d : ℕ). Contains (ids (take k cs)) d) (sym id_at) m))

-- the view of one category more
pub views_more : (h : ℕ → View ℕ ℕ) (views : List told_view.View) (v : told_view.View) (cs : List CatId) (k : ℕ)
    (c : CatId)
    → k < length cs → c ≡ get_or cs k c → each_view_of views ≡ map h (ids (take k cs)) → view_of v ≡ h c.0
    → each_view_of (views ++ v ∷ []) ≡ map h (ids (take (k + 1) cs))
views_more h views v cs k c l e o s = grind (arith, common_steps, map-append)
