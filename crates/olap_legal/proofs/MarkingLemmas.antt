-- Steps of a marking.
use Rattle.std.proofs.Common.{◌≡◌, ◌≢◌, ℕ, ◌+◌, ◌<◌, ◌≤◌, List, [], ◌∷◌, ◌++◌, length, get_or, set, take, Bool, true, false, refl, ap, sym, subst, ◌∙◌, inl, inr, arith, length-append}
use Rattle.std.proofs.{Math.ListN.length-set, lemmas.Bool.cases_Bool}
use Rattle.std.proofs.lemmas.List.Elements.{Contains-append_left, Contains-push, Contains-push_cases, Contains-get_or}
use Rattle.std.specs.Prelude.{Contains}
use Rattle.olap_base.{proofs.ListLemmas.Contains-nil, specs.Instance.{Instance, category_of, parents_of}}
use Rattle.olap_base.specs.declared.ids.MemberId.{MemberId}
use Rattle.olap_graph.proofs.MarkLemmas.{same_marked, kept_marked, from_marked, unmarked_set, take_cases, take_before, take_last, mark_is}
use Rattle.olap_graph.specs.{Marking.unmarked_count, Tables.IsMarked}
use Rattle.olap_legal.proofs.ParentLemmas.{IsParentAt, parent_member, places, take_read, taken_fewer}
use Rattle.olap_legal.specs.{Marks.{IsPassed, IsMarking, Hits, MarkGives}, Rows.IsBounded}

-- no parent is marked
pub marking_none : (i : Instance) (c : ℕ) (marks : List Bool) (list : List ℕ) → IsMarking i c [] marks marks list list
marking_none i c marks list = record {
  same_length = refl;
  kept = λ y m. m;
  done = λ y k. absurd (Contains-nil y k);
  fresh = λ y m. inl m;
  listed = λ y k. k;
  only = λ y k. inl k;
  fewer = omega arith;
}

module _ (i : Instance) (c : ℕ) (ps : List ℕ) (k : ℕ) (before marks : List Bool) (old list : List ℕ)
    (h : k < length ps) (v : IsMarking i c (take k ps) before marks old list)
    (other : category_of i (get_or ps k 0) ≢ c) where
  -- a parent that is marked already
  pub marking_skip : IsMarked marks (get_or ps k 0) → IsMarking i c (take (k + 1) ps) before marks old list
  marking_skip m = record {
    same_length = v.same_length;
    kept = v.kept;
    done = λ y d. elim (take_cases ps k y h d) [
      | inl a ↦ v.done y a
      | inr e ↦
          subst (λ z. IsPassed i c marks z) e (other, m)
    ];
    fresh = λ y n. elim (v.fresh y n) [ inl a ↦ inl a | inr a ↦ inr (take_before ps k y h a.0, a.1) ];
    listed = v.listed;
    only = λ y d. elim (v.only y d) [ inl a ↦ inl a | inr a ↦ inr (take_before ps k y h a) ];
    fewer = v.fewer;
  }

  -- a parent that is new
  pub marking_push : get_or ps k 0 < length marks → get_or marks (get_or ps k 0) false ≡ false
      → IsMarking i c (take (k + 1) ps) before (set marks (get_or ps k 0) true) old (list ++ get_or ps k 0 ∷ [])
  marking_push l n =
      let p = get_or ps k 0 in
      record {
        same_length = length-set marks p true ∙ v.same_length;
        kept = λ y m. kept_marked marks p y l (v.kept y m);
        done = λ y d. elim (take_cases ps k y h d) [
          | inl a ↦ ((v.done y a).0, kept_marked marks p y l (v.done y a).1)
          | inr e ↦ subst (λ z. IsPassed i c (set marks p true) z) e (other, same_marked marks p l)
        ];
        fresh = λ y m. elim (from_marked marks p y m) [
          | inl a ↦ elim (v.fresh y a) [
            | inl b ↦ inl b
            | inr b ↦
                inr (take_before ps k y h b.0, Contains-append_left list (p ∷ []) y b.1)
          ]
          | inr e ↦
              inr (
                subst (λ z. Contains (take (k + 1) ps) z) (sym e) (take_last ps k h),
                subst (λ z. Contains (list ++ p ∷ []) z) (sym e) (Contains-push list p),
              )
        ];
        listed = λ y d. Contains-append_left list (p ∷ []) y (v.listed y d);
        only = λ y d. elim (Contains-push_cases list p y d) [
          | inl a ↦ elim (v.only y a) [ inl b ↦ inl b | inr b ↦ inr (take_before ps k y h b) ]
          | inr e ↦ inr (subst (λ z. Contains (take (k + 1) ps) z) e (take_last ps k h))
        ];
        fewer = let u = unmarked_set marks p l n in let f = v.fewer in omega (arith, length-append list (p ∷ []));
      }

-- what the code does at the k-th parent, which isn't of the category c
module _ {i : Instance} {z k c : ℕ} {m : MemberId} (at : IsParentAt i z k m) {before marks : List Bool}
    {old list : List ℕ} (v : IsMarking i c (take k (parents_of i z)) before marks old list)
    (size : length before ≡ length i) where
  -- the parent has a place among the marks
  pub mark_inside : m.0 < length marks
  mark_inside = let h = parent_member at in omega (arith, v.same_length, size, h)

  module _ (category : ℕ) (category_is : category ≡ category_of i m.0) (other : category ≢ c) (r : Bool)
      (r_is : r ≡ get_or marks m.0 r) where
    -- the parent that is read is not of the category
    apart : category_of i (get_or (parents_of i z) k 0) ≢ c
    apart e = other (category_is ∙ ap (category_of i) at.is ∙ e)

    -- the mark of the parent that is read
    mark_of : (b : Bool) → r ≡ b → get_or marks (get_or (parents_of i z) k 0) false ≡ b
    mark_of b e = ap (λ j. get_or marks j false) (sym at.is) ∙ mark_is marks m.0 r b mark_inside r_is e

    -- it is not marked yet
    pub marking_pushed : r ≡ false
        → IsMarking i c (take (k + 1) (parents_of i z)) before (set marks m.0 true) old (list ++ m.0 ∷ [])
    marking_pushed e =
        let inside = subst (λ j. j < length marks) at.is mark_inside in
        let t = marking_push i c (parents_of i z) k before marks old list at.inside v apart inside (mark_of false e) in
        rw at.is t

    -- it is marked
    pub marking_skipped : r ≡ true → IsMarking i c (take (k + 1) (parents_of i z)) before marks old list
    marking_skipped e = marking_skip i c (parents_of i z) k before marks old list at.inside v apart (mark_of true e)

-- a parent of the category
pub parent_hits : {i : Instance} {z k : ℕ} (c : ℕ) {m : MemberId} → IsParentAt i z k m → category_of i m.0 ≡ c
    → Hits i c (parents_of i z)
parent_hits {i} {z} {k} c at e = record {
  hit = get_or (parents_of i z) k 0;
  is_parent = Contains-get_or (parents_of i z) k 0 at.inside;
  category = ap (category_of i) (sym at.is) ∙ e;
}

-- all parents are marked
pub marked_all : {i : Instance} {k c : ℕ} {before marks : List Bool} {old list : List ℕ} (z : ℕ) (ids : List MemberId)
    → places ids ≡ parents_of i z → length ids ≤ k → IsMarking i c (take k (parents_of i z)) before marks old list
    → MarkGives true i c (parents_of i z) before marks old list
marked_all {i} {k} {c} {before} {marks} {old} {list} z ids e h v = record {
  marked = λ _. subst (λ l. IsMarking i c l before marks old list) (take_read i z k ids e h) v;
  hit = λ q. absurd (cc);
}

-- a parent is of the category
pub hit_one : {i : Instance} {c : ℕ} {ps : List ℕ} {before marks : List Bool} {old list : List ℕ} → Hits i c ps
    → MarkGives false i c ps before marks old list
hit_one m = record { marked = λ q. absurd (cc); hit = λ _. m }

-- marking one that is taken off the list uses places up
pub marking_smaller : {i : Instance} {c : ℕ} {ps : List ℕ} {marks after : List Bool} {list new : List ℕ} (rest : List ℕ)
    (z : ℕ) → list ≡ rest ++ z ∷ [] → IsMarking i c ps marks after rest new
    → unmarked_count after + length new < unmarked_count marks + length list
marking_smaller rest z e v = let f = v.fewer in omega (arith, taken_fewer rest z e)

-- no member is of the category n, so each marking is whole
pub whole_marking : {i : Instance} {n : ℕ} {b : Bool} {before after : List Bool} {old new : List ℕ} (z : ℕ)
    → IsBounded i n → MarkGives b i n (parents_of i z) before after old new
    → IsMarking i n (parents_of i z) before after old new
whole_marking {i} {n} {b} z bounded m = elim (cases_Bool b) [ inl e ↦ m.marked e | inr e ↦ absurd (none (m.hit e)) ]
  where
    none : Hits i n (parents_of i z) → ⊥
    none h =
        let c = bounded.categories h.hit (bounded.places z h.hit h.is_parent) in
        let e = h.category in omega (arith, c, e)
