-- What the calls of a builder do to its draft.
use Rattle.std.proofs.Common.{◌≡◌, ◌≢◌, ◌+◌, ◌<◌, ◌++◌, ◌∷◌, ◌∙◌, Bool, cond, true, false, Vec, Global, inl, inr, ℕ, suc, List, [], length, map, codes, get_or, slice_set, Option, Some, None, refl, sym, ap, arith}
use Rattle.std.proofs.{Math.Seq.{get_or-append_seam, map-set_same}, lemmas.Bool.Decides.eqb_tells}
use Rattle.std.proofs.lemmas.List.{get_or-map, get_or_append_left, length-append, length-map, map-append, map-set}
use Rattle.std.{proofs.lemmas.Slice.Eq.bytes_eq-Decides, specs.List.position_from}
use Rattle.std.specs.{Prelude.{IfSome, IsSome, IsTrue}, Str.bytes_eq}
use Rattle.olap_base.specs.Graph.{Graph, category_count, is_number}
use Rattle.olap_base.specs.{Instance.{Instance, Member, category_of, member_at, name_of, nobody}, Naming.place_of}
use Rattle.olap_base.specs.declared.ids.MemberId.{MemberId}
use Rattle.olap_numerals.specs.Numerals.{number_of}
use Rattle.olap_instance.proofs.{Checks.kind-at, Completing.complete-sound, DraftLemmas.{draft-complete, fresh-is}}
use Rattle.olap_instance.proofs.MembersLemmas.{length-with_parents, member_at-with_parents}
use Rattle.olap_instance.specs.DraftInside.{number_of as parent_number, parents_told}
use Rattle.olap_instance.specs.Drafts.{Draft, IsDraft, has_numbers, named_refusal, numbers_in, parents_so_far, places_of, with_member, with_parent}
use Rattle.olap_instance.specs.{Made.IsMadeFor, Members.{AreSound, all_member, childless, with_parents}, Passes.ids_in}

-- a parent that is a member has a place
pub number-inside : (p : Option MemberId) (n : ℕ) → IfSome p (λ m. m.0 < n) → IfSome (parent_number p) (λ y. y < n)
number-inside None n h = h
number-inside (Some m) n h = h

-- a member has a list of parents
pub has-list : (d : Draft) (lists : List (Vec (Option MemberId) Global)) (x : ℕ) → IsDraft d
    → d.parents ≡ parents_told lists
    → x < length d.members → x < length lists
has-list d lists x h told l = grind (arith, length-map)

-- the draft whose member x has these parents in place of its own
module _ (d : Draft) (lists : List (Vec (Option MemberId) Global)) (told : d.parents ≡ parents_told lists) (x : ℕ)
    (v : Vec (Option MemberId) Global) (l : x < length lists) (at : v ≡ get_or lists x v) where
  pub so-far : parents_so_far d x ≡ map parent_number v.items
  so-far =
      ap (λ (t : List (List (Option ℕ))). get_or t x []) told
      ∙ get_or-map (λ ps. map parent_number ps.items) lists x v [] l
      ∙ ap (λ (ps : Vec (Option MemberId) Global). map parent_number ps.items) (sym at)

  pub kept : (w : Vec (Option MemberId) Global) → w.items ≡ v.items
      → ◌≡◌ {A = Draft} (record d { parents = parents_told (slice_set lists x w) }) d
  kept w e =
      let same : map parent_number w.items ≡ map parent_number (get_or lists x v).items =
      ap (map parent_number) e ∙ ap (λ (ps : Vec (Option MemberId) Global). map parent_number ps.items) at in
      ap (λ (t : List (List (Option ℕ))). record d { parents = t })
      (map-set_same (λ ps. map parent_number ps.items) lists x w v same ∙ sym told)

  pub pushed : (w : Vec (Option MemberId) Global) (p : Option MemberId) → w.items ≡ v.items ++ p ∷ []
      → ◌≡◌ {A = Draft} (record d { parents = parents_told (slice_set lists x w) }) (with_parent d x (parent_number p))
  pushed w p e =
      let now : map parent_number w.items ≡ parents_so_far d x ++ parent_number p ∷ [] =
      ap (map parent_number) e ∙ map-append parent_number v.items (p ∷ [])
      ∙ ap (λ (t : List (Option ℕ)). t ++ parent_number p ∷ []) (sym so-far) in
      ap (λ (t : List (List (Option ℕ))). record d { parents = t })
      (map-set (λ ps. map parent_number ps.items) lists x w
      ∙ ap (λ (t : List (List (Option ℕ))). slice_set t x (map parent_number w.items)) (sym told)
      ∙ ap (slice_set d.parents x) now)

-- what differs from each id is not found
pub not-found : (x : List ℕ) (ids : List (List ℕ)) (n : ℕ) → ((k : ℕ) → k < length ids → get_or ids k [] ≢ x)
    → position_from (bytes_eq x) n ids ≡ None
not-found x [] n h = refl
not-found x (y ∷ ys) n h = by (bytes_eq x y) refl (not-found x ys (n + 1) (λ k l. h (suc k) (omega arith)))
  where
    by : (b : Bool) → bytes_eq x y ≡ b → position_from (bytes_eq x) (n + 1) ys ≡ None
        → cond b (Some n) (position_from (bytes_eq x) (n + 1) ys) ≡ None
    by true t r = absurd (h 0 (omega arith) (sym ((bytes_eq-Decides x y).0 t)))
    by false t r = r

-- a draft doesn't have `all` among its members
pub all-absent : (d : Draft) → IsDraft d → place_of (codes "all") (ids_in d.members) ≡ None
all-absent d h = not-found (codes "all") (ids_in d.members) 0 (λ k l e.
    let n = length-map d.members (λ m. m.id) in
    let i : k < length d.members = omega arith in
    h.not_all k i (sym (get_or-map (λ m. m.id) d.members k nobody [] i) ∙ e))

-- a member that isn't refused has a new id
pub member-absent : (d : Draft) (id : List ℕ) (category : ℕ) (name : List ℕ) → IsDraft d
    → named_refusal d id category name ≡ None → place_of id (ids_in d.members) ≡ None
member-absent d id category name h e = (fresh-is d h id category name e).1

-- the draft with these members and parents is the one with a new member
pub with-new : (d : Draft) (id : List ℕ) (category : ℕ) (name : List ℕ) (ms : Instance) (ps : List (List (Option ℕ)))
    → ms ≡ d.members ++ childless id category name ∷ [] → ps ≡ d.parents ++ [] ∷ []
    → ◌≡◌ {A = Draft} (record d { members = ms; parents = ps }) (with_member d id category name)
with-new d id category name ms ps em ep = rw (em, ep) refl

-- the parents of a new member are none
pub told-none : (lists now : List (Vec (Option MemberId) Global)) (v : Vec (Option MemberId) Global)
    → now ≡ lists ++ v ∷ [] → v.items ≡ []
    → parents_told now ≡ parents_told lists ++ [] ∷ []
told-none lists now v en ev = grind (arith, map-append)

-- a draft, finished
module _ (d : Draft) (h : IsDraft d) (ms : Instance) (ps : List (List ℕ)) (em : ms ≡ d.members ++ all_member ∷ [])
    (ep : ps ≡ map (places_of (length d.members)) d.parents ++ [] ∷ []) where
  pub built-sound : AreSound ms ps
  built-sound =
      rw (em, ep) (complete-sound d.members (map (places_of (length d.members)) d.parents) (draft-complete d h))

  known : 0 < d.categories → (x : ℕ) → x < length ms → (member_at ms x).category < d.categories
  known some x l = elim (eqb_tells x (length d.members)) [
    | inl t ↦
        let e : member_at ms x ≡ all_member =
        ap (λ (i : Instance). member_at i x) em ∙ ap (member_at (d.members ++ all_member ∷ [])) t.1
        ∙ get_or-append_seam d.members all_member [] nobody in
        rw e some
    | inr f ↦
        let k : x < length d.members =
        let ne = f.1 in
        let n = ap (λ (i : Instance). length i) em ∙ length-append d.members (all_member ∷ []) in
        omega arith in
        let e : member_at ms x ≡ member_at d.members x =
        ap (λ (i : Instance). member_at i x) em ∙ get_or_append_left d.members (all_member ∷ []) nobody x k in
        rw e (h.declared x k).1
  ]

  -- where names are numbers, the name is a numeral
  numeral : (g : Graph) → numbers_in g ≡ d.numbers → (x : ℕ) → x < length ms
      → IsTrue (is_number g (member_at ms x).category) → IsSome (number_of (member_at ms x).name)
  numeral g k x l t = elim (eqb_tells x (length d.members)) [
    | inl s ↦
        let e : member_at ms x ≡ all_member =
        ap (λ (i : Instance). member_at i x) em ∙ ap (member_at (d.members ++ all_member ∷ [])) s.1
        ∙ get_or-append_seam d.members all_member [] nobody in
        absurd (let z : IsTrue false = rw e at t in cc)
    | inr f ↦
        let i : x < length d.members =
        let ne = f.1 in
        let n = ap (λ (i : Instance). length i) em ∙ length-append d.members (all_member ∷ []) in
        omega arith in
        let e : member_at ms x ≡ member_at d.members x =
        ap (λ (i : Instance). member_at i x) em ∙ get_or_append_left d.members (all_member ∷ []) nobody x i in
        rw e (h.numerals x i (kind g k (category_of d.members x) (rw e at t)))
  ]
    where
      kind : (g : Graph) → numbers_in g ≡ d.numbers → (c : ℕ) → IsTrue (is_number g c) → IsTrue (has_numbers d c)
      kind g k c t = sym (ap (λ (ks : List Bool). get_or ks c false) k) ∙ kind-at g c ∙ t

  pub built-made : (g : Graph) → category_count g ≡ d.categories → numbers_in g ≡ d.numbers
      → IsMadeFor g (with_parents ms ps)
  built-made g e n = record {
    categories = λ x l.
        let k = inside x l in
        let c = ap (λ (m : Member). m.category) (at x k) in
        let i = known (let z = e in omega arith) x k in
        rw (category_of, c, e) i;
    numerals = λ x l t.
        let k = inside x l in
        let c = ap (λ (m : Member). m.category) (at x k) in
        let m = ap (λ (m : Member). m.name) (at x k) in
        rw (name_of, m) (numeral g n x k (rw (category_of, c) at t));
  }
    where
      inside : (x : ℕ) → x < length (with_parents ms ps) → x < length ms
      inside x l = let n = length-with_parents ms ps built-sound.as_many in omega arith

      at : (x : ℕ) → x < length ms
          → member_at (with_parents ms ps) x ≡ record (member_at ms x) { parents = get_or ps x [] }
      at x k = member_at-with_parents ms ps x built-sound.as_many k
