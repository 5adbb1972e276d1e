-- The fields of a record that name members, from left to right, and the records of a text.
use Rattle.std.proofs.Common.{◌≡◌, ◌↔◌, ℕ, suc, ◌+◌, ◌<◌, ◌≤◌, Bor, List, [], ◌∷◌, ◌++◌, length, get_or, map, drop, Bool, true, IsTrue, Option, Some, None, Ok, Err, refl, sym, ap, subst, ◌∙◌, inl, inr, arith, append_assoc, append-nil}
use Rattle.std.proofs.lemmas.List.{drop_all, drop_more, length-map, map-append}
use Rattle.std.proofs.lemmas.List.Elements.{Contains-get_or, Contains-push_cases}
use Rattle.std.{proofs.lemmas.Slice.Eq.{bytes_eq-Decides, slice_eq-Decides}, specs.Bool.one_answer}
use Rattle.std.specs.{Cmp.Lexicographic.pointwise, Option.option_or, Prelude.All, Str.bytes_eq}
use Rattle.olap_base.{proofs.ListLemmas.Contains-map, specs.Graph.{Graph, IsBottom}}
use Rattle.olap_base.specs.{Instance.{Instance, IsMember, category_of}, Refusing.IsRefusedBy, Views.Fact}
use Rattle.olap_base.specs.declared.refusals.{Fault.Fault, Refusal.Refusal}
use Rattle.olap_instance.specs.{Made.IsMadeFor, Members.member_number}
use Rattle.olap_records.{proofs.Seeing.{HasSeen, see-fault}, specs.Faults.first_fault}
use Rattle.olap_records.specs.Tables.{begins_with, or_read}
use Rattle.olap_facts.specs.declared.kinds.FactKind.{FactKind}
use Rattle.olap_cube.specs.{CubeViews.IsCubeFactTable, Tuples.IsBottomTuple}
use Rattle.olap_cube_views.proofs.ReferenceLemmas.{mapped_from}
use Rattle.olap_cube_views.specs.CubeFactText.{cube_fact_fault, cube_fact_read, cube_facts_read, header, member_fault, members_fault, members_read}
use Rattle.olap_cube_views.specs.{CubeRefusals.{IsFaultCause, IsToldAt}, CubeTallies.AreMembers}
use Rattle.olap_cube_views.specs.{Dimensions.{AreMadeFor, graphs_of}, Seen.{cube_fact_of, members_of}}
use Rattle.olap_base.specs.declared.refusals.Refusal.TheVariants as refusal
use Rattle.olap_cube_views.specs.declared.tables.CubeFact as told

-- there is a graph for each instance
pub made_length : (gs : List Graph) (is : List Instance) → AreMadeFor gs is → length gs ≡ length is
made_length [] [] m = refl
made_length [] (i ∷ is) m = absurd m
made_length (g ∷ gs) [] m = absurd m
made_length (g ∷ gs) (i ∷ is) m = ap suc (made_length gs is m.1)

-- a tuple of members of bottom categories is one of members
pub bottom_members : (gs : List Graph) (is : List Instance) (xs : List ℕ) → IsBottomTuple gs is xs → AreMembers is xs
bottom_members [] [] [] b = tt
bottom_members [] [] (x ∷ xs) b = absurd b
bottom_members [] (i ∷ is) xs b = absurd b
bottom_members (g ∷ gs) [] xs b = absurd b
bottom_members (g ∷ gs) (i ∷ is) [] b = absurd b
bottom_members (g ∷ gs) (i ∷ is) (x ∷ xs) b = (b.0.0, bottom_members gs is xs b.1)

-- ---- the members of a record

-- the first k fields have no fault and name these members; what the others say goes after it
pub record MembersSoFar (gs : List Graph) (is : List Instance) (row : List (List ℕ)) (k : ℕ) (xs : List ℕ) : Type 0
  where
    pub faults : members_fault gs is row ≡ members_fault (drop k gs) (drop k is) (drop k row)
    pub read : members_read is row ≡ xs ++ members_read (drop k is) (drop k row)
    pub bottom : (ys : List ℕ) → IsBottomTuple (drop k gs) (drop k is) ys → IsBottomTuple gs is (xs ++ ys)
    pub made : AreMadeFor (drop k gs) (drop k is)

-- the fields of a record, where p of the items of xs are the instances
module _ {X : Type 0} (graphs : List (Bor Graph)) (p : X → Instance) (xs : List X) (row : List (List ℕ))
    (made : AreMadeFor (graphs_of graphs) (map p xs)) {k : ℕ} {ms : List ℕ}
    (h : MembersSoFar (graphs_of graphs) (map p xs) row k ms) where
  abbrev gs : List Graph
  gs = graphs_of graphs

  abbrev is : List Instance
  is = map p xs

  -- there is a graph for each of the items
  pub graph_within : k < length xs → k < length graphs
  graph_within inside =
      let n = made_length gs is made in
      let a = length-map graphs (λ (s : Bor Graph). s.now) in
      let b = length-map xs p in
      omega arith

  module _ (width : length row ≡ length xs + 1) (inside : k < length xs) {g : Bor Graph} (d : X) {i : Instance}
      {f : List ℕ} (g-is : g ≡ get_or graphs k g) (i-is : i ≡ p (get_or xs k d)) (f-is : f ≡ get_or row k []) where
    dg : drop k gs ≡ g.now ∷ drop (k + 1) gs
    dg = mapped_from (λ s. s.now) graphs k g.now g (graph_within inside) (ap (λ (s : Bor Graph). s.now) g-is)

    di : drop k is ≡ i ∷ drop (k + 1) is
    di = mapped_from p xs k i d inside i-is

    dr : drop k row ≡ f ∷ drop (k + 1) row
    dr = drop_more row k [] (omega arith) ∙ ap (λ (e : List ℕ). e ∷ drop (k + 1) row) (sym f-is)

    -- the next instance was made for its graph, and the others for theirs
    made_next : AreMadeFor (g.now ∷ drop (k + 1) gs) (i ∷ drop (k + 1) is)
    made_next = rw (dg, di) at h.made

    -- the next instance was made for its graph
    pub made_here : IsMadeFor g.now i
    made_here = made_next.0

    -- the first fault is the next field's, if it has one, else that of those after it
    faults_here : members_fault gs is row
        ≡ option_or (member_fault g.now i f) (members_fault (drop (k + 1) gs) (drop (k + 1) is) (drop (k + 1) row))
    faults_here = rw (dg, di, dr) at h.faults

    -- one field more, which names a member of a bottom category
    pub members_more : (x : ℕ) → member_fault g.now i f ≡ None → x ≡ member_number i f → IsMember i x
        → IsBottom g.now (category_of i x) → MembersSoFar gs is row (k + 1) (ms ++ x ∷ [])
    members_more x none same member bottom = record {
      faults = rw none at faults_here;
      read = rw (append_assoc, same) (rw (di, dr) at h.read);
      bottom = λ ys b. rw append_assoc (h.bottom (x ∷ ys) (rw (dg, di) ((member, bottom), b)));
      made = made_next.1;
    }

    -- the next field has a fault, and it is the first
    pub members_stop : (kind : FactKind) → member_fault g.now i f ≡ Some kind → members_fault gs is row ≡ Some kind
    members_stop kind e = rw e at faults_here

  -- no field has a fault, and they name a tuple of members of bottom categories
  pub members_end : length xs ≤ k
      → (members_fault gs is row ≡ None) × (ms ≡ members_read is row) × IsBottomTuple gs is ms
  members_end l =
      let b = length-map xs p in
      let n = made_length gs is made in
      let no_is = drop_all k is (omega arith) in
      let no_gs = drop_all k gs (omega arith) in (
        rw no_gs at h.faults,
        sym ((rw no_is at h.read) ∙ append-nil ms),
        subst (IsBottomTuple gs is) (append-nil ms) (h.bottom [] (rw (no_gs, no_is) tt)),
      )

-- ---- records

-- whether the first record is the header
pub header_is : (row top : List (List ℕ)) (b : Bool) → IsTrue b ↔ (row ≡ top) → b ≡ pointwise bytes_eq row top
header_is row top b h =
    let d : IsTrue (pointwise bytes_eq row top) ↔ (row ≡ top) =
    slice_eq-Decides bytes_eq-Decides row top (pointwise bytes_eq row top) refl in
    one_answer b (pointwise bytes_eq row top) h d

-- a record's fault is the text's first, where no record before it has one
pub told_cause : (fault : List (List (List ℕ)) → List (List ℕ) → Option FactKind)
    (all seen left after : List (List (List ℕ))) (row : List (List ℕ)) (n : ℕ) (e : Refusal (Fault FactKind))
    → HasSeen fault all seen left → left ≡ row ∷ after → length seen ≡ n → IsToldAt (n + 2) (fault seen row) e
    → IsFaultCause (first_fault fault [] all) e
told_cause fault all seen left after row n (refusal.Kind f) s l size t = (
  length seen,
  let q = t.0 in omega arith,
  see-fault fault all seen left after row f.kind s l t.1,
)
told_cause fault all seen left after row n (refusal.Memory m) s l size t = tt

-- the facts after one record more
pub cube_facts_more : (is : List Instance) (seen : List (List (List ℕ))) (r : List (List ℕ)) (fs : List told.CubeFact)
    (f : told.CubeFact) → map cube_fact_of fs ≡ map (cube_fact_read is) seen → cube_fact_of f ≡ cube_fact_read is r
    → map cube_fact_of (fs ++ f ∷ []) ≡ map (cube_fact_read is) (seen ++ r ∷ [])
cube_facts_more is seen r fs f e q =
    map-append cube_fact_of fs (f ∷ []) ∙ ap (λ (t : List (Fact (List ℕ))). t ++ cube_fact_of f ∷ []) e
    ∙ ap (λ (t : Fact (List ℕ)). map (cube_fact_read is) seen ++ t ∷ []) q
    ∙ sym (map-append (cube_fact_read is) seen (r ∷ []))

-- a fact table with one fact more
pub cube_table_more : (gs : List Graph) (is : List Instance) (fs : List (Fact (List ℕ))) (f : Fact (List ℕ))
    → IsCubeFactTable gs is fs → IsBottomTuple gs is f.at → IsCubeFactTable gs is (fs ++ f ∷ [])
cube_table_more gs is fs f t b q c = elim (Contains-push_cases fs f q c) [
  | inl h ↦ t q h
  | inr e ↦ subst (λ (p : Fact (List ℕ)). IsBottomTuple gs is p.at) e b
]

-- each fact of a fact table stands at members
pub cube_table_members : (gs : List Graph) (is : List Instance) (fs : List told.CubeFact)
    → IsCubeFactTable gs is (map cube_fact_of fs) → All (λ f. AreMembers is (members_of f.members)) fs
cube_table_members gs is fs t k d h = bottom_members gs is (members_of (get_or fs k d).members)
    (t (cube_fact_of (get_or fs k d)) (Contains-map cube_fact_of fs (get_or fs k d) (Contains-get_or fs k d h)))

-- lists with equal images have one length
pub same_length : {A B C : Type 0} (f : A → C) (h : B → C) (xs : List A) (ys : List B) → map f xs ≡ map h ys
    → length xs ≡ length ys
same_length f h xs ys e = sym (length-map xs f) ∙ ap length e ∙ length-map ys h

-- the first fault of the records after the header is the text's
pub fault_behind : (gs : List Graph) (is : List Instance) (records : List (List (List ℕ)))
    → begins_with (header (length is)) records ≡ true → (e : Refusal (Fault FactKind))
    → IsFaultCause (first_fault (cube_fact_fault gs is) [] (drop 1 records)) e
    → IsRefusedBy e (cube_facts_read gs is records)
fault_behind gs is records b (refusal.Memory m) h = h
fault_behind gs is records b (refusal.Kind f) h =
    rw b (ap (λ o. or_read o (Ok (map (cube_fact_read is) (drop 1 records)))) h.2
    ∙ ap (λ n. Err (record { at = n; kind = f.kind })) (sym h.1))
