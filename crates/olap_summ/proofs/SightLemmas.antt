-- What a frozen dimension that was found shows of categories and edges.
use Rattle.std.proofs.Common.{◌≡◌, ℕ, zero, suc, ◌+◌, ◌<◌, List, ◌∷◌, Bool, true, false, length, get_or, refl, ap, sym, subst, ◌∙◌, ◌⊎◌, inl, inr, arith}
use Rattle.std.proofs.lemmas.{Bool.false_from_ne_true, List.{get_or-set_other, get_or-set_same, length-set}}
use Rattle.std.specs.Prelude.{slice_set, slice_index_or}
use Rattle.olap_base.specs.{Graph.{Edge, IsCategory, IsHierarchy}, Instance.Instance}
use Rattle.olap_ast.specs.{Findings.{IsUnsatisfiable, IsUnused}, Frozen.{chosen, is_present, name_in, thawed}}
use Rattle.olap_ast.specs.Schema.{IsLegal, Schema}
use Rattle.olap_names.specs.Names.{candidates_of}
use Rattle.olap_frozen.proofs.ChosenInstance.{child_present, edge_below, member_is, parent_present, place}
use Rattle.olap_frozen.{proofs.ChosenLemmas.{choice_of, place_chosen}, specs.Chosen.{IsChoice, Joins}}
use Rattle.olap_frozen.specs.{LeastFound.frozen_of, declared.founding.Found.Found}
use Rattle.olap_graph.specs.Lookups.{edge_at}
use Rattle.olap_summ.specs.{Sights.{AreSettled, HasCategory, IsSeen, IsWitness, Keeps}, declared.seeing.Seen.Seen}
use native.Mathlib.Decide.{ℕ_discrete}

-- ---- what was found

module _ (s : Schema) (found : Found) (hier : IsHierarchy s.graph) (root : IsCategory s.graph found.frozen.root.0)
    (w : IsWitness s found) where
  abbrev r : ℕ
  r = found.frozen.root.0

  abbrev es : List Edge
  es = chosen s.graph.edges found.frozen.edges

  choice : IsChoice s.graph r es
  choice = choice_of s.graph r found.frozen.edges hier root

  abbrev name : ℕ → List ℕ
  name = name_in (candidates_of found.candidates) (frozen_of found.frozen)

  abbrev stood : Instance
  stood = thawed s (candidates_of found.candidates) r (frozen_of found.frozen)

  legal : IsLegal s stood
  legal = w.1.is_one.stands_for.legal

  has_present : (c : ℕ) → is_present r es c ≡ true → IsUnsatisfiable s c → ⊥
  has_present c p u = u stood legal (place s.graph r es choice c) (member_is s.graph r es choice name c p)

  joins_at : (k : ℕ) → k < length s.graph.edges → get_or found.frozen.edges k false ≡ true
      → Joins es (edge_at s.graph k).child (edge_at s.graph k).parent
  joins_at k h b =
      place_chosen s.graph.edges found.frozen.edges (edge_at s.graph k) (record { child = 0; parent = 0 }) k h b refl

  child_has_member : (c d : ℕ) → Joins es c d → IsUnsatisfiable s c → ⊥
  child_has_member c d j = has_present c (child_present s.graph r es choice c d j)

  parent_has_member : (c d : ℕ) → Joins es c d → IsUnsatisfiable s d → ⊥
  parent_has_member c d j = has_present d (parent_present s.graph r es choice c d j)

  is_used : (c d : ℕ) → Joins es c d → IsUnused s (record { child = c; parent = d }) → ⊥
  is_used c d j u =
      u stood legal (place s.graph r es choice c) (place s.graph r es choice d)
      (edge_below s.graph r es choice name c d j)
      (member_is s.graph r es choice name c (child_present s.graph r es choice c d j)).1
      (member_is s.graph r es choice name d (parent_present s.graph r es choice c d j)).1

-- ---- marks

-- the mark at that place is set
abbrev Has : List Bool → ℕ → Type 0
Has marks k = slice_index_or marks k false ≡ true

-- a mark that is set was set before, or is the new one
mark_cases : (marks : List Bool) (i k : ℕ) → Has (slice_set marks i true) k → (k ≡ i) ⊎ Has marks k
mark_cases marks i k h = elim (ℕ_discrete k i) [
  | yes e ↦ inl e
  | no n ↦ inr (sym (get_or-set_other marks i k true false n) ∙ h)
]

-- an edge is marked, with the categories at its ends

module _ (s : Schema) (old new : Seen) (e : ℕ) (c d : ℕ)
    (marked : new.categories.items ≡ slice_set (slice_set old.categories.items c true) d true)
    (used : new.edges.items ≡ slice_set old.edges.items e true) where
  seen_edge : IsSeen s old → (IsUnsatisfiable s c → ⊥) → (IsUnsatisfiable s d → ⊥)
      → (IsUnused s (edge_at s.graph e) → ⊥) → IsSeen s new
  seen_edge is child parent used_once = record {
    category_places =
        ap length marked ∙ length-set (slice_set old.categories.items c true) d true
        ∙ length-set old.categories.items c true ∙ is.category_places;
    edge_places = ap length used ∙ length-set old.edges.items e true ∙ is.edge_places;
    categories = λ n h.
        elim (mark_cases (slice_set old.categories.items c true) d n (rw marked at h)) [
          | inl q ↦ rw q parent
          | inr k ↦ elim (mark_cases old.categories.items c n k) [
            | inl q ↦ rw q child
            | inr l ↦ is.categories n l
          ]
        ];
    edges = λ k h. elim (mark_cases old.edges.items e k (rw used at h)) [
      | inl q ↦ rw q used_once
      | inr l ↦ is.edges k l
    ];
  }

-- a chosen edge is marked
pub seen_chosen : (s : Schema) (found : Found) (hier : IsHierarchy s.graph)
    (root : IsCategory s.graph found.frozen.root.0) (w : IsWitness s found) (old new : Seen) (e c d : ℕ)
    → e < length s.graph.edges → get_or found.frozen.edges e false ≡ true
    → edge_at s.graph e ≡ record { child = c; parent = d }
    → new.categories.items ≡ slice_set (slice_set old.categories.items c true) d true
    → new.edges.items ≡ slice_set old.edges.items e true → IsSeen s old → IsSeen s new
seen_chosen s found hier root w old new e c d h b at marked used is =
    let j = subst (λ (x : Edge). Joins (es s found hier root w) x.child x.parent) at
    (joins_at s found hier root w e h b) in
    seen_edge s old new e c d marked used is (child_has_member s found hier root w c d j)
    (parent_has_member s found hier root w c d j)
    (subst (λ x. IsUnused s x → ⊥) (sym at) (is_used s found hier root w c d j))

-- the root is marked
pub seen_root : (s : Schema) (found : Found) → IsWitness s found → (old new : Seen)
    → new.categories.items ≡ slice_set old.categories.items found.frozen.root.0 true
    → new.edges.items ≡ old.edges.items → IsSeen s old → IsSeen s new
seen_root s found w old new marked same is = record {
  category_places =
      ap length marked ∙ length-set old.categories.items found.frozen.root.0 true ∙ is.category_places;
  edge_places = ap length same ∙ is.edge_places;
  categories = λ n h.
      elim (mark_cases old.categories.items found.frozen.root.0 n (rw marked at h)) [
        | inl q ↦ rw q
            (λ u. u (thawed s (candidates_of found.candidates) found.frozen.root.0 (frozen_of found.frozen))
            w.1.is_one.stands_for.legal w.1.is_one.stands_for.root w.1.is_one.stands_for.root_is)
        | inr l ↦ is.categories n l
      ];
  edges = λ k h. is.edges k (rw same at h);
}

-- ---- marks that stay

-- a mark that is set is there
is_marked : (marks : List Bool) (i : ℕ) → i < length marks → Has (slice_set marks i true) i
is_marked marks i h = get_or-set_same marks i true false h

-- those that were there stay
marks_stay : (marks : List Bool) (i k : ℕ) → Has marks k → Has (slice_set marks i true) k
marks_stay (b ∷ bs) zero zero h = refl
marks_stay (b ∷ bs) (suc i) (suc k) h = marks_stay bs i k h
marks_stay marks i k h = h

-- the root's is there once it is set
pub root_marked : (s : Schema) (c : ℕ) (old : Seen) (now : List Bool) → IsSeen s old → IsCategory s.graph c
    → now ≡ slice_set old.categories.items c true → Has now c
root_marked s c old now is h e =
    rw e (is_marked old.categories.items c (let l = is.category_places in omega (arith, h, l)))

-- it loses none
pub root_keeps : (c : ℕ) (old new : Seen) → new.categories.items ≡ slice_set old.categories.items c true
    → new.edges.items ≡ old.edges.items → Keeps old new
root_keeps c old new marked same = record {
  categories = λ n h. rw marked (marks_stay old.categories.items c n h);
  edges = λ k h. rw same h;
}

-- nor do those of an edge
pub edge_keeps : (e c d : ℕ) (old new : Seen)
    → new.categories.items ≡ slice_set (slice_set old.categories.items c true) d true
    → new.edges.items ≡ slice_set old.edges.items e true → Keeps old new
edge_keeps e c d old new marked used = record {
  categories = λ n h. rw marked (marks_stay _ d n (marks_stay old.categories.items c n h));
  edges = λ k h. rw used (marks_stay old.edges.items e k h);
}

-- what loses none, twice
pub keeps_both : (a b c : Seen) → Keeps a b → Keeps b c → Keeps a c
keeps_both a b c k l = record {
  categories = λ n h. l.categories n (k.categories n h);
  edges = λ n h. l.edges n (k.edges n h);
}

-- ---- what is settled

-- a mark more settles no less
pub settled_still : (s : Schema) (n : ℕ) (old new : Seen) → Keeps old new → AreSettled s n old → AreSettled s n new
settled_still s n old new k a c above below h = a c above below (false_from_ne_true _
    (λ e. let t : true ≡ false = sym (k.categories c e) ∙ h in cc))

-- and so does a category that can't have a member
settled_more : (s : Schema) (n m : ℕ) (seen : Seen) → m ≡ n + 1 → AreSettled s n seen
    → (slice_index_or seen.categories.items n false ≡ false → IsUnsatisfiable s n) → AreSettled s m seen
settled_more s n m seen e a last c above below h = elim (which c n m below e) [
  | inl l ↦ a c above l h
  | inr q ↦ rw q (last (rw q at h))
]
  where
    which : (c n m : ℕ) → c < m → m ≡ n + 1 → (c < n) ⊎ (c ≡ n)
    which c n m l e = grind arith

-- what the answer says of a category without a mark
unmarked_is : (s : Schema) (c : ℕ) (seen : Seen) (b : Bool) → (b ≡ false → IsUnsatisfiable s c)
    → (b ≡ true → HasCategory seen c) → slice_index_or seen.categories.items c false ≡ false → IsUnsatisfiable s c
unmarked_is s c seen false if_no if_yes h = if_no refl
unmarked_is s c seen true if_no if_yes h = absurd (let t : true ≡ false = sym (if_yes refl) ∙ h in cc)

-- what was settled stays so, and one category more is, by the answer
pub settled_next : (s : Schema) (n : ℕ) (old new : Seen) (b : Bool) → Keeps old new → AreSettled s n old
    → (b ≡ false → IsUnsatisfiable s n) → (b ≡ true → HasCategory new n) → AreSettled s (n + 1) new
settled_next s n old new b k a if_no if_yes =
    settled_more s n (n + 1) new refl (settled_still s n old new k a) (unmarked_is s n new b if_no if_yes)
