-- Whether one of a list of edges is bypassed.
use Rattle.std.proofs.Common.{◌≡◌, ℕ, ◌+◌, ◌<◌, ◌≤◌, ◌↔◌, List, length, get_or, map, Bool, true, false, ap, sym, subst, ◌∙◌, inl, inr, arith}
use Rattle.std.{proofs.lemmas.List.get_or_default, proofs.lemmas.List.Elements.Contains-get_or, specs.Prelude.IsTrue}
use Rattle.olap_base.proofs.{GeneralLemmas.below_or_same, ListLemmas.{Contains-from_map, Contains-map}}
use Rattle.olap_base.specs.Graph.{Edge}
use Rattle.olap_trail.proofs.WalkLemmas.{joins_cases, joins_new, more}
use Rattle.olap_trail.specs.{Drawing.{HoldsBypass, IsBypassed, Joins, edge_of}, declared.drawing.Ends.Ends}

-- what is read if there are no ends
abbrev pub nowhere : Ends
nowhere = record { child = record { 0 = 0 }; parent = record { 0 = 0 } }

-- the ends at a place are those of an edge
pub joins_at : (items : List Ends) (es : List Edge) (k : ℕ) (d : Ends) → map edge_of items ≡ es → k < length items
    → Joins es (get_or items k d).child.0 (get_or items k d).parent.0
joins_at items es k d e h =
    let x = get_or items k d in
    subst (λ fs. Joins fs x.child.0 x.parent.0) e (Contains-map edge_of items x (Contains-get_or items k d h))

-- none of the first k edges is bypassed
abbrev pub NoneBypassed : List Ends → List Edge → ℕ → Type 0
NoneBypassed items es k =
    (i : ℕ) (d : Ends) → i < k → IsBypassed es (get_or items i d).child.0 (get_or items i d).parent.0 → ⊥

-- nor is the next, where its test fails
pub none_more : (items : List Ends) (es : List Edge) (k : ℕ) (d : Ends) (b : Bool) → b ≡ false → k < length items
    → IsTrue b ↔ IsBypassed es (get_or items k d).child.0 (get_or items k d).parent.0
    → NoneBypassed items es k → NoneBypassed items es (k + 1)
none_more items es k d b isnt h m none i f l w = elim (below_or_same i k l) [
  | inl s ↦ none i f s w
  | inr q ↦
      let same = ap (λ j. get_or items j f) q ∙ get_or_default items k f d h in
      let z : false ≡ true = sym isnt ∙ m.1 (subst (λ (e : Ends). IsBypassed es e.child.0 e.parent.0) same w) in
      cc
]

-- where none of the edges is bypassed, the new one decides
pub holds_is : (items : List Ends) (es : List Edge) (c p k : ℕ) (b : Bool) → map edge_of items ≡ es
    → NoneBypassed items (more es c p) k → length items ≤ k → IsTrue b ↔ IsBypassed (more es c p) c p
    → IsTrue b ↔ HoldsBypass (more es c p)
holds_is items es c p k b e none all m = (
  λ t. record { child = c; through = p; first = joins_new es c p; bypass = m.0 t },
  λ w. elim (joins_cases es c p w.child w.through w.first) [
    | inl j ↦ absurd (old w j)
    | inr q ↦ m.1 (subst (λ z. IsBypassed (more es c p) c z) (sym q.1)
        (subst (λ x. IsBypassed (more es c p) x w.through) q.0 w.bypass))
  ],
)
  where
    old : (w : HoldsBypass (more es c p)) → Joins es w.child w.through → ⊥
    old w j =
        let t = Contains-from_map edge_of items (record { child = w.child; parent = w.through })
        (subst (λ fs. Joins fs w.child w.through) (sym e) j) in
        let x : Ends = t.0 in
        let k = t.1 in
        let same : edge_of (get_or items k.0 x) ≡ record { child = w.child; parent = w.through } =
        ap edge_of k.2 ∙ t.2 in
        none k.0 x (omega (arith, k.1, all))
        (subst (λ (f : Edge). IsBypassed (more es c p) f.child f.parent) (sym same) w.bypass)
