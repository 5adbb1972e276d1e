-- What the program tells of a place is what is known there.
use Rattle.std.proofs.Common.{◌≡◌, ℕ, ◌<◌, ◌≤◌, [], length, get_or, map, true, Option, Some, None, refl, ap, sym, subst, ◌∙◌, inl, inr, arith, Bool, false, not, ◌↔◌}
use Rattle.std.proofs.lemmas.{Bool.{or_cases, eqb-true, eq-eqb}, List.Elements.Contains-append_cases}
use Rattle.std.specs.{FinSet.{FinSet, contains}, List.list_any, Ordering.nat_cmp}
use Rattle.std.specs.Prelude.{◌||◌, ◌==◌, Contains, filter}
use Rattle.olap_base.proofs.ListLemmas.{Contains-from_filter, Contains-from_map, list_any_is, same_truth}
use Rattle.olap_base.specs.Graph.{CategoryReaches, Edge, Graph, HasEdge, IsCategory, IsHierarchy}
use Rattle.olap_base.specs.Reaching.{category_reaches, category_reaches_is}
use Rattle.olap_base.specs.{Steps.{Steps, Steps.here, Steps.step, Steps-from_reaches}, declared.ids.EdgeId.EdgeId}
use Rattle.olap_graph.{proofs.TableLemmas.has_edge_at, specs.Lookups.{edge_at, edge_between}}
use Rattle.olap_names.specs.Names.{Named}
use Rattle.olap_trail.specs.Decisions.{Decided, Decision, present_edges}
use Rattle.olap_proof.proofs.{AgreeingLemmas.index_some, LineLemmas.edge_is, SeenLemmas.possible_seen}
use Rattle.olap_proof.specs.Places.{Place, Way, edge_of_way, index_of, is_known, leading_edges, possible_graph}
use Rattle.olap_proof.specs.{Walking.IsWalk, Within.IsWithin}

-- a look at a walk's set says what is reached
pub walk_test : (g : Graph) (a : ℕ) (s : FinSet nat_cmp) (b : ℕ) → IsWalk g a s → contains s b ≡ category_reaches g a b
walk_test g a s b h = same_truth (contains s b) (category_reaches g a b)
    (λ t. (category_reaches_is g a b).1 ((h b).0 t)) (λ t. (h b).1 ((category_reaches_is g a b).0 t))

-- the ends of an edge or a way that is known to be there are categories
leading_within : (g : Graph) (k : Named) (p : Place) → IsHierarchy g → IsWithin g k p → (e : Edge)
    → Contains (leading_edges p) e → IsCategory g e.child × IsCategory g e.parent
leading_within g k p h w e c = elim (Contains-append_cases (present_edges p.decided)
    (map edge_of_way (filter (λ (x : Way). x.there) p.ways)) e c) [
      | inl a ↦
          let m = Contains-from_map (λ (d : Decision). edge_at p.decided.graph d.edge)
          (filter (λ (d : Decision). d.present) p.decided.decisions) e a in
          let u = (Contains-from_filter (λ (d : Decision). d.present) p.decided.decisions m.0 m.1).0 in
          let inside : m.0.edge < length g.edges =
          subst (λ (d : Decision). d.edge < length g.edges) u.2 (w.edges u.0 m.0 u.1) in
          let ends =
          h.categories (edge_at g m.0.edge).child (edge_at g m.0.edge).parent (has_edge_at g m.0.edge inside) in
          let same : edge_at g m.0.edge ≡ e = ap (λ (x : Graph). edge_at x m.0.edge) (sym w.graph) ∙ m.2 in
          subst (λ (x : Edge). IsCategory g x.child × IsCategory g x.parent) same ends
      | inr a ↦
          let m = Contains-from_map edge_of_way (filter (λ (x : Way). x.there) p.ways) e a in
          let u = (Contains-from_filter (λ (x : Way). x.there) p.ways m.0 m.1).0 in
          subst (λ (x : Edge). IsCategory g x.child × IsCategory g x.parent) m.2 (w.ways m.0 u)
    ]

-- what is known to have a member is a category
pub known_category : (g : Graph) (k : Named) (p : Place) → IsHierarchy g → IsWithin g k p → (c : ℕ)
    → is_known p c ≡ true → IsCategory g c
known_category g k p h w c t = elim (or_cases (c == p.decided.root)
    (list_any (λ (e : Edge). (e.child == c) || (e.parent == c)) (leading_edges p)) t) [
      | inl a ↦ subst (λ x. IsCategory g x) (sym (eqb-true c p.decided.root a)) w.root
      | inr a ↦
          let f = (list_any_is (λ (e : Edge). (e.child == c) || (e.parent == c)) (leading_edges p)).0 a in
          let ends = leading_within g k p h w f.0 f.1 in
          elim (or_cases (f.0.child == c) (f.0.parent == c) f.2) [
            | inl b ↦ subst (λ x. IsCategory g x) (eqb-true f.0.child c b) ends.0
            | inr b ↦ subst (λ x. IsCategory g x) (eqb-true f.0.parent c b) ends.1
          ]
    ]

-- from what is no category nothing else is reached
pub no_way_out : (g : Graph) (t : Decided) → IsHierarchy g → t.graph ≡ g → (c d : ℕ) → (IsCategory g c → ⊥)
    → c == d ≡ category_reaches (possible_graph t) c d
no_way_out g t h e c d out = same_truth (c == d) (category_reaches (possible_graph t) c d)
    (λ s. (category_reaches_is (possible_graph t) c d).1 (inl (eqb-true c d s)))
    (λ r. eq-eqb c d (stays (Steps-from_reaches ((category_reaches_is (possible_graph t) c d).0 r)) out))
  where
    stays : {a b : ℕ} → Steps (HasEdge (possible_graph t)) a b → (IsCategory g a → ⊥) → a ≡ b
    stays here n = refl
    stays (step {x = a} {y = b} j w) n =
        let s = possible_seen t a b j in
        let there = has_edge_at t.graph s.0 s.1 in
        let ends = h.categories (edge_at t.graph s.0).child (edge_at t.graph s.0).parent
        (subst (λ (x : Graph). HasEdge x (edge_at t.graph s.0).child (edge_at t.graph s.0).parent) e there) in
        absurd (n (subst (λ x. IsCategory g x) s.3 ends.0))

-- and no edge leads from it
pub no_edge_out : (g : Graph) (t : Decided) → IsHierarchy g → t.graph ≡ g → (c d : ℕ) → (IsCategory g c → ⊥)
    → edge_between t.graph c d ≡ None
no_edge_out g t h e c d out = go (edge_between t.graph c d) refl
  where
    go : (o : Option ℕ) → edge_between t.graph c d ≡ o → o ≡ None
    go None q = refl
    go (Some i) q =
        let r : Option EdgeId = Some (record { 0 = i }) in
        let s = edge_is t.graph c d r (sym q) in
        let there = subst (λ (x : Edge). HasEdge t.graph x.child x.parent) s.1 (has_edge_at t.graph i s.0) in
        absurd (out (h.categories c d (subst (λ (x : Graph). HasEdge x c d) e there)).0)

-- a name that was decided is one of the category's
pub named_index : (g : Graph) (k : Named) (p : Place) → IsWithin g k p → (c i : ℕ) → index_of p.namings c ≡ Some i
    → (c < length k.texts) × (i ≤ length (get_or k.texts c []))
named_index g k p w c i h =
    let n = index_some p.namings c i h in
    let l = w.indexes n.0 n.1 in
    let there : IsCategory g c = subst (λ x. IsCategory g x) n.2 l.0 in (
      (let t = w.texts in omega arith),
      subst (λ j. j ≤ length (get_or k.texts c [])) n.3 (subst (λ x. n.0.index ≤ length (get_or k.texts x [])) n.2 l.1),
    )

-- where the test of a walk fails, there is none
pub not_reached : (g : Graph) (a b : ℕ) (r : Bool) → r ≡ category_reaches g a b
    → (not r ≡ true) ↔ (CategoryReaches g a b → ⊥)
not_reached g a b true e = (
  λ t. absurd (let z : false ≡ true = t in cc),
  λ n. absurd (n ((category_reaches_is g a b).0 (sym e))),
)
not_reached g a b false e = (
  λ t r. let z : false ≡ true = e ∙ (category_reaches_is g a b).1 r in cc,
  λ n. refl,
)
