use Rattle.std.proofs.Common.{◌≡◌, ◌≢◌, ◌↔◌, ◌<◌, ℕ, zero, suc, List, [], ◌∷◌, Bool, get_or, get_or-set_other, set, subst, length, false, true, length-set, refl, sym, ap, ◌∙◌, arith}
use Rattle.std.proofs.{Math.ListN.replicate, lemmas.List.{get_or-replicate, length-map}}
use Rattle.olap_base.specs.Graph.{Edge, Graph}
use Rattle.olap_graph.proofs.TableLemmas.{edge_at-drawn, has_edge_at, bottoms_step, bottoms_done}
use Rattle.olap_graph.specs.{Listing.edge_of, Lookups.edge_at, Tables.{IsMarked, drawn}}
use Rattle.olap_graph.proofs.tables.bottoms.Goals as goal

-- the mark of `All` is taken away
first : (marks : List Bool) → get_or (set marks 0 false) 0 false ≡ false
first [] = refl
first (b ∷ bs) = refl

-- at first each category but `All` is marked
all_marked : (g : Graph) (n c : ℕ) (marks : List Bool) → marks ≡ replicate n true → c < n
    → IsMarked (set marks 0 false) c ↔ ((c ≢ 0) × ((k : ℕ) → k < 0 → (edge_at g k).parent ≢ c))
all_marked g n zero marks e h = (λ m. absurd (let z = first marks in cc), λ t. absurd (t.0 refl))
all_marked g n (suc c) marks e h =
    let ne : suc c ≢ 0 = λ z. absurd (omega (arith, z)) in
    let other : get_or (set marks 0 false) (suc c) false ≡ get_or marks (suc c) false = rw get_or-set_other refl in (
      λ m. (ne, λ k l p. absurd (omega (arith, l))),
      λ t. other ∙ ap (λ xs. get_or xs (suc c) false) e ∙ get_or-replicate n (suc c) true false h,
    )

pub loop-e-init : goal.loop-e-init
loop-e-init c =
    let marks = c.in_ok-marks.marks.items in
    let all = c.in_ok-marks.ensures.items_if_clones_equal (λ y e. e) in
    let f = c.from.ensures in
    let n = c.in_ok-marks.ensures.len in
    let o = c.in_ok-marks.marks.ok in
    record {
      count = length-set marks 0 false ∙ omega arith;
      exact = λ x h. all_marked (drawn c.args.edges.now) c.from.result x marks all (omega arith);
    }

pub index_mut-requires-in-loop-e : goal.index_mut-requires-in-loop-e
index_mut-requires-in-loop-e c =
    let g = drawn c.args.edges.now in
    let k = c.loop-e.e-index in
    let l = length-map c.args.edges.now edge_of in
    let inside : k < length g.edges = let h = c.loop-e-test.true in omega arith in
    let t = c.requires.within (edge_at g k).child (edge_at g k).parent (has_edge_at g k inside) in
    let e = ap (λ (x : Edge). x.parent) (edge_at-drawn c.args.edges.now k c.loop-e-test.true) in
    let f = c.from-in-loop-e.ensures in
    let o = c.loop-e.marks.ok in
    let q = c.loop-e.invariant.count in
    omega (arith, t.1)

pub loop-e-preserved : goal.loop-e-preserved
loop-e-preserved c =
    let e = ap (λ (x : Edge). x.parent) (edge_at-drawn ends k c.loop-e-test.true) in
    record {
      count = length-set c.loop-e.marks.items c.from-in-loop-e.result false ∙ c.loop-e.invariant.count;
      exact = λ x h. bottoms_step ends c.args.count k c.from-in-loop-e.result c.loop-e.marks.items
          c.loop-e.invariant.count (c.from-in-loop-e.ensures ∙ sym e) x h
          (c.loop-e.invariant.exact x h);
    }
  where
    open c use {args.edges.now as ends, loop-e.e-index as k}

pub returns : goal.returns
returns c =
    let g = drawn c.args.edges.now in
    let k = c.loop-e.e-index in
    let all : k ≡ length g.edges = let l = length-map c.args.edges.now edge_of in let h = c.loop-e-test.false in
    let e = c.loop-e.auto in omega arith in
    bottoms_done g c.args.count c.loop-e.marks.items c.loop-e.invariant.count
    (subst (λ n. (x : ℕ) → x < c.args.count → IsMarked c.loop-e.marks.items x ↔
    ((x ≢ 0) × ((j : ℕ) → j < n → (edge_at g j).parent ≢ x))) all c.loop-e.invariant.exact)
