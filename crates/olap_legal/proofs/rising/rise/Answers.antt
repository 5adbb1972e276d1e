-- The walk ends with all places filled, or at two members of one category.
use Rattle.std.proofs.Common.{◌≡◌, [], ◌∷◌, ◌++◌, length, replicate, ap, sym, subst, ◌∙◌, arith, set}
use Rattle.std.{proofs.Math.ListN.length-set, proofs.lemmas.List.length-replicate, specs.Prelude.vec_len}
use Rattle.olap_base.specs.Instance.{category_of}
use Rattle.olap_graph.proofs.MarkLemmas.{no_items, none_case}
use Rattle.olap_legal.proofs.FrontierLemmas.{frontier_start, frontier_next, frontier_splits, frontier_done}
use Rattle.olap_legal.{proofs.ParentLemmas.{taken, taken_fewer}, specs.Rows.{IsFrontier, IsRise, none}}
use Rattle.olap_legal.proofs.rising.rise.Goals as goal

pub listed-init : goal.listed-init
listed-init c =
    let n = vec_len c.args.row.now in
    let d : c.from.result ≡ category_of c.args.instance.now x = c.from.ensures ∙ c.category.ensures in
    let e : row ≡ replicate n none = c.fill.ensures.items (λ y e. e) in
    let q : c.push.new.self.items ≡ x ∷ [] =
    c.in_ok-push.ensures.items ∙ ap (λ l. l ++ x ∷ []) c.clear.ensures.items in
    record {
      size = length-set row c.from.result x ∙ ap length e ∙ length-replicate n none;
      frontier = subst (λ k. IsFrontier c.args.instance.now x (set row k x) c.push.new.self.items) (sym d)
          (frontier_start c.requires.bounded c.requires.x e q);
    }
  where
    open c use {args.x, fill.new.self.items as row}

pub visit-requires-clause-z : goal.visit-requires-clause-z
visit-requires-clause-z c =
    let listed = taken c.pop.new.self.items c.in-Some.z c.in-Some.ensures.items in
    (c.listed.invariant.frontier.listed c.in-Some.z listed).0

pub returns-then-not-whole-clause-split : goal.returns-then-not-whole-clause-split
returns-then-not-whole-clause-split c = λ e.
    let met = c.in_ok-whole.ensures.met c.if-not-whole.true in
    frontier_splits c.pop.new.self.items c.in-Some.z c.listed.invariant.frontier c.in-Some.ensures.items met

pub listed-preserved : goal.listed-preserved
listed-preserved c =
    let v = c.in_ok-whole.ensures.visited c.if-not-whole.false in
    record {
      size = v.same_length ∙ c.listed.invariant.size;
      frontier = frontier_next rest c.in-Some.z c.requires.bounded.places f c.in-Some.ensures.items v;
    }
  where
    open c use {pop.new.self.items as rest, listed.invariant.frontier as f}

pub listed-smaller : goal.listed-smaller
listed-smaller c =
    let v = c.in_ok-whole.ensures.visited c.if-not-whole.false in
    let f = v.fewer in
    omega (arith, f, taken_fewer c.pop.new.self.items c.in-Some.z c.in-Some.ensures.items)

pub returns-clause-whole : goal.returns-clause-whole
returns-clause-whole c = λ t.
    let n = none_case c.pop.result _ _ c.in_default.not-Some c.pop.ensures.cases in
    let o = c.listed.list.ok in
    let e : length c.listed.list.items ≡ 0 = let m = n.0 in omega arith in
    let f = c.listed.invariant.frontier in
    subst (λ k. IsRise c.args.instance.now k c.args.x c.listed.row.items) c.listed.invariant.size
    (frontier_done c.requires.bounded.places f (no_items c.listed.list.items e))
