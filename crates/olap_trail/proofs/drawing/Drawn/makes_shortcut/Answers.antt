-- One edge more is looked at.
use Rattle.std.proofs.Common.{◌<◌, ◌∙◌, ℕ, get_or, map, refl, subst, ap, arith, rules}
use Rattle.olap_trail.proofs.{BypassLemmas.{holds_is, joins_at, none_more, nowhere}, WalkLemmas.{joins_more, more}}
use Rattle.olap_trail.specs.Drawing.{Drawing, Joins, edge_of}
use Rattle.olap_trail.proofs.drawing.Drawn.makes_shortcut.Goals as goal

pub edges-init : goal.edges-init
edges-init g c = record {
  items = ap (map edge_of) c.deref-first-items.ensures.value ∙ ap (λ (v : Drawing). v.edges) c.self.view_is;
  within =
      subst (λ (v : Drawing). (x y : ℕ) → Joins v.edges x y → (x < v.count) × (y < v.count)) c.self.view_is
      c.self.invariant.within;
  none = λ i d h. absurd (omega (arith, h));
}

pub is_bypassed-requires : goal.is_bypassed-requires
is_bypassed-requires g c =
    let x = get_or items c.edges.first-index nowhere in
    let j = joins_at items _ c.edges.first-index nowhere c.edges.invariant.items c.edges-test.true in
    let w = c.edges.invariant.within x.child.0 x.parent.0 j in
    (omega arith, (search (rules, width), (w.0, (w.1, (c.requires.parent, c.above-through.ensures)))))
  where
    open c use {deref-first-items.result.now as items, requires.width}

pub returns-then-is_bypassed : goal.returns-then-is_bypassed
returns-then-is_bypassed g c =
    let x = get_or items c.edges.first-index nowhere in
    let j = joins_at items _ c.edges.first-index nowhere c.edges.invariant.items c.edges-test.true in (
      λ t. record {
        child = x.child.0;
        through = x.parent.0;
        first = joins_more c.args.self.now.edges c.args.new.child.0 c.args.new.parent.0 x.child.0 x.parent.0 j;
        bypass = c.is_bypassed.ensures.0 c.if-is_bypassed.true;
      },
      λ t. refl,
    )
  where
    open c use {deref-first-items.result.now as items}

pub edges-preserved : goal.edges-preserved
edges-preserved g c = record {
  items = c.edges.invariant.items;
  within = c.edges.invariant.within;
  none = none_more c.deref-first-items.result.now (more c.args.self.now.edges c.args.new.child.0 c.args.new.parent.0)
      c.edges.first-index nowhere c.is_bypassed.result c.if-is_bypassed.false c.edges-test.true c.is_bypassed.ensures
      c.edges.invariant.none;
}

pub returns : goal.returns
returns g c =
    holds_is c.deref-first-items.result.now c.args.self.now.edges c.args.new.child.0 c.args.new.parent.0
    c.edges.first-index c.is_bypassed-2.result c.edges.invariant.items c.edges.invariant.none c.edges-test.false
    c.is_bypassed-2.ensures
