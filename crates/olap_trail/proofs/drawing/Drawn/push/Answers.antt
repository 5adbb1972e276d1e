-- The tables with one edge more.
use Rattle.std.proofs.Common.{◌+◌, ◌++◌, ◌∷◌, ◌∙◌, [], drop, length, map, sym, ap, arith, rules}
use Rattle.std.proofs.{Math.ListN.length-set, lemmas.List.{length-map, length_push, map_push, take_at}}
use Rattle.std.specs.Result.{is_ok}
use Rattle.olap_bits.specs.Sets.{members}
use Rattle.olap_trail.proofs.{DecisionLemmas.pushed, DrawnLemmas.drawn_push}
use Rattle.olap_trail.{proofs.TableLemmas.{drawn_more, next_fits, still_below}, specs.Drawing.{Drawing, edge_of}}
use Rattle.olap_trail.proofs.drawing.Drawn.push.Goals as goal

pub fill-requires : goal.fill-requires
fill-requires g c =
    let full = rw (← c.self.view_is) at c.requires.room in
    let f = next_fits c.self.invariant full in
    (search (rules, width), omega (arith, n, o, f))
  where
    open c use {self.inside as a, self.invariant.width, self.inside.parents.ok as o, len-count.ensures as n}

pub draw-requires : goal.draw-requires
draw-requires g c =
    let f = c.fill.ensures.enough in
    let l = ap length c.deref_mut.ensures.value in
    (search (rules, width), (omega (arith, n, o, wide, width.1), omega (arith, f, l)))
  where
    open c use {
      self.inside as a,
      self.invariant.width,
      self.invariant.wide,
      self.inside.parents.ok as o,
      len-count.ensures as n,
    }

pub invariant_of-self : goal.invariant_of-self
invariant_of-self g c =
    rw (take_at rows (drop (length rows) filled.items) filled.len (d.count ∙ c.deref_mut.ensures.len)) (drawn_push
    c.self.inside c.self.invariant c.self.view_is c.args.ends (members c.above-through.result) c.above-through.ensures
    filled rows c.push.new.self c.len-count.result c.from-child.result c.len.result c.index.result.now c.with.result
    c.closes_cycle-closes.result h.child h.parent h.room h.new c.closes_cycle-closes.ensures
    (c.len-count.ensures ∙ c.self.inside.parents.ok.0) c.fill.ensures.enough c.fill.ensures.capacity c.fill.ensures.same
    (rw (← c.deref_mut.ensures.value) (record { same_length = d.count; kept = d.kept; grown = d.grown }))
    c.from-child.ensures c.index.ensures c.with.ensures
    (pushed (is_ok c.push.result) _ _ _ (ap is_ok c.unwrap.ensures) c.push.ensures.items) c.push.ensures.capacity
    (c.len.ensures ∙ c.push.new.self.ok.0))
  where
    open c use {requires as h, fill.new.rows as filled, draw.new.rows, draw.ensures as d}

pub index-requires : goal.index-requires
index-requires g c =
    still_below c.from-child.ensures c.self.inside.parents.ok.0 (rw (← c.self.view_is) at c.requires.child)

pub index_mut-requires : goal.index_mut-requires
index_mut-requires g c =
    still_below c.from-child.ensures c.self.inside.parents.ok.0 (rw (← c.self.view_is) at c.requires.child)

pub with-requires : goal.with-requires
with-requires g c =
    let parent = rw (← c.self.view_is) at c.requires.parent in
    (search (rules, width), omega (arith, parent, wide))
  where
    open c use {self.invariant.width, self.invariant.wide}

pub unwrap-requires : goal.unwrap-requires
unwrap-requires g c =
    let full = rw (← c.self.view_is) at c.requires.room in
    let m = length-map a.edges.items edge_of in
    c.push.ensures.succeeds (omega (arith, full, m, r, o))
  where
    open c use {self.inside as a, self.invariant.reserved as r, self.inside.edges.ok as o}

pub index_mut-requires-2 : goal.index_mut-requires-2
index_mut-requires-2 g c =
    let a = c.self.inside in
    let full = rw (← c.self.view_is) at c.requires.room in
    let grown = pushed (is_ok c.push.result) _ _ _ (ap is_ok c.unwrap.ensures) c.push.ensures.items in
    let long = ap length grown ∙ length_push a.edges.items c.args.ends in
    let m = length-map a.edges.items edge_of in
    still_below (c.len.ensures ∙ c.push.new.self.ok.0 ∙ long ∙ ap (λ n. n + 1) (sym m)) a.cycles.ok.0 full

pub returns : goal.returns
returns g c =
    let grown = pushed (is_ok c.push.result) _ _ _ (ap is_ok c.unwrap.ensures) c.push.ensures.items in
    let edges = ap (map edge_of) grown ∙ map_push edge_of a.edges.items ends in
    let count = length-set a.parents.items c.from-child.result c.with.result in
    let room = length-set a.cycles.items c.len.result c.closes_cycle-closes.result in
    drawn_more _ c.args.self.now _ (count ∙ ap (λ (v : Drawing). v.count) c.self.view_is)
    (room ∙ ap (λ (v : Drawing). v.room) c.self.view_is)
    (edges ∙ ap (λ (v : Drawing). v.edges ++ edge_of ends ∷ []) c.self.view_is)
  where
    open c use {self.inside as a, args.ends}
