use Rattle.std.proofs.{Common.{◌≡◌, length, map, refl, ap, ◌∙◌, arith}, lemmas.List.length-map}
use Rattle.olap_base.specs.declared.ids.EdgeId.{EdgeId}
use Rattle.olap_graph.proofs.TableLemmas.{out_push, out_skip}
use Rattle.olap_graph.{proofs.tables.edges_out.Goals.{then-edges-i+in_ok-push, else-edges-i}, specs.Listing.edge_of}
use Rattle.olap_graph.specs.Tables.{drawn}
use Rattle.olap_graph.proofs.tables.edges_out.Goals as goal

pub loop-i-preserved : goal.loop-i-preserved
loop-i-preserved c = elim c.if-edges-i.branch [
  | then-edges-i+in_ok-push w ↦
      out_push ends x i out c.if-edges-i.out.items (record { 0 = i }) c.loop-i-test.true w.if-edges-i.true refl
      (ap (λ v. v.items) w.out-is ∙ w.in_ok-push.ensures.items) c.loop-i.invariant
  | else-edges-i w ↦
      rw (ap (λ v. v.items) w.out-is) (out_skip ends x i out c.loop-i-test.true w.if-edges-i.false c.loop-i.invariant)
]
  where
    open c use {args.edges.now as ends, args.category as x, loop-i.i, loop-i.out.items as out}

pub loop-i-init : goal.loop-i-init
loop-i-init c = ap (map (λ (e : EdgeId). e.0)) c.new-out.ensures.items

pub returns : goal.returns
returns c =
    let ends = c.args.edges.now in
    let all : c.loop-i.i ≡ length (drawn ends).edges = let l = length-map ends edge_of in let h = c.loop-i-test.false in
    let e = c.loop-i.auto in omega arith in
    let m = rw all at c.loop-i.invariant in
    ap (map (λ (e : EdgeId). e.0)) c.from_vec.ensures ∙ m
