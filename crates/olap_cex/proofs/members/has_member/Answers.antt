-- A category is present as the root, or as an end of the edge that was looked at last.
use Rattle.std.proofs.{Common.{◌≡◌, ◌<◌, true, sym, length, arith}, lemmas.Bool.{or_left, or_right, eq-eqb}}
use Rattle.std.specs.Prelude.{◌==◌, ◌||◌}
use Rattle.olap_cex.proofs.PresentLemmas.{no_end_absent, seen_present}
use Rattle.olap_cex.proofs.members.has_member.Goals.{then-child-c-via-then-child-c, then-child-c-via-else-child-c+then-parent-c}
use Rattle.olap_cex.proofs.members.has_member.Goals as goal

pub returns-then-child-c : goal.returns-then-child-c
returns-then-child-c c =
    let inside : c.edges.e < length g.edges = omega (arith, c.edges-e-end.ensures.count) in
    let here : (d == x) || (p == x) ≡ true = elim c.then-child-c.branch [
      | then-child-c-via-then-child-c w ↦ or_left (d == x) (p == x) (eq-eqb d x w.if-child-c.true)
      | then-child-c-via-else-child-c+then-parent-c w ↦ or_right (d == x) (p == x) (eq-eqb p x w.if-parent-c.true)
    ] in
    sym (seen_present c.args.root.0 g.edges bits x c.edges.e d p inside
    (rw c.from.ensures at c.if-edges-from.true) c.ends.ensures.edge here)
  where
    open c use {args.graph.now as g, args.edges.now as bits, args.c.0 as x}
    open c use {ends.result.0.0 as d, ends.result.1.0 as p}

pub returns : goal.returns
returns c = sym (no_end_absent c.args.root.0 c.args.graph.now.edges c.args.edges.now c.args.c.0 c.if-c-root.false
    (λ i h b t. c.edges.invariant i (omega (arith, c.edges-e-end.ensures.count)) b t))
