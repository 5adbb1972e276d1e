-- A present category is counted, and an absent one isn't.
use Rattle.std.proofs.Common.{◌-◌, sym, ◌∙◌, arith}
use Rattle.olap_cex.proofs.PresentLemmas.{count_few, count_more, count_same}
use Rattle.olap_cex.proofs.counterexamples.place_of.Goals.{then-has_member, else-has_member}
use Rattle.olap_cex.specs.FoundFor.{found_edges}
use Rattle.olap_cex.proofs.counterexamples.place_of.Goals as goal

pub overflow_add-place : goal.overflow_add-place
overflow_add-place c =
    let f = c.args.found.now in
    let few = count_few f.frozen.root.0 (found_edges c.args.graph.now f) (c.categories.d - 1) in
    let e = c.categories.invariant in
    omega arith

pub categories-preserved : goal.categories-preserved
categories-preserved c =
    elim c.if-has_member.branch [
      | then-has_member w ↦ count_more r (found_edges g f) x (omega arith)
          (rw c.items.ensures at (sym c.has_member.ensures ∙ w.if-has_member.true)) c.categories.invariant w.place-is
      | else-has_member w ↦ count_same r (found_edges g f) x (omega arith)
          (rw c.items.ensures at (sym c.has_member.ensures ∙ w.if-has_member.false)) c.categories.invariant w.place-is
    ]
  where
    open c use {args.graph.now as g, args.found.now as f, args.found.now.frozen.root.0 as r, categories.d as x}
