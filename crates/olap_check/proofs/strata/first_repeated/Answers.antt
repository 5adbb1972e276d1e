-- One category more.
use Rattle.std.proofs.Common.{sym, ◌∙◌, true≢false}
use Rattle.olap_check.proofs.SearchLemmas.{first_off_cycle, first_start, first_step}
use Rattle.olap_check.proofs.strata.first_repeated.Goals.{then-is_on_cycle+in_ok-first, else-is_on_cycle}
use Rattle.olap_check.specs.Strata.{IsOnCycle}
use Rattle.olap_check.proofs.strata.first_repeated.Goals as goal

pub categories-init : goal.categories-init
categories-init c = first_start c.args.instance.now c.members-first.result c.members-first.ensures.count

pub categories-preserved : goal.categories-preserved
categories-preserved c =
    elim c.if-is_on_cycle.branch [
      | then-is_on_cycle+in_ok-first w ↦
          rw w.first-is (first_step i d first w.in_ok-first.first c.categories.invariant w.in_ok-first.ensures)
      | else-is_on_cycle w ↦
          let off : IsOnCycle c.args.graph.now d → ⊥ =
          λ o. true≢false (sym (c.is_on_cycle.ensures.1 o) ∙ w.if-is_on_cycle.false) in
          rw w.first-is (first_step i d first first c.categories.invariant
          (first_off_cycle c.args.graph.now i d first c.requires.linked off))
    ]
  where
    open c use {args.instance.now as i, categories.category as d, categories.first}
