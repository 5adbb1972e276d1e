-- One fact more.
use Rattle.std.proofs.{Common.{ℕ, List, pos, take, sym, subst, arith}, lemmas.List.{length-map, length-take-le}}
use Rattle.olap_base.specs.Views.{Fact}
use Rattle.olap_delta.proofs.DeltaLemmas.{are_taken_more, are_taken_none}
use Rattle.olap_delta.{proofs.ListedLemmas.{is_at_member, one_more, so_far}, specs.Taking.AreTaken}
use Rattle.olap_facts.specs.declared.tables.Fact as told
use Rattle.olap_delta.proofs.deltas.Delta.take_all.Goals as goal

nothing : told.Fact
nothing = record { member = record { 0 = 0 }; value = pos 0 }

pub facts-init : goal.facts-init
facts-init c = are_taken_none c.args.self.now

pub take-requires-clause-member : goal.take-requires-clause-member
unfolding nothing
take-requires-clause-member c = grind (arith, is_at_member, nothing)

pub take-requires-clause-room : goal.take-requires-clause-room
take-requires-clause-room c = grind (arith, length-map, length-take-le)

pub facts-preserved : goal.facts-preserved
unfolding nothing
facts-preserved c =
    subst (λ (fs : List (Fact ℕ)). AreTaken fs c.args.self.now c.take.new.self)
    (sym (one_more xs k nothing c.facts-test.true))
    (are_taken_more (so_far xs k) _ c.args.self.now c.facts.self c.take.new.self c.facts.invariant e.change e.instance
    e.categories e.taken e.views)
  where
    open c use {args.facts.now as xs, facts.fact-index as k, take.ensures as e}
