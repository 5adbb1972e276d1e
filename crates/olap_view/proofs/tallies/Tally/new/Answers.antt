-- A tally with no fact stands for the empty table.
use Rattle.std.proofs.Common.{arith}
use Rattle.olap_view.proofs.TallyLemmas.{stands_start, tally_start}
use Rattle.olap_view.proofs.tallies.Tally.new.Goals as goal

pub invariant_of-result : goal.invariant_of-result
invariant_of-result c = grind (arith, tally_start)

pub returns-clause-stands : goal.returns-clause-stands
returns-clause-stands c = stands_start c.in_ok-new.field-0 c.in_ok-nothing_waiting.field-0.items
    c.in_ok-new.ensures.empty c.in_ok-nothing_waiting.ensures.empty
