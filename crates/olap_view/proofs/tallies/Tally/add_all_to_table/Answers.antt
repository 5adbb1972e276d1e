-- One fact more.
use Rattle.std.proofs.{Common.{append_assoc, pos, arith}, lemmas.Grind.common_steps}
use Rattle.std.proofs.lemmas.List.{map-append, take_more}
use Rattle.olap_base.specs.Views.{Fact}
use Rattle.olap_facts.specs.declared.tables.Fact as told
use Rattle.olap_view.proofs.tallies.Tally.add_all_to_table.Goals as goal

nothing : told.Fact
nothing = record { member = record { 0 = 0 }; value = pos 0 }

pub facts-preserved : goal.facts-preserved
unfolding nothing
facts-preserved c = grind (arith, common_steps, nothing, take_more, map-append, append_assoc)
