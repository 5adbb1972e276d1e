-- No category so far is a bottom one.
use Rattle.std.proofs.Common.{◌≡◌}
use Rattle.olap_proof.specs.Stages.{bottoms_from}
use Rattle.olap_proof.proofs.stages.bottom_from.Given as goal

abbrev pub invariant-categories : goal.invariant-categories
invariant-categories l = bottoms_from l.graph l.fn.first ≡ bottoms_from l.graph l.c
