use Rattle.std.proofs.Common.{ℕ, arith}
use Rattle.olap_instance.{proofs.HashingLemmas.{left-over, seven-more}, specs.declared.hashing.IdHasher.IdHasher}
use Rattle.olap_instance.proofs.hashing.IdHasherHasher.write.Goals as goal

pub steps-preserved : goal.steps-preserved
steps-preserved c = search seven-more

abbrev with-value : ℕ → ℕ → IdHasher
with-value point value = record { point = point; value = value }

pub returns : goal.returns
returns c = grind (arith, left-over)
