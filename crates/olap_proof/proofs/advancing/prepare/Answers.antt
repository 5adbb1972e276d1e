use Rattle.olap_proof.proofs.advancing.prepare.Goals as goal

pub tabulate-requires-clause-ways : goal.tabulate-requires-clause-ways
tabulate-requires-clause-ways c = c.requires.ways
