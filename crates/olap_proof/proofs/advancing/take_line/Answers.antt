use Rattle.olap_proof.proofs.WithinLemmas.{branch_within}
use Rattle.olap_proof.proofs.advancing.take_line.Goals as goal

pub line_at-requires-clause-within : goal.line_at-requires-clause-within
line_at-requires-clause-within c =
    branch_within c.args.asked.now.graph.now c.args.asked.now.candidates.now c.args.place.now c.args.choices.now.items
    c.requires.branch
