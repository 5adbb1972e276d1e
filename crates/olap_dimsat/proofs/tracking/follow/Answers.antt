-- The decisions that stand are the trail's, and those that come are.
use Rattle.std.proofs.Common.{ap, ◌∙◌}
use Rattle.olap_trail.specs.Decisions.{Decided}
use Rattle.olap_dimsat.proofs.tracking.follow.Goals as goal

pub follow_edges-requires-clause-task : goal.follow_edges-requires-clause-task
follow_edges-requires-clause-task c = c.requires.suited.task

pub follow_edges-requires-clause-of : goal.follow_edges-requires-clause-of
follow_edges-requires-clause-of c = record {
  graph = ap (λ (d : Decided). d.graph) c.undo.ensures ∙ c.requires.suited.decided.graph;
  root = ap (λ (d : Decided). d.root) c.undo.ensures ∙ c.requires.suited.decided.root;
}

pub follow_edges-requires-clause-read : goal.follow_edges-requires-clause-read
follow_edges-requires-clause-read c = rw c.undo.ensures c.standing-stands.ensures.read

pub returns-clause-read : goal.returns-clause-read
returns-clause-read c = c.follow_edges.ensures.read

pub returns-clause-none : goal.returns-clause-none
returns-clause-none c = c.follow_edges.ensures.none

pub returns-clause-suited : goal.returns-clause-suited
returns-clause-suited c = record {
  task = c.requires.suited.task;
  frozen = c.requires.suited.frozen;
  decided = c.follow_edges.ensures.of;
  room = c.requires.suited.room;
  variables = c.requires.suited.variables;
}
