-- One edge after the other.
use Rattle.std.proofs.Common.{◌∙◌, ap}
use Rattle.olap_clauses.specs.Engines.{variables_of}
use Rattle.olap_dimsat.proofs.aiming.suppose_no_way.Goals.{else-is_leading-via-then-is_leading+else-not-suppose, else-is_leading-via-else-is_leading}
use Rattle.olap_dimsat.proofs.aiming.suppose_no_way.Goals as goal

pub returns-then-not-suppose-clause-admits : goal.returns-then-not-suppose-clause-admits
returns-then-not-suppose-clause-admits c = λ v a. c.suppose.ensures.admits v (c.edges.invariant.admits v a)

pub edges-preserved : goal.edges-preserved
edges-preserved c =
    let before = c.edges.invariant in
    elim c.else-is_leading.branch [
      | else-is_leading-via-then-is_leading+else-not-suppose w ↦ record {
        variables = ap variables_of w.engine-is ∙ w.suppose.ensures.variables ∙ before.variables;
        admits = λ v a. rw w.engine-is (w.suppose.ensures.admits v (before.admits v a));
      }
      | else-is_leading-via-else-is_leading w ↦ record {
        variables = ap variables_of w.engine-is ∙ before.variables;
        admits = λ v a. rw w.engine-is (before.admits v a);
      }
    ]
