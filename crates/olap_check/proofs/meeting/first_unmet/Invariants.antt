-- What is remembered is right, and the formula is true at the members of the root in the blocks so far.
use Rattle.std.proofs.Common.{ℕ, ◌*◌, ◌<◌}
use Rattle.olap_ast.specs.{Formula.Holds, Trees.formula_of}
use Rattle.olap_base.specs.Instance.{IsMemberOf}
use Rattle.olap_check.specs.{Blocks.width, Groups.count_before, Seen.IsSeen}
use Rattle.olap_check.proofs.meeting.first_unmet.Given as goal

abbrev pub invariant-steps : goal.invariant-steps
invariant-steps l =
    IsSeen l.instance l.seen
    × ((w : ℕ) → count_before l.instance l.root.0 w < l.step * width → IsMemberOf l.instance l.root.0 w
    → Holds l.instance w (formula_of l.formula))
