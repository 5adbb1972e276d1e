-- The texts of the present categories so far are appended.
use Rattle.std.{proofs.Common.{◌≡◌, ◌++◌, ◌-◌}, specs.Prelude.flat_map}
use Rattle.olap_ast.specs.Frozen.{chosen}
use Rattle.olap_cex.specs.{FrozenText.member_text, Present.first_present}
use Rattle.olap_frozen.specs.LeastFound.{frozen_of}
use Rattle.olap_names.specs.Names.{candidates_of}
use Rattle.olap_cex.proofs.lines.push_members.Given as goal

abbrev pub invariant-categories : goal.invariant-categories
invariant-categories l = l.out.items ≡ l.initial.out.items ++ flat_map
    (member_text l.graph (candidates_of l.candidates) (frozen_of l.frozen))
    (first_present l.frozen.root.0 (chosen l.graph.edges l.frozen.edges) (l.c - 1))
