use Rattle.olap_instance.{proofs.BuilderSteps.{all-absent, built-made, built-sound}, specs.DraftInside.draft_of}
use Rattle.olap_instance.specs.Passes.{parents_in}
use Rattle.olap_instance.proofs.building.InstanceBuilder.finish.Goals as goal

pub complete-requires-clause-absent : goal.complete-requires-clause-absent
complete-requires-clause-absent c = all-absent (draft_of c.self.inside) c.self.invariant

pub from_parts-requires : goal.from_parts-requires
from_parts-requires c =
    let lists = rw c.deref.ensures.value at c.in_ok-complete.ensures.parents in
    built-sound (draft_of c.self.inside) c.self.invariant c.complete.new.roster (parents_in c.complete.new.lists)
    c.in_ok-complete.ensures.members lists

pub returns-clause-made : goal.returns-clause-made
returns-clause-made c =
    let lists = rw c.deref.ensures.value at c.in_ok-complete.ensures.parents in
    let made = built-made (draft_of c.self.inside) c.self.invariant c.complete.new.roster
    (parents_in c.complete.new.lists) c.in_ok-complete.ensures.members lists in
    rw (← c.self.view_is, c.from_parts.ensures) made
