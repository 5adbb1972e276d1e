use Rattle.std.proofs.Common.{refl}
use Rattle.olap_proof.proofs.BranchLemmas.{back_there, last_named, open_back, open_next}
use Rattle.olap_proof.proofs.branches.go_on.Goals as goal

pub next-requires : goal.next-requires
next-requires c =
    last_named c.pop.new.self.items c.in-Some.choice c.choices.invariant.branch c.in-Some.ensures.items
    c.take_back.ensures

pub choose-requires : goal.choose-requires
choose-requires c =
    let back = back_there c.choices.invariant.branch c.in-Some.ensures.items c.take_back.ensures in
    record {
      graph = back.branch.graph;
      legal = c.in-Some-next.ensures.legal c.args.graph.now c.take_back.new.place back.legal;
    }

pub returns-in-Some-next : goal.returns-in-Some-next
returns-in-Some-next c =
    open_next c.pop.new.self.items c.in-Some.choice c.in-Some-next.later c.choices.invariant c.in-Some.ensures.items
    c.take_back.ensures (c.in-Some-next.ensures.legal c.args.graph.now)
    (c.in-Some-next.ensures.some c.take_back.new.place) c.in_ok-choose.ensures.place c.in_ok-choose.ensures.choices

pub choices-preserved : goal.choices-preserved
choices-preserved c =
    open_back c.pop.new.self.items c.in-Some.choice c.choices.invariant c.in-Some.ensures.items c.take_back.ensures
    (c.in_default-next.ensures.none refl)
