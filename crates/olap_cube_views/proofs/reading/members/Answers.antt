-- One field more, which names a member of a bottom category or has a fault.
use Rattle.std.proofs.{Common.{◌+◌, ◌∷◌, [], Bor, refl, sym, ap, subst, ◌∙◌, arith}, lemmas.List.map-append}
use Rattle.olap_base.specs.{Instance.Instance, declared.ids.MemberId.MemberId}
use Rattle.olap_cube_views.proofs.CubeReadingLemmas.{MembersSoFar, graph_within, made_here, members_end, members_more, members_stop}
use Rattle.olap_cube_views.specs.{Dimensions.{graphs_of, instances_of}, Seen.members_of}
use Rattle.olap_cube_views.proofs.reading.members.Goals as goal

pub bounds-graphs-k : goal.bounds-graphs-k
bounds-graphs-k c =
    graph_within c.args.graphs.now (λ i. i.now) c.args.instances.now _ c.requires.made c.dimensions.invariant
    (omega arith)

pub member-requires : goal.member-requires
member-requires c = record {
  made = made_here c.args.graphs.now (λ i. i.now) c.args.instances.now _ c.requires.made c.dimensions.invariant
      c.requires.width (omega arith) _ c.index-graphs-k.is (ap (λ (i : Bor Instance). i.now) c.index-instances-k.is)
      c.field.ensures;
}

pub dimensions-preserved : goal.dimensions-preserved
dimensions-preserved c =
    subst (MembersSoFar (graphs_of graphs) (instances_of instances) c.args.rows.now.row (c.dimensions.k + 1))
    (sym (ap members_of c.in_ok-push-in-Ok.ensures.items
    ∙ map-append (λ (y : MemberId). y.0) c.dimensions.members.items (x ∷ [])))
    (members_more graphs (λ i. i.now) instances _ c.requires.made c.dimensions.invariant c.requires.width (omega arith)
    _ c.index-graphs-k.is (ap (λ (i : Bor Instance). i.now) c.index-instances-k.is) c.field.ensures x.0
    c.in-Ok.ensures.member.0 c.in-Ok.ensures.member.1 c.in-Ok.ensures.inside c.in-Ok.ensures.bottom)
  where
    open c use {args.graphs.now as graphs, args.instances.now as instances, in-Ok.member as x}

pub returns-in-Err-clause-read : goal.returns-in-Err-clause-read
returns-in-Err-clause-read c = (
  refl,
  members_stop c.args.graphs.now (λ i. i.now) c.args.instances.now _ c.requires.made c.dimensions.invariant
      c.requires.width (omega arith) _ c.index-graphs-k.is (ap (λ (i : Bor Instance). i.now) c.index-instances-k.is)
      c.field.ensures c.in-Err.kind c.in-Err.ensures.member,
)

pub returns-clause-read : goal.returns-clause-read
returns-clause-read c =
    let r = members_end c.args.graphs.now (λ i. i.now) c.args.instances.now _ c.requires.made c.dimensions.invariant
    (omega arith) in
    (r.0, r.1)

pub returns-clause-bottom : goal.returns-clause-bottom
returns-clause-bottom c =
    let r = members_end c.args.graphs.now (λ i. i.now) c.args.instances.now _ c.requires.made c.dimensions.invariant
    (omega arith) in
    r.2
