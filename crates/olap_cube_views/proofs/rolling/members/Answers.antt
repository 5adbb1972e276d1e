-- One field more, which names a member of a bottom category or has a fault.
use Rattle.std.proofs.Common.{◌≡◌, ◌+◌, ◌∷◌, [], length, sym, ap, subst, take, ◌∙◌, arith}
use Rattle.std.proofs.lemmas.{List.{length-set, map-append, take_more_set}, Result.err_from_is_err_and}
use Rattle.olap_base.specs.declared.ids.MemberId.{MemberId}
use Rattle.olap_cube.specs.Tuples.{IsBottomTuple}
use Rattle.olap_cube_views.proofs.CubeReadingLemmas.{MembersSoFar, graph_within, made_here, members_end, members_more, members_stop}
use Rattle.olap_cube_views.specs.{Dimensions.{graphs_of, instances_in}, Seen.members_of}
use Rattle.olap_cube_views.proofs.rolling.members.Goals as goal

pub bounds-graphs-k : goal.bounds-graphs-k
bounds-graphs-k c =
    graph_within c.args.graphs.now (λ a. a.instance) c.args.columns.now _ c.requires.made c.dimensions.invariant.so_far
    (omega arith)

pub member-requires : goal.member-requires
member-requires c = record {
  made = made_here c.args.graphs.now (λ a. a.instance) c.args.columns.now _ c.requires.made
      c.dimensions.invariant.so_far c.requires.width (omega arith) _ c.index-graphs-k.is c.instance.ensures
      c.field.ensures;
}

pub dimensions-preserved : goal.dimensions-preserved
dimensions-preserved c = record {
  so_far = subst
      (MembersSoFar (graphs_of c.args.graphs.now) (instances_in c.args.columns.now) c.args.row.now.row (k + 1))
      (sym (ap members_of (take_more_set old k x (omega arith))
      ∙ map-append (λ (y : MemberId). y.0) (take k old) (x ∷ [])))
      (members_more c.args.graphs.now (λ a. a.instance) c.args.columns.now _ c.requires.made inv.so_far
      c.requires.width (omega arith) _ c.index-graphs-k.is c.instance.ensures c.field.ensures x.0 place.member.0
      place.member.1 place.inside place.bottom);
  size = length-set old k x ∙ inv.size;
  most = omega arith;
}
  where
    open c use {
      dimensions.k,
      dimensions.members as old,
      dimensions.invariant as inv,
      in_ok-place.place as x,
      in_ok-place.ensures as place,
    }

pub returns-in_err-place-clause-read : goal.returns-in_err-place-clause-read
returns-in_err-place-clause-read c =
    let stop = err_from_is_err_and c.from_residual.result c.from_residual.ensures.1 in
    rw (stop.1, stop.2)
    (members_stop c.args.graphs.now (λ a. a.instance) c.args.columns.now _ c.requires.made
    c.dimensions.invariant.so_far c.requires.width (omega arith) _ c.index-graphs-k.is c.instance.ensures
    c.field.ensures c.in_err-place.field-0.0 c.in_err-place.ensures.member)

pub returns-clause-read : goal.returns-clause-read
returns-clause-read c =
    let all : c.dimensions.k ≡ length c.args.columns.now = let l = c.dimensions.invariant.most in omega arith in
    let r = members_end c.args.graphs.now (λ a. a.instance) c.args.columns.now _ c.requires.made
    c.dimensions.invariant.so_far (omega arith) in
    (r.0, ap (λ k. members_of (take k c.dimensions.members)) (sym all) ∙ r.1)

pub returns-clause-bottom : goal.returns-clause-bottom
returns-clause-bottom c =
    let all : c.dimensions.k ≡ length c.args.columns.now = let l = c.dimensions.invariant.most in omega arith in
    let r = members_end c.args.graphs.now (λ a. a.instance) c.args.columns.now _ c.requires.made
    c.dimensions.invariant.so_far (omega arith) in
    subst (λ k. IsBottomTuple (graphs_of c.args.graphs.now) (instances_in c.args.columns.now)
    (members_of (take k c.dimensions.members))) all r.2
