use Rattle.std.proofs.Common.{◌≡◌, length, subst, sym, arith}
use Rattle.olap_graph.specs.Tables.{LiesWithin, drawn}
use Rattle.olap_graph.proofs.reaching.rows.Goals as goal

pub reach-requires-clause-within : goal.reach-requires-clause-within
reach-requires-clause-within c =
    let size : length c.deref_mut.result.now ≡ c.args.count =
    let a = c.deref_mut.ensures.len in let b = c.in_ok-rows.ensures.len in let d = c.from.ensures in
    omega (arith, a, b, d) in
    subst (λ n. LiesWithin (drawn c.args.edges.now) n) (sym size) c.requires.within
