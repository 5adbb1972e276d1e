-- One set has a category more.
use Rattle.std.{proofs.Common.{◌<◌, ◌∙◌, ap, arith, length, set, subst}, specs.FinSet.insert}
use Rattle.olap_graph.proofs.RowLemmas.{row_read}
use Rattle.olap_proof.{proofs.KeptWayLemmas.row_put, specs.KeptWays.IsPut}
use Rattle.olap_proof.proofs.ways.put.Goals as goal

pub returns-clause-put : goal.returns-clause-put
returns-clause-put c =
    let inside : k < length rows = omega (arith, c.from-place.ensures, c.requires.c) in
    subst (λ j. IsPut rows j p (set rows k c.with.result)) c.from-place.ensures
    (row_put rows k p c.with.result inside
    (c.with.ensures ∙ ap (λ s. insert s p) (row_read rows k c.index-rows-place.result inside c.index-rows-place.is)))
  where
    open c use {args.rows.now as rows, args.d.0 as p, from-place.result as k}
