-- One set has a category less.
use Rattle.std.{proofs.Common.{◌<◌, ◌∙◌, ap, arith, length, set, subst}, specs.FinSet.remove}
use Rattle.olap_graph.proofs.RowLemmas.{row_read}
use Rattle.olap_proof.{proofs.KeptWayLemmas.row_out, specs.KeptWays.IsTakenOut}
use Rattle.olap_proof.proofs.ways.take_out.Goals as goal

pub returns-clause-out : goal.returns-clause-out
returns-clause-out c =
    let inside : k < length rows = omega (arith, c.from-place.ensures, c.requires.c) in
    subst (λ j. IsTakenOut rows j p (set rows k c.without.result)) c.from-place.ensures
    (row_out rows k p c.without.result inside
    (c.without.ensures ∙ ap (λ s. remove s p) (row_read rows k c.index-rows-place.result inside c.index-rows-place.is)))
  where
    open c use {args.rows.now as rows, args.d.0 as p, from-place.result as k}
