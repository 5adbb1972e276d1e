use Rattle.std.proofs.Common.{◌∙◌, ap}
use Rattle.olap_base.specs.Naming.{place_of}
use Rattle.olap_dimsat.proofs.KnowingLemmas.{place_inside}
use Rattle.olap_dimsat.proofs.knowing.KnownPartial.name.Goals as goal

pub named-requires-clause-place : goal.named-requires-clause-place
named-requires-clause-place c = place_inside c.args.k.now _ c.place.result
    (c.place.ensures ∙ ap (place_of c.args.k.now) c.others.ensures.list)
