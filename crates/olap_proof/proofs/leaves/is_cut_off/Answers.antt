use Rattle.std.proofs.Common.{◌∙◌, ap, sym}
use Rattle.olap_base.specs.Reaching.{category_reaches}
use Rattle.olap_proof.{proofs.TellingLemmas.not_reached, specs.Places.possible_graph}
use Rattle.olap_proof.proofs.leaves.is_cut_off.Goals as goal

pub returns : goal.returns
returns c =
    let s = c.args.known.now in
    let g = possible_graph s.place.now.decided in
    not_reached g s.place.now.decided.root c.args.c.0 c.may_reach.result
    (c.may_reach.ensures ∙ ap (λ r. category_reaches g r c.args.c.0) (sym s.root_is))
