-- The roots are categories of their dimensions.
use Rattle.std.proofs.Common.{List, map, ap, ◌∙◌}
use Rattle.olap_base.specs.declared.ids.CatId.{CatId}
use Rattle.olap_cube.specs.CubeSummarizable.{graphs_of}
use Rattle.olap_cube_summ.{proofs.PlaceLemmas.{roots_are, roots_there}, specs.CubeCexText.tuple_text}
use Rattle.olap_cube_summ.specs.Dimensions.{schemas_of}
use Rattle.olap_cube_summ.proofs.printing.root_names.Goals as goal

pub names-requires : goal.names-requires
names-requires c =
    let e = ap (λ (cs : List CatId). map (λ (c : CatId). c.0) cs) (c.deref.ensures.value ∙ c.in_ok-roots.ensures)
    ∙ roots_are c.args.founds.now in rw e (roots_there (schemas_of c.args.cube.now) c.args.founds.now c.requires)

pub returns : goal.returns
returns c =
    let e = ap (λ (cs : List CatId). map (λ (c : CatId). c.0) cs) (c.deref.ensures.value ∙ c.in_ok-roots.ensures)
    ∙ roots_are c.args.founds.now in
    c.in_ok-names.ensures ∙ ap (tuple_text (graphs_of (schemas_of c.args.cube.now))) e
