-- By the search of this root.
use Rattle.olap_schema.specs.Schemas.{schema_of}
use Rattle.olap_cube_summ.proofs.LookingLemmas.{by_its_root, root_bottom}
use Rattle.olap_cube_summ.proofs.looking.soon_found.Goals as goal

pub patterns-requires-clause-root : goal.patterns-requires-clause-root
patterns-requires-clause-root c =
    root_bottom (schema_of c.args.schema.now) c.args.question.now c.args.root.0 c.in_ok-lookout.lookout
    c.in_ok-lookout.ensures c.requires.root

pub patterns-requires-clause-lookout : goal.patterns-requires-clause-lookout
patterns-requires-clause-lookout c =
    by_its_root (schema_of c.args.schema.now) c.args.question.now c.args.root.0 c.in_ok-lookout.lookout
    c.in_ok-lookout.ensures

pub returns : goal.returns
returns c = rw c.in_ok-lookout.ensures.root at c.patterns.ensures
