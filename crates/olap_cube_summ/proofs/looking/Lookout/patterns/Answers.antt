-- One source after the other.
use Rattle.olap_dimsat.specs.Searches.{root_of}
use Rattle.olap_cube_summ.proofs.{LookingLemmas.{by_its_root, root_bottom}, MaskLemmas.in_empty}
use Rattle.olap_schema.specs.Schemas.{schema_of}
use Rattle.olap_cube_summ.proofs.looking.Lookout.patterns.Goals as goal

pub joined-requires-clause-found : goal.joined-requires-clause-found
joined-requires-clause-found c = λ p i. absurd (in_empty c.empty.result c.empty.ensures p i)

pub sources-init : goal.sources-init
sources-init c = record {
  found = c.in_ok-patterns.ensures.found;
  lookout = c.in_ok-patterns.ensures.lookout;
}

pub widened-requires-clause-root : goal.widened-requires-clause-root
widened-requires-clause-root c =
    root_bottom (schema_of c.args.schema.now) c.args.question.now (root_of c.args.self.now.search) c.sources.self
    c.sources.invariant.lookout c.requires.root

pub widened-requires-clause-lookout : goal.widened-requires-clause-lookout
widened-requires-clause-lookout c =
    by_its_root (schema_of c.args.schema.now) c.args.question.now (root_of c.args.self.now.search) c.sources.self
    c.sources.invariant.lookout

pub widened-requires-clause-found : goal.widened-requires-clause-found
widened-requires-clause-found c = rw c.sources.invariant.lookout.root c.sources.invariant.found

pub sources-preserved : goal.sources-preserved
sources-preserved c = record {
  found = rw c.sources.invariant.lookout.root at c.in_ok-patterns-2.ensures.found;
  lookout = rw c.sources.invariant.lookout.root at c.in_ok-patterns-2.ensures.lookout;
}
