-- One mask after the other.
use Rattle.std.proofs.Common.{arith}
use Rattle.olap_dimsat.specs.Searches.{root_of}
use Rattle.olap_schema.specs.Schemas.{schema_of}
use Rattle.olap_cube_summ.proofs.LookingLemmas.{by_its_root, root_bottom}
use Rattle.olap_cube_summ.proofs.looking.Lookout.widened.Goals.{then-has+in_ok-found, else-has}
use Rattle.olap_cube_summ.proofs.looking.Lookout.widened.Goals as goal

pub masks-init : goal.masks-init
masks-init c = record {
  found = c.requires.found;
  lookout = c.requires.lookout;
}

pub joined-requires-clause-root : goal.joined-requires-clause-root
joined-requires-clause-root c =
    root_bottom (schema_of c.args.schema.now) c.args.question.now (root_of c.args.self.now.search) c.masks.self
    c.masks.invariant.lookout c.requires.root

pub joined-requires-clause-lookout : goal.joined-requires-clause-lookout
joined-requires-clause-lookout c =
    by_its_root (schema_of c.args.schema.now) c.args.question.now (root_of c.args.self.now.search) c.masks.self
    c.masks.invariant.lookout

pub joined-requires-clause-first : goal.joined-requires-clause-first
joined-requires-clause-first c = let s = c.requires.source in omega arith

pub joined-requires-clause-found : goal.joined-requires-clause-found
joined-requires-clause-found c = rw c.masks.invariant.lookout.root c.masks.invariant.found

pub masks-preserved : goal.masks-preserved
masks-preserved c = elim c.if-has.branch [
  | then-has+in_ok-found w ↦ record {
    found = rw w.found-is (rw before.lookout.root at w.in_ok-found.ensures.found);
    lookout = rw w.self-is (rw before.lookout.root at w.in_ok-found.ensures.lookout);
  }
  | else-has w ↦ record {
    found = rw w.found-is before.found;
    lookout = rw w.self-is before.lookout;
  }
]
  where
    open c use {masks.invariant as before}
