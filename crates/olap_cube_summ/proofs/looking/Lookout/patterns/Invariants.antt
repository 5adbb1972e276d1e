-- The patterns so far are those of frozen dimensions.
use Rattle.olap_dimsat.specs.Searches.{root_of}
use Rattle.olap_schema.specs.Schemas.{schema_of}
use Rattle.olap_cube_summ.specs.{Looking.IsLookout, Patterns.AreFound}
use Rattle.olap_cube_summ.proofs.looking.Lookout.patterns.Given as goal

abbrev pub invariant-sources : goal.invariant-sources
invariant-sources l = record {
  found : AreFound (schema_of l.schema) l.question (root_of l.fn.self.search) l.patterns;
  lookout : IsLookout (schema_of l.schema) l.question (root_of l.fn.self.search) l.self;
}
