-- What the categories so far need.
use Rattle.olap_ast.specs.Trees.{numbers_of}
use Rattle.olap_schema.specs.Schemas.{schema_of}
use Rattle.olap_needs.specs.Listing.{ListsBelow}
use Rattle.olap_needs.proofs.needing.needed.Given as goal

abbrev pub invariant-categories : goal.invariant-categories
invariant-categories l = record {
  listed : ListsBelow (schema_of l.schema) l.target.0 (numbers_of l.sources) l.b l.needs;
}
