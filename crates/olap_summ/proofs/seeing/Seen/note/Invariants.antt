-- The root is marked, and what the edges before show.
use Rattle.olap_schema.specs.Schemas.{schema_of}
use Rattle.olap_summ.specs.Sights.{HasCategory, IsSeen, Keeps}
use Rattle.olap_summ.proofs.seeing.Seen.note.Given as goal

abbrev pub invariant-edges : goal.invariant-edges
invariant-edges l = record {
  seen : IsSeen (schema_of l.schema) l.self;
  root : HasCategory l.self l.found.frozen.root.0;
  kept : Keeps l.fn.self l.self;
}
