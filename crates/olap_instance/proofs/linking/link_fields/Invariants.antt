use Rattle.std.proofs.Common.{◌≡◌, ◌+◌, drop, length, map, take}
use Rattle.olap_records.proofs.Seeing.{HasSeen}
use Rattle.olap_instance.specs.Passes.{AreBelow, field_fault, field_read, ids_in, parents_in}
use Rattle.olap_instance.proofs.linking.link_fields.Given as goal

abbrev pub invariant-fields : goal.invariant-fields
invariant-fields l = record {
  seen : HasSeen (field_fault (ids_in l.roster)) l.fields (take l.child l.fields) (drop l.child l.fields);
  parents : parents_in l.parents ≡ map (field_read (ids_in l.roster)) (take l.child l.fields);
  as_many : length l.stamps ≡ length l.roster;
  below : AreBelow l.stamps (length l.parents + 1);
}
