use Rattle.std.proofs.Common.{◌≡◌, ◌<◌, ℕ, List, None, codes, length, map}
use Rattle.olap_base.specs.{Limits.most_members, Naming.place_of}
use Rattle.olap_records.proofs.Seeing.{HasSeen}
use Rattle.olap_instance.specs.{InstanceText.{member_fault, member_read, parents_field}, Passes.ids_in}
use Rattle.olap_instance.proofs.entering.enter_rows.Given as goal

abbrev pub invariant-rows : goal.invariant-rows
invariant-rows l = record {
  before : List (List (List ℕ));
  seen : HasSeen (member_fault l.graph) l.fn.rows.left before l.rows.left;
  members : l.roster ≡ map (member_read l.graph) before;
  fields : l.fields ≡ map parents_field before;
  few : length l.roster < most_members;
  others : place_of (codes "all") (ids_in l.roster) ≡ None;
}

abbrev pub decreases-rows : goal.decreases-rows
decreases-rows l = length l.rows.left
