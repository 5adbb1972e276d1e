use Rattle.std.proofs.Common.{◌≡◌, ◌≤◌, take, IfSome}
use Rattle.olap_base.specs.Views.{members, row_at, total_of_facts}
use Rattle.olap_plain.specs.Plain.{instance_of, facts_of, as_row, IsBounded}
use Rattle.olap_plain.proofs.viewing.row_at.Given as goal

abbrev pub invariant-loop-f : goal.invariant-loop-f
invariant-loop-f l = record {
  so_far : as_row l.row
      ≡ row_at l.y (total_of_facts (members (instance_of l.members)) (facts_of (take l.f-index l.facts)) l.y);
  bounded : IfSome l.row (λ r. (r.count ≤ l.f-index) × IsBounded r.sum r.count);
}
