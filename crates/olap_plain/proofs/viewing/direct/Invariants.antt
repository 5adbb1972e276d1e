use Rattle.std.{proofs.Common.◌≡◌, specs.List.range_with_len, specs.Prelude.{filter_map, filter, ◌==◌}}
use Rattle.olap_base.specs.{Instance.category_of, Views.{members, row_at, total_of_facts}}
use Rattle.olap_plain.specs.Plain.{instance_of, facts_of, rows_of}
use Rattle.olap_plain.proofs.viewing.direct.Given as goal

abbrev pub invariant-loop-y : goal.invariant-loop-y
invariant-loop-y l = rows_of l.rows.items ≡ filter_map
    (λ y. row_at y (total_of_facts (members (instance_of l.members)) (facts_of l.facts) y))
    (filter (λ y. category_of (instance_of l.members) y == l.c) (range_with_len 0 l.y))
