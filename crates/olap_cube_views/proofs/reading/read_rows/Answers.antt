-- One record more, which passes or has the first fault.
use Rattle.std.proofs.{Common.{◌≡◌, ◌∷◌, ◌++◌, [], length, length-append, map, arith, rules}, lemmas.List.map-append}
use Rattle.std.proofs.lemmas.Result.{err_from_is_err_and}
use Rattle.olap_records.proofs.Seeing.{see-more}
use Rattle.olap_cube_views.proofs.CubeReadingLemmas.{cube_facts_more, cube_table_more, same_length, told_cause}
use Rattle.olap_cube_views.specs.{CubeFactText.{cube_fact_fault, cube_fact_read}, Dimensions.{graphs_of, instances_of}}
use Rattle.olap_cube_views.specs.Seen.{cube_fact_of}
use Rattle.olap_cube_views.proofs.reading.read_rows.Goals as goal

pub rows-preserved : goal.rows-preserved
rows-preserved c =
    let gs = graphs_of c.args.graphs.now in
    let is = instances_of c.args.instances.now in
    let left = rw c.if-branch.true at c.in_ok-advance.ensures in
    let same = same_length cube_fact_of (cube_fact_read is) old seen inv.facts in
    let size : length c.rows.invariant.seen ≡ c.len.result = search rules in
    let says = c.in_ok-fact.ensures.fact seen size in
    rw c.in_ok-push.ensures.items (record {
      seen = seen ++ row ∷ [];
      has_seen = see-more (cube_fact_fault gs is) c.args.rows.now.left seen c.rows.rows.left c.advance.new.self.left row
          inv.has_seen left says.0;
      facts = cube_facts_more is seen row old f inv.facts says.1;
      table = rw map-append
          (cube_table_more gs is (map cube_fact_of old) (cube_fact_of f) inv.table c.in_ok-fact.ensures.bottom);
      few = omega (arith, length-append old (f ∷ []), same, size, c.in_ok-fact.ensures.few);
    })
  where
    open c use {
      rows.invariant as inv,
      rows.invariant.seen,
      rows.facts.items as old,
      advance.new.self.row,
      in_ok-fact.fact as f,
    }

pub returns-in_err-fact-clause-facts : goal.returns-in_err-fact-clause-facts
returns-in_err-fact-clause-facts c =
    let gs = graphs_of c.args.graphs.now in
    let is = instances_of c.args.instances.now in
    let left = rw c.if-branch.true at c.in_ok-advance.ensures in
    let same = same_length cube_fact_of (cube_fact_read is) c.rows.facts.items seen inv.facts in
    let size : length c.rows.invariant.seen ≡ c.len.result = search rules in
    let p = err_from_is_err_and c.from_residual-in_err-fact.result c.from_residual-in_err-fact.ensures.1 in
    rw (p.1, p.2) (told_cause (cube_fact_fault gs is) c.args.rows.now.left seen c.rows.rows.left c.advance.new.self.left
    c.advance.new.self.row c.len.result c.in_err-fact.field-0.0 inv.has_seen left size
    (c.in_err-fact.ensures.fact seen size))
  where
    open c use {rows.invariant as inv, rows.invariant.seen}
