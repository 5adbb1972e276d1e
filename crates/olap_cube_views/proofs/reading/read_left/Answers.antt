-- The facts of the vector are those of the table.
use Rattle.std.proofs.{Common.{◌≡◌, ◌∙◌, List, [], drop, length, sym, subst, true, rules}, lemmas.List.length-map}
use Rattle.std.{proofs.lemmas.Result.err_from_is_err_and, specs.Borrow.Bor, specs.Prelude.All}
use Rattle.olap_base.specs.Instance.{Instance}
use Rattle.olap_records.specs.{Faults.first_fault, Tables.begins_with}
use Rattle.olap_cube_views.proofs.CubeReadingLemmas.{cube_table_members, fault_behind}
use Rattle.olap_cube_views.specs.{CubeFactText.{cube_fact_fault, header}, CubeRefusals.IsFaultCause}
use Rattle.olap_cube_views.specs.{CubeTallies.AreMembers, Dimensions.{graphs_of, instances_of}, Seen.members_of}
use Rattle.olap_cube_views.specs.declared.tables.CubeFact as told
use Rattle.olap_cube_views.proofs.reading.read_left.Goals as goal

pub returns-clause-members : goal.returns-clause-members
returns-clause-members c =
    let is = instances_of c.args.instances.now in
    subst (λ (fs : List told.CubeFact). All (λ f. AreMembers is (members_of f.members)) fs) (sym c.from_vec.ensures)
    (cube_table_members (graphs_of c.args.graphs.now) is c.in_ok-facts.facts.items
    c.in_ok-facts.ensures.table)

pub returns-in_err-facts-clause-read : goal.returns-in_err-facts-clause-read
returns-in_err-facts-clause-read c =
    let gs = graphs_of c.args.graphs.now in
    let is = instances_of c.args.instances.now in
    let records = c.args.rows.now.left in
    let stop = err_from_is_err_and c.from_residual-in_err-facts.result c.from_residual-in_err-facts.ensures.1 in
    let count = length-map c.args.instances.now (λ (i : Bor Instance). i.now) in
    let found : begins_with (header (length is)) records ≡ true =
    subst (λ n. begins_with (header n) records ≡ true) (sym count)
    (sym c.in_ok-begins.ensures.header ∙ c.if-not-branch.false) in
    let cause : IsFaultCause (first_fault (cube_fact_fault gs is) [] (drop 1 records)) c.in_err-facts.field-0.0 =
    search rules in
    rw (stop.1, stop.2) (fault_behind gs is records found c.in_err-facts.field-0.0 cause)
