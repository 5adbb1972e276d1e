use Rattle.std.proofs.Common.{Ok, ap, map, sym, ◌∙◌, ◌≡◌}
use Rattle.olap_ast.specs.Trees.{constraint_of}
use Rattle.olap_graph.specs.declared.refusals.NoWayToAll.{NoWayToAll}
use Rattle.olap_schema_text.{proofs.StuckLemmas.{whole_is, whole_not}, specs.Reading.above_of}
use Rattle.olap_schema_text.proofs.texts.finish.Goals as goal

pub returns-in-Ok : goal.returns-in-Ok
returns-in-Ok c = whole_is (above_of c.args.reading) _ _ c.in-Ok.ensures.ok c.in-Ok.ensures.way
    (ap (map constraint_of) c.from_vec.ensures)
    ∙ ap Ok (sym c.new.ensures)

pub returns-in-Err-Kind : goal.returns-in-Err-Kind
returns-in-Err-Kind c =
    let e : c.in-Err-Kind.field-0-0.0 ≡ c.in-Err-Kind.c = ap (λ (k : NoWayToAll). k.0) (sym c.in-Err-Kind.field-0-0-is)
    ∙ c.in-Err-Kind.c-is in
    let way = rw (c.in-Err-Kind.field-0-is, e) at c.in-Err-Kind.ensures.err in
    whole_not (above_of c.args.reading) c.in-Err-Kind.c.0 _ way
    (rw (c.deref.ensures.value, c.in-Err-Kind.c-is) at c.line_of.ensures)

pub new-requires : goal.new-requires
new-requires c =
    c.requires _
    (whole_is (above_of c.args.reading) _ _ c.in-Ok.ensures.ok c.in-Ok.ensures.way
    (ap (map constraint_of) c.from_vec.ensures))
