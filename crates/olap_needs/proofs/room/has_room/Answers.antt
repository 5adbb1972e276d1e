use Rattle.std.proofs.Common.{◌≡◌, ◌∙◌, ◌+◌, ◌*◌, ◌<◌, ◌≤◌, length, ap, arith, subst, sym}
use Rattle.std.{proofs.lemmas.Bool.{false≢true, le-leb, leb-true}, proofs.lemmas.List.length-map, specs.Prelude.sum_by}
use Rattle.olap_ast.specs.{Schema.Constraint, Trees.constraint_of, Valid.node_count}
use Rattle.olap_base.specs.Limits.{most_constraints, most_nodes, most_schema_nodes}
use Rattle.olap_schema.specs.Schemas.{schema_of}
use Rattle.olap_needs.proofs.RoomLemmas.{room_exactly}
use Rattle.olap_needs.proofs.room.has_room.Goals as goal

pub returns-then-not-are_small : goal.returns-then-not-are_small
returns-then-not-are_small c = λ target ss bs so many.
    let s = schema_of c.args.schema.now in
    let exactly = room_exactly s target ss bs c.constraints-constraints.ensures.valid.nodes_fit in
    let some = c.are_small.ensures.some c.if-not-are_small.true in
    let large = c.are_small.ensures.many c.if-not-are_small.true in (
      λ yes. absurd (false≢true yes),
      λ room. let small = (exactly.0 room).1 (omega (arith, some, many)) in absurd (omega (arith, small, large, so)),
    )

pub returns : goal.returns
returns c = λ target ss bs so many.
    let s = schema_of c.args.schema.now in
    let list = c.constraints-constraints.ensures.list in
    let count = ap length list in
    let as_many = length-map stored constraint_of in
    let short = c.constraints-constraints.ensures.few in
    let few : length s.constraints + length bs ≤ most_constraints = omega (arith, count, as_many, short, test, many) in
    let total : c.from.result ≡ sum_by (λ (d : Constraint). node_count d.formula) s.constraints =
    c.from.ensures ∙ c.count.ensures ∙ ap (sum_by (λ (d : Constraint). node_count d.formula)) list in
    let nodes : c.from.result + c.args.needed * (3 + c.args.sources)
    ≡ sum_by (λ (d : Constraint). node_count d.formula) s.constraints + length bs * (3 + length ss) =
    λ i. total i + sym many i * (3 + sym so i) in
    let each : 0 < length bs → 3 + length ss ≤ most_nodes =
    λ l.
    let small = c.are_small.ensures.few c.if-not-are_small.false (omega (arith, l, many)) in
    omega (arith, small, so) in
    let exactly = room_exactly s target ss bs c.constraints-constraints.ensures.valid.nodes_fit in (
      λ yes.
          exactly.1 (few, each, subst (λ n. n ≤ most_schema_nodes) nodes (leb-true _ most_schema_nodes yes)),
      λ room. le-leb _ most_schema_nodes (subst (λ n. n ≤ most_schema_nodes) (sym nodes) (exactly.0 room).2),
    )
  where
    open c use {constraints-constraints.result.now as stored, if-needed-constraints.false as test}
