use Rattle.std.proofs.Common.{◌≡◌, ◌∙◌, ap, arith}
use Rattle.olap_ast.specs.Trees.{numbers_of}
use Rattle.olap_base.specs.Graph.{category_count}
use Rattle.olap_schema.specs.Schemas.{schema_of}
use Rattle.olap_needs.proofs.ListingLemmas.{all_listed, none_listed}
use Rattle.olap_needs.proofs.needing.needed.Goals as goal

pub categories-init : goal.categories-init
categories-init c = record {
  listed = none_listed (schema_of c.args.schema.now) c.args.target.0 (numbers_of c.args.sources.now) _
      c.new.ensures.items c.new-2.ensures.items;
}

pub returns : goal.returns
returns c =
    let s = schema_of c.args.schema.now in
    let same = c.categories-b-end.ensures.count ∙ ap category_count c.graph.ensures in
    let all : category_count s.graph ≡ c.categories.b = omega (arith, same, last, over) in
    all_listed s c.args.target.0 (numbers_of c.args.sources.now) c.needs_leave_members.ensures c.categories.b
    c.categories.needs all c.categories.invariant.listed
  where
    open c use {categories.auto.b-end as last, categories-test.false as over}
