use Rattle.std.{proofs.Common.{◌∙◌, ap}, specs.List.join_with_byte}
use Rattle.olap_base.specs.{Bytes.semicolon, Instance.member_at}
use Rattle.olap_graph.specs.Lookups.{name_of_category}
use Rattle.olap_instance.proofs.PrintingLemmas.{inside-all, parents-named, row-same, same-fields}
use Rattle.olap_instance.proofs.printing.print_member.Goals as goal

pub joined-requires : goal.joined-requires
joined-requires c = search inside-all

pub returns-clause-text : goal.returns-clause-text
returns-clause-text c =
    let m = member_at i c.args.m.0 in
    let category = c.bytes-category.ensures ∙ (c.name.ensures ∙ ap (name_of_category g) c.category.ensures) in
    let parents =
    c.deref.ensures.value
    ∙ (c.in_ok-parents.ensures
    ∙ ap (join_with_byte semicolon) (parents-named i c.parents.result.now m c.parents.ensures.list)) in
    let fields = same-fields g i m _ _ _ _ c.id.ensures category c.name-2.ensures parents in
    row-same c.row.result c.args.out.now.text c.row.new.self.text _ _ fields c.row.ensures.text
  where
    open c use {args.graph.now as g, args.instance.now as i}
