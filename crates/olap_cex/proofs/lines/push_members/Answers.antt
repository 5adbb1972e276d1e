-- A present category's text is appended, and an absent one's isn't.
use Rattle.std.proofs.Common.{sym, ap, ◌∙◌, arith}
use Rattle.olap_ast.specs.Frozen.{chosen}
use Rattle.olap_cex.proofs.LineLemmas.{texts_less, texts_more}
use Rattle.olap_cex.proofs.lines.push_members.Goals.{then-is_present+in_ok-push_member, else-is_present}
use Rattle.olap_cex.specs.FrozenText.{member_text}
use Rattle.olap_frozen.specs.LeastFound.{frozen_of}
use Rattle.olap_names.specs.Names.{candidates_of}
use Rattle.olap_cex.proofs.lines.push_members.Goals as goal

pub categories-preserved : goal.categories-preserved
categories-preserved c =
    let text = member_text g (candidates_of c.args.candidates.now) (frozen_of f) in
    let es = chosen g.edges f.edges in
    let tells = rw (c.ends_of-ends.ensures x, c.items.ensures) at c.is_present.ensures in
    elim c.if-is_present.branch [
      | then-is_present+in_ok-push_member w ↦ texts_more text f.root.0 es x c.args.out.now.items (omega arith)
          (sym tells ∙ w.if-is_present.true) c.categories.invariant
          (ap (λ o. o.items) w.out-is ∙ w.in_ok-push_member.ensures)
      | else-is_present w ↦ texts_less text f.root.0 es x c.args.out.now.items (omega arith)
          (sym tells ∙ w.if-is_present.false) c.categories.invariant (ap (λ o. o.items) w.out-is)
    ]
  where
    open c use {args.graph.now as g, args.frozen.now as f, categories.c as x}
