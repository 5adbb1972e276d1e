use Rattle.std.proofs.Common.{arith, refl, ◌∙◌}
use Rattle.olap_generate.{proofs.TextLemmas.{rows_more, same_row}, specs.Members.{named_row, numbered, row}}
use Rattle.olap_generate.proofs.members.add_below.Goals as goal

pub members-preserved : goal.members-preserved
members-preserved c = record {
  text = rows_more (λ k. row (numbered c.args.letter.now k) c.args.category.now c.args.parent.now) 0
      c.members.k-counter (c.members.k-counter) (omega arith)
      c.args.out.now.text c.members.out.text c.add.new.out.text
      (named_row c.deref.result.now c.args.category.now c.deref-in-members.result.now c.args.parent.now)
      (same_row c.args.category.now _ _ _ _ _ _ (c.deref.ensures ∙ c.in_ok-id.ensures.ok)
      (c.deref-in-members.ensures ∙ c.in_ok-id.ensures.ok) refl) c.members.invariant.text c.in_ok-add.ensures.text;
  width = c.in_ok-add.ensures.width;
}
