use Rattle.std.proofs.Common.{ℕ, ◌+◌, codes, arith, ap, ◌∙◌}
use Rattle.olap_generate.{proofs.TextLemmas.{rows_more, same_row}, specs.Members.{named_row, numbered, store_row}}
use Rattle.olap_generate.proofs.members.add_stores.Goals as goal

pub stores-preserved : goal.stores-preserved
stores-preserved c = record {
  text = rows_more (store_row c.args.input.now.seed c.args.input.now.size) 1 c.stores.k (c.stores.k + 1) (omega arith)
      c.args.out.now.text c.stores.out.text c.add.new.out.text
      (named_row c.deref.result.now (codes "Store") c.deref-in-stores.result.now c.deref-in-stores-2.result.now)
      (same_row (codes "Store") _ _ _ _ _ _ (c.deref.ensures ∙ c.in_ok-id.ensures.ok)
      (c.deref-in-stores.ensures ∙ c.in_ok-id.ensures.ok)
      (c.deref-in-stores-2.ensures ∙ c.in_ok-city.ensures.ok
      ∙ ap (λ (n : ℕ). numbered (codes "c") n) c.city.ensures)) c.stores.invariant.text c.in_ok-add.ensures.text;
  width = c.in_ok-add.ensures.width;
}
