-- A member is `all`, has a parent, or is the first that lacks one.
use Rattle.std.proofs.Common.{◌∙◌, sym}
use Rattle.olap_check.proofs.LinkingLemmas.{orphan_more, not_empty}
use Rattle.olap_check.proofs.linking.first_orphan.Goals.{else-category-ne0-via-then-category-ne0+else-is_empty, else-category-ne0-via-else-category-ne0}
use Rattle.olap_check.proofs.linking.first_orphan.Goals as goal

pub members-preserved : goal.members-preserved
members-preserved c = elim c.else-category-ne0.branch [
  | else-category-ne0-via-then-category-ne0+else-is_empty w ↦
      orphan_more c.args.instance.now c.members.x c.members.invariant
      (λ o. not_empty w.parents.result.now _ w.is_empty.result w.is_empty.ensures w.if-is_empty.false
      w.parents.ensures.list o.1)
  | else-category-ne0-via-else-category-ne0 w ↦
      orphan_more c.args.instance.now c.members.x c.members.invariant
      (λ o. o.0 (sym c.category.ensures ∙ w.if-category-ne0.false))
]
