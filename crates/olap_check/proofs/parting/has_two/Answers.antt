-- A marked member is the first or the second.
use Rattle.std.proofs.Common.{◌≡◌, ◌≤◌, true, false, length, sym, ◌∙◌, arith}
use Rattle.olap_check.proofs.SplitLemmas.{found_more, found_first, found_none}
use Rattle.olap_check.proofs.parting.has_two.Goals.{then-seen-y+then-category+else-is_some, else-seen-y, else-seen-y-via-then-seen-y+else-category, else-seen-y-via-else-seen-y}
use Rattle.olap_check.proofs.parting.has_two.Goals as goal

pub members-preserved : goal.members-preserved
members-preserved c =
    let i = c.args.instance.now in
    elim c.if-seen-y.branch [
      | then-seen-y+then-category+else-is_some w ↦
          rw w.one-is (found_first i c.args.seen.now c.args.category c.members.y c.members.one
          (sym w.is_some.ensures ∙ w.if-is_some.false) w.if-seen-y.true
          (sym w.category.ensures ∙ w.if-category.true) c.members.invariant)
      | else-seen-y w ↦
          rw w.one-is (found_more i c.args.seen.now c.args.category c.members.y c.members.one
          (λ m e. elim w.else-seen-y.branch [
            | else-seen-y-via-then-seen-y+else-category v ↦ v.if-category.false (v.category.ensures ∙ e)
            | else-seen-y-via-else-seen-y v ↦ (let t : false ≡ true = sym v.if-seen-y.false ∙ m in cc)
          ]) c.members.invariant)
    ]

pub returns : goal.returns
returns c =
    let count = c.members-y-end.ensures.count in
    let s : length c.args.seen.now ≤ c.members.y = omega (arith, count, c.members-test.false, c.requires) in
    found_none c.args.instance.now c.args.seen.now c.args.category c.members.y c.members.one s c.members.invariant
