-- The views of one fact of value 1.
use Rattle.olap_base.proofs.{RollingLemmas.{direct_of_one, merged_of_one, times_same}, RollingTotals.By}
use Rattle.olap_base.{proofs.ViewLemmas.{is_member_of, members_roll, via_is_by}, specs.Instance.ReachesVia}
use Rattle.olap_base.specs.{OneFact.OneFactsViews, Reaching.reaches_is, Views.members}

-- the direct view has 1 at the member, the view from the sources has the number of sources
pub one_facts_views : OneFactsViews
one_facts_views g i w c x y m r sources n h =
    let e = (reaches_is i x y).1 r in let k = is_member_of i c y m in let roll = members_roll g i w in (
      direct_of_one (members i) roll c x y k e,
      merged_of_one (members i) roll c x y k e sources n
          (times_same (λ s. ReachesVia i x s c) (λ s. By (members i) x s y) (via_is_by g i w c x y m e) sources n h),
    )
