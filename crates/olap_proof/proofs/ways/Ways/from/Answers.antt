-- The table says which ways are there.
use Rattle.std.{proofs.Common.{◌≡◌, ◌∙◌, List, ap, map, subst, sym}, specs.Prelude.Contains}
use Rattle.olap_bits.specs.Sets.{members}
use Rattle.olap_graph.specs.Rows.{row}
use Rattle.olap_proof.{proofs.KeptWayLemmas.leads_is, specs.KeptWays.{leading_way, way_kept}, specs.Places.Way}
use Rattle.olap_proof.specs.Walking.{IsIn}
use Rattle.olap_proof.proofs.ways.Ways.from.Goals as goal

pub returns : goal.returns
returns c = λ d.
    let is = leads_is a.there.items a.absent.items (map way_kept a.list.items) kept.once kept.said k d in
    let same : members c.row_of.result ≡ row a.there.items k =
    c.row_of.ensures ∙ ap (λ rows. row rows k) c.deref.ensures.value in (
      λ h. subst (λ (ws : List Way). Contains ws (leading_way k d)) c.self.view_is
          (is.0 (subst (λ s. IsIn s d) same h)),
      λ m. subst (λ s. IsIn s d) (sym same)
          (is.1 (subst (λ (ws : List Way). Contains ws (leading_way k d)) (sym c.self.view_is) m)),
    )
  where
    open c use {self.inside as a, self.invariant as kept, args.child.0 as k}
