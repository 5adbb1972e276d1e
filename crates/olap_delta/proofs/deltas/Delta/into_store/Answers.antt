-- The views of the table are a store, in file order.
use Rattle.std.{proofs.Common.{◌≡◌, List, ap, sym, subst, ◌∙◌}, specs.Prelude.{ℕ, All}}
use Rattle.olap_base.specs.{Instance.Instance, Views.View}
use Rattle.olap_view.specs.{Stores.{IsInFileOrder, IsSoundStore}, SummaryTables.views_at}
use Rattle.olap_delta.{proofs.StorableLemmas.{table_order, table_sound}, specs.Changing.Delta}
use Rattle.olap_delta.proofs.deltas.Delta.into_store.Goals as goal

pub returns-clause-sound : goal.returns-clause-sound
returns-clause-sound c = λ g before e s.
    let t = c.self.inside.table in
    let i : t.instance ≡ c.args.self.instance = ap (λ (d : Delta). d.instance) c.self.view_is in
    let k : t.categories ≡ c.args.self.categories = ap (λ (d : Delta). d.categories) c.self.view_is in
    subst (λ (vs : List (View ℕ ℕ)). IsSoundStore g c.args.self.instance vs) (sym c.in_ok-views.ensures.views)
    (subst (λ (j : Instance). IsSoundStore g j (views_at t)) i
    (table_sound g t before (k ∙ e) c.self.invariant (subst (λ (j : Instance). IsSoundStore g j before) (sym i) s)))

pub returns-clause-order : goal.returns-clause-order
returns-clause-order c =
    let t = c.self.inside.table in
    let i : t.instance ≡ c.args.self.instance = ap (λ (d : Delta). d.instance) c.self.view_is in
    subst (λ (vs : List (View ℕ ℕ)). All (IsInFileOrder c.args.self.instance) vs) (sym c.in_ok-views.ensures.views)
    (subst (λ (j : Instance). All (IsInFileOrder j) (views_at t)) i (table_order t))
