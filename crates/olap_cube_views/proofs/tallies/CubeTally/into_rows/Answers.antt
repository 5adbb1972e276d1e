-- The joined rows are those of the direct view.
use Rattle.std.{proofs.Common.{◌≡◌, List, length, subst}, specs.Prelude.{ℕ, All}}
use Rattle.olap_base.specs.{Limits.most_count, Views.{Fact, direct_rows}}
use Rattle.olap_cube.specs.CubeViews.{tuples}
use Rattle.olap_cube_views.proofs.{CubeTallyLemmas.{direct_members, told_rows}, SumLemmas.within_most}
use Rattle.olap_cube_views.specs.CubeTallies.{AreMembers, CubeStandsFor, CubeTallied, entries_of, tallied}
use Rattle.olap_cube_views.specs.Seen.{cube_rows_of}
use Rattle.olap_cube_views.proofs.tallies.CubeTally.into_rows.Goals as goal

pub join_rows-requires : goal.join_rows-requires
join_rows-requires c =
    let a = c.self.inside in
    within_most a.added most_count (entries_of a.sums.rows.items) c.self.invariant.few c.self.invariant.within

pub returns-clause-rows : goal.returns-clause-rows
returns-clause-rows c =
    let t = tallied a.columns.items a.sums.rows.items a.added in
    subst (λ (u : CubeTallied). (facts : List (Fact (List ℕ))) → CubeStandsFor u facts
    → cube_rows_of (length u.instances) rows ≡ direct_rows (tuples u.instances) u.target facts) c.self.view_is
    (λ facts s. told_rows t facts rows c.self.invariant.dimensions s c.join_rows.ensures.same
    c.join_rows.ensures.order)
  where
    open c use {self.inside as a, join_rows.new.rows.items as rows}

pub returns-clause-members : goal.returns-clause-members
returns-clause-members c =
    let t = tallied a.columns.items a.sums.rows.items a.added in
    subst (λ (u : CubeTallied). All (λ r. AreMembers u.instances r.at) (cube_rows_of (length u.instances) rows))
    c.self.view_is
    (direct_members t.instances t.target c.self.invariant.facts (cube_rows_of (length t.instances) rows)
    (told_rows t c.self.invariant.facts rows c.self.invariant.dimensions c.self.invariant.stands
    c.join_rows.ensures.same c.join_rows.ensures.order))
  where
    open c use {self.inside as a, join_rows.new.rows.items as rows}
