-- One fact more.
use Rattle.std.proofs.Common.{◌≡◌, ◌+◌, ◌≤◌, ◌∷◌, ◌++◌, [], ℕ, ℤ, List, ap, sym, subst, arith, rules, w64}
use Rattle.std.proofs.lemmas.Int.{to_z-of_z}
use Rattle.olap_base.specs.{Limits.most_count, Views.Fact, declared.ids.MemberId.MemberId}
use Rattle.olap_view.specs.Columns.{Ascent}
use Rattle.olap_cube_views.proofs.{CubeTallyLemmas.{tally_more, tally_same}, SumLemmas.within_most}
use Rattle.olap_cube_views.specs.{CubeTallies.{CubeStandsFor, CubeTallied, entries_of, tallied}, Seen.fact_at}
use mir.Val.{SFits}
use Rattle.olap_cube_views.specs.declared.views.CubeRow as told
use Rattle.olap_cube_views.proofs.tallies.CubeTally.add.Goals as goal

pub add_fact-requires-clause-within : goal.add_fact-requires-clause-within
add_fact-requires-clause-within c =
    let a = c.self.inside in
    within_most a.added most_count (entries_of a.sums.rows.items) c.self.invariant.few c.self.invariant.within

-- where the columns and the value are those of the tally and the fact
given_back : (columns old : List Ascent) (ms : List MemberId) (v w : ℤ) (before after : List told.CubeRow)
    (n : ℕ) (facts : List (Fact (List ℕ))) → columns ≡ old → v ≡ w
    → ((m : ℕ) (fs : List (Fact (List ℕ))) → CubeStandsFor (tallied columns before m) fs
    → CubeStandsFor (tallied columns after (m + 1)) (fs ++ fact_at ms v ∷ []))
    → CubeStandsFor (tallied old before n) facts
    → CubeStandsFor (tallied old after (n + 1)) (facts ++ fact_at ms w ∷ [])
given_back columns old ms v w before after n facts e g more s =
    subst (λ (z : ℤ). CubeStandsFor (tallied old after (n + 1)) (facts ++ fact_at ms z ∷ [])) g
    (subst (λ (cs : List Ascent). CubeStandsFor (tallied cs after (n + 1)) (facts ++ fact_at ms v ∷ [])) e
    (more n facts (subst (λ (cs : List Ascent). CubeStandsFor (tallied cs before n) facts) (sym e) s)))

pub invariant_of-self : goal.invariant_of-self
invariant_of-self c =
    let a = c.self.inside in
    tally_same (tallied a.columns.items a.sums.rows.items a.added) c.self.invariant
    (entries_of c.add_fact.new.sums.rows.items) c.in_err-add_fact.ensures.err
    (c.in_err-add_fact.ensures.left a.added c.self.invariant.within)

pub invariant_of-self-2 : goal.invariant_of-self-2
invariant_of-self-2 c =
    let few : c.self.inside.added + 1 ≤ most_count =
    let r = c.requires.room in let e = ap (λ (t : CubeTallied). t.added) c.self.view_is in omega arith in
    let fits : SFits w64 c.args.value = search rules in
    tally_more (tallied a.columns.items a.sums.rows.items a.added) c.self.invariant
    (fact_at c.args.members.now c.args.value) (entries_of new) few fits
    (c.in_ok-add_fact.ensures.within a.added c.self.invariant.within)
    (given_back c.deref.result.now a.columns.items c.args.members.now _ c.args.value a.sums.rows.items new a.added
    c.self.invariant.facts c.deref.ensures.value (to_z-of_z w64 c.args.value fits) c.in_ok-add_fact.ensures.stands
    c.self.invariant.stands)
  where
    open c use {self.inside as a, add_fact.new.sums.rows.items as new}

pub returns-clause-stands : goal.returns-clause-stands
returns-clause-stands c = λ facts s.
    let a = c.self.inside in
    let fits : SFits w64 c.args.value = search rules in
    given_back c.deref.result.now a.columns.items c.args.members.now _ c.args.value a.sums.rows.items
    c.add_fact.new.sums.rows.items a.added facts c.deref.ensures.value (to_z-of_z w64 c.args.value fits)
    c.in_ok-add_fact.ensures.stands (subst (λ (t : CubeTallied). CubeStandsFor t facts) (sym c.self.view_is) s)
