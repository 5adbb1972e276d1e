-- A fact that reaches a tuple, and one that reaches none.
use Rattle.std.proofs.{Common.{◌≡◌, ◌∷◌, ◌++◌, [], ℕ, List, ap, refl, rules, w64}, lemmas.Int.to_z-of_z}
use Rattle.std.specs.Prelude.{OnOk, Result, Ok, Err}
use Rattle.olap_base.specs.Summaries.{of_value}
use Rattle.olap_cube_views.proofs.{CubeTallyLemmas.{fact_apart, fact_joined}, SumLemmas.within_more}
use Rattle.olap_cube_views.specs.{CubeTallies.{entries_of, summary_at}, Seen.fact_at}
use mir.Val.{SFits}
use Rattle.olap_cube_views.proofs.tallies.add_fact.Goals as goal

on_ok : {T E : Type 0} (o : Result T E) (P Q : Type 0) → (P → Q) → OnOk o P → OnOk o Q
on_ok (Ok x) P Q f p = f p
on_ok (Err e) P Q f p = p

pub returns-in-Some-clause-stands : goal.returns-in-Some-clause-stands
returns-in-Some-clause-stands c =
    let columns = c.args.columns.now in
    let old = c.args.sums.now.rows.items in
    let new = c.add.new.self.rows.items in
    let reached = c.in-Some.ensures.some in
    let fits : SFits w64 c.args.value = search rules in
    on_ok c.add.result _ _
    (λ (h : (q : List ℕ) → summary_at (entries_of new) q
    ≡ summary_at (entries_of old ++ (c.in-Some.key.places, of_value _) ∷ []) q).
    fact_joined columns old new (fact_at c.args.members.now c.args.value) reached.0 c.in-Some.key.places
    (c.in-Some.key.places, of_value _) c.requires.few reached.1 reached.2
    (ap (λ v. (c.in-Some.key.places, of_value v)) (to_z-of_z w64 c.args.value fits)) h)
    c.add.ensures.ok

pub returns-in-None-clause-stands : goal.returns-in-None-clause-stands
returns-in-None-clause-stands c =
    let columns = c.args.columns.now in
    fact_apart columns c.args.sums.now.rows.items (fact_at c.args.members.now c.args.value)
    (c.in-None.ensures.none refl)

pub returns-in-None-clause-within : goal.returns-in-None-clause-within
returns-in-None-clause-within c = λ n w. within_more n (entries_of c.args.sums.now.rows.items) w
