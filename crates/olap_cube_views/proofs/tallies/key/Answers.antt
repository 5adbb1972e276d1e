-- One dimension more, in which a member is reached or none.
use Rattle.std.proofs.{Common.{◌+◌, ◌<◌, ◌≤◌, ◌∷◌, length, drop, refl, sym, ap, ◌∙◌, arith}, lemmas.List.drop_more}
use Rattle.olap_view.specs.Columns.{Ascent}
use Rattle.olap_cube.specs.Limits.{most_dimensions}
use Rattle.olap_cube_views.proofs.AncestorLemmas.{as_many, key_end, key_more, none_reached}
use Rattle.olap_cube_views.proofs.tallies.key.Goals as goal

pub dimensions-preserved : goal.dimensions-preserved
dimensions-preserved c =
    let n = as_many columns members c.requires.members in
    let here : k < length columns = omega arith in
    let there : k < length members = omega arith in
    let few : k < most_dimensions = let f = c.requires.few in omega arith in
    key_more columns members k c.dimensions.key c.dimensions.invariant a _
    (drop_more columns k a here ∙ ap (λ (u : Ascent). u ∷ drop (k + 1) columns) (sym c.index-columns-k.is))
    (drop_more members k (record { 0 = 0 }) there) c.in-Some.y.0 _ few c.in-Some.ensures.some refl
  where
    open c use {args.columns.now as columns, args.members.now as members, dimensions.k, index-columns-k.result as a}

pub returns-in-None-clause-none : goal.returns-in-None-clause-none
returns-in-None-clause-none c = λ e.
    let n = as_many columns members c.requires.members in
    let here : k < length columns = omega arith in
    let there : k < length members = omega arith in
    none_reached columns members k c.dimensions.key c.dimensions.invariant a _
    (drop_more columns k a here ∙ ap (λ (u : Ascent). u ∷ drop (k + 1) columns) (sym c.index-columns-k.is))
    (drop_more members k (record { 0 = 0 }) there) (c.in-None.ensures.none refl)
  where
    open c use {args.columns.now as columns, args.members.now as members, dimensions.k, index-columns-k.result as a}

pub returns-clause-some : goal.returns-clause-some
returns-clause-some c =
    let columns = c.args.columns.now in
    let l : length columns ≤ c.dimensions.k = omega arith in
    key_end columns c.args.members.now c.dimensions.k c.dimensions.key c.requires.members l c.dimensions.invariant
