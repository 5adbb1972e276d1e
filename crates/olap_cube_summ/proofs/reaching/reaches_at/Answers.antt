-- A way in the rows is one in the instance.
use Rattle.std.proofs.{Common.{◌≡◌, ◌<◌, ℕ, List, length, get_or, map, sym, ap, ◌∙◌, arith}, lemmas.List.get_or-map}
use Rattle.olap_base.specs.declared.ids.CatId.{CatId}
use Rattle.olap_cube.specs.{Told.tuple_of, declared.tuples.Tuple.Tuple}
use Rattle.olap_cube_summ.proofs.{PlaceLemmas.{counted, drawn_count}, ReachingLemmas.way_at}
use Rattle.olap_cube_summ.specs.Dimensions.{AreCategoriesOf, schemas_of}
use Rattle.olap_ast.specs.Schema.{Schema}
use Rattle.olap_cube_summ.proofs.reaching.reaches_at.Goals as goal

-- a tuple has as many categories as there are dimensions
as_many : (ss : List Schema) (t : Tuple) (items : List CatId) → items ≡ t.categories → AreCategoriesOf ss (tuple_of t)
    → length items ≡ length ss
as_many ss t items e a = ap length e ∙ counted ss t.categories a

-- its i-th
here : (ss : List Schema) (t : Tuple) (items : List CatId) (i : ℕ) (d : CatId) → items ≡ t.categories
    → AreCategoriesOf ss (tuple_of t) → i < length ss → (get_or items i d).0 ≡ get_or (tuple_of t) i 0
here ss t items i d e a l =
    sym (get_or-map (λ (c : CatId). c.0) items i d 0 (omega (arith, as_many ss t items e a)))
    ∙ ap (λ (xs : List CatId). get_or (map (λ (c : CatId). c.0) xs) i 0) e

pub bounds-founds-i : goal.bounds-founds-i
bounds-founds-i c = omega (
  arith,
  c.requires.inside,
  (drawn_count (schemas_of c.args.cube.now) c.args.founds.now c.args.rooms.now c.requires.drawn).0,
)

pub bounds-rooms-i : goal.bounds-rooms-i
bounds-rooms-i c = omega (
  arith,
  c.requires.inside,
  (drawn_count (schemas_of c.args.cube.now) c.args.founds.now c.args.rooms.now c.requires.drawn).1,
)

pub bounds-from-i : goal.bounds-from-i
bounds-from-i c = omega (
  arith,
  c.requires.inside,
  as_many (schemas_of c.args.cube.now) c.args.source.now c.items-from.result.now c.items-from.ensures c.requires.source,
)

pub bounds-to-i : goal.bounds-to-i
bounds-to-i c = omega (
  arith,
  c.requires.inside,
  as_many (schemas_of c.args.cube.now) c.args.target.now c.items-to.result.now c.items-to.ensures c.requires.target,
)

pub is_way-requires-clause-root : goal.is_way-requires-clause-root
is_way-requires-clause-root c =
    let w = way_at _ _ _ (tuple_of c.args.source.now) (tuple_of c.args.target.now) c.args.i c.index-founds-i.result _
    c.requires.drawn c.requires.source c.requires.inside c.index-founds-i.is c.index-rooms-i.is in
    omega (arith, w.root, ap length c.deref.ensures.value)

pub is_way-requires-clause-source : goal.is_way-requires-clause-source
is_way-requires-clause-source c =
    let w = way_at _ _ _ (tuple_of c.args.source.now) (tuple_of c.args.target.now) c.args.i c.index-founds-i.result _
    c.requires.drawn c.requires.source c.requires.inside c.index-founds-i.is c.index-rooms-i.is in
    let at = here _ c.args.source.now c.items-from.result.now c.args.i (record { 0 = 0 }) c.items-from.ensures
    c.requires.source c.requires.inside in
    omega (arith, w.source, at, ap length c.deref.ensures.value)

pub returns : goal.returns
returns c =
    let w = way_at _ _ _ (tuple_of c.args.source.now) (tuple_of c.args.target.now) c.args.i c.index-founds-i.result _
    c.requires.drawn c.requires.source c.requires.inside c.index-founds-i.is c.index-rooms-i.is in
    let at = here _ c.args.source.now c.items-from.result.now c.args.i (record { 0 = 0 }) c.items-from.ensures
    c.requires.source c.requires.inside in
    let to = here _ c.args.target.now c.items-to.result.now c.args.i (record { 0 = 0 }) c.items-to.ensures
    c.requires.target c.requires.inside in
    let told = rw (to, at, c.deref.ensures.value) at c.is_way.ensures in
    (λ e d. (w.ways d).0 (told.0 e), λ h. told.1 ((w.ways c.index-founds-i.result).1 (h c.index-founds-i.result)))
