-- The lines with the sum of this many ones are the text.
use Rattle.std.{proofs.Common.{◌≡◌, ℕ, List, pos, sym, subst, ◌∙◌}, specs.Option.option_map}
use Rattle.olap_ast.specs.Schema.{Schema}
use Rattle.olap_cube.specs.Told.{tuple_of, tuples_in}
use Rattle.olap_cube_summ.{proofs.PlaceLemmas.founds_are, proofs.SumLemmas.text_is, specs.Dimensions.schemas_of}
use Rattle.olap_cube_summ.specs.{Drawn.AreFound, Found.IsCubeCounterexampleFound}
use Rattle.olap_frozen.specs.declared.founding.Found.{Found}
use Rattle.olap_cube_summ.proofs.printing.print_cube.Goals as goal

-- a counterexample's frozen dimensions are those of the dimensions
found : (ss : List Schema) (cs : List ℕ) (sources : List (List ℕ)) (fs items : List Found)
    → IsCubeCounterexampleFound ss cs sources fs → items ≡ fs → AreFound ss items
found ss cs sources fs items a e =
    subst (λ (hs : List Found). AreFound ss hs) (sym e) (founds_are ss cs fs a.is_one.is_one.chosen a.sized)

pub drawn_of_each-requires : goal.drawn_of_each-requires
drawn_of_each-requires c =
    found (schemas_of c.args.cube.now) (tuple_of c.args.target.now) (tuples_in c.args.sources.now)
    c.args.found.now.founds c.items-founds.result.now c.requires.found c.items-founds.ensures

pub lines-requires-clause-found : goal.lines-requires-clause-found
lines-requires-clause-found c =
    found (schemas_of c.args.cube.now) (tuple_of c.args.target.now) (tuples_in c.args.sources.now)
    c.args.found.now.founds c.items-founds.result.now c.requires.found c.items-founds.ensures

pub returns : goal.returns
returns c = record {
  text = c.from_vec.ensures ∙ rw (c.items-to.ensures, c.items-founds.ensures) at c.in_ok-out.ensures
      ∙ text_is (schemas_of c.args.cube.now) (tuple_of c.args.target.now) (tuples_in c.args.sources.now)
      c.args.found.now.founds c.in_ok-rooms.rooms.items c.requires.found
      (rw c.items-founds.ensures at c.in_ok-rooms.ensures) c.count_ways-ways.result
      (rw c.items-founds.ensures at c.count_ways-ways.ensures) (option_map pos c.sum_of-views.result)
      c.sum_of-views.ensures;
}
