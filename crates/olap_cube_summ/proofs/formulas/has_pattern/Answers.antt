use Rattle.std.proofs.{Common.{◌+◌, refl, arith}, lemmas.Grind.common_steps, lemmas.List.{get_or-map, length-map}}
use Rattle.std.specs.Prelude.{slice_index}
use Rattle.olap_base.specs.declared.ids.CatId.{CatId}
use Rattle.olap_ast.specs.Trees.{formula_of, numbers_of}
use Rattle.olap_cube_summ.proofs.FormulaLemmas.{all_sources, way_added}
use Rattle.olap_cube_summ.proofs.formulas.has_pattern.Goals as goal

pub sources-preserved : goal.sources-preserved
sources-preserved c =
    let column = numbers_of c.args.column.now in
    let few = length-map c.args.column.now (λ (x : CatId). x.0) in
    let at = get_or-map (λ (x : CatId). x.0) c.args.column.now c.sources.k c.args.target 0 l in
    record {
      says = rw c.in_ok-formula.ensures (way_added c.args.target.0 column c.args.pattern c.sources.k (c.sources.k + 1)
          refl (omega arith) (formula_of c.sources.formula) (formula_of c.in_ok-way.way)
          (slice_index column c.sources.k) refl (grind (arith, common_steps, at, told, bit)) c.sources.invariant.says);
    }
  where
    open c use {sources-test.true as l, in_ok-way.ensures as told, has_bit-is_way.ensures as bit}

pub returns : goal.returns
returns c = all_sources c.args.target.0 (numbers_of c.args.column.now) c.args.pattern c.sources.k
    (let few = length-map c.args.column.now (λ (x : CatId). x.0) in omega arith)
    (formula_of c.sources.formula) c.sources.invariant.says
