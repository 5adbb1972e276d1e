-- A word with as many names as dimensions is looked up.
use Rattle.std.proofs.Common.{◌≡◌, Some, None, ap, arith, codes, length, ◌∙◌}
use Rattle.olap_ast.specs.Trees.{numbers_of}
use Rattle.olap_cube_summ.specs.Dimensions.{schemas_of}
use Rattle.olap_grammar.specs.Words.{pieces_of}
use Rattle.olap_order.specs.Steps.{fault_text}
use Rattle.olap_cubes.proofs.{NameLemmas.tuple_is, TupleLemmas.{plain_no_memory, plain_refused}}
use Rattle.olap_cubes.specs.{Cut.categories_named, Steps.tuple_word}
use Rattle.olap_cubes.proofs.naming.tuple_at.Goals as goal

pub returns-in_err-names-clause-step : goal.returns-in_err-names-clause-step
returns-in_err-names-clause-step c = plain_no_memory c.from_residual.result c.from_residual.ensures.1

pub returns-in_err-categories-clause-step : goal.returns-in_err-categories-clause-step
returns-in_err-categories-clause-step c =
    let is = c.from_residual-in_err-categories in plain_no_memory is.result is.ensures.1

pub returns-in-Some-clause-step : goal.returns-in-Some-clause-step
returns-in-Some-clause-step c =
    let schemas = schemas_of c.args.cube.now in
    let split : names ≡ pieces_of 44 word = c.in_ok-names.ensures.found ∙ ap (pieces_of 44) c.as_bytes.ensures.value in
    let fits : length names ≡ length schemas = omega arith in
    record {
      comes_out = tuple_is schemas c.args.at word names (Some (numbers_of c.in-Some.categories.items)) split fits
          (rw c.in-Some.is at c.in_ok-categories.ensures.named
          ∙ ap (categories_named schemas) c.deref.ensures.value);
      ends = tt;
    }
  where
    open c use {in_ok-names.names.items as names, args.word.now as word}

pub returns-clause-step : goal.returns-clause-step
returns-clause-step c =
    let schemas = schemas_of c.args.cube.now in
    let split : names ≡ pieces_of 44 word = c.in_ok-names.ensures.found ∙ ap (pieces_of 44) c.as_bytes.ensures.value in
    let fits : length names ≡ length schemas = omega arith in
    plain_refused (tuple_word schemas c.args.at word)
    (fault_text (codes "word") c.args.at (codes "UnknownCategory")) c.refuse_at-in-None.result
    (tuple_is schemas c.args.at word names None split fits
    (rw c.in-None.is at c.in_ok-categories.ensures.named ∙ ap (categories_named schemas) c.deref.ensures.value))
    c.refuse_at-in-None.ensures.refused
  where
    open c use {in_ok-names.names.items as names, args.word.now as word}
