use Rattle.std.proofs.{Common.{◌≡◌, [], ◌∷◌, arith, ap, get_or, ◌∙◌}, lemmas.List.{length-map, map-append}}
use Rattle.std.specs.String.{string_bytes}
use Rattle.olap_base.proofs.ListLemmas.{AllPairs-from_Distinct}
use Rattle.olap_cube.specs.Told.{tuple_of, tuples_in}
use Rattle.olap_cube_summ.specs.Dimensions.{schemas_of}
use Rattle.olap_order.{proofs.SourceLemmas.word_is, specs.Words.texts}
use Rattle.olap_cubes.proofs.TupleLemmas.{ended_plain, word_ends, word_more}
use Rattle.olap_cubes.proofs.naming.tuples_at.Goals as goal

pub returns-in_err-tuple-clause-step : goal.returns-in_err-tuple-clause-step
returns-in_err-tuple-clause-step c =
    let word : c.as_str.result.now ≡ get_or (texts words) k [] = c.as_str.ensures.value
    ∙ word_is words k c.index-words-k.result c.words-test.true c.index-words-k.is in
    ended_plain c.from_residual.result stop c.from_residual.ensures.1
    (word_ends (schemas_of c.args.cube.now) c.args.at (texts words) k (tuples_in c.words.tuples.items) stop
    (omega (arith, length-map words string_bytes)) c.words.invariant
    (rw (word, c.deref.ensures.value) at c.in_err-tuple.ensures.step.ends))
  where
    open c use {words.k, args.words.now as words, in_err-tuple.field-0.0 as stop}

pub words-preserved : goal.words-preserved
words-preserved c =
    let word : c.as_str.result.now ≡ get_or (texts words) k [] = c.as_str.ensures.value
    ∙ word_is words k c.index-words-k.result c.words-test.true c.index-words-k.is in
    word_more (schemas_of c.args.cube.now) c.args.at (texts words) k (tuples_in tuples)
    (tuples_in c.push.new.self.items) (tuple_of tuple) (omega (arith, length-map words string_bytes)) c.words.invariant
    (rw (word, c.deref.ensures.value) at c.in_ok-tuple.ensures.step.comes_out) c.in_ok-tuple.ensures.categories
    (rw c.deref.ensures.value at c.in_ok-tuple.ensures.new)
    (ap tuples_in c.in_ok-push.ensures.items ∙ map-append tuple_of tuples (tuple ∷ []))
  where
    open c use {words.k, args.words.now as words, words.tuples.items as tuples, in_ok-tuple.tuple}

pub returns-clause-differ : goal.returns-clause-differ
returns-clause-differ c = AllPairs-from_Distinct (tuples_in c.words.tuples.items) c.words.invariant.differ
