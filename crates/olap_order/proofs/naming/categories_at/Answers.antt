use Rattle.std.proofs.Common.{◌≡◌, ◌+◌, ◌<◌, List, length, get_or, [], ◌∷◌, false, ap, subst, sym, ◌∙◌, Err}
use Rattle.std.{proofs.lemmas.List.{length-map, map-append}, specs.List.list_any, specs.Prelude.◌==◌}
use Rattle.std.specs.String.{string_bytes}
use Rattle.olap_base.{proofs.ListLemmas.AllPairs-from_Distinct, specs.declared.ids.CatId.CatId}
use Rattle.olap_schema.specs.Schemas.{schema_of}
use Rattle.olap_order.{proofs.SourceLemmas.{ends_at, plain_ends, read_more, word_is}, specs.Behind.another_category}
use Rattle.olap_order.specs.{Judged.Replies, Order.Done, Taken.NoAnswer, Words.texts}
use Rattle.olap_ast.specs.Trees.{numbers_of}
use Rattle.olap_order.proofs.naming.categories_at.Goals as goal

pub returns-in_err-category-clause-step : goal.returns-in_err-category-clause-step
returns-in_err-category-clause-step c =
    let g = (schema_of c.args.schema.now).graph in
    let at = c.args.at + c.words.k in
    let word : c.as_str-name.result.now ≡ get_or (texts c.args.names.now) c.words.k [] = c.as_str-name.ensures.value
    ∙ word_is c.args.names.now c.words.k c.index-names-k.result c.words-test.true c.index-names-k.is in
    let h : c.words.k < length (texts c.args.names.now) =
    subst (λ n. c.words.k < n) (sym (length-map c.args.names.now string_bytes)) c.words-test.true in
    plain_ends c.in_err-category.field-0.0 c.from_residual.result c.from_residual.ensures.1
    (ends_at c.args.twice.now g c.args.at (texts c.args.names.now) c.words.k
    (numbers_of c.words.categories.items) c.in_err-category.field-0.0
    h c.words.invariant
    (subst (λ w. Replies NoAnswer (another_category c.args.twice.now g at (numbers_of c.words.categories.items) w)
    (Err c.in_err-category.field-0.0)) word
    (subst (λ (xs : List CatId). Replies NoAnswer
    (another_category c.args.twice.now g at (numbers_of xs) c.as_str-name.result.now)
    (Err c.in_err-category.field-0.0)) c.deref.ensures.value c.in_err-category.ensures.step.ends)))

pub words-preserved : goal.words-preserved
words-preserved c =
    let g = (schema_of c.args.schema.now).graph in
    let at = c.args.at + c.words.k in
    let word : c.as_str-name.result.now ≡ get_or (texts c.args.names.now) c.words.k [] = c.as_str-name.ensures.value
    ∙ word_is c.args.names.now c.words.k c.index-names-k.result c.words-test.true c.index-names-k.is in
    let h : c.words.k < length (texts c.args.names.now) =
    subst (λ n. c.words.k < n) (sym (length-map c.args.names.now string_bytes)) c.words-test.true in
    read_more c.args.twice.now g c.args.at (texts c.args.names.now) c.words.k (numbers_of c.words.categories.items)
    (numbers_of c.push.new.self.items) c.in_ok-category.category.0 h c.words.invariant
    (subst (λ w. another_category c.args.twice.now g at (numbers_of c.words.categories.items) w
    ≡ Done c.in_ok-category.category.0) word
    (subst (λ (xs : List CatId). another_category c.args.twice.now g at (numbers_of xs) c.as_str-name.result.now
    ≡ Done c.in_ok-category.category.0)
    c.deref.ensures.value c.in_ok-category.ensures.step.comes_out))
    c.in_ok-category.ensures.category
    (subst (λ (xs : List CatId). list_any (λ d. d == c.in_ok-category.category.0) (numbers_of xs) ≡ false)
    c.deref.ensures.value c.in_ok-category.ensures.new)
    (ap numbers_of c.in_ok-push.ensures.items ∙ map-append (λ (s : CatId). s.0) c.words.categories.items
    (c.in_ok-category.category ∷ []))

pub returns-clause-differ : goal.returns-clause-differ
returns-clause-differ c = AllPairs-from_Distinct (numbers_of c.words.categories.items) c.words.invariant.differ
