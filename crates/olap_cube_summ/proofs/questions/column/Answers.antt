-- One source more, and all of them.
use Rattle.std.proofs.{Common.{◌<◌, ◌≤◌, ap, arith, get_or, length, map, ◌∙◌}, lemmas.List.{length-map, take_all}}
use Rattle.olap_ast.specs.Trees.{numbers_of}
use Rattle.olap_cube.specs.Told.{tuple_of, tuples_in}
use Rattle.olap_cube_summ.proofs.TupleLemmas.{column_is, column_more, kept_at}
use Rattle.olap_cube_summ.proofs.questions.column.Goals as goal

pub category-requires : goal.category-requires
category-requires c = kept_at (λ t. c.args.i < length t) c.args.sources.now c.sources.source-index c.source-item.result
    c.sources-test.true c.source-item.is c.requires

pub sources-preserved : goal.sources-preserved
sources-preserved c =
    column_more c.args.sources.now c.args.i c.sources.source-index c.source-item.result c.sources.column.items
    c.push.new.self.items c.category.result c.sources-test.true c.source-item.is c.in_ok-push.ensures.items
    c.category.ensures c.sources.invariant

pub returns : goal.returns
returns c =
    let sources = tuples_in c.args.sources.now in
    let many = length-map c.args.sources.now tuple_of in
    let end : length sources ≤ c.sources.source-index = let t = c.sources-test.false in omega arith in
    column_is sources c.args.i _
    (ap numbers_of c.from_vec.ensures ∙ c.sources.invariant
    ∙ ap (map (λ w. get_or w c.args.i 0)) (take_all c.sources.source-index sources end))
