-- The constants are counted by the pairs.
use Rattle.std.proofs.Common.{map, rules}
use Rattle.olap_ast.specs.Trees.{formula_of}
use Rattle.olap_schema_text.{proofs.CountedLemmas.{added, not_added}, specs.Reading.{above_of, number_pair_of, pair_of}}
use Rattle.olap_schema_text.proofs.reading.add_constraint.Goals as goal

pub returns-in_err-add_few_pairs-clause-read : goal.returns-in_err-add_few_pairs-clause-read
returns-in_err-add_few_pairs-clause-read c =
    let old = c.args.reading.now in
    let refused = not_added (above_of old) c.args.version c.args.root.0 c.args.tokens.now (formula_of c.args.f)
    (map pair_of old.pairs.items) (map number_pair_of old.numbers.items) c.requires.counted
    c.in_err-add_few_pairs.field-0.0 c.in_err-add_few_pairs.ensures.few in
    search rules

pub returns-clause-read : goal.returns-clause-read
returns-clause-read c =
    let old = c.args.reading.now in
    let read = added (above_of old) c.args.version c.args.root.0 c.args.tokens.now (formula_of c.args.f)
    (map pair_of old.pairs.items) (map number_pair_of old.numbers.items) c.requires.counted
    c.in_ok-add_few_pairs.ensures.few in
    search rules
