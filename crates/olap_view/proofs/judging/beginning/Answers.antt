-- Whether a view may begin.
use Rattle.std.proofs.{Common.arith, lemmas.List.length-map}
use Rattle.olap_view.{proofs.JudgingLemmas.{may-begin, too-many}, specs.Seen.ids}
use Rattle.olap_view.proofs.judging.beginning.Goals as goal

pub returns-then-categories-ge-MOST_VIEWS : goal.returns-then-categories-ge-MOST_VIEWS
returns-then-categories-ge-MOST_VIEWS c = search (too-many, length-map)

pub returns : goal.returns
returns c = λ g earlier e.
    may-begin g earlier (ids c.args.categories.now) c.args.c.0 c.is_among.result e c.is_among.ensures
    c.if-is_among.false (let l = length-map c.args.categories.now (λ d. d.0) in
    let h = c.if-categories-ge-MOST_VIEWS.false in omega arith)
