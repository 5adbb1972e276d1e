-- A last record.
use Rattle.std.proofs.Common.{◌∷◌, []}
use Rattle.olap_records.proofs.JoinLemmas.{end-behind}
use Rattle.olap_facts.{proofs.FeedLemmas.last-taken, specs.Feeding.feeding_in}
use Rattle.olap_facts.proofs.fronts.Front.finish.Goals as goal

pub returns-then-branch-clause-reads : goal.returns-then-branch-clause-reads
returns-then-branch-clause-reads c = λ fed facts h.
    let r = feeding_in c.args.setting s.splitter s.handed s.begun in
    let last = rw c.if-branch.true at c.in_ok-finish.ensures in
    last-taken r fed facts h.done row (end-behind fed h.done (row ∷ []) s.splitter.stands h.stands last) c.taken.result
    (c.taken.ensures.counts h.done facts h.counted)
  where
    open c use {args.self.now as s, finish.new.self.row}
