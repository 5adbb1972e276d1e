-- A last record, or none.
use Rattle.std.proofs.{Common.{◌∷◌, ◌∙◌, [], ap}, lemmas.List.append-nil}
use Rattle.olap_base.specs.Limits.{most_facts}
use Rattle.olap_records.proofs.JoinLemmas.{end-behind}
use Rattle.olap_cube_views.proofs.{CubeCountingLemmas.{all-counted, no-header}, CubeFeedLemmas.last-taken}
use Rattle.olap_cube_views.specs.{CubeFactText.cube_facts_read_within, Dimensions.{graphs_of, instances_in}}
use Rattle.olap_cube_views.proofs.rolling.Front.finish.Goals as goal

pub returns-then-branch-clause-ends : goal.returns-then-branch-clause-ends
returns-then-branch-clause-ends c = λ target fed h.
    let gs = graphs_of c.args.graphs.now in
    let is = instances_in c.args.columns.now in
    let last = rw c.if-branch.true at c.in_ok-finish.ensures in
    last-taken gs is fed h.done row c.add_record.new.tally
    (end-behind fed h.done (row ∷ []) s.splitter.stands h.stands_at last) c.add_record.result
    (c.add_record.ensures.counts h.done h.facts h.counted h.stands_for)
  where
    open c use {args.self.now as s, finish.new.self.row}

pub returns-then-not-self-clause-ends : goal.returns-then-not-self-clause-ends
returns-then-not-self-clause-ends c = λ target fed h.
    let gs = graphs_of c.args.graphs.now in
    let is = instances_in c.args.columns.now in
    let s = c.args.self.now in
    let none = rw c.if-branch.false at c.in_ok-finish.ensures in
    ap (cube_facts_read_within most_facts gs is)
    (end-behind fed h.done [] s.splitter.stands h.stands_at none ∙ append-nil h.done)
    ∙ no-header gs is h.done h.facts (h.counted.fresh c.if-not-self.true)

pub returns-clause-ends : goal.returns-clause-ends
returns-clause-ends c = λ target fed h.
    let gs = graphs_of c.args.graphs.now in
    let is = instances_in c.args.columns.now in
    let s = c.args.self.now in
    let none = rw c.if-branch.false at c.in_ok-finish.ensures in
    record {
      facts = h.facts;
      read = ap (cube_facts_read_within most_facts gs is)
          (end-behind fed h.done [] s.splitter.stands h.stands_at none ∙ append-nil h.done)
          ∙ all-counted gs is h.done h.facts (h.counted.going c.if-not-self.false);
      stands = h.stands_for;
    }
