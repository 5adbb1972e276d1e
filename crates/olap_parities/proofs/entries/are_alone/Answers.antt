-- One literal more, and all of them.
use Rattle.std.proofs.{Common.{sym, rules}, lemmas.List.take_all, lemmas.List.Elements.{All-more, All-same}}
use Rattle.olap_parities.specs.Entries.{IsAlone}
use Rattle.olap_parities.proofs.entries.are_alone.Goals as goal

pub entries-preserved : goal.entries-preserved
entries-preserved c = λ v t knows.
    All-more (IsAlone v c.args.sets c.args.entries.now) c.args.entries.now c.entries.k _ c.entries-test.true
    (c.entries.invariant v t knows) (c.is_alone.ensures c.if-not-is_alone.false v t knows)

pub returns : goal.returns
returns c = λ _ v t knows.
    All-same (IsAlone v c.args.sets c.args.entries.now) _ _
    (sym (take_all c.entries.k c.args.entries.now (search rules)))
    (c.entries.invariant v t knows)
