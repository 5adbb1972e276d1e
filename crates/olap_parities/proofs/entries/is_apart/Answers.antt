-- One literal more, and all of them.
use Rattle.std.proofs.{Common.{sym, rules}, lemmas.List.take_all, lemmas.List.Elements.{All-more, All-same}}
use Rattle.olap_parities.specs.Entries.{IsApart}
use Rattle.olap_parities.proofs.entries.is_apart.Goals as goal

pub entries-preserved : goal.entries-preserved
entries-preserved c = λ v knows.
    All-more (IsApart v c.args.entry) c.args.entries.now c.entries.k _ c.entries-test.true (c.entries.invariant v knows)
    (c.may_clash.ensures c.if-may_clash.false v knows)

pub returns : goal.returns
returns c = λ _ v knows.
    All-same (IsApart v c.args.entry) _ _ (sym (take_all c.entries.k c.args.entries.now (search rules)))
    (c.entries.invariant v knows)
