-- The literals so far are entered.
use Rattle.std.{proofs.Common.take, specs.Prelude.{All, Contains}}
use Rattle.olap_parities.{proofs.EntryLemmas.IsEntered, specs.declared.entries.Entry.Entry}
use Rattle.olap_parities.proofs.entries.enter.Given as goal

abbrev pub invariant-lits : goal.invariant-lits
invariant-lits l = record {
  kept : (e : Entry) → Contains l.fn.entries.items e → Contains l.entries.items e;
  entered : All (IsEntered l.values l.entries.items l.row) (take l.k l.clause);
}
