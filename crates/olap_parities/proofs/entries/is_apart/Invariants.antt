-- The literals so far don't clash.
use Rattle.std.{proofs.Common.{ℕ, Bool, take}, specs.Prelude.All}
use Rattle.olap_parities.specs.{Entries.IsApart, Known.Knows}
use Rattle.olap_parities.proofs.entries.is_apart.Given as goal

abbrev pub invariant-entries : goal.invariant-entries
invariant-entries l = (v : ℕ → Bool) → Knows l.trial v → All (IsApart v l.entry) (take l.k l.entries)
