-- The literals so far are alone.
use Rattle.std.{proofs.Common.{ℕ, Bool, take}, specs.Prelude.All}
use Rattle.olap_pool.specs.Pools.{AreTrue}
use Rattle.olap_parities.specs.{Entries.IsAlone, Known.Knows}
use Rattle.olap_parities.proofs.entries.are_alone.Given as goal

abbrev pub invariant-entries : goal.invariant-entries
invariant-entries l =
    (v : ℕ → Bool) → AreTrue v l.pool → Knows l.values v → All (IsAlone v l.sets l.entries) (take l.k l.entries)
