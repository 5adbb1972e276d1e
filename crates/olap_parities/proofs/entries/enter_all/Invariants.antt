-- The clauses so far are covered.
use Rattle.std.proofs.Common.{ℕ, ◌<◌, Bool}
use Rattle.olap_pool.specs.Pools.{AreTrue}
use Rattle.olap_parities.specs.{Entries.Covers, Known.Knows}
use Rattle.olap_parities.proofs.entries.enter_all.Given as goal

abbrev pub invariant-ids : goal.invariant-ids
invariant-ids l =
    (v : ℕ → Bool) → AreTrue v l.pool → Knows l.values v → (row : ℕ) → row < l.k → Covers v l.entries.items row
