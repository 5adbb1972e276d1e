-- Where all rows add up to nothing, the clauses stay true.
use Rattle.std.proofs.Common.{ℕ, Bool}
use Rattle.olap_pool.specs.Pools.{AreTrue}
use Rattle.olap_parities.specs.Columns.{AreZero}
use Rattle.olap_parities.proofs.parities.hand_out_all.Given as goal

abbrev pub invariant-rows : goal.invariant-rows
invariant-rows l = (v : ℕ → Bool) → AreZero v l.columns l.rows → AreTrue v l.fn.into → AreTrue v l.into
