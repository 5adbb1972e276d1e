use Rattle.std.{proofs.Common.{◌≡◌, ℕ, suc, ◌<◌}, specs.Prelude.{◌≢◌, ◌==◌, slice_index}}
use Rattle.olap_dimsat.specs.{Asking.task_of, Tasks.constant_count}
use Rattle.olap_encoding.specs.Layouts.{name_variable}
use Rattle.olap_dimsat.proofs.fitting.suits_names.Given as goal

abbrev pub invariant-categories : goal.invariant-categories
invariant-categories l = (k j : ℕ) → k < l.c → k ≢ 0 → j < constant_count (task_of l.a) k
    → l.lit.variable ≡ name_variable (task_of l.a).layout k j → (slice_index l.frozen.names k == suc j) ≡ l.lit.positive
