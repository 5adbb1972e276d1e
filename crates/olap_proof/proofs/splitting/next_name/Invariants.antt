-- Each name so far is decided.
use Rattle.std.proofs.Common.{◌<◌, ◌≢◌, None, ℕ}
use Rattle.olap_proof.specs.Places.{index_of}
use Rattle.olap_proof.proofs.splitting.next_name.Given as goal

abbrev pub invariant-categories : goal.invariant-categories
invariant-categories l = (x : ℕ) → x < l.c → x ≢ 0 → index_of l.case.namings x ≢ None
