-- The calls of a library or a sink in memory, which fail where they are listed.
--     no_calls      none was made
--     fails_next    the next is listed
--     after_call    after one more, which was refused or not
use Rattle.std.specs.Prelude.{ℕ, ◌==◌, Bool, List, if◌then◌else◌}
use Rattle.std.specs.List.{list_any}
use Rattle.olap_outside.specs.Faults.{one_more}
use Rattle.olap_outside.specs.declared.calls.Calls.{Calls}

-- none was made, and those of these numbers are to fail
abbrev pub no_calls : List ℕ → Calls
no_calls fails = record { fails = fails; made = 0; faults = 0 }

-- the next one is listed to fail
abbrev pub fails_next : Calls → Bool
fails_next calls = list_any (λ n. n == one_more calls.made) calls.fails

-- one more was made, and counts as a fault if it was refused
abbrev pub after_call : Calls → Bool → Calls
after_call calls is_ok = record {
  fails = calls.fails;
  made = one_more calls.made;
  faults = if is_ok then calls.faults else one_more calls.faults;
}
