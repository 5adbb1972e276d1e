-- The exit statuses.
--     exit_status      the number that tells the shell how a run ended
--     out_of_memory    that of a run that ran out of memory
use Rattle.std.specs.Prelude.{ℕ}
use Rattle.olap_order.specs.declared.status.Status.{Status}
use Rattle.olap_order.specs.declared.status.Status.TheVariants as statuses

-- the exit status of a run that ran out of memory
abbrev pub out_of_memory : ℕ
out_of_memory = 6

-- the number that tells the shell how a run ended
abbrev pub exit_status : Status → ℕ
exit_status statuses.Yes = 0
exit_status statuses.No = 1
exit_status statuses.Usage = 2
exit_status statuses.Refused = 3
exit_status statuses.ReadFault = 4
exit_status statuses.WriteFault = 5
exit_status (statuses.Memory m) = out_of_memory
