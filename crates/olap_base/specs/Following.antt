-- What follows from what may be there, and from a result.
use Rattle.std.specs.Prelude.{Option, Some, None, Result, Ok, Err}

-- what comes of it if it is there, and else that fault
abbrev pub given : {A B K : Type 0} → Option A → K → (A → Result B K) → Result B K
given None k next = Err k
given (Some x) k next = next x

-- what comes of the value, if there was no fault
abbrev pub goes_on : {A B K : Type 0} → Result A K → (A → Result B K) → Result B K
goes_on (Ok x) next = next x
goes_on (Err k) next = Err k
