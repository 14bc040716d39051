-- What stands for a record beyond a list, and the totals that a refused report answers.
use Rattle.array_states.specs.declared.ArrayState.{ArrayState}
use Rattle.array_states.specs.declared.totals.Totals.{Totals}

-- what stands for a record beyond the list
abbrev pub no_array : ArrayState
no_array = record { width = 0; disks = 0; lost = 0 }

-- no array counted
abbrev pub no_totals : Totals
no_totals = record { optimal = 0; degraded = 0; critical = 0; failed = 0 }
