-- `copy`: each turn stores the next byte of the source.
use lib.ListN.{length}
use Rattle.xor.proofs.StoreLaws.{Stored}
use Rattle.unit_film.proofs.film.copy.Given as goal

-- after i turns the destination holds the first i bytes of the source
abbrev pub invariant-loop-i : goal.invariant-loop-i
invariant-loop-i l = Stored l.initial.dst 0 (length l.initial.dst) l.src l.dst l.i
