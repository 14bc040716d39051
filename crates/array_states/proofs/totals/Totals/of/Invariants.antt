-- `Totals::of`: each total so far and its count over the rest of the list are that over all of it.
use Rattle.std.proofs.Common.{◌≡◌, ◌+◌, drop, nat_le, nat_eq}
use Rattle.array_states.specs.Reports.{how_many}
use Rattle.array_states.proofs.totals.Totals.of.Given as goal

abbrev pub invariant-loop-state : goal.invariant-loop-state
invariant-loop-state l = record {
  optimal : l.totals.optimal + how_many (λ n. nat_eq n 0) (drop l.state-index l.list) ≡ how_many (λ n. nat_eq n 0) l.list;
  degraded : l.totals.degraded + how_many (λ n. nat_eq n 1) (drop l.state-index l.list) ≡ how_many (λ n. nat_eq n 1) l.list;
  critical : l.totals.critical + how_many (λ n. nat_eq n 2) (drop l.state-index l.list) ≡ how_many (λ n. nat_eq n 2) l.list;
  failed : l.totals.failed + how_many (λ n. nat_le 3 n) (drop l.state-index l.list) ≡ how_many (λ n. nat_le 3 n) l.list;
}
