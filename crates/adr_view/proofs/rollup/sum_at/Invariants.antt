use Rattle.std.proofs.Common.{◌≡◌, ◌≤◌, ◌*◌, fold, drop}
use Rattle.std.specs.Prelude.{unsigned_abs}
use Rattle.adr_objects.specs.Limits.{most_setpoint}
use Rattle.adr_view.specs.Rollups.{plus, latest, sum_at}
use Rattle.adr_view.proofs.rollup.sum_at.Given as goal

-- the sum so far with those that are left, and how large it may be by now
abbrev pub invariant-loop-r : goal.invariant-loop-r
invariant-loop-r l = record {
  so_far : fold (λ sum r. plus sum (latest l.id r.reports)) l.sum (drop l.r-index l.rs) ≡ sum_at l.id l.rs;
  small : unsigned_abs l.sum ≤ l.r-index * most_setpoint;
}
