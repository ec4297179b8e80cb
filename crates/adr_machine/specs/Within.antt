-- How much a state holds, against limits.
use Rattle.std.specs.Prelude.{ℕ, ◌≤◌, List}
use Rattle.std.specs.List.{All}
use Rattle.std.specs.List.Sorted.{IsStrictlySortedBy}
use Rattle.std.specs.Map.{keys_of, values_of}
use Rattle.std.specs.Ordering.{nat_cmp}
use Rattle.adr_delivery.specs.declared.entry.Entry.{Entry}
use Rattle.adr_state.specs.declared.limits.Limits.{Limits}
use Rattle.adr_state.specs.declared.portfolio.Portfolio.{Portfolio}
use Rattle.adr_state.specs.declared.state.State.{State}
use Rattle.adr_state.specs.Fitting.{IsMap}
use Rattle.adr_state.specs.Keys.{frozen_cmp, id_cmp, mirror_cmp, share_cmp}

-- the maps of a portfolio are within these limits: their rows stand in the order of their keys, each once, and are at most so many; how many events are frozen has no limit of its own
pub record AreSitesWithin (limits : Limits) (p : Portfolio) : Type 0 where
  pub vens : IsMap nat_cmp limits.vens p.vens
  pub resources : IsMap nat_cmp limits.resources p.resources
  pub shares : IsMap share_cmp limits.shares p.shares
  pub reports : IsMap nat_cmp limits.reports p.reports
  pub subs : IsMap nat_cmp limits.subs p.subs
  pub frozen : IsStrictlySortedBy id_cmp (keys_of p.frozen)
  pub frozen_shares : IsMap frozen_cmp limits.frozen p.frozen_shares

-- so are the entries that wait, and none was leased more often than the limit of numbers says
pub record AreEntriesWithin (limits : Limits) (entries : List (ℕ × Entry)) : Type 0 where
  pub rows : IsMap nat_cmp limits.pending entries
  pub leases : All (λ e. e.delivery.leases ≤ limits.serial) (values_of entries)

-- a state is within these limits: its portfolio, its upstream keys, its entries and the last number that was drawn
pub record IsWithin (limits : Limits) (s : State) : Type 0 where
  pub sites : AreSitesWithin limits s.base.portfolio
  pub keys : IsMap mirror_cmp limits.keys s.base.mirror
  pub entries : AreEntriesWithin limits s.outbox.entries
  pub serial : s.base.serial ≤ limits.serial
