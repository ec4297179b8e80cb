-- How much a state may hold.
use Rattle.std.specs.Prelude.{ℕ, ◌≤◌, List, length}
use Rattle.std.specs.declared.cmp.Ordering.{Ordering}
use Rattle.std.specs.Ordering.{nat_cmp}
use Rattle.std.specs.List.{All}
use Rattle.std.specs.Map.{keys_of, values_of}
use Rattle.std.specs.List.Sorted.{IsStrictlySortedBy}
use Rattle.adr_delivery.specs.declared.entry.Entry.{Entry}
use Rattle.adr_state.specs.declared.portfolio.Portfolio.{Portfolio}
use Rattle.adr_state.specs.declared.state.State.{State}
use Rattle.adr_state.specs.Keys.{id_cmp, mirror_cmp, share_cmp, frozen_cmp}
use Rattle.adr_state.specs.Limits.{largest}

-- rows in the order of their keys, at most so many
pub record IsMap {K V : Type 0} (cmp : K → K → Ordering) (most : ℕ) (rows : List (K × V)) : Type 0 where
  pub rises : IsStrictlySortedBy cmp (keys_of rows)
  pub few : length rows ≤ most

-- the maps of a portfolio are within the largest limits; how many events are frozen has no limit of its own
pub record SitesFit (p : Portfolio) : Type 0 where
  pub vens : IsMap nat_cmp largest.vens p.vens
  pub resources : IsMap nat_cmp largest.resources p.resources
  pub shares : IsMap share_cmp largest.shares p.shares
  pub reports : IsMap nat_cmp largest.reports p.reports
  pub subs : IsMap nat_cmp largest.subs p.subs
  pub frozen : IsStrictlySortedBy id_cmp (keys_of p.frozen)
  pub frozen_shares : IsMap frozen_cmp largest.frozen p.frozen_shares

-- an entry was leased at most as often as the largest limit admits
abbrev pub HasFewLeases : Entry → Type 0
HasFewLeases e = e.delivery.leases ≤ largest.serial

-- so are the entries of an outbox, each of them with so many leases
pub record EntriesFit (entries : List (ℕ × Entry)) : Type 0 where
  pub rows : IsMap nat_cmp largest.pending entries
  pub leases : All HasFewLeases (values_of entries)

-- a state that a desk may hold: its portfolio, its mirror, its outbox and its serial are within the largest limits
pub record Fits (s : State) : Type 0 where
  pub sites : SitesFit s.base.portfolio
  pub mirror : IsMap mirror_cmp largest.keys s.base.mirror
  pub entries : EntriesFit s.outbox.entries
  pub serial : s.base.serial ≤ largest.serial
