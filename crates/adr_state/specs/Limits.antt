-- The limits of a node, and how one is set.
use Rattle.std.specs.Prelude.{ℕ, ◌≤◌, List, codes, Option, None, option_map, if◌then◌else◌}
use Rattle.std.specs.Str.{bytes_eq}
use Rattle.adr_state.specs.Within.{where_within}
use Rattle.adr_state.specs.declared.limits.Limits.{Limits}

-- each limit at its largest
abbrev pub largest : Limits
largest = record {
  keys = 100_000;
  vens = 1_000;
  subs = 1_000;
  resources = 10_000;
  shares = 100_000;
  reports = 100_000;
  frozen = 100_000;
  pending = 100_000;
  serial = 9_000_000_000_000_000;
  trail = 1_000_000;
}

-- of the limits but `trail`, none is above its largest
pub record AreSmall (limits : Limits) : Type 0 where
  pub keys : limits.keys ≤ largest.keys
  pub vens : limits.vens ≤ largest.vens
  pub subs : limits.subs ≤ largest.subs
  pub resources : limits.resources ≤ largest.resources
  pub shares : limits.shares ≤ largest.shares
  pub reports : limits.reports ≤ largest.reports
  pub frozen : limits.frozen ≤ largest.frozen
  pub pending : limits.pending ≤ largest.pending
  pub serial : limits.serial ≤ largest.serial

-- the limits with that of a name set, where there is one and the number is in its range
abbrev pub limits_set : List ℕ → ℕ → Limits → Option Limits
limits_set name n l =
    if bytes_eq name (codes "keys") then option_map (λ v. record l { keys = v }) (where_within 100_000 n)
    else (if bytes_eq name (codes "vens") then option_map (λ v. record l { vens = v }) (where_within 1_000 n)
    else (if bytes_eq name (codes "subs") then option_map (λ v. record l { subs = v }) (where_within 1_000 n)
    else (if bytes_eq name (codes "resources") then option_map (λ v. record l { resources = v }) (where_within 10_000 n)
    else (if bytes_eq name (codes "shares") then option_map (λ v. record l { shares = v }) (where_within 100_000 n)
    else (if bytes_eq name (codes "reports") then option_map (λ v. record l { reports = v }) (where_within 100_000 n)
    else (if bytes_eq name (codes "frozen") then option_map (λ v. record l { frozen = v }) (where_within 100_000 n)
    else (if bytes_eq name (codes "pending") then option_map (λ v. record l { pending = v }) (where_within 100_000 n)
    else (if bytes_eq name (codes "serial") then option_map (λ v. record l { serial = v }) (where_within 9_000_000_000_000_000 n)
    else (if bytes_eq name (codes "trail") then option_map (λ v. record l { trail = v }) (where_within 1_000_000 n)
    else None)))))))))
