-- How many vens, resources, shares, reports, subscriptions and frozen shares go.
use Rattle.std.specs.Prelude.{◌≡◌, ◌+◌, length}
use Rattle.adr_state.specs.declared.portfolio.Portfolio.{Portfolio}
use Rattle.adr_db.specs.declared.meta.Meta.{Meta}
use Rattle.adr_counted.specs.declared.gone.Gone.{Gone}

-- none goes
abbrev pub none_gone : Gone
none_gone = record { vens = 0; resources = 0; shares = 0; reports = 0; subs = 0; frozen = 0 }

-- so many go of a portfolio
pub record IsGone (gone : Gone) (before after : Portfolio) : Type 0 where
  pub vens : length after.vens + gone.vens ≡ length before.vens
  pub resources : length after.resources + gone.resources ≡ length before.resources
  pub shares : length after.shares + gone.shares ≡ length before.shares
  pub reports : length after.reports + gone.reports ≡ length before.reports
  pub subs : length after.subs + gone.subs ≡ length before.subs
  pub frozen : length after.frozen_shares + gone.frozen ≡ length before.frozen_shares

-- numbers of the node say so many less, and else the same
pub record IsLess (gone : Gone) (before after : Meta) : Type 0 where
  pub others : after ≡ record before { vens = after.vens; resources = after.resources; shares = after.shares; reports = after.reports; subs = after.subs; frozen = after.frozen }
  pub vens : after.vens + gone.vens ≡ before.vens
  pub resources : after.resources + gone.resources ≡ before.resources
  pub shares : after.shares + gone.shares ≡ before.shares
  pub reports : after.reports + gone.reports ≡ before.reports
  pub subs : after.subs + gone.subs ≡ before.subs
  pub frozen : after.frozen + gone.frozen ≡ before.frozen
