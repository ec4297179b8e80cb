-- The vens, their resources, the shares, the reports and the subscriptions, and the kinds of change that a command may make of them.
use Rattle.std.specs.Prelude.{ℕ, Bool, false, not, ◌==◌, List, [], filter, Result, Ok}
use Rattle.std.specs.Map.{remove_entry}
use Rattle.std.specs.Option.{option_map_or}
use Rattle.std.specs.BTreeMap.{is_at, insert_entry}
use Rattle.std.specs.Ordering.{nat_cmp}
use Rattle.adr_subscription.specs.declared.kept_sub.Sub.{Sub}
use Rattle.adr_text.specs.Refusals.{◌>>=◌}
use Rattle.adr_text.specs.declared.refusal.Refusal.{Refusal}
use Rattle.adr_state.specs.declared.portfolio.Portfolio.{Portfolio}
use Rattle.adr_state.specs.declared.portfolio.Ven.{Ven}
use Rattle.adr_state.specs.declared.portfolio.Resource.{Resource}
use Rattle.adr_state.specs.declared.portfolio.Report.{Report}
use Rattle.adr_state.specs.declared.keys.ShareKey.{ShareKey}
use Rattle.adr_state.specs.Keys.{share_cmp, at}
use Rattle.adr_state.specs.Frozen.{with_frozen}

-- the portfolio at first: no vens, resources, shares, reports or subscriptions, and no event that is frozen
abbrev pub nobody : Portfolio
nobody = record { vens = []; resources = []; shares = []; reports = []; subs = []; frozen = []; frozen_shares = [] }

-- ---- with one more, or another at its key: each in its place in the order

-- a ven is put at its number, in place of one that is there
abbrev pub with_ven : ℕ → Ven → Portfolio → Portfolio
with_ven n ven p = record p { vens = insert_entry nat_cmp p.vens n ven }

-- a resource is put at its number, in place of one that is there
abbrev pub with_resource : ℕ → Resource → Portfolio → Portfolio
with_resource n resource p = record p { resources = insert_entry nat_cmp p.resources n resource }

-- a weight is put for a program and a resource, in place of one that is there
abbrev pub with_share : ShareKey → ℕ → Portfolio → Portfolio
with_share key weight p = record p { shares = insert_entry share_cmp p.shares key weight }

-- a report is put at its number, in place of one that is there
abbrev pub with_report : ℕ → Report → Portfolio → Portfolio
with_report n report p = record p { reports = insert_entry nat_cmp p.reports n report }

-- a subscription is put at its number, in place of one that is there
abbrev pub with_sub : ℕ → Sub → Portfolio → Portfolio
with_sub n sub p = record p { subs = insert_entry nat_cmp p.subs n sub }

-- ---- without one

-- whether a resource is there and belongs to a ven
abbrev pub is_of_ven : ℕ → List (ℕ × Resource) → ℕ → Bool
is_of_ven ven resources resource = option_map_or (λ r. r.ven == ven) (at nat_cmp resource resources) false

-- the resource that a report is on
abbrev pub reported_on : ℕ × Report → ℕ
reported_on r = r.1.body.head.resource

-- whether a subscription is of a ven
abbrev pub is_sub_of : ℕ → Sub → Bool
is_sub_of ven sub = option_map_or (λ owner. owner == ven) sub.owner false

-- without a ven: its resources go, their shares, those that are frozen too, and the reports on them; and its
-- subscriptions
abbrev pub without_ven : ℕ → Portfolio → Portfolio
without_ven n p = record p {
  vens = remove_entry (is_at (nat_cmp n)) p.vens;
  resources = filter (λ r. not (r.1.ven == n)) p.resources;
  shares = filter (λ s. not (is_of_ven n p.resources s.0.resource)) p.shares;
  reports = filter (λ r. not (is_of_ven n p.resources (reported_on r))) p.reports;
  subs = filter (λ s. not (is_sub_of n s.1)) p.subs;
  frozen_shares = filter (λ s. not (is_of_ven n p.resources s.0.resource)) p.frozen_shares;
}

-- without a resource: its shares go, those that are frozen too, and the reports on it
abbrev pub without_resource : ℕ → Portfolio → Portfolio
without_resource n p = record p {
  resources = remove_entry (is_at (nat_cmp n)) p.resources;
  shares = filter (λ s. not (s.0.resource == n)) p.shares;
  reports = filter (λ r. not (reported_on r == n)) p.reports;
  frozen_shares = filter (λ s. not (s.0.resource == n)) p.frozen_shares;
}

-- without the share of a program and a resource
abbrev pub without_share : ShareKey → Portfolio → Portfolio
without_share key p = record p { shares = remove_entry (is_at (share_cmp key)) p.shares }

-- without the report of a number
abbrev pub without_report : ℕ → Portfolio → Portfolio
without_report n p = record p { reports = remove_entry (is_at (nat_cmp n)) p.reports }

-- without the subscription of a number
abbrev pub without_sub : ℕ → Portfolio → Portfolio
without_sub n p = record p { subs = remove_entry (is_at (nat_cmp n)) p.subs }

-- ---- the kinds of change

-- one is put at its key, or goes with all that hangs on it; or an event is frozen with pairs of resources and weights
pub data PortfolioChange : Type 0 where
  PutVen : ℕ → Ven → PortfolioChange
  DropVen : ℕ → PortfolioChange
  PutResource : ℕ → Resource → PortfolioChange
  DropResource : ℕ → PortfolioChange
  PutShare : ShareKey → ℕ → PortfolioChange
  DropShare : ShareKey → PortfolioChange
  PutReport : ℕ → Report → PortfolioChange
  DropReport : ℕ → PortfolioChange
  PutSub : ℕ → Sub → PortfolioChange
  DropSub : ℕ → PortfolioChange
  Freeze : List ℕ → List (ℕ × ℕ) → PortfolioChange

-- the portfolio after a change of one of these kinds
abbrev pub portfolio_after : PortfolioChange → Portfolio → Portfolio
portfolio_after (PutVen n ven) p = with_ven n ven p
portfolio_after (DropVen n) p = without_ven n p
portfolio_after (PutResource n resource) p = with_resource n resource p
portfolio_after (DropResource n) p = without_resource n p
portfolio_after (PutShare key weight) p = with_share key weight p
portfolio_after (DropShare key) p = without_share key p
portfolio_after (PutReport n report) p = with_report n report p
portfolio_after (DropReport n) p = without_report n p
portfolio_after (PutSub n sub) p = with_sub n sub p
portfolio_after (DropSub n) p = without_sub n p
portfolio_after (Freeze id pairs) p = with_frozen id pairs p

-- a decision is an answer and a change: the answer, and the portfolio after the change
abbrev pub carried_out : {A : Type 0} → Portfolio → Result (A × PortfolioChange) Refusal → Result (A × Portfolio) Refusal
carried_out p decision = decision >>= λ d. Ok (d.0, portfolio_after d.1 p)
