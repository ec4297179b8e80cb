-- The vens, the resources of a ven and the subscriptions that are kept, each behind its number, and which subscriptions are wanted.
use Rattle.std.specs.Prelude.{ℕ, Bool, ◌==◌, ◌&&◌, List, filter, Option, Result, Ok, Err, if◌then◌else◌}
use Rattle.std.specs.Ordering.{nat_cmp}
use Rattle.adr_text.specs.Refusals.{◌>>=◌, or_else}
use Rattle.adr_text.specs.declared.refusal.Refusal.{Refusal}
use Rattle.adr_text.specs.declared.refusal.Refusal.TheVariants.{NotFound, Forbidden}
use Rattle.adr_subscription.specs.declared.kept_sub.Sub.{Sub}
use Rattle.adr_state.specs.declared.portfolio.Portfolio.{Portfolio}
use Rattle.adr_state.specs.declared.portfolio.Resource.{Resource}
use Rattle.adr_state.specs.declared.portfolio.Ven.{Ven}
use Rattle.adr_state.specs.Keys.{at}
use Rattle.adr_view.specs.declared.sight.Sight.{Sight}
use Rattle.adr_view.specs.Sights.{sees_ven, sees_owner}
use Rattle.adr_queries.specs.declared.filter.ReportFilter.{ReportFilter}
use Rattle.adr_queries.specs.Filters.{is_about, is_among_all}
use Rattle.adr_site_pages.specs.ByNumbers.{AtNumber}

-- ---- by number

-- the ven of a number, where there is one
abbrev pub ven_kept : AtNumber Ven
ven_kept n kept = at nat_cmp n kept.portfolio.vens

-- the resource of a number, where there is one
abbrev pub resource_kept : AtNumber Resource
resource_kept n kept = at nat_cmp n kept.portfolio.resources

-- the subscription of a number, where there is one
abbrev pub sub_kept : AtNumber Sub
sub_kept n kept = at nat_cmp n kept.portfolio.subs

-- ---- in sight

-- the vens in sight: a ven sees itself alone
abbrev pub vens_seen : Sight → Portfolio → List (ℕ × Ven)
vens_seen sight p = filter (λ v. sees_ven sight v.0) p.vens

-- the resources of a ven
abbrev pub resources_under : ℕ → Portfolio → List (ℕ × Resource)
resources_under ven p = filter (λ r. r.1.ven == ven) p.resources

-- the subscriptions in sight: a ven sees its own alone
abbrev pub subs_seen : Sight → Portfolio → List (ℕ × Sub)
subs_seen sight p = filter (λ s. sees_owner sight s.1.owner) p.subs

-- the number of the ven that was found: one that isn't there is 6, and one that is out of sight 8
abbrev pub ven_in_sight : Sight → Option ℕ → Result ℕ Refusal
ven_in_sight sight found = or_else NotFound found >>= λ n. if sees_ven sight n then Ok n else Err Forbidden

-- ---- what is wanted

-- whether a subscription names one of the programs, and is of one of the clients, that are asked for, where any are
abbrev pub wants_sub : ReportFilter → Sub → Bool
wants_sub f sub = is_about f.programs sub.body.program && is_among_all f.clients sub.body.client_name

-- of these subscriptions those that are wanted
abbrev pub wanted_among : ReportFilter → List (ℕ × Sub) → List (ℕ × Sub)
wanted_among f subs = filter (λ s. wants_sub f s.1) subs
