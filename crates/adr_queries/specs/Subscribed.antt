-- What a role is told of subscriptions and of the outbox.
use Rattle.std.specs.Prelude.{ℕ, List, map, filter, Result, Ok, Err, if◌then◌else◌}
use Rattle.adr_text.specs.Refusals.{◌>>=◌}
use Rattle.adr_text.specs.declared.refusal.Refusal.{Refusal}
use Rattle.adr_text.specs.declared.refusal.Refusal.TheVariants.{Forbidden}
use Rattle.adr_delivery.specs.declared.outbox.Outbox.{Outbox}
use Rattle.adr_delivery.specs.Outboxes.{counts_of}
use Rattle.adr_state.specs.declared.portfolio.Portfolio.{Portfolio}
use Rattle.adr_state.specs.declared.base.Base.{Base}
use Rattle.adr_state.specs.Subs.{sub_object}
use Rattle.adr_view.specs.declared.sight.Sight.{Sight}
use Rattle.adr_view.specs.Sights.{sees_owner}
use Rattle.adr_view.specs.Subs.{sub_in_sight}
use Rattle.adr_queries.specs.declared.role.Role.{Role}
use Rattle.adr_queries.specs.declared.filter.ReportFilter.{ReportFilter}
use Rattle.adr_queries.specs.declared.query.Page.{Page}
use Rattle.adr_queries.specs.declared.answer.Object.{Object}
use Rattle.adr_queries.specs.declared.answer.Object.TheVariants as object
use Rattle.adr_queries.specs.declared.answer.Answer.{Answer}
use Rattle.adr_queries.specs.declared.answer.Answer.TheVariants as answer
use Rattle.adr_queries.specs.Filters.{wanted_subs}
use Rattle.adr_queries.specs.Listings.{page_of}
use Rattle.adr_queries.specs.Roles.{is_operator, sight_of}

-- the subscriptions in sight, by number: a ven sees its own alone
abbrev pub subs_in_sight : Sight → Portfolio → List Object
subs_in_sight sight p = map (λ s. object.Sub (sub_object s)) (filter (λ s. sees_owner sight s.1.owner) p.subs)

-- one page of the wanted subscriptions in sight, by number: what isn't wanted is left out before the page is cut
abbrev pub subs_reply : Base → Role → ReportFilter → Page → Result Answer Refusal
subs_reply base role wanted page = sight_of base role >>= λ sight. Ok (answer.List (page_of page (wanted_subs wanted (subs_in_sight sight base.portfolio))))

-- the subscription of an id: one that isn't there is 6, one that is out of sight 8
abbrev pub sub_reply : Base → Role → List ℕ → Result Answer Refusal
sub_reply base role id = sight_of base role >>= λ sight. sub_in_sight sight id base.portfolio >>= λ s. Ok (answer.Object (object.Sub (sub_object s)))

-- how many entries there were, what came of them, and how many wait: only the operator sees the outbox
abbrev pub outbox_reply : Outbox → Role → Result Answer Refusal
outbox_reply outbox role = if is_operator role then Ok (answer.Counts (counts_of outbox)) else Err Forbidden
