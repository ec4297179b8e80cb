-- Laws of what is told of the vens, the resources and the subscriptions that are kept.
use Rattle.std.specs.Prelude.{◌≡◌, ℕ, map, take, drop}
use Rattle.adr_subscription.specs.declared.kept_sub.Sub.{Sub}
use Rattle.adr_state.specs.declared.portfolio.Resource.{Resource}
use Rattle.adr_state.specs.declared.portfolio.Ven.{Ven}
use Rattle.adr_state.specs.declared.state.State.{State}
use Rattle.adr_state.specs.Resources.{resource_object}
use Rattle.adr_state.specs.Subs.{sub_object}
use Rattle.adr_state.specs.Vens.{ven_object}
use Rattle.adr_view.specs.declared.sight.Sight.{Sight}
use Rattle.adr_queries.specs.declared.answer.Object.{Object}
use Rattle.adr_queries.specs.declared.answer.Object.TheVariants as object
use Rattle.adr_queries.specs.declared.filter.ReportFilter.{ReportFilter}
use Rattle.adr_queries.specs.declared.query.Page.{Page}
use Rattle.adr_queries.specs.Filters.{wanted_subs}
use Rattle.adr_queries.specs.Listings.{page_of, resources_of, vens_in_sight}
use Rattle.adr_queries.specs.Subscribed.{subs_in_sight}
use Rattle.adr_held.specs.Held.{kept_of}
use Rattle.adr_site_pages.specs.Sites.{vens_seen, resources_under, subs_seen, wanted_among}

-- ---- as objects

-- a ven, with its number
abbrev pub told_ven : ℕ × Ven → Object
told_ven v = object.Ven (ven_object v)

-- a resource, with its number
abbrev pub told_resource : ℕ × Resource → Object
told_resource r = object.Resource (resource_object r)

-- a subscription, with its number
abbrev pub told_sub : ℕ × Sub → Object
told_sub s = object.Sub (sub_object s)

-- ---- the laws

-- a page of the vens in sight is told by the page of those that are kept, one by one
abbrev pub VensAreTheirRows : Type 0
VensAreTheirRows = (held : State) (sight : Sight) (page : Page) → page_of page (vens_in_sight held.base sight) ≡ map told_ven (take page.limit (drop page.skip (vens_seen sight (kept_of held).portfolio)))

-- a page of the resources of a ven is told by the page of those that are kept of it, one by one
abbrev pub ResourcesAreTheirRows : Type 0
ResourcesAreTheirRows = (held : State) (ven : ℕ) (page : Page) → page_of page (resources_of held.base ven) ≡ map told_resource (take page.limit (drop page.skip (resources_under ven (kept_of held).portfolio)))

-- a page of the wanted subscriptions in sight is told by the page of those that are kept which are wanted, one by one
abbrev pub SubsAreTheirRows : Type 0
SubsAreTheirRows =
    (held : State) (sight : Sight) (wanted : ReportFilter) (page : Page) → page_of page (wanted_subs wanted (subs_in_sight sight held.base.portfolio)) ≡ map told_sub (take page.limit (drop page.skip (wanted_among wanted (subs_seen sight (kept_of held).portfolio))))
