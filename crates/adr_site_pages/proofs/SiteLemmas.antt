-- What is kept of vens, of resources and of subscriptions tells what the state does.
use Rattle.std.proofs.Common.{◌≡◌, ℕ, Bool, true, false, cond, List, map, filter, take, drop, Option, Some, None, Result, Ok, Err, refl, ap, ◌∙◌}
use Rattle.std.specs.Prelude.{◌==◌}
use Rattle.std.specs.Option.{option_map_or}
use Rattle.std.proofs.lemmas.List.{take-map, drop-map}
use Rattle.adr_db.proofs.Common.{Forbidden, Refusal, Sub, Ven, filter-map}
use Rattle.adr_text.specs.Refusals.{◌>>=◌}
use Rattle.adr_state.specs.declared.base.Base.{Base}
use Rattle.adr_state.specs.declared.portfolio.Portfolio.{Portfolio}
use Rattle.adr_state.specs.Portfolios.{is_sub_of}
use Rattle.adr_view.specs.declared.sight.Sight.{Sight}
use Rattle.adr_view.specs.declared.sight.Sight.TheVariants.{All, Of}
use Rattle.adr_view.specs.Sights.{sees_owner, sees_ven}
use Rattle.adr_queries.specs.declared.answer.Answer.{Answer}
use Rattle.adr_queries.specs.declared.answer.Answer.TheVariants as answer
use Rattle.adr_queries.specs.declared.answer.Object.{Object}
use Rattle.adr_queries.specs.declared.filter.ReportFilter.{ReportFilter}
use Rattle.adr_queries.specs.declared.query.Page.{Page}
use Rattle.adr_queries.specs.Filters.{is_wanted_sub, wanted_subs}
use Rattle.adr_queries.specs.Listings as listing
use Rattle.adr_queries.specs.Listings.{page_of, resources_of, vens_in_sight}
use Rattle.adr_queries.specs.Subscribed.{subs_in_sight}
use Rattle.adr_site_pages.proofs.NumberLemmas.{all_pass}
use Rattle.adr_site_pages.specs.Laws.{told_ven, told_resource, told_sub}
use Rattle.adr_site_pages.specs.Sites.{vens_seen, resources_under, subs_seen, ven_in_sight, wanted_among}

-- the page of what is told of each is what is told of the page
page_told : {X : Type 0} (told : X → Object) (page : Page) (rows : List X) → page_of page (map told rows) ≡ map told (take page.limit (drop page.skip rows))
page_told told page rows = ap (take page.limit) (drop-map told page.skip rows) ∙ take-map told page.limit (drop page.skip rows)

pub vens_told : (base : Base) (sight : Sight) (page : Page) → page_of page (vens_in_sight base sight) ≡ map told_ven (take page.limit (drop page.skip (vens_seen sight base.portfolio)))
vens_told base sight page = page_told told_ven page (vens_seen sight base.portfolio)

-- so of all of them, who sees all is told
pub every_ven_told : (base : Base) (page : Page) → page_of page (vens_in_sight base All) ≡ map told_ven (take page.limit (drop page.skip base.portfolio.vens))
every_ven_told base page = vens_told base All page ∙ ap (λ (vens : List (ℕ × Ven)). map told_ven (take page.limit (drop page.skip vens))) (all_pass base.portfolio.vens)

pub resources_told : (base : Base) (ven : ℕ) (page : Page) → page_of page (resources_of base ven) ≡ map told_resource (take page.limit (drop page.skip (resources_under ven base.portfolio)))
resources_told base ven page = page_told told_resource page (resources_under ven base.portfolio)

-- the page of the resources of a ven of an id is told where that is found and in sight
pub resources_are : (base : Base) (page : Page) (sight : Sight) (found : Option ℕ) → listing.resources_told base page sight found ≡ (ven_in_sight sight found >>= λ n. Ok (answer.List (page_of page (resources_of base n))))
resources_are base page sight None = refl
resources_are base page sight (Some n) = by (sees_ven sight n)
  where
    by : (b : Bool) → ◌≡◌ {A = Result Answer Refusal} (cond b (Ok (answer.List (page_of page (resources_of base n)))) (Err Forbidden)) (cond b (Ok n) (Err Forbidden) >>= λ n. Ok (answer.List (page_of page (resources_of base n))))
    by true = refl
    by false = refl

pub subs_told : (p : Portfolio) (sight : Sight) (wanted : ReportFilter) (page : Page) → page_of page (wanted_subs wanted (subs_in_sight sight p)) ≡ map told_sub (take page.limit (drop page.skip (wanted_among wanted (subs_seen sight p))))
subs_told p sight wanted page = ap (page_of page) (filter-map (is_wanted_sub wanted) told_sub (subs_seen sight p)) ∙ page_told told_sub page (wanted_among wanted (subs_seen sight p))

-- so of all of them, who sees all is told
pub every_sub_told : (p : Portfolio) (wanted : ReportFilter) (page : Page) → page_of page (wanted_subs wanted (subs_in_sight All p)) ≡ map told_sub (take page.limit (drop page.skip (wanted_among wanted p.subs)))
every_sub_told p wanted page = subs_told p All wanted page ∙ ap (λ (subs : List (ℕ × Sub)). map told_sub (take page.limit (drop page.skip (wanted_among wanted subs)))) (all_pass p.subs)

-- a ven sees the subscriptions that are its own
own_alike : (ven : ℕ) (s : ℕ × Sub) → is_sub_of ven s.1 ≡ sees_owner (Of ven) s.1.owner
own_alike ven s = by s.1.owner
  where
    by : (o : Option ℕ) → option_map_or (λ owner. owner == ven) o false ≡ sees_owner (Of ven) o
    by None = refl
    by (Some owner) = refl

pub own_subs_seen : (ven : ℕ) (p : Portfolio) → filter (λ s. is_sub_of ven s.1) p.subs ≡ subs_seen (Of ven) p
own_subs_seen ven p = λ i. filter (λ s. own_alike ven s i) p.subs
