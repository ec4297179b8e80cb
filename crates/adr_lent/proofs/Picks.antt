-- What is wanted where it stands in one column, and pages of it.
use Rattle.std.proofs.Common.{◌≡◌, ℕ, Bool, true, ◌&&◌, List, [], ◌∷◌, filter, take, drop, Option, None, Some, refl, sym, ap, ap₂, ◌∙◌, arith}
use Rattle.std.proofs.lemmas.List.{take-take}
use Rattle.adr_queries.specs.Filters.{is_among_all, has_target}
use Rattle.adr_queries.specs.declared.filter.TargetFilter.{TargetFilter}
use Rattle.adr_queries.specs.declared.filter.TargetFilter.TheVariants.{Any}
use Rattle.adr_queries.specs.declared.query.Page.{Page}
use Rattle.adr_queries.specs.declared.filter.EventFilter.{EventFilter}
use Rattle.adr_lent.specs.declared.picked.Picked.{Picked}
use Rattle.adr_lent.specs.Pages.{ShownEntry, kept_for, wanted_among}
use Rattle.adr_lent.specs.Picks.{picks, for_ven, part_of}

-- all are picked
pub each_of : {X : Type 0} (xs : List X) → filter (λ x. true) xs ≡ xs
each_of [] = refl
each_of (x ∷ xs) = ap (λ ys. x ∷ ys) (each_of xs)

pub shown_to : (ven : Option ℕ) (entries : List ShownEntry) → filter (picks (for_ven ven)) entries ≡ kept_for ven entries
shown_to None entries = each_of entries
shown_to (Some ven) entries = refl

-- the first page of a page is that page
pub page_again : {X : Type 0} (page : Page) (xs : List X) → take page.limit (drop 0 (filter (λ x. true) (part_of (Some page) xs))) ≡ part_of (Some page) xs
page_again page xs = ap (take page.limit) (each_of (part_of (Some page) xs)) ∙ take-take page.limit page.limit (drop page.skip xs) (omega arith)

-- where nothing is asked for, all of what is shown to one ven, or to all, is wanted
pub any_wanted : (asked : EventFilter) (ven : Option ℕ) (picked : Picked) (entries : List ShownEntry) → asked.programs ≡ None → asked.target ≡ Any → picked ≡ for_ven ven
    → wanted_among asked (kept_for ven entries) ≡ filter (picks picked) entries
any_wanted asked ven picked entries none any is =
    ap (λ (p : ShownEntry → Bool). filter p (kept_for ven entries)) (λ i e. (ap₂ (λ (programs : Option (List (List ℕ))) (target : TargetFilter). is_among_all programs e.1.program && has_target target e.1.ven_name e.1.resource_name) none any) i)
    ∙ each_of (kept_for ven entries) ∙ sym (shown_to ven entries) ∙ ap (λ p. filter (picks p) entries) (sym is)
