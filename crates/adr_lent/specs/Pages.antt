-- A page of the rows that are wanted, and pages of what is kept of shown events.
use Rattle.std.specs.Prelude.{◌≡◌, ◌==◌, ◌⊎◌, ℕ, ◌-◌, ◌<◌, ◌≤◌, Bool, List, [], ◌∷◌, ◌++◌, length, filter, drop, Option, None, Some}
use Rattle.std.specs.List.{AllZip}
use Rattle.sqlite.specs.Order.{Row}
use Rattle.sqlite.specs.Store.{Ghosts}
use Rattle.sqlite.specs.Held.{Held, state}
use Rattle.sqlite.specs.State.{IsUnchanged, Shown}
use Rattle.adr_queries.specs.Filters.{wants}
use Rattle.adr_queries.specs.declared.filter.EventFilter.{EventFilter}
use Rattle.adr_queries.specs.declared.query.Page.{Page}
use Rattle.adr_db.specs.declared.shown.ShownColumns.{ShownColumns}
use Rattle.adr_db.specs.declared.shown.ShownKey.{ShownKey}
use Rattle.adr_lent.specs.Lent.{HasLent}

-- ---- the page

-- after `skip` of them these are found, and so many are still to skip
pub record IsCut {X : Type 0} (skip : ℕ) (wanted found : List X) (left : ℕ) : Type 0 where
  pub found_is : found ≡ drop skip wanted
  pub left_is : left ≡ skip - length wanted

-- the last row that is lent is needed: before it fewer of those that are wanted were found than the page has
abbrev pub IsNeeded : {X : Type 0} → (X → Bool) → Page → List X → Type 0
IsNeeded {X} wanted page seen = (seen ≡ []) ⊎ ((front : List X) × (last : X) × (seen ≡ front ++ last ∷ []) × (length (drop page.skip (filter wanted front)) < page.limit))

-- of a query at its start so many rows are lent, and read as these, as make the page of those that are wanted, or all of them
abbrev pub LendsPage : {S X : Type 0} → Ghosts S → (Row → X → Type 0) → (X → Bool) → Page → Held S → Held S → List X → Type 0
LendsPage {S} {X} g Reads wanted page old now found =
    (sql : List ℕ) (params : Row) (before : Held S) → HasLent g sql params before old []
    → (lent : List Row) × (seen : List X) × (left : ℕ) × AllZip Reads lent seen × IsCut page.skip (filter wanted seen) found left × (length found ≤ page.limit) × IsUnchanged (state g before) (state g now)
    × (Shown sql params (state g before) (state g now) lent ⊎ (HasLent g sql params before now lent × (page.limit ≤ length found) × IsNeeded wanted page seen))

-- ---- what is kept of shown events

-- what is kept of a shown event, behind its key
abbrev pub ShownEntry : Type 0
ShownEntry = ShownKey × ShownColumns

-- of what is kept of all shown events, that of the resources of one ven, where one is named
abbrev pub kept_for : Option ℕ → List ShownEntry → List ShownEntry
kept_for None entries = entries
kept_for (Some ven) entries = filter (λ e. e.1.ven == ven) entries

-- whether it is wanted, by its columns
abbrev pub wants_row : EventFilter → ShownColumns → Bool
wants_row f c = wants f c.program c.ven_name c.resource_name

-- of these entries those that are wanted
abbrev pub wanted_among : EventFilter → List ShownEntry → List ShownEntry
wanted_among f entries = filter (λ e. wants_row f e.1) entries
