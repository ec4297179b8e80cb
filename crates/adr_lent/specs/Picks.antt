-- Which shown events a query of its own selects, and the part of them that it answers.
use Rattle.std.specs.Prelude.{◌==◌, ℕ, pos, negsuc, Bool, true, List, [], ◌∷◌, map, filter, take, drop, Option, None, Some}
use Rattle.std.specs.Str.{bytes_eq}
use Rattle.sqlite_value.specs.declared.value.Value.{Value}
use Rattle.sqlite_value.specs.declared.value.Value.TheVariants.{Null, Int, Text}
use Rattle.sqlite.specs.Order.{Row}
use Rattle.adr_queries.specs.declared.query.Page.{Page}
use Rattle.adr_db.specs.Kept.{Kept}
use Rattle.adr_db.specs.Rows.{number, shown_row}
use Rattle.adr_lent.specs.declared.picked.Picked.{Picked}
use Rattle.adr_lent.specs.declared.picked.Picked.TheVariants.{All, OfVen, OfProgram, OfVenName, OfResourceName}
use Rattle.adr_lent.specs.declared.shown.TheConstants.{READ_ALL, READ_OF_VEN, READ_OF_PROGRAM, READ_OF_VEN_NAME, READ_OF_RESOURCE_NAME}
use Rattle.adr_lent.specs.Pages.{ShownEntry}

-- whether what is kept of a shown event is picked
abbrev pub picks : Picked → ShownEntry → Bool
picks All e = true
picks (OfVen ven) e = e.1.ven == ven
picks (OfProgram program) e = bytes_eq e.1.program program
picks (OfVenName name) e = bytes_eq e.1.ven_name name
picks (OfResourceName name) e = bytes_eq e.1.resource_name name

-- those of one ven, where one is named
abbrev pub for_ven : Option ℕ → Picked
for_ven None = All
for_ven (Some ven) = OfVen ven

-- all of them, or one page
abbrev pub part_of : {X : Type 0} → Option Page → List X → List X
part_of None xs = xs
part_of (Some page) xs = take page.limit (drop page.skip xs)

-- that part of those that are picked
abbrev pub picked_part : Picked → Option Page → Kept → List ShownEntry
picked_part picked part kept = part_of part (filter (picks picked) kept.shown)

-- ---- in SQL

abbrev pub text_for : Picked → List ℕ
text_for All = READ_ALL.now
text_for (OfVen ven) = READ_OF_VEN.now
text_for (OfProgram program) = READ_OF_PROGRAM.now
text_for (OfVenName name) = READ_OF_VEN_NAME.now
text_for (OfResourceName name) = READ_OF_RESOURCE_NAME.now

-- what they have in the column that they are picked by
abbrev pub key_cell : Picked → Value
key_cell All = Null
key_cell (OfVen ven) = number ven
key_cell (OfProgram program) = Text program
key_cell (OfVenName name) = Text name
key_cell (OfResourceName name) = Text name

-- below 0 there is no limit
abbrev pub limit_cell : Option Page → Value
limit_cell None = Int (negsuc 0)
limit_cell (Some page) = Int (pos page.limit)

abbrev pub skip_cell : Option Page → Value
skip_cell None = Int (pos 0)
skip_cell (Some page) = Int (pos page.skip)

abbrev pub picked_row : Picked → Option Page → Row
picked_row picked part = key_cell picked ∷ limit_cell part ∷ skip_cell part ∷ []

-- the rows in which it stands
abbrev pub part_rows : Picked → Option Page → Kept → List Row
part_rows picked part kept = map shown_row (picked_part picked part kept)
