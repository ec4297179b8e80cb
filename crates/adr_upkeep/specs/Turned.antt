-- What tables keep behind the changes of what was found of an event.
use Rattle.std.specs.Prelude.{ℕ, List}
use Rattle.adr_db.specs.Kept.{Kept}
use Rattle.adr_kept_view.specs.declared.found.Found.{Found}
use Rattle.adr_kept_view.specs.Changes.{numbers_of, change_found, shown_with_each, stamps_with_each}

-- what is kept, with the changes of what each resource is shown
abbrev pub kept_with_each : List ℕ → ℕ → Found → Kept → Kept
kept_with_each id now found kept = record kept {
  shown = shown_with_each id (change_found kept.portfolio now found) kept.shown (numbers_of found);
  stamps = stamps_with_each id (change_found kept.portfolio now found) kept.stamps (numbers_of found);
}
