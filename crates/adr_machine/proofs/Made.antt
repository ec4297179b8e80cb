-- An entry that an edit makes was not tried.
use Rattle.std.proofs.Common.{◌≡◌, ℕ, List, [], Option, Some, None, refl}
use Rattle.std.specs.Prelude.{IfSome, option_map}
use Rattle.std.specs.List.{All}
use Rattle.std.specs.Option.{option_map_or}
use Rattle.std.proofs.lemmas.List.Elements.{All-cons, All-nil}
use Rattle.adr_subscription.specs.declared.item.SubscriptionItem.{SubscriptionItem}
use Rattle.adr_subscription.specs.declared.kept_sub.Sub.{Sub}
use Rattle.adr_delivery.specs.Deliveries.{untried}
use Rattle.adr_delivery.specs.declared.entry.Entry.{Entry}
use Rattle.adr_state.specs.declared.base.Base.{Base}
use Rattle.adr_state.specs.declared.keys.ViewKey.{ViewKey}
use Rattle.adr_state.specs.declared.keys.ViewKey.TheVariants as key
use Rattle.adr_state.specs.declared.limits.Settings.{Settings}
use Rattle.adr_state.specs.declared.state.State.{State}
use Rattle.adr_state.specs.Keys.{at, view_cmp}
use Rattle.adr_view.specs.declared.changes.Change.{Change}
use Rattle.adr_view.specs.declared.changes.Operation.{Operation}
use Rattle.adr_view.specs.declared.view.Content.{Content}
use Rattle.adr_view.specs.declared.view.Content.TheVariants as content
use Rattle.adr_view.proofs.ListLemmas.{all_filter_map, all_flat}
use Rattle.adr_view.proofs.RowLemmas.{each_there}
use Rattle.adr_notices.specs.declared.notice.Notice.{Notice}
use Rattle.adr_notices.specs.Made.{entries_at, entries_noticed, entries_of_change, judged_in}
use Rattle.adr_notices.specs.Matching.{entries_of, entry_by, entry_for, matching}
use Rattle.adr_notices.specs.Shown.{Side}
use Rattle.adr_machine.specs.Steps.{changes_of, entries_then, side_after, side_before}

abbrev pub IsUntried : Entry → Type 0
IsUntried e = e.delivery ≡ untried

module _ (client : List ℕ) (subs : List (ℕ × Sub)) where
  told_untried : (n : Notice) → All IsUntried (entries_of subs n)
  told_untried n = all_filter_map (entry_for n) (λ s. Unit {0}) IsUntried (λ s any. by s.0 (matching s.1 n)) subs (each_there (λ s. Unit {0}) subs (λ s there. tt))
    where
      by : (number : ℕ) (item : Option SubscriptionItem) → IfSome (option_map (entry_by number n) item) IsUntried
      by number None = tt
      by number (Some item) = refl

  noticed_untried : (notice : Option Notice) → All IsUntried (entries_noticed subs notice)
  noticed_untried None = All-nil IsUntried
  noticed_untried (Some n) = told_untried n

  at_untried : (shown : Side) (operation : Operation) (k : ViewKey) (c : Content) → All IsUntried (entries_at client subs shown operation k c)
  at_untried shown operation (key.Rollup event) (content.Rollup rollup) = All-cons IsUntried _ [] refl (All-nil IsUntried)
  at_untried shown operation k c = noticed_untried _

  change_untried : (before after : Side) (change : Change) → All IsUntried (entries_of_change client subs before after change)
  change_untried before after change = by (at view_cmp change.key (judged_in change.operation before after).view)
    where
      by : (c : Option Content) → All IsUntried (option_map_or (entries_at client subs (judged_in change.operation before after) change.operation change.key) c [])
      by None = All-nil IsUntried
      by (Some c) = at_untried (judged_in change.operation before after) change.operation change.key c

pub made_untried : (settings : Settings) (s : State) (now : ℕ) (base : Base) → All IsUntried (entries_then settings s now base)
made_untried settings s now base =
    let made : Change → List Entry = entries_of_change settings.client base.portfolio.subs (side_before s) (side_after s now base) in
    all_flat made IsUntried (changes_of s base) (each_there (λ change. All IsUntried (made change)) (changes_of s base) (λ change there. change_untried settings.client base.portfolio.subs (side_before s) (side_after s now base) change))
