-- An entry that an edit makes goes to the utility, or to a subscription that is there.
use Rattle.std.proofs.Common.{◌≡◌, ℕ, Bool, true, false, ◌||◌, List, [], Option, Some, None, refl}
use Rattle.std.specs.Prelude.{IfSome, IsSome, option_map}
use Rattle.std.specs.Option.{option_map_or}
use Rattle.std.proofs.lemmas.List.Elements.{All-cons, All-nil}
use Rattle.std.proofs.lemmas.Map.Views.{IsSome-lookup_from_Contains}
use Rattle.adr_subscription.specs.declared.item.SubscriptionItem.{SubscriptionItem}
use Rattle.adr_subscription.specs.declared.kept_sub.Sub.{Sub}
use Rattle.adr_delivery.specs.declared.entry.Entry.{Entry}
use Rattle.adr_delivery.specs.Outboxes.{has_addressee}
use Rattle.adr_state.specs.declared.keys.ViewKey.{ViewKey}
use Rattle.adr_state.specs.declared.keys.ViewKey.TheVariants as key
use Rattle.adr_view.specs.declared.changes.Change.{Change}
use Rattle.adr_view.specs.declared.changes.Operation.{Operation}
use Rattle.adr_view.specs.declared.view.Content.{Content}
use Rattle.adr_view.specs.declared.view.Content.TheVariants as content
use Rattle.adr_view.proofs.ListLemmas.{all_filter_map, all_flat, in_map}
use Rattle.adr_view.proofs.RowLemmas.{each_there}
use Rattle.adr_notices.specs.declared.notice.Notice.{Notice}
use Rattle.adr_notices.specs.Made.{entries_at, entries_made, entries_noticed, entries_of_change, judged_in}
use Rattle.adr_notices.specs.Matching.{entries_of, entry_by, entry_for, matching}
use Rattle.adr_notices.specs.Shown.{Side}
use Rattle.adr_refresh.proofs.Common.{All, Contains, at, eq_by_cmp_equiv, nat_cmp, nat_cmp_total, view_cmp}

either : (a b : Bool) → b ≡ true → (a || b) ≡ true
either true b is = refl
either false b is = is

module _ (subs : List (ℕ × Sub)) where
  -- the number of an entry does not say where it goes
  abbrev pub Goes : Entry → Type 0
  Goes e = has_addressee subs (0, e) ≡ true

  sub_there : (s : ℕ × Sub) → Contains subs s → IsSome (at nat_cmp s.0 subs)
  sub_there s there = IsSome-lookup_from_Contains (eq_by_cmp_equiv nat_cmp_total) s.0 subs (in_map (λ s. s.0) subs s there)

  told_goes : (n : Notice) → All Goes (entries_of subs n)
  told_goes n = all_filter_map (entry_for n) (Contains subs) Goes (λ s there. by s there (matching s.1 n)) subs (each_there (Contains subs) subs (λ s there. there))
    where
      by : (s : ℕ × Sub) → Contains subs s → (item : Option SubscriptionItem) → IfSome (option_map (entry_by s.0 n) item) Goes
      by s there None = tt
      by s there (Some item) = either _ _ (sub_there s there)

  noticed_goes : (notice : Option Notice) → All Goes (entries_noticed subs notice)
  noticed_goes None = All-nil Goes
  noticed_goes (Some n) = told_goes n

  module _ (client : List ℕ) where
    at_goes : (shown : Side) (operation : Operation) (k : ViewKey) (c : Content) → All Goes (entries_at client subs shown operation k c)
    at_goes shown operation (key.Rollup event) (content.Rollup rollup) = All-cons Goes _ [] refl (All-nil Goes)
    at_goes shown operation k c = noticed_goes _

    change_goes : (before after : Side) (change : Change) → All Goes (entries_of_change client subs before after change)
    change_goes before after change = by (at view_cmp change.key (judged_in change.operation before after).view)
      where
        by : (c : Option Content) → All Goes (option_map_or (entries_at client subs (judged_in change.operation before after) change.operation change.key) c [])
        by None = All-nil Goes
        by (Some c) = at_goes (judged_in change.operation before after) change.operation change.key c

    pub made_goes : (before after : Side) (changes : List Change) → All Goes (entries_made client subs before after changes)
    made_goes before after changes =
        let made : Change → List Entry = entries_of_change client subs before after in
        all_flat made Goes changes (each_there (λ change. All Goes (made change)) changes (λ change there. change_goes before after change))
