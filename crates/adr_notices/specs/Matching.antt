-- To whom a change is told: which subscriptions match it, and the entry that each of them gets.
use Rattle.std.specs.Prelude.{ℕ, ◌==◌, Bool, true, false, ◌&&◌, ◌||◌, List, Option, Some, None, option_map, if◌then◌else◌}
use Rattle.std.specs.List.{filter_map}
use Rattle.std.specs.Option.{option_map_or}
use Rattle.std.specs.Str.{bytes_eq}
use Rattle.adr_subscription.specs.declared.words.ObjectKind.{ObjectKind}
use Rattle.adr_subscription.specs.declared.words.ObjectKind.TheVariants as kind
use Rattle.adr_subscription.specs.declared.item.SubscriptionItem.{SubscriptionItem}
use Rattle.adr_subscription.specs.declared.subscription.SubIn.{SubIn}
use Rattle.adr_subscription.specs.declared.kept_sub.Sub.{Sub}
use Rattle.adr_subscription.specs.Matching.{item_for, is_targeted}
use Rattle.adr_delivery.specs.declared.entry.Entry.{Entry}
use Rattle.adr_delivery.specs.declared.addressee.Addressee.TheVariants.{Subscriber}
use Rattle.adr_delivery.specs.Entries.{fresh}
use Rattle.adr_notices.specs.declared.notice.EventNames.{EventNames}
use Rattle.adr_notices.specs.declared.notice.Notice.{Notice}

-- whether it is about the program that a subscription names; one that names none is about all
abbrev pub is_about : Option (List ℕ) → Notice → Bool
is_about None n = true
is_about (Some program) n = bytes_eq n.program program

-- whether an object of that kind is in sight of every ven
abbrev pub is_for_all : ObjectKind → Bool
is_for_all kind.Program = true
is_for_all _ = false

-- whether its owner sees the object: the operator sees all, and a ven the programs and what is of that ven
abbrev pub is_in_sight : Option ℕ → Notice → Bool
is_in_sight None n = true
is_in_sight (Some owner) n = is_for_all n.kind || option_map_or (λ ven. ven == owner) n.ven false

-- whether its targets mean the event of those names; what is no event is meant by all
abbrev pub is_meant : SubIn → Option EventNames → Bool
is_meant sub None = true
is_meant sub (Some names) = is_targeted names.ven_name names.resource_name sub

-- whether all three hold: it is about the program that the subscription names, if it names one, its owner sees the
-- object, and its targets mean the event
abbrev pub is_for : Sub → Notice → Bool
is_for sub n = is_about sub.body.program n && is_in_sight sub.owner n && is_meant sub.body n.names

-- the item by which it is told to a subscription, where that matches: the first that asks for the kind and the operation
abbrev pub matching : Sub → Notice → Option SubscriptionItem
matching sub n = if is_for sub n then item_for n.kind n.operation sub.body else None

-- an entry for a subscription, at the address and with the token of an item
abbrev pub entry_by : ℕ → Notice → SubscriptionItem → Entry
entry_by number n item = fresh (Subscriber number item.callback_url item.bearer_token) n.operation n.body

-- the entry for a subscription with its number, where that matches
abbrev pub entry_for : Notice → ℕ × Sub → Option Entry
entry_for n s = option_map (entry_by s.0 n) (matching s.1 n)

-- one entry for each subscription that matches, in the order of their numbers
abbrev pub entries_of : List (ℕ × Sub) → Notice → List Entry
entries_of subs n = filter_map (entry_for n) subs
