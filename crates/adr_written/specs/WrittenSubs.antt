-- Subscriptions as they are written: with no token.
use Rattle.std.specs.Prelude.{ℕ, List, [], ◌∷◌, ◌++◌, map, codes, Option, Some, option_map}
use Rattle.serde_json.specs.Data.{Data, string}
use Rattle.serde_json.specs.Written.{compact_text}
use Rattle.adr_text.specs.Objects.{object_of, array_of}
use Rattle.adr_subscription.specs.declared.item.SubscriptionItem.{SubscriptionItem}
use Rattle.adr_subscription.specs.declared.object.SubObject.{SubObject}
use Rattle.adr_subscription.specs.Kept.{kinds_data, operations_data, targets_data}
use Rattle.adr_written.specs.Ids.{sub_id}
use Rattle.adr_written.specs.Objects.{moment_data}

abbrev pub shown_item_fields : SubscriptionItem → List (List ℕ × Option Data)
shown_item_fields i =
    (codes "callbackUrl", Some (string i.callback_url))
    ∷ (codes "objects", Some (kinds_data i.objects))
    ∷ (codes "operations", Some (operations_data i.operations))
    ∷ []

-- `callbackUrl`, `objects` and `operations`, without the token
unfoldable pub shown_item_data : SubscriptionItem → Data
shown_item_data i = object_of (shown_item_fields i)

-- `clientName`, `createdDateTime`, `id` and `modificationDateTime`
abbrev pub sub_object_head : SubObject → List (List ℕ × Option Data)
sub_object_head s =
    (codes "clientName", Some (string s.sub.client_name))
    ∷ (codes "createdDateTime", Some (moment_data s.stamps.created))
    ∷ (codes "id", Some (string (sub_id s.number)))
    ∷ (codes "modificationDateTime", Some (moment_data s.stamps.modified))
    ∷ []

-- `objectOperations`, `objectType`, `programID` and `targets`, of which the last two may be absent
abbrev pub sub_object_tail : SubObject → List (List ℕ × Option Data)
sub_object_tail s =
    (codes "objectOperations", Some (array_of (map shown_item_data s.sub.items)))
    ∷ (codes "objectType", Some (string (codes "SUBSCRIPTION")))
    ∷ (codes "programID", option_map string s.sub.program)
    ∷ (codes "targets", option_map targets_data s.sub.targets)
    ∷ []

abbrev pub sub_object_fields : SubObject → List (List ℕ × Option Data)
sub_object_fields s = sub_object_head s ++ sub_object_tail s

-- a subscription: the members of `sub_object_head` and of `sub_object_tail`
unfoldable pub sub_object_data : SubObject → Data
sub_object_data s = object_of (sub_object_fields s)

-- a subscription, without its tokens, as compact JSON
unfoldable pub sub_text : SubObject → List ℕ
sub_text s = compact_text (sub_object_data s)
