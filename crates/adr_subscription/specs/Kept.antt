-- The text that is kept of a subscription, and how it is read back.
use Rattle.std.specs.Prelude.{ℕ, List, [], ◌∷◌, map, codes, Option, Some, option_map, Result}
use Rattle.serde_json.specs.Data.{Data, string}
use Rattle.serde_json.specs.Written.{compact_text}
use Rattle.adr_text.specs.Refusals.{◌>>=◌}
use Rattle.adr_text.specs.Objects.{object_of, array_of}
use Rattle.adr_text.specs.declared.refusal.Refusal.{Refusal}
use Rattle.adr_objects.specs.Canonical.{texts_data}
use Rattle.adr_objects.specs.ReadBack.{value_of_text, as_bad_shape}
use Rattle.adr_subscription.specs.declared.words.ObjectKind.{ObjectKind}
use Rattle.adr_subscription.specs.declared.words.OperationKind.{OperationKind}
use Rattle.adr_subscription.specs.declared.item.SubscriptionItem.{SubscriptionItem}
use Rattle.adr_subscription.specs.declared.target.Target.{Target}
use Rattle.adr_subscription.specs.declared.subscription.SubIn.{SubIn}
use Rattle.adr_subscription.specs.Words.{kind_word, operation_word}
use Rattle.adr_subscription.specs.Subscriptions.{sub_in}

abbrev pub kind_data : ObjectKind → Data
kind_data kind = string (kind_word kind)

abbrev pub kinds_data : List ObjectKind → Data
kinds_data kinds = array_of (map kind_data kinds)

abbrev pub operation_data : OperationKind → Data
operation_data operation = string (operation_word operation)

abbrev pub operations_data : List OperationKind → Data
operations_data operations = array_of (map operation_data operations)

abbrev pub item_fields : SubscriptionItem → List (List ℕ × Option Data)
item_fields i =
    (codes "bearerToken", option_map string i.bearer_token)
    ∷ (codes "callbackUrl", Some (string i.callback_url))
    ∷ (codes "objects", Some (kinds_data i.objects))
    ∷ (codes "operations", Some (operations_data i.operations))
    ∷ []

-- `bearerToken`, `callbackUrl`, `objects` and `operations`, of which the token may be absent
unfoldable pub item_data : SubscriptionItem → Data
item_data i = object_of (item_fields i)

abbrev pub target_fields : Target → List (List ℕ × Option Data)
target_fields t =
    (codes "type", Some (string t.kind))
    ∷ (codes "values", Some (texts_data t.values))
    ∷ []

-- `type` and `values`
unfoldable pub target_data : Target → Data
target_data t = object_of (target_fields t)

abbrev pub targets_data : List Target → Data
targets_data targets = array_of (map target_data targets)

abbrev pub sub_fields : SubIn → List (List ℕ × Option Data)
sub_fields s =
    (codes "clientName", Some (string s.client_name))
    ∷ (codes "objectOperations", Some (array_of (map item_data s.items)))
    ∷ (codes "programID", option_map string s.program)
    ∷ (codes "targets", option_map targets_data s.targets)
    ∷ []

-- `clientName`, `objectOperations`, `programID` and `targets`, of which the last two may be absent
unfoldable pub sub_data : SubIn → Data
sub_data s = object_of (sub_fields s)

-- the text that is kept of a subscription: members in byte order, with tokens, no space
unfoldable pub kept_text : SubIn → List ℕ
kept_text s = compact_text (sub_data s)

-- the subscription that a text is; its bytes are UTF-8 by its type
unfoldable pub kept_of : List ℕ → Result SubIn Refusal
kept_of text = as_bad_shape (value_of_text text >>= sub_in)
