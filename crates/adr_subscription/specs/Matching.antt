-- Of what a subscription is told.
use Rattle.std.specs.Prelude.{ℕ, List, ◌==◌, length, codes, Bool, true, false, ◌&&◌, ◌||◌, Option, Some, None, if◌then◌else◌}
use Rattle.std.specs.List.{find, list_any}
use Rattle.std.specs.Str.{bytes_eq}
use Rattle.adr_subscription.specs.declared.words.ObjectKind.{ObjectKind}
use Rattle.adr_subscription.specs.declared.words.OperationKind.{OperationKind}
use Rattle.adr_subscription.specs.declared.item.SubscriptionItem.{SubscriptionItem}
use Rattle.adr_subscription.specs.declared.target.Target.{Target}
use Rattle.adr_subscription.specs.declared.subscription.SubIn.{SubIn}
use Rattle.adr_subscription.specs.Words.{kind_word, operation_word}

-- the kind is among the objects of the item
abbrev pub has_kind : ObjectKind → SubscriptionItem → Bool
has_kind kind item = list_any (λ k. bytes_eq (kind_word k) (kind_word kind)) item.objects

-- the operation is among the operations of the item
abbrev pub has_operation : OperationKind → SubscriptionItem → Bool
has_operation operation item = list_any (λ o. bytes_eq (operation_word o) (operation_word operation)) item.operations

-- the item has the kind among its objects and the operation among its operations
abbrev pub asks_for : ObjectKind → OperationKind → SubscriptionItem → Bool
asks_for kind operation item = has_kind kind item && has_operation operation item

-- the first item that has the kind among its objects and the operation among its operations
abbrev pub item_for : ObjectKind → OperationKind → SubIn → Option SubscriptionItem
item_for kind operation sub = find (asks_for kind operation) sub.items

-- the name is one of the values of the target
abbrev pub has_value : List ℕ → Target → Bool
has_value name target = list_any (λ value. bytes_eq value name) target.values

-- the target is of vens and has that of the ven, or of resources and has that of the resource
abbrev pub names : List ℕ → List ℕ → Target → Bool
names ven_name resource_name target =
    if bytes_eq target.kind (codes "VEN_NAME") then has_value ven_name target
    else (if bytes_eq target.kind (codes "RESOURCE_NAME") then has_value resource_name target
    else false)

-- one of them names the ven or the resource
abbrev pub one_names : List ℕ → List ℕ → List Target → Bool
one_names ven_name resource_name targets = list_any (names ven_name resource_name) targets

-- there is no target, or one of them names the ven or the resource
abbrev pub none_or_one_names : List ℕ → List ℕ → List Target → Bool
none_or_one_names ven_name resource_name targets = (length targets == 0) || one_names ven_name resource_name targets

abbrev pub is_targeted_by : List ℕ → List ℕ → Option (List Target) → Bool
is_targeted_by ven_name resource_name None = true
is_targeted_by ven_name resource_name (Some targets) = none_or_one_names ven_name resource_name targets

-- the subscription is about events of that resource of that ven: it has no target, or one of type `VEN_NAME` with the
-- name of the ven among its values, or of type `RESOURCE_NAME` with that of the resource
abbrev pub is_targeted : List ℕ → List ℕ → SubIn → Bool
is_targeted ven_name resource_name sub = is_targeted_by ven_name resource_name sub.targets
