-- Subscriptions as they are posted. Whatever is at fault in one, it has the wrong shape.
use Rattle.std.specs.Prelude.{ℕ, List, codes, Result, Ok}
use Rattle.serde_json.specs.Data.{Data}
use Rattle.adr_text.specs.Refusals.{◌>>=◌}
use Rattle.adr_text.specs.Fields.{member_of, text_of, value_in, required, optional, id_in, name_in}
use Rattle.adr_text.specs.declared.fault.Fault.{Fault}
use Rattle.adr_text.specs.declared.refusal.Refusal.{Refusal}
use Rattle.adr_objects.specs.ReadBack.{as_bad_shape}
use Rattle.adr_subscription.specs.declared.item.SubscriptionItem.{SubscriptionItem}
use Rattle.adr_subscription.specs.declared.target.Target.{Target}
use Rattle.adr_subscription.specs.declared.subscription.SubIn.{SubIn}
use Rattle.adr_subscription.specs.Bounds.{bounded_in}
use Rattle.adr_subscription.specs.Words.{kind_in, operation_in}
use Rattle.adr_subscription.specs.Tokens.{token_in}

-- 1 to 6 words for kinds, 1 to 4 for operations, an address, and a token that may be absent
unfoldable pub item_in : Data → Result SubscriptionItem Fault
item_in d = do
  objects ← required (member_of (codes "objects") d) (bounded_in 1 6 kind_in)
  operations ← required (member_of (codes "operations") d) (bounded_in 1 4 operation_in)
  callback_url ← required (member_of (codes "callbackUrl") d) text_of
  bearer_token ← optional (member_of (codes "bearerToken") d) token_in
  Ok (record { objects = objects; operations = operations; callback_url = callback_url; bearer_token = bearer_token })

-- a type, and at most 1,000 values
unfoldable pub target_in : Data → Result Target Fault
target_in d = do
  kind ← required (member_of (codes "type") d) text_of
  values ← required (member_of (codes "values") d) (bounded_in 0 1000 text_of)
  Ok (record { kind = kind; values = values })

-- 1 to 16 items, and at most 100 targets, which may be absent, as the program may
unfoldable pub sub_in : Data → Result SubIn Fault
sub_in d = do
  client_name ← required (member_of (codes "clientName") d) name_in
  program ← optional (member_of (codes "programID") d) id_in
  items ← required (member_of (codes "objectOperations") d) (bounded_in 1 16 item_in)
  targets ← optional (member_of (codes "targets") d) (bounded_in 0 100 target_in)
  Ok (record { client_name = client_name; program = program; items = items; targets = targets })

-- the subscription that the bytes are, or 14 for whatever is at fault in one
unfoldable pub sub_of : List ℕ → Result SubIn Refusal
sub_of bytes = as_bad_shape (value_in bytes >>= sub_in)
