-- What every subscription keeps, by the types of its parts.
use Rattle.std.specs.Prelude.{◌≤◌, ℕ, List, length, All, IfSome, IsTrue, ⊤}
use Rattle.adr_text.specs.Ids.{is_id}
use Rattle.adr_text.specs.Names.{is_name}
use Rattle.adr_subscription.specs.declared.item.SubscriptionItem.{SubscriptionItem}
use Rattle.adr_subscription.specs.declared.target.Target.{Target}
use Rattle.adr_subscription.specs.declared.subscription.SubIn.{SubIn}
use Rattle.adr_subscription.specs.Tokens.{is_token}

-- at least and at most so many, each of which keeps something
pub record AreWithin {A : Type 0} (least most : ℕ) (keeps : A → Type 0) (items : List A) : Type 0 where
  pub enough : least ≤ length items
  pub few : length items ≤ most
  pub each : All keeps items

-- 1 to 6 kinds, 1 to 4 operations, and a token of 1 to 1,024 characters from '!' to '~', where there is one
pub record IsItem (i : SubscriptionItem) : Type 0 where
  pub objects : AreWithin 1 6 (λ _. ⊤) i.objects
  pub operations : AreWithin 1 4 (λ _. ⊤) i.operations
  pub bearer_token : IfSome i.bearer_token (λ text. IsTrue (is_token text))

-- at most 1,000 values
pub record IsTarget (t : Target) : Type 0 where
  pub values : AreWithin 0 1000 (λ _. ⊤) t.values

-- a client's name of 1 to 128 bytes, 1 to 16 items, and, where they are there, an object id as program and at most
-- 100 targets
pub record IsSub (s : SubIn) : Type 0 where
  pub client_name : IsTrue (is_name s.client_name)
  pub program : IfSome s.program (λ text. IsTrue (is_id text))
  pub items : AreWithin 1 16 IsItem s.items
  pub targets : IfSome s.targets (AreWithin 0 100 IsTarget)
