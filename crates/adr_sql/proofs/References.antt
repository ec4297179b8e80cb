-- A write that sets off no action: to a table to which no reference points, or one whose references follow no change of a key. And
-- what every write shares.
use Rattle.std.proofs.Common.{◌≡◌, ◌⊎◌, inl, inr, ℕ, ℤ, Bool, true, false, not, ◌||◌, ◌==◌, cond, List, [], ◌∷◌, ◌++◌, length, Ok, Err, Result, Option, Some, None, refl, ap, ap₂}
use Rattle.adr_sql.proofs.Common.{list_all, flat_map, filter_map, cons_option, and_parts, not-true, or_cases, Value, Null, Int, Row, unary, Enforced, Deferred, Off, Table, Schema, ParentKey, parent_key, cast, works, work_for, work_by, deed_for, pairs}
use Rattle.sqlite_schema.specs.declared.schema.Kind.TheVariants.{Integer}
use Rattle.sqlite_schema.specs.declared.schema.Keys.{Keys}
use Rattle.sqlite_schema.specs.declared.schema.Action.{Action}
use Rattle.sqlite_schema.specs.declared.schema.Action.TheVariants.{NoAction}
use Rattle.sqlite_schema.specs.declared.schema.Reference.{Reference}
use Rattle.sqlite_rules.specs.declared.action.Deed.{Deed}

-- ---- steps of a write

-- a part that gave a value did not stop on the way
pub went : {B E R : Type 0} {b : B} {Stops : E → Type 0} → ((stop : E) × Stops stop × (Ok b ≡ Err stop)) ⊎ R → R
went (inl stopped) = absurd (let e = stopped.2 in cc)
went (inr on) = on

pub same_value : {B E : Type 0} {a b : B} → ◌≡◌ {A = Result B E} (Ok a) (Ok b) → a ≡ b
same_value e = cc

either : (b : Bool) (x : Value) → cond b x x ≡ x
either true x = refl
either false x = refl

-- an INT column keeps a NULL and an integer as they are
pub cast_null : cast Integer Null ≡ Null
unfolding unary
cast_null = either _ Null

pub cast_int : (n : ℤ) → cast Integer (Int n) ≡ Int n
unfolding unary
cast_int n = either _ (Int n)

-- ---- references

abbrev pub points : ℕ → Option ParentKey → Bool
points tree None = false
points tree (Some key) = key.0 == tree

-- no reference points to the table with this tree
abbrev pub is_childless : Schema → ℕ → Bool
is_childless schema tree = list_all (λ t. list_all (λ ref. not (points tree (parent_key schema.tables ref))) t.references) schema.tables

unmoved : (depth tree : ℕ) (moves : List (Row × Row)) (child : Table) (ref : Reference) (deed : Option Deed) (key : Option ParentKey) → not (points tree key) ≡ true → work_by depth tree moves child ref deed key ≡ None
unmoved depth tree moves child ref None key h = refl
unmoved depth tree moves child ref (Some deed) None h = refl
unmoved depth tree moves child ref (Some deed) (Some key) h = rw (not-true _ h) refl

-- where each reference that passes a test sets nothing off, and each does pass, nothing is set off
module _ (schema : Schema) (depth tree : ℕ) (keys : Keys) (olds news : List Row) (is_still : Reference → Bool) (still : (child : Table) (ref : Reference) → is_still ref ≡ true → work_for schema keys depth tree olds news child ref ≡ None) where
  none_of : (child : Table) (refs : List Reference) → list_all is_still refs ≡ true → filter_map (work_for schema keys depth tree olds news child) refs ≡ []
  none_of child [] h = refl
  none_of child (ref ∷ refs) h = let parts = and_parts _ _ h in ap₂ cons_option (still child ref parts.0) (none_of child refs parts.1)

  none_set_off : (tables : List Table) → list_all (λ t. list_all is_still t.references) tables ≡ true → flat_map (λ child. filter_map (work_for schema keys depth tree olds news child) child.references) tables ≡ []
  none_set_off [] h = refl
  none_set_off (t ∷ tables) h = let parts = and_parts _ _ h in ap₂ ◌++◌ (none_of t t.references parts.0) (none_set_off tables parts.1)

pub no_work : (schema : Schema) (depth tree : ℕ) → is_childless schema tree ≡ true → (keys : Keys) (olds news : List Row) → works schema keys depth tree olds news ≡ []
no_work schema depth tree h keys olds news =
    none_set_off schema depth tree keys olds news (λ ref. not (points tree (parent_key schema.tables ref))) (λ child ref. unmoved depth tree (pairs olds news) child ref (deed_for keys (length news == 0) ref) (parent_key schema.tables ref)) schema.tables h

-- ---- references that follow no change of a key

abbrev is_no_action : Action → Bool
is_no_action NoAction = true
is_no_action _ = false

-- no reference to the table with this tree is ON UPDATE something
abbrev pub is_unfollowed : Schema → ℕ → Bool
is_unfollowed schema tree = list_all (λ t. list_all (λ ref. is_no_action ref.on_update || not (points tree (parent_key schema.tables ref))) t.references) schema.tables

no_action : (a : Action) → is_no_action a ≡ true → a ≡ NoAction
no_action NoAction h = refl
no_action _ h = absurd cc

no_deed : (keys : Keys) (ref : Reference) → ref.on_update ≡ NoAction → deed_for keys false ref ≡ None
no_deed Enforced ref h = rw h refl
no_deed Deferred ref h = rw h refl
no_deed Off ref h = refl

-- so to write one row anew sets off nothing
pub no_follow : (schema : Schema) (depth tree : ℕ) → is_unfollowed schema tree ≡ true → (keys : Keys) (olds : List Row) (new : Row) → works schema keys depth tree olds (new ∷ []) ≡ []
no_follow schema depth tree h keys olds new = none_set_off schema depth tree keys olds (new ∷ []) (λ ref. is_no_action ref.on_update || not (points tree (parent_key schema.tables ref))) one schema.tables h
  where
    one : (child : Table) (ref : Reference) → (is_no_action ref.on_update || not (points tree (parent_key schema.tables ref))) ≡ true → work_for schema keys depth tree olds (new ∷ []) child ref ≡ None
    one child ref h = elim (or_cases (is_no_action ref.on_update) (not (points tree (parent_key schema.tables ref))) h) [
      | inl quiet ↦ ap (λ d. work_by depth tree (pairs olds (new ∷ [])) child ref d (parent_key schema.tables ref)) (no_deed keys ref (no_action ref.on_update quiet))
      | inr other ↦ unmoved depth tree (pairs olds (new ∷ [])) child ref (deed_for keys false ref) (parent_key schema.tables ref) other
    ]
