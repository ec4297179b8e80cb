-- What is left of a desk, and what is found of it.
use Rattle.std.proofs.Common.{◌≡◌, ◌⊎◌, inl, inr, false, Option, Some, None, Result, Ok, Err, IfSome, OnOk, sym, subst}
use Rattle.std.specs.Prelude.{is_err}
use Rattle.adr_db.proofs.Common.{Trees, HasCleanDisk}
use Rattle.sqlite.specs.State.{Survives}
use Rattle.sqlite.specs.State as sql
use Rattle.adr_state.specs.declared.state.State.{State}
use Rattle.adr_held.specs.Held.{HoldsState, HoldsInEither, AreLeftWith, AreLeftFirst, AreLeftInEither}
use Rattle.adr_desk.proofs.Transactions.{left_now}

pub some_then : {T : Type 0} {P Q : T → Type 0} (o : Option T) → ((x : T) → P x → Q x) → IfSome o P → IfSome o Q
some_then (Some x) f h = f x h
some_then None f h = tt

pub went_well : {T E : Type 0} (P : Type 0) (r : Result T E) → is_err r ≡ false → OnOk r P → P
went_well P (Ok x) is h = h
went_well P (Err e) is h = absurd cc

-- what tables hold is left by trees that are theirs
pub left_by : (held : State) (s : sql.State) (trees : Trees) → trees ≡ s.now.trees → HoldsState held s → AreLeftWith held trees
left_by held s trees is h = subst (AreLeftWith held) (sym is) (left_now held s h)

-- so it is in either version
pub left_in_either : (held : State) (s : sql.State) (trees : Trees) → trees ≡ s.now.trees → HoldsInEither held s → AreLeftInEither held trees
left_in_either held s trees is (inl today) = inl (left_by held s trees is today)
left_in_either held s trees is (inr first) = inr (subst (AreLeftFirst held) (sym is) (record {
  sound = first.keeps.rows.sound;
  rows = first.keeps.rows.each;
  marks = first.keeps.marks;
  subs = first.keeps.subs;
  unfrozen = first.keeps.unfrozen;
  reads = first.reads;
  right = first.right;
}))

-- a store that recovers trees recovers these, where they are the same
pub recovered : (recovers : Trees → Type 0) (x y : Trees) → x ≡ y → recovers y → recovers x
recovered recovers x y is = subst recovers (sym is)

-- a crash leaves what was held before, or what comes after
pub before_or_after : (old new : sql.State) (IsAfter : State → Trees → Type 0) (held : State) → Survives old new (λ trees. (h : State) → HoldsState h old → IsAfter h trees) → HasCleanDisk new
    → ((trees : Trees) → old.may_leave trees → trees ≡ old.now.trees) → HoldsState held old → (trees : Trees) → new.may_leave trees → AreLeftWith held trees ⊎ IsAfter held trees
before_or_after old new IsAfter held survives clean leaves was trees may = elim (survives.crash clean trees may) [ inl early ↦ inl (left_by held old trees (leaves trees early) was) | inr late ↦ inr (late held was) ]
