-- Which subscriptions were read, as more are.
use Rattle.std.proofs.Common.{◌≡◌, ℕ, Bool, true, false, List, [], ◌∷◌, ◌++◌, filter, Option, Some, None, Less, refl, sym, ap, ◌∙◌}
use Rattle.std.specs.Prelude.{◌==◌, ◌||◌}
use Rattle.std.specs.List.{list_any}
use Rattle.std.specs.Option.{option_map_or}
use Rattle.adr_db.proofs.Common.{IsAscending, State, Sub, is_sub_of, nat_cmp}
use Rattle.adr_state.specs.Keys.{with_rows}
use Rattle.adr_db.specs.Kept.{Kept, Keeps}
use Rattle.adr_db.proofs.KeptMaps.{stored_rises}
use Rattle.adr_db.proofs.Maps.{sub_map}
use Rattle.adr_listeners.specs.declared.listeners.Listeners.{Listeners}
use Rattle.adr_listeners.specs.Hearers.{is_operators}
use Rattle.adr_listeners.specs.Listeners.{was_read, AreThose, ReadsMore}
use Rattle.adr_db.proofs.Unions.{both_put, any_more, none_pass, or_false, or_true}

or_assoc : (a b c : Bool) → (a || (b || c)) ≡ ((a || b) || c)
or_assoc true b c = refl
or_assoc false b c = refl

all_pass : {X : Type 0} (xs : List X) → filter (λ x. true) xs ≡ xs
all_pass [] = refl
all_pass (x ∷ xs) = ap (λ rest. x ∷ rest) (all_pass xs)

-- before any was read
pub none_read : (kept : Kept) (those : Listeners) → those.all ≡ false → those.operator ≡ false → those.vens ≡ [] → those.subs ≡ [] → AreThose kept those
none_read kept those all operator vens subs =
    subs ∙ sym (ap (λ (p : ℕ × Sub → Bool). filter p kept.portfolio.subs) (λ i s. none s.1 i) ∙ none_pass kept.portfolio.subs)
  where
    none : (sub : Sub) → was_read those sub ≡ false
    none sub = by sub.owner
      where
        by : (owner : Option ℕ) → (those.all || option_map_or (λ o. list_any (λ ven. o == ven) those.vens) owner those.operator) ≡ false
        by None = rw (all, operator) refl
        by (Some o) = rw (all, vens) refl

-- where all were read
pub all_read : (kept : Kept) (those : Listeners) → those.all ≡ true → those.subs ≡ kept.portfolio.subs → AreThose kept those
all_read kept those all subs = subs ∙ sym (ap (λ (p : ℕ × Sub → Bool). filter p kept.portfolio.subs) (λ i s. any s.1 i) ∙ all_pass kept.portfolio.subs)
  where
    any : (sub : Sub) → was_read those sub ≡ true
    any sub = rw all refl

-- those of the operator
pub operators_more : (those later : Listeners) → later.all ≡ those.all → later.vens ≡ those.vens → later.operator ≡ true → ReadsMore is_operators those later
operators_more those later all vens operator sub = by sub.owner
  where
    by : (owner : Option ℕ) → (later.all || option_map_or (λ o. list_any (λ ven. o == ven) later.vens) owner later.operator) ≡ ((those.all || option_map_or (λ o. list_any (λ ven. o == ven) those.vens) owner those.operator) || option_map_or (λ o. false) owner true)
    by None = rw (operator) (or_true later.all ∙ sym (or_true (those.all || those.operator)))
    by (Some o) = rw (all, vens) (sym (or_false _))

-- those of one ven
pub vens_more : (those later : Listeners) (ven : ℕ) → later.all ≡ those.all → later.operator ≡ those.operator → later.vens ≡ those.vens ++ ven ∷ [] → ReadsMore (is_sub_of ven) those later
vens_more those later ven all operator vens sub = by sub.owner
  where
    by : (owner : Option ℕ) → (later.all || option_map_or (λ o. list_any (λ v. o == v) later.vens) owner later.operator) ≡ ((those.all || option_map_or (λ o. list_any (λ v. o == v) those.vens) owner those.operator) || option_map_or (λ o. o == ven) owner false)
    by None = rw (all, operator) (sym (or_false _))
    by (Some o) = rw (all, vens) (ap (λ b. those.all || b) (sym (any_more (λ v. o == v) those.vens ven)) ∙ or_assoc those.all (list_any (λ v. o == v) those.vens) (o == ven))

-- what was put among those that were read are those that were read more
module _ (kept : Kept) (s : State) (was : Keeps kept s) where
  rises : IsAscending (λ (a b : ℕ × Sub). nat_cmp a.0 b.0 ≡ Less) kept.portfolio.subs
  rises = stored_rises (record { rows = sub_map.rows; entries = sub_map.entries; stored = sub_map.stored }) kept s was

  pub put_more : (those later : Listeners) (more : Sub → Bool) → AreThose kept those → ((sub : Sub) → was_read later sub ≡ (was_read those sub || more sub)) → later.subs ≡ with_rows nat_cmp those.subs (filter (λ e. more e.1) kept.portfolio.subs) → AreThose kept later
  put_more those later more are same put =
      put ∙ ap (λ rows. with_rows nat_cmp rows (filter (λ e. more e.1) kept.portfolio.subs)) are ∙ both_put (λ e. was_read those e.1) (λ e. more e.1) kept.portfolio.subs rises
      ∙ ap (λ (p : ℕ × Sub → Bool). filter p kept.portfolio.subs) (λ i e. sym (same e.1) i)
