-- Stamps that are put among others, and what is told with them.
use Rattle.std.proofs.Common.{◌≡◌, ◌≤◌, Bool, true, false, ◌&&◌, cond, is_eq, ℕ, List, [], ◌∷◌, ◌++◌, map, filter, Option, Some, None, refl, sym, ap, ap₂, ◌∙◌, arith}
use Rattle.std.specs.Prelude.{option_map, nat_le}
use Rattle.std.specs.List.{AllByRecursion}
use Rattle.std.specs.Option.{option_or}
use Rattle.std.proofs.lemmas.Bool.Decides.{nat_tests}
use Rattle.std.proofs.lemmas.Cmp.{nat_list_cmp_total, tied_itself}
use Rattle.adr_sql.proofs.Common.{all-append, all_weaker}
use Rattle.adr_objects.specs.declared.shown.Stamps.{Stamps}
use Rattle.adr_state.specs.declared.keys.ViewKey.{ViewKey}
use Rattle.adr_state.specs.declared.keys.ViewKey.TheVariants as key
use Rattle.adr_state.specs.Keys.{id_cmp, with_rows}
use Rattle.adr_refresh.proofs.Common.{at, in_order_filtered, view_cmp, view_exact, view_total}
use Rattle.adr_refresh.proofs.MapLemmas.{at-rows_at, at-with_rows}
use Rattle.adr_view.proofs.OrderLemmas.{InOrder}
use Rattle.adr_db.specs.declared.shown.ShownColumns.{ShownColumns}
use Rattle.adr_db.specs.declared.shown.ShownKey.{ShownKey}
use Rattle.adr_db_shown.specs.Entries.{is_key_between}
use Rattle.adr_pages.specs.Objects.{event_key, object_with, object_kept}
use Rattle.adr_pages.specs.Stamps.{AreAmong, AreFound, AreJoined, IsFound, GoesOn}

abbrev AllStamps : Type 0
AllStamps = List (ViewKey × Stamps)

abbrev AllRows : Type 0
AllRows = List (ShownKey × ShownColumns)

-- those of all whose key passes are put among some
module _ (all some : AllStamps) (passes : ViewKey → Bool) (up : InOrder view_cmp all) (are : AreAmong all some) where
  abbrev joined : AllStamps
  joined = with_rows view_cmp some (filter (λ e. passes e.0) all)

  at_joined : (k : ViewKey) → at view_cmp k joined ≡ option_or (cond (passes k) (at view_cmp k all) None) (at view_cmp k some)
  at_joined k =
      at-with_rows view_total k some (filter (λ e. passes e.0) all) (in_order_filtered view_cmp (λ (e : ViewKey × Stamps). passes e.0) all up)
      ∙ ap (λ o. option_or o (at view_cmp k some)) (at-rows_at view_total view_exact k passes all)

  are_among : AreAmong all joined
  are_among k stamps is = by (passes k) (at view_cmp k all) refl (sym (at_joined k) ∙ is)
    where
      by : (b : Bool) (o : Option Stamps) → at view_cmp k all ≡ o → option_or (cond b o None) (at view_cmp k some) ≡ Some stamps → at view_cmp k all ≡ Some stamps
      by false o there h = are k stamps h
      by true None there h = are k stamps h
      by true (Some its) there h = there ∙ h

  are_put : (k : ViewKey) → passes k ≡ true → IsFound all joined k
  are_put k on = at_joined k ∙ ap (λ b. option_or (cond b (at view_cmp k all) None) (at view_cmp k some)) on ∙ by (at view_cmp k all) (at view_cmp k some) refl refl
    where
      by : (its o : Option Stamps) → at view_cmp k all ≡ its → at view_cmp k some ≡ o → option_or its o ≡ its
      by (Some stamps) o there h = refl
      by None None there h = refl
      by None (Some stamps) there h = absurd (let no : ◌≡◌ {A = Option Stamps} None (Some stamps) = sym there ∙ are k stamps h in cc)

  are_kept : (k : ViewKey) → IsFound all some k → IsFound all joined k
  are_kept k is = at_joined k ∙ ap (λ o. option_or (cond (passes k) (at view_cmp k all) None) o) is ∙ by (passes k) (at view_cmp k all)
    where
      by : (b : Bool) (o : Option Stamps) → option_or (cond b o None) o ≡ o
      by true None = refl
      by true (Some stamps) = refl
      by false o = refl

pub are_joined : (all some : AllStamps) (passes : ViewKey → Bool) → InOrder view_cmp all → AreJoined all some (with_rows view_cmp some (filter (λ e. passes e.0) all)) passes
are_joined all some passes up are = (are_among all some passes up are, are_put all some passes up are, are_kept all some passes up are)

-- each row's stamps are found but of those that wait
abbrev pub AreFoundBut : AllStamps → AllStamps → (ViewKey → Bool) → AllRows → Type 0
AreFoundBut all some waits = AllByRecursion (λ e. waits (event_key e.0) ≡ false → IsFound all some (event_key e.0))

narrower : (b f : Bool) (r m n : ℕ) → m ≤ n → (b && (f && nat_le r n)) ≡ false → (b && (f && nat_le r m)) ≡ false
narrower b f r m n le is = grind (arith, nat_tests)

-- what waits where a run goes on to a later key waits where it goes on to one behind that
waits_still : (before after : ShownKey) (first : ℕ) → GoesOn before after → (k : ViewKey) → is_key_between after.event first after.resource k ≡ false → is_key_between before.event first before.resource k ≡ false
waits_still before after first on (key.Program id) is = refl
waits_still before after first on (key.Event id r) is = narrower (is_eq (id_cmp before.event id)) (nat_le first r) r before.resource after.resource on.1 (ap (λ e. is_eq (id_cmp e id) && (nat_le first r && nat_le r after.resource)) on.0 ∙ is)
waits_still before after first on (key.Report n) is = refl
waits_still before after first on (key.Rollup id) is = refl

bounds : (r first : ℕ) → first ≤ r → (nat_le first r && nat_le r r) ≡ true
bounds r first le = grind (arith, nat_tests)

pub waits_itself : (k : ShownKey) (first : ℕ) → first ≤ k.resource → is_key_between k.event first k.resource (event_key k) ≡ true
waits_itself k first le = ap (λ o. is_eq o && (nat_le first k.resource && nat_le k.resource k.resource)) (tied_itself nat_list_cmp_total k.event) ∙ bounds k.resource first le

pub run_goes_on : (all some : AllStamps) (before after : ShownKey) (first : ℕ) → GoesOn before after → (rows : AllRows) → AreFoundBut all some (is_key_between before.event first before.resource) rows → AreFoundBut all some (is_key_between after.event first after.resource) rows
run_goes_on all some before after first on rows = all_weaker _ _ (λ e found is. found (waits_still before after first on (event_key e.0) is)) rows

pub run_put : (all old new : AllStamps) (waits : ViewKey → Bool) (rows : AllRows) → ((k : ViewKey) → waits k ≡ true → IsFound all new k) → ((k : ViewKey) → IsFound all old k → IsFound all new k) → AreFoundBut all old waits rows → AreFound all new rows
run_put all old new waits rows puts keeps = all_weaker _ _ (λ e found. by e (waits (event_key e.0)) refl found) rows
  where
    by : (e : ShownKey × ShownColumns) (b : Bool) → waits (event_key e.0) ≡ b → (waits (event_key e.0) ≡ false → IsFound all old (event_key e.0)) → IsFound all new (event_key e.0)
    by e true is found = puts (event_key e.0) is
    by e false is found = keeps (event_key e.0) (found is)

pub found_anyway : (all some : AllStamps) (waits : ViewKey → Bool) (rows : AllRows) → AreFound all some rows → AreFoundBut all some waits rows
found_anyway all some waits rows = all_weaker _ _ (λ e found is. found) rows

pub one_more : (all some : AllStamps) (waits : ViewKey → Bool) (rows : AllRows) (e : ShownKey × ShownColumns) → AreFoundBut all some waits rows → waits (event_key e.0) ≡ true → AreFoundBut all some waits (rows ++ e ∷ [])
one_more all some waits rows e found is = all-append _ rows (e ∷ []) found ((λ not. absurd (let no : true ≡ false = sym is ∙ not in cc)), tt)

-- what is told with some of the stamps is told with all
pub told_alike : (all some : AllStamps) (rows : AllRows) → AreFound all some rows → map (object_kept some) rows ≡ map (object_kept all) rows
told_alike all some [] found = refl
told_alike all some (e ∷ rows) found = ap₂ ◌∷◌ (ap (option_map (object_with e.0 e.1)) found.0) (told_alike all some rows found.1)
