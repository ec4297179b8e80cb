-- After every step the stamps are of what is shown, and none was modified before it was created.
use Rattle.std.proofs.Common.{◌≡◌, ℕ, suc, ◌≤◌, Bool, true, false, cond, List, [], ◌∷◌, map, Option, Some, None, refl, sym, ap, subst, ◌∙◌, arith}
use Rattle.std.specs.Prelude.{IfSome}
use Rattle.adr_laws.proofs.Common.{All, AllByRecursion, IsStrictlySortedBy, IsNonDecreasing, keys_of, values_of, is_at, All-nil, All-head, All-weaker, All-from_get_or, All-from_recursion, IfSome-lookup_from_All, Base, Settings, State, view_cmp, at, empty, Command, state_after, step_at}
use Rattle.adr_objects.specs.declared.shown.Stamps.{Stamps}
use Rattle.adr_state.specs.declared.keys.ViewKey.{ViewKey}
use Rattle.adr_view.specs.declared.view.Content.{Content}
use Rattle.adr_view.specs.Changes.{stamps_by, stamps_for, restamped}
use Rattle.adr_view.specs.Same.{is_same_content}
use Rattle.adr_view.specs.Views.{view}
use Rattle.adr_laws.specs.Standing.{state_of}
use Rattle.adr_laws.specs.Laws.{StampsAreOfTheView, StampsAreInTime}
use Rattle.adr_laws.proofs.Decisions.{base_after, next_by, after_step}
use Rattle.adr_view.proofs.OrderLemmas.{made_in_order}
use Rattle.adr_view.proofs.ShownLemmas.{view_total, shown_in_order}
use Rattle.adr_laws.proofs.RunLemmas.{run_keeps}

-- ---- the keys that are stamped

keys_stamped : (stamps : List (ViewKey × Stamps)) (before rows : List (ViewKey × Content)) (now : ℕ) → keys_of (map (stamps_for stamps before now) rows) ≡ keys_of rows
keys_stamped stamps before [] now = refl
keys_stamped stamps before (r ∷ rows) now = ap (λ ks. r.0 ∷ ks) (keys_stamped stamps before rows now)

-- what is shown is stamped row by row, each in its place
stamped : (stamps : List (ViewKey × Stamps)) (before : List (ViewKey × Content)) (after : Base) (now : ℕ) → restamped stamps before (view after) now ≡ map (stamps_for stamps before now) (view after)
unfolding restamped
stamped stamps before after now =
    made_in_order view_total (map (stamps_for stamps before now) (view after)) (subst (IsStrictlySortedBy view_cmp) (sym (keys_stamped stamps before (view after) now)) (shown_in_order after))

-- so the stamps after a change have the keys of what is shown then
pub keys_restamped : (stamps : List (ViewKey × Stamps)) (before : List (ViewKey × Content)) (after : Base) (now : ℕ) → keys_of (restamped stamps before (view after) now) ≡ keys_of (view after)
keys_restamped stamps before after now = ap keys_of (stamped stamps before after now) ∙ keys_stamped stamps before (view after) now

abbrev IsStamped : State → Type 0
IsStamped s = keys_of s.stamps ≡ keys_of (view s.base)

nothing_stamped : IsStamped empty
unfolding view
nothing_stamped = refl

-- the serial is not shown
pub same_view : (base : Base) (serial : ℕ) → view (record base { serial = serial }) ≡ view base
unfolding view
same_view base serial = refl

run_stamps : (settings : Settings) (cs : List (ℕ × Command)) → IsStamped (state_of (step_at settings) empty cs)
run_stamps settings cs =
    run_keeps (step_at settings) IsStamped (λ s c h. after_step settings s c (λ r. IsStamped (state_after s r)) (λ refusal. h) (λ a o is done. h)
    (λ d a is. keys_restamped s.stamps (view s.base) (base_after s.base c.1 d) c.0 ∙ ap keys_of (sym (same_view (base_after s.base c.1 d) (next_by settings s c d).1)))) empty cs nothing_stamped

pub stamps_of_view : StampsAreOfTheView
stamps_of_view settings cs =
    let s : State = state_of (step_at settings) empty cs in
    record {
      those_of_the_view = run_stamps settings cs;
      each_once_in_order = subst (IsStrictlySortedBy view_cmp) (sym (run_stamps settings cs)) (shown_in_order s.base);
    }

-- ---- the moments of the stamps

-- created, then modified, and not after the last moment
pub record IsInTime (last : ℕ) (stamps : Stamps) : Type 0 where
  pub in_turn : stamps.created ≤ stamps.modified
  pub not_ahead : stamps.modified ≤ last

abbrev AreInTime : ℕ → List (ViewKey × Stamps) → Type 0
AreInTime last stamps = All (IsInTime last) (values_of stamps)

later : (last now : ℕ) → last ≤ now → (stamps : Stamps) → IsInTime last stamps → IsInTime now stamps
later last now passed stamps h = record { in_turn = h.in_turn; not_ahead = omega (arith, h.not_ahead) }

fresh_in_time : (now : ℕ) → IsInTime now (record { created = now; modified = now })
fresh_in_time now = record { in_turn = omega arith; not_ahead = omega arith }

changed_in_time : (last now : ℕ) (same : Bool) (stamps : Stamps) → last ≤ now → IsInTime last stamps → IsInTime now (cond same stamps (record stamps { modified = now }))
changed_in_time last now true stamps passed h = later last now passed stamps h
changed_in_time last now false stamps passed h = record { in_turn = omega (arith, h.in_turn, h.not_ahead); not_ahead = omega arith }

by_in_time : (last now : ℕ) (old : Option Content) (stamps : Option Stamps) (new : Content) → last ≤ now → IfSome stamps (IsInTime last) → IsInTime now (stamps_by old stamps now new)
by_in_time last now (Some old) (Some stamps) new passed h = changed_in_time last now (is_same_content old new) stamps passed h
by_in_time last now (Some old) None new passed h = fresh_in_time now
by_in_time last now None stamps new passed h = fresh_in_time now

rows_in_time : (last now : ℕ) (stamps : List (ViewKey × Stamps)) (before rows : List (ViewKey × Content)) → last ≤ now → AreInTime last stamps → AllByRecursion (IsInTime now) (values_of (map (stamps_for stamps before now) rows))
rows_in_time last now stamps before [] passed h = tt
rows_in_time last now stamps before (r ∷ rows) passed h =
    (by_in_time last now (at view_cmp r.0 before) (at view_cmp r.0 stamps) r.1 passed (IfSome-lookup_from_All (IsInTime last) (is_at (view_cmp r.0)) stamps h), rows_in_time last now stamps before rows passed h)

restamped_in_time : (last now : ℕ) (stamps : List (ViewKey × Stamps)) (before : List (ViewKey × Content)) (after : Base) → last ≤ now → AreInTime last stamps → AreInTime now (restamped stamps before (view after) now)
restamped_in_time last now stamps before after passed h = subst (AreInTime now) (sym (stamped stamps before after now)) (All-from_recursion (IsInTime now) _ (rows_in_time last now stamps before (view after) passed h))

step_in_time : (settings : Settings) (last : ℕ) (s : State) (c : ℕ × Command) → last ≤ c.0 → AreInTime last s.stamps → AreInTime c.0 (state_after s (step_at settings s c)).stamps
step_in_time settings last s c passed h =
    let stay : AreInTime c.0 s.stamps = All-weaker (IsInTime last) (IsInTime c.0) (later last c.0 passed) (values_of s.stamps) h in
    after_step settings s c (λ r. AreInTime c.0 (state_after s r).stamps) (λ refusal. stay) (λ a o is done. stay) (λ d a is. restamped_in_time last c.0 s.stamps (view s.base) _ passed h)

-- the moments of commands
abbrev moments : List (ℕ × Command) → List ℕ
moments cs = map (λ c. c.0) cs

first_is_least : (m : ℕ) (ms : List ℕ) → IsNonDecreasing (m ∷ ms) → All (λ n. m ≤ n) ms
first_is_least m ms h = All-from_get_or (λ n. m ≤ n) ms 0 (λ i l. h 0 (suc i) 0 (omega arith) (omega arith))

rest_rises : (m : ℕ) (ms : List ℕ) → IsNonDecreasing (m ∷ ms) → IsNonDecreasing ms
rest_rises m ms h = λ i j d l k. h (suc i) (suc j) d (omega arith) (omega arith)

run_in_time : (settings : Settings) (last : ℕ) (s : State) (cs : List (ℕ × Command)) → All (λ n. last ≤ n) (moments cs) → IsNonDecreasing (moments cs) → AreInTime last s.stamps
    → All (λ stamps. stamps.created ≤ stamps.modified) (values_of (state_of (step_at settings) s cs).stamps)
run_in_time settings last s [] ahead rises h = All-weaker (IsInTime last) (λ stamps. stamps.created ≤ stamps.modified) (λ stamps in_time. in_time.in_turn) (values_of s.stamps) h
run_in_time settings last s (c ∷ cs) ahead rises h =
    run_in_time settings c.0 (state_after s (step_at settings s c)) cs (first_is_least c.0 (moments cs) rises) (rest_rises c.0 (moments cs) rises)
    (step_in_time settings last s c (All-head (λ n. last ≤ n) c.0 (moments cs) ahead) h)

pub stamps_in_time : StampsAreInTime
stamps_in_time settings cs rises = run_in_time settings 0 empty cs (All-from_get_or (λ n. 0 ≤ n) (moments cs) 0 (λ i l. omega arith)) rises (All-nil (IsInTime 0))
