-- Each change is told, and what is told of all of them stands behind what waited.
use Rattle.std.proofs.Common.{◌≡◌, ◌≤◌, ◌<◌, ◌+◌, ℕ, Bool, true, false, cond, List, [], ◌∷◌, ◌++◌, map, length, Option, Some, None, Ordering, Greater, refl, sym, ap, subst, ◌∙◌, append_assoc, arith}
use Rattle.std.specs.Prelude.{IfOk, option_and_then}
use Rattle.std.specs.BTreeMap.{insert_entry}
use Rattle.std.specs.Cmp.{nat_cmp_is}
use Rattle.std.specs.List.{All, AllZip, Contains, enumerate_from, flat_map}
use Rattle.std.specs.List.Sorted.{IsStrictlySortedBy}
use Rattle.std.specs.Option.{option_map_or}
use Rattle.std.specs.Ordering.{match_ordering, nat_cmp}
use Rattle.std.proofs.lemmas.Bool.{false≢true}
use Rattle.std.proofs.lemmas.List.{append-nil}
use Rattle.std.proofs.lemmas.List.Elements.{All-append, All-cons, All-contains, All-head, All-nil, All-tail, All-weaker}
use Rattle.std.proofs.lemmas.Map.Views.{Contains-from_lookup, tells_apart}
use Rattle.std.proofs.lemmas.Option.{same_Some}
use Rattle.adr_subscription.specs.declared.kept_sub.Sub.{Sub}
use Rattle.adr_delivery.specs.declared.entry.Entry.{Entry}
use Rattle.adr_delivery.specs.Entries.{destination}
use Rattle.adr_delivery.specs.Outboxes.{with_entries}
use Rattle.adr_state.specs.declared.base.Base.{Base}
use Rattle.adr_state.specs.declared.keys.ViewKey.{ViewKey}
use Rattle.adr_state.specs.declared.keys.ViewKey.TheVariants as key
use Rattle.adr_state.specs.declared.limits.Settings.{Settings}
use Rattle.adr_state.specs.declared.state.State.{State}
use Rattle.adr_state.specs.Keys.{at, view_cmp}
use Rattle.adr_state.specs.States.{empty}
use Rattle.adr_view.specs.declared.changes.Change.{Change}
use Rattle.adr_view.specs.declared.changes.Operation.{Operation}
use Rattle.adr_view.specs.declared.changes.Operation.TheVariants as operation
use Rattle.adr_view.specs.declared.view.Content.{Content}
use Rattle.adr_view.specs.declared.view.Content.TheVariants as content
use Rattle.adr_view.specs.Changes.{both_keys, change_by, changes, is_change_to_go, restamped}
use Rattle.adr_view.specs.Same.{is_same_content}
use Rattle.adr_view.specs.Views.{rows_shown, view}
use Rattle.adr_view.proofs.KeyLemmas.{view_exact}
use Rattle.adr_view.proofs.ListLemmas.{from_filter_map}
use Rattle.adr_view.proofs.RowLemmas.{each_there}
use Rattle.adr_view.proofs.ShownLemmas.{shown_in_order}
use Rattle.adr_view.proofs.ViewLemmas.{each_by_mark, each_rollup, each_shown, from_view}
use Rattle.adr_queries.specs.declared.answer.Object.{Object}
use Rattle.adr_queries.specs.Shown.{object_at}
use Rattle.adr_notices.specs.declared.notice.Notice.{Notice}
use Rattle.adr_notices.specs.Made.{entries_at, entries_noticed, entries_of_change, judged_in}
use Rattle.adr_notices.specs.Matching.{entries_of}
use Rattle.adr_notices.specs.Notices.{notice_about, notice_of, operation_kind}
use Rattle.adr_notices.specs.Shown.{Side}
use Rattle.adr_notices.proofs.LawLemmas.{told_once}
use Rattle.adr_machine.specs.declared.command.Command.{Command}
use Rattle.adr_machine.specs.Edits.{Decision, draws_number}
use Rattle.adr_machine.specs.Runs.{state_after, step_at}
use Rattle.adr_machine.specs.Steps.{changes_of, entries_then, side_after, side_before}
use Rattle.adr_state.specs.BaseChanges.{changed}
use Rattle.adr_laws.specs.Entries.{numbers_waiting, reached}
use Rattle.adr_laws.specs.Laws.{IsStampedAsShown}
use Rattle.adr_laws.specs.Told.{Tells, is_object}
use Rattle.adr_laws.proofs.Decisions.{after_step, entries_by, state_by}
use Rattle.adr_laws.proofs.NumberLemmas.{each_number, serial_then}
use Rattle.adr_laws.proofs.OutboxLemmas.{AllWait, entries_numbered_once, left_by, left_wait, wait_after}
use Rattle.adr_laws.proofs.RunLemmas.{state_of-push}
use Rattle.adr_laws.proofs.SightLemmas.{shown_is_told}
use Rattle.adr_laws.proofs.StampLemmas.{keys_restamped, same_view, stamps_of_view}
use Rattle.adr_outbox_laws.specs.Told.{AreOfTheChanges, DeliveriesTellNothing, EachChangeIsTold, EachChangeIsToldAfterRuns, IsTold, IsToldAt, IsToldToTheUtility, IsToldToWhoMatches, WaitsThen, serial_with}

-- ---- entries behind others

abbrev Below : ℕ → ℕ × Entry → Type 0
Below n e = e.0 < n

-- one that is put behind all others stands there
put_behind : (n : ℕ) (e : Entry) (rows : List (ℕ × Entry)) → All (Below n) rows → insert_entry nat_cmp rows n e ≡ rows ++ (n, e) ∷ []
put_behind n e [] low = refl
put_behind n e (x ∷ rows) low =
    let head : x.0 < n = All-head (Below n) x rows low in
    let greater : Greater ≡ nat_cmp n x.0 = nat_cmp_is n x.0 Greater head in
    subst (λ (o : Ordering). match_ordering o ((n, e) ∷ x ∷ rows) ((x.0, e) ∷ rows) (x ∷ insert_entry nat_cmp rows n e) ≡ x ∷ (rows ++ (n, e) ∷ [])) greater (ap (λ es. x ∷ es) (put_behind n e rows (All-tail (Below n) x rows low)))

-- and so do further ones, at the numbers from there on
stand_behind : (from : ℕ) (further : List Entry) (rows : List (ℕ × Entry)) → All (Below from) rows → with_entries (enumerate_from from further) rows ≡ rows ++ enumerate_from from further
stand_behind from [] rows low = sym (append-nil rows)
stand_behind from (e ∷ further) rows low =
    let next : All (Below (from + 1)) (rows ++ (from, e) ∷ []) =
    All-append (Below (from + 1)) rows ((from, e) ∷ []) (All-weaker (Below from) (Below (from + 1)) (λ x less. omega (arith, less)) rows low) (All-cons (Below (from + 1)) (from, e) [] (omega arith) (All-nil (Below (from + 1)))) in
    ap (λ rows. with_entries (enumerate_from (from + 1) further) rows) (put_behind from e rows low) ∙ stand_behind (from + 1) further (rows ++ (from, e) ∷ []) next ∙ append_assoc rows ((from, e) ∷ []) (enumerate_from (from + 1) further)

-- ---- what stands at the key of a roll-up

abbrev FitsRollup : ViewKey × Content → Type 0
FitsRollup (key.Rollup id, content.Program name) = ⊥
FitsRollup (key.Rollup id, content.Event shown) = ⊥
FitsRollup (key.Rollup id, content.Report body) = ⊥
FitsRollup _ = Unit {0}

rollups_fit : (base : Base) → All FitsRollup (view base)
rollups_fit base = each_there FitsRollup (view base) (λ r there. All-contains FitsRollup (rows_shown base) r
    (each_shown base FitsRollup (λ e known. each_by_mark base (λ k. FitsRollup) (λ id name. tt) (λ id event splits p. tt) e) (λ report known. tt) (λ e known. each_rollup base FitsRollup e (λ event rollup is made. tt))) (from_view base r there))

-- ---- what is told where it is judged

module _ (client : List ℕ) (subs : List (ℕ × Sub)) (s : State) (stamped : IsStampedAsShown s) (operation : Operation) where
  -- of an object something is told
  notice_there : (k : ViewKey) (c : Content) (o : Object) → object_at s.stamps (k, c) ≡ Some o → Tells s.stamps (k, c) o → (n : Notice) × (notice_of s.base s.stamps operation (k, c) ≡ Some n)
  notice_there k c o stands tells =
      let about = by k c tells in
      (about.0, ap (option_and_then (notice_about s.base (operation_kind operation))) stands ∙ about.1)
    where
      by : (k : ViewKey) (c : Content) → Tells s.stamps (k, c) o → (n : Notice) × (notice_about s.base (operation_kind operation) o ≡ Some n)
      by (key.Program id) (content.Program name) tells = (_, ap (notice_about s.base (operation_kind operation)) tells.2)
      by (key.Program id) (content.Event shown) tells = absurd tells
      by (key.Program id) (content.Report body) tells = absurd tells
      by (key.Program id) (content.Rollup rollup) tells = absurd tells
      by (key.Event id resource) (content.Program name) tells = absurd tells
      by (key.Event id resource) (content.Event shown) tells = (_, ap (notice_about s.base (operation_kind operation)) tells.2)
      by (key.Event id resource) (content.Report body) tells = absurd tells
      by (key.Event id resource) (content.Rollup rollup) tells = absurd tells
      by (key.Report n) (content.Program name) tells = absurd tells
      by (key.Report n) (content.Event shown) tells = absurd tells
      by (key.Report n) (content.Report body) tells = (_, ap (notice_about s.base (operation_kind operation)) tells.2)
      by (key.Report n) (content.Rollup rollup) tells = absurd tells
      by (key.Rollup id) c tells = absurd tells

  abbrev its_entries : ViewKey → Content → List Entry
  its_entries k c = entries_at client subs (side_before s) operation k c

  -- of what is no roll-up
  told_to_who_matches : (k : ViewKey) (c : Content) → is_object k ≡ true → at view_cmp k (view s.base) ≡ Some c → its_entries k c ≡ entries_noticed subs (notice_of s.base s.stamps operation (k, c)) → IsToldToWhoMatches subs (side_before s) operation k (its_entries k c)
  told_to_who_matches k c object found made =
      let o = shown_is_told s k c stamped object found in
      let stands : object_at s.stamps (k, c) ≡ Some o.0 = sym (ap (option_and_then (λ c. object_at s.stamps (k, c))) found) ∙ o.1 in
      let n = notice_there k c o.0 stands o.2 in
      let its : its_entries k c ≡ entries_of subs n.0 = made ∙ ap (entries_noticed subs) n.1 in
      record { stands = c; stands_there = found; notice = n.0; is_told = n.1; its_entries = its; one_each = ap (map (λ e. destination e.addressee)) its ∙ told_once subs n.0 }

  -- of a roll-up
  told_to_utility : (id : List ℕ) (c : Content) → at view_cmp (key.Rollup id) (view s.base) ≡ Some c → IsToldToTheUtility client (side_before s) operation id (its_entries (key.Rollup id) c)
  told_to_utility id c found = by c (All-contains FitsRollup (view s.base) (key.Rollup id, c) (rollups_fit s.base) (Contains-from_lookup (tells_apart view_exact) (key.Rollup id) c (view s.base) found)) found
    where
      by : (c : Content) → FitsRollup (key.Rollup id, c) → at view_cmp (key.Rollup id) (view s.base) ≡ Some c → IsToldToTheUtility client (side_before s) operation id (its_entries (key.Rollup id) c)
      by (content.Program name) fits found = absurd fits
      by (content.Event shown) fits found = absurd fits
      by (content.Report body) fits found = absurd fits
      by (content.Rollup rollup) fits found = record { rollup = rollup; stands_there = found; one_entry = refl }

  told_at : (k : ViewKey) (c : Content) → at view_cmp k (view s.base) ≡ Some c → IsToldAt client subs (side_before s) operation k (its_entries k c)
  told_at (key.Program id) c found = told_to_who_matches (key.Program id) c refl found refl
  told_at (key.Event id resource) c found = told_to_who_matches (key.Event id resource) c refl found refl
  told_at (key.Report n) c found = told_to_who_matches (key.Report n) c refl found refl
  told_at (key.Rollup id) c found = told_to_utility id c found

  told_in : (k : ViewKey) → (c : Content) × (at view_cmp k (view s.base) ≡ Some c) → IsToldAt client subs (side_before s) operation k (option_map_or (its_entries k) (at view_cmp k (view s.base)) [])
  told_in k stands = subst (λ (o : Option Content). IsToldAt client subs (side_before s) operation k (option_map_or (its_entries k) o [])) (sym stands.1) (told_at k stands.0 stands.1)

-- ---- a change

-- what a change is of stands where it is judged
module _ (before after : Side) where
  abbrev StandsAt : Change → Type 0
  StandsAt change = (c : Content) × (at view_cmp change.key (judged_in change.operation before after).view ≡ Some c)

  change_stands : (k : ViewKey) (change : Change) → change_by k (at view_cmp k before.view) (at view_cmp k after.view) ≡ Some change → StandsAt change
  change_stands k change = by (at view_cmp k before.view) (at view_cmp k after.view) refl refl
    where
      by_test : (b : Bool) (one : Change) → StandsAt one → cond b (Some one) None ≡ Some change → StandsAt change
      by_test true one stands is = subst StandsAt (same_Some one change is) stands
      by_test false one stands is = absurd (cc)

      by_other_test : (b : Bool) (one : Change) → StandsAt one → cond b None (Some one) ≡ Some change → StandsAt change
      by_other_test true one stands is = absurd (cc)
      by_other_test false one stands is = subst StandsAt (same_Some one change is) stands

      by : (old new : Option Content) → at view_cmp k before.view ≡ old → at view_cmp k after.view ≡ new → change_by k old new ≡ Some change → StandsAt change
      by None None o n is = absurd (cc)
      by None (Some new) o n is = subst StandsAt (same_Some _ change is) (new, n)
      by (Some old) None o n is = by_test (is_change_to_go k) (record { key = k; operation = operation.Delete }) (old, o) is
      by (Some old) (Some new) o n is = by_other_test (is_same_content old new) (record { key = k; operation = operation.Put }) (new, n) is

  each_stands : (change : Change) → Contains (changes before.view after.view) change → StandsAt change
  unfolding changes
  each_stands change there =
      let made = from_filter_map (λ k. change_by k (at view_cmp k before.view) (at view_cmp k after.view)) (both_keys before.view after.view) change there in
      change_stands made.0 change made.2

-- so it is told
module _ (settings : Settings) (s : State) (now : ℕ) (base : Base) (stamped : IsStampedAsShown s) where
  -- the state after an edit, but for its outbox
  abbrev state_then : State
  state_then = record { base = base; stamps = (side_after s now base).stamps; outbox = s.outbox }

  stamped_then : IsStampedAsShown state_then
  stamped_then = record {
    those_of_the_view = keys_restamped s.stamps (view s.base) base now;
    each_once_in_order = subst (IsStrictlySortedBy view_cmp) (sym (keys_restamped s.stamps (view s.base) base now)) (shown_in_order base);
  }

  abbrev entries_of_one : Change → List Entry
  entries_of_one = entries_of_change settings.client base.portfolio.subs (side_before s) (side_after s now base)

  change_told : (k : ViewKey) (o : Operation) → StandsAt (side_before s) (side_after s now base) (record { key = k; operation = o }) → IsTold settings s now base (record { key = k; operation = o }) (entries_of_one (record { key = k; operation = o }))
  change_told k operation.Post stands = told_in settings.client base.portfolio.subs state_then stamped_then operation.Post k stands
  change_told k operation.Put stands = told_in settings.client base.portfolio.subs state_then stamped_then operation.Put k stands
  change_told k operation.Delete stands = told_in settings.client base.portfolio.subs s stamped operation.Delete k stands

  each_told : (rows : List Change) → All (λ change. IsTold settings s now base change (entries_of_one change)) rows → AllZip (IsTold settings s now base) rows (map entries_of_one rows)
  each_told [] all = tt
  each_told (change ∷ rows) all =
      (All-head (λ change. IsTold settings s now base change (entries_of_one change)) change rows all, each_told rows (All-tail (λ change. IsTold settings s now base change (entries_of_one change)) change rows all))

  one_by_one : (rows : List Change) → flat_map entries_of_one rows ≡ flat_map (λ of_one. of_one) (map entries_of_one rows)
  one_by_one [] = refl
  one_by_one (change ∷ rows) = ap (λ es. entries_of_one change ++ es) (one_by_one rows)

  pub of_the_changes : AreOfTheChanges settings s now base (entries_then settings s now base)
  of_the_changes = record {
    of_each = map entries_of_one (changes_of s base);
    each_is_told = each_told (changes_of s base)
        (each_there (λ change. IsTold settings s now base change (entries_of_one change)) (changes_of s base) (λ change there. change_told change.key change.operation (each_stands (side_before s) (side_after s now base) change there)));
    in_turn = one_by_one (changes_of s base);
  }

pub each_change_is_told : EachChangeIsTold
each_change_is_told settings s now base stamped = of_the_changes settings s now base stamped

-- ---- runs

-- the serial is not told of
module _ (settings : Settings) (s : State) (now : ℕ) (base : Base) where
  abbrev with_serial : ℕ → Base
  with_serial n = record base { serial = n }

  -- what is shown after an edit, by the view then
  abbrev side_with : ℕ → List (ViewKey × Content) → Side
  side_with n shown = record { base = with_serial n; view = shown; stamps = restamped s.stamps (view s.base) shown now }

  abbrev told_with : ℕ → List (ViewKey × Content) → Change → List Entry
  told_with n shown change = entries_of_change settings.client base.portfolio.subs (side_before s) (side_with n shown) change

  same_told : (m n : ℕ) (shown : List (ViewKey × Content)) (k : ViewKey) (o : Operation) → told_with m shown (record { key = k; operation = o }) ≡ told_with n shown (record { key = k; operation = o })
  same_told m n shown k operation.Post = refl
  same_told m n shown k operation.Put = refl
  same_told m n shown k operation.Delete = refl

  same_entries : (m n : ℕ) → entries_then settings s now (with_serial m) ≡ entries_then settings s now (with_serial n)
  same_entries m n =
      ap (λ shown. flat_map (told_with m shown) (changes (view s.base) shown)) (same_view base m ∙ sym (same_view base n))
      ∙ (λ i. flat_map (λ (change : Change). same_told m n (view (with_serial n)) change.key change.operation i) (changes (view s.base) (view (with_serial n))))

same_serial : (serial : ℕ) (draws : Bool) → serial_then serial draws ≡ serial_with serial draws
same_serial serial true = refl
same_serial serial false = refl

-- what is made stands behind what is left
module _ (settings : Settings) (s : State) (c : ℕ × Command) (d : Decision) (waits : AllWait 0 [] s) where
  abbrev serial : ℕ
  serial = serial_then s.base.serial (draws_number c.1)

  left_low : All (Below (serial + 1)) (left_by s d)
  left_low = each_there (Below (serial + 1)) (left_by s d) (λ x there. let most = ((left_wait 0 [] s c d waits).drawn x there).up_to_the_serial in omega (arith, most))

  pub waiting_then : (state_by settings s c d).outbox.entries ≡ left_by s d ++ enumerate_from (serial + 1) (entries_by settings s c d)
  waiting_then = stand_behind (serial + 1) (entries_by settings s c d) (left_by s d) left_low

pub each_change_is_told_after_runs : EachChangeIsToldAfterRuns
each_change_is_told_after_runs settings cs c edits =
    after_step settings s c (λ r. IfOk r (λ taken. WaitsThen settings s c taken.1)) (λ refusal. tt) (λ a o is done. absurd (false≢true (sym edits ∙ is))) (λ d a is. told_by d)
  where
    s : State
    s = reached settings cs

    told_by : (d : Decision) → WaitsThen settings s c (state_by settings s c d)
    told_by d =
        let told : List Entry = entries_by settings s c d in
        let after : Base = (state_by settings s c d).base in
        let same = same_serial s.base.serial (draws_number c.1) in
        record {
          told = told;
          are_of_the_changes = subst (AreOfTheChanges settings s c.0 after) (same_entries settings s c.0 (changed d.change s.base) after.serial (serial_then s.base.serial (draws_number c.1))) (of_the_changes settings s c.0 after (stamps_of_view settings cs));
          wait_behind_the_others = waiting_then settings s c d (wait_after settings cs) ∙ ap (λ n. left_by s d ++ enumerate_from (n + 1) told) same;
          draw_the_next_numbers = ap (λ n. n + length told) same;
        }

-- ---- commands about entries

-- they leave the serial, so no number is drawn by them
pub deliveries_tell_nothing : DeliveriesTellNothing
deliveries_tell_nothing settings cs c delivers = λ i d within. entries_numbered_once settings cs (c ∷ []) i d within (low i d within)
  where
    s : State
    s = reached settings cs

    t : State
    t = reached settings (cs ++ c ∷ [])

    serial_stays : t.base.serial ≡ s.base.serial
    serial_stays =
        ap (λ (t : State). t.base.serial) (state_of-push (step_at settings) empty cs c)
        ∙ after_step settings s c (λ r. (state_after s r).base.serial ≡ s.base.serial) (λ refusal. refl) (λ a o is done. refl) (λ d a is. absurd (false≢true (sym is.edits ∙ delivers)))

    low : All (λ n. n ≤ s.base.serial) (numbers_waiting t)
    low = each_number (λ n. n ≤ s.base.serial) t.outbox.entries (λ e there. let most = ((wait_after settings (cs ++ c ∷ [])).drawn e there).up_to_the_serial in let same = serial_stays in omega (arith, most, same))
