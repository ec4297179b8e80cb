-- The changes between two views are exactly what happens at their keys.
use Rattle.std.proofs.Common.{◌≡◌, Bool, true, false, cond, List, [], ◌∷◌, map, Option, Some, None, refl, sym, ap, subst, ◌∙◌}
use Rattle.std.specs.Prelude.{option_map}
use Rattle.std.specs.List.{Contains}
use Rattle.std.specs.List.Sorted.{IsStrictlySortedBy}
use Rattle.std.specs.Map.{keys_of}
use Rattle.std.proofs.lemmas.Bool.{both_ways}
use Rattle.std.proofs.lemmas.Cmp.{eq_by_cmp_equiv}
use Rattle.std.proofs.lemmas.Map.Keys.{IsDistinct-from_sorted}
use Rattle.std.proofs.lemmas.Map.Views.{Contains-from_lookup, lookup-from_Contains, tells_apart}
use Rattle.adr_state.specs.declared.keys.ViewKey.{ViewKey}
use Rattle.adr_state.specs.declared.keys.ViewKey.TheVariants as key
use Rattle.adr_state.specs.Keys.{at, view_cmp}
use Rattle.adr_view.specs.declared.changes.Change.{Change}
use Rattle.adr_view.specs.declared.changes.Operation.{Operation}
use Rattle.adr_view.specs.declared.changes.Operation.TheVariants as operation
use Rattle.adr_view.specs.declared.view.Content.{Content}
use Rattle.adr_view.specs.Changes.{changes, is_change_to_go}
use Rattle.adr_view.specs.Same.{is_same_content}
use Rattle.adr_view.proofs.KeyLemmas.{view_exact}
use Rattle.adr_view.proofs.LawLemmas.{contents_equal}
use Rattle.adr_view.proofs.ListLemmas.{from_map, in_map}
use Rattle.adr_view.proofs.ShownLemmas.{view_total}
use Rattle.adr_refresh.specs.Refresh.{as_row, changes_told}
use Rattle.adr_refresh.proofs.ChangeLemmas.{at-changes, change_at, changes_in_order}
use Rattle.adr_laws.specs.Told.{is_object}
use Rattle.adr_outbox_laws.specs.Told.{ChangesAreWhatHappens, Happens}

-- ---- what happens at a key

-- only that a roll-up goes is no change
goes_as_object : (k : ViewKey) → is_change_to_go k ≡ is_object k
goes_as_object (key.Program id) = refl
goes_as_object (key.Event id resource) = refl
goes_as_object (key.Report n) = refl
goes_as_object (key.Rollup id) = refl

-- what is computed of it
abbrev IsChange : ViewKey → Option Content → Option Content → Operation → Type 0
IsChange k old new o = change_at k old new ≡ Some o

module _ (k : ViewKey) where
  happens : (old new : Option Content) (o : Operation) → IsChange k old new o → Happens k old new o
  happens None None o is = absurd (cc)
  happens None (Some new) operation.Post is = tt
  happens None (Some new) operation.Put is = absurd (cc)
  happens None (Some new) operation.Delete is = absurd (cc)
  happens (Some old) None o is = by (is_change_to_go k) refl o is
    where
      by : (b : Bool) → is_change_to_go k ≡ b → (o : Operation) → option_map (λ (c : Change). c.operation) (cond b (Some (record { key = k; operation = operation.Delete })) None) ≡ Some o → Happens k (Some old) None o
      by true goes operation.Post is = absurd (cc)
      by true goes operation.Put is = absurd (cc)
      by true goes operation.Delete is = sym (goes_as_object k) ∙ goes
      by false stays o is = absurd (cc)
  happens (Some old) (Some new) o is = by (is_same_content old new) refl o is
    where
      by : (b : Bool) → is_same_content old new ≡ b → (o : Operation) → option_map (λ (c : Change). c.operation) (cond b None (Some (record { key = k; operation = operation.Put }))) ≡ Some o → Happens k (Some old) (Some new) o
      by true same o is = absurd (cc)
      by false differ operation.Post is = absurd (cc)
      by false differ operation.Put is = λ same. both_ways (is_same_content old new) differ ((contents_equal old new).1 same)
      by false differ operation.Delete is = absurd (cc)

  is_change : (old new : Option Content) (o : Operation) → Happens k old new o → IsChange k old new o
  is_change None None operation.Post h = absurd h
  is_change None None operation.Put h = absurd h
  is_change None None operation.Delete h = absurd h
  is_change None (Some new) operation.Post h = refl
  is_change None (Some new) operation.Put h = absurd h
  is_change None (Some new) operation.Delete h = absurd h
  is_change (Some old) None operation.Post h = absurd h
  is_change (Some old) None operation.Put h = absurd h
  is_change (Some old) None operation.Delete h = rw (goes_as_object k ∙ h) refl
  is_change (Some old) (Some new) operation.Post h = absurd h
  is_change (Some old) (Some new) operation.Put h = by (is_same_content old new) refl
    where
      by : (b : Bool) → is_same_content old new ≡ b → option_map (λ (c : Change). c.operation) (cond b None (Some (record { key = k; operation = operation.Put }))) ≡ Some operation.Put
      by true same = absurd (h ((contents_equal old new).0 same))
      by false differ = refl
  is_change (Some old) (Some new) operation.Delete h = absurd h

-- ---- all of them

keys_as_rows : (cs : List Change) → keys_of (map as_row cs) ≡ map (λ c. c.key) cs
keys_as_rows [] = refl
keys_as_rows (c ∷ cs) = ap (λ ks. c.key ∷ ks) (keys_as_rows cs)

pub changes_are_what_happens : ChangesAreWhatHappens
changes_are_what_happens before after =
    record {
      each_once_in_order = subst (IsStrictlySortedBy view_cmp) (keys_as_rows (changes before after)) (changes_in_order before after);
      are_what_happens = λ k o. (into k o, back k o);
    }
  where
    into : (k : ViewKey) (o : Operation) → Contains (changes before after) (record { key = k; operation = o }) → Happens k (at view_cmp k before) (at view_cmp k after) o
    into k o there =
        let row : Contains (changes_told before after) (k, o) = in_map as_row (changes before after) (record { key = k; operation = o }) there in
        let found = lookup-from_Contains (eq_by_cmp_equiv view_total) k o (changes_told before after) (IsDistinct-from_sorted view_cmp (keys_of (changes_told before after)) (changes_in_order before after)) row in
        happens k (at view_cmp k before) (at view_cmp k after) o (sym (at-changes k before after) ∙ found)

    back : (k : ViewKey) (o : Operation) → Happens k (at view_cmp k before) (at view_cmp k after) o → Contains (changes before after) (record { key = k; operation = o })
    back k o h =
        let row : Contains (changes_told before after) (k, o) = Contains-from_lookup (tells_apart view_exact) k o (changes_told before after) (at-changes k before after ∙ is_change k (at view_cmp k before) (at view_cmp k after) o h) in
        let made = from_map as_row (changes before after) (k, o) row in
        let same : made.0 ≡ record { key = k; operation = o } = λ i. record { key = (sym made.2 i).0; operation = (sym made.2 i).1 } in
        subst (Contains (changes before after)) same made.1
