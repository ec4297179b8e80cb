-- What is left of the entries when those of some numbers go.
use Rattle.std.proofs.Common.{◌≡◌, ℕ, Bool, true, false, not, cond, List, [], ◌∷◌, map, filter, refl, ap, ◌∙◌, Less, is_eq}
use Rattle.std.specs.Map.{remove_entry}
use Rattle.adr_db.proofs.Common.{AllByRecursion, nat_cmp, nat_cmp_total, tied_itself, ordering_reverse, is_at, all-map}
use Rattle.adr_db.proofs.Entries.{NumbersRise}
use Rattle.sqlite_trees.proofs.ListLemmas.{all-filter}
use Rattle.adr_delivery.specs.declared.entry.Entry.{Entry}
use Rattle.adr_outbox.specs.Dropped.{without_entries}

abbrev Waiting : Type 0
Waiting = ℕ × Entry

-- one that stands before those of the numbers stays
first_stays : (e : Waiting) (es : List Waiting) (ns : List ℕ) → AllByRecursion (λ n. nat_cmp e.0 n ≡ Less) ns → without_entries ns (e ∷ es) ≡ e ∷ without_entries ns es
first_stays e es [] below = refl
first_stays e es (n ∷ ns) below =
    ap (λ o. without_entries ns (cond (is_eq o) es (e ∷ remove_entry (is_at (nat_cmp n)) es))) (nat_cmp_total.antisymm n e.0 ∙ ap ordering_reverse below.0) ∙ first_stays e (remove_entry (is_at (nat_cmp n)) es) ns below.1

-- where the numbers are those of the entries that do not pass, those that pass are left
pub others_stay : (p : Waiting → Bool) (es : List Waiting) → NumbersRise es → without_entries (map (λ e. e.0) (filter (λ e. not (p e)) es)) es ≡ filter p es
others_stay p [] up = refl
others_stay p (e ∷ es) up = by (p e) (others_stay p es up.1)
  where
    gone : List ℕ
    gone = map (λ e. e.0) (filter (λ e. not (p e)) es)

    above : AllByRecursion (λ n. nat_cmp e.0 n ≡ Less) gone
    above = all-map (λ n. nat_cmp e.0 n ≡ Less) (λ (q : Waiting). q.0) (filter (λ e. not (p e)) es) (all-filter (λ (q : Waiting). nat_cmp e.0 q.0 ≡ Less) (λ e. not (p e)) es up.0)

    by : (b : Bool) → without_entries gone es ≡ filter p es → without_entries (map (λ (e : Waiting). e.0) (cond (not b) (e ∷ filter (λ e. not (p e)) es) (filter (λ e. not (p e)) es))) (e ∷ es) ≡ cond b (e ∷ filter p es) (filter p es)
    by true more = first_stays e es gone above ∙ ap (λ es. e ∷ es) more
    by false more = ap (λ o. without_entries gone (cond (is_eq o) es (e ∷ remove_entry (is_at (nat_cmp e.0)) es))) (tied_itself nat_cmp_total e.0) ∙ more
