-- Sets of names: with one more name, and of names that ascend.
use Rattle.std.proofs.Common.{◌≡◌, ℕ, ◌+◌, ◌≤◌, length, length-append, arith, Ordering, Less, Equal, Greater, nat_cmp, List, [], ◌∷◌, ◌++◌, refl, sym, ap, ◌∙◌, subst, append_assoc, append-nil}
use Rattle.std.specs.Prelude.{fold}
use Rattle.std.specs.Ordering.{match_ordering, ordering_reverse}
use Rattle.std.specs.List.{AllByRecursion}
use Rattle.std.specs.List.Sorted.{IsStrictlySortedBy}
use Rattle.std.specs.Cmp.Lexicographic.{slice_cmp, nat_list_cmp_total}
use Rattle.std.specs.BTreeSet.{insert_key}
use Rattle.std.proofs.lemmas.List.Sums.{fold-append}
use Rattle.adr_objects.specs.NameSets.{name_set}

length-insert_key-le : (set : List (List ℕ)) (name : List ℕ) → length (insert_key (slice_cmp nat_cmp) set name) ≤ length set + 1
length-insert_key-le [] name = omega arith
length-insert_key-le (x ∷ xs) name = at_first (slice_cmp nat_cmp name x) x xs name (length-insert_key-le xs name)
  where
    at_first : (o : Ordering) (x : List ℕ) (xs : List (List ℕ)) (name : List ℕ) → length (insert_key (slice_cmp nat_cmp) xs name) ≤ length xs + 1
        → length (match_ordering o (name ∷ x ∷ xs) (x ∷ xs) (x ∷ insert_key (slice_cmp nat_cmp) xs name)) ≤ length (x ∷ xs) + 1
    at_first Less x xs name h = omega arith
    at_first Equal x xs name h = omega arith
    at_first Greater x xs name h = omega arith

pub record IsPushed (names set : List (List ℕ)) (name : List ℕ) : Type 0 where
  pub so_far : insert_key (slice_cmp nat_cmp) set name ≡ name_set (names ++ name ∷ [])
  pub few : length (insert_key (slice_cmp nat_cmp) set name) ≤ length (names ++ name ∷ [])

pub name_set-push : (names set : List (List ℕ)) (name : List ℕ) → set ≡ name_set names → length set ≤ length names → IsPushed names set name
name_set-push names set name so_far few = record {
  so_far = rw (so_far, fold-append (insert_key (slice_cmp nat_cmp)) [] names (name ∷ [])) refl;
  few = omega (arith, length-insert_key-le set name, length-append names (name ∷ []));
}

-- ---- names that ascend are the set of themselves

insert_last : (names : List (List ℕ)) (name : List ℕ) → AllByRecursion (λ x. slice_cmp nat_cmp name x ≡ Greater) names → insert_key (slice_cmp nat_cmp) names name ≡ names ++ name ∷ []
insert_last [] name h = refl
insert_last (x ∷ names) name h = rw (h.0, insert_last names name h.1) refl

at_next : (P : List ℕ → Type 0) (before names : List (List ℕ)) (name : List ℕ) → AllByRecursion P (before ++ name ∷ names) → P name
at_next P [] names name h = h.0
at_next P (b ∷ before) names name h = at_next P before names name h.1

above_those_before : (before names : List (List ℕ)) (name : List ℕ) → IsStrictlySortedBy (slice_cmp nat_cmp) (before ++ name ∷ names) → AllByRecursion (λ x. slice_cmp nat_cmp name x ≡ Greater) before
unfolding IsStrictlySortedBy
above_those_before [] names name h = tt
above_those_before (b ∷ before) names name h =
    let below : slice_cmp nat_cmp b name ≡ Less = at_next (λ x. slice_cmp nat_cmp b x ≡ Less) before names name h.0 in
    (nat_list_cmp_total.antisymm name b ∙ ap ordering_reverse below, above_those_before before names name h.1)

all_inserted : (before names : List (List ℕ)) → IsStrictlySortedBy (slice_cmp nat_cmp) (before ++ names) → fold (insert_key (slice_cmp nat_cmp)) before names ≡ before ++ names
all_inserted before [] h = sym (append-nil before)
all_inserted before (name ∷ names) h =
    let here : insert_key (slice_cmp nat_cmp) before name ≡ before ++ name ∷ [] = insert_last before name (above_those_before before names name h) in
    let same : (before ++ name ∷ []) ++ names ≡ before ++ name ∷ names = append_assoc before (name ∷ []) names in
    ap (λ (set : List (List ℕ)). fold (insert_key (slice_cmp nat_cmp)) set names) here ∙ all_inserted (before ++ name ∷ []) names (subst (IsStrictlySortedBy (slice_cmp nat_cmp)) (sym same) h) ∙ same

pub name_set-sorted : (names : List (List ℕ)) → IsStrictlySortedBy (slice_cmp nat_cmp) names → name_set names ≡ names
name_set-sorted names h = all_inserted [] names h
