-- What a map has at a key behind rows that are put one after another.
use Rattle.std.proofs.Common.{◌≡◌, true, false, ⊎_elim, List, [], ◌∷◌, Option, Some, None, Ordering, refl, ap, ◌∙◌}
use Rattle.std.specs.Option.{option_or}
use Rattle.std.proofs.lemmas.Bool.{cases_Bool}
use Rattle.std.proofs.lemmas.Cmp.{tied_itself}
use Rattle.std.proofs.lemmas.Map.{lookup-none}
use Rattle.std.proofs.lemmas.Map.Entries.{none_past_head}
use Rattle.adr_state.proofs.LawLemmas.{at-insert_entry}
use Rattle.adr_view.proofs.Common.{All, All-head, All-tail, IsDistinct-from_sorted, IsStrictlySortedBy, IsTotalOrder, at, eq_by_cmp_equiv, insert_entry, is_at, is_eq, keys_of, with_rows}
use Rattle.adr_view.proofs.OrderLemmas.{InOrder}

-- a value, or else none
pub or_none : {V : Type 0} (o : Option V) → option_or o None ≡ o
or_none None = refl
or_none (Some v) = refl

pub tied : {K : Type 0} {cmp : K → K → Ordering} → IsTotalOrder cmp → (k : K) → is_eq (cmp k k) ≡ true
tied order k = ap is_eq (tied_itself order k)

module _ {K V : Type 0} {cmp : K → K → Ordering} (order : IsTotalOrder cmp) where
  pub past_head : (q : K) (e : K × V) (es : List (K × V)) → InOrder cmp (e ∷ es) → is_eq (cmp q e.0) ≡ true → at cmp q es ≡ None
  past_head q e es up is = lookup-none (is_at (cmp q)) es (none_past_head (eq_by_cmp_equiv order) q e es (IsDistinct-from_sorted cmp (keys_of (e ∷ es)) up) is)

  -- rows in order lie over what was there
  pub at-with_rows : (q : K) (m rows : List (K × V)) → InOrder cmp rows → at cmp q (with_rows cmp m rows) ≡ option_or (at cmp q rows) (at cmp q m)
  unfolding IsStrictlySortedBy
  at-with_rows q m [] up = refl
  at-with_rows q m (r ∷ rows) up =
      at-with_rows q (insert_entry cmp m r.0 r.1) rows up.1
      ∙ ap (option_or (at cmp q rows)) (at-insert_entry order q r.0 r.1 m)
      ∙ ⊎_elim
      (λ is. let none : at cmp q rows ≡ None = past_head q r rows up is in rw (is, none) refl)
      (λ no. rw no refl)
      (cases_Bool (is_eq (cmp q r.0)))

  -- rows at other keys leave what is at a key
  pub at-with_others : (q : K) (m rows : List (K × V)) → All (λ r. is_eq (cmp q r.0) ≡ false) rows → at cmp q (with_rows cmp m rows) ≡ at cmp q m
  at-with_others q m [] apart = refl
  at-with_others q m (r ∷ rows) apart =
      let first : is_eq (cmp q r.0) ≡ false = All-head (λ r. is_eq (cmp q r.0) ≡ false) r rows apart in
      at-with_others q (insert_entry cmp m r.0 r.1) rows (All-tail (λ r. is_eq (cmp q r.0) ≡ false) r rows apart) ∙ at-insert_entry order q r.0 r.1 m ∙ rw first refl
