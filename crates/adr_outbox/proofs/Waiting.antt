-- The entries that wait, as one of them is leased or leaves.
use Rattle.std.proofs.Common.{◌≡◌, inl, inr, ℕ, ◌-◌, suc, Bool, true, false, cond, None, Some, Option, Ok, Err, Result, List, [], ◌∷◌, length, sym, ap, ◌∙◌, arith}
use Rattle.std.specs.Prelude.{is_some}
use Rattle.std.specs.Map.{remove_entry}
use Rattle.adr_text.specs.Refusals.{◌>>=◌, or_else}
use Rattle.adr_text.specs.declared.refusal.Refusal.{Refusal}
use Rattle.adr_text.specs.declared.refusal.Refusal.TheVariants.{LeaseLost}
use Rattle.adr_db.proofs.Common.{Has, at, nat_cmp, nat_cmp_total, insert_entry, insert_key, is_at}
use Rattle.adr_db.proofs.Entries.{NumbersRise, found_of, length_put, length_left}
use Rattle.adr_delivery.specs.declared.entry.Entry.{Entry}
use Rattle.adr_delivery.specs.Deliveries.{has_lease}
use Rattle.adr_delivery.specs.Outboxes.{entry_leased}
use Rattle.adr_delivery.specs.Entries.{destination}
use Rattle.adr_delivery.specs.Next.{may_be_next, next_after, next_entry}

-- the next one is one of them
next_has : (seen : List ℕ) (now : ℕ) (es : List (ℕ × Entry)) (e : ℕ × Entry) → next_after seen now es ≡ Some e → Has es e
next_has seen now [] e h = absurd cc
next_has seen now (r ∷ rs) e h = by (may_be_next seen now r.1) (next_has (insert_key nat_cmp seen (destination r.1.addressee)) now rs e) h
  where
    by : (b : Bool) → (next_after (insert_key nat_cmp seen (destination r.1.addressee)) now rs ≡ Some e → Has rs e) → cond b (Some r) (next_after (insert_key nat_cmp seen (destination r.1.addressee)) now rs) ≡ Some e → Has (r ∷ rs) e
    by true more h = let it : r ≡ e = cc in inl (sym it)
    by false more h = inr (more h)

pub next_at : (now : ℕ) (es : List (ℕ × Entry)) → NumbersRise es → (n : ℕ) (e : Entry) → next_entry now es ≡ Some (n, e) → at nat_cmp n es ≡ Some e
next_at now es up n e h = found_of es up (n, e) (next_has [] now es (n, e) h)

-- as many wait where one stands in the place of another
pub as_many : (n : ℕ) (e there : Entry) (es : List (ℕ × Entry)) → NumbersRise es → at nat_cmp n es ≡ Some there → length (insert_entry nat_cmp es n e) ≡ length es
as_many n e there es up is = length_put nat_cmp_total n e es up ∙ ap (λ found. cond (is_some found) (length es) (suc (length es))) is

-- and one less where one leaves
pub one_less : (n : ℕ) (there : Entry) (es : List (ℕ × Entry)) (waiting : ℕ) → at nat_cmp n es ≡ Some there → waiting ≡ length es → waiting - 1 ≡ length (remove_entry (is_at (nat_cmp n)) es)
one_less n there es waiting is same = let left = length_left nat_cmp n es (ap is_some is) in omega (arith, left, same)

-- the one that has a lease stands at its number
pub leased_there : (n lease : ℕ) (es : List (ℕ × Entry)) (e : Entry) → entry_leased n lease es ≡ Ok e → at nat_cmp n es ≡ Some e
leased_there n lease es e h = by (at nat_cmp n es) h
  where
    of : (there : Entry) (has : Bool) → ◌≡◌ {A = Result Entry Refusal} (cond has (Ok there) (Err LeaseLost)) (Ok e) → Some there ≡ Some e
    of there true h = cc
    of there false h = absurd cc

    by : (found : Option Entry) → (or_else LeaseLost found >>= λ e. cond (has_lease lease e.delivery) (Ok e) (Err LeaseLost)) ≡ Ok e → found ≡ Some e
    by None h = absurd cc
    by (Some there) h = of there (has_lease lease there.delivery) h
