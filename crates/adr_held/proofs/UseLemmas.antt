-- In a state that is right, what was not drawn is new, and no entry is to be dropped.
use Rattle.std.proofs.Common.{◌≡◌, ◌≤◌, ◌<◌, ℕ, true, false, not, List, map, Option, None, Some, refl, ap, arith}
use Rattle.adr_delivery.specs.declared.entry.Entry.{Entry}
use Rattle.adr_delivery.specs.Outboxes.{has_addressee}
use Rattle.adr_view.proofs.ListLemmas.{filter_alike}
use Rattle.adr_view.proofs.OrderLemmas.{each_row}
use Rattle.adr_refresh.proofs.Common.{All, All-contains, All-weaker, at, exact_unsigned, nat_cmp}
use Rattle.std.proofs.lemmas.Map.Views.{Contains-from_lookup, tells_apart}
use Rattle.adr_held.specs.Laws.{UndrawnIsNew, NoneIsLost}

absent : {V : Type 0} (serial n : ℕ) (rows : List (ℕ × V)) → All (λ r. r.0 ≤ serial) rows → serial < n → at nat_cmp n rows ≡ None
absent {V} serial n rows low above = by (at nat_cmp n rows) refl
  where
    by : (o : Option V) → at nat_cmp n rows ≡ o → o ≡ None
    by None is = refl
    by (Some v) is = absurd (let one = All-contains (λ r. r.0 ≤ serial) rows (n, v) low (Contains-from_lookup (tells_apart exact_unsigned) n v rows is) in omega (arith, one, above))

pub undrawn_new : UndrawnIsNew
undrawn_new state n right above = record {
  of_no_resource = absent state.base.serial n state.base.portfolio.resources (each_row (λ n. n ≤ state.base.serial) state.base.portfolio.resources right.resources_drawn) above;
  of_no_entry = absent state.base.serial n state.outbox.entries right.entries_drawn above;
}

pub none_lost : NoneIsLost
none_lost state right =
    let subs = state.base.portfolio.subs in
    ap (map (λ (e : ℕ × Entry). e.0)) (filter_alike (λ e. not (has_addressee subs e)) false state.outbox.entries (All-weaker (λ e. has_addressee subs e ≡ true) (λ e. not (has_addressee subs e) ≡ false) (λ e is. ap not is) state.outbox.entries right.addressed))
