-- The tables are made on a lent transaction, and then committed.
use Rattle.std.proofs.Common.{◌≡◌, true, [], Ok, Result, refl, sym, subst}
use Rattle.adr_db.proofs.Common.{Ghosts, Held, state, HasCleanDisk, Refusal, Holds, no_schema, Stays, Commits, holds_now}
use Rattle.adr_db.specs.Kept.{Keeps, nothing_kept}
use Rattle.adr_held.specs.Held.{HoldsState, AreLeftWith}
use Rattle.adr_state.specs.States.{empty}
use Rattle.adr_desk.specs.Transactions.{Ends}
use Rattle.adr_held.proofs.RightLemmas.{empty_held}
use Rattle.adr_desk.proofs.Transactions.{ends_whole, held_now, left_now}

module _ {S : Type 0} (g : Ghosts S) (old begun last end : Held S) (ended : Result Unit Refusal) where
  pub created_whole : begun ≡ record old { in_transaction = true } → Stays g begun last {T = Unit {0}} {E = Refusal} (Ok tt) → (HasCleanDisk (state g last) → Holds no_schema [] (state g begun) → Keeps nothing_kept (state g last)) → Ends g last end ended
      → Commits g old end (λ s. Holds no_schema [] (state g old) → HoldsState empty s) (λ trees. Holds no_schema [] (state g old) → AreLeftWith empty trees) ended
  created_whole is stays made ends =
      ends_whole g old last end {T = Unit {0}} tt ended _ _ (subst (λ (b : Held S). Stays g b last {T = Unit {0}} {E = Refusal} (Ok tt)) is stays)
      (λ clean none. empty_held (state g last) (made clean (subst (λ (b : Held S). Holds no_schema [] (state g b)) (sym is) (holds_now no_schema [] (state g old) _ refl none))))
      (λ a b same done none. held_now empty a b same (done none))
      (λ s done none. left_now empty s (done none))
      ends
