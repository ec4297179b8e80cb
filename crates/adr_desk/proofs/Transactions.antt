-- A transaction from its begin to its commit.
use Rattle.std.proofs.Common.{◌≡◌, true, Ok, Err, Result, IfOk, OnOk}
use Rattle.adr_db.proofs.Common.{Trees, Ghosts, Held, state, HasCleanDisk, Refusal, Stays, Commits, holds_now}
use Rattle.sqlite.specs.State as sql
use Rattle.adr_state.specs.declared.state.State.{State}
use Rattle.adr_sql.proofs.Commits.{committed}
use Rattle.adr_db.specs.Tables.{schema}
use Rattle.adr_db.specs.Kept.{Keeps, contents_of}
use Rattle.adr_held.specs.Held.{kept_of, HoldsState, AreLeftWith}
use Rattle.adr_machine.specs.Edits.{told_by}
use Rattle.adr_desk.specs.Transactions.{Ends}

-- what is held stays, where all is as it was
pub held_now : (held : State) (a b : sql.State) → b.now ≡ a.now → HoldsState held a → HoldsState held b
held_now held a b same was = record {
  keeps = record { rows = holds_now schema (contents_of (kept_of held)) a b same was.keeps.rows; marks = was.keeps.marks; subs = was.keeps.subs };
  reads = was.reads;
  right = was.right;
}

-- so does what is kept on
pub kept_on : (held : State) (a b : sql.State) → Keeps (kept_of held) b → HoldsState held a → HoldsState held b
kept_on held a b keeps was = record { keeps = keeps; reads = was.reads; right = was.right }

-- what is held, its trees are left with
pub left_now : (held : State) (s : sql.State) → HoldsState held s → AreLeftWith held s.now.trees
left_now held s was = record { sound = was.keeps.rows.sound; rows = was.keeps.rows.each; marks = was.keeps.marks; subs = was.keeps.subs; reads = was.reads; right = was.right }

module _ {S : Type 0} (g : Ghosts S) (old last end : Held S) where
  abbrev begun : Held S
  begun = record old { in_transaction = true }

  pub ends_whole : {A F T : Type 0} (x : A) (r : Result T Refusal) (IsDone : sql.State → Type 0) (IsLeft : Trees → Type 0)
      → Stays g begun last {T = A} {E = F} (Ok x)
      → (HasCleanDisk (state g last) → IsDone (state g last))
      → ((a b : sql.State) → b.now ≡ a.now → IsDone a → IsDone b)
      → ((s : sql.State) → IsDone s → IsLeft s.now.trees)
      → Ends g last end r
      → Commits g old end IsDone IsLeft r
  ends_whole {T = T} x (Ok y) IsDone IsLeft stays made moves leaves ends =
      let it = committed g old last end {T = T} x (Ok y) IsDone IsLeft stays made moves leaves ends.over ends.ok (λ clean. tt) ends.crash in
      record { done = it.done; is_open = it.is_open; undone = λ clean is_open. tt; was_open = it.was_open; over = it.over; crash = it.crash }
  ends_whole {T = T} x (Err e) IsDone IsLeft stays made moves leaves ends =
      let it = committed g old last end {T = T} x (Err ends.err.0) IsDone IsLeft stays made moves leaves ends.over (λ clean. tt) ends.err.2 ends.crash in
      record { done = λ clean. tt; is_open = λ clean. tt; undone = it.undone; was_open = it.was_open; over = it.over; crash = it.crash }

pub told_ok : {A : Type 0} (r : Result Unit Refusal) (x : A) (P : A → Type 0) → OnOk r (P x) → IfOk (told_by (λ u. x) r) P
told_ok (Ok u) x P h = h
told_ok (Err e) x P h = tt

module _ {S : Type 0} (g : Ghosts S) (old end : Held S) where
  pub told_whole : {A : Type 0} (r : Result Unit Refusal) (x : A) (IsDone : sql.State → Type 0) (IsLeft : Trees → Type 0) → Commits g old end IsDone IsLeft r → Commits g old end IsDone IsLeft (told_by (λ u. x) r)
  told_whole (Ok u) x IsDone IsLeft h = record { done = h.done; is_open = h.is_open; undone = λ clean is_open. tt; was_open = h.was_open; over = h.over; crash = h.crash }
  told_whole (Err e) x IsDone IsLeft h = record { done = λ clean. tt; is_open = λ clean. tt; undone = h.undone; was_open = h.was_open; over = h.over; crash = h.crash }
