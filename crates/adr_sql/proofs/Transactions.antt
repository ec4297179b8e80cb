-- What statements leave of a transaction, and how that adds up.
use Rattle.std.proofs.Common.{◌≡◌, ◌⊎◌, inl, inr, ℕ, List, Ok, Err, Option, Some, None, Result, IfOk, IfErr, OnOk, IsTrue, arith, cond, refl, sym, ap, subst, ◌∙◌}
use Rattle.sqlite_schema.specs.declared.command.Returning.{Returning}
use Rattle.sqlite_resolve.specs.declared.compiled.Compiled.{Compiled}
use Rattle.sqlite.specs.Order.{Row}
use Rattle.sqlite.specs.Schema.{Schema}
use Rattle.adr_sql.proofs.Common.{Ghosts, Held, state, Database, IsSound, IsPlain, understood, State, HasCleanDisk, IsUnchanged, IsRolledBack, KeepsCommit, Survives, Shows, ShowsRows, FailsToShow, FailsToQuery, IsNotRun, IsTooLate, Shown, Error}
use Rattle.sqlite.proofs.StateLemmas.{survives_then}
use Rattle.adr_sql.specs.Contents.{Contents, Holds, StoresEach}
use Rattle.std.specs.Borrow.{MutBor}
use Rattle.adr_sql.specs.Calls.{Stays, LeavesLent}

-- ---- the last commit

unchanged_keeps : (old new : State) → IsUnchanged old new → KeepsCommit old new
unchanged_keeps old new h = record { was_open = λ _. h.0.was_open; committed = λ _. h.0.committed_is }

undone_keeps : (old new : State) → IsRolledBack old new → KeepsCommit old new
undone_keeps old new h = record { was_open = h.was_open; committed = λ is_open. (h.undone is_open).1 }

shows_keeps : (old new : State) (now : Database) (mode : _) → Shows old new now old.committed mode → KeepsCommit old new
shows_keeps old new now mode h = record { was_open = λ _. h.was_open; committed = λ _. h.committed_is }

keeps_itself : (s : State) → KeepsCommit s s
keeps_itself s = record { was_open = λ h. h; committed = λ _. refl }

keeps_then : (a b c : State) → KeepsCommit a b → KeepsCommit b c → KeepsCommit a c
keeps_then a b c p q = record { was_open = λ h. p.was_open (q.was_open h); committed = λ h. q.committed h ∙ p.committed (q.was_open h) }

-- ---- a statement that reads

module _ (sql : List ℕ) (params : Row) (old new : State) where
  to_show_keeps : (c : Compiled) (p : Row) (e : Error) (r : Option Returning) → FailsToShow old new sql c p e r → KeepsCommit old new
  to_show_keeps c p e None h = unchanged_keeps old new h.3
  to_show_keeps c p e (Some what) (inl same) = unchanged_keeps old new same.1
  to_show_keeps c p e (Some what) (inr lost) = undone_keeps old new lost.3

  read_failed_keeps : (e : Error) → FailsToQuery sql params old new e ⊎ IsTooLate sql params old new e → KeepsCommit old new
  unfolding FailsToQuery IsNotRun
  read_failed_keeps e (inl (inl (inl refused))) = unchanged_keeps old new refused.1
  read_failed_keeps e (inl (inl (inr lost))) = undone_keeps old new lost.3
  read_failed_keeps e (inl (inr h)) = to_show_keeps h.0 _ e h.0.returning h.2
  read_failed_keeps e (inr late) = unchanged_keeps old new late.5

  rows_keep : (c : Compiled) (p : Row) (rows : List Row) (r : Option Returning) → IsTrue old.in_transaction → ShowsRows old new sql c p rows r → KeepsCommit old new × IsTrue new.in_transaction
  rows_keep c p rows None inside h = (unchanged_keeps old new h.3, h.3.0.mode ∙ inside)
  rows_keep c p rows (Some what) inside h =
      let shown = subst (λ b. Shows old new new.now (cond b old.committed new.now) old.in_transaction) inside h.1.shown in
      (shows_keeps old new new.now old.in_transaction shown, shown.mode ∙ inside)

  shown_keeps : (rows : List Row) → IsTrue old.in_transaction → Shown sql params old new rows → KeepsCommit old new × IsTrue new.in_transaction
  unfolding Shown
  shown_keeps rows inside h = rows_keep h.0 _ rows h.0.returning inside h.2

module _ {S : Type 0} (g : Ghosts S) (sql : List ℕ) (params : Row) (old new : Held S) {T E : Type 0} where
  shown_stays : (rows : List Row) (x : T) → (HasCleanDisk (state g new) → Shown sql params (state g old) (state g new) rows) → Survives (state g old) (state g new) (λ _. ⊥) → Stays g old new {T = T} {E = E} (Ok x)
  shown_stays rows x shown survives = record {
    crash = survives;
    commit = λ clean inside. (shown_keeps sql params (state g old) (state g new) rows inside (shown clean)).0;
    inside = λ clean inside. (shown_keeps sql params (state g old) (state g new) rows inside (shown clean)).1;
  }

module _ {S : Type 0} (g : Ghosts S) (sql : List ℕ) (params : Row) (old new : Held S) {T : Type 0} (rows_in : T → List Row) where
  pub rows_stay : (r : Result T Error) → (HasCleanDisk (state g new) → IfOk r (λ x. Shown sql params (state g old) (state g new) (rows_in x)))
      → (HasCleanDisk (state g new) → IfErr r (λ e. FailsToQuery sql params (state g old) (state g new) e ⊎ IsTooLate sql params (state g old) (state g new) e))
      → Survives (state g old) (state g new) (λ _. ⊥) → Stays g old new r
  rows_stay (Ok x) ok err survives = shown_stays g sql params old new (rows_in x) x ok survives
  rows_stay (Err e) ok err survives = record {
    crash = survives;
    commit = λ clean inside. read_failed_keeps sql params (state g old) (state g new) e (err clean);
    inside = λ clean inside. tt;
  }

-- a plain query leaves the tables
still : (schema : Schema) (sql : List ℕ) (params : Row) (old new : State) (rows : List Row) → old.now.schema ≡ schema → IsPlain (understood schema sql) → Shown sql params old new rows → IsUnchanged old new
unfolding Shown
still schema sql params old new rows has alone h =
    let known = sym h.1.is ∙ ap (λ s. understood s sql) has in
    let bare = subst IsPlain (sym known) alone in
    let it = rw bare.0 at h.2 in
    it.3

pub holds_now : (schema : Schema) (all : Contents) (a b : State) → b.now ≡ a.now → Holds schema all a → Holds schema all b
holds_now schema all a b same was = record { has = ap (λ (d : Database). d.schema) same ∙ was.has; sound = subst (λ (d : Database). IsSound schema d.trees) (sym same) was.sound; each = subst (λ (d : Database). StoresEach schema.tables d.trees all) (sym same) was.each }

pub holds_still : (schema : Schema) (sql : List ℕ) (params : Row) (old new : State) (rows : List Row) (all : Contents) → IsPlain (understood schema sql) → Shown sql params old new rows → Holds schema all old → Holds schema all new
holds_still schema sql params old new rows all alone h was = holds_now schema all old new (still schema sql params old new rows was.has alone h).0.now_is was

-- ---- one call after another

survives_itself : (s : State) → Survives s s (λ _. ⊥)
survives_itself s = record { clean = omega arith; shield = λ h. h; counts = omega arith; limit = refl; closes = λ clean is_open. inl is_open; crash = λ clean db h. inl h }

module _ {S : Type 0} (g : Ghosts S) {T E : Type 0} where
  pub stays_itself : (s : Held S) (r : Result T E) → Stays g s s r
  stays_itself s r = record { crash = survives_itself (state g s); commit = λ clean inside. keeps_itself (state g s); inside = λ clean inside. by r inside }
    where
      by : {X : Type 0} (r : Result T E) → X → OnOk r X
      by (Ok x) h = h
      by (Err e) h = tt

  pub stays_then : {A F : Type 0} (a b c : Held S) (x : A) (r : Result T E) → Stays g a b {T = A} {E = F} (Ok x) → Stays g b c r → Stays g a c r
  stays_then a b c x r p q = record {
    crash = survives_then (state g a) (state g b) (state g c) _ _ (λ _. ⊥) (λ _ db none. none) (λ _ db none. none) p.crash q.crash;
    commit = λ clean inside. let early : HasCleanDisk (state g b) = omega (arith, q.crash.clean) in keeps_then (state g a) (state g b) (state g c) (p.commit early inside) (q.commit clean (p.inside early inside));
    inside = λ clean inside. let early : HasCleanDisk (state g b) = omega (arith, q.crash.clean) in q.inside clean (p.inside early inside);
  }

  pub lent_itself : (tx : MutBor (Held S)) (r : Result T E) → LeavesLent g tx tx r
  lent_itself tx r = record { same = refl; stays = stays_itself tx.now r }

  pub lent_then : {A F : Type 0} (a b c : MutBor (Held S)) (x : A) (r : Result T E) → LeavesLent g a b {T = A} {E = F} (Ok x) → LeavesLent g b c r → LeavesLent g a c r
  lent_then a b c x r p q = record { same = q.same ∙ p.same; stays = stays_then a.now b.now c.now x r p.stays q.stays }
