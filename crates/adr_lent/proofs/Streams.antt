-- Rows that are lent one at a time: what they are the beginning of, and what is left.
use Rattle.std.proofs.Common.{◌≡◌, ◌⊎◌, inl, inr, ℕ, false, List, [], ◌++◌, Result, Ok, Err, OnErr, IfOk, arith, refl, sym, ap, subst, ◌∙◌}
use Rattle.sqlite.specs.Order.{Row}
use Rattle.sqlite.specs.Tree.{Trees}
use Rattle.sqlite.specs.Schema.{Schema}
use Rattle.sqlite.specs.Store.{Ghosts}
use Rattle.sqlite.specs.Query.{Query}
use Rattle.sqlite.specs.Clock.{timed}
use Rattle.sqlite.specs.Effect.{Database}
use Rattle.sqlite.specs.Listing.{understood, reads_listing, IsSourceOf}
use Rattle.sqlite.specs.Held.{Held, state}
use Rattle.sqlite.specs.Given.{HasBegun, IsRefused}
use Rattle.sqlite.specs.declared.error.Error.{Error}
use Rattle.sqlite.specs.Command.TheVariants.{Select}
use Rattle.sqlite.specs.State.{State, HasCleanDisk, IsUnchanged, IsRolledBack, IsStatement, Survives, Shown, ShowsRows, CommitsShowing, FailsToQuery, FailsToShow, IsNotRun}
use Rattle.sqlite.proofs.Callers.{command_of, EndsIn, begins_shown, given_begin, unchanged_then}
use Rattle.sqlite.proofs.StateLemmas.{survives_then, survives_weaker}
use Rattle.sqlite_resolve.specs.declared.compiled.Compiled.{Compiled}
use Rattle.adr_lent.specs.Texts.{IsQueryText}
use Rattle.adr_lent.specs.Lent.{HasLent, Stands, Begins}
use Rattle.adr_lent.proofs.Texts.{understood_bare, never_returns}

-- ---- states

pub unchanged_again : (a b : State) → IsUnchanged a b → IsUnchanged b b
unchanged_again a b h = (record { was_open = h.0.is_open; is_open = h.0.is_open; now_is = refl; committed_is = refl; mode = refl }, record { changes = refl; last_rowid = refl }, refl)

pub clean_before : (old new : State) (P : Trees → Type 0) → Survives old new P → HasCleanDisk new → HasCleanDisk old
clean_before old new P kept clean = omega (arith, kept.clean)

survives_itself : (s : State) → Survives s s (λ _. ⊥)
survives_itself s = record { clean = omega arith; shield = λ h. h; counts = omega arith; limit = refl; closes = λ clean opened. inl opened; crash = λ clean db left. inl left }

-- ---- what is left

module _ {S : Type 0} (g : Ghosts S) where
  pub stands_itself : (h : Held S) → Stands g h h
  stands_itself h = record { was_open = λ clean opened. opened; same = λ clean opened settled. (refl, refl); over = λ none. none; crash = survives_itself (state g h) }

  pub stands_then : (a b c : Held S) → Stands g a b → Stands g b c → Stands g a c
  stands_then a b c p q = record {
    was_open = λ clean opened. p.was_open (before clean) (q.was_open clean opened);
    same = λ clean opened settled.
        let first = p.same (before clean) (q.was_open clean opened) settled in
        let second = q.same clean opened (λ was. first.0 ∙ settled (p.was_open (before clean) was) ∙ sym first.1) in
        (second.0 ∙ first.0, second.1 ∙ first.1);
    over = λ none. q.over (p.over none);
    crash = survives_then (state g a) (state g b) (state g c) _ _ (λ _. ⊥) (λ _ db none. none) (λ _ db none. none) p.crash q.crash;
  }
    where
      before : HasCleanDisk (state g c) → HasCleanDisk (state g b)
      before = clean_before (state g b) (state g c) _ q.crash

  -- what is unchanged or undone
  pub left_stands : (old new : Held S) → (HasCleanDisk (state g new) → IsUnchanged (state g old) (state g new) ⊎ IsRolledBack (state g old) (state g new)) → (old.in_transaction ≡ false → new.in_transaction ≡ false)
      → Survives (state g old) (state g new) (λ _. ⊥) → Stands g old new
  left_stands old new left over crash = record {
    was_open = λ clean opened. elim (left clean) [ inl still ↦ still.0.was_open | inr undone ↦ undone.was_open opened ];
    same = λ clean opened settled. elim (left clean) [
      | inl still ↦ (still.0.now_is, still.0.committed_is)
      | inr undone ↦ (let it = undone.undone opened in (it.0 ∙ sym (settled (undone.was_open opened)), it.1))
    ];
    over = over;
    crash = crash;
  }

-- ---- the text of a query

module _ (sql : List ℕ) (params : Row) (text : IsQueryText sql) where
  commits_none : (old : State) (db : Trees) → ¬ CommitsShowing sql params old db
  unfolding CommitsShowing
  commits_none old db h = absurd (let none = rw (understood_bare old.now.schema sql h.0 text h.1.is).0 at h.2 in cc)

  -- a crash on the way finds nothing new
  pub reads_only : (old new : State) → Survives old new (CommitsShowing sql params old) → Survives old new (λ _. ⊥)
  reads_only old new = survives_weaker old new _ _ (λ _ db. commits_none old db)

  -- an error leaves the database as it was, or the last commit
  fails_leaves : (old new : State) (e : Error) → FailsToQuery sql params old new e → IsUnchanged old new ⊎ IsRolledBack old new
  unfolding FailsToQuery IsNotRun
  fails_leaves old new e (inl (inl h)) = inl h.1
  fails_leaves old new e (inl (inr h)) = inr h.3
  fails_leaves old new e (inr h) =
      let it = subst (FailsToShow old new sql h.0 (timed params h.0.formats h.1.now) e) (understood_bare old.now.schema sql h.0 text h.1.is).0 h.2 in
      inl it.3

  pub refused_stands : {S X : Type 0} (g : Ghosts S) (old new : Held S) (r : Result X Error) → OnErr r (IsRefused g sql params old r new) → OnErr r (Stands g old new)
  refused_stands g old new (Ok x) h = tt
  refused_stands g old new (Err e) h = left_stands g old new (λ clean. fails_leaves (state g old) (state g new) e (h.err clean)) h.mode (reads_only (state g old) (state g new) h.survives)

  -- what is shown over a database is shown over the same one before
  pub shown_since : (a b c : State) (rows : List Row) → IsUnchanged a b → Shown sql params b c rows → Shown sql params a c rows
  unfolding Shown
  shown_since a b c rows same h =
      let was : b.now ≡ a.now = same.0.now_is in
      let is : understood a.now.schema sql ≡ Ok h.0 = subst (λ (d : Database). understood d.schema sql ≡ Ok h.0) was h.1.is in
      let none = (understood_bare a.now.schema sql h.0 text is).0 in
      let full = timed params h.0.formats h.1.now in
      let it = subst (ShowsRows b c sql h.0 full rows) none h.2 in (
        h.0,
        record { is = is; whole = h.1.whole; given = h.1.given; now = h.1.now },
        subst (ShowsRows a c sql h.0 full rows) (sym none) (it.0, subst (λ (d : Database). IsSourceOf (reads_listing d.schema sql) d it.0) was it.1, it.2, unchanged_then a b c same it.3),
      )

-- ---- rows that are lent

module _ {S : Type 0} (g : Ghosts S) (sql : List ℕ) (params : Row) where
  -- a query begins with none
  pub lent_first : (old now : Held S) → IsQueryText sql → HasBegun g sql params old now → HasLent g sql params old now []
  lent_first old now text (inl h) = record { text = text; given = h.0; same = h.1 }
  lent_first old now text (inr h) = absurd (never_returns old.schema sql text h.0)

  -- They begin the whole answer, of a text that computes no table by recursion.
  pub lent_begin : (before now : Held S) (lent : List Row) (schema : Schema) (q : Query) (names : List (List ℕ)) → before.schema ≡ schema
      → command_of (understood schema sql) ≡ Select (record { lets = []; body = q }) names → HasLent g sql params before now lent → (tail : List Row) × Shown sql params (state g before) (state g now) (lent ++ tail)
  lent_begin before now lent schema q names has is h =
      let here = state g now in
      let known : here.now.schema ≡ schema = ap (λ (d : Database). d.schema) h.same.0.now_is ∙ has in
      let all = begins_shown sql params here here lent (given_begin g sql params now lent h.given) (unchanged_again (state g before) here h.same) (λ c db it source. ends c db it known) in
      (all.0, shown_since sql params h.text (state g before) here here _ h.same all.1)
    where
      ends : (c : Compiled) (db : Database) (it : IsStatement (state g now) sql params c) → (state g now).now.schema ≡ schema → EndsIn c.command db (timed params c.formats it.now)
      ends c db it known =
          let same : c.command ≡ Select (record { lets = []; body = q }) names = ap command_of (sym it.is ∙ ap (λ s. understood s sql) known) ∙ is in
          subst (λ k. EndsIn k db (timed params c.formats it.now)) (sym same) tt

-- ---- results

pub begun_lends : {S X : Type 0} (sql : List ℕ) (params : Row) → IsQueryText sql → (g : Ghosts S) (old : Held S) (conn : X → Held S) (r : Result X Error) → IfOk r (λ rows. HasCleanDisk (state g (conn rows)) → HasBegun g sql params old (conn rows))
    → IfOk r (λ rows. old.in_transaction ≡ false → (conn rows).in_transaction ≡ false) → IfOk r (λ rows. Survives (state g old) (state g (conn rows)) (CommitsShowing sql params (state g old))) → IfOk r (λ rows. Begins g sql params old (conn rows))
begun_lends sql params text g old conn (Ok rows) begun mode kept =
    let lent : HasCleanDisk (state g (conn rows)) → HasLent g sql params old (conn rows) [] = λ clean. lent_first g sql params old (conn rows) text (begun clean) in
    record { lent = lent; stands = left_stands g old (conn rows) (λ clean. inl (lent clean).same) mode (reads_only sql params text (state g old) (state g (conn rows)) kept) }
begun_lends sql params text g old conn (Err e) begun mode kept = tt

-- what holds of a connection holds of what is left once its rows are dropped
pub once_dropped : (P : State → Type 0) (now left : State) → P now → now ≡ left → P left
once_dropped P now left h same = subst P same h
