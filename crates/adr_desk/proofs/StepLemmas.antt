-- An edit, with the stamps of what it changes and what is told of the changes, is the step.
use Rattle.std.proofs.Common.{◌≡◌, ◌≤◌, ◌+◌, ℕ, Bool, true, false, cond, List, Result, Ok, Err, refl, sym, ap, subst, ◌∙◌, arith}
use Rattle.std.specs.Prelude.{nat_le, All}
use Rattle.sqlite.specs.State as sql
use Rattle.adr_text.specs.Refusals.{◌>>=◌, IsRefusalOf}
use Rattle.adr_text.specs.declared.refusal.Refusal.{Refusal}
use Rattle.adr_text.specs.declared.refusal.Refusal.TheVariants.{Exhausted}
use Rattle.adr_delivery.specs.declared.outbox.Outbox.{Outbox}
use Rattle.adr_state.specs.declared.base.Base.{Base}
use Rattle.adr_state.specs.declared.state.State.{State}
use Rattle.adr_state.specs.declared.limits.Limits.{Limits}
use Rattle.adr_state.specs.declared.limits.Settings.{Settings}
use Rattle.adr_state.specs.declared.keys.ViewKey.{ViewKey}
use Rattle.adr_state.specs.BaseChanges.{changed as changed_base}
use Rattle.adr_state.specs.Serials.{drawn}
use Rattle.adr_view.specs.declared.view.Content.{Content}
use Rattle.adr_view.specs.Views.{view}
use Rattle.adr_notices.specs.Committed.{outbox_after}
use Rattle.adr_db.specs.declared.meta.Meta.{Meta}
use Rattle.adr_db.specs.Kept.{Kept, Keeps, with_meta}
use Rattle.adr_db.specs.Bases.{with_base, meta_of, counting, keys_polled, kept_beside}
use Rattle.adr_db.specs.Images.{outbox_of}
use Rattle.adr_refresh.specs.Maps.{rows_at}
use Rattle.adr_refresh.specs.Refresh.{is_kept, kept_view}
use Rattle.adr_refresh.specs.Sources.{source_of}
use Rattle.adr_kept_view.specs.Changes.{owner_in}
use Rattle.adr_kept_view.specs.Columns.{shown_rows, rollup_rows}
use Rattle.adr_kept_view.specs.KeptViews.{ReadsBack}
use Rattle.adr_held.specs.Held.{beside_of, kept_of}
use Rattle.adr_outbox.specs.Turned.{with_outbox}
use Rattle.adr_queries.specs.declared.answer.Answer.{Answer}
use Rattle.adr_machine.specs.declared.command.Command.{Command}
use Rattle.adr_machine.specs.declared.outcome.Outcome.{Outcome}
use Rattle.adr_machine.specs.Edits.{Decision, decided, draws_number, edit_of, numbered}
use Rattle.adr_machine.specs.Steps.{answered_by, changed, outbox_then, committed}
use Rattle.adr_commit.specs.Commits.{entries_told}
use Rattle.adr_db.proofs.Results.{refused_so, then_refused}
use Rattle.adr_held.proofs.StampLemmas.{same_view}
use Rattle.adr_desk.specs.Steps.{step_of, IsCommitted}
use Rattle.adr_desk.specs.Told.{outbox_then as outbox_told, IsTold}

same_kept : (base : Base) (serial : ℕ) → kept_view (record base { serial = serial }) ≡ kept_view base
same_kept base serial = ap (rows_at (λ k. is_kept (source_of k))) (same_view base serial)

-- an edit that was made was decided, and its number is drawn
pub record WasDecided (limits : Limits) (now : ℕ) (command : Command) (base : Base) (said : Outcome) (next : Base) : Type 0 where
  pub decision : Decision
  pub serial : ℕ
  pub decides : decided limits now (base.serial + 1) base command ≡ Ok decision
  pub comes : said ≡ decision.outcome
  pub makes : next ≡ record (changed_base decision.change base) { serial = serial }
  pub rises : base.serial ≤ serial

-- a number that is drawn is none before the last one
drawn_rises : (limits : Limits) (serial : ℕ) (draws : Bool) (next : ℕ) → drawn limits serial draws ≡ Ok next → serial ≤ next
drawn_rises limits serial false next is = let same : serial ≡ next = cc is in omega (arith, same)
drawn_rises limits serial true next is = by (nat_le limits.serial serial) is
  where
    by : (b : Bool) → cond b (Err Exhausted) (Ok (serial + 1)) ≡ Ok next → serial ≤ next
    by true is = absurd (cc is)
    by false is = let same : serial + 1 ≡ next = cc is in omega (arith, same)

pub was_decided : (limits : Limits) (now : ℕ) (command : Command) (base : Base) (said : Outcome) (next : Base) → edit_of limits now base command ≡ Ok (said, next) → WasDecided limits now command base said next
was_decided limits now command base said next is = by (decided limits now (base.serial + 1) base command) refl
  where
    by : (r : Result Decision Refusal) → decided limits now (base.serial + 1) base command ≡ r → WasDecided limits now command base said next
    by (Err e) was = let two : ◌≡◌ {A = Result (Outcome × Base) Refusal} (Err e) (Ok (said, next)) = sym (ap (λ (r : Result Decision Refusal). r >>= numbered limits (draws_number command) base) was) ∙ is in absurd (cc two)
    by (Ok d) was = at (drawn limits base.serial (draws_number command)) refl
      where
        at : (r : Result ℕ Refusal) → drawn limits base.serial (draws_number command) ≡ r → WasDecided limits now command base said next
        at (Err e) left =
            let two : ◌≡◌ {A = Result (Outcome × Base) Refusal} (Err e) (Ok (said, next)) =
            sym (ap (λ (r : Result Decision Refusal). r >>= numbered limits (draws_number command) base) was ∙ ap (λ (r : Result ℕ Refusal). r >>= λ serial. Ok (d.outcome, record (changed_base d.change base) { serial = serial })) left) ∙ is in
            absurd (cc two)
        at (Ok serial) left =
            let two : ◌≡◌ {A = Result (Outcome × Base) Refusal} (Ok (d.outcome, record (changed_base d.change base) { serial = serial })) (Ok (said, next)) =
            sym (ap (λ (r : Result Decision Refusal). r >>= numbered limits (draws_number command) base) was ∙ ap (λ (r : Result ℕ Refusal). r >>= λ serial. Ok (d.outcome, record (changed_base d.change base) { serial = serial })) left) ∙ is in
            let pair : ◌≡◌ {A = Outcome × Base} (d.outcome, record (changed_base d.change base) { serial = serial }) (said, next) = cc two in
            record {
              decision = d;
              serial = serial;
              decides = was;
              comes = sym (ap (λ p. p.0) pair);
              makes = sym (ap (λ p. p.1) pair);
              rises = drawn_rises limits base.serial (draws_number command) serial left;
            }

module _ (settings : Settings) (edit : Base → Result (Outcome × Base) Refusal) (now : ℕ) (held : State) (said : Outcome) (base : Base) (edited : edit held.base ≡ Ok (said, base)) where
  -- the state after the commit, when it is known what the outbox is then
  abbrev next : Outbox × ℕ → State
  next o = record { base = record base { serial = o.1 }; stamps = (changed held now base).1; outbox = o.0 }

  -- the step, when that is known
  step_is : (told : Result (Outbox × ℕ) Refusal) → outbox_then settings held now base ≡ told → step_of settings edit now held ≡ (told >>= λ o. answered_by said held.stamps (changed held now base) >>= λ a. Ok (a, next o))
  step_is told is =
      ap (λ (r : Result (Outcome × Base) Refusal). r >>= λ e. committed settings held now e.0 e.1) edited
      ∙ ap (λ (r : Result (Outbox × ℕ) Refusal). r >>= λ o. answered_by said held.stamps (changed held now base) >>= λ a. Ok (a, next o)) is

  module _ (numbers : Meta) (counted : numbers ≡ with_base (meta_of held) base) where
    -- what becomes of the outbox is what the machine makes of it
    outbox_so : outbox_told settings held.base base (beside_of held) now numbers ≡ outbox_then settings held now base
    outbox_so = ap (λ (m : Meta). outbox_after settings.limits m.serial (outbox_of m (kept_beside (beside_of held) base)) base.portfolio.subs (entries_told settings.client held.base base held.stamps now)) counted

    -- what can't be told is refused so
    pub telling_refused : (e : Refusal) → IsRefusalOf e (outbox_told settings held.base base (beside_of held) now numbers) → IsRefusalOf e (step_of settings edit now held)
    telling_refused e h = subst (IsRefusalOf e) (sym (step_is (outbox_then settings held now base) refl)) (then_refused e (outbox_then settings held now base) _ (subst (IsRefusalOf e) outbox_so h))

    module _ (then : Meta) (many : ℕ) (s t : sql.State) (it : IsTold settings now held.base base (beside_of held) numbers then many s) where
      then_is : (r : Result Answer Refusal) → answered_by said held.stamps (many, it.end.stamps) ≡ r → step_of settings edit now held ≡ (r >>= λ a. Ok (a, next (it.outbox, it.serial)))
      then_is r told =
          step_is (Ok (it.outbox, it.serial)) (sym outbox_so ∙ it.decided)
          ∙ ap (λ (r : Result Answer Refusal). r >>= λ a. Ok (a, next (it.outbox, it.serial))) ((λ i. answered_by said held.stamps (sym it.changed i, sym it.stamped i)) ∙ told)

      -- what the tables keep then, with these numbers, is what they keep of that state
      kept_so : (before : Meta) → before ≡ meta_of held → with_outbox it.outbox (kept_beside it.end base) ≡ with_meta before (kept_of (next (it.outbox, it.serial)))
      kept_so before was =
          let kept = sym (same_kept base it.serial) in
          let numbers_so : it.end.numbers ≡ before = it.alone ∙ sym was in
          let shown_so : it.end.shown ≡ shown_rows (owner_in base.portfolio) (kept_view (record base { serial = it.serial })) = it.shown.view.shown ∙ ap (shown_rows (owner_in base.portfolio)) kept in
          let rollups_so : it.end.rollups ≡ rollup_rows (kept_view (record base { serial = it.serial })) = it.shown.view.rollups ∙ ap rollup_rows kept in
          λ i. record {
            meta = numbers_so i;
            mirror = base.mirror;
            polled = keys_polled base.scan;
            portfolio = base.portfolio;
            stamps = it.stamped i;
            remotes = it.outbox.remotes;
            entries = it.outbox.entries;
            shown = shown_so i;
            rollups = rollups_so i;
          }

      pub is_committed : (before : Meta) → before ≡ meta_of held → (answer : Answer) → answered_by said held.stamps (many, it.end.stamps) ≡ Ok answer → Keeps (with_outbox it.outbox (kept_beside it.end base)) t
          → IsCommitted (step_of settings edit now) held before then answer t
      is_committed before was answer told keeps = record {
        next = next (it.outbox, it.serial);
        stepped = then_is (Ok answer) told;
        holds = subst (λ (kept : Kept). Keeps kept t) (kept_so before was) keeps;
        reads = subst (λ (rows : List (ViewKey × Content)). All ReadsBack rows) (sym (same_kept base it.serial)) it.shown.view.reads;
        counted = it.counted ∙ ap (λ (m : Meta). let after : Meta = record (counting it.outbox m) { serial = it.serial } in after) counted;
      }

      -- what is not answered is refused so
      pub step_refused : (e : Refusal) → answered_by said held.stamps (many, it.end.stamps) ≡ Err e → IsRefusalOf e (step_of settings edit now held)
      step_refused e told = refused_so e _ (then_is (Err e) told)
