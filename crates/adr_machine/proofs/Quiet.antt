-- Commands that change nothing of what is shown: no entry is made of them.
use Rattle.std.proofs.Common.{◌≡◌, ℕ, ◌+◌, ◌==◌, nat_lt, length, List, Option, Ok, refl, ap, ◌∙◌}
use Rattle.adr_text.specs.declared.refusal.Refusal.{Refusal}
use Rattle.adr_text.specs.declared.refusal.Refusal.TheVariants.{Exhausted, OutboxFull}
use Rattle.adr_subscription.specs.declared.kept_sub.Sub.{Sub}
use Rattle.adr_delivery.specs.Outboxes.{kept_for, check_room}
use Rattle.adr_state.specs.declared.base.Base.{Base}
use Rattle.adr_state.specs.declared.state.State.{State}
use Rattle.adr_state.specs.declared.limits.Settings.{Settings}
use Rattle.adr_state.specs.declared.keys.MirrorKey.{MirrorKey}
use Rattle.adr_state.specs.BaseChanges.{BaseChange, SetScan, ChangePortfolio, changed}
use Rattle.adr_state.specs.Portfolios.{PutSub, DropSub}
use Rattle.adr_view.specs.Views.{view}
use Rattle.adr_view.specs.Changes.{changes}
use Rattle.adr_view.proofs.Quiet.{nothing_changes}
use Rattle.adr_notices.specs.Committed.{with_further}
use Rattle.adr_queries.proofs.Refuses.{Refuses, never, either, tested, first_then}
use Rattle.adr_machine.specs.Steps.{entries_then, outbox_then}

-- a change of the base that leaves all that is shown
abbrev pub IsQuiet : BaseChange → Type 0
IsQuiet change = (base : Base) (serial : ℕ) → view (record (changed change base) { serial = serial }) ≡ view base

pub scan_is_quiet : (scan : Option (List MirrorKey)) → IsQuiet (SetScan scan)
unfolding view
scan_is_quiet scan base serial = refl

pub put_is_quiet : (n : ℕ) (sub : Sub) → IsQuiet (ChangePortfolio (PutSub n sub))
unfolding view
put_is_quiet n sub base serial = refl

pub drop_is_quiet : (n : ℕ) → IsQuiet (ChangePortfolio (DropSub n))
unfolding view
drop_is_quiet n base serial = refl

-- a number that is drawn leaves it too
pub unseen_serial : (base : Base) (serial : ℕ) → view (record base { serial = serial }) ≡ view base
unfolding view
unseen_serial base serial = refl

module _ (P : Refusal → Type 0) (settings : Settings) (s : State) (now : ℕ) (after : Base) where
  -- where something is made, it may want numbers or room
  pub room_so : P Exhausted → P OutboxFull → Refuses P (outbox_then settings s now after)
  room_so exhausted full =
      let entries = entries_then settings s now after in
      let kept = kept_for after.portfolio.subs s.outbox in
      let further = length entries in
      let waiting = length kept.entries in
      first_then P (check_room settings.limits.serial settings.limits.pending after.serial waiting further) _
      (either P (further == 0) (Ok tt) _ (never P tt)
      (tested P (nat_lt settings.limits.serial (after.serial + further)) Exhausted _ exhausted (tested P (nat_lt settings.limits.pending (waiting + further)) OutboxFull (Ok tt) full (never P tt))))
      (λ u. never P (with_further after.serial entries kept))

  -- where nothing is, there is room
  pub quiet_so : view after ≡ view s.base → Refuses P (outbox_then settings s now after)
  quiet_so same = rw (ap (changes (view s.base)) same ∙ nothing_changes (view s.base)) (never P _)
