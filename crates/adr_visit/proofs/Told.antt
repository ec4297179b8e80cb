-- Subscriptions are read where a visit is, and further entries come.
use Rattle.std.proofs.Common.{inl, inr, ℕ, List, ◌++◌}
use Rattle.sqlite.specs.State.{State}
use Rattle.adr_delivery.specs.declared.entry.Entry.{Entry}
use Rattle.adr_delivery.specs.declared.outbox.Outbox.{Outbox}
use Rattle.adr_state.specs.declared.base.Base.{Base}
use Rattle.adr_state.specs.declared.keys.ViewKey.{ViewKey}
use Rattle.adr_state.specs.declared.limits.Limits.{Limits}
use Rattle.adr_view.specs.declared.view.Content.{Content}
use Rattle.adr_db.specs.declared.meta.Meta.{Meta}
use Rattle.adr_db.specs.Kept.{Kept, Keeps}
use Rattle.adr_db.specs.Bases.{Beside, kept_beside}
use Rattle.adr_outbox.specs.Turned.{with_outbox}
use Rattle.adr_room.specs.declared.room.Room.{Room}
use Rattle.adr_room.specs.Rooms.{AreAppended, AreSoFar}
use Rattle.adr_listeners.specs.declared.listeners.Listeners.{Listeners}
use Rattle.adr_visit.specs.declared.visit.Visit.{Visit}
use Rattle.adr_listeners.specs.Listeners.{AreThose}
use Rattle.adr_visit.specs.Visits.{IsAt}

module _ (limits : Limits) (first : Meta) (owner : ℕ → ℕ) (base : Base) (rows : List (ViewKey × Content)) (beside : Beside) (es : List Entry) (visit : Visit) (after : Listeners) (numbers : Meta) (old mid : State)
    (at : IsAt limits first owner base rows beside es visit numbers old) (finds : (kept : Kept) → Keeps kept old → AreThose kept visit.listeners → AreThose kept after × Keeps kept mid) where
  abbrev kept : Kept
  kept = kept_beside beside base

  carry : (o : Outbox) → Keeps (with_outbox o kept) old → Keeps (with_outbox o kept) mid
  carry o held = (finds (with_outbox o kept) held at.listening).1

  carried : AreAppended limits first numbers kept es old → AreAppended limits first numbers kept es mid
  carried (inl none) = inl (none.0, none.1, (finds kept none.2 at.listening).1)
  carried (inr a) = inr (record { outbox = a.outbox; serial = a.serial; decided = a.decided; keeps = carry a.outbox a.keeps; counted = a.counted })

  -- those that were read are right
  pub known : AreThose kept after
  known = (finds (with_outbox at.come.tables.0 kept) at.come.tables.1 at.listening).0

  pub still : AreSoFar limits first kept es visit.room numbers mid
  still = record { come = at.come.come; written = λ had. carried (at.come.written had); tables = (at.come.tables.0, carry at.come.tables.0 at.come.tables.1) }

  -- behind what came with these entries
  pub told_at : (further : List Entry) (many : ℕ) (room : Room) (then : Meta) (new : State) → AreSoFar limits first kept (es ++ further) room then new → IsAt limits first owner base rows beside (es ++ further) (record visit { room = room; listeners = after; many = many }) then new
  told_at further many room then new come = record {
    come = come;
    keeps = at.keeps;
    owns = at.owns;
    sharing = at.sharing;
    listening = known;
    waits = at.waits;
    drawn = at.drawn;
  }
