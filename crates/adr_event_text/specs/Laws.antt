-- What is told of the text that is kept of a shown event is told of the event.
use Rattle.std.specs.Prelude.{◌≡◌}
use Rattle.adr_objects.specs.declared.shown.EventObject.{EventObject}
use Rattle.adr_subscription.specs.declared.words.OperationKind.{OperationKind}
use Rattle.adr_written.specs.Objects.{event_text}
use Rattle.adr_written.specs.WrittenNotices.{event_notice_text}
use Rattle.adr_event_text.specs.Kept.{kept_as, kept_event_text, kept_notice_text}

-- the text of each shown event, with its id and its stamps, is that of the event as it is written
abbrev pub KeptEventsAsWritten : Type 0
KeptEventsAsWritten = (e : EventObject) → kept_event_text (kept_as e.resource e.event e.shown e.stamps) ≡ event_text e

-- and so is the text of what was done to it
abbrev pub KeptNoticesAsWritten : Type 0
KeptNoticesAsWritten = (operation : OperationKind) (e : EventObject) → kept_notice_text operation (kept_as e.resource e.event e.shown e.stamps) ≡ event_notice_text operation e
