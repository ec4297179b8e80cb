-- A shown event by the text that is kept of it, and what is told of that.
use Rattle.std.specs.Prelude.{ℕ, List}
use Rattle.adr_objects.specs.declared.shown.ShownEvent.{ShownEvent}
use Rattle.adr_objects.specs.declared.shown.Stamps.{Stamps}
use Rattle.adr_subscription.specs.declared.words.OperationKind.{OperationKind}
use Rattle.adr_shown.specs.ShownTexts.{shown_text}
use Rattle.adr_event_text.specs.declared.kept_event.KeptEvent.{KeptEvent}
use Rattle.adr_event_text.specs.Pieces.{told_text, notice_text}

-- what a resource is shown of an upstream event, with its stamps, as it is kept
abbrev pub kept_as : ℕ → List ℕ → ShownEvent → Stamps → KeptEvent
kept_as resource event shown stamps = record {
  resource = resource;
  event = event;
  program = shown.program;
  ven_name = shown.ven_name;
  resource_name = shown.resource_name;
  stamps = stamps;
  body = shown_text shown;
}

-- the text of the event
abbrev pub kept_event_text : KeptEvent → List ℕ
kept_event_text k = told_text k.resource k.event k.stamps k.body

-- the text of what was done to it
abbrev pub kept_notice_text : OperationKind → KeptEvent → List ℕ
kept_notice_text operation k = notice_text operation (kept_event_text k)
