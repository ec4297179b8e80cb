use Rattle.std.proofs.Common.{ap, ◌∙◌}
use Rattle.adr_event_text.specs.Pieces.{notice_text}
use Rattle.adr_event_text.proofs.PieceLemmas.{spliced_as_told, notice_as_told}
use Rattle.adr_event_text.proofs.laws.kept_events_are_told_as_written.Goals as goal

pub returns-clause-events : goal.returns-clause-events
returns-clause-events c = spliced_as_told

pub returns-clause-notices : goal.returns-clause-notices
returns-clause-notices c operation e = ap (notice_text operation) (spliced_as_told e) ∙ notice_as_told operation e
