-- The replies to queries.
use Rattle.std.specs.Prelude.{ℕ, List, take, Option, None, Some, Result, Ok, Err}
use Rattle.adr_text.specs.declared.refusal.Refusal.{Refusal}
use Rattle.adr_text.specs.declared.refusal.Refusal.TheVariants.{NoScan}
use Rattle.adr_state.specs.declared.base.Base.{Base}
use Rattle.adr_state.specs.declared.state.State.{State}
use Rattle.adr_state.specs.declared.keys.MirrorKey.{MirrorKey}
use Rattle.adr_state.specs.Scans.{probes}
use Rattle.adr_queries.specs.declared.query.Query.{Query}
use Rattle.adr_queries.specs.declared.query.Query.TheVariants.{Programs, Program, Events, Event, Vens, Ven, Resources, Resource, Shares, Frozen, Reports, Report, Rollup, Subs, Sub, Outbox, Probes}
use Rattle.adr_queries.specs.declared.answer.Answer.{Answer}
use Rattle.adr_queries.specs.declared.answer.Answer.TheVariants as answer
use Rattle.adr_queries.specs.Frozen.{frozen_reply}
use Rattle.adr_queries.specs.Reported.{reports_reply, report_reply, rollup_reply}
use Rattle.adr_queries.specs.Subscribed.{subs_reply, sub_reply, outbox_reply}
use Rattle.adr_queries.specs.Shown.{programs_reply, program_reply, events_reply, event_reply}
use Rattle.adr_queries.specs.Listings.{vens_reply, ven_reply, resources_reply, resource_reply, shares_reply}

-- the first live keys that an open scan missed, at most so many, and 12 where none is open
abbrev pub probes_reply : ℕ → Base → Option (List MirrorKey) → Result Answer Refusal
probes_reply limit base None = Err NoScan
probes_reply limit base (Some polled) = Ok (answer.Probes (take limit (probes base.mirror polled)))

-- the reply to a query
unfoldable pub reply : State → Query → Result Answer Refusal
reply s (Programs role page) = programs_reply s role page
reply s (Program role id) = program_reply s role id
reply s (Events role filter page) = events_reply s role filter page
reply s (Event role id) = event_reply s role id
reply s (Vens role page) = vens_reply s.base role page
reply s (Ven role id) = ven_reply s.base role id
reply s (Resources role ven page) = resources_reply s.base role ven page
reply s (Resource role ven id) = resource_reply s.base role ven id
reply s (Shares role program) = shares_reply s.base role program
reply s (Frozen role event) = frozen_reply s.base role event
reply s (Reports role filter page) = reports_reply s role filter page
reply s (Report role id) = report_reply s role id
reply s (Rollup role event) = rollup_reply s.base role event
reply s (Subs role filter page) = subs_reply s.base role filter page
reply s (Sub role id) = sub_reply s.base role id
reply s (Outbox role) = outbox_reply s.outbox role
reply s (Probes limit) = probes_reply limit s.base s.base.scan
