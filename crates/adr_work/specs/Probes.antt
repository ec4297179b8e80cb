-- What the replies to requests for single objects tell.
use Rattle.std.specs.Prelude.{List, [], ◌∷◌, map, Option, None, Some, false}
use Rattle.std.specs.List.{filter_map}
use Rattle.adr_objects.specs.declared.body.Found.{Found}
use Rattle.adr_state.specs.declared.keys.MirrorKey.{MirrorKey}
use Rattle.adr_queries.specs.declared.answer.Answer.{Answer}
use Rattle.adr_queries.specs.declared.answer.Answer.TheVariants as answer
use Rattle.adr_link.specs.declared.found.Asked.TheVariants as asked
use Rattle.adr_link.specs.declared.found.Finding.{Finding}
use Rattle.adr_link.specs.declared.found.Finding.TheVariants as finding
use Rattle.adr_link.specs.Findings.{found_of}
use Rattle.adr_link.specs.Requests.{request_bytes}
use Rattle.adr_link.specs.Targets.{probe_request}
use Rattle.adr_link.specs.Upstreams.{UpstreamParts}
use Rattle.adr_machine.specs.declared.command.Command.{Command}
use Rattle.adr_machine.specs.declared.command.Command.TheVariants.{Evidence, Gone}
use Rattle.adr_work.specs.Exchanges.{Came, Exchange, to_utility}

-- the evidence of one version
abbrev pub version_command : Found → Command
version_command found = Evidence (found ∷ []) false

-- the command that what was found of a key stands for, where it stands for one
abbrev pub probe_command : MirrorKey → Finding → Option Command
probe_command key (finding.Version found) = Some (version_command found)
probe_command key finding.Gone = Some (Gone key.kind key.id)
probe_command key _ = None

-- the same, by what came of the request
abbrev pub probe_told : MirrorKey → Came → Option Command
probe_told key came = probe_command key (found_of (asked.Probe key.kind key.id) came)

-- a key, and what came of the request for its object
abbrev pub Probe : Type 0
Probe = MirrorKey × Came

-- the request for the object of a key, and what came of it
abbrev pub probe_asked : UpstreamParts → Probe → Exchange
probe_asked u probe = (to_utility (request_bytes (probe_request u probe.0.kind probe.0.id)), probe.1)

-- the requests of probes, in their order, each with what came of it
abbrev pub probes_asked : UpstreamParts → List Probe → List Exchange
probes_asked u probes = map (probe_asked u) probes

-- the commands that probes stand for
abbrev pub probes_told : List Probe → List Command
probes_told probes = filter_map (λ p. probe_told p.0 p.1) probes

-- the keys that were probed
abbrev pub keys_of : List Probe → List MirrorKey
keys_of probes = map (λ p. p.0) probes

-- the keys that an answer lists
abbrev pub keys_in : Answer → List MirrorKey
keys_in (answer.Probes keys) = keys
keys_in _ = []
