-- Quiet scans of an honest upstream.
use Rattle.std.specs.Prelude.{◌≡◌, ◌⊎◌, ℕ, Bool, true, false, List, [], ◌∷◌, ◌++◌, map, Some, Result, Ok, Err}
use Rattle.std.specs.List.{All, Contains, flat_map}
use Rattle.adr_text.specs.declared.refusal.Refusal.{Refusal}
use Rattle.adr_state.specs.declared.base.Mark.{Mark}
use Rattle.adr_state.specs.declared.keys.MirrorKey.{MirrorKey}
use Rattle.adr_state.specs.declared.limits.Settings.{Settings}
use Rattle.adr_state.specs.declared.state.State.{State}
use Rattle.adr_state.specs.Keys.{mirror_cmp, at}
use Rattle.adr_state.specs.Mirror.{evidence_of}
use Rattle.adr_state.specs.Scans.{is_live}
use Rattle.adr_state.specs.States.{empty}
use Rattle.adr_queries.specs.declared.answer.Answer.{Answer}
use Rattle.adr_queries.specs.declared.answer.Answer.TheVariants.{Probes}
use Rattle.adr_machine.specs.declared.command.Command.{Command}
use Rattle.adr_machine.specs.declared.command.Command.TheVariants.{Evidence, ScanBegin, ScanEnd}
use Rattle.adr_machine.specs.Runs.{state_after, step_at, told}
use Rattle.adr_laws.specs.Laws.{evidence_in, accepted_in, accepted_evidence}
use Rattle.adr_laws.specs.Standing.{state_of}
use Rattle.adr_catch_up.specs.Upstream.{IsHonest, IsBeginningOf, IsLatest, IsPresent, latest, live_part}

-- ---- runs beside an upstream

-- a command, at its moment, and what the upstream had written by then
pub record Given : Type 0 where
  pub written : List (MirrorKey × Mark)
  pub command : ℕ × Command

-- the commands alone
abbrev pub commands : List Given → List (ℕ × Command)
commands gs = map (λ g. g.command) gs

-- the state that they lead to from an empty start
abbrev pub reached : Settings → List Given → State
reached settings gs = state_of (step_at settings) empty (commands gs)

-- all evidence that is accepted is honest: each version is one that the upstream had written by then, be it present or past, and each deletion is of a key that it had deleted
abbrev pub AreHonest : Settings → State → List Given → Type 0
AreHonest settings s [] = Unit {0}
AreHonest settings s (g ∷ gs) = All (Contains g.written) (accepted_in (step_at settings s g.command) g.command.1) × AreHonest settings (state_after s (step_at settings s g.command)) gs

-- what commands tell, be they accepted or refused
abbrev pub told_by : List Given → List (MirrorKey × Mark)
told_by gs = flat_map (λ g. evidence_in g.command.1) gs

-- what a command shows, where it is a page that was polled; an object that stood in the page and was skipped is not shown
abbrev pub page_in : Command → List (MirrorKey × Mark)
page_in (Evidence founds true) = evidence_of founds
page_in _ = []

-- what pages show
abbrev pub shown_by_pages : List Given → List (MirrorKey × Mark)
shown_by_pages gs = flat_map (λ g. page_in g.command.1) gs

-- the commands that are refused
abbrev pub refused_in : Result (Answer × State) Refusal → ℕ × Command → List (ℕ × Command)
refused_in (Ok taken) c = []
refused_in (Err refusal) c = c ∷ []

abbrev pub refused : Settings → State → List (ℕ × Command) → List (ℕ × Command)
refused settings s [] = []
refused settings s (c ∷ cs) = refused_in (step_at settings s c) c ++ refused settings (state_after s (step_at settings s c)) cs

abbrev pub is_scan_end : Command → Bool
is_scan_end ScanEnd = true
is_scan_end _ = false

-- ---- scans

-- a run with a scan: what was given before it; what the upstream had written at the `ScanBegin`, and the moment of that; what is given then; what the upstream has written at the `ScanEnd`, and the moment of that; and what is given after it, up to the last probe's answer
pub record Scanned : Type 0 where
  pub before : List Given
  pub begun_with : List (MirrorKey × Mark)
  pub begins : ℕ
  pub polling : List Given
  pub written : List (MirrorKey × Mark)
  pub ends : ℕ
  pub probing : List Given

abbrev pub opening : Scanned → Given
opening run = record { written = run.begun_with; command = (run.begins, ScanBegin) }

abbrev pub closing : Scanned → Given
closing run = record { written = run.written; command = (run.ends, ScanEnd) }

-- all that is given with the `ScanBegin`, up to the `ScanEnd`, and with that
abbrev pub with_begin : Scanned → List Given
with_begin run = run.before ++ opening run ∷ []

abbrev pub up_to_end : Scanned → List Given
up_to_end run = with_begin run ++ run.polling

abbrev pub with_end : Scanned → List Given
with_end run = up_to_end run ++ closing run ∷ []

-- all that is given
abbrev pub all_given : Scanned → List Given
all_given run = with_end run ++ run.probing

-- what is known when the `ScanEnd` is taken
abbrev pub known_at_end : Settings → Scanned → List (MirrorKey × Mark)
known_at_end settings run = (reached settings (up_to_end run)).base.mirror

-- the keys of an answer, and those that the `ScanEnd` answers; the law `scan_ends_are_answered` says that none is cut off
abbrev pub keys_in : Result Answer Refusal → List MirrorKey
keys_in (Ok (Probes keys)) = keys
keys_in _ = []

abbrev pub missed : Settings → Scanned → List MirrorKey
missed settings run = keys_in (told (step_at settings (reached settings (up_to_end run)) (closing run).command))

-- ---- what a quiet scan asks for

-- a key is live in a mirror
abbrev pub IsLiveIn : List (MirrorKey × Mark) → MirrorKey → Type 0
IsLiveIn mirror key = (mark : Mark) × (at mirror_cmp key mirror ≡ Some mark) × (is_live mark ≡ true)

-- evidence that answers a probe: of a key that the `ScanEnd` answers, its present version, or that it is deleted where it is
abbrev pub AnswersProbe : Settings → Scanned → MirrorKey × Mark → Type 0
AnswersProbe settings run e = Contains (missed settings run) e.0 × IsLatest run.written e

-- a key is probed: what answers that is told after the `ScanEnd`
abbrev pub IsProbed : Scanned → MirrorKey → Type 0
IsProbed run key = (mark : Mark) × IsLatest run.written (key, mark) × Contains (told_by run.probing) (key, mark)

-- the premises: an honest upstream, honest evidence, and a quiet scan
pub record IsQuiet (settings : Settings) (run : Scanned) : Type 0 where
  -- the upstream is honest, and only wrote more up to the scan
  pub upstream_is_honest : IsHonest run.written
  pub upstream_only_wrote_more : All (λ g. IsBeginningOf g.written run.written) run.before
  -- all evidence that was ever accepted is honest
  pub evidence_is_honest : AreHonest settings empty (all_given run)
  -- the upstream doesn't change in the scan
  pub upstream_is_still : All (λ g. g.written ≡ run.written) (opening run ∷ run.polling ++ run.probing)
  -- the `ScanEnd` is the first after the `ScanBegin`
  pub ends_once : All (λ g. is_scan_end g.command.1 ≡ false) run.polling
  -- a page shows versions alone that are present then
  pub pages_show_present_versions : All (λ g. All (IsPresent g.written) (page_in g.command.1)) run.polling
  -- each present object is shown by a page, or is live when the `ScanEnd` is taken
  pub each_is_shown_or_live : All (λ r. Contains (shown_by_pages run.polling) r ⊎ IsLiveIn (known_at_end settings run) r.0) (live_part (latest run.written))
  -- each key that the `ScanEnd` answers is probed, and answered with its present version, or as gone where it is deleted
  pub each_missed_is_probed : All (IsProbed run) (missed settings run)
  -- after the `ScanEnd` no other evidence is accepted
  pub no_other_is_accepted : All (AnswersProbe settings run) (accepted_evidence settings (reached settings (with_end run)) (commands run.probing))
  -- no page is refused, and no answer of a probe
  pub no_page_is_refused : All (λ c. page_in c.1 ≡ []) (refused settings (reached settings (with_begin run)) (commands run.polling))
  pub no_answer_is_refused : All (λ c. All (λ e. AnswersProbe settings run e → ⊥) (evidence_in c.1)) (refused settings (reached settings (with_end run)) (commands run.probing))
