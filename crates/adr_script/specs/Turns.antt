-- One line's turn: what it prints, and the state that it leaves.
use Rattle.std.specs.Prelude.{ℕ, List, [], codes, Option, Some, None, bytes_eq, Result, Ok, Err, if◌then◌else◌}
use Rattle.adr_text.specs.declared.refusal.Refusal.{Refusal}
use Rattle.adr_state.specs.declared.state.State.{State}
use Rattle.adr_state.specs.declared.limits.Settings.{Settings}
use Rattle.adr_wire.specs.Cuts.{cut}
use Rattle.adr_reply.specs.Problems.{as_problem}
use Rattle.adr_reply.specs.declared.problem.Problem.{Problem}
use Rattle.adr_asked.specs.declared.asked.Asked.{Asked}
use Rattle.adr_asked.specs.Turns.{asked_step, asks_desk, Turn, at_once, turn_by, Takes}
use Rattle.adr_script.specs.Words.{moment_from}
use Rattle.adr_script.specs.Requests.{request_of}
use Rattle.adr_script.specs.Steps.{step_of}
use Rattle.adr_script.specs.Bodies.{bad_line, told_by, want_by, outcome_text}

-- what the words of a role, or of the node itself, ask
unfoldable pub words_asked : List ℕ → List ℕ → Result (Option Asked) Problem
words_asked role rest = if bytes_eq role (codes "node") then as_problem (step_of rest) else request_of role rest

-- the turn of a role, or of the node itself, as those words were read
abbrev pub turn_of : Settings → State → ℕ → List ℕ → Result (Option Asked) Problem → Turn
turn_of settings s now role (Ok None) = at_once bad_line s
turn_of settings s now role (Ok (Some a)) = turn_by (outcome_text settings.client role a) s (asked_step settings s now a) (asks_desk a)
turn_of settings s now role (Err problem) = at_once (told_by role problem) s

-- ---- lines

abbrev pub turn_at : Settings → State → Option ℕ → List ℕ × Option (List ℕ) → Turn
turn_at settings s None role = at_once bad_line s
turn_at settings s (Some now) (role, None) = at_once bad_line s
turn_at settings s (Some now) (role, Some rest) = turn_of settings s now role (words_asked role rest)

abbrev pub turn_behind : Settings → State → List ℕ × Option (List ℕ) → Turn
turn_behind settings s (moment, None) = at_once bad_line s
turn_behind settings s (moment, Some rest) = turn_at settings s (moment_from moment) (cut 32 rest)

-- what a line that isn't empty prints, the state that it leaves, and whether it asks the desk
unfoldable pub line_turn : Settings → State → List ℕ → Turn
line_turn settings s line = turn_behind settings s (cut 32 line)

-- ---- want of memory

-- the word behind the moment
abbrev pub role_behind : List ℕ × Option (List ℕ) → List ℕ
role_behind (moment, None) = []
role_behind (moment, Some rest) = (cut 32 rest).0

-- what a line prints where its step was refused
unfoldable pub want_line : List ℕ → Refusal → List ℕ
want_line line refusal = want_by (role_behind (cut 32 line)) refusal

-- ---- a turn as it is taken

-- from s, what a line that isn't empty may print, and the state that it may leave
abbrev pub IsTurn : Type 0 → Settings → State → List ℕ → List ℕ → State → Type 0
IsTurn may_refuse settings s line out t = Takes may_refuse (want_line line) s (line_turn settings s line) out t
