-- That the answers have all that an edit touches.
use Rattle.std.specs.Prelude.{ℕ, List, [], map, ◌++◌, Option}
use Rattle.adr_state.specs.declared.base.Base.{Base}
use Rattle.adr_state.specs.declared.base.Mark.{Mark}
use Rattle.adr_state.specs.declared.keys.MirrorKey.{MirrorKey}
use Rattle.adr_state.specs.BaseChanges.{JoinMarks}
use Rattle.adr_state.specs.Mirror.{joined}
use Rattle.adr_state.specs.Portfolios.{PortfolioChange, DropVen, is_of_ven}
use Rattle.adr_db.specs.Bases.{Beside, kept_beside}
use Rattle.adr_refresh.specs.Sources.{Source, Upstream, Reported, RolledUp}
use Rattle.adr_refresh.specs.Touched.{one_shares, has_resource, events_frozen_in, reports_by, events_touched, reports_touched, touched_by, touched}
use Rattle.adr_mirror.specs.Raises.{HaveRisen}
use Rattle.adr_touched.specs.Answers.{HasEach, HasEvents, live_events}

-- the sources of upstream keys and of reports: each key, each report, and the roll-up at the id of each key
abbrev pub sources_of : List MirrorKey → List ℕ → List Source
sources_of keys numbers = map Upstream keys ++ map Reported numbers ++ map (λ (k : MirrorKey). RolledUp k.id) keys

-- where keys have each event that an edit touches, and numbers each report, their sources have all that it touches
abbrev pub AnswersSuffice : Type 0
AnswersSuffice = (c : PortfolioChange) (base : Base) (keys : List MirrorKey) (numbers : List ℕ) → HasEvents keys (events_touched c base) → HasEach numbers (reports_touched c base) → HasEach (sources_of keys numbers) (touched_by c base)

-- so have those of the keys and the numbers that are answered for a ven, where tables hold a base, all that is touched
-- where it goes
abbrev pub VenIsCovered : Type 0
VenIsCovered = (ven : ℕ) (beside : Beside) (base : Base) (keys : List MirrorKey) (numbers : List ℕ) → HasEvents keys (live_events (one_shares base.portfolio ven) (kept_beside beside base) ++ events_frozen_in (has_resource base.portfolio ven) base.portfolio)
    → HasEach numbers (reports_by (is_of_ven ven base.portfolio.resources) base.portfolio) → HasEach (sources_of keys numbers) (touched_by (DropVen ven) base)

-- the keys that are answered where evidence joins the mirror have all that it touches
abbrev pub EvidenceIsCovered : Type 0
EvidenceIsCovered = (base : Base) (marks : List (MirrorKey × Mark)) (scan : Option (List MirrorKey)) (keys : List MirrorKey) → HaveRisen base.mirror (joined base.mirror marks) keys → HasEach (sources_of keys []) (touched (JoinMarks marks scan) base)
