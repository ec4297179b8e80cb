-- Each premise of the law is needed: with all the others, and without it, a scan need not catch up.
use Rattle.std.specs.Prelude.{◌≡◌, ◌≢◌, ◌⊎◌, false, [], ◌∷◌, ◌++◌}
use Rattle.std.specs.List.{All, Contains}
use Rattle.adr_state.specs.declared.limits.Settings.{Settings}
use Rattle.adr_state.specs.States.{empty}
use Rattle.adr_laws.specs.Laws.{evidence_in, accepted_evidence}
use Rattle.adr_machine.specs.declared.command.Command.TheVariants.{Evidence, ScanEnd}
use Rattle.adr_catch_up.specs.Examples.{deletion, keeping, late_summer, notice, page, scan_of, summer, told_before, version, winter}
use Rattle.adr_catch_up.specs.Upstream.{IsHonest, IsBeginningOf, IsPresent, latest, live_part}
use Rattle.adr_catch_up.specs.QuietScans.{Scanned, AnswersProbe, AreHonest, IsLiveIn, IsProbed, IsQuiet, all_given, commands, is_scan_end, known_at_end, page_in, shown_by_pages, missed, opening, reached, refused, with_begin, with_end}

-- the premises, one by one
pub data Premise : Type 0 where
  UpstreamIsHonest : Premise
  UpstreamOnlyWroteMore : Premise
  EvidenceIsHonest : Premise
  UpstreamIsStill : Premise
  EndsOnce : Premise
  PagesShowPresentVersions : Premise
  EachIsShownOrLive : Premise
  EachMissedIsProbed : Premise
  NoOtherIsAccepted : Premise
  NoPageIsRefused : Premise
  NoAnswerIsRefused : Premise

-- what each says of a run
abbrev pub Says : Settings → Scanned → Premise → Type 0
Says settings run UpstreamIsHonest = IsHonest run.written
Says settings run UpstreamOnlyWroteMore = All (λ g. IsBeginningOf g.written run.written) run.before
Says settings run EvidenceIsHonest = AreHonest settings empty (all_given run)
Says settings run UpstreamIsStill = All (λ g. g.written ≡ run.written) (opening run ∷ run.polling ++ run.probing)
Says settings run EndsOnce = All (λ g. is_scan_end g.command.1 ≡ false) run.polling
Says settings run PagesShowPresentVersions = All (λ g. All (IsPresent g.written) (page_in g.command.1)) run.polling
Says settings run EachIsShownOrLive = All (λ r. Contains (shown_by_pages run.polling) r ⊎ IsLiveIn (known_at_end settings run) r.0) (live_part (latest run.written))
Says settings run EachMissedIsProbed = All (IsProbed run) (missed settings run)
Says settings run NoOtherIsAccepted = All (AnswersProbe settings run) (accepted_evidence settings (reached settings (with_end run)) (commands run.probing))
Says settings run NoPageIsRefused = All (λ c. page_in c.1 ≡ []) (refused settings (reached settings (with_begin run)) (commands run.polling))
Says settings run NoAnswerIsRefused = All (λ c. All (λ e. AnswersProbe settings run e → ⊥) (evidence_in c.1)) (refused settings (reached settings (with_end run)) (commands run.probing))

-- those of a quiet scan are these, no more and no less
pub record AreThePremises : Type 0 where
  pub each_is_one : (settings : Settings) (run : Scanned) → IsQuiet settings run → (p : Premise) → Says settings run p
  pub they_are_all : (settings : Settings) (run : Scanned) → ((p : Premise) → Says settings run p) → IsQuiet settings run

-- ---- runs of which all of them hold but one, over a node that keeps one upstream key at most

abbrev pub run_without : Premise → Scanned
-- the version that was written last has an earlier moment
run_without UpstreamIsHonest = scan_of (told_before (version late_summer ∷ []) late_summer) (version late_summer ∷ version summer ∷ []) (page (summer ∷ []) ∷ []) []
-- the upstream forgot what it wrote
run_without UpstreamOnlyWroteMore = scan_of (told_before (version late_summer ∷ []) late_summer) (version summer ∷ []) (page (summer ∷ []) ∷ []) []
-- a version was told that was never written
run_without EvidenceIsHonest = scan_of (told_before (version summer ∷ []) late_summer) (version summer ∷ []) (page (summer ∷ []) ∷ []) []
-- a page shows a version, and then the upstream writes a later one
run_without UpstreamIsStill = record (scan_of [] (version summer ∷ []) (page (summer ∷ []) ∷ []) []) { written = version summer ∷ version late_summer ∷ [] }
-- an earlier `ScanEnd` is answered what is to be probed, and the last one nothing
run_without EndsOnce = scan_of (told_before (version summer ∷ []) summer) (version summer ∷ deletion summer ∷ []) (ScanEnd ∷ []) []
-- a page shows a past version
run_without PagesShowPresentVersions = scan_of [] (version summer ∷ version late_summer ∷ []) (page (summer ∷ []) ∷ []) []
-- no page shows an object that isn't known
run_without EachIsShownOrLive = scan_of [] (version summer ∷ []) [] []
-- a key is not probed
run_without EachMissedIsProbed = scan_of (told_before (version summer ∷ []) summer) (version summer ∷ deletion summer ∷ []) [] []
-- a notification of an object that was deleted comes late
run_without NoOtherIsAccepted = scan_of [] (version summer ∷ deletion summer ∷ []) [] (notice summer ∷ [])
-- a page shows more keys than are kept
run_without NoPageIsRefused = scan_of [] (version summer ∷ version winter ∷ []) (page (summer ∷ winter ∷ []) ∷ []) []
-- the answer of a probe comes with a key that there is no room for
run_without NoAnswerIsRefused = scan_of (told_before (version summer ∷ []) summer) (version summer ∷ version late_summer ∷ version winter ∷ deletion winter ∷ []) [] (Evidence (late_summer ∷ winter ∷ []) false ∷ [])

-- a premise is needed: of that run all others hold, and after it the live part of the mirror is not what the upstream has
pub record IsNeeded (p : Premise) : Type 0 where
  pub others_hold : (other : Premise) → other ≢ p → Says (keeping 1) (run_without p) other
  pub falls_behind : live_part (reached (keeping 1) (all_given (run_without p))).base.mirror ≢ live_part (latest (run_without p).written)
