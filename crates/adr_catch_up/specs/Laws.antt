-- The law of catch-up, that its premises can be met, and that it needs each of them.
use Rattle.std.specs.Prelude.{◌≡◌, ◌⊎◌, false, [], ◌∷◌, Ok}
use Rattle.std.specs.List.{All, Contains}
use Rattle.std.specs.Map.{keys_of}
use Rattle.adr_state.specs.declared.keys.MirrorKey.{MirrorKey}
use Rattle.adr_state.specs.declared.limits.Settings.{Settings}
use Rattle.adr_queries.specs.declared.answer.Answer.TheVariants.{Probes}
use Rattle.adr_machine.specs.Runs.{step_at, told}
use Rattle.adr_catch_up.specs.Examples.{keeping, quiet_scan, summer, version}
use Rattle.adr_catch_up.specs.Needed.{Premise, IsNeeded}
use Rattle.adr_catch_up.specs.QuietScans.{Scanned, IsLiveIn, IsQuiet, all_given, closing, is_scan_end, known_at_end, missed, reached, shown_by_pages, up_to_end}
use Rattle.adr_catch_up.specs.Upstream.{latest, live_part}

-- after a run with a quiet scan the live part of the mirror is exactly what the upstream has: its present objects, each with its present version
abbrev pub CatchUp : Type 0
CatchUp = (settings : Settings) (run : Scanned) → IsQuiet settings run → live_part (reached settings (all_given run)).base.mirror ≡ live_part (latest run.written)

-- the `ScanEnd` is answered by the keys that it missed: each live key was shown by a page in the scan, or is one of them, so none is cut off
pub record EndsWithAll (settings : Settings) (run : Scanned) : Type 0 where
  pub answered : told (step_at settings (reached settings (up_to_end run)) (closing run).command) ≡ Ok (Probes (missed settings run))
  pub all_of_them : (key : MirrorKey) → IsLiveIn (known_at_end settings run) key → Contains (keys_of (shown_by_pages run.polling)) key ⊎ Contains (missed settings run) key

-- so it is where no other came since the `ScanBegin`
abbrev pub ScanEndsAreAnswered : Type 0
ScanEndsAreAnswered = (settings : Settings) (run : Scanned) → All (λ g. is_scan_end g.command.1 ≡ false) run.polling → EndsWithAll settings run

-- there is a quiet scan: of two programs of which one was known and is deleted, and the other comes with a page
abbrev pub PremisesCanBeMet : Type 0
PremisesCanBeMet = IsQuiet (keeping 10) quiet_scan

-- and after it the mirror has that other, as the upstream
abbrev pub AndItCatchesUp : Type 0
AndItCatchesUp = live_part (reached (keeping 10) (all_given quiet_scan)).base.mirror ≡ version summer ∷ []

-- each premise is needed
abbrev pub EachPremiseIsNeeded : Type 0
EachPremiseIsNeeded = (p : Premise) → IsNeeded p
