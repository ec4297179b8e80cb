-- On what it hangs whether a mark says an event that is touched, and a report goes.
use Rattle.std.proofs.Common.{◌≡◌, ℕ, Bool, true, false, ◌&&◌, cond, List, Option, None, Some, refl}
use Rattle.adr_state.specs.declared.base.Mark.{Mark}
use Rattle.adr_state.specs.declared.keys.MirrorKey.{MirrorKey}
use Rattle.adr_state.specs.declared.portfolio.Report.{Report}
use Rattle.adr_state.specs.Portfolios.{reported_on}
use Rattle.adr_refresh.specs.Touched.{is_event, program_of, live_in, report_by}
use Rattle.adr_refresh.proofs.Common.{option_map_or}
use Rattle.adr_touched.proofs.Gathered.{HangsOn}

-- a live event on its program
pub by_program : (passes : List ℕ → Bool) (e : MirrorKey × Mark) (id : List ℕ) → live_in passes e ≡ Some id → HangsOn live_in passes e id
by_program passes e id made = by (is_event e.0.kind) (program_of e.1) refl refl made
  where
    passed : (b : Bool) → cond b (Some e.0.id) None ≡ Some id → b ≡ true
    passed true h = refl
    passed false h = absurd cc

    same : (b : Bool) → cond b (Some e.0.id) None ≡ Some id → Some e.0.id ≡ Some id
    same true h = h
    same false h = absurd cc

    by : (b : Bool) (o : Option (List ℕ)) → is_event e.0.kind ≡ b → program_of e.1 ≡ o → cond (b && option_map_or passes o false) (Some e.0.id) None ≡ Some id → HangsOn live_in passes e id
    by true (Some program) is said h = record { said = program; passed = passed (passes program) h; made = λ q it. rw (is, said, it) (same (passes program) h) }
    by true None is said h = absurd cc
    by false o is said h = absurd cc

-- a report on its resource
pub by_resource : (goes : ℕ → Bool) (r : ℕ × Report) (n : ℕ) → report_by goes r ≡ Some n → HangsOn report_by goes r n
by_resource goes r n made = by (goes (reported_on r)) refl made
  where
    by : (b : Bool) → goes (reported_on r) ≡ b → cond b (Some r.0) None ≡ Some n → HangsOn report_by goes r n
    by true is h = record { said = reported_on r; passed = is; made = λ q it. rw it h }
    by false is h = absurd cc
