-- Evidence that was carried out, with what it touched.
use Rattle.std.proofs.Common.{◌≡◌, Bool, true, false, cond, List, Option, Result, Ok, Err, sym, ap, subst}
use Rattle.std.specs.Prelude.{IsErrAnd}
use Rattle.sqlite.specs.Store.{Ghosts}
use Rattle.sqlite.specs.Held.{Held, state}
use Rattle.sqlite.specs.State.{HasCleanDisk}
use Rattle.adr_text.specs.Refusals.{◌>>=◌}
use Rattle.adr_text.specs.declared.refusal.Refusal.{Refusal}
use Rattle.adr_text.specs.declared.refusal.Refusal.TheVariants.{LimitReached}
use Rattle.adr_state.specs.declared.base.Base.{Base}
use Rattle.adr_state.specs.declared.base.Mark.{Mark}
use Rattle.adr_state.specs.declared.keys.MirrorKey.{MirrorKey}
use Rattle.adr_state.specs.declared.limits.Limits.{Limits}
use Rattle.adr_state.specs.BaseChanges.{BaseChange, JoinMarks, changed}
use Rattle.adr_state.specs.Evidence.{adds_beyond, joining}
use Rattle.adr_state.specs.Mirror.{joined}
use Rattle.adr_db.specs.declared.meta.Meta.{Meta}
use Rattle.adr_db.specs.BaseCalls.{Makes, RefusesOn}
use Rattle.adr_db.proofs.Results.{then_refused}
use Rattle.adr_kept_view.specs.declared.object.OldObject.{OldObject}
use Rattle.adr_mirror.specs.Raises.{HaveRisen}
use Rattle.adr_touched.specs.declared.touched.Touched.{Touched}
use Rattle.adr_touched.specs.Touched.{Covers, CoversEvidence, ProgramsStood}
use Rattle.adr_machine.specs.declared.outcome.Outcome.{Outcome}
use Rattle.adr_machine.specs.declared.outcome.Outcome.TheVariants as outcome
use Rattle.adr_machine.specs.Edits.{Decision, counted}
use Rattle.adr_desk.specs.Decisions.{CarriesOut}
use Rattle.adr_desk.proofs.DecisionLemmas.{Asks, passed_carries}

module _ {S : Type 0} (g : Ghosts S) (old asked new : Held S) (limits : Limits) (marks : List (MirrorKey × Mark)) (scan : Base → Option (List MirrorKey)) (programs : List OldObject) (asks : Asks g old asked (λ base. ProgramsStood marks base programs))
    (early : HasCleanDisk (state g new) → HasCleanDisk (state g asked)) (before after : Meta) where
  abbrev part : Base → Result BaseChange Refusal
  part base = joining limits base marks (scan base)

  abbrev whole : Base → Result Decision Refusal
  whole base = part base >>= λ change. Ok (counted change)

  joins : (base : Base) (change : BaseChange) → part base ≡ Ok change → JoinMarks marks (scan base) ≡ change
  joins base change = by (adds_beyond limits.keys base.mirror (joined base.mirror marks))
    where
      by : (beyond : Bool) → cond beyond (Err LimitReached) (Ok (JoinMarks marks (scan base))) ≡ Ok change → JoinMarks marks (scan base) ≡ change
      by true is = absurd (cc is)
      by false is = cc is

  -- the programs stood there before, and these keys rose
  pub evidence_carries : {T : Type 0} (keys : T → List MirrorKey) (x : T) (touched : Touched) → CoversEvidence programs (keys x) touched → Makes {S = S} g asked new {T = T} {E = Refusal} part before after (λ base made x. HaveRisen base.mirror made.mirror (keys x)) (Ok x) → CarriesOut g old new whole before after (Ok (outcome.Counted, touched))
  evidence_carries keys x touched covers makes = record {
    decides = λ clean beside base was same.
        let found = asks (early clean) beside base was in
        let it = makes clean beside base found.1 same in
        let is = joins base it.change it.decided in
        record {
          change = it.change;
          decided = ap (λ (r : Result BaseChange Refusal). r >>= λ change. Ok (counted change)) it.decided;
          holds = it.holds;
          counted = it.counted;
          covers = subst (λ (change : BaseChange). Covers change base touched) is (covers base marks (scan base) found.0 (subst (λ (change : BaseChange). HaveRisen base.mirror (changed change base).mirror (keys x)) (sym is) it.right));
        };
    refuses = λ clean. tt;
  }

  pub evidence_refused : (T : Type 0) (e : Refusal) (r : Result (Outcome × Touched) Refusal) → IsErrAnd r (λ x. x ≡ e) → RefusesOn {S = S} g asked new {T = T} part before (Err e) → CarriesOut g old new whole before after r
  evidence_refused T e r is refuses = passed_carries g old new whole before after e r is (record {
    decides = λ clean. tt;
    refuses = λ clean beside base was same. then_refused e (part base) (λ change. Ok (counted change)) (refuses clean beside base (asks (early clean) beside base was).1 same);
  })
