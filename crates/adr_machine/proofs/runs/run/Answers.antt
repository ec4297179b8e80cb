use Rattle.std.proofs.Common.{◌≡◌, ◌+◌, ◌++◌, [], ◌∷◌, take, sym, ap, ◌∙◌, arith}
use Rattle.std.proofs.lemmas.List.{take_more}
use Rattle.std.proofs.lemmas.Result.{IfOk-weaker, IfErr-weaker, on_err_weaker}
use Rattle.adr_machine.specs.Runs.{step_at}
use Rattle.adr_machine.proofs.Listed.{AreListed-push}
use Rattle.adr_machine.proofs.RunLemmas.{is_taken, IsRun-push}
use Rattle.adr_machine.proofs.runs.run.Goals as goal

-- the desk took one step more
pub loop-now-preserved : goal.loop-now-preserved
loop-now-preserved g c =
    let i = c.loop-now.now-index in
    let steps = c.args.steps.now in
    let x = c.loop-now-item.result in
    let more : take (i + 1) steps ≡ take i steps ++ x ∷ [] = take_more steps i x c.loop-now-test.true ∙ ap (λ y. take i steps ++ y ∷ []) (sym c.loop-now-item.is) in
    let same = c.loop-now.invariant.settings in
    record {
      run = λ sound. rw (c.in-Ok.ensures.items, more) (IsRun-push (step_at (g.D.Desk.settings c.args.desk.now)) (g.D.Desk.state c.args.desk.now) (take i steps) c.loop-now.answers.items (g.D.Desk.state c.loop-now.desk) x c.apply-answer.result (g.D.Desk.state c.apply-answer.new.self)
          (c.loop-now.invariant.run (c.apply-answer.ensures.was_sound sound))
          (is_taken (g.D.Desk.state c.loop-now.desk) (step_at (g.D.Desk.settings c.args.desk.now) (g.D.Desk.state c.loop-now.desk) x) c.apply-answer.result (g.D.Desk.state c.apply-answer.new.self)
          (IfOk-weaker c.apply-answer.result _ _ (λ a h. h sound) (rw same at c.apply-answer.ensures.ok)) (IfErr-weaker c.apply-answer.result _ _ (λ e h. h sound) (rw same at c.apply-answer.ensures.refused)) (on_err_weaker c.apply-answer.result (λ h. h sound) c.apply-answer.ensures.unchanged)));
      listed = rw (c.in-Ok.ensures.items, more) (AreListed-push g.D.Desk.may_refuse (take i steps) c.loop-now.answers.items x c.apply-answer.result c.loop-now.invariant.listed c.apply-answer.ensures.listed);
      count = omega (arith, c.in-Ok.ensures.len, c.loop-now.invariant.count);
      room = omega (arith, c.push.ensures.capacity, c.loop-now.invariant.room);
      was_sound = λ sound. c.loop-now.invariant.was_sound (c.apply-answer.ensures.was_sound sound);
      settings = c.apply-answer.ensures.same_settings ∙ same;
    }
