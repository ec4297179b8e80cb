use Rattle.std.proofs.Common.{◌≡◌, ◌≤◌, length, take, vec_capacity}
use Rattle.adr_machine.specs.Runs.{IsRun, AreListed, step_at}
use Rattle.adr_machine.proofs.runs.run.Given as goal

-- the steps so far are a run, and there is room for the answers to the rest
abbrev pub invariant-loop-now : goal.invariant-loop-now
invariant-loop-now g l = record {
  run : g.D.Desk.is_sound l.desk → IsRun (step_at (g.D.Desk.settings l.fn.desk)) (g.D.Desk.state l.fn.desk) (take l.now-index l.steps) l.answers.items (g.D.Desk.state l.desk);
  listed : AreListed g.D.Desk.may_refuse (take l.now-index l.steps) l.answers.items;
  count : length l.answers.items ≡ l.now-index;
  room : length l.steps ≤ vec_capacity l.answers;
  was_sound : g.D.Desk.is_sound l.desk → g.D.Desk.is_sound l.fn.desk;
  settings : g.D.Desk.settings l.desk ≡ g.D.Desk.settings l.fn.desk;
}
