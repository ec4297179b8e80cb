use Rattle.std.specs.Prelude.{◌≡◌, ◌+◌, ◌≤◌}
use Rattle.adr_book.specs.Words.{taken_by}
use Rattle.adr_work_tests.proofs.passes.take_steps.Given as goal

abbrev pub invariant-loop-command : goal.invariant-loop-command
invariant-loop-command g l = (taken_by l.pass ≡ taken_by l.fn.pass + l.accepted) × (l.accepted ≤ l.command-index)
