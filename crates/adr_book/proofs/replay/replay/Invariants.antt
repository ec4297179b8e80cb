use Rattle.std.specs.Prelude.{◌≡◌, ◌++◌, drop}
use Rattle.adr_book.specs.Trail.{answers_along}
use Rattle.adr_book.proofs.replay.replay.Given as goal

-- the answers so far and those to what is left are those to all
abbrev pub invariant-loop-now : goal.invariant-loop-now
invariant-loop-now l = record {
  told : l.answers.items ++ answers_along l.desk.settings l.desk.image (drop l.now-index l.trail) ≡ answers_along l.settings l.base l.trail;
  settings : l.desk.settings ≡ l.settings;
}
