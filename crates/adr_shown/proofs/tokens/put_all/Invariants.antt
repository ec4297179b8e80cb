use Rattle.std.proofs.Common.{◌≡◌, take, drop}
use Rattle.std.specs.Prelude.{All}
use Rattle.adr_shown.specs.Types.{IsShownInterval}
use Rattle.adr_shown.specs.Tokens.{intervals_behind}
use Rattle.adr_shown.proofs.tokens.put_all.Given as goal

-- the intervals so far, and those that are left behind them
abbrev pub invariant-loop-interval : goal.invariant-loop-interval
invariant-loop-interval l = record {
  before : l.out.before ≡ l.initial.out.before;
  so_far : intervals_behind (drop l.interval-index l.intervals) l.out.tokens ≡ intervals_behind l.intervals l.initial.out.tokens;
  kept : All IsShownInterval (take l.interval-index l.intervals);
}
