use Rattle.std.proofs.Common.{◌≡◌, ◌++◌, drop}
use Rattle.adr_db.specs.Sharing.{those_for}
use Rattle.adr_db_portfolio.proofs.participant.those_for.Given as goal

-- those so far, and those among the ones that are left
abbrev pub invariant-loop-one : goal.invariant-loop-one
invariant-loop-one l = l.those.items ++ those_for l.names (drop l.one-index l.sharers) ≡ those_for l.names l.sharers
