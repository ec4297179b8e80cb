-- How a book may refuse what it is asked.
use Rattle.std.specs.Prelude.{ℕ, ◌∷◌}
use Rattle.adr_text.specs.declared.refusal.Refusal.{Refusal}
use Rattle.adr_text.specs.declared.refusal.Refusal.TheVariants.{TrailFull, Stale}
use Rattle.adr_queries.specs.declared.query.Query.{Query}
use Rattle.adr_queries.specs.Listed.{listed_for, IsListed}
use Rattle.adr_machine.specs.declared.command.Command.{Command}
use Rattle.adr_machine.specs.Listed.{listed}

-- a step may be refused so, with a pass that was told of this turn: for the pass, for the trail, or as is listed for the command
abbrev pub MayRefuse : Type 0 → ℕ → Command → Refusal → Type 0
MayRefuse may_refuse seen command refusal = IsListed may_refuse (Stale seen ∷ TrailFull ∷ listed command) refusal

-- a query may be refused so, with such a pass: for the pass, or as is listed for the query
abbrev pub MayRefuseQuery : Type 0 → ℕ → Query → Refusal → Type 0
MayRefuseQuery may_refuse seen query refusal = IsListed may_refuse (Stale seen ∷ listed_for query) refusal
