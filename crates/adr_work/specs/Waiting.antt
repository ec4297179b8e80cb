-- Whether an entry waits in the outbox.
use Rattle.std.specs.Prelude.{Bool, true, nat_lt, Result, Ok}
use Rattle.adr_text.specs.declared.refusal.Refusal.{Refusal}
use Rattle.adr_queries.specs.declared.answer.Answer.{Answer}
use Rattle.adr_queries.specs.declared.answer.Answer.TheVariants as answer

-- one may wait unless the counts say that none does
abbrev pub may_wait : Result Answer Refusal → Bool
may_wait (Ok (answer.Counts counts)) = nat_lt 0 counts.pending
may_wait _ = true
