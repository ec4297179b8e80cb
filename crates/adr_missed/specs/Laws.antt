-- Laws of the keys that a scan missed, by what is kept.
use Rattle.std.specs.Prelude.{◌≡◌, ℕ, None, Some, Ok}
use Rattle.sqlite.specs.State as sql
use Rattle.adr_text.specs.Refusals.{◌>>=◌}
use Rattle.adr_state.specs.declared.state.State.{State}
use Rattle.adr_state.specs.BaseChanges.{SetScan}
use Rattle.adr_state.specs.Evidence.{scan_end}
use Rattle.adr_queries.specs.declared.answer.Answer.TheVariants as answer
use Rattle.adr_queries.specs.declared.query.Query.TheVariants as query
use Rattle.adr_queries.specs.Replies.{reply}
use Rattle.adr_db.specs.Kept.{Kept, Keeps}
use Rattle.adr_held.specs.Held.{HoldsState}
use Rattle.adr_missed.specs.Unseen.{unseen_kept}

-- where the tables hold a state, its reply to the query of the first keys that a scan missed is those of what the tables keep
abbrev pub FirstAreTold : sql.State → Type 0
FirstAreTold s = (held : State) (kept : Kept) (limit : ℕ) → HoldsState held s → Keeps kept s → reply held (query.Probes limit) ≡ (unseen_kept (Some limit) kept >>= λ keys. Ok (answer.Probes keys))

-- and the end of its scan answers all of them
abbrev pub AllAreTold : sql.State → Type 0
AllAreTold s = (held : State) (kept : Kept) → HoldsState held s → Keeps kept s → scan_end held.base ≡ (unseen_kept None kept >>= λ keys. Ok (keys, SetScan None))
