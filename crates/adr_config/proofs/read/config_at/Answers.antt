use Rattle.std.proofs.Common.{codes}
use Rattle.serde_json.specs.View.{view}
use Rattle.adr_text.specs.Fields.{member_of, required}
use Rattle.adr_config.specs.Configs.{config_at}
use Rattle.adr_config.specs.Members.{limit_in}
use Rattle.adr_config.specs.Grants.{roles_in}
use Rattle.adr_config.specs.Tellings.{Misses}
use Rattle.adr_config.proofs.Telling.{misses_then, tells_on}
use Rattle.adr_config.proofs.read.config_at.Goals as goal

pub returns-in_err-workers : goal.returns-in_err-workers
unfolding config_at
returns-in_err-workers c =
    let d = view c.args.value.now in
    let e = c.in_err-workers.field-0.0 in
    let later : Misses e (config_at c.args.listen c.args.callbacks d) = rw c.in_ok-upstream.ensures (rw c.in_ok-settings.ensures (rw c.in_ok-poll.ensures (misses_then e (required (member_of (codes "workers") d) (limit_in 16)) _ c.in_err-workers.ensures))) in
    tells_on _ c.from_residual-in_err-workers.result e _ c.from_residual-in_err-workers.ensures.1 later

pub returns-in_err-roles : goal.returns-in_err-roles
unfolding config_at
returns-in_err-roles c =
    let d = view c.args.value.now in
    let e = c.in_err-roles.field-0.0 in
    let later : Misses e (config_at c.args.listen c.args.callbacks d) = rw c.in_ok-upstream.ensures (rw c.in_ok-settings.ensures (rw c.in_ok-poll.ensures (rw c.in_ok-workers.ensures (rw c.in_ok-store.ensures (misses_then e (required (member_of (codes "tokens") d) roles_in) _ c.in_err-roles.ensures))))) in
    tells_on _ c.from_residual-in_err-roles.result e _ c.from_residual-in_err-roles.ensures.1 later
