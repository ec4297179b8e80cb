use Rattle.std.proofs.Common.{inl, inr, sym, ap, ◌∙◌}
use Rattle.std.specs.Prelude.{IsTrue}
use Rattle.adr_db.proofs.Common.{state}
use Rattle.adr_desk.proofs.Restarts.{left_in_either}
use Rattle.adr_desk.proofs.laws.stops_leave_versions.Goals as goal

pub returns : goal.returns
returns g c new held was_open was survives clean trees may =
    let old = state g.S.Store c.args.conn.now in
    let settled : IsTrue c.is_autocommit-is_settled.result = cc (c.is_autocommit-is_settled.ensures.value, c.requires) in
    elim (survives.crash clean trees may) [
      | inl early ↦ left_in_either held old trees (c.last_commit_is_left.ensures was_open trees early ∙ sym (ap (λ (d : _). d.trees) (c.is_autocommit-is_settled.ensures.settled settled was_open))) was
      | inr late ↦ inl (late held was)
    ]
