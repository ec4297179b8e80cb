use Rattle.std.proofs.Common.{rules, Err, ◌∙◌, ap, refl, arith}
use Rattle.std.proofs.lemmas.Result.{err_from_is_err_and}
use Rattle.adr_db.proofs.Common.{state, Commits, HasCleanDisk}
use Rattle.adr_state.specs.declared.state.State.{State}
use Rattle.adr_held.specs.Held.{HoldsInEither, AreLeftWith}
use Rattle.adr_desk.specs.Preparing.{UpgradedFrom}
use Rattle.adr_desk.proofs.Applied.{moved}
use Rattle.adr_desk.proofs.Readied.{upgraded_whole, IsOfUnknown, handed_on}
use Rattle.adr_desk.proofs.ready.upgrade_in.Goals as goal

-- the connection after the commit is the one that the function leaves
pub returns-clause-whole : goal.returns-clause-whole
returns-clause-whole g c =
    let old = c.args.conn.now in
    moved (λ end. Commits g.S.Store old end (UpgradedFrom (state g.S.Store old)) (λ trees. (held : State) → HoldsInEither held (state g.S.Store old) → AreLeftWith held trees) c.commit.result) c.commit.new.tx.0 _ (search rules)
    (upgraded_whole g.S.Store old c.begin-tx.result.conn.now c.upgrade.new.tx.conn.now c.commit.new.tx.0 c.commit.result c.begin-tx.ensures.begun c.in_ok-upgrade.ensures.lent.stays c.in_ok-upgrade.ensures.upgraded c.in_ok-upgrade.ensures.known c.commit.ensures.ends)

pub returns-in_err-upgrade-clause-unknown : goal.returns-in_err-upgrade-clause-unknown
returns-in_err-upgrade-clause-unknown g c =
    let old = state g.S.Store c.args.conn.now in
    let exit = err_from_is_err_and c.from_residual.result c.from_residual.ensures.1 in
    moved (λ end. HasCleanDisk (state g.S.Store end) → IsOfUnknown old c.from_residual.result) c.drop-tx.new.self.0 c.conn-1.given.0 (search rules)
    (λ clean.
    let early : HasCleanDisk (state g.S.Store c.upgrade.new.tx.conn.now) = omega (arith, c.drop-tx.ensures.survives.clean) in
    handed_on c.from_residual.result c.in_err-upgrade.field-0.0 old (state g.S.Store c.begin-tx.result.conn.now) (exit.1 ∙ ap Err exit.2) (rw c.begin-tx.ensures.begun refl) (c.in_err-upgrade.ensures.unknown early))
