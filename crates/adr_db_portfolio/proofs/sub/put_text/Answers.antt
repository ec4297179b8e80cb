use Rattle.std.proofs.Common.{◌∷◌, [], subst, List, ℕ}
use Rattle.std.specs.String.{string_bytes}
use Rattle.adr_db.proofs.Common.{nat_cmp, Text, Runs, Sub}
use Rattle.adr_subscription.specs.Types.{IsSub}
use Rattle.adr_db_portfolio.specs.declared.sub.TheConstants.{PUT}
use Rattle.adr_db.specs.Rows.{number, owner_cell, sub_row}
use Rattle.adr_db.proofs.Entries.{entries_put}
use Rattle.adr_db.proofs.KeptMaps.{put_leaves}
use Rattle.adr_db.proofs.Maps.{sub_map}
use Rattle.adr_db_portfolio.proofs.SubStatements.{texts}
use Rattle.adr_db_portfolio.proofs.sub.put_text.Goals as goal

pub returns-clause-leaves : goal.returns-clause-leaves
returns-clause-leaves g c =
    let old = c.args.tx.now.conn.now in
    let new = c.run.new.tx.conn.now in
    let sub = c.args.sub.now in
    let e : ℕ × Sub = (c.args.id, sub) in
    put_leaves sub_map g.S.Store old new _ (sub_row e) c.args.id sub _ (texts.puts e) (texts.fit e) (λ kept are. (are.0, entries_put nat_cmp (λ sub. IsSub sub.body) kept.portfolio.subs c.args.id sub are.1 c.requires.valid))
    (subst (λ (text : List ℕ). Runs g.S.Store old new PUT.now (number c.args.id ∷ owner_cell sub.owner ∷ Text text ∷ number sub.stamps.created ∷ number sub.stamps.modified ∷ []) c.run.result) c.requires.same
    (subst (λ cell. Runs g.S.Store old new PUT.now (number c.args.id ∷ cell ∷ Text (string_bytes c.args.text.now) ∷ number sub.stamps.created ∷ number sub.stamps.modified ∷ []) c.run.result) c.in_ok-owner_cell.ensures.value
    (rw (c.in_ok-number.ensures.value, c.get.ensures, c.to_sql.ensures, c.in_ok-number-2.ensures.value, c.nanos.ensures.value, c.in_ok-number-3.ensures.value, c.nanos-2.ensures.value) at c.run.ensures.runs)))
