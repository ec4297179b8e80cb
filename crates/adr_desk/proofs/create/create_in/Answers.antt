use Rattle.std.proofs.Common.{rules, []}
use Rattle.adr_db.proofs.Common.{state, Holds, no_schema, Commits}
use Rattle.adr_state.specs.States.{empty}
use Rattle.adr_held.specs.Held.{HoldsState, AreLeftWith}
use Rattle.adr_desk.proofs.Created.{created_whole}
use Rattle.adr_desk.proofs.Applied.{moved}
use Rattle.adr_desk.proofs.create.create_in.Goals as goal

-- the connection after the commit is the one that the function leaves
pub returns-clause-whole : goal.returns-clause-whole
returns-clause-whole g c =
    let old = c.args.conn.now in
    moved (λ end. Commits g.S.Store old end (λ s. Holds no_schema [] (state g.S.Store old) → HoldsState empty s) (λ trees. Holds no_schema [] (state g.S.Store old) → AreLeftWith empty trees) c.commit.result) c.commit.new.tx.0 _ (search rules)
    (created_whole g.S.Store old c.begin-tx.result.conn.now c.create.new.tx.conn.now c.commit.new.tx.0 c.commit.result c.begin-tx.ensures.begun c.in_ok-create.ensures.lent.stays c.in_ok-create.ensures.made c.commit.ensures.ends)
