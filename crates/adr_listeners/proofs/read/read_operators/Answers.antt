use Rattle.std.proofs.Common.{[]}
use Rattle.adr_listeners.specs.Hearers.{is_operators}
use Rattle.adr_listeners.proofs.SubStatements.{is_empty, picked_subs, operators_pass, reads_operators}
use Rattle.adr_listeners.proofs.read.read_operators.Goals as goal

pub returns-clause-finds : goal.returns-clause-finds
returns-clause-finds g c = picked_subs is_empty [] (λ e. is_operators e.1) operators_pass g.S.Store c.args.tx.now.conn.now c.all_of.new.tx.conn.now _ _ reads_operators c.all_of.ensures.shows
