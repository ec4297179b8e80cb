use Rattle.std.proofs.Common.{refl}
use Rattle.adr_state.specs.Names.{ven_name}
use Rattle.adr_db_portfolio.proofs.Named.{named_find}
use Rattle.adr_db.proofs.Maps.{ven_map}
use Rattle.adr_db_portfolio.proofs.VenStatements.{reads_named}
use Rattle.adr_db_portfolio.proofs.ven.read_vens_named.Goals as goal

pub returns-clause-finds : goal.returns-clause-finds
returns-clause-finds g c = named_find ven_map ven_name 1 (λ e. refl) (λ e. refl) g.S.Store c.args.tx.now.conn.now c.all_of.new.tx.conn.now _ c.args.name.now _ reads_named (rw (c.to_sql.ensures, c.as_str.ensures.text) at c.all_of.ensures.shows)

pub returns-clause-fails : goal.returns-clause-fails
returns-clause-fails g c = rw (c.to_sql.ensures, c.as_str.ensures.text) at c.all_of.ensures.fails
