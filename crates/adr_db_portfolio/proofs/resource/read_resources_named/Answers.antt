use Rattle.std.proofs.Common.{refl}
use Rattle.adr_state.specs.Names.{resource_name}
use Rattle.adr_db_portfolio.proofs.Named.{named_find}
use Rattle.adr_db.proofs.Maps.{resource_map}
use Rattle.adr_db_portfolio.proofs.ResourceStatements.{reads_named}
use Rattle.adr_db_portfolio.proofs.resource.read_resources_named.Goals as goal

pub returns-clause-finds : goal.returns-clause-finds
returns-clause-finds g c = named_find resource_map resource_name 2 (λ e. refl) (λ e. refl) g.S.Store c.args.tx.now.conn.now c.all_of.new.tx.conn.now _ c.args.name.now _ reads_named (rw (c.to_sql.ensures, c.as_str.ensures.text, c.as_name.ensures.value) at c.all_of.ensures.shows)

pub returns-clause-fails : goal.returns-clause-fails
returns-clause-fails g c = rw (c.to_sql.ensures, c.as_str.ensures.text, c.as_name.ensures.value) at c.all_of.ensures.fails
