use Rattle.adr_db.specs.Tables.{first_schema, later_tables}
use Rattle.adr_db.proofs.Creating.{make_later}
use Rattle.adr_db.proofs.migration.create_later.Goals as goal

pub returns-in-Ok-clause-made : goal.returns-in-Ok-clause-made
returns-in-Ok-clause-made g c clean all was = c.in-Ok.ensures.made clean first_schema all later_tables make_later was
