use Rattle.adr_view_laws.proofs.IdLemmas.{ids_back, rows_found, shown_ids_back}
use Rattle.adr_view_laws.proofs.KeptIdLemmas.{each_found_by_its_id}
use Rattle.adr_view_laws.proofs.laws.ids_read_back.Goals as goal

pub returns-clause-ids : goal.returns-clause-ids
returns-clause-ids c = ids_back

pub returns-clause-rows : goal.returns-clause-rows
returns-clause-rows c = rows_found

pub returns-clause-run : goal.returns-clause-run
returns-clause-run c = each_found_by_its_id

pub returns-clause-shown : goal.returns-clause-shown
returns-clause-shown c = shown_ids_back
