use Rattle.adr_text.proofs.FieldLemmas.{list_of-items_of}
use Rattle.adr_text.proofs.field.list.Goals as goal

pub returns-in-Some : goal.returns-in-Some
returns-in-Some c = rw (← c.in-Some.ensures, c.as_slice.ensures.value) (rw list_of-items_of)
