use Rattle.adr_objects.proofs.RoundTrips.{canonical_reads_back}
use Rattle.adr_objects.proofs.laws.canonical_texts_read_back.Goals as goal

pub returns : goal.returns
returns c = canonical_reads_back
