use Rattle.adr_objects.proofs.RoundTrips.{canonical_differs}
use Rattle.adr_objects.proofs.laws.canonical_texts_differ.Goals as goal

pub returns : goal.returns
returns c = canonical_differs
