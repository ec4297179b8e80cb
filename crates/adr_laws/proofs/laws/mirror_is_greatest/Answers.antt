use Rattle.adr_laws.proofs.MirrorLemmas.{mirror_greatest}
use Rattle.adr_laws.proofs.laws.mirror_is_greatest.Goals as goal

pub returns : goal.returns
returns c = mirror_greatest
