use Rattle.std.proofs.Common.{refl}
use Rattle.sqlite.proofs.Callers.{memory_is_clean}
use Rattle.adr_desk.proofs.laws.memory_stands.Goals as goal

pub returns : goal.returns
returns c desk = (memory_is_clean desk.conn, refl)
