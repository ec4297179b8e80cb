use Rattle.adr_desk.proofs.Soundness.{holds_now}
use Rattle.adr_desk.proofs.laws.sound_is_held.Goals as goal

pub returns : goal.returns
returns g c sound = let desk = c.args.desk.now in holds_now g.S.Store desk.first.kept desk.conn desk.holds sound.began sound.clean sound.is_open
