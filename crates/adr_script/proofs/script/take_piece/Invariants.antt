use Rattle.std.proofs.Common.{◌≡◌, take}
use Rattle.adr_wire.specs.Calls.{NoneFails}
use Rattle.adr_script.specs.Readings.{HasRead}
use Rattle.adr_script.proofs.script.take_piece.Given as goal

-- the bytes so far are read
abbrev pub invariant-loop-byte : goal.invariant-loop-byte
invariant-loop-byte g l =
    let desk = g.D.Desk in
    let sink = g.W.Sink in
    record {
      read : HasRead (desk.is_sound l.desk) desk.may_refuse (desk.settings l.fn.desk) (desk.state l.fn.desk) (desk.state l.desk) (sink.written l.fn.sink) (sink.written l.sink) l.fn.progress l.progress (take l.byte-index l.piece);
      write_failed : NoneFails (sink.calls l.fn.sink) (sink.calls l.sink);
      was_sound : desk.is_sound l.desk → desk.is_sound l.fn.desk;
      stays_sound : desk.is_sound l.fn.desk → desk.stands l.desk → desk.is_sound l.desk;
      stood : desk.stands l.desk → desk.stands l.fn.desk;
      settings : desk.settings l.desk ≡ desk.settings l.fn.desk;
    }
