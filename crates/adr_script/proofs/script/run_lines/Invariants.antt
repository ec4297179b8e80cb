use Rattle.std.proofs.Common.{◌≡◌, ◌+◌, List, ℕ}
use Rattle.std.specs.Io.KnownBytes.{Consumes}
use Rattle.adr_wire.specs.Calls.{NoneFails}
use Rattle.adr_script.specs.Readings.{HasRead}
use Rattle.adr_script.proofs.script.run_lines.Given as goal

-- what the source lost is read
abbrev pub invariant-loop : goal.invariant-loop
invariant-loop g l =
    let desk = g.D.Desk in
    let source = g.S.Source in
    let sink = g.W.Sink in
    record {
      calls : (source.calls l.source).made ≡ (source.calls l.fn.source).made + l.counter;
      failed : NoneFails (source.calls l.fn.source) (source.calls l.source);
      write_failed : NoneFails (sink.calls l.fn.sink) (sink.calls l.sink);
      bytes : List ℕ;
      consumed : Consumes (source.left l.fn.source) (source.left l.source) bytes;
      read : HasRead (desk.is_sound l.desk) desk.may_refuse (desk.settings l.fn.desk) (desk.state l.fn.desk) (desk.state l.desk) (sink.written l.fn.sink) (sink.written l.sink) l.initial.progress l.progress bytes;
      was_sound : desk.is_sound l.desk → desk.is_sound l.fn.desk;
      stays_sound : desk.is_sound l.fn.desk → desk.stands l.desk → desk.is_sound l.desk;
      stood : desk.stands l.desk → desk.stands l.fn.desk;
      settings : desk.settings l.desk ≡ desk.settings l.fn.desk;
    }
