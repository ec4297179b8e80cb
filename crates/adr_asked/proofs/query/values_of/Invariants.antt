use Rattle.std.proofs.Common.{◌≡◌, map, ◌++◌}
use Rattle.std.specs.Cow.{cow_str_bytes}
use Rattle.form_urlencoded.specs.Parse.{raw_pairs_left}
use Rattle.form_urlencoded.specs.Form.{raw_pairs}
use Rattle.adr_asked.specs.Queries.{values_of}
use Rattle.adr_asked.proofs.query.values_of.Given as goal

abbrev pub invariant-loop-key : goal.invariant-loop-key
invariant-loop-key l =
    map cow_str_bytes l.values.items ++ values_of l.name (raw_pairs_left l.key-iterator) ≡ values_of l.name (raw_pairs l.query)
