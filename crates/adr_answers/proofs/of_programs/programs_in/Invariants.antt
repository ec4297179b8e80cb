use Rattle.std.proofs.Common.{◌≡◌}
use Rattle.std.specs.List.{filter_map}
use Rattle.adr_answers.specs.Told.{program_in}
use Rattle.adr_answers.proofs.of_programs.programs_in.Given as goal

-- the programs so far
abbrev pub invariant-known : goal.invariant-known
invariant-known l = l.all.items ≡ filter_map program_in l.yielded
