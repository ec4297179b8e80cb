-- The numbers of the reasons why a body is kept unread.
use Rattle.std.specs.Prelude.{ℕ}
use Rattle.adr_objects.specs.declared.body.Reason.{Reason}
use Rattle.adr_objects.specs.declared.body.Reason.TheVariants.{Fraction, NotOne, Repeated, OutOfRange, BadShape}

-- 1 for a number that isn't whole, 2 for not exactly one, 3 for a repeated id, 4 for out of range, 5 for the wrong
-- shape
abbrev pub reason_number : Reason → ℕ
reason_number Fraction = 1
reason_number NotOne = 2
reason_number Repeated = 3
reason_number OutOfRange = 4
reason_number BadShape = 5
