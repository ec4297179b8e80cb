-- Calls of a source or a sink.
use Rattle.std.specs.Prelude.{ℕ, zero, suc, ◌+◌, Bool, true, false, Option, Some, None}

-- how many calls of a source or a sink were made, how many of them failed, and whether the last one did
pub record Calls : Type 0 where
  pub made : ℕ
  pub failed : ℕ
  pub has_failed : Bool

-- before the first call: none was made, and none failed
abbrev pub no_calls : Calls
no_calls = record { made = 0; failed = 0; has_failed = false }

-- after one more, which went well (false) or failed (true)
abbrev pub with_call : Bool → Calls → Calls
with_call false calls = record { made = calls.made + 1; failed = calls.failed; has_failed = false }
with_call true calls = record { made = calls.made + 1; failed = calls.failed + 1; has_failed = true }

-- how many more calls go well before one fails, after a call: once one has failed, none fails
abbrev pub counted_down : Option ℕ → Option ℕ
counted_down None = None
counted_down (Some zero) = None
counted_down (Some (suc n)) = Some n
