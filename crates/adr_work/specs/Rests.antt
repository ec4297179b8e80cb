-- How long the poller rests behind a round, in seconds.
use Rattle.std.specs.Prelude.{◌+◌, ℕ, nat_le, Result, Ok, Err, if◌then◌else◌}
use Rattle.adr_text.specs.declared.refusal.Refusal.{Refusal}
use Rattle.adr_work.specs.declared.page.PollEnd.{PollEnd}
use Rattle.adr_work.specs.declared.page.PollEnd.TheVariants.{Whole, Broken}
use Rattle.adr_work.specs.declared.rest.Rests.{Rests}

-- so many, but no more than the longest
abbrev pub up_to : ℕ → ℕ → ℕ
up_to longest n = if nat_le n longest then n else longest

-- before the first round: a second behind it, where it breaks off
abbrev pub first : ℕ → Rests
first longest = record { longest = longest; again = up_to longest 1 }

-- behind a whole round it rests for the longest, and behind another as long as is its turn
abbrev pub rest_behind : Rests → Result PollEnd Refusal → ℕ
rest_behind rests (Ok Whole) = rests.longest
rest_behind rests (Ok Broken) = rests.again
rest_behind rests (Err refusal) = rests.again

-- a whole round begins anew, and behind another the next rest is twice as long
abbrev pub rests_after : Rests → Result PollEnd Refusal → Rests
rests_after rests (Ok Whole) = first rests.longest
rests_after rests (Ok Broken) = record { longest = rests.longest; again = up_to rests.longest (rests.again + rests.again) }
rests_after rests (Err refusal) = record { longest = rests.longest; again = up_to rests.longest (rests.again + rests.again) }
