-- What contracts see of the threads of a queue.
use Rattle.std.specs.Prelude.{◌≡◌, ℕ, length}
use Rattle.std.specs.Arc.{arc_value}
use Rattle.crossbeam_queue.specs.Passes.{view}
use Rattle.adr_work.specs.Fair.{all_parts}
use Rattle.adr_work.specs.Seats.{Seat, IsSeatOf}
use Rattle.adr_work.specs.declared.queue.JobQueue.{JobQueue}
use Rattle.adr_work.specs.declared.crew.Workers.{Workers}

-- how many threads there are
abbrev pub threads_of : {L : Type 0} → Workers L → ℕ
threads_of workers = length workers.threads.items

-- the queue that they use
abbrev pub queue_of : {L : Type 0} → Workers L → JobQueue
queue_of workers = arc_value workers.queue

-- the one seat with all parts of the queue
abbrev pub IsWholeOf : JobQueue → Seat → Type 0
IsWholeOf queue seat = IsSeatOf queue seat × ((view seat).parts ≡ all_parts)
