-- What clauses say of the seats of a queue.
use Rattle.std.specs.Prelude.{◌≡◌, ◌+◌, ℕ, Bool, List, []}
use Rattle.std.specs.List.{count_by}
use Rattle.crossbeam_queue.specs.Passes.{view, ruled_capacity, IsPassOf, IsSamePass}
use Rattle.crossbeam_queue.specs.Passes as passes
use Rattle.adr_delivery.specs.declared.job.Job.{Job}
use Rattle.adr_work.specs.declared.hand.Hand.{Hand}
use Rattle.adr_work.specs.Fair.{hand}
use Rattle.adr_work.specs.declared.queue.JobQueue.{JobQueue}

-- what one thread knows of the queue
abbrev pub Seat : Type 0
Seat = passes.Pass Job Hand

-- how many jobs a queue holds at most
abbrev pub capacity_of : JobQueue → ℕ
capacity_of queue = ruled_capacity queue.ring

-- a seat is one of this queue
abbrev pub IsSeatOf : JobQueue → Seat → Type 0
IsSeatOf queue seat = IsPassOf queue.ring seat

-- one seat still, of which jobs were only taken
abbrev pub OnlyTakes : Seat → Seat → Type 0
OnlyTakes old new =
    IsSamePass old new × ((view new).parts ≡ (view old).parts) × ((view new).put ≡ (view old).put) × ((view new).left ≡ (view old).left)

-- one seat still, of which jobs were only put
abbrev pub OnlyPuts : Seat → Seat → Type 0
OnlyPuts old new =
    IsSamePass old new × ((view new).parts ≡ (view old).parts) × ((view new).taken ≡ (view old).taken) × ((view new).left ≡ (view old).left)

-- what a thread does with a seat that it was handed: it has the same parts afterwards, and has left nothing over
abbrev pub IsBack : Seat → Seat → Type 0
IsBack old new = IsSamePass old new × ((view new).parts ≡ (view old).parts) × ((view new).left ≡ (view old).left)

-- a seat with one part that has done nothing
abbrev pub IsFresh : JobQueue → Seat → Type 0
IsFresh queue seat = IsSeatOf queue seat × (view seat ≡ hand 1 [] [] [])

-- each job stands in `all` as often as in the two others together
abbrev pub IsShared : List Job → List Job → List Job → Type 0
IsShared all some rest = (p : Job → Bool) → count_by p all ≡ count_by p some + count_by p rest
