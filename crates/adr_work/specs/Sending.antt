-- What a sender does.
use Rattle.std.specs.Prelude.{◌≡◌, List, ◌++◌}
use Rattle.crossbeam_queue.specs.Passes.{view}
use Rattle.adr_delivery.specs.declared.job.Job.{Job}
use Rattle.adr_lock.specs.Steps.{Step}
use Rattle.adr_work.specs.declared.peers.Peers.{Peers}
use Rattle.adr_work.specs.Exchanges.{Exchange}
use Rattle.adr_work.specs.Seats.{Seat}
use Rattle.adr_work.specs.Deliveries.{Delivers}

-- jobs were taken with one seat, and each of them, and no other, was sent and settled
pub record SendsTaken (peers : Peers) (old new : Seat) (before after : List Exchange) (first last : List Step) : Type 0 where
  pub jobs : List Job
  pub taken : (view new).taken ≡ (view old).taken ++ jobs
  pub delivers : Delivers peers jobs before after first last
