-- How a job is sent, and settled.
use Rattle.std.specs.Prelude.{◌≡◌, false, IsTrue, IsFalse, All, List, [], ◌∷◌, ◌++◌, map, Option, Result, Ok, Err}
use Rattle.std.specs.List.{flat_map}
use Rattle.std.specs.String.{string_bytes}
use Rattle.adr_text.specs.Refusals.{Fails}
use Rattle.adr_text.specs.declared.refusal.Refusal.{Refusal}
use Rattle.adr_text.specs.declared.refusal.Refusal.TheVariants.{OutOfMemory}
use Rattle.adr_queries.specs.declared.answer.Answer.{Answer}
use Rattle.adr_delivery.specs.declared.job.Job.{Job}
use Rattle.adr_network.specs.declared.network.Network.{Network}
use Rattle.adr_network.specs.Addresses.{AllowsEndpoint}
use Rattle.adr_link.specs.declared.outcome.Outcome.{Outcome}
use Rattle.adr_link.specs.declared.outcome.Outcome.TheVariants.{Failed}
use Rattle.adr_link.specs.Outcomes.{outcome_of}
use Rattle.adr_link.specs.Targets.{is_for_utility, job_endpoint, job_bytes}
use Rattle.adr_link.specs.Upstreams.{UpstreamParts}
use Rattle.adr_lock.specs.Steps.{Step}
use Rattle.adr_work.specs.declared.request.Request.{Request}
use Rattle.adr_work.specs.declared.request.Callee.{Callee}
use Rattle.adr_work.specs.declared.request.Callee.TheVariants.{Utility, Callback}
use Rattle.adr_work.specs.declared.peers.Peers.{Peers}
use Rattle.adr_work.specs.declared.send_fault.SendFault.{SendFault}
use Rattle.adr_work.specs.declared.send_fault.SendFault.TheVariants.{Refused, NotAllowed}
use Rattle.adr_work.specs.Exchanges.{Came, Exchange}
use Rattle.adr_work.specs.Settling.{settlement_of}

-- a report goes to the utility, a notification to the endpoint of its address
abbrev pub IsCalleeOf : UpstreamParts → Job → Callee → Type 0
IsCalleeOf u job Utility = IsTrue (is_for_utility job)
IsCalleeOf u job (Callback endpoint) = IsFalse (is_for_utility job) × (job_endpoint u job ≡ Ok (string_bytes endpoint))

-- the request of a job
abbrev pub IsRequestOf : UpstreamParts → Job → Request → Type 0
IsRequestOf u job request = IsCalleeOf u job request.to × (job_bytes u job ≡ Ok request.bytes)

-- the utility may be called wherever it is, and else an endpoint in the networks that are named
abbrev pub MayCall : Option (List Network) → Callee → Type 0
MayCall networks Utility = Unit {0}
MayCall networks (Callback endpoint) = AllowsEndpoint networks (string_bytes endpoint)

-- a job has no request, for this reason or for want of memory, or whom it is for may not be called
abbrev pub IsFaultOf : Peers → Job → SendFault → Type 0
IsFaultOf peers job (Refused refusal) = Fails refusal (job_bytes peers.upstream job)
IsFaultOf peers job NotAllowed = (request : Request) × IsRequestOf peers.upstream job request × (¬ (MayCall peers.callbacks request.to))

-- what came of a job's exchange is told, unless memory ran out behind it
abbrev pub TellsOf : Job → Came → Result Outcome SendFault → Type 0
TellsOf job came (Ok outcome) = outcome ≡ outcome_of job came
TellsOf job came (Err fault) = fault ≡ Refused OutOfMemory

-- what was asked for a job, and what is told of it
pub data IsSent (peers : Peers) (job : Job) (sent : Result Outcome SendFault) (asked : List Exchange) : Type 0 where
  -- its request, once, of whom may be called, and what came of it
  once : (request : Request) (came : Came) → IsRequestOf peers.upstream job request → MayCall peers.callbacks request.to → asked ≡ (request, came) ∷ []
      → TellsOf job came sent → IsSent peers job sent asked
  -- nothing, and why
  not_asked : (fault : SendFault) → IsFaultOf peers job fault → asked ≡ [] → sent ≡ Err fault → IsSent peers job sent asked

-- what a job is settled by: it failed where nothing is told of it
abbrev pub outcome_in : Result Outcome SendFault → Outcome
outcome_in (Ok outcome) = outcome
outcome_in (Err fault) = Failed false

-- a job, what was asked for it, and the step that settled it
pub record Delivery : Type 0 where
  pub job : Job
  pub asked : List Exchange
  pub step : Step

-- the job was sent, and its settlement is of what is told of it
pub record IsDelivery (peers : Peers) (d : Delivery) : Type 0 where
  pub told : Result Outcome SendFault
  pub answered : Result Answer Refusal
  pub sent : IsSent peers d.job told d.asked
  pub settles : d.step ≡ (settlement_of d.job (outcome_in told), answered)

-- these jobs were sent and settled, each once, one after another
pub record Delivers (peers : Peers) (jobs : List Job) (before after : List Exchange) (first last : List Step) : Type 0 where
  pub all : List Delivery
  pub each : All (IsDelivery peers) all
  pub jobs_are : jobs ≡ map (λ (d : Delivery). d.job) all
  pub exchanges : after ≡ before ++ flat_map (λ (d : Delivery). d.asked) all
  pub steps : last ≡ first ++ map (λ (d : Delivery). d.step) all
