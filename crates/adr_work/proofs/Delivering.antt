-- Jobs that are sent and settled, one after another.
use Rattle.std.proofs.Common.{◌≡◌, Bool, true, false, List, [], ◌∷◌, ◌++◌, Result, Ok, Err, if◌then◌else◌, refl, sym, ap, ap₂, ◌∙◌, append-nil}
use Rattle.std.specs.Result.{IsErrAnd}
use Rattle.std.proofs.lemmas.List.{map-append}
use Rattle.std.proofs.lemmas.Result.{err_from_is_err_and}
use Rattle.std.proofs.lemmas.List.Concat.{flat_map-append}
use Rattle.std.proofs.lemmas.List.Elements.{All-append, All-nil, All-push}
use Rattle.crossbeam_queue.specs.Passes.{view}
use Rattle.adr_text.specs.Refusals.{◌>>=◌, Fails}
use Rattle.adr_text.specs.declared.refusal.Refusal.{Refusal}
use Rattle.adr_text.specs.declared.refusal.Refusal.TheVariants.{OutOfMemory}
use Rattle.adr_queries.specs.declared.answer.Answer.{Answer}
use Rattle.adr_delivery.specs.declared.job.Job.{Job}
use Rattle.adr_link.specs.declared.outcome.Outcome.{Outcome}
use Rattle.adr_link.specs.Targets.{is_for_utility, job_endpoint, job_bytes}
use Rattle.adr_link.specs.Upstreams.{UpstreamParts}
use Rattle.adr_lock.specs.Steps.{Step}
use Rattle.adr_work.specs.declared.peers.Peers.{Peers}
use Rattle.adr_work.specs.declared.request.Request.{Request}
use Rattle.adr_work.specs.declared.send_fault.SendFault.{SendFault}
use Rattle.adr_work.specs.declared.send_fault.SendFault.TheVariants.{Refused}
use Rattle.adr_work.specs.Exchanges.{Came, Exchange}
use Rattle.adr_work.specs.Rounds.{Asks}
use Rattle.adr_work.specs.Seats.{Seat}
use Rattle.adr_work.specs.Settling.{settlement_of}
use Rattle.adr_work.specs.Deliveries.{IsRequestOf, MayCall, IsFaultOf, TellsOf, IsSent, once, not_asked, outcome_in, Delivery, IsDelivery, Delivers}
use Rattle.adr_work.specs.Sending.{SendsTaken}
use Rattle.adr_work.proofs.Behind.{behind}

-- ---- one job

-- what is made of a URL where it can be read, or without one
abbrev made_with : {A P : Type 0} → Bool → Result P Refusal → A → (P → A) → Result A Refusal
made_with own url a f = if own then Ok a else url >>= λ parts. Ok (f parts)

-- where one thing can't be made of it, another can't for the same reason
with_fails : {A B P : Type 0} (e : Refusal) (own : Bool) (url : Result P Refusal) (a : A) (f : P → A) (b : B) (h : P → B) → Fails e (made_with own url a f) → Fails e (made_with own url b h)
with_fails OutOfMemory own url a f b h is = tt
with_fails e true url a f b h is = absurd cc
with_fails e false (Ok parts) a f b h is = absurd cc
with_fails e false (Err d) a f b h is = cc

-- where a job has no endpoint, it has no request for the same reason
pub endpoint_fails : (u : UpstreamParts) (job : Job) (e : Refusal) → Fails e (job_endpoint u job) → Fails e (job_bytes u job)
endpoint_fails u job e is = with_fails e (is_for_utility job) _ _ _ _ _ is

-- nothing was asked
pub sent_not : (peers : Peers) (job : Job) (before : List Exchange) (fault : SendFault) → IsFaultOf peers job fault → Asks before before (IsSent peers job (Err fault))
sent_not peers job before fault is = record { asked = []; exchanges = sym (append-nil before); holds = not_asked fault is refl refl }

-- nothing was asked, for a reason that is handed on
pub sent_refused : (peers : Peers) (job : Job) (before : List Exchange) (sent : Result Outcome SendFault) (refusal : Refusal)
    → Fails refusal (job_bytes peers.upstream job) → IsErrAnd sent (λ fault. fault ≡ Refused refusal) → Asks before before (IsSent peers job sent)
sent_refused peers job before sent refusal fails is =
    let exit = err_from_is_err_and sent is in
    record { asked = []; exchanges = sym (append-nil before); holds = not_asked (Refused refusal) fails refl (exit.1 ∙ ap Err exit.2) }

-- memory ran out behind the exchange
pub lost : (job : Job) (came : Came) (sent : Result Outcome SendFault) → IsErrAnd sent (λ fault. fault ≡ Refused OutOfMemory) → TellsOf job came sent
lost job came (Ok outcome) is = absurd is
lost job came (Err fault) is = is

-- its request was asked
pub sent_once : (peers : Peers) (job : Job) (before after : List Exchange) (sent : Result Outcome SendFault) (request : Request) (came : Came)
    → IsRequestOf peers.upstream job request → MayCall peers.callbacks request.to → after ≡ before ++ (request, came) ∷ []
    → TellsOf job came sent → Asks before after (IsSent peers job sent)
sent_once peers job before after sent request came is may asked tells =
    record { asked = (request, came) ∷ []; exchanges = asked; holds = once request came is may refl tells }

-- ---- jobs

abbrev job_in : Delivery → Job
job_in d = d.job

abbrev asked_in : Delivery → List Exchange
asked_in d = d.asked

abbrev step_in : Delivery → Step
step_in d = d.step

-- no job
none : (peers : Peers) (before : List Exchange) (first : List Step) → Delivers peers [] before before first first
none peers before first = record {
  all = [];
  each = All-nil (IsDelivery peers);
  jobs_are = refl;
  exchanges = sym (append-nil before);
  steps = sym (append-nil first);
}

-- a job that was sent, and then settled
pub one : (peers : Peers) (job : Job) (before after : List Exchange) (first last : List Step) (told : Result Outcome SendFault) (answered : Result Answer Refusal)
    → Asks before after (IsSent peers job told) → last ≡ first ++ (settlement_of job (outcome_in told), answered) ∷ []
    → Delivers peers (job ∷ []) before after first last
one peers job before after first last told answered asks settles =
    let d : Delivery = record { job = job; asked = asks.asked; step = (settlement_of job (outcome_in told), answered) } in
    let is : IsDelivery peers d = record { told = told; answered = answered; sent = asks.holds; settles = refl } in record {
      all = d ∷ [];
      each = All-push (IsDelivery peers) [] d (All-nil (IsDelivery peers)) is;
      jobs_are = refl;
      exchanges = asks.exchanges ∙ ap (λ xs. before ++ xs) (sym (append-nil asks.asked));
      steps = settles;
    }

-- these, and then those
more : (peers : Peers) (jobs next : List Job) (before between after : List Exchange) (first mid last : List Step)
    → Delivers peers jobs before between first mid → Delivers peers next between after mid last → Delivers peers (jobs ++ next) before after first last
more peers jobs next before between after first mid last d e = record {
  all = d.all ++ e.all;
  each = All-append (IsDelivery peers) d.all e.all d.each e.each;
  jobs_are = ap₂ (λ xs ys. xs ++ ys) d.jobs_are e.jobs_are ∙ sym (map-append job_in d.all e.all);
  exchanges = behind before _ _ d.exchanges e.exchanges (flat_map-append asked_in d.all e.all);
  steps = behind first _ _ d.steps e.steps (map-append step_in d.all e.all);
}

-- ---- a sender

pub sends_none : (peers : Peers) (seat : Seat) (before : List Exchange) (first : List Step) → SendsTaken peers seat seat before before first first
sends_none peers seat before first = record { jobs = []; taken = sym (append-nil (view seat).taken); delivers = none peers before first }

-- a job more was taken, and sent and settled
pub sends_more : (peers : Peers) (old mid new : Seat) (before between after : List Exchange) (first some last : List Step) (job : Job)
    → SendsTaken peers old mid before between first some → (view new).taken ≡ (view mid).taken ++ job ∷ [] → Delivers peers (job ∷ []) between after some last
    → SendsTaken peers old new before after first last
sends_more peers old mid new before between after first some last job s taken d = record {
  jobs = s.jobs ++ job ∷ [];
  taken = behind (view old).taken s.jobs (job ∷ []) s.taken taken refl;
  delivers = more peers s.jobs (job ∷ []) before between after first some last s.delivers d;
}

-- these were taken, and sent and settled, and then those
pub sends_both : (peers : Peers) (old mid new : Seat) (before between after : List Exchange) (first some last : List Step)
    → SendsTaken peers old mid before between first some → SendsTaken peers mid new between after some last → SendsTaken peers old new before after first last
sends_both peers old mid new before between after first some last s t = record {
  jobs = s.jobs ++ t.jobs;
  taken = behind (view old).taken s.jobs t.jobs s.taken t.taken refl;
  delivers = more peers s.jobs t.jobs before between after first some last s.delivers t.delivers;
}

-- none was taken
pub sends_same : (peers : Peers) (old mid new : Seat) (before after : List Exchange) (first last : List Step)
    → SendsTaken peers old mid before after first last → view new ≡ view mid → SendsTaken peers old new before after first last
sends_same peers old mid new before after first last s same = record {
  jobs = s.jobs;
  taken = ap (λ v. v.taken) same ∙ s.taken;
  delivers = s.delivers;
}
