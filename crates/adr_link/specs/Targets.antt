-- The requests to the utility, and those that notify.
use Rattle.std.specs.Prelude.{ℕ, Bool, ◌==◌, List, ◌++◌, codes, decimal, Option, Some, None, Result, Ok, if◌then◌else◌}
use Rattle.url.specs.Parts.{Parts}
use Rattle.adr_text.specs.Refusals.{◌>>=◌}
use Rattle.adr_text.specs.declared.refusal.Refusal.{Refusal}
use Rattle.adr_objects.specs.declared.kind.Kind.{Kind}
use Rattle.adr_objects.specs.declared.kind.Kind.TheVariants.{Program, Event}
use Rattle.adr_subscription.specs.Callbacks.{callable_address}
use Rattle.adr_delivery.specs.declared.job.Job.{Job}
use Rattle.adr_delivery.specs.declared.job.JobMethod.{JobMethod}
use Rattle.adr_delivery.specs.declared.job.JobMethod.TheVariants.{Post, Put}
use Rattle.adr_link.specs.Addresses.{host_field, endpoint, target_below, own_target}
use Rattle.adr_link.specs.Requests.{RequestText, request_bytes}
use Rattle.adr_link.specs.Upstreams.{UpstreamParts}

-- ---- what the utility is asked for

-- a GET of a target below the utility's address, with its token
abbrev pub get_request : UpstreamParts → List ℕ → RequestText
get_request u below = record { method = codes "GET"; target = target_below u.url below; host = host_field u.url; token = u.token; body = None }

-- the path of the objects of a kind
abbrev pub collection : Kind → List ℕ
collection Program = codes "/programs"
collection Event = codes "/events"

-- up to 50 objects of a kind, behind so many
abbrev pub page_target : Kind → ℕ → List ℕ
page_target kind skip = collection kind ++ (codes "?skip=" ++ (decimal skip ++ codes "&limit=50"))

-- a GET of up to 50 objects of a kind, behind so many, below the utility's address, with its token
abbrev pub page_request : UpstreamParts → Kind → ℕ → RequestText
page_request u kind skip = get_request u (page_target kind skip)

-- the object of an id
abbrev pub probe_target : Kind → List ℕ → List ℕ
probe_target kind id = collection kind ++ (codes "/" ++ id)

-- a GET of the object of an id, below the utility's address, with its token
abbrev pub probe_request : UpstreamParts → Kind → List ℕ → RequestText
probe_request u kind id = get_request u (probe_target kind id)

-- ---- what a job is sent by

-- a report for the utility; else it is a notification
abbrev pub is_for_utility : Job → Bool
is_for_utility job = job.destination == 0

-- `POST` or `PUT`
abbrev pub method_word : JobMethod → List ℕ
method_word Post = codes "POST"
method_word Put = codes "PUT"

-- a report, by the job's method, below the utility's address, with the utility's token
abbrev pub report_request : UpstreamParts → Job → RequestText
report_request u job = record { method = method_word job.method; target = target_below u.url job.target; host = host_field u.url; token = u.token; body = Some job.body }

-- a notification, with a token of its own: a POST to the path and the query of its address
abbrev pub notice_request : Parts → Option (List ℕ) → List ℕ → RequestText
notice_request url token body = record { method = codes "POST"; target = own_target url; host = host_field url; token = token; body = Some body }

-- its bytes, where the address may be called
abbrev pub notice_bytes : List ℕ → Option (List ℕ) → List ℕ → Result (List ℕ) Refusal
notice_bytes address token body = callable_address address >>= λ url. Ok (request_bytes (notice_request url token body))

-- where a connection for a job is made: to the utility for a report, else to the address that is notified, or the
-- refusal 14 where that may not be called
abbrev pub job_endpoint : UpstreamParts → Job → Result (List ℕ) Refusal
job_endpoint u job = if is_for_utility job then Ok (endpoint u.url) else callable_address job.target >>= λ url. Ok (endpoint url)

-- the bytes that a job is sent by, or the refusal 14 where it is for an address that may not be called
abbrev pub job_bytes : UpstreamParts → Job → Result (List ℕ) Refusal
job_bytes u job = if is_for_utility job then Ok (request_bytes (report_request u job)) else notice_bytes job.target job.token job.body
