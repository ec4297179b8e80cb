-- The configuration of a node that serves.
use Rattle.std.specs.Prelude.{◌≡◌, ℕ, List, codes, Option, Some, None, unwrap_or, Result, Ok}
use Rattle.std.specs.declared.net.socket_addr.SocketAddr.{SocketAddr}
use Rattle.std.specs.Net.Grammar.{IsSocketText}
use Rattle.log.specs.declared.level.LevelFilter.{LevelFilter}
use Rattle.log.specs.declared.level.LevelFilter.TheVariants.{Off}
use Rattle.serde_json.specs.Data.{Data}
use Rattle.adr_text.specs.Faults.{as_fault}
use Rattle.adr_text.specs.Fields.{member_of, name_in, optional, required, text_of, value_in}
use Rattle.adr_text.specs.Refusals.{◌>>=◌}
use Rattle.adr_text.specs.declared.fault.Fault.{Fault}
use Rattle.adr_state.specs.declared.limits.Limits.{Limits}
use Rattle.adr_state.specs.declared.limits.Settings.{Settings}
use Rattle.adr_state.specs.Limits.{largest}
use Rattle.adr_network.specs.declared.network.Network.{Network}
use Rattle.adr_link.specs.Upstreams.{UpstreamParts, upstream_of}
use Rattle.adr_config.specs.declared.config.Config.{Config}
use Rattle.adr_config.specs.Callbacks.{CallsBack}
use Rattle.adr_config.specs.Grants.{limits_in, roles_in}
use Rattle.adr_config.specs.Levels.{log_in}
use Rattle.adr_config.specs.Members.{limit_in}
use Rattle.adr_config.specs.Deletions.{deletion_read}
use Rattle.adr_config.specs.declared.deletion.MassDeletion.{MassDeletion}
use Rattle.adr_config.specs.declared.deletion.MassDeletion.TheVariants.{Confirm}

-- the utility's address, and the token that it is shown
unfoldable pub upstream_in : Data → Result UpstreamParts Fault
upstream_in d = do
  address ← required (member_of (codes "upstream") d) text_of
  token ← optional (member_of (codes "upstreamToken") d) text_of
  as_fault (upstream_of address token)

-- limits that are not said are the largest
abbrev pub limits_or_largest : Option Limits → Limits
limits_or_largest None = largest
limits_or_largest (Some limits) = limits

-- the node's name, and its limits, the largest where none are said
unfoldable pub settings_in : Data → Result Settings Fault
settings_in d = do
  client ← required (member_of (codes "clientName") d) name_in
  limits ← optional (member_of (codes "limits") d) limits_in
  Ok (record { client = client; limits = limits_or_largest limits })

-- after how many connections it stops, what it does of many deletions, and how much is told
unfoldable pub ending_in : Data → Result (Option ℕ × MassDeletion × LevelFilter) Fault
ending_in d = do
  stop_after ← optional (member_of (codes "stopAfter") d) (limit_in 4_294_967_295)
  deletion ← optional (member_of (codes "massDeletion") d) deletion_read
  log ← optional (member_of (codes "log") d) log_in
  Ok (stop_after, unwrap_or deletion Confirm, unwrap_or log Off)

-- what is said by a configuration that listens there and lets addresses in those networks be called
unfoldable pub config_at : SocketAddr → Option (List Network) → Data → Result Config Fault
config_at listen callbacks d = do
  upstream ← upstream_in d
  settings ← settings_in d
  poll ← required (member_of (codes "poll") d) (limit_in 3_600)
  workers ← required (member_of (codes "workers") d) (limit_in 16)
  store ← optional (member_of (codes "store") d) text_of
  roles ← required (member_of (codes "tokens") d) roles_in
  ending ← ending_in d
  Ok (record { listen = listen; upstream = upstream; callbacks = callbacks; settings = settings; store = store; poll = poll; mass_deletion = ending.1; workers = workers; roles = roles; stop_after = ending.0; log = ending.2 })

-- an address and a port are where it listens
abbrev pub Listens : Data → SocketAddr → Type 0
Listens d listen = (text : List ℕ) × (required (member_of (codes "listen") d) text_of ≡ Ok text) × IsSocketText text listen

-- networks are those in which it lets addresses be called
abbrev pub Calls : Data → Option (List Network) → Type 0
Calls d networks = CallsBack (member_of (codes "callbacks") d) networks

-- a JSON value says this configuration, which listens there
abbrev pub SaysAt : SocketAddr → Data → Config → Type 0
SaysAt listen d config = (callbacks : Option (List Network)) × Calls d callbacks × (config_at listen callbacks d ≡ Ok config)

-- a JSON value says this configuration
abbrev pub Says : Data → Config → Type 0
Says d config = (listen : SocketAddr) × Listens d listen × SaysAt listen d config

-- the bytes are a JSON text that does
abbrev pub IsConfig : List ℕ → Config → Type 0
IsConfig bytes config = (d : Data) × (value_in bytes ≡ Ok d) × Says d config
