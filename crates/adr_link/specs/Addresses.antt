-- What stands of an address in a request.
use Rattle.std.specs.Prelude.{ℕ, ◌-◌, ◌==◌, List, [], ◌++◌, length, take, drop, bytes_eq, codes, decimal, Option, Some, None, unwrap_or, if◌then◌else◌}
use Rattle.url.specs.Parts.{Parts, host_or_empty}
use Rattle.url.specs.Host.{host_text}

-- a port, unless it is 80
abbrev pub port_text : Option ℕ → List ℕ
port_text None = []
port_text (Some port) = if port == 80 then [] else codes ":" ++ decimal port

-- the host as the URL is written, and the port, where it names one that isn't 80
abbrev pub host_field : Parts → List ℕ
host_field url = host_text (host_or_empty url) ++ port_text url.port

-- where a connection is made: the host as the URL is written, a colon and the port, 80 where none is named
abbrev pub endpoint : Parts → List ℕ
endpoint url = host_text (host_or_empty url) ++ (codes ":" ++ decimal (unwrap_or url.port 80))

-- a path without the slash at its end, where it has one
abbrev pub without_slash : List ℕ → List ℕ
without_slash path = if bytes_eq (drop (length path - 1) path) (codes "/") then take (length path - 1) path else path

-- a target below an address, whose query and fragment are passed over
abbrev pub target_below : Parts → List ℕ → List ℕ
target_below url below = without_slash url.path ++ below

-- a query behind `?`, where there is one
abbrev pub query_text : Option (List ℕ) → List ℕ
query_text None = []
query_text (Some query) = codes "?" ++ query

-- the target that is an address itself
abbrev pub own_target : Parts → List ℕ
own_target url = url.path ++ query_text url.query
