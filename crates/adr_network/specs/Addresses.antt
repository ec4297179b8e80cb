-- The address of a host and a port, and whether it may be called.
use Rattle.std.specs.Prelude.{◌≡◌, ◌≢◌, ◌⊎◌, ℕ, List, ◌++◌, codes, Option, Some, None, IsTrue}
use Rattle.std.specs.declared.net.socket_addr.SocketAddr.{SocketAddr}
use Rattle.std.specs.Net.Grammar.{IsSocketText}
use Rattle.std.specs.Net.Socket.{socket_ip}
use Rattle.adr_network.specs.declared.network.Network.{Network}
use Rattle.adr_network.specs.Networks.{allows}

-- it is what std's grammar of socket addresses reads of the text, in which `localhost` is 127.0.0.1
abbrev pub IsAddressOf : List ℕ → SocketAddr → Type 0
IsAddressOf endpoint address =
    ((port : List ℕ) × (endpoint ≡ codes "localhost:" ++ port) × IsSocketText (codes "127.0.0.1:" ++ port) address)
    ⊎ (((port : List ℕ) → endpoint ≢ codes "localhost:" ++ port) × IsSocketText endpoint address)

-- the address is found, where there is one
abbrev pub FindsAddress : List ℕ → Option SocketAddr → Type 0
FindsAddress endpoint (Some address) = IsAddressOf endpoint address
FindsAddress endpoint None = (address : SocketAddr) → ¬ (IsAddressOf endpoint address)

-- an endpoint names an address that may be called
abbrev pub AllowsEndpoint : Option (List Network) → List ℕ → Type 0
AllowsEndpoint networks endpoint = (address : SocketAddr) × IsAddressOf endpoint address × IsTrue (allows networks (socket_ip address))
