-- An endpoint names one address.
use Rattle.std.proofs.Common.{◌≡◌, ◌≢◌, inl, inr, ◌↔◌, ℕ, Bool, false, IsTrue, List, ◌++◌, drop, codes, Option, Result, Ok, Err, sym, ap, subst, ◌∙◌}
use Rattle.std.specs.Result.{result_ok}
use Rattle.std.specs.declared.net.socket_addr.SocketAddr.{SocketAddr}
use Rattle.std.specs.Net.Grammar.{IsSocketText, Parses}
use Rattle.std.specs.Net.Socket.{socket_ip}
use Rattle.std.proofs.NetLemmas.Theorems.{IsSocketText_unique}
use Rattle.adr_network.specs.declared.network.Network.{Network}
use Rattle.adr_network.specs.Networks.{allows}
use Rattle.adr_network.specs.Addresses.{IsAddressOf, FindsAddress, AllowsEndpoint}

-- what stands behind the name is one text
same_port : (port other : List ℕ) → codes "localhost:" ++ port ≡ codes "localhost:" ++ other → port ≡ other
same_port port other e = ap (drop 10) e

numbered : (port other : List ℕ) (address : SocketAddr) → codes "localhost:" ++ port ≡ codes "localhost:" ++ other → IsSocketText (codes "127.0.0.1:" ++ port) address → IsSocketText (codes "127.0.0.1:" ++ other) address
numbered port other address e h = subst (λ p. IsSocketText (codes "127.0.0.1:" ++ p) address) (same_port port other e) h

unique : (endpoint : List ℕ) (a b : SocketAddr) → IsAddressOf endpoint a → IsAddressOf endpoint b → a ≡ b
unique endpoint a b (inl (port, e, h)) (inl (other, d, k)) = IsSocketText_unique (codes "127.0.0.1:" ++ other) a b (numbered port other a (sym e ∙ d) h) k
unique endpoint a b (inl (port, e, h)) (inr (lacks, k)) = absurd (lacks port e)
unique endpoint a b (inr (lacks, h)) (inl (other, d, k)) = absurd (lacks other d)
unique endpoint a b (inr (lacks, h)) (inr (never, k)) = IsSocketText_unique endpoint a b h k

-- where the name of this machine stands before the port
pub of_name : {E : Type 0} (endpoint port : List ℕ) (read : Result SocketAddr E) → endpoint ≡ codes "localhost:" ++ port → Parses IsSocketText (codes "127.0.0.1:" ++ port) read → FindsAddress endpoint (result_ok read)
of_name endpoint port (Ok address) is parses = inl (port, is, parses)
of_name endpoint port (Err e) is parses = never
  where
    never : (address : SocketAddr) → ¬ (IsAddressOf endpoint address)
    never address (inl (other, d, k)) = parses address (numbered other port address (sym d ∙ is) k)
    never address (inr (lacks, k)) = lacks port is

-- and where it doesn't
pub of_number : {E : Type 0} (endpoint : List ℕ) (read : Result SocketAddr E) → ((port : List ℕ) → endpoint ≢ codes "localhost:" ++ port) → Parses IsSocketText endpoint read → FindsAddress endpoint (result_ok read)
of_number endpoint (Ok address) lacks parses = inr (lacks, parses)
of_number endpoint (Err e) lacks parses = never
  where
    never : (address : SocketAddr) → ¬ (IsAddressOf endpoint address)
    never address (inl (port, d, k)) = lacks port d
    never address (inr (other, k)) = parses address k

-- the one address of an endpoint may be called, or the endpoint may not be
pub of_address : (networks : Option (List Network)) (endpoint : List ℕ) (address : SocketAddr) (may : Bool) → IsAddressOf endpoint address → may ≡ allows networks (socket_ip address) → IsTrue may ↔ AllowsEndpoint networks endpoint
of_address networks endpoint address may is tells = (allowed, allows_it)
  where
    allowed : IsTrue may → AllowsEndpoint networks endpoint
    allowed may_be = (address, is, sym tells ∙ may_be)

    allows_it : AllowsEndpoint networks endpoint → IsTrue may
    allows_it (other, was, may_be) = tells ∙ ap (λ (a : SocketAddr). allows networks (socket_ip a)) (unique endpoint address other is was) ∙ may_be

-- and an endpoint that names none may not be called
pub of_none : (networks : Option (List Network)) (endpoint : List ℕ) → ((address : SocketAddr) → ¬ (IsAddressOf endpoint address)) → IsTrue false ↔ AllowsEndpoint networks endpoint
of_none networks endpoint never = (nothing, none)
  where
    nothing : IsTrue false → AllowsEndpoint networks endpoint
    nothing is = absurd cc

    none : AllowsEndpoint networks endpoint → IsTrue false
    none (address, is, may_be) = absurd (never address is)
