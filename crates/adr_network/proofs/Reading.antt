-- A text writes one address, and so one network.
use Rattle.std.proofs.Common.{◌≡◌, ℕ, List, Option, Some, None, IfSome, IfNone, option_and_then, sym, subst}
use Rattle.std.specs.declared.net.ip_addr.IpAddr.{IpAddr}
use Rattle.std.specs.Net.Grammar.{IsIpText}
use Rattle.std.proofs.NetLemmas.Theorems.{IsIpText_unique}
use Rattle.adr_network.specs.declared.network.Network.{Network}
use Rattle.adr_network.specs.Networks.{network_at}
use Rattle.adr_network.specs.Texts.{address_part, length_part, length_in, IsNetworkOf, IsNetworkText}

-- what is found at the address that is written is the network
pub written : (text : List ℕ) (address : IpAddr) (length : Option ℕ) (found : Option Network) → IsIpText text address → found ≡ option_and_then (network_at address) length → IfSome found (IsNetworkOf text length)
written text address length None is at = tt
written text address length (Some network) is at = (address, is, sym at)

-- and where nothing is, there is none
pub no_other : (text : List ℕ) (address : IpAddr) (length : Option ℕ) (found : Option Network) → IsIpText text address → found ≡ option_and_then (network_at address) length → IfNone found ((network : Network) → ¬ (IsNetworkOf text length network))
no_other text address length (Some network) is at = tt
no_other text address length None is at = none
  where
    none : (network : Network) → ¬ (IsNetworkOf text length network)
    none network (other, was, there) =
        let same : other ≡ address = IsIpText_unique text other address was is in
        let here : option_and_then (network_at address) length ≡ Some network = subst (λ a. option_and_then (network_at a) length ≡ Some network) same there in
        absurd cc

-- nor is there where no address is written
pub no_address : (text : List ℕ) (length : Option ℕ) → ((address : IpAddr) → ¬ (IsIpText text address)) → (network : Network) → ¬ (IsNetworkOf text length network)
no_address text length never network (address, is, at) = never address is

-- equal texts and lengths have the same networks
pub of_equal : (text other : List ℕ) (length said : Option ℕ) (found : Option Network) → text ≡ other → length ≡ said → IfNone found ((network : Network) → ¬ (IsNetworkOf text length network)) → IfNone found ((network : Network) → ¬ (IsNetworkOf other said network))
of_equal text other length said found same equal h =
    subst (λ l. IfNone found ((network : Network) → ¬ (IsNetworkOf other l network))) equal
    (subst (λ t. IfNone found ((network : Network) → ¬ (IsNetworkOf t length network))) same h)

-- a text writes one network
pub one_network : (text : List ℕ) (a b : Network) → IsNetworkText text a → IsNetworkText text b → a ≡ b
one_network text a b (address, is, at) (other, was, there) =
    let same : other ≡ address = IsIpText_unique (address_part text) other address was is in
    let here : option_and_then (network_at address) (option_and_then length_in (length_part text)) ≡ Some b = subst (λ x. option_and_then (network_at x) (option_and_then length_in (length_part text)) ≡ Some b) same there in
    cc
