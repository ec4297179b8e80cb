-- Texts that write networks.
use Rattle.std.specs.Prelude.{◌≡◌, ℕ, ◌+◌, ◌==◌, nat_lt, Bool, ◌&&◌, List, drop, length, Option, Some, None, option_map, option_and_then, if◌then◌else◌}
use Rattle.std.specs.List.{position, before_first}
use Rattle.std.specs.declared.net.ip_addr.IpAddr.{IpAddr}
use Rattle.std.specs.Net.Grammar.{IsIpText}
use Rattle.adr_state.specs.Digits.{number_within, starts_with_zero}
use Rattle.adr_network.specs.declared.network.Network.{Network}
use Rattle.adr_network.specs.Networks.{network_at}

-- what stands before the first `/` of a text
abbrev pub address_part : List ℕ → List ℕ
address_part text = before_first (λ b. b == 47) text

-- what stands behind the first `/` of a text, where it has one
abbrev pub length_part : List ℕ → Option (List ℕ)
length_part text = option_map (λ i. drop (i + 1) text) (position (λ b. b == 47) text)

-- digits that begin with a 0 and are more than that
abbrev pub is_padded : List ℕ → Bool
is_padded digits = starts_with_zero digits && nat_lt 1 (length digits)

-- the number that plain digits write, at most 128, unless they begin with a 0 and are more than that
abbrev pub length_in : List ℕ → Option ℕ
length_in digits = if is_padded digits then None else number_within 128 digits

-- the network of that length that begins at the address that std reads in the text
abbrev pub IsNetworkOf : List ℕ → Option ℕ → Network → Type 0
IsNetworkOf text length network = (address : IpAddr) × IsIpText text address × (option_and_then (network_at address) length ≡ Some network)

-- an address, `/`, and how many of its bits are the network's
abbrev pub IsNetworkText : List ℕ → Network → Type 0
IsNetworkText text network = IsNetworkOf (address_part text) (option_and_then length_in (length_part text)) network
