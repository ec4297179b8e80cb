-- Networks, and the addresses in them.
use Rattle.std.specs.Prelude.{◌≡◌, ◌↔◌, IsTrue, ℕ, ◌-◌, ◌≤◌, ◌==◌, nat_le, Bool, true, ◌&&◌, List, Option, Some, None, if◌then◌else◌}
use Rattle.std.specs.Int.{bit_at}
use Rattle.std.specs.List.{list_any}
use Rattle.std.specs.declared.net.ip_addr.IpAddr.{IpAddr}
use Rattle.adr_network.specs.declared.network.Network.{Network}
use Rattle.adr_network.specs.Bits.{bits_of, asked_bits, first_bits, bits_behind}

-- the network of so many first bits that begins at the address: those behind them are 0
abbrev pub network_at : IpAddr → ℕ → Option Network
network_at address length = if nat_le length (bits_of address).count && (bits_behind length (bits_of address) == 0) then Some (record { bits = bits_of address; length = length }) else None

-- the address is of the network's family, and has the same first bits
abbrev pub has : Network → IpAddr → Bool
has network address = ((asked_bits address).count == network.bits.count) && (first_bits network.length (asked_bits address) == first_bits network.length network.bits)

-- the address is of the network's family, and each of the first bits is the same. Bit 0 is the last one.
abbrev pub HasFirstBits : Network → IpAddr → Type 0
HasFirstBits network address = ((asked_bits address).count ≡ network.bits.count) × ((i : ℕ) → network.bits.count - network.length ≤ i → bit_at (asked_bits address).number i ≡ bit_at network.bits.number i)

-- a network has those addresses and no others
abbrev pub HaveFirstBits : Type 0
HaveFirstBits = (network : Network) (address : IpAddr) → IsTrue (has network address) ↔ HasFirstBits network address

-- one of the networks has the address
abbrev pub has_one : List Network → IpAddr → Bool
has_one networks address = list_any (λ network. has network address) networks

-- where networks are named, an address may be called if one of them has it, and else in any case
abbrev pub allows : Option (List Network) → IpAddr → Bool
allows None address = true
allows (Some networks) address = has_one networks address
