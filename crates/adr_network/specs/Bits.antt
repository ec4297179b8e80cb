-- Addresses as their bits.
use Rattle.std.specs.Prelude.{ℕ, ◌-◌, ◌/◌, ◌%◌, ◌^◌, ◌==◌, if◌then◌else◌}
use Rattle.std.specs.declared.net.ip_addr.IpAddr.{IpAddr}
use Rattle.std.specs.declared.net.ip_addr.IpAddr.TheVariants.{V4, V6}
use Rattle.std.specs.Net.Addr.{ipv4_bits, ipv6_bits}
use Rattle.adr_network.specs.declared.bits.Bits.{Bits}

-- an IPv4 address has 32 bits, an IPv6 address 128
abbrev pub bits_of : IpAddr → Bits
bits_of (V4 ip) = record { count = 32; number = ipv4_bits ip }
bits_of (V6 ip) = record { count = 128; number = ipv6_bits ip }

-- an IPv6 address that is ::ffff:a.b.c.d, 0xffff before 32 bits, counts as the IPv4 address a.b.c.d
abbrev pub unmapped : ℕ → Bits
unmapped number = if number / 2 ^ 32 == 0xffff then record { count = 32; number = number % 2 ^ 32 } else record { count = 128; number = number }

-- the bits of an address that is asked about: one that is ::ffff:a.b.c.d counts as a.b.c.d
abbrev pub asked_bits : IpAddr → Bits
asked_bits (V4 ip) = bits_of (V4 ip)
asked_bits (V6 ip) = unmapped (ipv6_bits ip)

-- the number that the first bits write, so many of them
abbrev pub first_bits : ℕ → Bits → ℕ
first_bits length bits = bits.number / 2 ^ (bits.count - length)

-- and the one that those behind them do
abbrev pub bits_behind : ℕ → Bits → ℕ
bits_behind length bits = bits.number % 2 ^ (bits.count - length)
