-- Numbers have the same first bits where each of those is the same.
use Rattle.std.proofs.Common.{◌≡◌, ◌↔◌, IsTrue, ◌&&◌, ◌==◌, ℕ, ◌+◌, ◌-◌, ◌/◌, ◌%◌, ◌^◌, ◌≤◌, sym, ap, subst, ◌∙◌, arith}
use Rattle.std.specs.Int.{bit_at}
use Rattle.std.specs.declared.net.ip_addr.IpAddr.{IpAddr}
use Rattle.std.proofs.Math.Nat.{mod-lt}
use Rattle.std.proofs.lemmas.Nat.{div-add-mod', pow_pos}
use Rattle.std.proofs.lemmas.Nat.Bits.{bit_at_cat_high, same_from_bits}
use Rattle.adr_network.specs.declared.network.Network.{Network}
use Rattle.adr_network.specs.Bits.{asked_bits}
use Rattle.adr_network.specs.Networks.{has, HasFirstBits}

-- a bit of a number is one of its first bits
bit_of_first : (n k i : ℕ) → k ≤ i → bit_at n i ≡ bit_at (n / 2 ^ k) (i - k)
bit_of_first n k i within =
    subst (λ v. bit_at v i ≡ bit_at (n / 2 ^ k) (i - k)) (div-add-mod' n (2 ^ k))
    (bit_at_cat_high (n / 2 ^ k) k (n % 2 ^ k) i (mod-lt n (pow_pos k)) within)

pub same_bits : (n m k : ℕ) → n / 2 ^ k ≡ m / 2 ^ k → (i : ℕ) → k ≤ i → bit_at n i ≡ bit_at m i
same_bits n m k same i within =
    bit_of_first n k i within
    ∙ ap (λ v. bit_at v (i - k)) same
    ∙ sym (bit_of_first m k i within)

pub same_first : (n m k : ℕ) → ((i : ℕ) → k ≤ i → bit_at n i ≡ bit_at m i) → n / 2 ^ k ≡ m / 2 ^ k
same_first n m k same = same_from_bits (n / 2 ^ k) (m / 2 ^ k) one
  where
    at : (v j : ℕ) → bit_at v (j + k) ≡ bit_at (v / 2 ^ k) j
    at v j = bit_of_first v k (j + k) (omega arith) ∙ ap (λ i. bit_at (v / 2 ^ k) i) (omega arith)

    one : (j : ℕ) → bit_at (n / 2 ^ k) j ≡ bit_at (m / 2 ^ k) j
    one j = sym (at n j) ∙ same (j + k) (omega arith) ∙ at m j

-- two numbers of one count of bits, compared by the number that the first bits write
agree : (c d n m l : ℕ) → IsTrue ((c == d) && (n / 2 ^ (c - l) == m / 2 ^ (d - l))) → (c ≡ d) × ((i : ℕ) → d - l ≤ i → bit_at n i ≡ bit_at m i)
agree c d n m l h =
    let same : c ≡ d = grind arith in
    let first : n / 2 ^ (c - l) ≡ m / 2 ^ (d - l) = grind arith in
    (same, same_bits n m (d - l) (subst (λ v. n / 2 ^ (v - l) ≡ m / 2 ^ (d - l)) same first))

back : (c d n m l : ℕ) → c ≡ d → ((i : ℕ) → d - l ≤ i → bit_at n i ≡ bit_at m i) → IsTrue ((c == d) && (n / 2 ^ (c - l) == m / 2 ^ (d - l)))
back c d n m l same bits =
    let first : n / 2 ^ (d - l) ≡ m / 2 ^ (d - l) = same_first n m (d - l) bits in
    let both : n / 2 ^ (c - l) ≡ m / 2 ^ (d - l) = subst (λ v. n / 2 ^ (v - l) ≡ m / 2 ^ (d - l)) (sym same) first in
    grind arith

-- a network has the addresses with its first bits
pub has_first_bits : (network : Network) (address : IpAddr) → IsTrue (has network address) ↔ HasFirstBits network address
has_first_bits network address = (
  λ h. agree (asked_bits address).count network.bits.count (asked_bits address).number network.bits.number network.length h,
  λ h. back (asked_bits address).count network.bits.count (asked_bits address).number network.bits.number network.length h.0 h.1,
)
