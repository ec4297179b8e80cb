-- The number of digits that were read so far.
use Rattle.std.proofs.Common.{ℕ, ◌+◌, ◌-◌, ◌*◌, ◌^◌, ◌<◌, ◌≤◌, suc, arith}
use Rattle.std.proofs.Math.Nat.{pow-suc, pow-le-pow_right}

-- a digit more is below the next power of ten
pub one_more : (n i d : ℕ) → n < 10 ^ i → d ≤ 57 → n * 10 + (d - 48) < 10 ^ suc i
one_more n i d small digit = rw (pow-suc 10 i) (omega (arith, small, digit))

-- what at most 15 digits wrote has room for one more in 64 bits
pub room : (n i : ℕ) → i < 16 → n < 10 ^ i → n < 1_000_000_000_000_000
room n i few small =
    let most : 10 ^ i ≤ 10 ^ 15 = pow-le-pow_right {n = 10} (omega arith) {i = i} {j = 15} (omega arith) in
    omega (arith, small, most)
