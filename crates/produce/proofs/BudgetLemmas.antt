-- Enough words are fewer than a number of 128 bits can be.
use Rattle.std.proofs.Common.{◌≡◌, ℕ, ◌+◌, ◌*◌, ◌^◌, ◌%◌, ◌<◌, ◌≤◌, arith}
use Rattle.std.proofs.Math.Nat.{mod-le, mul-le-mul, pow-le-pow_right}

-- the product is below 2 ^ 98
pub enough_fits : (n v a b : ℕ) → n ≤ 64 → v < 4294967296 → a ≡ v → b ≡ n
    → 1 * 2 ^ (n + 1) % 340282366920938463463374607431768211456 * (a + b + 5) ≤ 36893488147419103232 * 4294967365
enough_fits n v a b few small same_v same_n =
    let power : 2 ^ (n + 1) ≤ 36893488147419103232 = pow-le-pow_right {n = 2} (omega arith) {i = n + 1} {j = 65} (omega arith) in
    let rest = mod-le (1 * 2 ^ (n + 1)) 340282366920938463463374607431768211456 in
    let factor : 1 * 2 ^ (n + 1) % 340282366920938463463374607431768211456 ≤ 36893488147419103232 = omega arith in
    let other : a + b + 5 ≤ 4294967365 = omega arith in
    mul-le-mul factor other
