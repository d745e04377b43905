-- Every figure of a well-formed record fits 64 bits, so that none is cut.
use Rattle.std.specs.Prelude.{ℕ, ◌+◌, ◌*◌, ◌^◌, ◌%◌, ◌≤◌, ◌<◌, ◌≡◌}
use Rattle.std.proofs.Common.{arith}
use Rattle.std.proofs.Math.Nat.{mod-eq_of_lt}
use Rattle.std.proofs.Math.Pow.{pow_mono}
use Rattle.std.proofs.lemmas.Nat.{mul-le}
use Rattle.link_figures.specs.Figures.{microseconds_of}

-- a number of 32 bits, scaled by one of four bits and at most 6 more
pub scaled_most : (v k s : ℕ) → v < 4294967296 → k ≤ 6 → s < 16 → (v + 1) * 2 ^ (k + s) ≤ 9007199254740992
scaled_most v k s l h g =
    let p : 2 ^ (k + s) ≤ 2097152 = pow_mono {j = 21} (omega (arith, h, g)) in
    omega (arith, mul-le (v + 1) (2 ^ (k + s)) 4294967296 2097152 (omega (arith, l)) p)

pub scaled_whole : (v k s : ℕ) → v < 4294967296 → k ≤ 6 → s < 16 → (v + 1) * 2 ^ (k + s) % 18446744073709551616 ≡ (v + 1) * 2 ^ (k + s)
scaled_whole v k s l h g = mod-eq_of_lt (omega (arith, scaled_most v k s l h g))

-- so many ticks of a clock, in microseconds
pub microseconds_most : (d u : ℕ) → d ≤ 2047 → u < 4294967296 → microseconds_of d u ≤ 8796093020160000000
unfolding microseconds_of
microseconds_most d u h l = omega (arith, mul-le (d + 1) u 2048 4294967295 (omega (arith, h)) (omega (arith, l)))
