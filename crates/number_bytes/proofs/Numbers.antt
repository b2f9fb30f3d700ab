-- Numbers from bytes: one byte more in front, and a bound by the bytes. Assumes nothing.
use mathlib.Core.Path.{◌≡◌}
use mathlib.Core.List.{List, [], ◌∷◌, ◌++◌}
use Prim.Native.Nat.{ℕ, zero, suc, ◌+◌, ◌*◌, ◌-◌, ◌^◌, ◌≤◌, ◌<◌}
use native.Mathlib.Nat.{pow-zero, pow-suc, lt_of_lt_of_le, pow-le-pow_right}
use native.Mathlib.Omega.{arith}
use lib.ListN.{length, get_or}
use Rattle.std.proofs.lemmas.Grind.{common_steps}
use Rattle.number_bytes.specs.Number.{number_at}

-- Some bytes from `at` on are left of so many, and the number of those after them is known. One more of them goes in front of it, from the last to the first.
abbrev pub SoFar : List ℕ → ℕ → ℕ → ℕ → List ℕ → Type 0
SoFar s at wide value left =
    (value ≡ number_at s (at + length left) (wide - length left)) × (length left ≤ wide) × ((k : ℕ) → k < length left → get_or left k 0 ≡ get_or s (at + k) 0)

pub turn : (s left rest : List ℕ) (at wide value byte : ℕ) → left ≡ rest ++ (byte ∷ []) → SoFar s at wide value left → SoFar s at wide (value * 256 + byte) rest
unfolding number_at
turn s left rest at wide value byte is (so_far, l, each) =
    let long : length left ≡ length rest + 1 = grind (arith, common_steps) in
    let own : byte ≡ get_or s (at + length rest) 0 = grind (arith, common_steps, each (length rest)) in
    let e : wide - length rest ≡ suc (wide - length left) = omega (arith, long, l) in
    let a : at + length rest + 1 ≡ at + length left = omega (arith, long) in
    (rw (e, a) (omega (arith, own, so_far)), omega (arith, long, l), λ k h. grind (arith, common_steps, each k))

module _ (s : List ℕ) (bytes : (k : ℕ) → get_or s k 0 < 256) where
  pub number_bound : (at n : ℕ) → number_at s at n < 256 ^ n
  unfolding number_at
  number_bound at zero = rw pow-zero (omega arith)
  number_bound at (suc n) = rw pow-suc (omega (arith, bytes at, number_bound (at + 1) n))

  -- a number of fewer than eight bytes has room for one more
  pub more_fits : (at n : ℕ) → n < 8 → number_at s at n * 256 + 256 ≤ 2 ^ 64
  more_fits at n l =
      let few : number_at s at n < 256 ^ 7 = lt_of_lt_of_le (number_bound at n) (pow-le-pow_right {n = 256} (omega arith) {i = n} {j = 7} (omega arith)) in
      omega arith
