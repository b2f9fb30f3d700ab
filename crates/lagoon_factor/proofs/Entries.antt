-- Each of the table's 252 entries is right by the rule, is what the definition's terms make, and is at most a million: one test, which antt computes at every entry, and what it shows.
-- Assumes nothing.
use mathlib.Core.Path.{◌≡◌, refl}
use mathlib.Core.Bool.{Bool, ◌&&◌}
use Prim.Native.Nat.{ℕ, suc, ◌+◌, ◌*◌, ◌-◌, ◌^◌, ◌/◌, ◌≤◌, ◌<◌}
use native.Mathlib.Omega.{arith}
use native.Mathlib.Nat.{div-mul-le_self}
use lib.Dec.{T, eqb, leb, ltb, eqb→eq, leb→le, ltb→lt, lit≤}
use Rattle.laws.proofs.Table.{each, at, left, right}
use Rattle.lagoon_factor.specs.Rule.{million, denominator, added, subtracted, y_numerator, y_denominator, Rounded, cold_end, hot_end}
use Rattle.lagoon_factor.specs.Factor.{terms, summed_of, ruled_of}
use Rattle.lagoon_factor.proofs.Apart.{next_up}
use Rattle.lagoon_factor.proofs.Table.{factors, entry_of}

-- over the denominator d of the definition's terms, of which a are added and s subtracted: n is what they make, rounded down, and with the next
-- term, which is added, they stay below one more
fits : (d a s next n : ℕ) → Bool
fits d a s next n = ltb (million * (a + next)) ((n + 1) * d + million * s) && (leb s a && (leb n million && eqb n (million * (a - s) / d)))

passes : ℕ → Bool
passes c =
    let p = y_numerator c in
    let q = y_denominator c in
    fits (denominator q terms) (added p q terms) (subtracted p q terms) (p ^ terms) (entry_of c)

computed : T (each (λ k. passes (cold_end + k)) (hot_end - cold_end))
unfolding each passes fits denominator added subtracted entry_of factors
computed = tt

low : (n d s a : ℕ) → s ≤ a → n ≡ million * (a - s) / d → n * d + million * s ≤ million * a
low n d s a h e = let m : n * d ≤ million * (a - s) = rw e (div-mul-le_self (million * (a - s)) d) in omega arith

pub record Right (c n : ℕ) : Type 0 where
  pub rounded : Rounded c n
  pub most : n ≤ million
  pub made : n ≡ ruled_of c

pub entry_right : (c : ℕ) → cold_end ≤ c → c < hot_end → Right c (entry_of c)
unfolding passes fits ruled_of summed_of
entry_right c from below =
    let p = y_numerator c in
    let q = y_denominator c in
    let n = entry_of c in
    let e : cold_end + (c - cold_end) ≡ c = omega arith in
    let all : T (passes c) = rw e at (at (λ k. passes (cold_end + k)) (hot_end - cold_end) computed (c - cold_end) (omega arith)) in
    let up = ltb (million * (added p q terms + p ^ terms)) ((n + 1) * denominator q terms + million * subtracted p q terms) in
    let sound = leb (subtracted p q terms) (added p q terms) in
    let rest = right up _ all in
    let last = right sound _ rest in
    let made = eqb→eq _ _ (right (leb n million) _ last) in
    record {
      rounded = record {
        reaches = record { terms = terms; four = lit≤ tt; ended = refl; bound = low n _ _ _ (leb→le _ _ (left sound _ rest)) made };
        below = record { terms = suc terms; four = lit≤ tt; ended = refl; bound = next_up p q (omega arith) (n + 1) terms refl (ltb→lt _ _ (left up _ all)) };
      };
      most = leb→le _ _ (left (leb n million) _ last);
      made = made;
    }

-- so what the definition's terms make is right
pub ruled_right : (c : ℕ) → cold_end ≤ c → c < hot_end → Right c (ruled_of c)
ruled_right c low high = let r = entry_right c low high in rw r.made at r
