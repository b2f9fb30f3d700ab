-- Sums and searches over numbers. They know nothing of the paper.
use Rattle.std.specs.Prelude.{ℕ, zero, suc, ◌+◌, Bool, cond, leb}

-- f 1 + .. + f n
unfoldable pub sum : ℕ → (ℕ → ℕ) → ℕ
sum zero f = 0
sum (suc n) f = sum n f + f (suc n)

-- the first of n numbers, from a on, that passes a test, or the one after them
unfoldable pub first_from : ℕ → ℕ → (ℕ → Bool) → ℕ
first_from a zero test = a
first_from a (suc n) test = cond (test a) a (first_from (a + 1) n test)

-- the first from 1 to n, or n + 1
abbrev pub first : ℕ → (ℕ → Bool) → ℕ
first n test = first_from 1 n test

-- one of 1 to n passes
abbrev pub some : ℕ → (ℕ → Bool) → Bool
some n test = leb (first n test) n
