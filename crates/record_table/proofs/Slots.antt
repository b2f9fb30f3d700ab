-- Keys of a row are counted as digits, and the rows' slots follow each other, so every slot lies below their number. Assumes nothing.
use mathlib.Core.Path.{◌≡◌, refl, sym, ap, subst, ◌∙◌}
use mathlib.Core.Bool.{Bool, true, false}
use mathlib.Core.List.{List, [], ◌∷◌}
use mathlib.Core.Logic.{◌⊎◌, inl, inr, ⊎_elim}
use Prim.Native.Nat.{ℕ, zero, suc, ◌+◌, ◌*◌, ◌-◌, ◌^◌, ◌≤◌, ◌<◌}
use native.Mathlib.Nat.{add-mul, pow-suc, pow-le-pow_right, mul_assoc, mul-le-mul_left, lt_of_lt_of_le, mul-le-mul_right, suc-mul, le_of_suc-le-suc, not-suc-le-zero}
use native.Mathlib.Omega.{arith}
use borrow.Author.Tests.{ltb-true, ltb-false}
use lib.Dec.{ltb}
use lib.ListN.{length, get_or, take, drop, length-drop}
use Rattle.std.proofs.lemmas.Grind.{get_or_after_one}
use Rattle.std.proofs.lemmas.List.{drop_more, drop_all}
use Rattle.record_table.specs.Table.{Row, no_row, table, highest_of}
use Rattle.record_table.specs.Slot.{count, index, total, slots, slot_of}

compared : (a b : ℕ) (t : Bool) → ltb a b ≡ t → (a < b) ⊎ (b ≤ a)
compared a b true e = inl (ltb-true a b e)
compared a b false e = inr (ltb-false a b e)

pub lt_or_ge : (a b : ℕ) → (a < b) ⊎ (b ≤ a)
lt_or_ge a b = compared a b (ltb a b) refl

-- a leading digit: the number is below as many, and two numbers that are equal have equal digits
digit_below : (a high m i : ℕ) → a < high → i < m → a * m + i < high * m
digit_below a high m i h l = omega (arith, mul-le-mul_right {m = suc a} {n = high} m h, suc-mul a m)

digit_less : (a b m i j : ℕ) → a < b → i < m → a * m + i ≡ b * m + j → ⊥
digit_less a b m i j h l e = omega (arith, mul-le-mul_right {m = suc a} {n = b} m h, suc-mul a m)

pub digit_same : (a b m i j : ℕ) → i < m → j < m → a * m + i ≡ b * m + j → a ≡ b
digit_same a b m i j l k e =
    ⊎_elim
    (λ lt. absurd (digit_less a b m i j lt l e))
    (λ ge. ⊎_elim (λ lt. absurd (digit_less b a m j i lt k (sym e))) (λ le. omega arith) (lt_or_ge b a))
    (lt_or_ge a b)

-- a key whose bytes are at most their highest values comes before the number of keys
abbrev pub Low : List ℕ → List ℕ → Type 0
Low [] bytes = Unit {0}
Low (high ∷ highest) [] = ⊥
Low (high ∷ highest) (byte ∷ bytes) = (byte - 1 < high) × Low highest bytes

pub index_below : (highest bytes : List ℕ) → Low highest bytes → index highest bytes < count highest
unfolding index count
index_below [] bytes l = omega arith
index_below (high ∷ highest) [] l = absurd l
index_below (high ∷ highest) (byte ∷ bytes) l = digit_below (byte - 1) high (count highest) (index highest bytes) l.0 (index_below highest bytes l.1)

-- the rows' slots follow each other
next : (rows : List Row) (n : ℕ) → n < length rows → total (take n rows) + count (get_or rows n no_row).highest ≡ total (take (suc n) rows)
unfolding total
next [] n h = absurd (not-suc-le-zero h)
next (row ∷ rows) zero h = omega arith
next (row ∷ rows) (suc n) h = omega (arith, next rows n (le_of_suc-le-suc h))

rises : (rows : List Row) (n m : ℕ) → n ≤ m → total (take n rows) ≤ total (take m rows)
unfolding total
rises rows zero m h = omega arith
rises rows (suc n) zero h = absurd (not-suc-le-zero h)
rises [] (suc n) (suc m) h = omega arith
rises (row ∷ rows) (suc n) (suc m) h = omega (arith, rises rows n m (le_of_suc-le-suc h))

-- the first slot of a row, or how many slots there are
abbrev pub first_slot : ℕ → ℕ
first_slot row = total (take row table)

pub first_next : (row : ℕ) → row < length table → first_slot row + count (highest_of row) ≡ first_slot (suc row)
first_next row h = next table row h

pub first_rises : (n m : ℕ) → n ≤ m → first_slot n ≤ first_slot m
first_rises = rises table

first_all : first_slot (length table) ≡ slots
unfolding slots
first_all = refl

-- a slot of a row lies among the row's slots
pub record Among (row k : ℕ) : Type 0 where
  pub from : first_slot row ≤ k
  pub below : k < first_slot (suc row)

pub among : (row : ℕ) → row < length table → (bytes : List ℕ) → Low (highest_of row) bytes → Among row (slot_of row bytes)
unfolding slot_of
among row h bytes l =
    let i = index_below (highest_of row) bytes l in
    let f = first_next row h in
    record { from = omega arith; below = omega arith }

pub among_all : (row k : ℕ) → row < length table → Among row k → k < slots
among_all row k h a = subst (λ (n : ℕ). k < n) first_all (lt_of_lt_of_le a.below (first_rises (suc row) (length table) h))

pub one_row : (n m k : ℕ) → Among n k → Among m k → n ≡ m
one_row n m k a b =
    ⊎_elim
    (λ lt. let z : ⊥ = omega (arith, a.below, b.from, first_rises (suc n) m lt) in absurd z)
    (λ ge. ⊎_elim (λ lt. let z : ⊥ = omega (arith, a.from, b.below, first_rises (suc m) n lt) in absurd z) (λ le. omega arith) (lt_or_ge m n))
    (lt_or_ge n m)

-- the keys before a given one, counted on byte by byte from the first
abbrev pub counted_on : ℕ → List ℕ → List ℕ → ℕ
counted_on before [] bytes = before
counted_on before (high ∷ highest) [] = before
counted_on before (high ∷ highest) (byte ∷ bytes) = counted_on (before * high + (byte - 1)) highest bytes

pub counted : (before : ℕ) (highest bytes : List ℕ) → length highest ≡ length bytes → counted_on before highest bytes ≡ before * count highest + index highest bytes
unfolding count index
counted before [] bytes e = omega arith
counted before (high ∷ highest) [] e = let z : ⊥ = omega (arith, e) in absurd z
counted before (high ∷ highest) (byte ∷ bytes) e =
    counted (before * high + (byte - 1)) highest bytes (omega (arith, e))
    ∙ omega (arith, add-mul (before * high) (byte - 1) (count highest), mul_assoc before high (count highest))

-- and one more byte leaves few
pub few : (before high byte most : ℕ) → before < most → (before ≡ 0) ⊎ (high < 256) → byte < 256 → before * high + (byte - 1) < most * 256
few before high byte most l (inl none) b = rw none (omega arith)
few before high byte most l (inr h) b = omega (arith, mul-le-mul_left {m = high} {n = 255} before (omega arith))

module _ (highest bytes : List ℕ) (before i : ℕ) (h : i < length highest) (b : i < length bytes) where
  pub turn : counted_on before (drop i highest) (drop i bytes) ≡ counted_on (before * get_or highest i 0 + (get_or bytes i 0 - 1)) (drop (i + 1) highest) (drop (i + 1) bytes)
  turn =
      ap (λ (xs : List ℕ). counted_on before xs (drop i bytes)) (drop_more highest i 0 h)
      ∙ ap (counted_on before (get_or highest i 0 ∷ drop (i + 1) highest)) (drop_more bytes i 0 b)

  small_high : ((k d : ℕ) → k < length (drop 1 highest) → get_or (drop 1 highest) k d < 256) → before < 256 ^ i → (before ≡ 0) ⊎ (get_or highest i 0 < 256)
  small_high rest few_so_far = compared_zero i refl
    where
      compared_zero : (j : ℕ) → i ≡ j → (before ≡ 0) ⊎ (get_or highest i 0 < 256)
      compared_zero zero e = inl (let one : before < 1 = rw e at few_so_far in omega arith)
      compared_zero (suc j) e =
          let at : 1 + j ≡ i = omega (arith, e) in
          inr (subst (λ (x : ℕ). x < 256) (get_or_after_one highest j 0 ∙ ap (λ (k : ℕ). get_or highest k 0) at) (rest j 0 (rw length-drop (omega (arith, h, e)))))

  pub fewer :
      ((k d : ℕ) → k < length (drop 1 highest) → get_or (drop 1 highest) k d < 256) → ((k d : ℕ) → k < length bytes → get_or bytes k d < 256) → before < 256 ^ i →
      before * get_or highest i 0 + (get_or bytes i 0 - 1) < 256 ^ (i + 1)
  fewer rest each l =
      let one : i + 1 ≡ suc i = omega arith in
      let power : 256 ^ (i + 1) ≡ 256 ^ i * 256 = ap (λ (k : ℕ). 256 ^ k) one ∙ pow-suc 256 i in
      omega (arith, few before (get_or highest i 0) (get_or bytes i 0) (256 ^ i) l (small_high rest l) (each i 0 b), power)

  pub product_small : ((k d : ℕ) → k < length (drop 1 highest) → get_or (drop 1 highest) k d < 256) → before < 256 ^ i → i < 4 → before * get_or highest i 0 < 2 ^ 32
  product_small rest l four = go (small_high rest l)
    where
      go : (before ≡ 0) ⊎ (get_or highest i 0 < 256) → before * get_or highest i 0 < 2 ^ 32
      go (inl none) = rw none (omega arith)
      go (inr h) = omega (arith, mul-le-mul_left {m = get_or highest i 0} {n = 255} before (omega arith), pow-le-pow_right {n = 256} (omega arith) {i = i} {j = 3} (omega arith), l)

pub power_small : (i : ℕ) → i ≤ 4 → 256 ^ i ≤ 2 ^ 32
power_small i l = pow-le-pow_right {n = 256} (omega arith) {i = i} {j = 4} l

-- and where no byte is left, all are counted
pub all_counted :
    (highest bytes : List ℕ) (before i : ℕ) → length highest ≡ length bytes → length highest ≤ i →
    counted_on before (drop i highest) (drop i bytes) ≡ counted_on 0 highest bytes → before ≡ index highest bytes
all_counted highest bytes before i same end e =
    sym (ap (λ (xs : List ℕ). counted_on before xs (drop i bytes)) (drop_all i highest end)) ∙ e ∙ counted 0 highest bytes same ∙ omega arith
