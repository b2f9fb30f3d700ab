-- A figure as text: decimal, with a minus sign where it is below 0 (01, "Figures to check"). A text is the list of its bytes.
-- Assumes nothing.
use Prim.Native.{Nat.ℕ, Nat.zero, Nat.suc, Nat.◌+◌, Nat.◌/◌, Nat.◌%◌, Char.code, String.String, String.[] as none, String.◌∷◌ as ◌then◌}
use mathlib.Core.{Bool.cond, List.List, List.[], List.◌∷◌, List.◌++◌}
use lib.{Dec.ltb, IntN.ℤ, IntN.pos, IntN.negsuc}

-- the bytes of a word of ASCII letters
abbrev pub word : String → List ℕ
word none = []
word (letter then letters) = code letter ∷ word letters

abbrev pub base : ℕ
base = 10

-- the byte of a digit
abbrev pub digit : ℕ → ℕ
digit d = code "0" + d

-- the digits of n, or its last `most` ones: those of n / 10, where n has more than one, and then its last
unfoldable pub last_digits : ℕ → ℕ → List ℕ
last_digits zero n = []
last_digits (suc most) n = let earlier = last_digits most (n / base) in cond (ltb n base) [] earlier ++ (digit (n % base) ∷ [])

-- all of them: no number n has more than n + 1
unfoldable pub decimal : ℕ → List ℕ
decimal n = last_digits (suc n) n

-- the same of a number that may be below 0
unfoldable pub signed : ℤ → List ℕ
signed (pos n) = decimal n
signed (negsuc n) = word "-" ++ decimal (suc n)
