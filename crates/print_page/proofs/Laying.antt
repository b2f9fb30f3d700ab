-- Texts laid one after the other are laid as one: the second starts where the first ends, and neither changes another byte. Assumes nothing.
use mathlib.Core.Path.{◌≡◌, refl, sym, ap, ◌∙◌}
use mathlib.Core.List.{List, [], ◌∷◌, ◌++◌, append_assoc}
use Prim.Native.Nat.{ℕ, suc, ◌+◌, ◌-◌, ◌≤◌, ◌<◌}
use native.Mathlib.Numerals.{add-one}
use native.Mathlib.Omega.{arith}
use borrow.Rule.Slice.PartMut.{put_mid}
use lib.ListN.{length, take, drop, set, length-append, length-take, length-drop}
use lib.Seq.{take_at, length-take-le, drop-drop, drop-append-add, set_split, append_snoc}
use Rattle.print_page.specs.Page.{laid, Lays}

pub laid_length : (page : List ℕ) (at : ℕ) (text : List ℕ) → at + length text ≤ length page → length (laid page at text) ≡ length page
unfolding laid
laid_length page at text room = simp (length-append, length-take, length-drop) (omega arith)

laid_twice : (page : List ℕ) (at : ℕ) (s t : List ℕ) → at ≤ length page → laid (laid page at s) (at + length s) t ≡ laid page at (s ++ t)
unfolding laid
laid_twice page at s t within =
    let begun : List ℕ = take at page ++ s in
    let rest : List ℕ = drop (at + length s) page in
    let l : length begun ≡ at + length s = length-append (take at page) s ∙ ap (λ (n : ℕ). n + length s) (length-take-le at page within) in
    let front : take (at + length s) (begun ++ rest) ≡ begun = take_at begun rest (at + length s) l in
    let ends : at + length s + length t ≡ at + length (s ++ t) = omega (arith, length-append s t) in
    let back : drop (at + length s + length t) (begun ++ rest) ≡ drop (at + length (s ++ t)) page =
    ap (λ (n : ℕ). drop (n + length t) (begun ++ rest)) (sym l) ∙ drop-append-add begun rest (length t) ∙ drop-drop (length t) (at + length s) page
    ∙ ap (λ (n : ℕ). drop n page) ends in
    ap (λ (p : List ℕ). p ++ t ++ drop (at + length s + length t) (begun ++ rest)) front
    ∙ ap (λ (p : List ℕ). begun ++ t ++ p) back ∙ ap (λ (p : List ℕ). p ++ drop (at + length (s ++ t)) page) (append_assoc (take at page) s t)

pub joined :
    {page after whole : List ℕ} {at end last : ℕ} {s t : List ℕ} → Lays page at s end after → Lays after end t last whole → at ≤ length page →
    Lays page at (s ++ t) last whole
joined {page} {after} {whole} {at} {end} {last} {s} {t} first second within =
    record {
      ends = omega (arith, length-append s t, first.ends, second.ends);
      page = second.page ∙ rw (first.ends, first.page) (laid_twice page at s t within);
    }

-- what is laid from the page's first byte on ends within the page
pub within : {page after : List ℕ} {end : ℕ} {text : List ℕ} → Lays page 0 text end after → end ≤ length after
unfolding laid
within {page} {after} {end} {text} x = omega (arith, x.ends, simp length-append at (ap length x.page))

pub laid_none : (page : List ℕ) → page ≡ laid page 0 []
unfolding laid
laid_none page = refl

-- a part of the page that a copied text fills
pub copied :
    (page filled text : List ℕ) (at : ℕ) → filled ≡ text → put_mid at (at + length text - at) page filled ≡ laid page at text
unfolding laid
copied page filled text at whole =
    let d : at + length text - at ≡ length text = omega arith in
    rw (whole, d) (rw (drop-drop, append_assoc) refl)

-- one byte
pub stored : (page : List ℕ) (at byte : ℕ) → at < length page → set page at byte ≡ laid page at (byte ∷ [])
unfolding laid
stored page at byte h = set_split page at byte h ∙ sym (append_snoc (take at page) byte (drop (suc at) page)) ∙ rw add-one
