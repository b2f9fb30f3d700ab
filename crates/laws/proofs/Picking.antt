-- What holds of both holds of the one that a test picks; each may be shown with what the test then says. Assumes nothing.
use mathlib.Core.Bool.{Bool, true, false, cond}
use mathlib.Core.Path.{◌≡◌, refl}

pub picked : {A : Type 0} (P : A → Type 0) (test : Bool) {yes no : A} → (test ≡ true → P yes) → (test ≡ false → P no) → P (cond test yes no)
picked P true f g = f refl
picked P false f g = g refl

pub either : {A : Type 0} (P : A → Type 0) (test : Bool) {yes no : A} → P yes → P no → P (cond test yes no)
either P test p q = picked P test (λ e. p) (λ e. q)
