-- The bytes that a record puts into its slot are a record of the table, judged as it is, and stored as they are: no caller asks more of them.
-- Assumes nothing.
use mathlib.Core.Path.{◌≡◌, refl, ap, ◌∙◌, subst}
use mathlib.Core.Bool.{Bool, true, false}
use mathlib.Core.List.{List}
use Prim.Native.Nat.{ℕ}
use Rattle.std.specs.Prelude.{Ok}
use lib.ListN.{length}
use Rattle.record_table.specs.Table.{record_bytes}
use Rattle.record_defaults.specs.StandsFor.{Named, stands_for}
use Rattle.record_judge.specs.Defaults.{is_defaults}
use Rattle.record_judge.specs.Record.{judged, stored_of}
use Rattle.record_judge.specs.declared.Change.TheVariants.{Put}
use Rattle.record_judge.proofs.Defaults.{line_own, line_judged, named}
use Rattle.record_judge.proofs.Taken.{Taken, defaults_put, row_put}

-- a defaults line stores its LN, and any other record itself
pub stored_line : (r : List ℕ) → is_defaults r ≡ true → stored_of r ≡ stands_for r
unfolding stored_of
stored_line r d = simp d

pub stored_itself : (r : List ℕ) → is_defaults r ≡ false → stored_of r ≡ r
unfolding stored_of
stored_itself r d = simp d

-- so what is stored is no defaults line, and stored as it is
stored_other : (r : List ℕ) → is_defaults (stored_of r) ≡ false
stored_other r = go (is_defaults r) refl
  where
    go : (b : Bool) → is_defaults r ≡ b → is_defaults (stored_of r) ≡ false
    go true d = ap is_defaults (stored_line r d) ∙ line_own r
    go false d = ap is_defaults (stored_itself r d) ∙ d

pub stored_once : (r : List ℕ) → stored_of (stored_of r) ≡ stored_of r
stored_once r = stored_itself (stored_of r) (stored_other r)

module _ (r : List ℕ) (k : ℕ) (e : judged r ≡ Ok (Put k)) where
  pub stored_judged : judged (stored_of r) ≡ Ok (Put k)
  stored_judged = go (is_defaults r) refl
    where
      go : (b : Bool) → is_defaults r ≡ b → judged (stored_of r) ≡ Ok (Put k)
      go true d =
          let put = defaults_put r k e d in
          ap judged (stored_line r d) ∙ line_judged r put.0 ∙ ap (λ (slot : ℕ). Ok (Put slot)) put.1
      go false d = ap judged (stored_itself r d) ∙ e

  pub taken : Taken (stored_of r) k
  taken = row_put (stored_of r) k stored_judged (stored_other r)

  pub stored_long : length (stored_of r) ≡ record_bytes
  stored_long = taken.long

  -- a record that stores itself is one of the table
  pub taken_itself : stored_of r ≡ r → Taken r k
  taken_itself same = subst (λ (bytes : List ℕ). Taken bytes k) same taken

  -- and a defaults line names a livestock and a state of the tables
  pub put_named : is_defaults r ≡ true → Named r
  put_named d = named r (defaults_put r k e d).0
