-- A record's slot tells its key, which for a defaults line is LN's: no two keys share a slot; and every slot lies inside the book. Assumes nothing.
use mathlib.Core.Path.{◌≡◌}
use mathlib.Core.List.{List}
use Prim.Native.Nat.{ℕ, ◌+◌, ◌*◌, ◌≤◌}
use native.Mathlib.Omega.{arith}
use Rattle.std.specs.Prelude.{Ok}
use Rattle.record_table.specs.Table.{record_bytes}
use Rattle.record_judge.specs.Record.{key_of, key_row, judged}
use Rattle.record_judge.specs.declared.Change.TheVariants.{Put}
use Rattle.record_judge.proofs.Keys.{put_below, one_key}
use Rattle.book.specs.Book.{book_bytes}

pub tells : (r s : List ℕ) (k : ℕ) → judged r ≡ Ok (Put k) → judged s ≡ Ok (Put k) → (key_row r ≡ key_row s) × (key_of (key_row r) r ≡ key_of (key_row s) s)
tells = one_key

pub inside : (r : List ℕ) (k : ℕ) → judged r ≡ Ok (Put k) → k * record_bytes + record_bytes ≤ book_bytes
inside r k e = omega (arith, put_below r k e)
