-- `meter_reading::scaled` meets its contract: what `is_between` passes is scaled by a product that is exact, and `floor` gives that product's whole part.
-- Assumes nothing.
use Rattle.std.proofs.Common.{◌≡◌, ℕ, Some, None, ◌^◌, ◌<◌, ◌≤◌, Bool, true, cond, not, T, pos, sym, ap, ◌∙◌, subst, arith, rules}
use lib.Ieee.{Float, binary32, binary64, fits, is_nan, mul, of_int}
use lib.Ieee.Fits.{and_i, fits_widens}
use Rattle.meter_reading.specs.Exact.{times_down, is_between, scaled_of}
use Rattle.meter_reading.proofs.Product.{product}
use Rattle.meter_reading.proofs.Comparisons.{no_nan, whole_64}
use Rattle.meter_reading.proofs.scaled.Goals as goal

-- the product that the code makes
abbrev scaling : Float → ℕ → Float
scaling x factor = mul binary64 x (of_int binary64 (pos factor))

-- what `product` says of a float of the range: an `f32` is one that the format holds
exact : (x : Float) (factor least most : ℕ) → T (fits binary32 x) → T (is_between least most x) → factor < 2 ^ 28 → most ≤ 2 ^ 24
    → T (is_between 0 (2 ^ 52) (scaling x factor)) × (times_down 1 (scaling x factor) ≡ times_down factor x)
exact x factor least most held in_range small bound = product x (of_int binary64 (pos factor)) factor least most held in_range (whole_64 factor (omega arith)) small bound

pub float_to_float-product : goal.float_to_float-product
float_to_float-product c =
    let in_range : T (is_between c.args.least c.args.most c.args.x) = subst T c.if-is_between.ensures tt in
    and_i (fits binary64 c.args.x) (not (is_nan c.args.x)) (fits_widens c.args.x c.type_inv.x) (no_nan c.args.x c.args.least c.args.most in_range)

pub floor-requires : goal.floor-requires
floor-requires c =
    let in_range : T (is_between c.args.least c.args.most c.args.x) = subst T c.if-is_between.ensures tt in
    (exact c.args.x c.args.factor c.args.least c.args.most c.type_inv.x in_range c.requires.factor_bound c.requires.ends_exact.1).0

pub returns-then-is_between : goal.returns-then-is_between
unfolding scaled_of
returns-then-is_between c =
    let passed : is_between c.args.least c.args.most c.args.x ≡ true = sym c.if-is_between.ensures in
    let in_range : T (is_between c.args.least c.args.most c.args.x) = subst T (sym passed) tt in
    let held : T (fits binary32 c.args.x) = search rules in
    ap Some (c.floor.ensures ∙ (exact c.args.x c.args.factor c.args.least c.args.most held in_range c.requires.factor_bound c.requires.ends_exact.1).1)
    ∙ sym (ap (λ (b : Bool). cond b (Some (times_down c.args.factor c.args.x)) None) passed)
