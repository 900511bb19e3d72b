use Rattle.std.proofs.Common.{◌≡◌, ℕ, ◌^◌, ◌-◌, ◌<◌, FitsSigned, arith}
use Rattle.std.specs.Prelude.{ℤ, pos, ◌*ℤ◌}
use Rattle.std.specs.Int.{w32, w64, cast_signed, cast_unsigned}
use Rattle.std.proofs.lemmas.Int.{ints, to_z-of_z, fits_signed_mul}
use Rattle.rv_hart.proofs.compute.mixed_product.Goals as goal

product-fits : (a : ℤ) (b : ℕ) → FitsSigned w32 a → b < 2 ^ 32 → FitsSigned w64 (a *ℤ pos b)
product-fits a b a_fits b_fits = fits_signed_mul w64 a (pos b) (2 ^ 31) (2 ^ 32 - 1) (omega (arith, ints)) (omega (arith, ints)) (omega arith)

wide : (a x : ℤ) → FitsSigned w32 a → x ≡ cast_signed w32 (cast_unsigned w32 a) → cast_signed w64 (cast_unsigned w64 x) ≡ a
wide a x fits is = omega (arith, ints)

wide-pos : (b : ℕ) (y : ℤ) → b < 2 ^ 32 → y ≡ pos b → cast_signed w64 (cast_unsigned w64 y) ≡ pos b
wide-pos b y fits is = omega (arith, ints)

pub overflow_mul-result : goal.overflow_mul-result
overflow_mul-result c =
    rw (wide c.args.a c.from.result c.ranges.a c.from.ensures, wide-pos c.args.b c.from-2.result c.ranges.b.fits c.from-2.ensures) (product-fits c.args.a c.args.b c.ranges.a c.ranges.b.fits)

pub returns : goal.returns
returns c =
    let fits : FitsSigned w64 (c.args.a *ℤ pos c.args.b) = product-fits c.args.a c.args.b c.ranges.a c.ranges.b.fits in
    rw (wide c.args.a c.from.result c.ranges.a c.from.ensures, wide-pos c.args.b c.from-2.result c.ranges.b.fits c.from-2.ensures) (to_z-of_z w64 (c.args.a *ℤ pos c.args.b) fits)
