-- What the proof of `field::BinaryFieldArithmetic::one` leaves to be shown.
use Rattle.std.proofs.Common.{refl, arith, pow_mono}
use Rattle.arithmetic.proofs.field.BinaryFieldArithmetic.one.Goals as goal

pub returns : goal.returns
returns c = (refl, omega (arith, pow_mono {i = 2} {j = c.args.self.now.degree} (omega arith)))
