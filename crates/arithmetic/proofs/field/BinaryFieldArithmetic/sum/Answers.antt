-- What the proof of `field::BinaryFieldArithmetic::sum` leaves to be shown.
use Rattle.std.proofs.Common.{◌^◌, ◌<◌, refl, arith}
use lib.Bits.{xor_lt}
use Rattle.arithmetic.proofs.field.BinaryFieldArithmetic.sum.Goals as goal

pub returns : goal.returns
returns c =
    let m = c.args.self.now.degree in
    let ha : c.args.a < 2 ^ m = omega arith in
    let hb : c.args.b < 2 ^ m = omega arith in
    (ha, hb, xor_lt m c.args.a c.args.b ha hb, refl)
