-- What the proof of `field::BinaryFieldArithmetic::inverse` leaves to be shown.
use Rattle.std.proofs.Common.{◌≤◌, arith}
use Rattle.algebra.specs.Codes.{binary}
use Rattle.algebra.proofs.BinaryField.{product-inverse}
use Rattle.algebra.proofs.BinaryField
use Rattle.algebra.proofs.HankelInverse.{inverse_unique}
use Rattle.arithmetic.proofs.field.BinaryFieldArithmetic.inverse.Goals as goal

pub returns : goal.returns
returns c =
    let f = c.args.self.now in
    let F = f.polynomial in
    let m = f.degree in
    let h = f.right_degree.0 in
    let none = f.no_factor in
    let a = c.args.a in
    let b = c.in_ok-invert.field-0.inverse in
    let v = c.in_ok-invert.ensures in
    let pos : 1 ≤ m = omega arith in (
      v.1,
      (λ e. omega (arith, v.0)),
      v.2.code,
      inverse_unique F m h pos none a v.0 v.1 b ((binary F m).inv a) v.2.code ((BinaryField.closed F m h pos none).inv_in a v.1) v.2.product_one
          (product-inverse F m h pos none a v.0 v.1),
    )
