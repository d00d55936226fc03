-- What the proof of `field::BinaryFieldArithmetic::product` leaves to be shown.
use Rattle.std.proofs.Common.{◌≡◌, ℕ, ◌^◌, ◌<◌, sym, ap, ◌∙◌, subst, lt_of_lt_of_le, arith, pow_mono}
use Rattle.algebra.specs.Binary.{product, remainder, Degree}
use Rattle.algebra.proofs.BinaryRemainders.{remainder_lt}
use Rattle.arithmetic.proofs.field.BinaryFieldArithmetic.product.Goals as goal

-- a remainder by F is a code
low : (F m a r : ℕ) → Degree F m → r ≡ remainder a F → r < 2 ^ m
low F m a r h e = subst (λ (x : ℕ). x < 2 ^ m) (sym e) (remainder_lt F m h a)

pub overflow_cast-result : goal.overflow_cast-result
overflow_cast-result c =
    let f = c.args.self.now in
    let e : c.remainder.result ≡ remainder c.product-product.result f.polynomial = rw c.from.ensures at c.remainder.ensures in
    let l : c.remainder.result < 2 ^ 16
    = lt_of_lt_of_le (low f.polynomial f.degree c.product-product.result c.remainder.result f.right_degree.0 e) (pow_mono f.right_degree.2) in
    record { fits = omega arith }

pub returns : goal.returns
unfolding product
returns c =
    let f = c.args.self.now in
    let e : c.remainder.result ≡ remainder c.product-product.result f.polynomial = rw c.from.ensures at c.remainder.ensures in (
      omega arith,
      omega arith,
      low f.polynomial f.degree c.product-product.result c.remainder.result f.right_degree.0 e,
      e ∙ ap (λ (x : ℕ). remainder x f.polynomial) c.product-product.ensures,
    )
