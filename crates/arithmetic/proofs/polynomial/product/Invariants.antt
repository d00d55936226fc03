-- What the loops of `polynomial::product` keep, and what falls.
use Rattle.std.proofs.Common.{◌≡◌, ◌%◌, ◌^◌}
use Rattle.algebra.specs.Binary.{times}
use Rattle.arithmetic.proofs.polynomial.product.Given as goal

abbrev pub invariant-loop-i : goal.invariant-loop-i
invariant-loop-i l = l.sum ≡ times l.a (l.b % 2 ^ l.i)
