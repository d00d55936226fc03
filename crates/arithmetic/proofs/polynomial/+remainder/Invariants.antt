-- What falls in `polynomial::remainder`.
use Rattle.arithmetic.proofs.polynomial.+remainder.Given as goal

abbrev pub decreases-remainder : goal.decreases-remainder
decreases-remainder l = l.a
