-- What the loops of `polynomial::has_factor` keep, and what falls.
use Rattle.std.proofs.Common.{◌≡◌, ℕ, ◌+◌, ◌^◌, ◌<◌, false}
use Rattle.algebra.specs.Binary.{Divides, NoFactor}
use Rattle.arithmetic.proofs.polynomial.has_factor.Given as goal

abbrev pub invariant-loop-pattern : goal.invariant-loop-pattern
invariant-loop-pattern l = (l.found ≡ false) × ((p : ℕ) → p < l.pattern → Divides (2 ^ l.degree + p) l.f → ⊥)

abbrev pub invariant-search : goal.invariant-search
invariant-search l = (l.found ≡ false) × NoFactor l.f l.degree
