-- What the loops of `values::write_powers` keep, and what falls.
use Rattle.std.proofs.Common.{◌≡◌, ℕ, ◌<◌, get_or}
use Rattle.algebra.specs.Polynomials.{pow}
use Rattle.arithmetic.proofs.values.write_powers.Given as goal

abbrev pub invariant-loop-x : goal.invariant-loop-x
invariant-loop-x g l = record {
  written : (i : ℕ) → i < l.x-index
      → (get_or l.row i 0 ≡ pow (g.A.Arithmetic.meaning l.arithmetic).codes (g.A.Arithmetic.meaning l.arithmetic).step i)
      × (get_or l.row i 0 < (g.A.Arithmetic.meaning l.arithmetic).size);
  power : l.power ≡ pow (g.A.Arithmetic.meaning l.arithmetic).codes (g.A.Arithmetic.meaning l.arithmetic).step l.x-index;
  code : l.power < (g.A.Arithmetic.meaning l.arithmetic).size;
}
