-- What the loops of `printing::divide` keep, and what falls.
use Rattle.std.proofs.Common.{◌≡◌, ℕ, ◌<◌, length, get_or}
use Rattle.algebra.specs.Generators.{register}
use Rattle.arithmetic.specs.Meaning.{Codes}
use Rattle.label.proofs.printing.divide.Given as goal

abbrev pub invariant-loop-d : goal.invariant-loop-d
invariant-loop-d g l = record {
  value : (t : ℕ) → t < length l.initial.row
      → get_or l.row t 0
      ≡ register (g.A.Arithmetic.meaning l.arithmetic).codes (g.A.Arithmetic.meaning l.arithmetic).step (length l.initial.row) (λ p. get_or l.digits p 0) l.d-index t;
  codes : Codes (g.A.Arithmetic.meaning l.arithmetic) l.row;
}
