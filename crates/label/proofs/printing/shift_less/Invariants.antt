-- What the loops of `printing::shift_less` keep, and what falls.
use Rattle.std.proofs.Common.{◌≡◌, ℕ, ◌<◌, ◌≤◌, get_or}
use Rattle.algebra.specs.Polynomials.{delay}
use Rattle.arithmetic.specs.Meaning.{Codes}
use Rattle.label.proofs.Shifts.{shifted}
use Rattle.label.proofs.printing.shift_less.Given as goal

abbrev pub invariant-loop-t : goal.invariant-loop-t
invariant-loop-t g l = record {
  done : (t : ℕ) → t < l.t → get_or l.row t 0 ≡ shifted (g.A.Arithmetic.meaning l.arithmetic).codes l.initial.row l.factor (get_or l.other t 0) t;
  rest : (t : ℕ) → l.t ≤ t → get_or l.row t 0 ≡ get_or l.initial.row t 0;
  below : l.below ≡ delay (g.A.Arithmetic.meaning l.arithmetic).codes 1 (λ i. get_or l.initial.row i 0) l.t;
  code : l.below < (g.A.Arithmetic.meaning l.arithmetic).size;
  codes : Codes (g.A.Arithmetic.meaning l.arithmetic) l.row;
}
