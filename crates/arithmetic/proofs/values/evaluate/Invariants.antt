-- What the loops of `values::evaluate` keep, and what falls.
use Rattle.std.proofs.Common.{◌≡◌, ℕ, ◌<◌, get_or}
use Rattle.algebra.proofs.Registers.{horner}
use Rattle.arithmetic.proofs.values.evaluate.Given as goal

abbrev pub invariant-loop-c : goal.invariant-loop-c
invariant-loop-c g l =
    (l.value ≡ horner (g.A.Arithmetic.meaning l.arithmetic).codes (λ i. get_or l.row i 0) l.x l.c-index)
    × (l.value < (g.A.Arithmetic.meaning l.arithmetic).size)
    × ((k : ℕ) → k < l.c-index → get_or l.row k 0 < (g.A.Arithmetic.meaning l.arithmetic).size)
    × (0 < l.c-index → l.x < (g.A.Arithmetic.meaning l.arithmetic).size)
