-- What the loops of `iteration::run` keep, and what falls.
use Rattle.std.proofs.Common.{◌+◌, ◌*◌, ◌≤◌, length}
use Rattle.arithmetic.specs.Rows.{polynomial_of}
use Rattle.arithmetic.proofs.Runs
use Rattle.arithmetic.proofs.iteration.run.Given as goal

abbrev pub invariant-loop-big : goal.invariant-loop-big
invariant-loop-big g l =
    Runs.At (g.A.Arithmetic.meaning l.arithmetic).codes (length l.initial.small) (polynomial_of l.initial.small) l.stop
    l.progress.count l.progress.big l.progress.small l.big l.big_multiplier l.small l.small_multiplier
    × (l.progress.count + (l.progress.big + l.progress.small) ≤ 2 * length l.initial.small + 1)

abbrev pub decreases-loop-big : goal.decreases-loop-big
decreases-loop-big g l = l.progress.big + l.progress.small
