-- What the loops of `Sums::mark` keep, and what falls.
use Rattle.std.proofs.Common.{◌≡◌, ℕ, ◌<◌}
use Rattle.reading.specs.Working.{marked, suspect}
use Rattle.reading.proofs.points.Sums.mark.Given as goal

abbrev pub invariant-loop-p : goal.invariant-loop-p
invariant-loop-p g l =
    (i : ℕ) → i < l.p → marked l.suspects i ≡ suspect (g.A.Arithmetic.meaning l.self.arithmetic.now) l.self.points.now l.smudges l.multiplier i
