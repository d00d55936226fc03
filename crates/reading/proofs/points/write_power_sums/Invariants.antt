-- What the loops of `points::write_power_sums` keep, and what falls.
use Rattle.std.proofs.Common.{◌≡◌, ℕ, suc, ◌<◌, length}
use Rattle.label.specs.Labels.{power_sum}
use Rattle.reading.specs.Working.{at}
use Rattle.reading.proofs.points.write_power_sums.Given as goal

abbrev pub invariant-loop-t : goal.invariant-loop-t
invariant-loop-t g l =
    let m = g.A.Arithmetic.meaning l.arithmetic in
    (i : ℕ) → i < l.t → (at l.sums i ≡ power_sum m (length l.row) l.row (suc i)) × (at l.sums i < m.size)
