-- What the loops of `cells::write_cells` keep, and what falls.
use Rattle.std.proofs.Common.{ℕ, ◌<◌}
use Rattle.reading.specs.Working.{Taken, at}
use Rattle.reading.proofs.cells.write_cells.Given as goal

abbrev pub invariant-loop-p : goal.invariant-loop-p
invariant-loop-p g l =
    (i : ℕ) → i < l.p → Taken ((g.R.Reading.shown l.reading).cell l.q i) (at l.codes i) (at l.smudges i) × (at l.codes i < l.q)
