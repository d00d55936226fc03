-- What the loops of `printing::spell` keep, and what falls.
use Rattle.std.proofs.Common.{◌≡◌, ℕ, ◌<◌, get_or}
use Rattle.label.specs.Labels.{character}
use Rattle.label.proofs.printing.spell.Given as goal

abbrev pub invariant-loop-p : goal.invariant-loop-p
invariant-loop-p l = (p : ℕ) → p < l.p → get_or l.text p 0 ≡ character (get_or l.codes p 0)
