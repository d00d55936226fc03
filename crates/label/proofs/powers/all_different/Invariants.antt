-- What the loops of `powers::all_different` keep, and what falls.
use Rattle.std.proofs.Common.{◌≡◌, ℕ, ◌<◌, get_or}
use Rattle.label.proofs.powers.all_different.Given as goal

abbrev pub invariant-loop-j : goal.invariant-loop-j
invariant-loop-j l = (i j : ℕ) → i < j → j < l.j → get_or l.row i 0 ≡ get_or l.row j 0 → ⊥
