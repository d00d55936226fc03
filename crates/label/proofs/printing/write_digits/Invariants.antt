-- What the loops of `printing::write_digits` keep, and what falls.
use Rattle.std.proofs.Common.{◌≡◌, ℕ, ◌/◌, ◌%◌, ◌^◌, ◌<◌, get_or}
use Rattle.label.proofs.printing.write_digits.Given as goal

abbrev pub invariant-loop-x : goal.invariant-loop-x
invariant-loop-x l = record {
  written : (p : ℕ) → p < l.x-index → get_or l.row p 0 ≡ (l.door / l.q ^ p) % l.q;
  rest : l.rest ≡ l.door / l.q ^ l.x-index;
}
