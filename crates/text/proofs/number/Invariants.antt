-- What the loops of `number` keep, and what falls.
use Rattle.std.proofs.Common.{◌≡◌, ℕ, ◌^◌, ◌<◌, get_or, drop}
use Rattle.text.specs.Numerals.{Digit, continued, value}
use Rattle.text.proofs.number.Given as goal

abbrev pub invariant-loop-b : goal.invariant-loop-b
invariant-loop-b l = record {
  small : l.n < 10 ^ l.b-index;
  rest : continued l.n (drop l.b-index l.bytes) ≡ value l.bytes;
  digits : (k : ℕ) → k < l.b-index → Digit (get_or l.bytes k 0);
}
