-- What the proof of `number` leaves to be shown.
use Rattle.std.proofs.Common.{arith, pow-add, rules, below_more}
use Rattle.std.proofs.lemmas.List.{drop_more}
use Rattle.text.proofs.number.Goals as goal

pub loop-b-preserved : goal.loop-b-preserved
loop-b-preserved c = record {
  small = grind (arith, pow-add 10 c.loop-b.b-index 1);
  rest = search (rules, drop_more);
  digits = below_more _ _ c.loop-b.invariant.digits (grind arith);
}
