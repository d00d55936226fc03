-- What the proof of `printing::write_generator` leaves to be shown.
use Rattle.std.proofs.Common.{◌≡◌, ◌+◌, length, get_or, arith, rules}
use Rattle.std.proofs.lemmas.Grind.{common_steps}
use Rattle.algebra.specs.Generators.{generator}
use Rattle.algebra.specs.Polynomials.{pow}
use Rattle.label.proofs.Shifts.{generator_next}
use Rattle.label.proofs.printing.write_generator.Goals as goal

pub loop-init : goal.loop-init
unfolding generator
loop-init g c = record {
  power = search rules;
  code = search rules;
  value = λ t h. search rules;
  codes = grind (arith, common_steps);
}

pub loop-preserved : goal.loop-preserved
loop-preserved g c =
    let m = g.A.Arithmetic.meaning c.args.arithmetic.now in
    let l = c.loop in
    let n = c.multiply in
    let next : c.unwrap-power.result ≡ pow m.codes m.step (l.counter + 1) = grind (arith, common_steps) in
    record {
      power = next;
      code = search rules;
      value = λ t h. generator_next m.codes m.step l.counter (length l.row) c.unwrap-power.result t (get_or n.new.row t 0) l.row (omega arith)
          (λ i k. l.invariant.value i (omega arith)) next (n.ensures.value t (omega arith));
      codes = n.ensures.codes;
    }
