-- What the proof of `points::write_power_sums` leaves to be shown.
use Rattle.std.proofs.Common.{◌≡◌, ℕ, suc, ◌-◌, length, get_or, ap, ◌∙◌, arith}
use Rattle.std.proofs.lemmas.Grind.{common_steps}
use Rattle.algebra.specs.Polynomials.{pow}
use Rattle.label.proofs.Values.{value_is}
use Rattle.reading.proofs.points.write_power_sums.Goals as goal

pub loop-t-preserved : goal.loop-t-preserved
loop-t-preserved g c =
    let a = c.args.arithmetic.now in
    let m = g.A.Arithmetic.meaning a in
    let points = c.args.points.now in
    let t = c.loop-t.t in
    let at : ℕ = length points - 2 - t in
    let e : length points - 1 - at ≡ suc t = omega arith in
    let power : get_or points at 0 ≡ pow m.codes m.step (suc t) = c.requires.points at (omega arith) ∙ ap (pow m.codes m.step) e in
    let sum = value_is m (g.met.A.Arithmetic.lawful a) c.args.row.now (get_or points at 0) (suc t) c.unwrap.result c.evaluate.result c.evaluate.ensures c.unwrap.ensures power in
    grind (arith, common_steps)
