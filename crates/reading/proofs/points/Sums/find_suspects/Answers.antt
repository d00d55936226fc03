-- What the proof of `Sums::find_suspects` leaves to be shown.
use Rattle.std.proofs.Common.{◌-◌, length, refl, sym, ap, ◌∙◌, arith}
use Rattle.std.proofs.lemmas.Result.{MatchResult-at_ok}
use Rattle.algebra.specs.Counts.{count}
use Rattle.reading.specs.Working.{marked}
use Rattle.reading.proofs.Suspected.{all_suspects}
use Rattle.reading.proofs.points.Sums.find_suspects.Goals as goal

pub returns : goal.returns
returns g c =
    let self = c.args.self.now in
    let cells = c.args.cells.now in
    let smudges = cells.smudges.now in
    let sums = self.sums.now in
    let a = self.arithmetic.now in
    let stop = c.stop_at-stop.result in
    let counted = cells.counted ∙ ap (λ n. count n (marked smudges)) (sym c.requires.lengths.0) in
    let iterated = (MatchResult-at_ok _ _ c.unwrap.result c.unwrap.ensures c.iterate.ensures.answers).2 in
    all_suspects (g.A.Arithmetic.meaning a) (g.met.A.Arithmetic.lawful a) _ (length sums - 1 - stop) stop self.points.now smudges sums c.fold.new.folded c.iterate.new.small_multiplier _
    (record {
      length_points = refl;
      length_sums = omega arith;
      length_multiplier = omega (arith, c.iterate.auto.small_multiplier);
      stops = omega (arith, counted);
      goes_on = omega (arith, counted);
      points_are = self.powers;
      sum_codes = self.sum_codes;
      folded_sums = c.fold.ensures.folded;
      codes = iterated.codes.3;
      held = iterated.held.small_multiplier;
      key = iterated.key;
      nonzero = iterated.nonzero;
    }) (cells.lengths.1 ∙ sym c.requires.lengths.0) c.mark.new.suspects c.mark.ensures
