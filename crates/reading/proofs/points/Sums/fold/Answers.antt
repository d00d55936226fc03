-- What the proof of `Sums::fold` leaves to be shown.
use Rattle.std.proofs.Common.{◌≡◌, ℕ, suc, ◌<◌, [], ◌∷◌, ◌++◌, length, arith}
use Rattle.std.proofs.lemmas.Bool.Decides.{nat_tests}
use Rattle.std.proofs.lemmas.List.{length-append}
use Rattle.std.proofs.lemmas.Slice.Zip.{zip_turn}
use Rattle.algebra.specs.Points.{folded}
use Rattle.reading.specs.Working.{at, marked}
use Rattle.reading.proofs.points.Sums.fold.Goals as goal

pub loop-point-preserved-then-smudge-ne0 : goal.loop-point-preserved-then-smudge-ne0
loop-point-preserved-then-smudge-ne0 g c =
    let self = c.args.self.now in
    let o = (g.A.Arithmetic.meaning self.arithmetic.now).codes in
    let k = length c.loop-point.yielded in
    let turn = zip_turn self.points.now c.args.smudges.now c.loop-point.yielded c.into_iter-point-iterator.result c.loop-point.point-iterator c.next.new.self c.next.result (cc) (cc) c.loop-point.yielded_by (c.in-Some.point, c.in-Some.smudge) c.in-Some.is c.next.ensures.steps in
    let point = turn.2 0 in
    let smudge = turn.3 0 in
    let one : length (c.loop-point.yielded ++ (c.in-Some.point, c.in-Some.smudge) ∷ []) ≡ suc k = simp length-append (omega arith) in
    let step : (t : ℕ) → t < length self.sums.now → at c.fold_in.new.sums t ≡ folded o (at self.points.now) (marked c.args.smudges.now) (at self.sums.now) (suc k) t =
    λ t l. let new = c.fold_in.ensures.folded t (omega arith) in let old = c.loop-point.invariant.folded_sums in grind (arith, nat_tests) in
    record {
      folded_sums = rw one step;
      codes = c.fold_in.ensures.codes;
    }
