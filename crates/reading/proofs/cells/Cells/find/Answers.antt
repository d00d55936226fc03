-- What the proof of `Cells::find` leaves to be shown.
use Rattle.std.proofs.Common.{sym, ap, ◌∙◌, subst}
use Rattle.reading.specs.Working.{PowerSums}
use Rattle.reading.proofs.Reached.{clean}
use Rattle.reading.proofs.cells.Cells.find.Goals as goal

pub returns-then-all_equal : goal.returns-then-all_equal
returns-then-all_equal g c =
    let meaning = g.A.Arithmetic.meaning in
    let self = c.args.self.now in
    let cells = self.codes.now in
    let sums = c.write-sums.result.sums.now in
    let same = c.arithmetic-arithmetic.ensures in
    clean (meaning self.scheme.now.arithmetic) _ _ cells self.smudges.now sums c.copy_from_slice.new.self
    c.copy_from_slice.ensures.after self.lengths.0 self.are_codes
    (c.write-sums.ensures.lengths.1 ∙ c.split_at_mut-sums.ensures.front_len ∙ c.check_characters-r.ensures)
    (subst (λ a. PowerSums (meaning a) cells sums) same c.write-sums.ensures.sums)
    (λ t l. c.if-all_equal.ensures t l ∙ c.zero.ensures.0 ∙ ap (λ a. (meaning a).codes.zero) same)
    (sym self.counted ∙ c.if-count-eq0.true)
