-- What the proof of `reader::read_by` leaves to be shown.
use Rattle.std.proofs.Common.{◌≡◌, ◌-◌, length, Err, sym, ap, ◌∙◌, subst}
use Rattle.std.proofs.lemmas.Option.{MatchOption-at_some, MatchOption-at_none}
use Rattle.std.proofs.lemmas.Result.{err_from_is_err_and}
use Rattle.std.specs.Option.{ok_or}
use Rattle.algebra.specs.Counts.{count}
use Rattle.reading.specs.declared.refusal.Refusal.TheVariants.{NoLabel}
use Rattle.reading.specs.Working.{Near, marked, wrong}
use Rattle.reading.proofs.Reached.{Known, answered, not_read, well_formed}
use Rattle.reading.proofs.reader.read_by.Goals as goal

pub returns-in_err-misread-clause-answers : goal.returns-in_err-misread-clause-answers
returns-in_err-misread-clause-answers g c =
    let meaning = g.A.Arithmetic.meaning in
    let scheme = c.args.scheme.now in
    let cells = c.in_ok-cells.cells in
    let taken = c.in_ok-cells.ensures in
    let known : Known (meaning scheme.arithmetic) scheme.n (g.R.Reading.shown c.args.reading.now) (length c.args.worksheet.now) (length c.args.row.now) cells.codes.now cells.smudges.now =
    record { ready = c.in_ok-take.ensures; length_cells = cells.lengths.0 ∙ ap (λ s. s.n) taken.0; opened = taken.1 } in
    let none = MatchOption-at_none _ _ c.in_err-misread.ensures.ok_part c.find.ensures in
    let p = err_from_is_err_and c.from_residual-in_err-misread.result c.from_residual-in_err-misread.ensures.1 in
    let refusal = c.in_err-misread.ensures.value ∙ ap (λ o. ok_or o NoLabel) c.in_err-misread.ensures.ok_part in
    let refused : c.from_residual-in_err-misread.result ≡ Err NoLabel = cc (p.1, p.2, refusal) in
    rw refused (
    not_read _ _ _ _ _ _ _ known _
    (λ label near. none label (subst (λ s. Near (meaning s.arithmetic) (s.n - s.k) cells.codes.now cells.smudges.now label) (sym taken.0) near))
    )

pub returns-clause-answers : goal.returns-clause-answers
returns-clause-answers g c =
    let meaning = g.A.Arithmetic.meaning in
    let scheme = c.args.scheme.now in
    let cells = c.in_ok-cells.cells in
    let taken = c.in_ok-cells.ensures in
    let known : Known (meaning scheme.arithmetic) scheme.n (g.R.Reading.shown c.args.reading.now) (length c.args.worksheet.now) (length c.args.row.now) cells.codes.now cells.smudges.now =
    record { ready = c.in_ok-take.ensures; length_cells = cells.lengths.0 ∙ ap (λ s. s.n) taken.0; opened = taken.1 } in
    let found = MatchOption-at_some _ _ c.in_ok-misread.misread c.in_ok-misread.ensures.ok_part c.find.ensures in (
      well_formed _ _ _ _ _ _ _ known,
      rw c.copy_from_slice.ensures.after (
          answered _ _ _ _ _ _ _ known (g.met.A.Arithmetic.lawful scheme.arithmetic) _ scheme.is_scheme.different c.find.new.row _
          (subst (λ s. Near (meaning s.arithmetic) (s.n - s.k) cells.codes.now cells.smudges.now c.find.new.row) taken.0 found.1)
          (found.0 ∙ ap (λ s. count s.n (wrong cells.codes.now cells.smudges.now c.find.new.row)) taken.0)
          c.door_number.ensures
          (cells.counted ∙ ap (λ s. count s.n (marked cells.smudges.now)) taken.0)
          ),
    )
