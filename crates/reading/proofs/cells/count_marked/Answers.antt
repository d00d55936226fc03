-- What the proof of `cells::count_marked` leaves to be shown.
use Rattle.std.proofs.Common.{◌≡◌, ◌∙◌, not, eqb, count_by, rules}
use Rattle.std.proofs.iter.runs.Made.{chains}
use Rattle.reading.proofs.Counting.{count_by_places}
use Rattle.reading.proofs.cells.count_marked.Goals as goal

pub returns : goal.returns
returns c =
    let smudges = c.args.smudges.now in
    let made : c.count.result ≡ count_by (λ x. not (eqb x 0)) smudges = search (rules, chains) in
    made ∙ count_by_places (λ x. not (eqb x 0)) smudges 0
