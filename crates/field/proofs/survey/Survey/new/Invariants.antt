-- What the loops of `survey::Survey::new` keep, and what falls.
use Rattle.std.proofs.Common.{◌≡◌, ℕ, ◌+◌, ◌*◌, ◌≤◌, List, length, sum}
use Rattle.field.specs.Surveys.{Counts, largest}
use Rattle.field.proofs.survey.Survey.new.Given as goal

abbrev pub invariant-loop-a : goal.invariant-loop-a
invariant-loop-a l =
    (ks : List ℕ) × (length ks + 1 ≡ l.a) × Counts l.field.polynomial l.field.degree ks
    × (l.most ≡ largest ks) × (l.total ≡ sum ks) × (l.total ≤ 30 * length ks)
