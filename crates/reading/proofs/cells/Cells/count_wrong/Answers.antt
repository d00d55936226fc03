-- What the proof of `Cells::count_wrong` leaves to be shown.
use Rattle.std.proofs.Common.{◌≡◌, ℕ, Bool, false, cond, not, eqb, List, length, get_or, count_by, ap, ◌∙◌, rules, tests, arith}
use Rattle.std.specs.List.{filter, zip}
use Rattle.std.proofs.lemmas.Iterator.{YieldsList-from_slice, YieldsList-from_zip}
use Rattle.std.proofs.lemmas.Iterator.Consumers.{YieldsList-at, YieldsList-from_filter, count_from_yields_List}
use Rattle.std.proofs.lemmas.List.Sums.{length-filter}
use Rattle.std.proofs.lemmas.Slice.Zip.{length-zip, get_or-zip}
use Rattle.algebra.specs.Counts.{count}
use Rattle.algebra.proofs.Counts.{count_same}
use Rattle.reading.specs.Working.{wrong}
use Rattle.reading.proofs.Counting.{count_by_places}
use Rattle.reading.proofs.cells.Cells.count_wrong.Goals as goal

-- a place is legible and what a row has there is not its code
abbrev differs : (ℕ × ℕ) × ℕ → Bool
differs p = cond (not (eqb p.0.1 0)) false (not (eqb p.0.0 p.1))

by_places : (n : ℕ) (codes smudges row : List ℕ) → length codes ≡ n → length smudges ≡ n → length row ≡ n
    → count_by differs (zip (zip codes smudges) row) ≡ count n (wrong codes smudges row)
by_places n codes smudges row e f g =
    let pairs = zip codes smudges in
    let h : length pairs ≡ n = length-zip codes smudges ∙ omega arith in
    let k : length (zip pairs row) ≡ n = length-zip pairs row ∙ omega arith in
    count_by_places differs (zip pairs row) ((0, 0), 0)
    ∙ ap (λ (n : ℕ). count n (λ i. differs (get_or (zip pairs row) i ((0, 0), 0)))) k
    ∙ count_same n _ (wrong codes smudges row) (λ i l.
    ap differs (get_or-zip pairs row i ((0, 0), 0) (omega arith) (omega arith))
    ∙ ap (λ p. differs (p, get_or row i 0)) (get_or-zip codes smudges i (0, 0) (omega arith) (omega arith)))

pub returns : goal.returns
returns g c =
    let self = c.args.self.now in
    let codes = self.codes.now in
    let smudges = self.smudges.now in
    let row = c.args.row.now in
    let made : c.count.result ≡ length (filter differs (zip (zip codes smudges) row)) =
    count_from_yields_List _ _ c.count.ensures.ran
    (YieldsList-from_filter _ differs
    (YieldsList-at c.filter.ensures.source
    (YieldsList-from_zip (YieldsList-at c.zip-2.ensures.first (YieldsList-from_zip (YieldsList-from_slice codes cc) (YieldsList-from_slice smudges cc))) (YieldsList-from_slice row cc)))
    c.filter.ensures.closure (λ x b q k. search (rules, tests))) in
    made ∙ length-filter differs (zip (zip codes smudges) row) ∙ by_places self.scheme.now.n codes smudges row self.lengths.0 self.lengths.1 c.requires
