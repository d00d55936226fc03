-- What the reader's functions leave in its working rows.
use Rattle.std.specs.Prelude.{◌≡◌, ℕ, suc, ◌+◌, ◌-◌, ◌*◌, ◌<◌, ◌≤◌, Bool, true, false, cond, not, List, length, Some, None, Option, ◌==◌, ◌≢◌, slice_index}
use Rattle.algebra.specs.Counts.{count}
use Rattle.algebra.specs.Points.{other, folded, removed, others}
use Rattle.algebra.specs.Polynomials.{pow, value_at}
use Rattle.arithmetic.specs.Meaning.{Meaning}
use Rattle.label.specs.Labels.{Different, Label, power_sum}
use Rattle.reading.specs.declared.cell.Cell.{Cell}
use Rattle.reading.specs.declared.cell.Cell.TheVariants.{Code, Smudge}
use Rattle.reading.specs.Readings.{Shown}

-- the number at a place of a row
abbrev pub at : List ℕ → ℕ → ℕ
at row p = slice_index row p

-- every number of a row is 0
abbrev pub Zero : List ℕ → Type 0
Zero row = (p : ℕ) → p < length row → at row p ≡ 0

-- a place is marked: the number there is not 0
abbrev pub marked : List ℕ → ℕ → Bool
marked row p = not (at row p == 0)

-- y and f are what a cell leaves: its code and no mark, or for a smudge 0 and a mark
abbrev pub Taken : Option Cell → ℕ → ℕ → Type 0
Taken None y f = ⊥
Taken (Some (Code c)) y f = (y ≡ c) × (f ≡ 0)
Taken (Some Smudge) y f = (y ≡ 0) × (f ≡ 1)

-- the rows hold the cells and mark the smudges
abbrev pub Opened : ℕ → Shown → List ℕ → List ℕ → Type 0
Opened q s cells smudges = (p : ℕ) → p < length cells → Taken (s.cell q p) (at cells p) (at smudges p)

-- the row holds the points of the places: g^(n-1) down to g^0
abbrev pub Points : Meaning → List ℕ → Type 0
Points m row = (p : ℕ) → p < length row → at row p ≡ pow m.codes m.step (length row - 1 - p)

-- the row holds the power sums of a row of codes, from the first on
abbrev pub PowerSums : Meaning → List ℕ → List ℕ → Type 0
PowerSums m row sums = (t : ℕ) → t < length sums → at sums t ≡ power_sum m (length row) row (suc t)

-- a place is legible and differs from a row
abbrev pub wrong : List ℕ → List ℕ → List ℕ → ℕ → Bool
wrong cells smudges row p = cond (marked smudges p) false (not (at cells p == at row p))

-- a row is a label within reach of the cells, whose smudges are marked
pub record Near (m : Meaning) (r : ℕ) (cells smudges row : List ℕ) : Type 0 where
  pub label : Label m (length cells) r row
  pub reach : 2 * count (length cells) (wrong cells smudges row) + count (length cells) (marked smudges) ≤ r

-- a row after every marked point was folded into it
abbrev pub Folded : Meaning → List ℕ → List ℕ → List ℕ → List ℕ → Type 0
Folded m points smudges before after =
    (t : ℕ) → t < length before → at after t ≡ folded m.codes (at points) (marked smudges) (at before) (length points) t

-- a place is marked as suspect: it is a smudge, or the multiplier is zero at its point
abbrev pub suspect : Meaning → List ℕ → List ℕ → List ℕ → ℕ → Bool
suspect m points smudges multiplier p =
    cond (marked smudges p) true (value_at m.codes (length multiplier) (at multiplier) (at points p) == m.codes.zero)

-- the suspects of cells whose power sums are `sums`: every smudge, every place that is wrong for a label within reach, and not
-- more places than power sums
pub record Suspects (m : Meaning) (smudges sums suspects : List ℕ) : Type 0 where
  pub smudged : (p : ℕ) → p < length smudges → marked smudges p ≡ true → marked suspects p ≡ true
  pub few : Different m (length smudges) → count (length smudges) (marked suspects) ≤ length sums
  pub located :
      Different m (length smudges) → (cells row : List ℕ) → length cells ≡ length smudges → ((p : ℕ) → p < length cells → at cells p < m.size)
      → PowerSums m cells sums → Near m (length sums) cells smudges row
      → (p : ℕ) → p < length smudges → wrong cells smudges row p ≡ true → marked suspects p ≡ true

-- what the removal of a point x leaves of a row: each place but the last has what followed it less x times what it had
abbrev pub Removed : Meaning → ℕ → List ℕ → List ℕ → Type 0
Removed m x before after =
    (t : ℕ) → suc t < length before → at after t ≡ m.codes.sum (at before (suc t)) (m.codes.neg (m.codes.prod x (at before t)))

-- the product of x_p - x_l over the other suspects l, times x_p
abbrev pub divisor : Meaning → List ℕ → List ℕ → ℕ → ℕ
divisor m points suspects p = m.codes.prod (others m.codes (at points) (marked suspects) p (length points) p) (at points p)

-- what is left first of the power sums when the other suspects are removed
abbrev pub remains : Meaning → List ℕ → List ℕ → List ℕ → ℕ → ℕ
remains m points suspects sums p = removed m.codes (at points) (marked suspects) p (at sums) (length points) 0

-- e is what remains at p, divided, where there are not more suspects than power sums and the divisor is not zero
abbrev pub ErrorAt : Meaning → List ℕ → List ℕ → List ℕ → ℕ → ℕ → Type 0
ErrorAt m points suspects sums p e =
    count (length points) (other (marked suspects) p) < length sums → (divisor m points suspects p ≢ m.codes.zero)
    → e ≡ m.codes.prod (remains m points suspects sums p) (m.codes.inv (divisor m points suspects p))

-- a row after the error at each suspect place was taken from it
pub record Filled (m : Meaning) (points suspects sums before after : List ℕ) : Type 0 where
  pub suspected : (p : ℕ) → p < length before → marked suspects p ≡ true → (e : ℕ) × ErrorAt m points suspects sums p e × (at after p ≡ m.codes.sum (at before p) (m.codes.neg e))
  pub kept : (p : ℕ) → p < length before → marked suspects p ≡ false → at after p ≡ at before p
