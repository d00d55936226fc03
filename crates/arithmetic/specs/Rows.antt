-- Rows of codes as polynomials: place t holds the coefficient of z^t.
use Rattle.std.specs.Prelude.{◌≡◌, ℕ, suc, ◌+◌, ◌-◌, ◌*◌, ◌<◌, ◌≤◌, cond, List, length, ◌≢◌, nat_le, nat_lt, slice_index}
use Rattle.algebra.specs.Operations.{Operations}
use Rattle.algebra.specs.Polynomials.{conv, less, terms, Within}
use Rattle.algebra.specs.Iteration.{Pairs, after, gap, iteration, quotient, Iterations}
use Rattle.arithmetic.specs.declared.refusal.Refusal.{Refusal}
use Rattle.arithmetic.specs.Meaning.{Meaning, Codes}
use Rattle.arithmetic.specs.Refusals.{Refused}

-- the row holds p: its places are coefficients of p, and p has no others
pub record Holds (o : Operations ℕ) (row : List ℕ) (p : ℕ → ℕ) : Type 0 where
  pub inside : (t : ℕ) → t < length row → slice_index row t ≡ p t
  pub beyond : (t : ℕ) → length row ≤ t → p t ≡ o.zero

-- the coefficients of a row
abbrev pub polynomial_of : List ℕ → ℕ → ℕ
polynomial_of row t = slice_index row t

-- four rows hold two pairs
pub record Held (o : Operations ℕ) (s : Pairs ℕ) (b bm sm smm : List ℕ) : Type 0 where
  pub big : Holds o b s.big
  pub big_multiplier : Holds o bm s.big_multiplier
  pub small : Holds o sm s.small
  pub small_multiplier : Holds o smm s.small_multiplier

-- how many places a multiplier has, from degree n to degree `stop`: n - stop, and at least 1
abbrev pub width : ℕ → ℕ → ℕ
width n stop = suc (n - 1 - stop)

-- the lengths that the degrees ask of the rows
abbrev pub Lengths : ℕ → ℕ → ℕ → ℕ → ℕ → ℕ → Type 0
Lengths n stop b bm sm smm = (b ≡ n + 1) × (bm ≡ width n stop) × (sm ≡ n) × (smm ≡ width n stop)

-- the rows have these lengths
abbrev pub Fitting : ℕ → ℕ → List ℕ → List ℕ → List ℕ → List ℕ → Type 0
Fitting n stop b bm sm smm = Lengths n stop (length b) (length bm) (length sm) (length smm)

-- What the iteration from z^n and r down to degree `stop` leaves in the four rows after k iterations.
pub record Iterated (m : Meaning) (n stop : ℕ) (r : ℕ → ℕ) (k : ℕ) (b bm sm smm : List ℕ) : Type 0 where
  -- k is the number of iterations
  pub count : Iterations m.codes n r stop k
  -- it is at most 2 (n - stop) - 2
  pub bound : k ≤ 2 * (n - stop) - 2
  -- the rows hold the pairs after them, as codes
  pub held : Held m.codes (after m.codes n r k) b bm sm smm
  pub codes : Codes m b × Codes m bm × Codes m sm × Codes m smm
  -- the small multiplier times r has no term above z^stop and below z^n
  pub key : (t : ℕ) → stop < t → t < n → conv m.codes (after m.codes n r k).small_multiplier r t ≡ m.codes.zero
  -- the small multiplier is not the zero polynomial
  pub nonzero : (t : ℕ) × (t < length smm) × (slice_index smm t ≢ m.codes.zero)

-- why it is refused: 3 where a number of the small row is no code, then 13 where a row has another length
abbrev pub NotIterated : Meaning → ℕ → ℕ → List ℕ → List ℕ → List ℕ → List ℕ → Refusal → Type 0
NotIterated m n stop b bm sm smm e =
    ((Codes m sm → ⊥) → Refused e 3) × (Codes m sm → (Fitting n stop b bm sm smm → ⊥) × Refused e 13)

-- what stands at place t of a row after c times the first n places of another, shifted by d, were taken from it
abbrev pub less_at : Operations ℕ → List ℕ → List ℕ → ℕ → ℕ → ℕ → ℕ → ℕ
less_at o big small n c d t =
    cond (nat_le d t)
    (cond (nat_lt t (d + n)) (o.sum (slice_index big t) (o.neg (o.prod c (slice_index small (t - d))))) (slice_index big t))
    (slice_index big t)

-- One iteration on rows, of n places for the small remainder and w for a multiplier: where they hold pairs s, whose remainders
-- have i and j terms and whose new pair fits the rows, they hold afterwards the pairs after one iteration, whose remainders have i' and j' terms.
abbrev pub Once : Operations ℕ → ℕ → ℕ → ℕ → ℕ → List ℕ → List ℕ → List ℕ → List ℕ → List ℕ → List ℕ → List ℕ → List ℕ → ℕ → ℕ → Type 0
Once o n w i j b bm sm smm b' bm' sm' smm' i' j' =
    (s : Pairs ℕ) → Held o s b bm sm smm → i ≡ terms o (suc n) s.big → j ≡ terms o (suc n) s.small
    → Within o n (less o s.big (quotient o n s) (gap o n s) s.small)
    → Within o w (less o s.big_multiplier (quotient o n s) (gap o n s) s.small_multiplier)
    → Held o (iteration o n s) b' bm' sm' smm' × (i' ≡ terms o (suc n) (iteration o n s).big) × (j' ≡ terms o (suc n) (iteration o n s).small)
