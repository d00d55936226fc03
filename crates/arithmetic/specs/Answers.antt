-- What the calls of an arithmetic answer.
use Rattle.std.specs.Prelude.{◌≡◌, ℕ, ◌<◌, ◌≤◌, List, length, Result, MatchResult, ◌≢◌, slice_index}
use Rattle.algebra.specs.Polynomials.{value_at}
use Rattle.arithmetic.specs.declared.refusal.Refusal.{Refusal}
use Rattle.arithmetic.specs.Meaning.{Meaning, Codes}
use Rattle.arithmetic.specs.Refusals.{Refused}

-- the value v, itself a code, of a code a; 3 where a is no code
abbrev pub OfOne : Meaning → ℕ → ℕ → Result ℕ Refusal → Type 0
OfOne m a v r = MatchResult r (λ c. (a < m.size) × (c < m.size) × (c ≡ v)) (λ e. (m.size ≤ a) × Refused e 3)

-- the value v, itself a code, of two codes a and b; 3 where one of them is no code
abbrev pub OfTwo : Meaning → ℕ → ℕ → ℕ → Result ℕ Refusal → Type 0
OfTwo m a b v r =
    MatchResult r (λ c. (a < m.size) × (b < m.size) × (c < m.size) × (c ≡ v))
    (λ e. (a < m.size → m.size ≤ b) × Refused e 3)

-- the value v, itself a code, of three codes a, b and c; 3 where one of them is no code
abbrev pub OfThree : Meaning → ℕ → ℕ → ℕ → ℕ → Result ℕ Refusal → Type 0
OfThree m a b c v r =
    MatchResult r (λ d. (a < m.size) × (b < m.size) × (c < m.size) × (d < m.size) × (d ≡ v))
    (λ e. (a < m.size → b < m.size → m.size ≤ c) × Refused e 3)

-- the value at x, itself a code, of the polynomial whose coefficients the row holds, the highest first; 3 where a number in
-- the row is no code, or where x is none and the row is not empty
abbrev pub OfRow : Meaning → List ℕ → ℕ → Result ℕ Refusal → Type 0
OfRow m row x r =
    MatchResult r (λ d. Codes m row × (0 < length row → x < m.size) × (d < m.size) × (d ≡ value_at m.codes (length row) (λ j. slice_index row j) x))
    (λ e. (Codes m row → (0 < length row) × (m.size ≤ x)) × Refused e 3)

-- why there is no inverse: 3 where a is no code, otherwise 4, where it is zero
abbrev pub NoInverse : Meaning → ℕ → Refusal → Type 0
NoInverse m a e = (m.size ≤ a → Refused e 3) × (a < m.size → (a ≡ m.codes.zero) × Refused e 4)

-- the inverse, itself a code, of a code a that is not zero
abbrev pub OfInverse : Meaning → ℕ → Result ℕ Refusal → Type 0
OfInverse m a r =
    MatchResult r (λ c. (a < m.size) × (a ≢ m.codes.zero) × (c < m.size) × (c ≡ m.codes.inv a)) (NoInverse m a)
