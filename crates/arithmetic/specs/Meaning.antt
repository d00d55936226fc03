-- What an arithmetic means, and the laws that every arithmetic keeps.
use Rattle.std.specs.Prelude.{◌≡◌, ℕ, ◌^◌, ◌<◌, ◌≤◌, List, length, ◌==◌, slice_index}
use Rattle.algebra.specs.Operations.{Operations, Ring, Field}
use Rattle.algebra.specs.Codes.{Closed, coded, modulo, binary}

pub record Meaning : Type 0 where
  -- q, the number of elements; their codes are the numbers below it
  pub size : ℕ
  -- zero, one, sum, negative, product and inverse, on codes
  pub codes : Operations ℕ
  -- the step g
  pub step : ℕ

-- The codes are a field of 2 to 65,536 elements, and the step is not zero.
pub record Lawful (m : Meaning) : Type 0 where
  pub least : 2 ≤ m.size
  pub most : m.size ≤ 65536
  pub closed : Closed m.size m.codes
  pub tests : (a : ℕ) → m.codes.zero? a ≡ (a == m.codes.zero)
  pub ring : Ring (coded m.size m.codes closed)
  pub field : Field (coded m.size m.codes closed)
  pub step_in : m.step < m.size
  pub step_nonzero : m.step ≡ m.codes.zero → ⊥

-- each number of a row is a code
abbrev pub Codes : Meaning → List ℕ → Type 0
Codes m row = (k : ℕ) → k < length row → slice_index row k < m.size

-- the residues modulo n with step g
abbrev pub residues : ℕ → ℕ → Meaning
residues n g = record { size = n; codes = modulo n; step = g }

-- the binary field of F, of degree m, whose step is z
abbrev pub field_of : ℕ → ℕ → Meaning
field_of F m = record { size = 2 ^ m; codes = binary F m; step = 2 }
