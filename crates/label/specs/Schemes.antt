-- What makes a scheme, and why one is not laid out.
use Rattle.std.specs.Prelude.{◌≡◌, ℕ, ◌^◌, ◌<◌, ◌≤◌, ◌≢◌}
use Rattle.arithmetic.specs.Meaning.{Meaning}
use Rattle.label.specs.declared.refusal.Refusal.{Refusal}
use Rattle.label.specs.Labels.{Different}
use Rattle.label.specs.Refusals.{Refused}

-- a length n from 2 to 64 with k door characters, from 1 to n - 1
abbrev pub Counts : ℕ → ℕ → Type 0
Counts n k = (2 ≤ n) × (n ≤ 64) × (1 ≤ k) × (k < n)

-- An arithmetic with a length n and k door characters is a scheme, of this many doors.
pub record IsScheme (m : Meaning) (n k doors : ℕ) : Type 0 where
  pub counts : Counts n k
  pub different : Different m n
  pub number_of_doors : doors ≡ m.size ^ k
  pub few : doors ≤ 2 ^ 32

-- why there is no such scheme: 5 for wrong counts, then 6 for powers that are equal, then 7 for too many doors
pub record NoScheme (m : Meaning) (n k : ℕ) (e : Refusal) : Type 0 where
  pub wrong_counts : (Counts n k → ⊥) → Refused e 5
  pub equal_powers : Counts n k → (Different m n → ⊥) → Refused e 6
  pub many_doors : Counts n k → Different m n → (2 ^ 32 < m.size ^ k) × Refused e 7

-- why a door is not printed into a row of codes: 8 for no door, then 13 for a row that is not n long
abbrev pub NotPrinted : ℕ → ℕ → ℕ → ℕ → Refusal → Type 0
NotPrinted doors n d len e = (doors ≤ d → Refused e 8) × (d < doors → (len ≢ n) × Refused e 13)

-- why a door is not printed as text: 8 for no door, then 11 for more than 64 elements, then 13 for a row that is not n long
abbrev pub NotTyped : Meaning → ℕ → ℕ → ℕ → ℕ → Refusal → Type 0
NotTyped m doors n d len e =
    (doors ≤ d → Refused e 8) × (d < doors → 64 < m.size → Refused e 11)
    × (d < doors → m.size ≤ 64 → (len ≢ n) × Refused e 13)
