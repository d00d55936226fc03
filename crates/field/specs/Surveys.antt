-- What inverting every nonzero code of a field gives.
use Rattle.std.specs.Prelude.{◌≡◌, ℕ, suc, ◌-◌, ◌^◌, ◌<◌, max, List, [], ◌∷◌, length, slice_index, sum}
use Rattle.arithmetic.specs.Inverting.{Inverts}
use Rattle.field.specs.declared.survey.Survey.{Survey}

abbrev pub largest : List ℕ → ℕ
largest [] = 0
largest (k ∷ ks) = max k (largest ks)

-- the counts of iterations of the codes 1, 2, .. in the field of F, of degree m: each code has an inverse, by that many
abbrev pub Counts : ℕ → ℕ → List ℕ → Type 0
Counts F m ks = (i : ℕ) → i < length ks → (b : ℕ) × Inverts F m (suc i) b (slice_index ks i)

-- the survey of the field of F, of degree m
pub record Surveyed (F m : ℕ) (s : Survey) : Type 0 where
  pub degree_is : s.degree ≡ m
  pub size_is : s.size ≡ 2 ^ m
  -- the counts of iterations of all nonzero codes
  pub counts : List ℕ
  pub all : length counts ≡ 2 ^ m - 1
  pub each : Counts F m counts
  pub most_is : s.most ≡ largest counts
  pub total_is : s.total ≡ sum counts
