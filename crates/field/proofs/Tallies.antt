-- One more count of iterations: its place, the sum, the largest and the bounds.
use Rattle.std.proofs.Common.{◌≡◌, ℕ, suc, ◌+◌, ◌^◌, ◌<◌, ◌≤◌, max, List, [], ◌∷◌, ◌++◌, length, sym, refl, inl, inr, arith, pow_mono}
use Rattle.std.proofs.lemmas.List.{length_push, get_or_push, get_or_append_left}
use Rattle.std.proofs.lemmas.List.Recursion.{max_push}
use Rattle.std.proofs.lemmas.Bool.{cases_eq}
use Rattle.arithmetic.specs.Inverting.{Inverts}
use Rattle.field.specs.Surveys.{Counts, largest}

pub largest_push : (ks : List ℕ) (k : ℕ) → largest (ks ++ k ∷ []) ≡ max (largest ks) k
largest_push = max_push largest (λ k. k) refl (λ _ _. refl)

pub counts_push : (F m a b k : ℕ) (ks : List ℕ) → length ks + 1 ≡ a → Counts F m ks → Inverts F m a b k → Counts F m (ks ++ k ∷ [])
counts_push F m a b k ks e each found i h =
    elim (cases_eq i (length ks)) [
      | inl same ↦
          let code : a ≡ suc i = omega arith in
          (b, rw (get_or_push ks k 0 i (sym same), ← code) found)
      | inr other ↦
          let inside : i < length ks = omega (arith, length_push ks k) in
          ((each i inside).0, rw (get_or_append_left ks (k ∷ []) 0 i inside) (each i inside).1)
    ]

-- a field of degree at most 16 has at most 65,536 codes
pub few_codes : (m : ℕ) → m ≤ 16 → 2 ^ m ≤ 65536
few_codes m h = pow_mono h
