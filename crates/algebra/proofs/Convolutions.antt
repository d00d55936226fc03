-- The product of polynomials, coefficient by coefficient.
use Rattle.std.proofs.Common.{◌≡◌, ℕ, zero, suc, ◌-◌, ◌<◌, ◌≤◌, [], ◌∷◌, refl, ap, ◌∙◌, ap₂, arith}
use Rattle.algebra.specs.Operations.{Operations, Ring}
use Rattle.algebra.specs.Polynomials
use Rattle.algebra.proofs.Rings
use Rattle.algebra.proofs.Solver.{reify}
use Rattle.algebra.proofs.Solver

-- what z^d p has from z^d on, and below
module _ {K : Type 0} (o : Operations K) where
  pub delay_past : (d t : ℕ) (f : ℕ → K) → d ≤ t → Polynomials.delay o d f t ≡ f (t - d)
  delay_past zero t f h = ap f (omega arith)
  delay_past (suc d) zero f h = absurd (omega arith)
  delay_past (suc d) (suc t) f h = delay_past d t f (omega arith) ∙ ap f (omega arith)

  pub delay_before : (d t : ℕ) (f : ℕ → K) → t < d → Polynomials.delay o d f t ≡ o.zero
  delay_before zero t f h = absurd (omega arith)
  delay_before (suc d) zero f h = refl
  delay_before (suc d) (suc t) f h = delay_before d t f (omega arith)

module _ {K : Type 0} (o : Operations K) (R : Ring o) where
  open o use {zero as 0#, one as 1#, sum as ◌⊞◌, prod as ◌*◌, neg}

  infixl 60 ◌⊞◌
  infixl 70 ◌*◌
  abbrev conv : (ℕ → K) → (ℕ → K) → ℕ → K
  conv = Polynomials.conv o

  abbrev delay : ℕ → (ℕ → K) → ℕ → K
  delay = Polynomials.delay o

  pub conv_sub : (c : K) (u v s : ℕ → K) (t : ℕ) → conv (λ j. u j ⊞ neg (c * v j)) s t ≡ conv u s t ⊞ neg (c * conv v s t)
  conv_sub c u v s zero = Solver.ring o R (c ∷ u 0 ∷ v 0 ∷ s 0 ∷ []) (search reify depth 30) tt
  conv_sub c u v s (suc t) =
      ap (λ r. (u 0 ⊞ neg (c * v 0)) * s (suc t) ⊞ r) (conv_sub c (λ j. u (suc j)) (λ j. v (suc j)) s t)
      ∙ Solver.ring o R (c ∷ u 0 ∷ v 0 ∷ s (suc t) ∷ conv (λ j. u (suc j)) s t ∷ conv (λ j. v (suc j)) s t ∷ []) (search reify depth 30 fits 20000) tt

  pub conv-delay : (d : ℕ) (v s : ℕ → K) (t : ℕ) → conv (delay d v) s t ≡ delay d (conv v s) t
  conv-delay zero v s t = refl
  conv-delay (suc d) v s zero = Rings.zero-mul o R (s 0)
  conv-delay (suc d) v s (suc t) = ap₂ ◌⊞◌ (Rings.zero-mul o R (s (suc t))) (conv-delay d v s t) ∙ Rings.zero-add o R _

  pub conv-step : (c : K) (d : ℕ) (u v s : ℕ → K) (t : ℕ) → conv (λ j. u j ⊞ neg (c * delay d v j)) s t ≡ conv u s t ⊞ neg (c * delay d (conv v s) t)
  conv-step c d u v s t = conv_sub c u (delay d v) s t ∙ ap (λ x. conv u s t ⊞ neg (c * x)) (conv-delay d v s t)
