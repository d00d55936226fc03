-- Sums of sums, and the coefficient of a product as a sum.
use Rattle.std.proofs.Common.{◌≡◌, ℕ, zero, suc, ◌+◌, ◌-◌, ◌≤◌, [], ◌∷◌, sym, refl, ap, ◌∙◌, ap₂, arith}
use Rattle.algebra.specs.Operations.{Operations, Ring}
use Rattle.algebra.specs.Polynomials.{conv, sums}
use Rattle.algebra.proofs.Rings
use Rattle.algebra.proofs.Sums
use Rattle.algebra.proofs.Solver.{reify}
use Rattle.algebra.proofs.Solver

module _ {K : Type 0} (o : Operations K) (R : Ring o) where
  open o use {zero as 0#, sum as ◌⊞◌, prod as ◌·◌}

  infixl 60 ◌⊞◌
  infixl 70 ◌·◌
  sums_added : (n : ℕ) (f g : ℕ → K) → sums o n (λ i. f i ⊞ g i) ≡ sums o n f ⊞ sums o n g
  sums_added zero f g = sym (R.sum_zero 0#)
  sums_added (suc n) f g =
      ap (λ s. s ⊞ (f n ⊞ g n)) (sums_added n f g)
      ∙ Solver.ring o R (f n ∷ g n ∷ sums o n f ∷ sums o n g ∷ []) (search reify depth 30) tt

  -- the two sums exchanged
  pub sums_swap : (n m : ℕ) (f : ℕ → ℕ → K) → sums o n (λ i. sums o m (λ j. f i j)) ≡ sums o m (λ j. sums o n (λ i. f i j))
  sums_swap zero m f = sym (Sums.sums-zero o R m (λ j. 0#) (λ j l. refl))
  sums_swap (suc n) m f =
      ap (λ s. s ⊞ sums o m (f n)) (sums_swap n m f) ∙ sym (sums_added m (λ j. sums o n (λ i. f i j)) (f n))

  -- terms from n on that are zero add nothing
  pub sums_kept : (n m : ℕ) (f : ℕ → K) → n ≤ m → ((i : ℕ) → n ≤ i → f i ≡ 0#) → sums o m f ≡ sums o n f
  sums_kept n m f l z =
      let e : m ≡ n + (m - n) = omega arith in
      ap (λ k. sums o k f) e ∙ Sums.sums_split o R n (m - n) f
      ∙ ap (λ s. sums o n f ⊞ s) (Sums.sums-zero o R (m - n) (λ i. f (n + i)) (λ i g. z (n + i) (omega arith)))
      ∙ R.sum_zero (sums o n f)

  -- the sum of u_j q_(t-j) over j from 0 to t
  pub conv-sums : (u q : ℕ → K) (t : ℕ) → conv o u q t ≡ sums o (suc t) (λ j. u j · q (t - j))
  conv-sums u q zero = sym (Rings.zero-add o R (u 0 · q 0))
  conv-sums u q (suc t) =
      ap₂ ◌⊞◌ (ap (λ m. u 0 · q m) (omega arith)) (conv-sums (λ j. u (suc j)) q t ∙ Sums.sums_same o (suc t) _ _ (λ j l. ap (λ m. u (suc j) · q m) (omega arith)))
      ∙ sym (Sums.sums_first o R (suc t) (λ j. u j · q (suc t - j)))
