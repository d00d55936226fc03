-- The laws of finite sums.
use Rattle.std.proofs.Common.{◌≡◌, ℕ, zero, suc, ◌+◌, ◌-◌, ◌<◌, [], ◌∷◌, sym, refl, ap, ◌∙◌, ap₂, add-zero, add-suc, arith}
use Rattle.algebra.specs.Operations.{Operations, Ring}
use Rattle.algebra.specs.Polynomials.{sums}
use Rattle.algebra.proofs.Rings
use Rattle.algebra.proofs.Solver.{reify}
use Rattle.algebra.proofs.Solver

-- sums whose terms are the same are the same
pub sums_same : {K : Type 0} (o : Operations K) (n : ℕ) (f h : ℕ → K) → ((i : ℕ) → i < n → f i ≡ h i) → sums o n f ≡ sums o n h
sums_same o zero f h e = refl
sums_same o (suc n) f h e = ap₂ o.sum (sums_same o n f h (λ i l. e i (omega arith))) (e n (omega arith))

module _ {K : Type 0} (o : Operations K) (R : Ring o) where
  open o use {zero as 0#, sum as ◌⊞◌, prod as ◌·◌, neg}

  infixl 60 ◌⊞◌
  infixl 70 ◌·◌
  pub sums-zero : (n : ℕ) (f : ℕ → K) → ((i : ℕ) → i < n → f i ≡ 0#) → sums o n f ≡ 0#
  sums-zero zero f h = refl
  sums-zero (suc n) f h = ap₂ ◌⊞◌ (sums-zero n f (λ i l. h i (omega arith))) (h n (omega arith)) ∙ R.sum_zero 0#

  pub sums_difference : (n : ℕ) (f g p : ℕ → K) → sums o n (λ i. (f i ⊞ neg (g i)) · p i) ≡ sums o n (λ i. f i · p i) ⊞ neg (sums o n (λ i. g i · p i))
  sums_difference zero f g p = Solver.ring o R [] (search reify depth 30) tt
  sums_difference (suc n) f g p =
      ap (λ s. s ⊞ (f n ⊞ neg (g n)) · p n) (sums_difference n f g p)
      ∙ Solver.ring o R (f n ∷ g n ∷ p n ∷ sums o n (λ i. f i · p i) ∷ sums o n (λ i. g i · p i) ∷ []) (search reify depth 30 fits 20000) tt

  pub sums_linear : (n : ℕ) (a b : K) (f g : ℕ → K) → sums o n (λ i. a · f i ⊞ b · g i) ≡ a · sums o n f ⊞ b · sums o n g
  sums_linear zero a b f g = Solver.ring o R (a ∷ b ∷ []) (search reify depth 30) tt
  sums_linear (suc n) a b f g =
      ap (λ s. s ⊞ (a · f n ⊞ b · g n)) (sums_linear n a b f g)
      ∙ Solver.ring o R (a ∷ b ∷ f n ∷ g n ∷ sums o n f ∷ sums o n g ∷ []) (search reify depth 30 fits 20000) tt

  pub sums_scaled : (n : ℕ) (a : K) (f : ℕ → K) → sums o n (λ i. a · f i) ≡ a · sums o n f
  sums_scaled zero a f = sym (Rings.mul-zero o R a)
  sums_scaled (suc n) a f = ap (λ s. s ⊞ a · f n) (sums_scaled n a f) ∙ sym (R.distributes a (sums o n f) (f n))

  -- the first term apart
  pub sums_first : (n : ℕ) (f : ℕ → K) → sums o (suc n) f ≡ f 0 ⊞ sums o n (λ i. f (suc i))
  sums_first zero f = R.sum_comm 0# (f 0)
  sums_first (suc n) f = ap (λ s. s ⊞ f (suc n)) (sums_first n f) ∙ R.sum_assoc (f 0) (sums o n (λ i. f (suc i))) (f (suc n))

  pub sums_reversed : (n : ℕ) (f : ℕ → K) → sums o n (λ i. f (n - 1 - i)) ≡ sums o n f
  sums_reversed zero f = refl
  sums_reversed (suc n) f =
      ap₂ ◌⊞◌ (sums_same o n (λ i. f (suc n - 1 - i)) (λ i. f (suc (n - 1 - i))) (λ i l. ap f (omega arith)) ∙ sums_reversed n (λ i. f (suc i))) (ap f (omega arith))
      ∙ R.sum_comm (sums o n (λ i. f (suc i))) (f 0) ∙ sym (sums_first n f)

  -- the first a terms and the b after them
  pub sums_split : (a b : ℕ) (f : ℕ → K) → sums o (a + b) f ≡ sums o a f ⊞ sums o b (λ i. f (a + i))
  sums_split a zero f = ap (λ n. sums o n f) (add-zero a) ∙ sym (R.sum_zero (sums o a f))
  sums_split a (suc b) f =
      ap (λ n. sums o n f) (add-suc a b) ∙ ap (λ s. s ⊞ f (a + b)) (sums_split a b f)
      ∙ R.sum_assoc (sums o a f) (sums o b (λ i. f (a + i))) (f (a + b))
