-- Where the weight of a point is zero: at the marked points, and nowhere else.
use Rattle.std.proofs.Common.{◌≡◌, ℕ, zero, suc, ◌<◌, Bool, true, false, cond, ◌⊎◌, sym, refl, ap, ◌∙◌, inl, inr, le_of_suc-le-suc, eq-or-lt_of_le, arith}
use native.Mathlib.Decide.{dec_le}
use borrow.Author.Tests.{both_ways}
use Rattle.algebra.specs.Operations.{Operations, Ring, Field}
use Rattle.algebra.proofs.Folding.{weight}
use Rattle.algebra.proofs.Rings

module _ {K : Type 0} (o : Operations K) (R : Ring o) (x : ℕ → K) (E : ℕ → Bool) where
  open o use {zero as 0#, sum as ◌⊞◌, prod as ◌·◌, neg}

  infixl 60 ◌⊞◌
  infixl 70 ◌·◌
  -- at a marked point
  pub weight_zero : (n i : ℕ) → i < n → E i ≡ true → weight o x E n i ≡ 0#
  weight_zero zero i l e = absurd (omega arith)
  weight_zero (suc n) i l e = go (E n) refl (eq-or-lt_of_le (le_of_suc-le-suc l)) (λ g. weight_zero n i g e)
    where
      go : (b : Bool) → E n ≡ b → (i ≡ n) ⊎ (i < n) → (i < n → weight o x E n i ≡ 0#) → cond b (weight o x E n i · (x i ⊞ neg (x n))) (weight o x E n i) ≡ 0#
      go true h (inl k) rest = ap (λ j. weight o x E n i · (x i ⊞ neg (x j))) (sym k) ∙ ap (λ d. weight o x E n i · d) (R.sum_neg (x i)) ∙ Rings.mul-zero o R (weight o x E n i)
      go true h (inr k) rest = ap (λ w. w · (x i ⊞ neg (x n))) (rest k) ∙ Rings.zero-mul o R (x i ⊞ neg (x n))
      go false h (inl k) rest = absurd (both_ways (E i) (ap E k ∙ h) e)
      go false h (inr k) rest = rest k

module _ {K : Type 0} (o : Operations K) (R : Ring o) (F : Field o) (x : ℕ → K) (E : ℕ → Bool) where
  open o use {zero as 0#, sum as ◌⊞◌, prod as ◌·◌, neg}

  infixl 60 ◌⊞◌
  infixl 70 ◌·◌
  -- at a point that differs from every marked one
  weight_apart : (n i : ℕ) → ((l : ℕ) → l < n → E l ≡ true → ¬ (x i ≡ x l)) → ¬ (weight o x E n i ≡ 0#)
  weight_apart zero i d h = R.differ (sym h)
  weight_apart (suc n) i d h = go (E n) refl h (weight_apart n i (λ l g. d l (omega arith)))
    where
      go : (b : Bool) → E n ≡ b → cond b (weight o x E n i · (x i ⊞ neg (x n))) (weight o x E n i) ≡ 0# → ¬ (weight o x E n i ≡ 0#) → ⊥
      go true e h rest = rest (Rings.mul_cancel o R F (weight o x E n i) (x i ⊞ neg (x n)) h (Rings.sub_ne o R (x i) (x n) (d n (omega arith) e)))
      go false e h rest = rest h

  -- at a point that is not marked, where the points are different
  pub weight_nonzero : (n i : ℕ) → ((i j : ℕ) → i < j → j < n → ¬ (x i ≡ x j)) → i < n → E i ≡ false → ¬ (weight o x E n i ≡ 0#)
  weight_nonzero n i d l e = weight_apart n i (λ k g m.
      elim (dec_le k i) [ yes a ↦ below k m (eq-or-lt_of_le a) | no a ↦ d i k (omega arith) g ])
    where
      below : (k : ℕ) → E k ≡ true → (k ≡ i) ⊎ (k < i) → ¬ (x i ≡ x k)
      below k m (inl a) h = both_ways (E k) (ap E a ∙ e) m
      below k m (inr a) h = d k i a l (sym h)
