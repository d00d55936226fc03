-- Power sums with marked points folded in: each marked point is taken out of the sums.
use Rattle.std.proofs.Common.{◌≡◌, ℕ, zero, suc, ◌+◌, ◌-◌, ◌<◌, ◌≤◌, Bool, true, false, cond, [], ◌∷◌, sym, ap, ◌∙◌, ap₂, arith}
use native.Mathlib.Nat.{sub-zero}
use Rattle.algebra.specs.Operations.{Operations, Ring}
use Rattle.algebra.specs.Polynomials.{less, pow, sums}
use Rattle.algebra.specs.Counts.{count}
use Rattle.algebra.specs.Points.{folded}
use Rattle.algebra.proofs.Sums.{sums_same}
use Rattle.algebra.proofs.Solver.{reify}
use Rattle.algebra.proofs.Solver

-- the product of the x_i - x_l over the marked points l below k
abbrev pub weight : {K : Type 0} → Operations K → (ℕ → K) → (ℕ → Bool) → ℕ → ℕ → K
weight o x E zero i = o.one
weight o x E (suc k) i = cond (E k) (o.prod (weight o x E k i) (o.sum (x i) (o.neg (x k)))) (weight o x E k i)

module _ {K : Type 0} (o : Operations K) (R : Ring o) (x : ℕ → K) where
  open o use {sum as ◌⊞◌, prod as ◌·◌, neg}

  infixl 60 ◌⊞◌
  infixl 70 ◌·◌
  -- one point y taken out
  taken_out :
      (n : ℕ) (y : K) (e w : ℕ → K) (t : ℕ)
      → sums o n (λ i. (e i · w i) · pow o (x i) (suc t)) ⊞ neg (y · sums o n (λ i. (e i · w i) · pow o (x i) t))
      ≡ sums o n (λ i. (e i · (w i · (x i ⊞ neg y))) · pow o (x i) t)
  taken_out zero y e w t = Solver.ring o R (y ∷ []) (search reify depth 30) tt
  taken_out (suc n) y e w t =
      let p = pow o (x n) t in
      let f = sums o n (λ i. (e i · w i) · pow o (x i) (suc t)) in
      let g = sums o n (λ i. (e i · w i) · pow o (x i) t) in
      Solver.ring o R (y ∷ e n ∷ w n ∷ x n ∷ p ∷ f ∷ g ∷ []) {y = (f ⊞ neg (y · g)) ⊞ (e n · (w n · (x n ⊞ neg y))) · p} (search reify depth 30 fits 20000) tt
      ∙ ap (λ s. s ⊞ (e n · (w n · (x n ⊞ neg y))) · p) (taken_out n y e w t)

  -- each marked point folded in weights the terms and lowers their exponents by one
  pub folded_sums :
      (E : ℕ → Bool) (n r : ℕ) (e T : ℕ → K)
      → ((t : ℕ) → t < r → T t ≡ sums o n (λ i. e i · pow o (x i) (suc t)))
      → (k t : ℕ) → count k E ≤ t → t < r
      → folded o x E T k t ≡ sums o n (λ i. (e i · weight o x E k i) · pow o (x i) (suc t - count k E))
  folded_sums E n r e T h zero t c l =
      h t l ∙ sums_same o n _ _ (λ i g. ap₂ (λ a m. a · pow o (x i) m) (sym (R.prod_one (e i))) (sym (sub-zero (suc t))))
  folded_sums E n r e T h (suc k) t c l = go (E k) t c l (folded_sums E n r e T h k)
    where
      f : ℕ → K
      f = folded o x E T k

      w : ℕ → K
      w = weight o x E k

      summed : ℕ → K
      summed m = sums o n (λ i. (e i · w i) · pow o (x i) m)

      go : (b : Bool) (t : ℕ) → count k E + cond b 1 0 ≤ t → t < r
          → ((t : ℕ) → count k E ≤ t → t < r → f t ≡ summed (suc t - count k E))
          → cond b (less o f (x k) 1 f) f t ≡ sums o n (λ i. (e i · cond b (w i · (x i ⊞ neg (x k))) (w i)) · pow o (x i) (suc t - (count k E + cond b 1 0)))
      go false t c l rest = rest t (omega arith) l ∙ ap summed (omega arith)
      go true zero c l rest = absurd (omega arith)
      go true (suc t) c l rest =
          let m = suc t - count k E in
          let g : suc (suc t) - count k E ≡ suc m = omega arith in
          ap₂ (λ a b. a ⊞ neg (x k · b)) (rest (suc t) (omega arith) l ∙ ap summed g) (rest t (omega arith) (omega arith))
          ∙ taken_out n (x k) e w m
          ∙ ap (λ m. sums o n (λ i. (e i · (w i · (x i ⊞ neg (x k)))) · pow o (x i) m)) (omega arith)
