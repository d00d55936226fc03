-- As many power sums in a row that are zero as there are terms: every coefficient is zero.
use Rattle.std.proofs.Common.{◌≡◌, ℕ, zero, suc, ◌+◌, ◌<◌, ◌≤◌, Bool, true, false, cond, ◌⊎◌, [], ◌∷◌, sym, refl, ap, ◌∙◌, ap₂, inl, inr, le_of_suc-le-suc, add-zero, add-suc, eq-or-lt_of_le, arith}
use Rattle.algebra.specs.Operations.{Operations, Ring, Field}
use Rattle.algebra.specs.Polynomials.{pow, sums}
use Rattle.algebra.specs.Counts.{count}
use Rattle.algebra.proofs.Rings
use Rattle.algebra.proofs.Powers
use Rattle.algebra.proofs.Sums
use Rattle.algebra.proofs.Solver.{reify}
use Rattle.algebra.proofs.Solver

module _ {K : Type 0} (o : Operations K) (R : Ring o) (F : Field o) (x : ℕ → K) where
  open o use {zero as 0#, sum as ◌⊞◌, prod as ◌·◌, neg}

  infixl 60 ◌⊞◌
  infixl 70 ◌·◌
  -- the sum over i below n of a_i x_i^t
  abbrev moment : ℕ → (ℕ → K) → ℕ → K
  moment n a t = sums o n (λ i. a i · pow o (x i) t)

  -- the coefficients without the point y: y's own term is gone
  abbrev without : K → (ℕ → K) → ℕ → K
  without y a i = a i · (x i ⊞ neg y)

  moment_without : (n : ℕ) (y : K) (a : ℕ → K) (t : ℕ) → moment n (without y a) t ≡ moment n a (suc t) ⊞ neg (y · moment n a t)
  moment_without zero y a t = Solver.ring o R (y ∷ []) (search reify depth 30) tt
  moment_without (suc n) y a t =
      ap (λ s. s ⊞ without y a n · pow o (x n) t) (moment_without n y a t)
      ∙ Solver.ring o R (y ∷ a n ∷ x n ∷ pow o (x n) t ∷ moment n a t ∷ moment n a (suc t) ∷ []) (search reify depth 30 fits 20000) tt

  -- the last term's point taken out
  moment_last : (n : ℕ) (a : ℕ → K) (t : ℕ) → moment (suc n) a t ≡ 0# → moment (suc n) a (suc t) ≡ 0# → moment n (without (x n) a) t ≡ 0#
  moment_last n a t u v =
      moment_without n (x n) a t
      ∙ Solver.ring o R (x n ∷ a n ∷ pow o (x n) t ∷ moment n a t ∷ moment n a (suc t) ∷ []) {y = moment (suc n) a (suc t) ⊞ neg (x n · moment (suc n) a t)} (search reify depth 30 fits 20000) tt
      ∙ ap₂ (λ b c. b ⊞ neg (x n · c)) v u
      ∙ Solver.ring o R (x n ∷ []) (search reify depth 30) tt

  -- no more terms than equations: `support` holds at most N of the n places, and elsewhere a is zero
  pub supported :
      (n N : ℕ) (a : ℕ → K) (support : ℕ → Bool) (start : ℕ)
      → ((i j : ℕ) → i < j → j < n → ¬ (x i ≡ x j))
      → ((i : ℕ) → i < n → ¬ (x i ≡ 0#))
      → ((i : ℕ) → i < n → support i ≡ false → a i ≡ 0#)
      → count n support ≤ N
      → ((t : ℕ) → t < N → sums o n (λ i. a i · pow o (x i) (start + t)) ≡ 0#)
      → (i : ℕ) → i < n → a i ≡ 0#
  supported zero N a support start d nz out few eqs = λ i l. absurd (omega arith)
  supported (suc n) N a support start d nz out few eqs = go (support n) refl N few eqs (λ M b. supported n M b support start (λ i j l g. d i j l (omega arith)) (λ i l. nz i (omega arith)))
    where
      -- all the others are zero, so the last is
      last : moment (suc n) a start ≡ 0# → ((i : ℕ) → i < n → a i ≡ 0#) → a n ≡ 0#
      last e others =
          let p = pow o (x n) start in
          Rings.mul_cancel o R F (a n) p
          (sym (Rings.zero-add o R (a n · p))
          ∙ ap (λ s. s ⊞ a n · p) (sym (Sums.sums-zero o R n (λ i. a i · pow o (x i) start) (λ i l. ap (λ c. c · pow o (x i) start) (others i l) ∙ Rings.zero-mul o R (pow o (x i) start))))
          ∙ e)
          (Powers.pow-nonzero o R F (x n) start (nz n (omega arith)))

      both : ((i : ℕ) → i < n → a i ≡ 0#) → a n ≡ 0# → (i : ℕ) → (i ≡ n) ⊎ (i < n) → a i ≡ 0#
      both others own i (inl e) = ap a e ∙ own
      both others own i (inr l) = others i l

      go : (b : Bool) → support n ≡ b → (M : ℕ) → count n support + cond b 1 0 ≤ M → ((t : ℕ) → t < M → moment (suc n) a (start + t) ≡ 0#)
          → ((M : ℕ) (b : ℕ → K) → ((i : ℕ) → i < n → support i ≡ false → b i ≡ 0#) → count n support ≤ M → ((t : ℕ) → t < M → moment n b (start + t) ≡ 0#) → (i : ℕ) → i < n → b i ≡ 0#)
          → (i : ℕ) → i < suc n → a i ≡ 0#
      go false e M h eqs rest i l =
          let own = out n (omega arith) e in
          both (rest M a (λ j g. out j (omega arith)) (omega arith) (λ t g.
          sym (R.sum_zero (moment n a (start + t)))
          ∙ ap (λ s. moment n a (start + t) ⊞ s) (sym (Rings.zero-mul o R (pow o (x n) (start + t))) ∙ ap (λ c. c · pow o (x n) (start + t)) (sym own))
          ∙ eqs t g))
          own i (eq-or-lt_of_le (le_of_suc-le-suc l))
      go true e zero h eqs rest i l = absurd (omega arith)
      go true e (suc M) h eqs rest i l =
          let others : (j : ℕ) → j < n → a j ≡ 0# = λ j g.
          Rings.mul_cancel o R F (a j) (x j ⊞ neg (x n))
          (rest M (without (x n) a)
          (λ k s w. ap (λ c. c · (x k ⊞ neg (x n))) (out k (omega arith) w) ∙ Rings.zero-mul o R (x k ⊞ neg (x n)))
          (omega arith)
          (λ t s. moment_last n a (start + t) (eqs t (omega arith)) (ap (moment (suc n) a) (sym (add-suc start t)) ∙ eqs (suc t) (omega arith)))
          j g)
          (Rings.sub_ne o R (x j) (x n) (d j n g (omega arith))) in
          both others (last (ap (moment (suc n) a) (sym (add-zero start)) ∙ eqs 0 (omega arith)) others) i (eq-or-lt_of_le (le_of_suc-le-suc l))
