-- What the iterations give at the end, for coefficients of any field.
use Rattle.std.proofs.Common.{◌≡◌, ℕ, zero, suc, pred, ◌-◌, ◌*◌, ◌<◌, ◌≤◌, [], ◌∷◌, sym, refl, ◌∙◌, ap₂, arith}
use native.Mathlib.Decide.{dec_le}
use Rattle.algebra.specs.Operations.{Operations, Ring, Field, Tested}
use Rattle.algebra.specs.Polynomials.{conv, terms}
use Rattle.algebra.specs.Iteration.{Pairs, iteration, after, left, Iterations}
use Rattle.algebra.proofs.Solver.{reify}
use Rattle.algebra.proofs.Solver
use Rattle.algebra.proofs.Terms
use Rattle.algebra.proofs.Invariant.{Stands, small_multiplier_within}
use Rattle.algebra.proofs.Invariant
use Rattle.algebra.proofs.OneIteration

module _ {K : Type 0} (o : Operations K) (R : Ring o) (F : Field o) (Z : Tested o) (n : ℕ) (r : ℕ → K) (stop : ℕ) where
  open o use {zero as 0#, sum as ◌⊞◌, prod as ◌·◌, neg}

  infixl 60 ◌⊞◌
  infixl 70 ◌·◌
  pub stands : (k : ℕ) → ((i : ℕ) → i < k → suc stop < left o n r i) → Stands o n r stop k (after o n r k)
  unfolding after iteration left
  stands zero b = Invariant.begins o R Z n r stop
  stands (suc k) b = OneIteration.next o R F Z n r stop k (after o n r k) (stands k (λ i g. b i (omega arith))) (b k (omega arith))

  pub bound : (k : ℕ) → ((i : ℕ) → i < k → suc stop < left o n r i) → k ≤ 2 * (n - stop) - 2
  unfolding left
  bound zero b = omega arith
  bound (suc k) b =
      let h = stands k (λ i g. b i (omega arith)) in
      omega (arith, b k (omega arith))

  module _ (k : ℕ) (h : Iterations o n r stop k) where
    abbrev s : Pairs K
    s = after o n r k

    st : Stands o n r stop k s
    st = stands k h.before

    pub key : (t : ℕ) → stop < t → t < n → conv o (after o n r k).small_multiplier r t ≡ 0#
    unfolding left
    key t l g = sym (st.small_is t g) ∙ Terms.terms_beyond o Z (suc n) s.small t (omega (arith, h.ended)) (omega arith)

    pub nonzero : (t : ℕ) × (t < suc (n - 1 - stop)) × ¬ ((after o n r k).small_multiplier t ≡ 0#)
    nonzero = go (terms o w UB) refl
      where
        w : ℕ
        w = suc (n - 1 - stop)

        UB : ℕ → K
        UB = s.small_multiplier

        go : (x : ℕ) → terms o w UB ≡ x → (t : ℕ) × (t < w) × ¬ (UB t ≡ 0#)
        go zero e =
            let u : (t : ℕ) → UB t ≡ 0# = λ t. Terms.terms_exact o Z w UB (small_multiplier_within st) t (omega arith) in
            let b : (t : ℕ) → s.small t ≡ 0# = λ t. elim (dec_le n t) [
              | yes g ↦ st.small_within t g
              | no g ↦ st.small_is t (omega arith) ∙ Invariant.conv-nothing o R Z UB r t u
            ] in
            let a = s.big_multiplier (suc n - terms o (suc n) s.small) in
            let x = s.big (pred (terms o (suc n) s.big)) in
            absurd (st.crosses (ap₂ (λ y v. a · y ⊞ neg (v · x)) (b _) (u _) ∙ Solver.ring o R (a ∷ x ∷ []) (search reify depth 30 fits 20000) tt))
        go (suc t) e = (t, omega (arith, Terms.terms_le o Z w UB), Terms.terms_top o Z w UB t e)
