-- Printing: a door's characters and the negated register are a label, and so every door has one.
use Rattle.std.proofs.Common.{◌≡◌, ℕ, ◌+◌, ◌-◌, ◌*◌, ◌^◌, ◌<◌, ◌≤◌, ltb, List, map, length, get_or, sym, refl, ap, ◌∙◌, subst, arith, le-ltb, lt-ltb}
use native.Mathlib.Decide.{dec_lt}
use Rattle.std.specs.List.{range_with_len}
use Rattle.std.proofs.lemmas.List.FromFn.{length-map-range_with_len, get_or-map-range_with_len}
use Rattle.std.proofs.lemmas.Bool.{cond-true, cond-false}
use Rattle.algebra.specs.Operations.{Ring}
use Rattle.algebra.specs.Codes.{Closed, coded}
use Rattle.algebra.specs.Polynomials.{pow, sums}
use Rattle.algebra.proofs.Sums.{sums_same}
use Rattle.algebra.specs.Generators.{register}
use Rattle.algebra.proofs.Registers.{row-code}
use Rattle.algebra.proofs.CodedRegisters
use Rattle.arithmetic.specs.Meaning.{Meaning}
use Rattle.label.specs.Labels.{Label, code, digit, door}
use Rattle.label.proofs.Digits.{digit_lt, digits-door}

-- the row of length n that the k characters d begin
completed : Meaning → ℕ → ℕ → (ℕ → ℕ) → List ℕ
completed m n k d = map (λ p. row-code m.codes m.step (n - k) d k (n - 1 - p)) (range_with_len 0 n)

module _ (m : Meaning) (n k : ℕ) (d : ℕ → ℕ) where
  completed_at : (p i : ℕ) → p < n → n - 1 - p ≡ i → get_or (completed m n k d) p 0 ≡ row-code m.codes m.step (n - k) d k i
  unfolding completed
  completed_at p i l e =
      get_or-map-range_with_len (λ p. row-code m.codes m.step (n - k) d k (n - 1 - p)) 0 n p p 0 l (omega arith)
      ∙ ap (row-code m.codes m.step (n - k) d k) e

  completed_first : k < n → (p : ℕ) → p < k → get_or (completed m n k d) p 0 ≡ d p
  unfolding row-code
  completed_first h p l =
      completed_at p (n - 1 - p) (omega arith) refl
      ∙ cond-false (ltb (n - 1 - p) (n - k)) _ _ (le-ltb (n - 1 - p) (n - k) (omega arith))
      ∙ ap d (omega arith)

  completed_rest : (t : ℕ) → t < n - k → get_or (completed m n k d) (n - 1 - t) 0 ≡ m.codes.neg (register m.codes m.step (n - k) d k t)
  unfolding row-code
  completed_rest t l =
      completed_at (n - 1 - t) t (omega arith) (omega arith)
      ∙ cond-true (ltb t (n - k)) _ _ (lt-ltb t (n - k) l)

module _ (m : Meaning) (C : Closed m.size m.codes) where
  pub register-codes : m.step < m.size → (r k : ℕ) (d : ℕ → ℕ) → ((p : ℕ) → p < k → d p < m.size)
      → (p t : ℕ) → p ≤ k → register m.codes m.step r d p t < m.size
  register-codes S r k d h = CodedRegisters.register_lt m.size m.codes C m.step r k d S h

  module _ (R : Ring (coded m.size m.codes C)) (S : m.step < m.size) (n k : ℕ) (some : 1 ≤ k) (less : k < n) where
    module _ (d : ℕ → ℕ) (dc : (p : ℕ) → p < k → d p < m.size) (row : List ℕ) (long : length row ≡ n)
        (first : (p : ℕ) → p < k → get_or row p 0 ≡ d p)
        (rest : (t : ℕ) → t < n - k → get_or row (n - 1 - t) 0 ≡ m.codes.neg (register m.codes m.step (n - k) d k t)) where
      -- each code of the row is that of the completed row
      row_is : (i : ℕ) → i < n → code n row i ≡ row-code m.codes m.step (n - k) d k i
      unfolding row-code
      row_is i l = elim (dec_lt i (n - k)) [
        | yes a ↦ rest i a ∙ sym (cond-true (ltb i (n - k)) _ _ (lt-ltb i (n - k) a))
        | no a ↦
            let e : n - 1 - i ≡ k - 1 - (i - (n - k)) = omega arith in
            ap (λ p. get_or row p 0) e ∙ first (k - 1 - (i - (n - k))) (omega arith)
            ∙ sym (cond-false (ltb i (n - k)) _ _ (le-ltb i (n - k) (omega arith)))
      ]

      row-codes : (p : ℕ) → p < n → get_or row p 0 < m.size
      row-codes p l = elim (dec_lt p k) [
        | yes a ↦ subst (λ x. x < m.size) (sym (first p a)) (dc p a)
        | no a ↦
            let e : n - 1 - (n - 1 - p) ≡ p = omega arith in
            subst (λ x. x < m.size) (sym (rest (n - 1 - p) (omega arith)) ∙ ap (λ p. get_or row p 0) e)
            (C.neg_in _ (register-codes S (n - k) k d dc k (n - 1 - p) (omega arith)))
      ]

      pub printed : Label m n (n - k) row
      printed = record {
        long = long;
        codes = λ p l. row-codes p (omega arith);
        zeros = λ j a b.
            let all : n ≡ (n - k) + k = omega arith in
            sums_same m.codes n _ _ (λ i l. ap (λ c. m.codes.prod c (pow m.codes m.step (i * j))) (row_is i l))
            ∙ ap (λ x. sums m.codes x (λ i. m.codes.prod (row-code m.codes m.step (n - k) d k i) (pow m.codes m.step (i * j)))) all
            ∙ CodedRegisters.row-code-zeros m.size m.codes C R m.step (n - k) k d S some dc j a b;
      }

    -- every door has a label
    pub each_door_exists : (d : ℕ) → d < m.size ^ k → (row : List ℕ) × (Label m n (n - k) row × (door m.size k row ≡ d))
    unfolding completed
    each_door_exists d fits =
        let c : ℕ → ℕ = digit m.size k d in
        let row : List ℕ = completed m n k c in
        let first : (p : ℕ) → p < k → get_or row p 0 ≡ c p = completed_first m n k c less in
        let some-codes : 0 < m.size = omega (arith, C.zero_in) in (
          row,
          (
            printed c (λ p l. digit_lt m.size k d p some-codes) row (length-map-range_with_len _ 0 n) first (completed_rest m n k c),
            digits-door m.size k d row fits first,
          ),
        )
