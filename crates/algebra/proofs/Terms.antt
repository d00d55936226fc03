-- How many terms a polynomial has: what lies beyond them, and its leading coefficient.
use Rattle.std.proofs.Common.{◌≡◌, ℕ, zero, suc, ◌<◌, ◌≤◌, Bool, true, false, cond, eqb, ◌⊎◌, sym, refl, ap, ◌∙◌, inl, inr, le_of_suc-le-suc, eq-or-lt_of_le, arith, eq-eqb, eqb-true}
use native.Mathlib.Decide.{dec_le}
use borrow.Author.Tests.{both_ways}
use Rattle.algebra.specs.Operations.{Operations, Tested}
use Rattle.algebra.specs.Polynomials.{Within, terms}

module _ {K : Type 0} (o : Operations K) (Z : Tested o) where
  pub terms_le : (n : ℕ) (p : ℕ → K) → terms o n p ≤ n
  terms_le zero p = omega arith
  terms_le (suc n) p = go (o.zero? (p n)) (terms_le n p)
    where
      go : (b : Bool) → terms o n p ≤ n → cond b (terms o n p) (suc n) ≤ suc n
      go true h = omega arith
      go false h = omega arith

  pub terms_beyond : (n : ℕ) (p : ℕ → K) (t : ℕ) → terms o n p ≤ t → t < n → p t ≡ o.zero
  terms_beyond zero p t h l = absurd (omega arith)
  terms_beyond (suc n) p t h l = go (o.zero? (p n)) refl h (λ g k. terms_beyond n p t g k) (eq-or-lt_of_le (le_of_suc-le-suc l))
    where
      go : (b : Bool) → o.zero? (p n) ≡ b → cond b (terms o n p) (suc n) ≤ t → (terms o n p ≤ t → t < n → p t ≡ o.zero) → (t ≡ n) ⊎ (t < n) → p t ≡ o.zero
      go true e g rest (inr k) = rest g k
      go true e g rest (inl k) = ap p k ∙ Z.tells (p n) e
      go false e g rest k = absurd (omega arith)

  pub terms_top : (n : ℕ) (p : ℕ → K) (d : ℕ) → terms o n p ≡ suc d → ¬ (p d ≡ o.zero)
  terms_top zero p d h e = omega arith
  terms_top (suc n) p d h e = go (o.zero? (p n)) refl h (λ g. terms_top n p d g e)
    where
      go : (b : Bool) → o.zero? (p n) ≡ b → cond b (terms o n p) (suc n) ≡ suc d → ¬ (terms o n p ≡ suc d) → ⊥
      go true x g rest = rest g
      go false x g rest =
          let k : n ≡ d = omega arith in
          both_ways (o.zero? (p n)) x (ap o.zero? (ap p k ∙ e) ∙ Z.passes)

  pub terms_within : (n : ℕ) (p : ℕ → K) (w : ℕ) → Within o w p → terms o n p ≤ w
  terms_within n p w h = go (terms o n p) refl
    where
      go : (k : ℕ) → terms o n p ≡ k → k ≤ w
      go zero e = omega arith
      go (suc d) e = elim (dec_le (suc d) w) [ yes k ↦ k | no k ↦ absurd (terms_top n p d e (h d (omega arith))) ]

  pub terms_exact : (n : ℕ) (p : ℕ → K) → Within o n p → Within o (terms o n p) p
  terms_exact n p h t l = elim (dec_le n t) [ yes k ↦ h t k | no k ↦ terms_beyond n p t l (omega arith) ]

-- a test that compares with zero is right
pub tested : (o : Operations ℕ) → ((a : ℕ) → o.zero? a ≡ eqb a o.zero) → Tested o
tested o Z = record { passes = Z o.zero ∙ eq-eqb o.zero o.zero refl; tells = λ a e. eqb-true a o.zero (sym (Z a) ∙ e) }
