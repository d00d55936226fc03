-- Modulo an F with no factor every code but 0 has an inverse, so no product of two is 0.
use Rattle.std.proofs.Common.{◌≡◌, ℕ, zero, suc, ◌^◌, ◌<◌, sym, refl, ap, ◌∙◌, subst, ap₂, le_trans, le_refl, lt_of_lt_of_le, not-suc-le-zero, lt_irrefl, arith, pow_mono}
use native.Mathlib.Decide.{dec_lt}
use lib.Bits.{bit_xor, xor_comm, xor_assoc}
use Rattle.algebra.specs.Binary.{times, Degree, Divides, NoFactor, remainder}
use Rattle.algebra.proofs.BinaryProducts.{times_zero_l, times_one_r, times_comm, times_assoc, times_xor_l, times_xor_r, xor_cancel}
use Rattle.algebra.proofs.BinaryDegrees.{LeavesBy, has_degree, small_multiple}
use Rattle.algebra.proofs.BinaryRemainders.{remainder_leaves}
use Rattle.algebra.proofs.BinaryFactors.{left_zero}

module _ (F m : ℕ) (hF : Degree F m) (none : NoFactor F m) where
  -- from an inverse of what F leaves by a, one of a
  inverse-step : (a r s : ℕ) → Divides a (bit_xor F r) → Divides F (bit_xor (times r s) 1) → (b : ℕ) × Divides F (bit_xor (times a b) 1)
  inverse-step a r s (q, e) (t, f) = (times q s, (bit_xor s t, sym same))
    where
      product : times a (times q s) ≡ bit_xor (times s F) (times r s)
      product =
          sym (times_assoc a q s) ∙ ap (λ (x : ℕ). times x s) (times_comm a q ∙ e) ∙ times_xor_l F r s
          ∙ ap (λ (x : ℕ). bit_xor x (times r s)) (times_comm F s)

      same : bit_xor (times a (times q s)) 1 ≡ times (bit_xor s t) F
      same =
          ap (λ (x : ℕ). bit_xor x 1) product ∙ xor_assoc (times s F) (times r s) 1 ∙ ap (bit_xor (times s F)) (sym f)
          ∙ sym (times_xor_l s t F)

  inverse_in : (n a : ℕ) → a < n → 0 < a → a < 2 ^ m → (b : ℕ) × Divides F (bit_xor (times a b) 1)
  inverse_in zero a h p l = absurd (not-suc-le-zero h)
  inverse_in (suc n) a h p l = go (inverse_in n) (has_degree a p)
    where
      Inverse : ℕ → Type 0
      Inverse x = (b : ℕ) × Divides F (bit_xor (times x b) 1)

      of_one : a ≡ 1 → (b : ℕ) × Divides F (bit_xor (times a b) 1)
      of_one e = (1, (0, times_zero_l F ∙ sym (ap (λ (x : ℕ). bit_xor x 1) (times_one_r a ∙ e))))

      factor : (d : ℕ) → Degree a (suc d) → LeavesBy F a 0 → ⊥
      factor d k z = none a (record { at = suc d; low = omega arith; high = exponent_lt d k; degree = k; divides = left_zero F a z })
        where
          exponent_lt : (d : ℕ) → Degree a (suc d) → suc d < m
          exponent_lt d k = elim (dec_lt (suc d) m) [ yes g ↦ g | no g ↦ absurd (lt_irrefl a (lt_of_lt_of_le l (le_trans (pow_mono (omega arith)) k.0))) ]

      go : ((x : ℕ) → x < n → 0 < x → x < 2 ^ m → Inverse x) → (d : ℕ) × Degree a d → Inverse a
      go rest (zero, k) = of_one (omega arith)
      go rest (suc d, k) = at (remainder F a, remainder_leaves F a (suc d) k)
        where
          at : (r : ℕ) × LeavesBy F a r → Inverse a
          at (zero, g) = absurd (factor d k g)
          at (suc r, g) =
              let small : suc r < a = lt_of_lt_of_le (g.0 (suc d) k) k.0 in
              let s = rest (suc r) (omega arith) (omega arith) (omega arith) in
              inverse-step a (suc r) s.0 g.1 s.1

  pub inverse : (a : ℕ) → 0 < a → a < 2 ^ m → (b : ℕ) × Divides F (bit_xor (times a b) 1)
  inverse a p l = inverse_in (suc a) a (le_refl (suc a)) p l

  -- no zero divisors
  pub no_zero_product : (a x : ℕ) → 0 < a → a < 2 ^ m → x < 2 ^ m → Divides F (times a x) → x ≡ 0
  no_zero_product a x p l k (u, e) = sym same ∙ ap (λ (q : ℕ). times q F) zeroed ∙ times_zero_l F
    where
      b : ℕ
      b = (inverse a p l).0

      t : ℕ
      t = (inverse a p l).1.0

      f : times t F ≡ bit_xor (times a b) 1
      f = (inverse a p l).1.1

      -- x = (ab - 1) x - b (a x), and F divides both
      q : ℕ
      q = bit_xor (times x t) (times b u)

      same : times q F ≡ x
      same =
          times_xor_l (times x t) (times b u) F
          ∙ ap₂ bit_xor (times_assoc x t F ∙ ap (times x) f ∙ times_xor_r x (times a b) 1) (times_assoc b u F ∙ ap (times b) e)
          ∙ ap₂ (λ (v w : ℕ). bit_xor (bit_xor v (times x 1)) w) (times_comm x (times a b) ∙ ap (λ (v : ℕ). times v x) (times_comm a b) ∙ times_assoc b a x) refl
          ∙ xor_comm (bit_xor (times b (times a x)) (times x 1)) (times b (times a x))
          ∙ xor_cancel (times b (times a x)) (times x 1) ∙ times_one_r x

      zeroed : q ≡ 0
      zeroed = small_multiple q F m hF (subst (λ (v : ℕ). v < 2 ^ m) (sym same) k)
