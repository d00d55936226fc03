-- Modulo an F with no factor, a b that is not 0 and makes every row but the last 0 is the inverse of a.
use Rattle.std.proofs.Common.{◌≡◌, ℕ, suc, ◌+◌, ◌-◌, ◌*◌, ◌%◌, ◌^◌, ◌<◌, ◌≤◌, Bool, true, false, cond, eqb, sym, refl, ap, ◌∙◌, subst, ap₂, inl, inr, eq-zero-or-pos, one-mul, pow-suc, arith, pow_pos, eqb-true}
use native.Mathlib.Nat.{div-eq_of_lt}
use native.Mathlib.Decide.{dec_lt}
use borrow.Author.Tests.{eqb-false}
use lib.Arith.{lt_of_le-ne}
use lib.Bits.{bit_xor, xor_zero_r, xor_lt}
use lib.Pow.{pow-lt}
use Rattle.algebra.specs.Binary.{times, Degree, NoFactor, product}
use Rattle.algebra.specs.Coordinates.{row, Solves}
use Rattle.algebra.proofs.BinaryProducts.{xor_shl, xor_zero_eq}
use Rattle.algebra.proofs.BinaryDegrees.{has_degree, degree_le, pow-degree, shl_degree}
use Rattle.algebra.proofs.BinaryRemainders.{remainder_leaves}
use Rattle.algebra.proofs.BinaryInverses.{no_zero_product}
use Rattle.algebra.proofs.BinaryField.{product_lt, product_xor}
use Rattle.algebra.proofs.BinaryBits.{degree-bit}
use Rattle.algebra.proofs.Hankel.{lead, lead_xor, small, row_lead}

module _ (F m : ℕ) (hF : Degree F m) (pos : 0 < m) where
  whole : 2 ^ suc (m - 1) ≡ 2 ^ m
  whole = ap (λ (x : ℕ). 2 ^ x) (omega arith)

  lead_top : (x : ℕ) → Degree x (m - 1) → lead F m x ≡ 1
  lead_top x h = rw (small F m hF pos x (omega (arith, whole))) (degree-bit x (m - 1) h)

  lead_below : (x : ℕ) → x < 2 ^ (m - 1) → lead F m x ≡ 0
  lead_below x h = rw (small F m hF pos x (omega (arith, whole, pow-suc 2 (m - 1))), div-eq_of_lt h)

  -- only 0 has no lead in any shift
  none_but_zero : (x : ℕ) → x < 2 ^ m → ((i : ℕ) → i < m → lead F m (x * 2 ^ i) ≡ 0) → x ≡ 0
  none_but_zero x h z = elim (eq-zero-or-pos x) [ inl e ↦ e | inr p ↦ absurd (go (has_degree x p)) ]
    where
      go : (d : ℕ) × Degree x d → ⊥
      go (d, k) =
          let l : d ≤ m - 1 = degree_le x d (m - 1) k (omega (arith, whole)) in
          let i = m - 1 - d in
          let t : Degree (x * 2 ^ i) (m - 1) = subst (Degree (x * 2 ^ i)) (omega arith) (shl_degree x d i k) in
          omega (arith, lead_top (x * 2 ^ i) t, z i (omega arith))

  lead_one : (i : ℕ) → i < m → lead F m (1 * 2 ^ i) ≡ cond (eqb i (m - 1)) 1 0
  lead_one i h = rw one-mul (go (eqb i (m - 1)) refl)
    where
      go : (t : Bool) → eqb i (m - 1) ≡ t → lead F m (2 ^ i) ≡ cond t 1 0
      go true e = lead_top (2 ^ i) (subst (Degree (2 ^ i)) (eqb-true i (m - 1) e) (pow-degree i))
      go false e = lead_below (2 ^ i) (pow-lt (lt_of_le-ne {i = i} {k = m - 1} (omega arith) (eqb-false i (m - 1) e)))

  module _ (none : NoFactor F m) (a : ℕ) (pa : 0 < a) (ha : a < 2 ^ m) where
    product-zero : (b : ℕ) → b < 2 ^ m → product F a b ≡ 0 → b ≡ 0
    unfolding product
    product-zero b hb z =
        let d = (remainder_leaves (times a b) F m hF).1 in
        no_zero_product F m hF none a b pa ha hb (d.0, d.1 ∙ ap (bit_xor (times a b)) z ∙ xor_zero_r (times a b))

    pub inverse_unique : (b c : ℕ) → b < 2 ^ m → c < 2 ^ m → product F a b ≡ 1 → product F a c ≡ 1 → b ≡ c
    inverse_unique b c hb hc p q = xor_zero_eq b c (product-zero (bit_xor b c) (xor_lt m b c hb hc) (product_xor F m hF a b c ∙ ap₂ bit_xor p q))

    pub solves : (b : ℕ) → 0 < b → b < 2 ^ m → ((i : ℕ) → i < m - 1 → row F m a b i ≡ 0) → Solves F m a b × (product F a b ≡ 1)
    solves b pb hb rows = (solved, one)
      where
        y : ℕ
        y = product F a b

        -- a last row of 0 would make a b vanish
        last : row F m a b (m - 1) ≡ 1
        last = elim (eq-zero-or-pos (row F m a b (m - 1))) [ inl z ↦ absurd (vanish z) | inr p ↦ omega arith ]
          where
            every : row F m a b (m - 1) ≡ 0 → (i : ℕ) → i < m → row F m a b i ≡ 0
            every z i l = elim (dec_lt i (m - 1)) [ yes k ↦ rows i k | no k ↦ ap (row F m a b) (omega arith) ∙ z ]

            vanish : row F m a b (m - 1) ≡ 0 → ⊥
            vanish z = omega (arith, product-zero b hb (none_but_zero y (product_lt F m hF a b) (λ i l. sym (row_lead F m hF pos a ha b i hb) ∙ every z i l)))

        solved : Solves F m a b
        solved i l = go (eqb i (m - 1)) refl
          where
            go : (t : Bool) → eqb i (m - 1) ≡ t → row F m a b i ≡ cond t 1 0
            go true e = ap (row F m a b) (eqb-true i (m - 1) e) ∙ last
            go false e = rows i (lt_of_le-ne (omega arith) (eqb-false i (m - 1) e))

        one : product F a b ≡ 1
        one = xor_zero_eq y 1 (none_but_zero (bit_xor y 1) (xor_lt m y 1 (product_lt F m hF a b) (omega (arith, whole, pow-suc 2 (m - 1), pow_pos (m - 1)))) same)
          where
            same : (i : ℕ) → i < m → lead F m (bit_xor y 1 * 2 ^ i) ≡ 0
            same i l =
                ap (lead F m) (sym (xor_shl y 1 i)) ∙ lead_xor F m hF pos (y * 2 ^ i) (1 * 2 ^ i)
                ∙ ap₂ (λ (v w : ℕ). (v + w) % 2) (sym (row_lead F m hF pos a ha b i hb) ∙ solved i l) (lead_one i l) ∙ omega arith
