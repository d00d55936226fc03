-- Trial by every polynomial of a degree finds every factor.
use Rattle.std.proofs.Common.{◌≡◌, ℕ, ◌+◌, ◌-◌, ◌^◌, ◌<◌, sym, ap, ◌∙◌, subst, ap₂, pow-suc, arith}
use native.Mathlib.Decide.{dec_lt}
use lib.Bits.{bit_xor, xor_zero_r}
use Rattle.algebra.specs.Binary.{times, Degree, Divides, NoFactor}
use Rattle.algebra.proofs.BinaryProducts.{times_zero_l, times_xor_l, xor_cancel}
use Rattle.algebra.proofs.BinaryDegrees.{LeavesBy, small_multiple}

-- nothing is left: a factor
pub left_zero : (f x : ℕ) → LeavesBy f x 0 → Divides x f
left_zero f x h = (h.1.0, h.1.1 ∙ xor_zero_r f)

-- a factor: nothing is left
pub factor_left : (f x d r : ℕ) → Degree x d → LeavesBy f x r → Divides x f → r ≡ 0
factor_left f x d r h l (p, e) = sym same ∙ ap (λ (q : ℕ). times q x) (small_multiple s x d h (subst (λ (y : ℕ). y < 2 ^ d) (sym same) (l.0 d h))) ∙ times_zero_l x
  where
    s : ℕ
    s = bit_xor p l.1.0

    same : times s x ≡ r
    same = times_xor_l p l.1.0 x ∙ ap₂ bit_xor e l.1.1 ∙ xor_cancel f r

-- a polynomial of degree d is z^d and a pattern below it
pub pattern_degree : (d p : ℕ) → p < 2 ^ d → Degree (2 ^ d + p) d
pattern_degree d p h = omega (arith, pow-suc 2 d)

pub none_more : (f d : ℕ) → NoFactor f d → ((p : ℕ) → p < 2 ^ d → Divides (2 ^ d + p) f → ⊥) → NoFactor f (d + 1)
none_more f d before here x h = elim (dec_lt h.at d) [ yes l ↦ before x (record { at = h.at; low = h.low; high = l; degree = h.degree; divides = h.divides }) | no l ↦ at_d l ]
  where
    at_d : (h.at < d → ⊥) → ⊥
    at_d l =
        let e : h.at ≡ d = omega (arith, h.high) in
        let deg : Degree x d = subst (Degree x) e h.degree in
        let whole : x ≡ 2 ^ d + (x - 2 ^ d) = omega (arith, deg) in
        here (x - 2 ^ d) (omega (arith, deg, pow-suc 2 d)) (subst (λ (y : ℕ). Divides y f) whole h.divides)
