-- Products of polynomials modulo 2, coefficient by coefficient, as sums of products.
use Rattle.std.proofs.Common.{◌≡◌, ℕ, zero, suc, ◌+◌, ◌-◌, ◌*◌, ◌%◌, ◌<◌, ◌≤◌, sym, ap, ◌∙◌, ap₂, add-zero, zero-add, arith}
use native.Mathlib.Nat.{add-mod, sub-zero}
use native.Mathlib.Decide.{dec_lt}
use Rattle.algebra.specs.Codes.{modulo}
use Rattle.algebra.specs.Polynomials.{conv}
use Rattle.algebra.specs.Coordinates.{total}
use Rattle.algebra.proofs.HankelCoordinates.{total_ext}

-- the first term apart
total_first : (n : ℕ) (x : ℕ → ℕ) → total (suc n) x ≡ x 0 + total n (λ i. x (suc i))
total_first zero x = zero-add (x 0) ∙ sym (add-zero (x 0))
total_first (suc n) x = omega (arith, total_first n x)

-- terms that are 0 do not count
pub total_past : (m n : ℕ) (x : ℕ → ℕ) → m ≤ n → ((j : ℕ) → m ≤ j → x j ≡ 0) → total n x ≡ total m x
total_past m zero x h z = let e : 0 ≡ m = omega arith in ap (λ (k : ℕ). total k x) e
total_past m (suc n) x h z = go (λ l. total_past m n x l z) (dec_lt n m)
  where
    go : (m ≤ n → total n x ≡ total m x) → Dec (n < m) → total (suc n) x ≡ total m x
    go rest (yes l) = let e : suc n ≡ m = omega arith in ap (λ (k : ℕ). total k x) e
    go rest (no l) = omega (arith, rest (omega arith), z n (omega arith))

pub conv-total : (u s : ℕ → ℕ) (t : ℕ) → conv (modulo 2) u s t ≡ total (suc t) (λ j. u j * s (t - j)) % 2
conv-total u s zero = ap (λ (x : ℕ). x % 2) (sym (zero-add (u 0 * s 0)))
conv-total u s (suc t) =
    ap (λ (x : ℕ). ((u 0 * s (suc t)) % 2 + x) % 2) (conv-total (λ j. u (suc j)) s t)
    ∙ sym (add-mod (u 0 * s (suc t)) (total (suc t) (λ j. u (suc j) * s (t - j))) 2)
    ∙ ap (λ (x : ℕ). x % 2)
    (ap₂ (λ (k x : ℕ). u 0 * s k + x) (sym (sub-zero (suc t))) (total_ext (suc t) (λ j. u (suc j) * s (t - j)) (λ j. u (suc j) * s (suc t - suc j)) (λ j l. same j))
    ∙ sym (total_first (suc t) (λ j. u j * s (suc t - j))))
  where
    same : (j : ℕ) → u (suc j) * s (t - j) ≡ u (suc j) * s (suc t - suc j)
    same j = let e : t - j ≡ suc t - suc j = omega arith in ap (λ (k : ℕ). u (suc j) * s k) e
