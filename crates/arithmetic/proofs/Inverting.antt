-- The iteration on the bits of a Hankel system solves it.
use Rattle.std.proofs.Common.{◌≡◌, ℕ, zero, suc, ◌+◌, ◌-◌, ◌*◌, ◌%◌, ◌^◌, ◌<◌, ◌≤◌, Bool, true, false, cond, ltb, List, length, get_or, sym, refl, ap, ◌∙◌, subst, ap₂, mul_comm, zero-mul, arith, ltb-true}
use mathlib.Core.Path.{fun_ext}
use Rattle.algebra.specs.Binary.{bit, value, Degree, NoFactor}
use Rattle.algebra.specs.Codes.{modulo}
use Rattle.algebra.specs.Coordinates.{backwards, coordinates, hankel, row}
use Rattle.algebra.specs.Operations.{Operations}
use Rattle.algebra.specs.Iteration.{Pairs, begun, after, iteration, left, Iterations}
use Rattle.algebra.specs.Polynomials.{conv}
use Rattle.algebra.specs.Polynomials
use Rattle.algebra.proofs.BinaryBits.{value_lt, bit-value, value_pos}
use Rattle.algebra.proofs.BitConvolutions.{conv-total, total_past}
use Rattle.algebra.proofs.HankelCoordinates.{coordinates_at, coordinates_length, hankel-bit, total_ext}
use Rattle.algebra.proofs.HankelInverse.{solves}
use Rattle.arithmetic.specs.Meaning.{Codes, residues}
use Rattle.arithmetic.specs.Rows.{Iterated, polynomial_of}
use Rattle.arithmetic.specs.Inverting.{Inverts}

-- only the coefficients below z^n count for the iterations from z^n
module _ (o : Operations ℕ) (n : ℕ) (r s : ℕ → ℕ) (same : (t : ℕ) → t < n → r t ≡ s t) where
  begun_ext : begun o n r ≡ begun o n s
  begun_ext =
      ap (λ (p : ℕ → ℕ). record {
        big = (begun o n r).big;
        big_multiplier = (begun o n r).big_multiplier;
        small = p;
        small_multiplier = (begun o n r).small_multiplier;
      }) (fun_ext (λ t. at t (ltb t n) refl))
    where
      at : (t : ℕ) (b : Bool) → ltb t n ≡ b → cond b (r t) o.zero ≡ cond b (s t) o.zero
      at t true e = same t (ltb-true t n e)
      at t false e = refl

  after_ext : (k : ℕ) → after o n r k ≡ after o n s k
  unfolding after
  after_ext zero = begun_ext
  after_ext (suc k) = ap (iteration o n) (after_ext k)

  left_ext : (k : ℕ) → left o n r k ≡ left o n s k
  unfolding left
  left_ext k = ap (λ (x : Pairs ℕ). Polynomials.terms o (suc n) x.small) (after_ext k)

  iterations_ext : (stop k : ℕ) → Iterations o n r stop k → Iterations o n s stop k
  iterations_ext stop k h = record {
    ended = subst (λ (x : ℕ). x ≤ suc stop) (left_ext k) h.ended;
    before = λ i l. subst (λ (x : ℕ). suc stop < x) (left_ext i) (h.before i l);
  }

module _ (F m : ℕ) (hF : Degree F m) (two : 2 ≤ m) (none : NoFactor F m) (a : ℕ) (pa : 0 < a) (ha : a < 2 ^ m) where
  abbrev n : ℕ
  n = 2 * m - 1

  module _ (r : ℕ → ℕ) (rb : (t : ℕ) → t < n → r t ≡ backwards F m a t) (k : ℕ) (b bm sm smm : List ℕ)
      (it : Iterated (residues 2 1) n (m - 1) r k b bm sm smm) (len : length smm ≡ m) where
    abbrev U : ℕ → ℕ
    U = (after (modulo 2) n r k).small_multiplier

    abbrev solution : ℕ
    solution = value m (polynomial_of smm)

    bits : (j : ℕ) → j < m → polynomial_of smm j < 2
    bits j l = it.codes.3 j (omega arith)

    -- row i is the coefficient of z^(2m-2-i) in U times the coordinates backwards
    row_is : (i : ℕ) → i < m - 1 → row F m a solution i ≡ conv (modulo 2) U r (2 * m - 2 - i)
    row_is i l =
        let t = 2 * m - 2 - i in
        ap (λ (x : ℕ). x % 2)
        (total_ext m (λ j. hankel F m a (i + j) * bit solution j) (λ j. U j * r (t - j)) at
        ∙ sym (total_past m (suc t) (λ j. U j * r (t - j)) (omega arith) (λ j h. ap (λ (x : ℕ). x * r (t - j)) (it.held.small_multiplier.beyond j (omega arith)) ∙ zero-mul (r (t - j)))))
        ∙ sym (conv-total U r t)
      where
        at : (j : ℕ) → j < m → hankel F m a (i + j) * bit solution j ≡ U j * r (2 * m - 2 - i - j)
        at j h =
            let e : i + j ≡ 2 * m - 2 - (2 * m - 2 - i - j) = omega arith in
            mul_comm (hankel F m a (i + j)) (bit solution j)
            ∙ ap₂ (λ (x y : ℕ). x * y) (bit-value (polynomial_of smm) m bits j h ∙ it.held.small_multiplier.inside j (omega arith))
            (ap (hankel F m a) e ∙ sym (rb (2 * m - 2 - i - j) (omega arith)))

    positive : 0 < solution
    positive =
        let u = it.nonzero in
        let l : u.0 < m = omega (arith, u.1) in
        value_pos (polynomial_of smm) m bits u.0 l (one (polynomial_of smm u.0) (bits u.0 l) u.2)
      where
        one : (x : ℕ) → x < 2 → (x ≡ 0 → ⊥) → x ≡ 1
        one x h z = omega arith

    pub inverted : Inverts F m a solution k
    inverted =
        let low = value_lt (polynomial_of smm) m bits in
        let s = solves F m hF (omega arith) none a pa ha solution positive low (λ i l. row_is i l ∙ it.key (2 * m - 2 - i) (omega arith) (omega arith)) in
        record {
          code = low;
          solves = s.0;
          product_one = s.1;
          count = iterations_ext (modulo 2) n r (backwards F m a) rb (m - 1) k it.count;
          bound = omega (arith, it.bound);
        }

-- the coordinates in a row that was reversed
module _ (F m a n : ℕ) (xs ys : List ℕ) (is : xs ≡ coordinates F m a n) (en : n ≡ 2 * m - 1)
    (mirrored : (k d : ℕ) → k < length xs → get_or ys k d ≡ get_or xs (length xs - 1 - k) d) where
  pub backwards_at : (t : ℕ) → t < 2 * m - 1 → get_or ys t 0 ≡ backwards F m a t
  backwards_at t h =
      let len : length xs ≡ n = ap length is ∙ coordinates_length F m a n in
      let e : length xs - 1 - t ≡ 2 * m - 2 - t = omega (arith, len) in
      mirrored t 0 (omega (arith, len)) ∙ ap (λ (k : ℕ). get_or xs k 0) e ∙ ap (λ (zs : List ℕ). get_or zs (2 * m - 2 - t) 0) is
      ∙ coordinates_at F m a n (2 * m - 2 - t) (omega arith)

  pub backwards_bits : length ys ≡ length xs → Codes (residues 2 1) ys
  backwards_bits same t h =
      let len : length xs ≡ n = ap length is ∙ coordinates_length F m a n in
      rw (backwards_at t (omega (arith, len))) (hankel-bit F m a (2 * m - 2 - t))
