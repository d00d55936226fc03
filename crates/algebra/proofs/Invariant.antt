-- What the iterations keep, for coefficients of any field, and that it holds before the first one.
use Rattle.std.proofs.Common.{◌≡◌, ℕ, zero, suc, pred, ◌+◌, ◌-◌, ◌*◌, ◌<◌, ◌≤◌, cond, [], ◌∷◌, sym, refl, ap, ◌∙◌, ap₂, arith, le-ltb, lt-ltb, eq-eqb, ne_eqb}
use native.Mathlib.Decide.{dec_le}
use Rattle.algebra.specs.Operations.{Operations, Ring, Tested}
use Rattle.algebra.specs.Polynomials.{Polynomial, nothing, power, conv, Within, terms}
use Rattle.algebra.specs.Iteration.{Pairs, begun}
use Rattle.algebra.proofs.Rings
use Rattle.algebra.proofs.Solver.{reify}
use Rattle.algebra.proofs.Solver
use Rattle.algebra.proofs.Terms

-- the two terms of the coefficient of z^n in (the multiplier of big) small - (the multiplier of small) big
abbrev pub cross : {K : Type 0} → Operations K → ℕ → Pairs K → K
cross o n s =
    o.sum (o.prod (s.big_multiplier (suc n - terms o (suc n) s.small)) (s.small (pred (terms o (suc n) s.small))))
    (o.neg (o.prod (s.small_multiplier (suc n - terms o (suc n) s.big)) (s.big (pred (terms o (suc n) s.big)))))

-- what k iterations keep: each remainder is its multiplier times r, below z^n; the degrees of the multipliers;
-- that the two-term number is not zero; and how the degrees fall
pub record Stands {K : Type 0} (o : Operations K) (n : ℕ) (r : Polynomial K) (stop k : ℕ) (s : Pairs K) : Type 0 where
  pub big_within : Within o (suc n) s.big
  pub small_within : Within o n s.small
  pub ordered : terms o (suc n) s.small ≤ terms o (suc n) s.big
  pub big_is : (t : ℕ) → t < n → s.big t ≡ conv o s.big_multiplier r t
  pub small_is : (t : ℕ) → t < n → s.small t ≡ conv o s.small_multiplier r t
  pub big_ends : (t : ℕ) → n + 2 ≤ t + terms o (suc n) s.small → s.big_multiplier t ≡ o.zero
  pub small_ends : (t : ℕ) → n + 2 ≤ t + terms o (suc n) s.big → s.small_multiplier t ≡ o.zero
  pub wide : n + 2 ≤ suc (n - 1 - stop) + terms o (suc n) s.big
  pub big_multiplier_within : Within o (suc (n - 1 - stop)) s.big_multiplier
  pub crosses : ¬ (cross o n s ≡ o.zero)
  pub count : k + terms o (suc n) s.big + terms o (suc n) s.small ≤ 2 * n + 1

pub small_multiplier_within :
    {K : Type 0} {o : Operations K} {n : ℕ} {r : Polynomial K} {stop k : ℕ} {s : Pairs K} → Stands o n r stop k s → Within o (suc (n - 1 - stop)) s.small_multiplier
small_multiplier_within h t g = h.small_ends t (omega (arith, h.wide))

module _ {K : Type 0} (o : Operations K) (R : Ring o) (Z : Tested o) where
  open o use {zero as 0#, one as 1#, sum as ◌⊞◌, prod as ◌·◌, neg}

  infixl 60 ◌⊞◌
  infixl 70 ◌·◌
  power_at : (d : ℕ) → power o d d ≡ 1#
  power_at d = ap (λ b. cond b 1# 0#) (eq-eqb d d refl)

  power_off : (d t : ℕ) → ¬ (t ≡ d) → power o d t ≡ 0#
  power_off d t h = ap (λ b. cond b 1# 0#) (ne_eqb t d h)

  pub conv-nothing : (u s : ℕ → K) (t : ℕ) → ((j : ℕ) → u j ≡ 0#) → conv o u s t ≡ 0#
  conv-nothing u s zero h = ap (λ x. x · s 0) (h 0) ∙ Rings.zero-mul o R (s 0)
  conv-nothing u s (suc t) h =
      ap₂ ◌⊞◌ (ap (λ x. x · s (suc t)) (h 0) ∙ Rings.zero-mul o R (s (suc t))) (conv-nothing (λ j. u (suc j)) s t (λ j. h (suc j)))
      ∙ R.sum_zero 0#

  conv-one : (s : ℕ → K) (t : ℕ) → conv o (power o 0) s t ≡ s t
  conv-one s zero = Rings.one-mul o R (s 0)
  conv-one s (suc t) = ap₂ ◌⊞◌ (Rings.one-mul o R (s (suc t))) (conv-nothing (λ j. power o 0 (suc j)) s t (λ j. power_off 0 (suc j) (λ e. omega arith))) ∙ R.sum_zero (s (suc t))

  module _ (n : ℕ) (r : ℕ → K) (stop : ℕ) where
    abbrev s₀ : Pairs K
    s₀ = begun o n r

    all : terms o (suc n) (power o n) ≡ suc n
    all = elim (dec_le (suc n) (terms o (suc n) (power o n))) [
      | yes h ↦ omega (arith, Terms.terms_le o Z (suc n) (power o n))
      | no h ↦ absurd (R.differ (sym (Terms.terms_beyond o Z (suc n) (power o n) n (omega arith) (omega arith)) ∙ power_at n))
    ]

    begins_within : Within o n s₀.small
    begins_within t h = ap (λ b. cond b (r t) 0#) (le-ltb t n h)

    begins_cross : cross o n s₀ ≡ neg 1#
    begins_cross =
        let i = terms o (suc n) (power o n) in
        let x = s₀.small (pred (terms o (suc n) s₀.small)) in
        let e = all in
        let low : suc n - i ≡ 0 = omega arith in
        let high : pred i ≡ n = omega arith in
        ap₂ (λ a b. 0# · x ⊞ neg (a · b)) (ap (power o 0) low ∙ power_at 0) (ap (power o n) high ∙ power_at n)
        ∙ Solver.ring o R (x ∷ []) (search reify depth 30 fits 20000) tt

    pub begins : Stands o n r stop 0 s₀
    begins =
        let j = terms o (suc n) s₀.small in
        let l : j ≤ n = Terms.terms_within o Z (suc n) s₀.small n begins_within in
        let e = all in
        record {
          big_within = λ t h. power_off n t (λ x. omega arith);
          small_within = begins_within;
          ordered = omega arith;
          big_is = λ t h. power_off n t (λ x. omega arith) ∙ sym (conv-nothing (nothing o) r t (λ j. refl));
          small_is = λ t h. ap (λ b. cond b (r t) 0#) (lt-ltb t n h) ∙ sym (conv-one r t);
          big_ends = λ t h. refl;
          small_ends = λ t h. power_off 0 t (λ x. omega arith);
          wide = omega arith;
          big_multiplier_within = λ t h. refl;
          crosses = λ h. R.differ (sym (Rings.neg-zero o R) ∙ ap neg (sym (sym begins_cross ∙ h)) ∙ Rings.neg-neg o R 1#);
          count = omega arith;
        }
