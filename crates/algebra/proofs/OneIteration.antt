-- One iteration keeps what the iterations keep, and lowers the number of terms.
use Rattle.std.proofs.Common.{◌≡◌, ℕ, zero, suc, pred, ◌+◌, ◌-◌, ◌<◌, ◌≤◌, Bool, true, false, cond, leb, [], ◌∷◌, sym, refl, ap, ◌∙◌, ap₂, arith, leb-false, leb-true}
use native.Mathlib.Decide.{dec_le}
use Rattle.algebra.specs.Operations.{Operations, Ring, Field, Tested}
use Rattle.algebra.specs.Polynomials.{delay, less, conv, Within, terms}
use Rattle.algebra.specs.Iteration.{Pairs, placed, gap, quotient}
use Rattle.algebra.proofs.Rings
use Rattle.algebra.proofs.Solver.{reify}
use Rattle.algebra.proofs.Solver
use Rattle.algebra.proofs.Convolutions
use Rattle.algebra.proofs.Terms
use Rattle.algebra.proofs.Invariant.{cross, Stands, small_multiplier_within}

module _ {K : Type 0} (o : Operations K) (R : Ring o) (F : Field o) (Z : Tested o) (n : ℕ) (r : ℕ → K) (stop : ℕ) where
  open o use {zero as 0#, sum as ◌⊞◌, prod as ◌·◌, neg}

  infixl 60 ◌⊞◌
  infixl 70 ◌·◌
  delay_same : (d n : ℕ) (f g : ℕ → K) → ((t : ℕ) → t < n → f t ≡ g t) → (t : ℕ) → t < n → delay o d f t ≡ delay o d g t
  delay_same zero n f g h t l = h t l
  delay_same (suc d) n f g h zero l = refl
  delay_same (suc d) n f g h (suc t) l = delay_same d n f g h t (omega arith)

  module _ (k : ℕ) (s : Pairs K) (h : Stands o n r stop k s) (more : suc stop < terms o (suc n) s.small) where
    open s use {big as A, big_multiplier as UA, small as B, small_multiplier as UB}

    abbrev i : ℕ
    i = terms o (suc n) A

    abbrev j : ℕ
    j = terms o (suc n) B

    abbrev d : ℕ
    d = gap o n s

    abbrev c : K
    c = quotient o n s

    abbrev new : ℕ → K
    new = less o A c d B

    abbrev new_u : ℕ → K
    new_u = less o UA c d UB

    -- the small remainder has at most n terms, the big one at most n + 1
    j_le : j ≤ n
    j_le = Terms.terms_within o Z (suc n) B n h.small_within

    i_le : i ≤ suc n
    i_le = Terms.terms_le o Z (suc n) A

    -- the leading terms cancel
    leads : c · B (pred j) ≡ A (pred i)
    leads =
        let b = B (pred j) in
        R.prod_assoc (A (pred i)) (o.inv b) b
        ∙ ap (λ x. A (pred i) · x) (R.prod_comm (o.inv b) b ∙ F.inverse b (Terms.terms_top o Z (suc n) B (pred j) (omega arith)))
        ∙ R.prod_one (A (pred i))

    less_none : {x y : K} → x ≡ 0# → y ≡ 0# → x ⊞ neg (c · y) ≡ 0#
    less_none p q = ap₂ (λ x y. x ⊞ neg (c · y)) p q ∙ Solver.ring o R (c ∷ []) (search reify depth 30 fits 20000) tt

    pub new_within : Within o (pred i) new
    new_within t g =
        let l = h.ordered in
        let past : delay o d B t ≡ B (t - d) = Convolutions.delay_past o d t B (omega arith) in
        elim (dec_le i t) [
          | yes m ↦ less_none (Terms.terms_exact o Z (suc n) A h.big_within t m) (past ∙ Terms.terms_exact o Z (suc n) B (λ u v. h.small_within u (omega arith)) (t - d) (omega arith))
          | no m ↦
              let top : t ≡ pred i = omega arith in
              let low : t - d ≡ pred j = omega arith in
              ap₂ (λ x y. x ⊞ neg (c · y)) (ap A top) (past ∙ ap B low) ∙ ap (λ x. A (pred i) ⊞ neg x) leads ∙ R.sum_neg (A (pred i))
        ]

    new_is : (t : ℕ) → t < n → new t ≡ conv o new_u r t
    new_is t l =
        ap₂ (λ x y. x ⊞ neg (c · y)) (h.big_is t l) (delay_same d n B (conv o UB r) h.small_is t l)
        ∙ sym (Convolutions.conv-step o R c d UA UB r t)

    new_ends : (t : ℕ) → n + 2 ≤ t + j → new_u t ≡ 0#
    new_ends t g =
        let l = h.ordered in
        let m = i_le in
        less_none (h.big_ends t g) (Convolutions.delay_past o d t UB (omega arith) ∙ h.small_ends (t - d) (omega arith))

    pub new_multiplier_within : Within o (suc (n - 1 - stop)) new_u
    new_multiplier_within t g = let l = j_le in new_ends t (omega arith)

    new_cross : new_u (suc n - j) · B (pred j) ≡ cross o n s
    new_cross =
        let a = UA (suc n - j) in
        let u = UB (suc n - i) in
        let b = B (pred j) in
        let l = h.ordered in
        let m = i_le in
        let same : suc n - j - d ≡ suc n - i = omega arith in
        ap (λ x. (a ⊞ neg (c · x)) · b) (Convolutions.delay_past o d (suc n - j) UB (omega arith) ∙ ap UB same)
        ∙ Solver.ring o R (a ∷ u ∷ b ∷ c ∷ []) {y = a · b ⊞ neg (u · (c · b))} (search reify depth 30 fits 20000) tt
        ∙ ap (λ x. a · b ⊞ neg (u · x)) leads

    -- in both cases the two-term number is the one before, or its negative
    pub next : Stands o n r stop (suc k) (placed o n s new new_u)
    next = go (leb j i') refl
      where
        i' : ℕ
        i' = terms o (suc n) new

        y : K
        y = new (pred i')

        lower : i' ≤ pred i
        lower = Terms.terms_within o Z (suc n) new (pred i) new_within

        gone : UB (suc n - i') ≡ 0#
        gone = h.small_ends (suc n - i') (omega (arith, i_le, lower, h.ordered))

        Goal : Bool → Type 0
        Goal b =
            Stands o n r stop (suc k) (cond b (record { big = new; big_multiplier = new_u; small = B; small_multiplier = UB })
            (record { big = B; big_multiplier = UB; small = new; small_multiplier = new_u }))

        go : (b : Bool) → leb j i' ≡ b → Goal b
        go true e =
            let l = leb-true j i' e in
            let m = i_le in
            let q = j_le in
            let low = lower in
            record {
              big_within = λ t g. new_within t (omega arith);
              small_within = h.small_within;
              ordered = l;
              big_is = new_is;
              small_is = h.small_is;
              big_ends = new_ends;
              small_ends = λ t g. h.small_ends t (omega arith);
              wide = omega arith;
              big_multiplier_within = new_multiplier_within;
              crosses = λ x.
                  h.crosses (sym (ap₂ (λ a b. a ⊞ neg (b · y)) new_cross gone ∙ Solver.ring o R (cross o n s ∷ y ∷ []) (search reify depth 30 fits 20000) tt) ∙ x);
              count = omega arith;
            }
        go false e =
            let l = leb-false j i' e in
            let m = i_le in
            let q = j_le in
            let low = lower in
            record {
              big_within = λ t g. h.small_within t (omega arith);
              small_within = λ t g. new_within t (omega arith);
              ordered = omega arith;
              big_is = h.small_is;
              small_is = new_is;
              big_ends = λ t g. h.small_ends t (omega arith);
              small_ends = new_ends;
              wide = omega arith;
              big_multiplier_within = small_multiplier_within h;
              crosses = λ x.
                  h.crosses (sym (ap neg (sym x ∙ ap₂ (λ a b. b · y ⊞ neg a) new_cross gone) ∙ Solver.ring o R (cross o n s ∷ y ∷ []) (search reify depth 30 fits 20000) tt)
                  ∙ Rings.neg-zero o R);
              count = omega arith;
            }
