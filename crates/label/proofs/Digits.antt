-- The digits of a door, the highest first: the row that holds them has the door.
use Rattle.std.proofs.Common.{◌≡◌, ℕ, zero, suc, ◌+◌, ◌-◌, ◌*◌, ◌/◌, ◌^◌, ◌<◌, ◌≤◌, List, get_or, sym, ap, ◌∙◌, ap₂, mod-lt, pow-suc, div-add-mod', div-one, arith}
use native.Mathlib.Nat.{pow-zero, div-eq_of_lt, div-div-eq-div-mul}
use Rattle.label.specs.Labels.{digit, door}

pub digit_lt : (q k d p : ℕ) → 0 < q → digit q k d p < q
digit_lt q k d p h = mod-lt (d / q ^ (k - 1 - p)) h

module _ (q k d : ℕ) (row : List ℕ) (fits : d < q ^ k) (digits : (p : ℕ) → p < k → get_or row p 0 ≡ digit q k d p) where
  -- the first j places are the door without its k - j low digits
  pub digits_first : (j : ℕ) → j ≤ k → door q j row ≡ d / q ^ (k - j)
  digits_first zero h = sym (div-eq_of_lt fits) ∙ ap (λ e. d / q ^ e) (omega arith)
  digits_first (suc j) h =
      let e : ℕ = k - 1 - j in
      let up : k - j ≡ suc e = omega arith in
      let high : d / q ^ (k - j) ≡ d / q ^ e / q = ap (λ i. d / q ^ i) up ∙ ap (λ x. d / x) (pow-suc q e) ∙ sym (div-div-eq-div-mul d (q ^ e) q) in
      ap₂ (λ a b. a * q + b) (digits_first j (omega arith) ∙ high) (digits j h)
      ∙ div-add-mod' (d / q ^ e) q
      ∙ ap (λ i. d / q ^ i) {x = e} {y = k - suc j} (omega arith)

  pub digits-door : door q k row ≡ d
  digits-door =
      let none : k - k ≡ 0 = omega arith in
      digits_first k (omega arith) ∙ ap (λ i. d / q ^ i) none ∙ ap (λ x. d / x) (pow-zero q) ∙ div-one d
