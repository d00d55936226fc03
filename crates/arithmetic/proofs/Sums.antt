-- The sum of a list, place by place.
use Rattle.std.proofs.Common.{◌≡◌, ℕ, zero, suc, ◌+◌, ◌<◌, ◌≤◌, List, length, get_or, take, refl, sym, ap, ap₂, ◌∙◌, add-one, arith}
use Rattle.std.specs.List.{sum}
use Rattle.std.proofs.lemmas.List.{take_all}
use Rattle.std.proofs.lemmas.List.Sums.{sum_by_more}
use Rattle.algebra.specs.Coordinates.{total}

module _ (x : ℕ → ℕ) (ys : List ℕ) where
  taken : (n : ℕ) → n ≤ length ys → ((k : ℕ) → k < n → get_or ys k 0 ≡ x k) → sum (take n ys) ≡ total n x
  taken zero h e = refl
  taken (suc n) h e =
      ap (λ (k : ℕ). sum (take k ys)) (sym (add-one n)) ∙ sum_by_more (λ y. y) ys n 0 (omega arith)
      ∙ ap₂ ◌+◌ (taken n (omega arith) (λ k l. e k (omega arith))) (e n (omega arith))

  pub sum_total : ((k : ℕ) → k < length ys → get_or ys k 0 ≡ x k) → sum ys ≡ total (length ys) x
  sum_total e = ap sum (sym (take_all (length ys) ys (omega arith))) ∙ taken (length ys) (omega arith) e
