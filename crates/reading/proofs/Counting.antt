-- Counts of the elements of a list that pass a test.
use Rattle.std.proofs.Common.{◌≡◌, ℕ, zero, suc, ◌+◌, ◌≤◌, Bool, cond, List, length, get_or, take, count_by, sym, refl, ap, ◌∙◌, add-one, arith}
use Rattle.std.proofs.Math.Seq.{take-length}
use Rattle.std.proofs.lemmas.List.Sums.{sum_by_more}
use Rattle.algebra.specs.Counts.{count}

module _ {X : Type 0} (test : X → Bool) (xs : List X) (d : X) where
  below : (n : ℕ) → n ≤ length xs → count_by test (take n xs) ≡ count n (λ i. test (get_or xs i d))
  below zero l = refl
  below (suc n) l =
      ap (λ (k : ℕ). count_by test (take k xs)) (sym (add-one n)) ∙ sum_by_more (λ x. cond (test x) 1 0) xs n d (omega arith)
      ∙ ap (λ (c : ℕ). c + cond (test (get_or xs n d)) 1 0) (below n (omega arith))

  -- by their places
  pub count_by_places : count_by test xs ≡ count (length xs) (λ i. test (get_or xs i d))
  count_by_places = ap (count_by test) (sym (take-length xs)) ∙ below (length xs) (omega arith)
