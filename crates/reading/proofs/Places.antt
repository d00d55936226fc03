-- Power sums and errors by places: the point of place p in labels of n places is g^(n-1-p).
use Rattle.std.proofs.Common.{◌≡◌, ℕ, suc, ◌-◌, ◌<◌, List, length, get_or, sym, ap, ◌∙◌, arith}
use Prim.Native.Nat.{Fin}
use Rattle.algebra.specs.Operations.{Operations}
use Rattle.algebra.specs.Polynomials.{pow, sums}
use Rattle.algebra.proofs.CodedSums
use Rattle.algebra.proofs.Rings
use Rattle.algebra.proofs.Sums
use Rattle.arithmetic.specs.Meaning.{Meaning, Lawful, Codes}
use Rattle.label.specs.Labels.{Different, Label, power_sum}
use Rattle.label.proofs.Apart
use Rattle.reading.specs.Working.{Points, at}

module _ (m : Meaning) (L : Lawful m) where
  abbrev pub oq : Operations (Fin m.size)
  oq = Apart.oq m L

  -- what a row of codes has at a place
  abbrev pub entry : (row : List ℕ) → Codes m row → ℕ → Fin m.size
  entry row c p = (get_or row p 0, Apart.code_in m L row c p)

  module _ (n : ℕ) where
    -- the point of a place
    abbrev pub point : ℕ → Fin m.size
    point p = Apart.point m L (n - 1 - p)

    pub points_are : (points : List ℕ) → length points ≡ n → Points m points → (p : ℕ) → p < n → at points p ≡ (point p).0
    points_are points e h p l =
        h p (omega (arith, e)) ∙ ap (λ k. pow m.codes m.step (k - 1 - p)) e ∙ CodedSums.pow_down m.size m.codes L.closed (Apart.g m L) (n - 1 - p)

    pub point_different : Different m n → (i j : ℕ) → i < j → j < n → ¬ (point i ≡ point j)
    point_different d i j l h e = Apart.point_different m L n d (n - 1 - j) (n - 1 - i) (omega arith) (omega arith) (sym e)

    pub point_nonzero : (p : ℕ) → p < n → ¬ (point p ≡ oq.zero)
    point_nonzero p l = Apart.point_nonzero m L (n - 1 - p)

    power_sum_places : (row : List ℕ) (c : Codes m row) (j : ℕ) → power_sum m n row j ≡ (sums oq n (λ p. oq.prod (entry row c p) (pow oq (point p) j))).0
    power_sum_places row c j =
        let term : ℕ → Fin m.size = λ p. oq.prod (entry row c p) (pow oq (point p) j) in
        Apart.power_sum_is m L n row c j
        ∙ ap (λ s. s.0) (Sums.sums_same oq n _ (λ i. term (n - 1 - i)) (λ i l. ap (λ k. oq.prod (entry row c (n - 1 - i)) (pow oq (Apart.point m L k) j)) (omega arith))
        ∙ Sums.sums_reversed oq L.ring n term)

    module _ (r : ℕ) (y c : List ℕ) (yc : Codes m y) (lab : Label m n r c) where
      -- what y has at a place less what the label c has there
      abbrev pub error : ℕ → Fin m.size
      error p = oq.sum (entry y yc p) (oq.neg (entry c lab.codes p))

      pub error_zero : (p : ℕ) → get_or y p 0 ≡ get_or c p 0 → error p ≡ oq.zero
      error_zero p e = ap (λ u. oq.sum u (oq.neg (entry c lab.codes p))) (native.Mathlib.Fin.val_path {i = entry y yc p} {j = entry c lab.codes p} e) ∙ L.ring.sum_neg (entry c lab.codes p)

      pub error_same : (p : ℕ) → error p ≡ oq.zero → get_or y p 0 ≡ get_or c p 0
      error_same p e = ap (λ u. u.0) (Rings.eq_of_sub oq L.ring (entry y yc p) (entry c lab.codes p) e)

      -- the power sums of y are those of the errors
      pub error_sums : (t : ℕ) → t < r → (v : Fin m.size) → v.0 ≡ power_sum m n y (suc t) → v ≡ sums oq n (λ p. oq.prod (error p) (pow oq (point p) (suc t)))
      error_sums t l v e =
          let own : Fin m.size = sums oq n (λ p. oq.prod (entry y yc p) (pow oq (point p) (suc t))) in
          let label : Fin m.size = sums oq n (λ p. oq.prod (entry c lab.codes p) (pow oq (point p) (suc t))) in
          let gone : label ≡ oq.zero = native.Mathlib.Fin.val_path (sym (power_sum_places c lab.codes (suc t)) ∙ lab.zeros (suc t) (omega arith) (omega arith)) in
          native.Mathlib.Fin.val_path {i = v} {j = own} (e ∙ power_sum_places y yc (suc t))
          ∙ sym (ap (oq.sum own) (Rings.neg-zero oq L.ring) ∙ L.ring.sum_zero own)
          ∙ ap (λ z. oq.sum own (oq.neg z)) (sym gone)
          ∙ sym (Sums.sums_difference oq L.ring n (entry y yc) (entry c lab.codes) (λ p. pow oq (point p) (suc t)))
