-- Labels stand apart, and a door has one label.
use Rattle.std.proofs.Common.{◌≡◌, ℕ, zero, suc, ◌+◌, ◌-◌, ◌*◌, ◌/◌, ◌%◌, ◌<◌, ◌≤◌, Bool, true, false, cond, eqb, ◌⊎◌, List, length, get_or, sym, refl, ap, ◌∙◌, ap₂, inl, inr, le_of_suc-le-suc, eq-or-lt_of_le, arith, eqb-true}
use mathlib.Core.Path.{fun_ext}
use lib.ListN.{get_or-eq_default}
use lib.Arith.{digits_div, digits_mod}
use Prim.Native.Nat.{Fin}
use native.Mathlib.Decide.{dec_lt}
use borrow.Author.Tests.{eqb-false, both_ways}
use Rattle.std.proofs.lemmas.List.{same_lists, get_or_default}
use Rattle.algebra.specs.Operations.{Operations}
use Rattle.algebra.specs.Codes.{coded}
use Rattle.algebra.specs.Polynomials.{pow, sums}
use Rattle.algebra.specs.Counts.{count}
use Rattle.algebra.proofs.Rings
use Rattle.algebra.proofs.Powers
use Rattle.algebra.proofs.Sums
use Rattle.algebra.proofs.Counts.{count_reversed}
use Rattle.algebra.proofs.Vandermonde
use Rattle.algebra.proofs.CodedSums
use Rattle.arithmetic.specs.Meaning.{Meaning, Lawful, Codes}
use Rattle.label.specs.Labels.{code, power_sum, Label, door, Different, differences, Apart}

-- whether two rows differ at a place
abbrev differ : List ℕ → List ℕ → ℕ → Bool
differ a b p = cond (eqb (get_or a p 0) (get_or b p 0)) false true

differences-count : (n : ℕ) (a b : List ℕ) → differences n a b ≡ count n (differ a b)
differences-count zero a b = refl
differences-count (suc n) a b = ap₂ ◌+◌ (differences-count n a b) (go (eqb (get_or a n 0) (get_or b n 0)))
  where
    go : (t : Bool) → ◌≡◌ {A = ℕ} (cond t 0 1) (cond (cond t false true) 1 0)
    go true = refl
    go false = refl

same_place : (a b : List ℕ) (p : ℕ) → differ a b p ≡ false → get_or a p 0 ≡ get_or b p 0
same_place a b p = go (eqb (get_or a p 0) (get_or b p 0)) refl
  where
    go : (t : Bool) → eqb (get_or a p 0) (get_or b p 0) ≡ t → cond t false true ≡ false → get_or a p 0 ≡ get_or b p 0
    go true e h = eqb-true (get_or a p 0) (get_or b p 0) e
    go false e h = absurd (both_ways true h refl)

-- rows with the same first k places differ in at most the others
differences_most : (n k : ℕ) (a b : List ℕ) → ((p : ℕ) → p < k → get_or a p 0 ≡ get_or b p 0) → differences n a b ≤ n - k
differences_most zero k a b h = omega arith
differences_most (suc n) k a b h = go (eqb (get_or a n 0) (get_or b n 0)) refl (differences_most n k a b h)
  where
    go : (t : Bool) → eqb (get_or a n 0) (get_or b n 0) ≡ t → differences n a b ≤ n - k → differences n a b + cond t 0 1 ≤ suc n - k
    go true e r = omega arith
    go false e r = elim (dec_lt n k) [ yes l ↦ absurd (eqb-false (get_or a n 0) (get_or b n 0) e (h n l)) | no l ↦ omega arith ]

module _ (m : Meaning) (L : Lawful m) where
  abbrev pub q : ℕ
  q = m.size

  abbrev pub o : Operations ℕ
  o = m.codes

  abbrev pub oq : Operations (Fin q)
  oq = coded q o L.closed

  abbrev pub g : Fin q
  g = (m.step, L.step_in)

  -- a row's places hold codes, and the default beyond them is one
  pub code_in : (row : List ℕ) → Codes m row → (p : ℕ) → get_or row p 0 < q
  code_in row c p = elim (dec_lt p (length row)) [
    | yes l ↦ c p l
    | no l ↦ rw (get_or-eq_default row 0 {n = p} (omega arith)) (omega (arith, L.least))
  ]

  -- the points: the powers of the step
  abbrev pub point : ℕ → Fin q
  point i = pow oq g i

  pub point_different : (n : ℕ) → Different m n → (i j : ℕ) → i < j → j < n → ¬ (point i ≡ point j)
  point_different n d i j l h e = d i j l h (CodedSums.pow_down q o L.closed g i ∙ ap (λ x. x.0) e ∙ sym (CodedSums.pow_down q o L.closed g j))

  pub point_nonzero : (i : ℕ) → ¬ (point i ≡ oq.zero)
  point_nonzero i = Powers.pow-nonzero oq L.ring L.field g i (λ e. L.step_nonzero (ap (λ x. x.0) e))

  module _ (n : ℕ) (row : List ℕ) (c : Codes m row) where
    -- the code c_i, as a code
    abbrev pub coefficient : ℕ → Fin q
    coefficient i = (code n row i, code_in row c (n - 1 - i))

    pub power_sum_is : (j : ℕ) → power_sum m n row j ≡ (sums oq n (λ i. oq.prod (coefficient i) (pow oq (point i) j))).0
    power_sum_is j =
        ap (sums o n) (fun_ext (λ i. ap (o.prod (code n row i)) (CodedSums.pow_down q o L.closed g (i * j) ∙ ap (λ x. x.0) (Powers.pow-product oq L.ring g i j))))
        ∙ CodedSums.sums_down q o L.closed n (λ i. oq.prod (coefficient i) (pow oq (point i) j))

  module _ (n r : ℕ) (d : Different m n) (a b : List ℕ) (x : Label m n r a) (y : Label m n r b) (few : differences n a b ≤ r) where
    abbrev A : ℕ → Fin q
    A = coefficient n a x.codes

    abbrev B : ℕ → Fin q
    B = coefficient n b y.codes

    abbrev difference : ℕ → Fin q
    difference i = oq.sum (A i) (oq.neg (B i))

    -- the sums of each label, and so of the difference, are zero
    zero-sum : (row : List ℕ) (z : Label m n r row) (t : ℕ) → t < r → sums oq n (λ i. oq.prod (coefficient n row z.codes i) (pow oq (point i) (1 + t))) ≡ oq.zero
    zero-sum row z t l = native.Mathlib.Fin.val_path (sym (power_sum_is n row z.codes (1 + t)) ∙ z.zeros (1 + t) (omega arith) (omega arith))

    zero_difference : (t : ℕ) → t < r → sums oq n (λ i. oq.prod (difference i) (pow oq (point i) (1 + t))) ≡ oq.zero
    zero_difference t l =
        Sums.sums_difference oq L.ring n A B (λ i. pow oq (point i) (1 + t))
        ∙ ap₂ (λ u v. oq.sum u (oq.neg v)) (zero-sum a x t l) (zero-sum b y t l)
        ∙ L.ring.sum_neg oq.zero

    same_codes : (i : ℕ) → i < n → code n a i ≡ code n b i
    same_codes i l =
        ap (λ u. u.0) (Rings.eq_of_sub oq L.ring (A i) (B i)
        (Vandermonde.supported oq L.ring L.field point n r difference (λ p. differ a b (n - 1 - p)) 1
        (point_different n d)
        (λ p h. point_nonzero p)
        (λ p h e. ap (λ u. oq.sum u (oq.neg (B p))) (native.Mathlib.Fin.val_path {i = A p} {j = B p} (same_place a b (n - 1 - p) e)) ∙ L.ring.sum_neg (B p))
        (omega (arith, few, differences-count n a b, count_reversed n (differ a b)))
        zero_difference
        i l))

    same_labels : a ≡ b
    same_labels = same_lists a b (x.long ∙ sym y.long) (λ p v l.
        get_or_default a p v 0 l
        ∙ ap (λ k. get_or a k 0) (omega (arith, x.long)) ∙ same_codes (n - 1 - p) (omega (arith, x.long)) ∙ ap (λ k. get_or b k 0) (omega (arith, x.long))
        ∙ get_or_default b p 0 v (omega (arith, x.long, y.long)))

  -- the first k places, from the number that they are
  door_places : (k : ℕ) (a b : List ℕ) → Codes m a → Codes m b → door q k a ≡ door q k b → (p : ℕ) → p < k → get_or a p 0 ≡ get_or b p 0
  door_places zero a b x y e p l = absurd (omega arith)
  door_places (suc k) a b x y e p l =
      let u = code_in a x k in
      let v = code_in b y k in
      go (sym (digits_mod (door q k a) u) ∙ ap (λ w. w % q) e ∙ digits_mod (door q k b) v)
      (door_places k a b x y (sym (digits_div (door q k a) u) ∙ ap (λ w. w / q) e ∙ digits_div (door q k b) v) p)
      (eq-or-lt_of_le (le_of_suc-le-suc l))
    where
      go : get_or a k 0 ≡ get_or b k 0 → (p < k → get_or a p 0 ≡ get_or b p 0) → (p ≡ k) ⊎ (p < k) → get_or a p 0 ≡ get_or b p 0
      go own rest (inl h) = ap (λ w. get_or a w 0) h ∙ own ∙ ap (λ w. get_or b w 0) (sym h)
      go own rest (inr h) = rest h

-- two labels that differ in at most r places are the same
pub apart : (m : Meaning) (L : Lawful m) (n r : ℕ) → Different m n → Apart m n r
apart m L n r d a b x y few = same_labels m L n r d a b x y few

-- two labels of one door are the same
pub same_door :
    (m : Meaning) (L : Lawful m) (n k : ℕ) → Different m n
    → (a b : List ℕ) → Label m n (n - k) a → Label m n (n - k) b → door m.size k a ≡ door m.size k b → a ≡ b
same_door m L n k d a b x y e = apart m L n (n - k) d a b x y (differences_most n k a b (door_places m L k a b x.codes y.codes e))
