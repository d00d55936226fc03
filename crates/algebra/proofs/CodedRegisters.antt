-- Generators, registers and Horner's rule on codes are those on their numbers.
use Rattle.std.proofs.Common.{◌≡◌, ℕ, zero, suc, ◌+◌, ◌-◌, ◌*◌, ◌%◌, ◌<◌, ◌≤◌, cond, eqb, ltb, sym, refl, ap, ◌∙◌, subst, ap₂, mod-lt, mod-eq_of_lt, arith}
use mathlib.Core.Path.{fun_ext}
use Prim.Native.Nat.{Fin}
use Rattle.algebra.specs.Operations.{Operations, Ring}
use Rattle.algebra.specs.Codes.{Closed, coded}
use Rattle.algebra.specs.Polynomials.{delay, pow, sums, value_at}
use Rattle.algebra.proofs.CodedIterations.{of_cond, numbers}
use Rattle.algebra.proofs.CodedIterations
use Rattle.algebra.specs.Generators.{generator, register}
use Rattle.algebra.proofs.CodedPoints
use Rattle.algebra.proofs.CodedSums
use Rattle.algebra.proofs.Sums.{sums_same}
use Rattle.algebra.proofs.Registers.{horner, row-code}
use Rattle.algebra.proofs.Registers

module _ (q : ℕ) (o : Operations ℕ) (C : Closed q o) where
  abbrev oq : Operations (Fin q)
  oq = coded q o C

  -- a number as a code
  as_code : ℕ → Fin q
  as_code a = let h : 0 < q = omega (arith, C.zero_in) in (a % q, mod-lt a h)

  as_code_is : (a : ℕ) → a < q → a ≡ (as_code a).0
  unfolding as_code
  as_code_is a l = sym (mod-eq_of_lt l)

  horner_down : (n : ℕ) (d : ℕ → ℕ) (f : ℕ → Fin q) (x : Fin q) → ((p : ℕ) → p < n → d p ≡ (f p).0) → horner o d x.0 n ≡ (horner oq f x n).0
  horner_down zero d f x e = refl
  horner_down (suc n) d f x e = ap₂ (λ v c. o.sum (o.prod v x.0) c) (horner_down n d f x (λ p l. e p (omega arith))) (e n (omega arith))

  module _ (g : Fin q) where
    generator_down : (j t : ℕ) → generator o g.0 j t ≡ (generator oq g j t).0
    unfolding generator
    generator_down zero t = of_cond {A = Fin q} (λ x. x.0) (eqb t 0) oq.one oq.zero
    generator_down (suc j) zero =
        ap₂ (λ a b. o.sum o.zero (o.neg (o.prod a b))) (CodedSums.pow_down q o C g (suc j)) (generator_down j zero)
    generator_down (suc j) (suc t) =
        ap (λ v. o.sum v (o.neg (o.prod (pow o g.0 (suc j)) (generator o g.0 j (suc t))))) (generator_down j t)
        ∙ ap₂ (λ a b. o.sum (generator oq g j t).0 (o.neg (o.prod a b))) (CodedSums.pow_down q o C g (suc j)) (generator_down j (suc t))

    module _ (r k : ℕ) (d : ℕ → ℕ) (f : ℕ → Fin q) (e : (p : ℕ) → p < k → d p ≡ (f p).0) where
      register_down : (p : ℕ) → p ≤ k → (t : ℕ) → register o g.0 r d p t ≡ (register oq g r f p t).0
      unfolding register
      register_down zero l t = refl
      register_down (suc p) l t =
          let held : ℕ → Fin q = register oq g r f p in
          ap (λ h. cond (ltb t r) (o.sum (delay o 1 h t) (o.neg (o.prod (o.sum (h (r - 1)) (d p)) (generator o g.0 r t)))) o.zero)
          (fun_ext (register_down p (omega arith)))
          ∙ ap (λ v. cond (ltb t r) (o.sum v (o.neg (o.prod (o.sum (held (r - 1)).0 (d p)) (generator o g.0 r t)))) o.zero)
          (CodedIterations.delay_down q o C 1 held t)
          ∙ ap₂ (λ a b. cond (ltb t r) (o.sum (delay oq 1 held t).0 (o.neg (o.prod (o.sum (held (r - 1)).0 a) b))) o.zero)
          (e p l) (generator_down r t)
          ∙ of_cond {A = Fin q} (λ x. x.0) (ltb t r)
          (oq.sum (delay oq 1 held t) (oq.neg (oq.prod (oq.sum (held (r - 1)) (f p)) (generator oq g r t)))) oq.zero

      row_code_down : 1 ≤ k → (i : ℕ) → row-code o g.0 r d k i ≡ (row-code oq g r f k i).0
      unfolding row-code
      row_code_down l i =
          ap₂ (λ a b. cond (ltb i r) (o.neg a) b) (register_down k (omega arith) i) (e (k - 1 - (i - r)) (omega arith))
          ∙ of_cond {A = Fin q} (λ x. x.0) (ltb i r) (oq.neg (register oq g r f k i)) (f (k - 1 - (i - r)))

  -- what is the number of a code is below q
  below : (a : ℕ) (x : Fin q) → a ≡ x.0 → a < q
  below a x e = subst (λ n. n < q) (sym e) x.1

  pub generator_lt : (g j t : ℕ) → g < q → generator o g j t < q
  generator_lt g j t l = below (generator o g j t) (generator oq (g, l) j t) (generator_down (g, l) j t)

  pub register_lt : (g r k : ℕ) (d : ℕ → ℕ) → g < q → ((p : ℕ) → p < k → d p < q) → (p t : ℕ) → p ≤ k → register o g r d p t < q
  register_lt g r k d l h p t b =
      below (register o g r d p t) (register oq (g, l) r (λ i. as_code (d i)) p t)
      (register_down (g, l) r k d (λ i. as_code (d i)) (λ i c. as_code_is (d i) (h i c)) p b t)

  module _ (R : Ring oq) where
    -- where x is a code, or there is no coefficient, Horner's rule gives the value at x
    pub horner_at : (n : ℕ) (d : ℕ → ℕ) (x : ℕ) → (0 < n → x < q) → ((p : ℕ) → p < n → d p < q) → horner o d x n ≡ value_at o n d x
    horner_at zero d x l h = refl
    horner_at (suc n) d x l h =
        let f : ℕ → Fin q = λ i. as_code (d i) in
        let y : Fin q = (x, l (omega arith)) in
        let e : (p : ℕ) → p < suc n → d p ≡ (f p).0 = λ p c. as_code_is (d p) (h p c) in
        horner_down (suc n) d f y e
        ∙ ap (λ v. v.0) (Registers.horner_value oq R f y (suc n) ∙ Registers.value_reversed oq R f y (suc n))
        ∙ sym (CodedPoints.value_down q o C (suc n) d f y e)

    -- the value at g^j is a power sum
    pub value-sums : (g j n : ℕ) (d : ℕ → ℕ) → g < q → ((p : ℕ) → p < n → d p < q) → value_at o n d (pow o g j) ≡ sums o n (λ i. o.prod (d (n - 1 - i)) (pow o g (i * j)))
    value-sums g j n d l h =
        let f : ℕ → Fin q = λ i. as_code (d i) in
        let y : Fin q = pow oq (g, l) j in
        ap (value_at o n d) (CodedSums.pow_down q o C (g, l) j)
        ∙ CodedPoints.value_down q o C n d f y (λ p c. as_code_is (d p) (h p c))
        ∙ ap (λ v. v.0) (sym (Registers.value_reversed oq R f y n) ∙ Registers.value_powers oq R (g, l) n j (λ i. f (n - 1 - i)))
        ∙ sym (CodedSums.sums_down q o C n (λ i. oq.prod (f (n - 1 - i)) (pow oq (g, l) (i * j))))
        ∙ sums_same o n _ _ (λ i c. ap₂ o.prod (sym (as_code_is (d (n - 1 - i)) (h (n - 1 - i) (omega arith)))) (sym (CodedSums.pow_down q o C (g, l) (i * j))))

    -- the power sums 1 to r of the completed row are zero
    pub row-code-zeros : (g r k : ℕ) (d : ℕ → ℕ) → g < q → 1 ≤ k → ((p : ℕ) → p < k → d p < q)
        → (j : ℕ) → 1 ≤ j → j ≤ r → sums o (r + k) (λ i. o.prod (row-code o g r d k i) (pow o g (i * j))) ≡ o.zero
    row-code-zeros g r k d l b h j a c =
        let f : ℕ → Fin q = λ i. as_code (d i) in
        sums_same o (r + k) _ _ (λ i z. ap₂ o.prod (row_code_down (g, l) r k d f (λ p y. as_code_is (d p) (h p y)) b i) (CodedSums.pow_down q o C (g, l) (i * j)))
        ∙ CodedSums.sums_down q o C (r + k) (λ i. oq.prod (row-code oq (g, l) r f k i) (pow oq (g, l) (i * j)))
        ∙ ap (λ x. x.0) (Registers.row-zeros oq R (g, l) r k j f a c)
