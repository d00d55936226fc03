-- The iterations on codes are those on their numbers.
use Rattle.std.proofs.Common.{◌≡◌, ℕ, zero, suc, pred, ◌-◌, ◌<◌, Bool, true, false, cond, eqb, ltb, leb, sym, refl, ap, ◌∙◌, ap₂, arith, ltb-true}
use mathlib.Core.Path.{fun_ext}
use Prim.Native.Nat.{Fin}
use native.Mathlib.Decide.{dec_lt}
use Rattle.algebra.specs.Operations.{Operations}
use Rattle.algebra.specs.Codes.{Closed, coded}
use Rattle.algebra.specs.Polynomials.{power, delay, less, conv, terms}
use Rattle.algebra.specs.Iteration.{Pairs, begun, placed, gap, quotient, iteration, after, left}

pub of_cond : {A B : Type 0} (f : A → B) (b : Bool) (x y : A) → cond b (f x) (f y) ≡ f (cond b x y)
of_cond f true x y = refl
of_cond f false x y = refl

-- the numbers of codes
abbrev pub numbers : {q : ℕ} → (ℕ → Fin q) → ℕ → ℕ
numbers p t = (p t).0

abbrev pub down : {q : ℕ} → Pairs (Fin q) → Pairs ℕ
down s = record { big = numbers s.big; big_multiplier = numbers s.big_multiplier; small = numbers s.small; small_multiplier = numbers s.small_multiplier }

module _ (q : ℕ) (o : Operations ℕ) (C : Closed q o) where
  abbrev oq : Operations (Fin q)
  oq = coded q o C

  pub terms_down : (n : ℕ) (p : ℕ → Fin q) → terms o n (numbers p) ≡ terms oq n p
  terms_down zero p = refl
  terms_down (suc n) p = ap (λ x. cond (o.zero? (p n).0) x (suc n)) (terms_down n p)

  pub delay_down : (d : ℕ) (p : ℕ → Fin q) (t : ℕ) → delay o d (numbers p) t ≡ (delay oq d p t).0
  delay_down zero p t = refl
  delay_down (suc d) p zero = refl
  delay_down (suc d) p (suc t) = delay_down d p t

  module _ (n : ℕ) where
    pub less_down : (s : Pairs (Fin q)) (a b : ℕ → Fin q) → less o (numbers a) (quotient o n (down s)) (gap o n (down s)) (numbers b) ≡ numbers (less oq a (quotient oq n s) (gap oq n s) b)
    less_down s a b = fun_ext (λ t.
        ap₂ (λ i j. o.sum (a t).0 (o.neg (o.prod (o.prod (s.big (pred i)).0 (o.inv (s.small (pred j)).0)) (delay o (i - j) (numbers b) t))))
        (terms_down (suc n) s.big) (terms_down (suc n) s.small)
        ∙ ap (λ x. o.sum (a t).0 (o.neg (o.prod (quotient oq n s).0 x))) (delay_down (gap oq n s) b t))

    placed_down : (s : Pairs (Fin q)) (p u : ℕ → Fin q) → placed o n (down s) (numbers p) (numbers u) ≡ down (placed oq n s p u)
    placed_down s p u =
        let x : Pairs (Fin q) = record { big = p; big_multiplier = u; small = s.small; small_multiplier = s.small_multiplier } in
        let y : Pairs (Fin q) = record { big = s.small; big_multiplier = s.small_multiplier; small = p; small_multiplier = u } in
        ap₂ (λ i j. cond (leb i j) (down x) (down y)) (terms_down (suc n) s.small) (terms_down (suc n) p)
        ∙ of_cond down (leb (terms oq (suc n) s.small) (terms oq (suc n) p)) x y

    iteration_down : (s : Pairs (Fin q)) → iteration o n (down s) ≡ down (iteration oq n s)
    unfolding iteration
    iteration_down s =
        ap₂ (placed o n (down s)) (less_down s s.big s.small) (less_down s s.big_multiplier s.small_multiplier)
        ∙ placed_down s (less oq s.big (quotient oq n s) (gap oq n s) s.small) (less oq s.big_multiplier (quotient oq n s) (gap oq n s) s.small_multiplier)

    module _ (r : ℕ → ℕ) (rc : (t : ℕ) → t < n → r t < q) where
      -- the first n terms of r as codes
      abbrev pub lift : (t : ℕ) → Dec (t < n) → Fin q
      lift t (yes l) = (r t, rc t l)
      lift t (no l) = oq.zero

      abbrev pub lifted : ℕ → Fin q
      lifted t = lift t (dec_lt t n)

      lift_is : (t : ℕ) → t < n → (x : Dec (t < n)) → (lift t x).0 ≡ r t
      lift_is t l (yes g) = refl
      lift_is t l (no g) = absurd (g l)

      pub conv_down : (u : ℕ → Fin q) (t : ℕ) → t < n → conv o (numbers u) r t ≡ (conv oq u lifted t).0
      conv_down u zero l = ap (o.prod (u 0).0) (sym (lift_is 0 l (dec_lt 0 n)))
      conv_down u (suc t) l =
          ap₂ (λ x y. o.sum (o.prod (u 0).0 x) y) (sym (lift_is (suc t) l (dec_lt (suc t) n))) (conv_down (λ j. u (suc j)) t (omega arith))

      begun-small : (t : ℕ) (b : Bool) → ltb t n ≡ b → cond b (r t) o.zero ≡ (cond b (lifted t) oq.zero).0
      begun-small t true e = sym (lift_is t (ltb-true t n e) (dec_lt t n))
      begun-small t false e = refl

      power_down : (d t : ℕ) → power o d t ≡ (power oq d t).0
      power_down d t = of_cond {A = Fin q} (λ x. x.0) (eqb t d) oq.one oq.zero

      begun_down : begun o n r ≡ down (begun oq n lifted)
      begun_down i = record {
        big = λ t. power_down n t i;
        big_multiplier = λ t. o.zero;
        small = λ t. begun-small t (ltb t n) refl i;
        small_multiplier = λ t. power_down 0 t i;
      }

      pub after_down : (k : ℕ) → after o n r k ≡ down (after oq n lifted k)
      unfolding after
      after_down zero = begun_down
      after_down (suc k) = ap (iteration o n) (after_down k) ∙ iteration_down (after oq n lifted k)

      pub left_down : (k : ℕ) → left o n r k ≡ left oq n lifted k
      unfolding left
      left_down k = ap (λ s. terms o (suc n) s.small) (after_down k) ∙ terms_down (suc n) (after oq n lifted k).small
