-- What follows from the laws of a ring, and that a field has no zero divisors.
use Rattle.std.proofs.Common.{◌≡◌, sym, ap, ◌∙◌}
use Rattle.algebra.specs.Operations.{Operations, Ring, Field}

module _ {K : Type 0} (o : Operations K) (R : Ring o) where
  open o use {zero, one, sum as ◌+◌, prod as ◌*◌, neg, inv}
  open R use {sum_assoc, sum_comm, sum_zero, sum_neg, prod_assoc, prod_comm, prod_one, distributes}

  infixl 60 ◌+◌
  infixl 70 ◌*◌
  pub zero-add : (a : K) → zero + a ≡ a
  zero-add a = sum_comm zero a ∙ sum_zero a

  pub neg_add : (a : K) → neg a + a ≡ zero
  neg_add a = sum_comm (neg a) a ∙ sum_neg a

  pub one-mul : (a : K) → one * a ≡ a
  one-mul a = prod_comm one a ∙ prod_one a

  pub distrib_r : (a b c : K) → (a + b) * c ≡ a * c + b * c
  distrib_r a b c = simp (prod_comm, distributes)

  pub add_left_comm : (a b c : K) → a + (b + c) ≡ b + (a + c)
  add_left_comm a b c = rw (← sum_assoc a b c, sum_comm a b, sum_assoc)

  pub mul_left_comm : (a b c : K) → a * (b * c) ≡ b * (a * c)
  mul_left_comm a b c = rw (← prod_assoc a b c, prod_comm a b, prod_assoc)

  -- cancelling
  pub cancel_l : (a b : K) → neg a + (a + b) ≡ b
  cancel_l a b = rw (← sum_assoc (neg a) a b, neg_add, zero-add)

  pub cancel_r : (a b : K) → a + (neg a + b) ≡ b
  cancel_r a b = rw (← sum_assoc a (neg a) b, sum_neg, zero-add)

  pub add_inj : (a b c : K) → a + b ≡ a + c → b ≡ c
  add_inj a b c h = sym (cancel_l a b) ∙ ap (λ x. neg a + x) h ∙ cancel_l a c

  pub neg_unique : (a b : K) → a + b ≡ zero → b ≡ neg a
  neg_unique a b h = add_inj a b (neg a) (h ∙ sym (sum_neg a))

  pub mul-zero : (a : K) → a * zero ≡ zero
  mul-zero a = add_inj (a * zero) (a * zero) zero (sym (distributes a zero zero) ∙ simp sum_zero)

  pub zero-mul : (a : K) → zero * a ≡ zero
  zero-mul a = prod_comm zero a ∙ mul-zero a

  pub neg-zero : neg zero ≡ zero
  neg-zero = sym (neg_unique zero zero (sum_zero zero))

  pub neg-neg : (a : K) → neg (neg a) ≡ a
  neg-neg a = sym (neg_unique (neg a) a (neg_add a))

  pub mul_neg : (a b : K) → a * neg b ≡ neg (a * b)
  mul_neg a b = neg_unique (a * b) (a * neg b) (sym (distributes a b (neg b)) ∙ simp (sum_neg, mul-zero))

  pub neg_mul : (a b : K) → neg a * b ≡ neg (a * b)
  neg_mul a b = simp (prod_comm, mul_neg)

  pub neg_sum : (a b : K) → neg (a + b) ≡ neg a + neg b
  neg_sum a b = sym (neg_unique (a + b) (neg a + neg b) (rw (sum_assoc, add_left_comm b (neg a) (neg b), cancel_r, sum_neg)))

  pub eq_of_sub : (a b : K) → a + neg b ≡ zero → a ≡ b
  eq_of_sub a b h = neg_neg_eq (neg_unique (neg b) a (sum_comm (neg b) a ∙ h))
    where
      neg_neg_eq : a ≡ neg (neg b) → a ≡ b
      neg_neg_eq e = e ∙ neg-neg b

  pub sub_ne : (a b : K) → ¬ (a ≡ b) → ¬ (a + neg b ≡ zero)
  sub_ne a b n e = n (eq_of_sub a b e)

  -- a product with an element that is not zero is zero only where the other factor is
  pub mul_cancel : Field o → (a d : K) → a * d ≡ zero → ¬ (d ≡ zero) → a ≡ zero
  mul_cancel F a d h n =
      sym (prod_one a) ∙ ap (λ x. a * x) (sym (F.inverse d n)) ∙ sym (prod_assoc a d (inv d)) ∙ ap (λ x. x * inv d) h ∙ zero-mul (inv d)
