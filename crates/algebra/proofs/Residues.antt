-- The numbers below n modulo n are a ring, and a field where a computed test finds each inverse.
use Rattle.std.proofs.Common.{◌≡◌, ℕ, zero, suc, ◌+◌, ◌-◌, ◌*◌, ◌/◌, ◌%◌, ◌<◌, ◌≤◌, Bool, true, false, cond, T, eqb, sym, refl, ap, ◌∙◌, not-suc-le-zero, add-zero, add_assoc, mod-lt, mod-eq_of_lt, mul_assoc, mul_comm, add-mul, add_comm, mul-one, mul-add, arith, eqb→eq}
use Prim.Native.Nat.{Fin}
use native.Mathlib.Nat.{mod_self, mod-add-mod, add-mod-mod, mod-add-div, add-mul-mod_self_left}
use native.Mathlib.Decide.{dec_lt}
use Rattle.algebra.specs.Operations.{Operations, Ring, Field}
use Rattle.algebra.specs.Codes.{Closed, coded, modulo}
use Rattle.algebra.proofs.Found.{found_lt}

-- a factor may be reduced first
pub mod_mul : (a b n : ℕ) → (a % n * b) % n ≡ (a * b) % n
mod_mul a b n =
    sym
    (ap (λ (x : ℕ). (x * b) % n) (sym (mod-add-div a n)) ∙ ap (λ (x : ℕ). x % n) (add-mul (a % n) (n * (a / n)) b)
    ∙ ap (λ (x : ℕ). (a % n * b + x) % n) (mul_assoc n (a / n) b) ∙ add-mul-mod_self_left (a % n * b) n (a / n * b))

mul_mod : (a b n : ℕ) → (a * (b % n)) % n ≡ (a * b) % n
mul_mod a b n = ap (λ (x : ℕ). x % n) (mul_comm a (b % n)) ∙ mod_mul b a n ∙ ap (λ (x : ℕ). x % n) (mul_comm b a)

module _ (n : ℕ) (two : 2 ≤ n) where
  low : (a : ℕ) → a % n < n
  low a = mod-lt a (omega arith)

  pub closed : Closed n (modulo n)
  closed = record {
    zero_in = omega arith;
    one_in = omega arith;
    sum_in = λ a b p q. low (a + b);
    neg_in = λ a p. low (n - a);
    prod_in = λ a b p q. low (a * b);
    inv_in = λ a p. found_lt (λ b. eqb ((a * b) % n) 1) n n (omega arith) (omega arith);
  }

  abbrev pub operations : Operations (Fin n)
  operations = coded n (modulo n) closed

  minus : (a : ℕ) → a < n → (a + (n - a) % n) % n ≡ 0
  minus a h = add-mod-mod a (n - a) n ∙ ap (λ (x : ℕ). x % n) (omega arith) ∙ mod_self n

  pub ring : Ring operations
  ring = record {
    sum_assoc = λ a b c.
        native.Mathlib.Fin.val_path (mod-add-mod (a.0 + b.0) n c.0 ∙ ap (λ (x : ℕ). x % n) (add_assoc a.0 b.0 c.0) ∙ sym (add-mod-mod a.0 (b.0 + c.0) n));
    sum_comm = λ a b. native.Mathlib.Fin.val_path (ap (λ (x : ℕ). x % n) (add_comm a.0 b.0));
    sum_zero = λ a. native.Mathlib.Fin.val_path (ap (λ (x : ℕ). x % n) (add-zero a.0) ∙ mod-eq_of_lt a.1);
    sum_neg = λ a. native.Mathlib.Fin.val_path (minus a.0 a.1);
    prod_assoc = λ a b c.
        native.Mathlib.Fin.val_path (mod_mul (a.0 * b.0) c.0 n ∙ ap (λ (x : ℕ). x % n) (mul_assoc a.0 b.0 c.0) ∙ sym (mul_mod a.0 (b.0 * c.0) n));
    prod_comm = λ a b. native.Mathlib.Fin.val_path (ap (λ (x : ℕ). x % n) (mul_comm a.0 b.0));
    prod_one = λ a. native.Mathlib.Fin.val_path (ap (λ (x : ℕ). x % n) (mul-one a.0) ∙ mod-eq_of_lt a.1);
    distributes = λ a b c.
        native.Mathlib.Fin.val_path
        (mul_mod a.0 (b.0 + c.0) n ∙ ap (λ (x : ℕ). x % n) (mul-add a.0 b.0 c.0)
        ∙ sym (mod-add-mod (a.0 * b.0) n (a.0 * c.0 % n) ∙ add-mod-mod (a.0 * b.0) (a.0 * c.0) n));
    differ = λ e. let z : ◌≡◌ {A = ℕ} 0 1 = ap (λ x. x.0) e in omega arith;
  }

  -- each number from 1 to k - 1 has an inverse
  abbrev pub inverses : ℕ → Bool
  inverses zero = true
  inverses (suc zero) = true
  inverses (suc (suc k)) = cond (eqb ((suc k * (modulo n).inv (suc k)) % n) 1) (inverses (suc k)) false

  inverse_of : (k : ℕ) → T (inverses k) → (a : ℕ) → a < k → (a ≡ 0 → ⊥) → (a * (modulo n).inv a) % n ≡ 1
  inverse_of zero t a h z = absurd (not-suc-le-zero h)
  inverse_of (suc zero) t a h z = absurd (z (omega arith))
  inverse_of (suc (suc k)) t a h z = go (eqb ((suc k * (modulo n).inv (suc k)) % n) 1) refl t (inverse_of (suc k))
    where
      last : (x : ℕ) → T (eqb ((suc k * (modulo n).inv (suc k)) % n) 1) → x ≡ suc k → (x * (modulo n).inv x) % n ≡ 1
      last x s e = ap (λ (y : ℕ). (y * (modulo n).inv y) % n) e ∙ eqb→eq ((suc k * (modulo n).inv (suc k)) % n) 1 s

      go : (b : Bool) → eqb ((suc k * (modulo n).inv (suc k)) % n) 1 ≡ b → T (cond b (inverses (suc k)) false)
          → (T (inverses (suc k)) → (x : ℕ) → x < suc k → (x ≡ 0 → ⊥) → (x * (modulo n).inv x) % n ≡ 1) → (a * (modulo n).inv a) % n ≡ 1
      go true e s rest = elim (dec_lt a (suc k)) [ yes l ↦ rest s a l z | no l ↦ last a (rw e tt) (omega arith) ]
      go false e s rest = absurd s

  pub field : T (inverses n) → Field operations
  field t = record { inverse = λ a z. native.Mathlib.Fin.val_path (inverse_of n t a.0 a.1 (λ e. z (native.Mathlib.Fin.val_path e))) }
