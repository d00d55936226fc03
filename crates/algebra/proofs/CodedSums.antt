-- Powers and sums of codes are those of their numbers.
use Rattle.std.proofs.Common.{◌≡◌, ℕ, zero, suc, refl, ap}
use Prim.Native.Nat.{Fin}
use Rattle.algebra.specs.Operations.{Operations}
use Rattle.algebra.specs.Codes.{Closed, coded}
use Rattle.algebra.specs.Polynomials.{pow, sums}
use Rattle.algebra.proofs.CodedIterations.{numbers}

module _ (q : ℕ) (o : Operations ℕ) (C : Closed q o) where
  pub pow_down : (x : Fin q) (e : ℕ) → pow o x.0 e ≡ (pow (coded q o C) x e).0
  pow_down x zero = refl
  pow_down x (suc e) = ap (o.prod x.0) (pow_down x e)

  pub sums_down : (n : ℕ) (f : ℕ → Fin q) → sums o n (numbers f) ≡ (sums (coded q o C) n f).0
  sums_down zero f = refl
  sums_down (suc n) f = ap (λ s. o.sum s (f n).0) (sums_down n f)
