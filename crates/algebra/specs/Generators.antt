-- The generator of a scheme's labels and the register of a division by it, for coefficients of any operations.
use Rattle.std.specs.Prelude.{ℕ, zero, suc, ◌-◌, cond, nat_lt}
use Rattle.algebra.specs.Operations.{Operations}
use Rattle.algebra.specs.Polynomials.{delay, pow, power}

-- (z - a) p
abbrev pub by_root : {K : Type 0} → Operations K → (ℕ → K) → K → ℕ → K
by_root o p a t = o.sum (delay o 1 p t) (o.neg (o.prod a (p t)))

-- the product of the z - g^i for i from 1 to j
unfoldable pub generator : {K : Type 0} → Operations K → K → ℕ → ℕ → K
generator o g zero t = power o 0 t
generator o g (suc j) t = by_root o (generator o g j) (pow o g (suc j)) t

-- the register after p characters d_0 to d_(p-1): z times what it was, less the sum of its top term and d_p times the generator
unfoldable pub register : {K : Type 0} → Operations K → K → ℕ → (ℕ → K) → ℕ → ℕ → K
register o g r d zero t = o.zero
register o g r d (suc p) t =
    cond (nat_lt t r)
    (o.sum (delay o 1 (register o g r d p) t) (o.neg (o.prod (o.sum (register o g r d p (r - 1)) (d p)) (generator o g r t))))
    o.zero
