-- Rows of the generator and of the register, from one step to the next.
use Rattle.std.proofs.Common.{◌≡◌, ℕ, zero, suc, ◌+◌, ◌-◌, ◌<◌, cond, List, get_or, sym, refl, ap, ◌∙◌, ap₂, add-one, arith, lt-ltb}
use Rattle.algebra.specs.Operations.{Operations}
use Rattle.algebra.specs.Polynomials.{delay, pow}
use Rattle.algebra.specs.Generators.{generator, register}

-- a shift by one place depends only on the places below
delay_same : (o : Operations ℕ) (p s : ℕ → ℕ) (n t : ℕ) → t < n → ((i : ℕ) → i < n → p i ≡ s i) → delay o 1 p t ≡ delay o 1 s t
delay_same o p s n zero l h = refl
delay_same o p s n (suc t) l h = h t (omega arith)

-- what a shift leaves at place t, less a multiple
abbrev pub shifted : Operations ℕ → List ℕ → ℕ → ℕ → ℕ → ℕ
shifted o row factor x t = o.sum (delay o 1 (λ i. get_or row i 0) t) (o.neg (o.prod factor x))

pub generator_next : (o : Operations ℕ) (g j n power t v : ℕ) (row : List ℕ) → t < n → ((i : ℕ) → i < n → get_or row i 0 ≡ generator o g j i) → power ≡ pow o g (j + 1)
    → v ≡ shifted o row power (get_or row t 0) t → v ≡ generator o g (j + 1) t
unfolding generator
generator_next o g j n power t v row l h e is =
    is
    ∙ ap₂ (λ (x y : ℕ). o.sum x (o.neg (o.prod power y))) (delay_same o (λ i. get_or row i 0) (generator o g j) n t l h) (h t l)
    ∙ ap (λ (x : ℕ). o.sum (delay o 1 (generator o g j) t) (o.neg (o.prod x (generator o g j t)))) (e ∙ ap (pow o g) (add-one j))
    ∙ ap (λ (i : ℕ). generator o g i t) (sym (add-one j))

pub register_next : (o : Operations ℕ) (g r p t v factor x : ℕ) (d : ℕ → ℕ) (row : List ℕ) → t < r → ((i : ℕ) → i < r → get_or row i 0 ≡ register o g r d p i)
    → factor ≡ o.sum (get_or row (r - 1) 0) (d p) → x ≡ generator o g r t → v ≡ shifted o row factor x t → v ≡ register o g r d (p + 1) t
unfolding register
register_next o g r p t v factor x d row l h f e is =
    is
    ∙ ap₂ (λ (y z : ℕ). o.sum y (o.neg (o.prod factor z))) (delay_same o (λ i. get_or row i 0) (register o g r d p) r t l h) e
    ∙ ap (λ (y : ℕ). o.sum (delay o 1 (register o g r d p) t) (o.neg (o.prod y (generator o g r t)))) (f ∙ ap (λ (y : ℕ). o.sum y (d p)) (h (r - 1) (omega arith)))
    ∙ sym (ap (λ b. cond b (o.sum (delay o 1 (register o g r d p) t) (o.neg (o.prod (o.sum (register o g r d p (r - 1)) (d p)) (generator o g r t)))) o.zero) (lt-ltb t r l))
    ∙ ap (λ (i : ℕ). register o g r d i t) (sym (add-one p))
