-- Folding and removing points on codes are those on their numbers.
use Rattle.std.proofs.Common.{◌≡◌, ℕ, zero, suc, ◌+◌, ◌-◌, ◌<◌, ◌≤◌, Bool, true, false, cond, refl, ap, ◌∙◌, ap₂, arith}
use Prim.Native.Nat.{Fin}
use Rattle.algebra.specs.Operations.{Operations}
use Rattle.algebra.specs.Codes.{Closed, coded}
use Rattle.algebra.specs.Polynomials.{less, value_at, pow}
use Rattle.algebra.specs.Counts.{count}
use Rattle.algebra.specs.Points.{other, folded, removed, others}
use Rattle.algebra.proofs.CodedSums
use Rattle.algebra.proofs.Sums.{sums_same}

module _ (q : ℕ) (o : Operations ℕ) (C : Closed q o) where
  abbrev oq : Operations (Fin q)
  oq = coded q o C

  pub value_down : (n : ℕ) (c : ℕ → ℕ) (f : ℕ → Fin q) (x : Fin q) → ((j : ℕ) → j < n → c j ≡ (f j).0) → value_at o n c x.0 ≡ (value_at oq n f x).0
  value_down n c f x e =
      sums_same o n _ (λ j. (oq.prod (f j) (pow oq x (n - 1 - j))).0) (λ j l. ap₂ o.prod (e j l) (CodedSums.pow_down q o C x (n - 1 - j)))
      ∙ CodedSums.sums_down q o C n (λ j. oq.prod (f j) (pow oq x (n - 1 - j)))

  module _ (n : ℕ) (x : ℕ → ℕ) (y : ℕ → Fin q) (ex : (i : ℕ) → i < n → x i ≡ (y i).0) where
    -- below the first N terms, which are those of f
    pub folded_down :
        (E : ℕ → Bool) (N : ℕ) (T : ℕ → ℕ) (f : ℕ → Fin q) → ((t : ℕ) → t < N → T t ≡ (f t).0)
        → (k t : ℕ) → k ≤ n → t < N → folded o x E T k t ≡ (folded oq y E f k t).0
    folded_down E N T f e zero t l h = e t h
    folded_down E N T f e (suc k) t l h = go (E k) t h (λ t g. folded_down E N T f e k t (omega arith) g)
      where
        go : (b : Bool) (t : ℕ) → t < N
            → ((t : ℕ) → t < N → folded o x E T k t ≡ (folded oq y E f k t).0)
            → cond b (less o (folded o x E T k) (x k) 1 (folded o x E T k)) (folded o x E T k) t ≡ (cond b (less oq (folded oq y E f k) (y k) 1 (folded oq y E f k)) (folded oq y E f k) t).0
        go true zero h rest = ap₂ (λ a c. o.sum a (o.neg (o.prod c o.zero))) (rest 0 h) (ex k l)
        go true (suc t) h rest =
            ap₂ (λ a b. o.sum a (o.neg (o.prod (x k) b))) (rest (suc t) h) (rest t (omega arith))
            ∙ ap (λ c. o.sum (folded oq y E f k (suc t)).0 (o.neg (o.prod c (folded oq y E f k t).0))) (ex k l)
        go false t h rest = rest t h

    pub removed_down :
        (P : ℕ → Bool) (i N : ℕ) (Q : ℕ → ℕ) (f : ℕ → Fin q) → ((t : ℕ) → t < N → Q t ≡ (f t).0)
        → (k t : ℕ) → k ≤ n → t + count k (other P i) < N → removed o x P i Q k t ≡ (removed oq y P i f k t).0
    removed_down P i N Q f e zero t l h = e t (omega arith)
    removed_down P i N Q f e (suc k) t l h = go (other P i k) h (λ t g. removed_down P i N Q f e k t (omega arith) g)
      where
        go : (b : Bool) → t + (count k (other P i) + cond b 1 0) < N
            → ((t : ℕ) → t + count k (other P i) < N → removed o x P i Q k t ≡ (removed oq y P i f k t).0)
            → cond b (o.sum (removed o x P i Q k (suc t)) (o.neg (o.prod (x k) (removed o x P i Q k t)))) (removed o x P i Q k t)
            ≡ (cond b (oq.sum (removed oq y P i f k (suc t)) (oq.neg (oq.prod (y k) (removed oq y P i f k t)))) (removed oq y P i f k t)).0
        go true h rest =
            ap₂ (λ a b. o.sum a (o.neg (o.prod (x k) b))) (rest (suc t) (omega arith)) (rest t (omega arith))
            ∙ ap (λ c. o.sum (removed oq y P i f k (suc t)).0 (o.neg (o.prod c (removed oq y P i f k t).0))) (ex k l)
        go false h rest = rest t (omega arith)

    pub others_down : (P : ℕ → Bool) (i j : ℕ) → j < n → (k : ℕ) → k ≤ n → others o x P i k j ≡ (others oq y P i k j).0
    others_down P i j h zero l = refl
    others_down P i j h (suc k) l = go (other P i k) (others_down P i j h k (omega arith))
      where
        go : (b : Bool) → others o x P i k j ≡ (others oq y P i k j).0
            → cond b (o.prod (others o x P i k j) (o.sum (x j) (o.neg (x k)))) (others o x P i k j)
            ≡ (cond b (oq.prod (others oq y P i k j) (oq.sum (y j) (oq.neg (y k)))) (others oq y P i k j)).0
        go true rest =
            ap₂ (λ a b. o.prod a (o.sum (x j) (o.neg b))) rest (ex k l)
            ∙ ap (λ c. o.prod (others oq y P i k j).0 (o.sum c (o.neg (y k).0))) (ex j h)
        go false rest = rest
