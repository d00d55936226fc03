-- What the iterations keep and give where the coefficients are codes, as numbers.
use Rattle.std.proofs.Common.{◌≡◌, ℕ, suc, pred, ◌-◌, ◌*◌, ◌<◌, ◌≤◌, eqb, sym, ap, ◌∙◌, arith}
use Prim.Native.Nat.{Fin}
use Rattle.algebra.specs.Operations.{Operations, Ring, Field, Tested}
use Rattle.algebra.specs.Codes.{Closed, coded}
use Rattle.algebra.specs.Polynomials.{less, conv, Within, terms}
use Rattle.algebra.specs.Iteration.{Pairs, gap, quotient, after, left, Iterations}
use Rattle.algebra.proofs.Terms.{tested}
use Rattle.algebra.proofs.Invariant.{Stands}
use Rattle.algebra.proofs.OneIteration
use Rattle.algebra.proofs.Iterated
use Rattle.algebra.proofs.CodedIterations.{numbers, down}
use Rattle.algebra.proofs.CodedIterations

-- what k iterations keep
pub record Kept (q : ℕ) (o : Operations ℕ) (n stop : ℕ) (s : Pairs ℕ) : Type 0 where
  pub big_codes : (t : ℕ) → s.big t < q
  pub small_codes : (t : ℕ) → s.small t < q
  pub big_multiplier_codes : (t : ℕ) → s.big_multiplier t < q
  pub small_multiplier_codes : (t : ℕ) → s.small_multiplier t < q
  pub ordered : terms o (suc n) s.small ≤ terms o (suc n) s.big
  pub small_within : Within o n s.small

-- what the next iteration makes of them
pub record Makes (q : ℕ) (o : Operations ℕ) (n stop : ℕ) (s : Pairs ℕ) : Type 0 where
  pub new_within : Within o (pred (terms o (suc n) s.big)) (less o s.big (quotient o n s) (gap o n s) s.small)
  pub new_multiplier_within : Within o (suc (n - 1 - stop)) (less o s.big_multiplier (quotient o n s) (gap o n s) s.small_multiplier)

module _
    (q : ℕ)
    (o : Operations ℕ)
    (C : Closed q o)
    (R : Ring (coded q o C))
    (F : Field (coded q o C))
    (Z : (a : ℕ) → o.zero? a ≡ eqb a o.zero)
    (n : ℕ)
    (r : ℕ → ℕ)
    (rc : (t : ℕ) → t < n → r t < q)
    (stop : ℕ)
  where
    abbrev oq : Operations (Fin q)
    oq = coded q o C

    abbrev r' : ℕ → Fin q
    r' = CodedIterations.lifted q o C n r rc

    abbrev at : ℕ → Pairs (Fin q)
    at k = after oq n r' k

    same : (k : ℕ) → after o n r k ≡ down (at k)
    same = CodedIterations.after_down q o C n r rc

    same_left : (k : ℕ) → left o n r k ≡ left oq n r' k
    same_left = CodedIterations.left_down q o C n r rc

    Zq : Tested oq
    Zq = record { passes = (tested o Z).passes; tells = λ a e. native.Mathlib.Fin.val_path ((tested o Z).tells a.0 e) }

    stands : (k : ℕ) → ((i : ℕ) → i < k → suc stop < left o n r i) → Stands oq n r' stop k (at k)
    stands k b = Iterated.stands oq R F Zq n r' stop k (λ i g. omega (arith, same_left i, b i g))

    pub kept : (k : ℕ) → ((i : ℕ) → i < k → suc stop < left o n r i) → Kept q o n stop (after o n r k)
    kept k b = rw (same k) go
      where
        s : Pairs (Fin q)
        s = at k

        h : Stands oq n r' stop k s
        h = stands k b

        go : Kept q o n stop (down s)
        go = record {
          big_codes = λ t. (s.big t).1;
          small_codes = λ t. (s.small t).1;
          big_multiplier_codes = λ t. (s.big_multiplier t).1;
          small_multiplier_codes = λ t. (s.small_multiplier t).1;
          ordered = omega (arith, CodedIterations.terms_down q o C (suc n) s.big, CodedIterations.terms_down q o C (suc n) s.small, h.ordered);
          small_within = λ t g. ap (λ x. x.0) (h.small_within t g);
        }

    -- while they go on, the leading terms cancel in the next iteration, and its multiplier keeps its width
    pub makes : (k : ℕ) → ((i : ℕ) → i < k → suc stop < left o n r i) → suc stop < left o n r k → Makes q o n stop (after o n r k)
    unfolding left
    makes k b more = rw (same k) go
      where
        s : Pairs (Fin q)
        s = at k

        made : (x y : ℕ → Fin q) → ℕ → Fin q
        made x y = less oq x (quotient oq n s) (gap oq n s) y

        m : suc stop < terms oq (suc n) s.small
        m = omega (arith, same_left k, more)

        is : (x y : ℕ → Fin q) (t : ℕ) → less o (numbers x) (quotient o n (down s)) (gap o n (down s)) (numbers y) t ≡ (made x y t).0
        is x y t = ap (λ p. p t) (CodedIterations.less_down q o C n s x y)

        go : Makes q o n stop (down s)
        go = record {
          new_within = λ t g.
              is s.big s.small t
              ∙ ap (λ x. x.0) (OneIteration.new_within oq R F Zq n r' stop k s (stands k b) m t (omega (arith, CodedIterations.terms_down q o C (suc n) s.big)));
          new_multiplier_within = λ t g.
              is s.big_multiplier s.small_multiplier t
              ∙ ap (λ x. x.0) (OneIteration.new_multiplier_within oq R F Zq n r' stop k s (stands k b) m t g);
        }

    module _ (k : ℕ) (h : Iterations o n r stop k) where
      its : Iterations oq n r' stop k
      its = record { ended = omega (arith, same_left k, h.ended); before = λ i g. omega (arith, same_left i, h.before i g) }

      -- its multiplier times r has no term from z^(stop+1) to z^(n-1), and is not zero
      pub key : (t : ℕ) → stop < t → t < n → conv o (after o n r k).small_multiplier r t ≡ o.zero
      key t l g =
          ap (λ s. conv o s.small_multiplier r t) (same k)
          ∙ CodedIterations.conv_down q o C n r rc (at k).small_multiplier t g
          ∙ ap (λ x. x.0) (Iterated.key oq R F Zq n r' stop k its t l g)

      pub nonzero : (t : ℕ) × (t < suc (n - 1 - stop)) × ((after o n r k).small_multiplier t ≡ o.zero → ⊥)
      nonzero =
          let (t, l, x) = Iterated.nonzero oq R F Zq n r' stop k its in
          (t, l, λ e. x (native.Mathlib.Fin.val_path (sym (ap (λ s. s.small_multiplier t) (same k)) ∙ e)))

      pub bound : k ≤ 2 * (n - stop) - 2
      bound = Iterated.bound oq R F Zq n r' stop k its.before
