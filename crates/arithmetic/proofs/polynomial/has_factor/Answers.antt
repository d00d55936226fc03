-- What the proof of `polynomial::has_factor` leaves to be shown.
use Rattle.std.proofs.Common.{◌≡◌, ℕ, ◌+◌, ◌*◌, ◌%◌, ◌^◌, ◌<◌, MatchBool, sym, ap, ◌∙◌, subst, arith, below_more}
use Rattle.std.proofs.lemmas.Nat.{one_shl}
use Rattle.algebra.specs.Binary.{Degree, Divides, Factor, NoFactor, remainder}
use Rattle.algebra.proofs.BinaryDegrees.{LeavesBy}
use Rattle.algebra.proofs.BinaryRemainders.{remainder_leaves}
use Rattle.algebra.proofs.BinaryFactors.{left_zero, factor_left, pattern_degree, none_more}
use Rattle.arithmetic.proofs.polynomial.has_factor.Goals as goal

-- a divisor leaves nothing
divides-leaves : (f x d : ℕ) → Degree x d → Divides x f → remainder f x ≡ 0
divides-leaves f x d h = factor_left f x d (remainder f x) h (remainder_leaves f x d h)

-- what leaves nothing is a divisor
leaves-divides : (f x d : ℕ) → Degree x d → remainder f x ≡ 0 → Divides x f
leaves-divides f x d h e = left_zero f x (subst (LeavesBy f x) e (remainder_leaves f x d h))

-- the pattern p of degree d, as the code makes it
pattern : (f d p r : ℕ) → d < 32 → r ≡ remainder f ((1 * 2 ^ d) % 2 ^ 32 + p) → r ≡ remainder f (2 ^ d + p)
pattern f d p r h e = e ∙ ap (λ (x : ℕ). remainder f (x + p)) (one_shl d 32 h)

pub loop-pattern-preserved : goal.loop-pattern-preserved
loop-pattern-preserved c =
    let d = c.search.degree in
    let p = c.loop-pattern.pattern in
    let is = pattern c.args.f d p c.remainder.result (omega arith) c.remainder.ensures in (
      c.loop-pattern.invariant.0,
      below_more _ _ c.loop-pattern.invariant.1
          (λ h. c.if-remainder-eq0.false (is ∙ divides-leaves c.args.f (2 ^ d + p) d (pattern_degree d p (omega arith)) h)),
    )

pub search-preserved : goal.search-preserved
search-preserved c =
    let d = c.search.degree in
    let e : (1 * 2 ^ d) % 2 ^ 32 ≡ 2 ^ d = one_shl d 32 (omega arith) in (
      c.loop-pattern.invariant.0,
      none_more c.args.f d c.search.invariant.1 (λ p h. c.loop-pattern.invariant.1 p (omega arith)),
    )

pub returns-after-search : goal.returns-after-search
returns-after-search c =
    let m = c.args.m in
    let f = c.args.f in
    let none : NoFactor f m
    = λ x g. c.search.invariant.1 x (record { at = g.at; low = g.low; high = omega (arith, g.high); degree = g.degree; divides = g.divides }) in
    subst (λ b. MatchBool b ((x : ℕ) × Factor f m x) (NoFactor f m)) (sym c.search.invariant.0) none

pub returns-then-remainder-eq0 : goal.returns-then-remainder-eq0
returns-then-remainder-eq0 c =
    let d = c.search.degree in
    let p = c.loop-pattern.pattern in
    let is = pattern c.args.f d p c.remainder.result (omega arith) c.remainder.ensures in (
      2 ^ d + p,
      record {
        at = d;
        low = omega arith;
        high = omega arith;
        degree = pattern_degree d p (omega arith);
        divides = leaves-divides c.args.f (2 ^ d + p) d (pattern_degree d p (omega arith)) (sym is ∙ c.if-remainder-eq0.true);
      },
    )
