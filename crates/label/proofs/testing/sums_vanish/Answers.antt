-- What the proof of `testing::sums_vanish` leaves to be shown.
use Rattle.std.proofs.Common.{◌≡◌, ℕ, ◌+◌, ◌-◌, ◌≤◌, length, Bool, true, false, MatchBool, IsTrue, IfSome, IsSomeAnd, None, Some, Option, Ok, Result, ◌∙◌, subst, arith, rules}
use native.Mathlib.Decide.{dec_lt}
use Rattle.std.specs.Iterator.Runs.{SomeRun, EachRunFrom, AllItems, AnyItem}
use Rattle.std.proofs.lemmas.Option.{IfSome_then}
use Rattle.algebra.specs.Polynomials.{pow}
use Rattle.arithmetic.specs.declared.refusal.Refusal.{Refusal}
use Rattle.arithmetic.specs.Answers.{OfRow}
use Rattle.label.specs.Labels.{power_sum}
use Rattle.label.proofs.Values.{power_in, power_is, value_is}
use Rattle.label.proofs.testing.sums_vanish.Goals as goal

-- what follows from two facts of one value, of which the second says that there is one
of_both : (A B : ℕ → Type 0) {Q : Type 0} (o : Option ℕ) → IfSome o A → IsSomeAnd o B → ((x : ℕ) → A x → B x → Q) → Q
of_both A B None a b follows = absurd b
of_both A B (Some x) a b follows = follows x a b

-- what `all` tells of a run that holds the power k + 1 at place k, and has at most r places, and r where it is whole
told :
    {S : Type 0} (steps : S → Option ℕ → S → Type 0) (s : S) (Keeps : Type 0) (Yes No P : ℕ → Type 0) (power : ℕ → ℕ) (r : ℕ) (result : Bool)
    → Keeps → SomeRun steps s (λ p. MatchBool result (IsTrue p.whole × (Keeps → AllItems p Yes)) (Keeps → AnyItem p No))
    → EachRunFrom steps s (λ p. (p.len ≤ r) × (IsTrue p.whole → r ≤ p.len) × ((k : ℕ) → IfSome (p.at k) (λ x. x ≡ power (k + 1))))
    → ((x j : ℕ) → x ≡ power j → Yes x → P j) → ((x j : ℕ) → x ≡ power j → No x → P j → ⊥)
    → MatchBool result ((j : ℕ) → 1 ≤ j → j ≤ r → P j) ((j : ℕ) × (1 ≤ j) × (j ≤ r) × (P j → ⊥))
told steps s Keeps Yes No P power r true keeps h each passes fails = λ j one up.
    let p = h.0 in
    let is = each p p.seen h.1 in
    let long = is.1 h.2.0 in
    let read = p.reads (j - 1) 0 (omega arith) in
    let e : j - 1 + 1 ≡ j = omega arith in
    let there : IsSomeAnd (p.at (j - 1)) Yes = (let yes = h.2.1 keeps (j - 1) in search rules) in
    subst P e (of_both _ Yes (p.at (j - 1)) (is.2 (j - 1)) there (λ x here y. passes x (j - 1 + 1) here y))
told steps s Keeps Yes No P power r false keeps h each passes fails =
    let p = h.0 in
    let is = each p p.seen h.1 in
    let other = h.2 keeps in
    let l = other.1 in
    let most = is.0 in
    (other.0 + 1, omega arith, omega arith, of_both _ No (p.at other.0) (is.2 other.0) other.2 (λ x. fails x (other.0 + 1)))

pub returns : goal.returns
returns g c =
    let m = g.A.Arithmetic.meaning c.args.arithmetic.now in
    let L = g.met.A.Arithmetic.lawful c.args.arithmetic.now in
    let row = c.args.row.now in
    told _ _ _ _ _ (λ j. power_sum m (length row) row j ≡ m.codes.zero) (pow m.codes m.step) c.args.r c.all.result (search rules) c.all.ensures.runs
    (λ p seen from.
    let taken = c.take.ensures.runs p seen from in
    let q = taken.1.0 in
    let same = taken.1.2 in
    let made = c.successors.ensures.runs q q.seen taken.1.1 in
    let rest = made.2 (search rules) in
    let powers : (k : ℕ) → IfSome (q.at k) (λ x. x ≡ pow m.codes m.step (k + 1)) =
    λ k. IfSome_then (q.at k) (rest.2 (m.codes.prod m.step) m.step k (search rules) (search rules)) (λ x e. e ∙ power_is m L k) in (
      taken.0,
      λ w. elim (dec_lt p.len c.args.r) [
        | no l ↦ omega arith
        | yes l ↦ absurd (elim (dec_lt 0 p.len) [
          | no z ↦ (let ends = same.1 w l in search rules)
          | yes z ↦ of_both _ _ (q.at (p.len - 1)) (powers (p.len - 1)) (rest.1 (p.len - 1) (same.1 w l) (omega (arith, same.0.0))) (λ x is none. let code = power_in m L (p.len - 1 + 1) in search rules)
        ])
      ],
      λ k. subst (λ o. IfSome o (λ x. x ≡ pow m.codes m.step (k + 1))) (same.0.2 k) (powers k),
    ))
    (λ x j is y.
    let known : (r : Result ℕ Refusal) × (v : ℕ) × OfRow m row x r × (r ≡ Ok v) × (v ≡ m.codes.zero) = search rules in
    omega (arith, value_is m L row x j known.1 known.0 known.2 known.3 is, known.4))
    (λ x j is n z.
    let code = power_in m L j in
    let known : (r : Result ℕ Refusal) × (v : ℕ) × OfRow m row x r × (r ≡ Ok v) × (v ≡ m.codes.zero → ⊥) = search rules in
    known.4 (omega (arith, value_is m L row x j known.1 known.0 known.2 known.3 is, z)))
