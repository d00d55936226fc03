-- What the proof of `iteration::run` leaves to be shown.
use Rattle.std.proofs.Common.{◌≡◌, ℕ, ◌+◌, length, sym, subst, arith}
use Rattle.algebra.proofs.Terms.{terms_le, tested}
use Rattle.arithmetic.specs.Rows.{polynomial_of}
use Rattle.arithmetic.proofs.Runs
use Rattle.arithmetic.proofs.iteration.run.Goals as goal

pub loop-big-init : goal.loop-big-init
loop-big-init g c =
    let m = g.A.Arithmetic.meaning c.args.arithmetic.now in
    let L = g.met.A.Arithmetic.lawful c.args.arithmetic.now in
    let b = c.args.big.now in
    let bm = c.args.big_multiplier.now in
    let sm = c.args.small.now in
    let smm = c.args.small_multiplier.now in
    let r = polynomial_of sm in
    let e : length sm + 1 ≡ length b = omega arith in (
      subst (λ (i : ℕ). Runs.At m.codes (length sm) r c.args.stop 0 i c.terms.result b bm sm smm) e
          (subst (λ (j : ℕ). Runs.At m.codes (length sm) r c.args.stop 0 (length sm + 1) j b bm sm smm) (sym c.terms.ensures) (Runs.starts m L c.requires.codes c.requires.begun)),
      omega (arith, c.terms.ensures, terms_le m.codes (tested m.codes L.tests) (length sm) r),
    )

pub iterate_once-progress-requires-clause-degrees : goal.iterate_once-progress-requires-clause-degrees
iterate_once-progress-requires-clause-degrees g c =
    let m = g.A.Arithmetic.meaning c.args.arithmetic.now in
    let L = g.met.A.Arithmetic.lawful c.args.arithmetic.now in
    let h = c.loop-big.invariant.0 in
    let more = c.loop-big-test.ensures in
    let low = Runs.small_low m L c.requires.codes h in
    let high = Runs.big_low m L c.requires.codes h in
    (omega arith, Runs.ordered m L c.requires.codes h, omega arith, omega arith, omega arith, omega (arith, c.loop-big.invariant.1, c.requires.short))

pub iterate_once-progress-requires-clause-codes : goal.iterate_once-progress-requires-clause-codes
iterate_once-progress-requires-clause-codes g c =
    Runs.all_codes (g.A.Arithmetic.meaning c.args.arithmetic.now) (g.met.A.Arithmetic.lawful c.args.arithmetic.now) c.requires.codes c.loop-big.invariant.0

pub iterate_once-progress-requires-clause-leads : goal.iterate_once-progress-requires-clause-leads
iterate_once-progress-requires-clause-leads g c =
    Runs.leads (g.A.Arithmetic.meaning c.args.arithmetic.now) (g.met.A.Arithmetic.lawful c.args.arithmetic.now) c.requires.codes c.loop-big.invariant.0
    (omega (arith, c.loop-big-test.ensures)) (omega arith)

pub loop-big-smaller : goal.loop-big-smaller
loop-big-smaller g c =
    (Runs.next (g.A.Arithmetic.meaning c.args.arithmetic.now) (g.met.A.Arithmetic.lawful c.args.arithmetic.now) c.requires.codes c.loop-big.invariant.0
    (omega (arith, c.loop-big-test.ensures)) c.iterate_once-progress.ensures.once (omega arith) (omega arith)).1

pub loop-big-preserved : goal.loop-big-preserved
loop-big-preserved g c =
    let m = g.A.Arithmetic.meaning c.args.arithmetic.now in
    let sm = c.args.small.now in
    let o = c.iterate_once-progress in
    let next = Runs.next m (g.met.A.Arithmetic.lawful c.args.arithmetic.now) c.requires.codes c.loop-big.invariant.0
    (omega (arith, c.loop-big-test.ensures)) o.ensures.once (omega arith) (omega arith) in
    (subst (λ (k : ℕ). Runs.At m.codes (length sm) (polynomial_of sm) c.args.stop k o.result.big o.result.small o.new.big o.new.big_multiplier o.new.small o.new.small_multiplier) (sym o.ensures.count) next.0, omega (arith, next.1, c.loop-big.invariant.1, o.ensures.count))

pub returns : goal.returns
returns g c =
    Runs.iterated (g.A.Arithmetic.meaning c.args.arithmetic.now) (g.met.A.Arithmetic.lawful c.args.arithmetic.now) c.requires.codes c.loop-big.invariant.0
    (omega arith) (omega (arith, c.loop-big-test.ensures))
