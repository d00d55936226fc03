-- What the proof of `iteration::iterate_once` leaves to be shown.
use Rattle.std.proofs.Common.{◌∙◌}
use Rattle.arithmetic.proofs.Steps
use Rattle.arithmetic.proofs.iteration.iterate_once.Goals as goal

pub returns-then-replaces-clause-once : goal.returns-then-replaces-clause-once
returns-then-replaces-clause-once g c = λ s held ei ej within within-multiplier.
    let p = c.requires.degrees in
    let h = Steps.replaced (g.A.Arithmetic.meaning c.args.arithmetic.now) (g.met.A.Arithmetic.lawful c.args.arithmetic.now) s
    c.args.big.now c.args.big_multiplier.now c.args.small.now c.args.small_multiplier.now held c.args.progress.big c.args.progress.small
    ei ej c.requires.lengths.0 p.0 p.3 p.1 p.2
    c.subtract.new.big c.subtract-2.new.big c.subtract.auto.big c.requires.lengths.1 c.subtract-2.auto.big c.requires.codes.0 c.requires.codes.1
    c.quotient-c.result c.quotient-c.ensures.code c.quotient-c.ensures.value p.4 c.subtract.ensures c.subtract-2.ensures within within-multiplier
    c.terms-new.result c.terms-new.ensures c.if-replaces.ensures in
    let a = c.advanced-next.ensures.replaced c.if-replaces.ensures in
    (h.0, a.0 ∙ h.1, a.1 ∙ h.2)

pub returns-clause-once : goal.returns-clause-once
returns-clause-once g c = λ s held ei ej within within-multiplier.
    let p = c.requires.degrees in
    let x = c.exchange in
    let y = c.exchange-2 in
    let h = Steps.swapped (g.A.Arithmetic.meaning c.args.arithmetic.now) (g.met.A.Arithmetic.lawful c.args.arithmetic.now) s
    c.args.big.now c.args.big_multiplier.now c.args.small.now c.args.small_multiplier.now held c.args.progress.big c.args.progress.small
    ei ej c.requires.lengths.0 p.0 p.3 p.1 p.2
    c.subtract.new.big c.subtract-2.new.big c.subtract.auto.big c.requires.lengths.1 c.subtract-2.auto.big c.requires.codes.0 c.requires.codes.1
    c.quotient-c.result c.quotient-c.ensures.code c.quotient-c.ensures.value p.4 c.subtract.ensures c.subtract-2.ensures within within-multiplier
    c.terms-new.result c.terms-new.ensures c.if-replaces.ensures x.new.big y.new.big x.new.small y.new.small
    (record { first_length = x.auto.big; second_length = x.auto.small; places = x.ensures.places; rest = x.ensures.rest })
    (record { first_length = y.auto.big; second_length = y.auto.small; places = y.ensures.places; rest = y.ensures.rest }) in
    let a = c.advanced-next.ensures.exchanged c.if-replaces.ensures in
    (h.0, a.0 ∙ h.1, a.1 ∙ h.2)
