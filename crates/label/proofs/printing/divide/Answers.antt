-- What the proof of `printing::divide` leaves to be shown.
use Rattle.std.proofs.Common.{◌≡◌, ℕ, ◌-◌, length, get_or, sym, ap, ◌∙◌, arith, rules}
use Rattle.algebra.specs.Generators.{generator, register}
use Rattle.label.proofs.Shifts.{register_next}
use Rattle.label.proofs.printing.divide.Goals as goal

pub loop-d-init : goal.loop-d-init
unfolding register
loop-d-init g c = record { value = λ t h. search rules; codes = λ t h. search rules }

pub loop-d-preserved : goal.loop-d-preserved
loop-d-preserved g c =
    let m = g.A.Arithmetic.meaning c.args.arithmetic.now in
    let r = length c.fill.new.self in
    let e : r ≡ length c.args.row.now = c.fill.auto.self in
    let l = c.loop-d in
    let n = c.shift_less in
    let d : ℕ → ℕ = λ p. get_or c.args.digits.now p 0 in
    let f : c.unwrap-factor.result ≡ m.codes.sum (get_or l.row (r - 1) 0) (d l.d-index) = search rules in
    record {
      value = λ t h. register_next m.codes m.step r l.d-index t (get_or n.new.row t 0) c.unwrap-factor.result (get_or c.args.generator.now t 0) d l.row h
          l.invariant.value f (c.requires.generates t (omega arith) ∙ ap (λ (k : ℕ). generator m.codes m.step k t) (sym e)) (n.ensures.value t (omega arith));
      codes = n.ensures.codes;
    }
