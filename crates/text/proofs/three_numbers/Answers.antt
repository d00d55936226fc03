-- What the proof of `three_numbers` leaves to be shown.
use Rattle.std.proofs.Common.{subst}
use Rattle.text.specs.Numerals.{Numeral, Two}
use Rattle.text.proofs.Sides.{one_piece, sides}
use Rattle.text.proofs.three_numbers.Goals as goal

pub returns-in_err-left : goal.returns-in_err-left
returns-in_err-left c = rw c.from_residual.ensures (λ l m n t.
    one_piece _ _ _ c.in_err-left.ensures t.whole)

pub returns-in_err-l : goal.returns-in_err-l
returns-in_err-l c = rw c.from_residual-in_err-l.ensures (λ l m n t.
    c.in_err-l.ensures (subst Numeral (sides _ _ _ _ _ c.in_ok-left.ensures t.whole t.left_one.numeral).0 t.left_one.numeral))

pub returns-in_err-m : goal.returns-in_err-m
returns-in_err-m c = rw c.from_residual-in_err-m.ensures (λ l m n t.
    c.in_err-m.ensures m n (subst (λ right. Two right m n) (sides _ _ _ _ _ c.in_ok-left.ensures t.whole t.left_one.numeral).1 t.right_two))
