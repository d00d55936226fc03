-- What the proof of `scan::add` leaves to be shown.
use Rattle.std.proofs.Common.{◌<◌, ◌≤◌, ◌∷◌, [], ◌++◌, length, ap, sym, ◌∙◌, arith, length-append, length-take}
use Rattle.std.proofs.lemmas.List.{take_all, take-append-le, take_more_set}
use Rattle.readings.proofs.scan.add.Goals as goal

pub returns-then-pieces-lt65 : goal.returns-then-pieces-lt65
returns-then-pieces-lt65 c = λ numbers held.
    let few : length numbers < 65 = omega (arith, simp length-take at (ap length held)) in
    take_more_set _ _ _ (omega arith) ∙ ap (λ l. l ++ c.args.number ∷ []) (held ∙ take_all 65 numbers (omega (arith, few)))
    ∙ sym (take_all 65 (numbers ++ c.args.number ∷ []) (simp length-append (omega (arith, few))))

pub returns-else-pieces-lt65 : goal.returns-else-pieces-lt65
returns-else-pieces-lt65 c = λ numbers held.
    let many : 65 ≤ length numbers = omega (arith, simp length-take at (ap length held)) in
    held ∙ sym (take-append-le 65 numbers _ many)
