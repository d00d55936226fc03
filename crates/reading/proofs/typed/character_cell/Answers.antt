-- What the proof of `typed::character_cell` leaves to be shown.
use Rattle.std.proofs.Common.{sym, ◌∙◌, arith}
use Rattle.reading.proofs.Characters.{code-found, code-none}
use Rattle.reading.proofs.typed.character_cell.Goals as goal

pub returns-clause-value : goal.returns-clause-value
returns-clause-value c = c.then_some.ensures ∙ code-found c.args.q c.in_ok-code.code c.args.byte c.requires c.in_ok-code.ensures.0 c.in_ok-code.ensures.1

pub returns-in_err-code-clause-value : goal.returns-in_err-code-clause-value
returns-in_err-code-clause-value c = c.from_residual.ensures ∙ sym (code-none c.args.q c.args.byte (λ i l e. c.in_err-code.ensures i (omega arith) e))
