-- What is printed for an answer.
use Rattle.std.specs.Prelude.{List, ℕ, Option, Result, Ok, Err}

-- what is printed for a result: what its value prints, or else what its error prints
abbrev pub answered_text : {T E : Type 0} → (T → Option (List ℕ)) → (E → Option (List ℕ)) → Result T E → Option (List ℕ)
answered_text of_answer of_unanswered (Ok t) = of_answer t
answered_text of_answer of_unanswered (Err e) = of_unanswered e
