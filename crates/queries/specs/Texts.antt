-- What is printed for an answer.
use Rattle.std.specs.Prelude.{ℕ, List, [], ◌∷◌, ◌++◌, codes, decimal}
use Rattle.arithmetic.specs.Refusals.{number as field_number, place as field_place}
use Rattle.label.specs.Refusals.{number, place}
use Rattle.text.specs.Refusals.{refused_text}
use Rattle.text.specs.Rows.{numbers}
use Rattle.text.specs.Spacing.{spaced}
use Rattle.queries.specs.declared.printed.Label.{Label}
use Rattle.queries.specs.declared.printed.Label.TheVariants.{Text, Codes}
use Rattle.queries.specs.declared.unanswered.Unanswered.{Unanswered}
use Rattle.queries.specs.declared.unanswered.Unanswered.TheVariants.{NoField, Refused, NoQuery}
use Rattle.queries.specs.Characters.{characters}

-- numbers in decimal, with one space between
abbrev pub separated : List ℕ → List ℕ
separated [] = []
separated (n ∷ ns) = decimal n ++ spaced ns

-- for a label: its characters, or its codes
abbrev pub label_text : Label → List ℕ
label_text (Text t) = characters t
label_text (Codes t) = separated (numbers t)

-- where a query is not answered
abbrev pub unanswered_text : Unanswered → List ℕ
unanswered_text (NoField e) = refused_text (field_number e) (field_place e)
unanswered_text (Refused e) = refused_text (number e) (place e)
unanswered_text NoQuery = codes "no query"
