-- What is answered to a query.
use Rattle.std.specs.Prelude.{◌≡◌, ℕ, ◌⊎◌, Option, Some, None, Result, Ok, Err}
use Rattle.arithmetic.specs.Answers.{NoInverse}
use Rattle.arithmetic.specs.Meaning.{field_of}
use Rattle.arithmetic.specs.Opening.{Opens, NotOpened}
use Rattle.field.specs.declared.query.Query.{Query}
use Rattle.field.specs.declared.query.Query.TheVariants.{Field, Element}
use Rattle.field.specs.declared.answer.Answer.{Answer}
use Rattle.field.specs.declared.answer.Answer.TheVariants.{Opened, Described}
use Rattle.field.specs.declared.answer.Unanswered.{Unanswered}
use Rattle.field.specs.declared.answer.Unanswered.TheVariants.{Refused, Wrong, NoQuery}
use Rattle.field.specs.Elements.{Describes}
use Rattle.field.specs.Surveys.{Surveyed}

-- to the field of F: the survey of it, or why it does not open; no code is wrong
abbrev pub OfField : ℕ → Result Answer Unanswered → Type 0
OfField F (Ok (Opened s)) = (m : ℕ) × Opens F m × Surveyed F m s
OfField F (Ok (Described e)) = ⊥
OfField F (Err (Refused e)) = NotOpened F e
OfField F (Err (Wrong w)) = ⊥
OfField F (Err NoQuery) = ⊥

-- to the element a of the field of F: what is said of it, or why the field does not open, or why a has no inverse
abbrev pub OfElement : ℕ → ℕ → Result Answer Unanswered → Type 0
OfElement F a (Ok (Opened s)) = ⊥
OfElement F a (Ok (Described e)) = (m : ℕ) × Opens F m × Describes F m a e
OfElement F a (Err (Refused e)) = NotOpened F e ⊎ ((m : ℕ) × Opens F m × NoInverse (field_of F m) a e)
OfElement F a (Err (Wrong w)) = ⊥
OfElement F a (Err NoQuery) = ⊥

-- what is answered to a query
abbrev pub Answers : Option Query → Result Answer Unanswered → Type 0
Answers (Some (Field F)) r = OfField F r
Answers (Some (Element F a)) r = OfElement F a r
Answers None r = r ≡ Err NoQuery
