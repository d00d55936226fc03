-- What is answered to a line.
use Rattle.std.specs.Prelude.{◌≡◌, ℕ, ◌<◌, ◌≤◌, None, Some, Option, Ok, Err, Result, MatchOption, MatchResult}
use Rattle.arithmetic.specs.Meaning.{Meaning, field_of, residues}
use Rattle.arithmetic.specs.Opening.{Opens, NotOpened}
use Rattle.label.specs.Refusals.{Refused as RefusedBy}
use Rattle.label.specs.Schemes.{NoScheme}
use Rattle.queries.specs.declared.query.Query.{Query}
use Rattle.queries.specs.declared.query.Query.TheVariants.{Binary, Residue, Door}
use Rattle.queries.specs.declared.laid.Laid.{Laid}
use Rattle.queries.specs.declared.laid.Laid.TheVariants.{OverField, OverResidues}
use Rattle.queries.specs.declared.printed.Label.{Label}
use Rattle.queries.specs.declared.printed.Label.TheVariants.{Text, Codes}
use Rattle.queries.specs.declared.unanswered.Unanswered.{Unanswered}
use Rattle.queries.specs.declared.unanswered.Unanswered.TheVariants.{NoField, Refused, NoQuery}
use Rattle.queries.specs.Labels.{CodesOf, TextOf}

-- to a scheme over the field of F that is not laid out: why the field does not open, or why there is no such scheme
abbrev pub NoBinary : ℕ → ℕ → ℕ → Unanswered → Type 0
NoBinary F n k (NoField e) = NotOpened F e
NoBinary F n k (Refused e) = (m : ℕ) × Opens F m × NoScheme (field_of F m) n k e
NoBinary F n k NoQuery = ⊥

-- to a scheme over the residues modulo 37 that is not laid out: why there is no such scheme
abbrev pub NoResidue : ℕ → ℕ → Unanswered → Type 0
NoResidue n k (NoField e) = ⊥
NoResidue n k (Refused e) = NoScheme (residues 37 2) n k e
NoResidue n k NoQuery = ⊥

-- to the door d of a scheme: its label as text, or, where there are more than 64 elements, as codes; 8 where there is no such door
abbrev pub OfDoor : Meaning → ℕ → ℕ → ℕ → ℕ → Result Label Unanswered → Type 0
OfDoor m n k doors d (Ok (Text t)) = (d < doors) × (m.size ≤ 64) × TextOf m n k d t
OfDoor m n k doors d (Ok (Codes t)) = (d < doors) × (64 < m.size) × CodesOf m n k d t
OfDoor m n k doors d (Err (NoField e)) = ⊥
OfDoor m n k doors d (Err (Refused e)) = (doors ≤ d) × RefusedBy e 8
OfDoor m n k doors d (Err NoQuery) = ⊥

-- to a query that needs a scheme, where this one holds: `Of` says which answer, from the scheme's meaning, n, k and number of
-- doors; where none holds, this answer
abbrev pub OfCurrent : {R : Type 0} → R → Option Laid → (Meaning → ℕ → ℕ → ℕ → R → Type 0) → R → Type 0
OfCurrent none None Of r = r ≡ none
OfCurrent none (Some (OverField s)) Of r = Of (field_of s.arithmetic.polynomial s.arithmetic.degree) s.n s.k s.doors r
OfCurrent none (Some (OverResidues s)) Of r = Of (residues 37 2) s.n s.k s.doors r

-- what holds is over the field of F, with labels of n characters, k of them for the door
abbrev pub HoldsBinary : ℕ → ℕ → ℕ → Option Laid → Type 0
HoldsBinary F n k None = ⊥
HoldsBinary F n k (Some (OverField s)) = (s.arithmetic.polynomial ≡ F) × (s.n ≡ n) × (s.k ≡ k)
HoldsBinary F n k (Some (OverResidues s)) = ⊥

-- what holds is over the residues, with labels of n characters, k of them for the door
abbrev pub HoldsResidue : ℕ → ℕ → Option Laid → Type 0
HoldsResidue n k None = ⊥
HoldsResidue n k (Some (OverField s)) = ⊥
HoldsResidue n k (Some (OverResidues s)) = (s.n ≡ n) × (s.k ≡ k)

-- to the door d, where this scheme holds
abbrev pub OfCurrentDoor : Option Laid → ℕ → Result Label Unanswered → Type 0
OfCurrentDoor s d r = OfCurrent (Err NoQuery) s (λ m n k doors. OfDoor m n k doors d) r

-- what is answered to a query, if there is one, where s holds, and what holds then, t: nothing is answered to a scheme that is
-- laid out
abbrev pub Answers : Option Laid → Option Query → Result (Option Label) Unanswered → Option Laid → Type 0
Answers s None r t = (t ≡ s) × (r ≡ Err NoQuery)
Answers s (Some (Binary F n k)) r t = MatchResult r (λ a. (a ≡ None) × HoldsBinary F n k t) (λ e. (t ≡ None) × NoBinary F n k e)
Answers s (Some (Residue n k)) r t = MatchResult r (λ a. (a ≡ None) × HoldsResidue n k t) (λ e. (t ≡ None) × NoResidue n k e)
Answers s (Some (Door d)) r t =
    (t ≡ s) × MatchResult r (λ a. MatchOption a ⊥ (λ l. OfCurrentDoor s d (Ok l))) (λ e. OfCurrentDoor s d (Err e))
