-- What the proof of `iteration::subtract` leaves to be shown.
use Rattle.std.proofs.Common.{rules, ◌≡◌, ℕ, ◌+◌, ◌-◌, ◌<◌, ◌≤◌, List, get_or, arith}
use Rattle.std.proofs.lemmas.List.{places}
use Rattle.std.proofs.lemmas.Bool.Decides.{nat_tests}
use Rattle.algebra.specs.Operations.{Operations}
use Rattle.arithmetic.specs.Rows.{less_at}
use Rattle.arithmetic.proofs.iteration.subtract.Goals as goal

-- a place of the row, by where it stands
at : (o : Operations ℕ) (big small : List ℕ) (n c d t v : ℕ) → (t < d → v ≡ get_or big t 0) → (d ≤ t → t < d + n → v ≡ o.sum (get_or big t 0) (o.neg (o.prod c (get_or small (t - d) 0)))) → (d + n ≤ t → v ≡ get_or big t 0)
    → v ≡ less_at o big small n c d t
at o big small n c d t v low mid high = grind (arith, nat_tests)

pub returns : goal.returns
returns g c = λ t. at (g.A.Arithmetic.meaning c.args.arithmetic.now).codes c.args.big.now c.args.small.now c.args.n c.args.c c.args.d t _ (λ h. search (rules, places)) (λ h k. search (rules, places)) (λ h. search (rules, places))
