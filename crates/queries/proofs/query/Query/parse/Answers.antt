-- What the proof of `query::Query::parse` leaves to be shown.
use Rattle.std.proofs.Common.{◌≡◌, ◌++◌, codes, subst, rules}
use Rattle.text.specs.Numerals.{Three, Two}
use Rattle.queries.proofs.query.Query.parse.Goals as goal

pub returns-in_err-f : goal.returns-in_err-f
returns-in_err-f c =
    let e : c.args.line.now ≡ codes "binary " ++ c.in-Some.rest.now = search rules in
    rw c.from_residual.ensures (
      λ F n k h. let same : h.0 ≡ c.in-Some.rest.now = cc in c.in_err-f.ensures F n k (subst (λ z. Three z F n k) same h.2),
      λ n k h. search (rules, e, h.1),
      λ d h. search (rules, e, h.1),
    )

pub returns-in_err-n : goal.returns-in_err-n
returns-in_err-n c =
    let e : c.args.line.now ≡ codes "residue " ++ c.in-Some-strip_prefix.rest.now = search rules in
    rw c.from_residual-in_err-n.ensures (
      λ F n k h. search (rules, e, h.1),
      λ n k h. let same : h.0 ≡ c.in-Some-strip_prefix.rest.now = cc in c.in_err-n.ensures n k (subst (λ z. Two z n k) same h.2),
      λ d h. search (rules, e, h.1),
    )
