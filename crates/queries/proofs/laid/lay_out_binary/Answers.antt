-- What the proof of `laid::lay_out_binary` leaves to be shown.
use Rattle.std.proofs.Common.{subst}
use Rattle.std.proofs.lemmas.Result.{err_from_is_err_and}
use Rattle.arithmetic.specs.Meaning.{field_of}
use Rattle.label.specs.Schemes.{NoScheme}
use Rattle.arithmetic.proofs.Openings.{opens}
use Rattle.queries.proofs.laid.lay_out_binary.Goals as goal

pub returns-in_err-lay_out : goal.returns-in_err-lay_out
returns-in_err-lay_out c =
    let p = err_from_is_err_and c.from_residual-in_err-lay_out.result c.from_residual-in_err-lay_out.ensures.1 in
    let field = c.in_ok-open.field-0 in
    let scheme = c.in_err-lay_out.ensures.laid.1 in
    rw (p.1, p.2) (
      field.degree,
      opens field c.args.f c.in_ok-open.ensures,
      subst (λ F. NoScheme (field_of F field.degree) c.args.n c.args.k c.in_err-lay_out.field-0.0.refusal) c.in_ok-open.ensures scheme,
    )
