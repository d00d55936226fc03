-- What the proof of `scheme::Scheme::write_label` leaves to be shown.
use Rattle.std.proofs.Common.{◌≡◌, ℕ, ◌-◌, ◌<◌, ◌++◌, length, get_or, sym, ap, ◌∙◌, subst, ap₂, arith, rules}
use Rattle.std.proofs.lemmas.List.{get_or-append_right, places}
use Rattle.algebra.specs.Generators.{register}
use Rattle.label.specs.Labels.{digit}
use Rattle.label.proofs.Digits.{digit_lt, digits-door}
use Rattle.label.proofs.Doors.{label_of}
use Rattle.label.proofs.Printed.{printed}
use Rattle.label.proofs.scheme.Scheme.write_label.Goals as goal

pub returns : goal.returns
returns g c =
    let s = c.args.self.now in
    let m = g.A.Arithmetic.meaning s.arithmetic in
    let L = g.met.A.Arithmetic.lawful s.arithmetic in
    let n = s.n in
    let k = s.k in
    let ds = c.write_digits.new.row in
    let cs = c.write_checks.new.checks in
    let long-ds : length ds ≡ k = omega arith in
    let digits : (p : ℕ) → p < k → get_or ds p 0 ≡ digit m.size k c.args.door p = λ p h. search rules in
    let first : (p : ℕ) → p < k → get_or (ds ++ cs) p 0 ≡ get_or ds p 0 = λ p h. search (rules, places) in
    let rest : (t : ℕ) → t < n - k → get_or (ds ++ cs) (n - 1 - t) 0 ≡ m.codes.neg (register m.codes m.step (n - k) (λ p. get_or ds p 0) k t)
    = λ t h.
    let e : n - 1 - t - k ≡ length c.split_at_mut-digits.result.1.now - 1 - t = omega arith in
    get_or-append_right ds cs k (n - 1 - t) 0 long-ds (omega arith) ∙ ap (λ (i : ℕ). get_or cs i 0) e ∙ c.write_checks.ensures t (omega arith)
    ∙ ap₂ (λ (x y : ℕ). m.codes.neg (register m.codes m.step x (λ p. get_or ds p 0) y t)) (omega arith) long-ds in
    label_of m L n k s.is_scheme.different c.args.door (ds ++ cs)
    (printed m L.closed L.ring L.step_in n k (omega arith) (omega arith) (λ p. get_or ds p 0)
    (λ p h. subst (λ (x : ℕ). x < m.size) (sym (digits p h)) (digit_lt m.size k c.args.door p (omega (arith, L.least)))) (ds ++ cs) (search (rules, places)) first rest)
    (digits-door m.size k c.args.door (ds ++ cs) (omega (arith, s.is_scheme.number_of_doors)) (λ p h. first p h ∙ digits p h))
