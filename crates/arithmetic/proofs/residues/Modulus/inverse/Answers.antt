-- What the proof of `residues::Modulus::inverse` leaves to be shown.
use Rattle.std.proofs.Common.{rules, tests, eq-zero-or-pos, inl, inr, ◌≡◌, ℕ, ◌*◌, ◌%◌, ◌<◌, ◌≤◌, ◌≢◌, Option, Some, None, MatchOption, refl, sym, ap, ◌∙◌, subst, arith}
use native.Mathlib.Fin
use Rattle.std.specs.Option.{IsSome}
use Rattle.std.proofs.lemmas.Iterator.{first_from_Range}
use Rattle.algebra.specs.Operations.{Operations, Ring}
use Rattle.algebra.specs.Codes.{coded, modulo}
use Rattle.arithmetic.specs.Meaning.{Lawful, residues}
use Rattle.arithmetic.proofs.residues.Modulus.inverse.Goals as goal

-- two numbers whose products with a are one are equal
unique : {K : Type 0} (o : Operations K) → Ring o → (a b c : K) → o.prod a b ≡ o.one → o.prod a c ≡ o.one → b ≡ c
unique o R a b c p q =
    sym (R.prod_one b) ∙ ap (o.prod b) (sym q) ∙ sym (R.prod_assoc b a c) ∙ ap (λ x. o.prod x c) (R.prod_comm b a ∙ p)
    ∙ R.prod_comm o.one c ∙ R.prod_one c

module _ (n g : ℕ) (L : Lawful (residues n g)) (a : ℕ) (low : a < n) where
  least : 2 ≤ n
  least = L.least

  abbrev inverse : ℕ
  inverse = (modulo n).inv a

  inverse_in : inverse < n
  inverse_in = L.closed.inv_in a low

  inverse_is : a ≢ 0 → (a * inverse) % n ≡ 1
  inverse_is z = ap (λ x. x.0) (L.field.inverse (a, low) (λ e. z (ap (λ x. x.0) e)))

  inverse-positive : a ≢ 0 → 1 ≤ inverse
  inverse-positive z = elim (eq-zero-or-pos inverse) [
    | inl e ↦ absurd (let h : (a * 0) % n ≡ 1 = rw e at (inverse_is z) in omega (arith, least))
    | inr p ↦ p
  ]

  -- where a is not zero, the first number whose product with a is 1 is the inverse, and there is one
  answers : a ≢ 0 → (r : Option ℕ) → MatchOption r ((k : ℕ) → 1 ≤ k → k < n → (a * k) % n ≢ 1) (λ b. (1 ≤ b) × (b < n) × ((a * b) % n ≡ 1) × ((k : ℕ) → 1 ≤ k → k < b → (a * k) % n ≢ 1))
      → MatchOption r ⊥ (λ b. (b < n) × (b ≡ inverse))
  answers z None h = absurd (h inverse (inverse-positive z) inverse_in (inverse_is z))
  answers z (Some b) h =
      (h.1, ap (λ x. x.0) (unique (coded n (modulo n) L.closed) L.ring (a, low) (b, h.1) (inverse, inverse_in) (Fin.val_path h.2) (Fin.val_path (inverse_is z))))

is_some : (P : ℕ → Type 0) (r : Option ℕ) → MatchOption r ⊥ P → IsSome r
is_some P None h = absurd h
is_some P (Some b) h = refl

pub unwrap-requires : goal.unwrap-requires
unwrap-requires g c =
    let n = g.Self.Modulus.SIZE in
    let m = g.Self.Modulus in
    let a = c.args.a in
    let h = first_from_Range _ _ _ c.find.result (λ b. (a * b) % n ≡ 1) (λ b. (a * b) % n ≢ 1) c.find.ensures.ran (λ x q k. search (rules, tests)) (λ x q k. search (rules, tests)) in
    is_some _ c.find.result (answers n m.STEP m.field a (search rules) c.if-a-eq0.false c.find.result (rw c.SIZE-2.ensures at h))

pub returns : goal.returns
returns g c =
    let n = g.Self.Modulus.SIZE in
    let m = g.Self.Modulus in
    let a = c.args.a in
    let low : a < n = search rules in
    let h = first_from_Range _ _ _ c.find.result (λ b. (a * b) % n ≡ 1) (λ b. (a * b) % n ≢ 1) c.find.ensures.ran (λ x q k. search (rules, tests)) (λ x q k. search (rules, tests)) in
    let known = answers n m.STEP m.field a low c.if-a-eq0.false c.find.result (rw c.SIZE-2.ensures at h) in
    let is = subst (λ o. MatchOption o ⊥ (λ b. (b < n) × (b ≡ (modulo n).inv a))) c.unwrap.ensures known in
    (low, c.if-a-eq0.false, is.0, is.1)
