-- One iteration on rows does to the polynomials in them what the definition says.
use Rattle.std.proofs.Common.{◌≡◌, ℕ, zero, suc, pred, ◌+◌, ◌-◌, ◌<◌, ◌≤◌, Bool, cond, ltb, List, [], ◌∷◌, length, get_or, sym, refl, ap, ◌∙◌, subst, ap₂, sub-one, arith, le-ltb, lt-ltb, le-leb}
use Prim.Native.Nat.{Fin}
use native.Mathlib.Decide.{dec_lt}
use borrow.Author.Tests.{lt-leb}
use Rattle.algebra.specs.Operations.{Operations}
use Rattle.algebra.specs.Codes.{coded}
use Rattle.algebra.specs.Polynomials.{less, delay, terms, Within}
use Rattle.algebra.specs.Iteration.{Pairs, gap, iteration, quotient}
use Rattle.algebra.proofs.Solver.{reify}
use Rattle.algebra.proofs.Solver
use Rattle.algebra.proofs.Convolutions
use Rattle.algebra.proofs.Terms.{terms_beyond, tested}
use Rattle.arithmetic.specs.Meaning.{Meaning, Lawful, Codes}
use Rattle.arithmetic.specs.Rows.{Holds, Held, less_at, polynomial_of}

-- the row after is the row before, less c times the first n places of the small one, shifted by d
abbrev pub Less : Operations ℕ → List ℕ → List ℕ → ℕ → ℕ → ℕ → List ℕ → Type 0
Less o before small n c d after = (t : ℕ) → get_or after t 0 ≡ less_at o before small n c d t

-- only the coefficients below z^n count for the terms below it
pub terms_ext : (o : Operations ℕ) (n : ℕ) (p q : ℕ → ℕ) → ((t : ℕ) → t < n → p t ≡ q t) → terms o n p ≡ terms o n q
terms_ext o zero p q h = refl
terms_ext o (suc n) p q h =
    ap₂ (λ (b : Bool) (x : ℕ). cond b x (suc n)) (ap o.zero? (h n (omega arith))) (terms_ext o n p q (λ t l. h t (omega arith)))

-- the rows x and y were exchanged over the length of y
pub record Exchanged (x y x' y' : List ℕ) : Type 0 where
  pub first_length : length x' ≡ length x
  pub second_length : length y' ≡ length y
  pub places : (t : ℕ) → t < length y → (get_or x' t 0 ≡ get_or y t 0) × (get_or y' t 0 ≡ get_or x t 0)
  pub rest : (t : ℕ) → length y ≤ t → get_or x' t 0 ≡ get_or x t 0

exchanged : (o : Operations ℕ) (x y x' y' : List ℕ) (p q : ℕ → ℕ) → Holds o x p → Holds o y q → Within o (length y) p → length y ≤ length x
    → Exchanged x y x' y' → Holds o x' q × Holds o y' p
exchanged o x y x' y' p q hx hy within short e = (
  record { inside = λ t l. at t (omega (arith, e.first_length)) (dec_lt t (length y)); beyond = λ t l. hy.beyond t (omega (arith, e.first_length)) },
  record {
    inside = λ t l. let k : t < length y = omega (arith, e.second_length) in (e.places t k).1 ∙ hx.inside t (omega arith);
    beyond = λ t l. within t (omega (arith, e.second_length));
  },
)
  where
    at : (t : ℕ) → t < length x → Dec (t < length y) → get_or x' t 0 ≡ q t
    at t l (yes a) = (e.places t a).0 ∙ hy.inside t a
    at t l (no a) =
        let g : length y ≤ t = omega arith in
        e.rest t g ∙ hx.inside t l ∙ within t g ∙ sym (hy.beyond t g)

module _ (m : Meaning) (L : Lawful m) where
  abbrev o : Operations ℕ
  o = m.codes

  abbrev on_codes : Operations (Fin m.size)
  on_codes = coded m.size o L.closed

  -- a multiple of zero taken away changes nothing
  less_zero : (x c : ℕ) → x < m.size → c < m.size → o.sum x (o.neg (o.prod c o.zero)) ≡ x
  less_zero x c hx hc = ap (λ (a : Fin m.size). a.0) (go (x, hx) (c, hc))
    where
      go : (x c : Fin m.size) → on_codes.sum x (on_codes.neg (on_codes.prod c on_codes.zero)) ≡ x
      go x c = Solver.ring on_codes L.ring (x ∷ c ∷ []) (search reify depth 30) tt

  -- what a row holds after a multiple of another was taken away: at a place that the multiple does not reach, and at one that it does
  module _ (before small after : List ℕ) (n c d : ℕ) (p q : ℕ → ℕ) (codes : Codes m before) (code : c < m.size)
      (hp : Holds o before p) (hq : Holds o small q) (taken : Less o before small n c d after) where
    untouched : (t : ℕ) → t < length before → get_or after t 0 ≡ get_or before t 0 → delay o d q t ≡ o.zero → get_or after t 0 ≡ less o p c d q t
    untouched t l same none =
        same ∙ sym (less_zero (get_or before t 0) c (codes t l) code)
        ∙ ap₂ (λ (x y : ℕ). o.sum x (o.neg (o.prod c y))) (hp.inside t l) (sym none)

    abbrev whole : ℕ → ℕ
    whole t = o.sum (get_or before t 0) (o.neg (o.prod c (get_or small (t - d) 0)))

    abbrev by_tests : Bool → Bool → ℕ → ℕ
    by_tests x y t = cond x (cond y (whole t) (get_or before t 0)) (get_or before t 0)

    low : (t : ℕ) → t < d → get_or after t 0 ≡ get_or before t 0
    low t h = taken t ∙ ap (λ x. by_tests x (ltb t (d + n)) t) (lt-leb d t h)

    high : (t : ℕ) → d + n ≤ t → get_or after t 0 ≡ get_or before t 0
    high t h = taken t ∙ ap₂ (λ x y. by_tests x y t) (le-leb d t (omega arith)) (le-ltb t (d + n) h)

    touched : (t : ℕ) → t < length before → d ≤ t → t < d + n → n ≤ length small → get_or after t 0 ≡ less o p c d q t
    touched t l above below fits =
        taken t ∙ ap₂ (λ x y. by_tests x y t) (le-leb d t above) (lt-ltb t (d + n) below)
        ∙ ap₂ (λ (x y : ℕ). o.sum x (o.neg (o.prod c y))) (hp.inside t l)
        (hq.inside (t - d) (omega arith) ∙ sym (Convolutions.delay_past o d t q above))

    pub new_holds : length after ≡ length before → n ≤ length small → ((t : ℕ) → d + n ≤ t → t < length before → q (t - d) ≡ o.zero)
        → Within o (length before) (less o p c d q) → Holds o after (less o p c d q)
    new_holds len fits past within = record { inside = λ t l. at t (omega arith) (dec_lt t d) (dec_lt t (d + n)); beyond = λ t l. within t (omega arith) }
      where
        at : (t : ℕ) → t < length before → Dec (t < d) → Dec (t < d + n) → get_or after t 0 ≡ less o p c d q t
        at t l (yes a) b = untouched t l (low t a) (Convolutions.delay_before o d t q a)
        at t l (no a) (yes b) = touched t l (omega arith) b fits
        at t l (no a) (no b) =
            untouched t l (high t (omega arith)) (Convolutions.delay_past o d t q (omega arith) ∙ past t (omega arith) l)

  -- the pairs s in four rows, with the terms of their remainders
  module _ (s : Pairs ℕ) (b bm sm smm : List ℕ) (held : Held o s b bm sm smm) (i j : ℕ)
      (ei : i ≡ terms o (suc (length sm)) s.big) (ej : j ≡ terms o (suc (length sm)) s.small)
      (lb : length b ≡ length sm + 1) (pos : 0 < j) (jn : j ≤ length sm) (ji : j ≤ i) (ib : i ≤ length b) where
    abbrev n : ℕ
    n = length sm

    abbrev new : ℕ → ℕ
    new = less o s.big (quotient o n s) (gap o n s) s.small

    abbrev new_multiplier : ℕ → ℕ
    new_multiplier = less o s.big_multiplier (quotient o n s) (gap o n s) s.small_multiplier

    pub quotient_is : o.prod (get_or b (i - 1) 0) (o.inv (get_or sm (j - 1) 0)) ≡ quotient o n s
    quotient_is =
        ap₂ (λ (x y : ℕ). o.prod x (o.inv y))
        (held.big.inside (i - 1) (omega arith) ∙ ap s.big (sub-one i ∙ ap pred ei))
        (held.small.inside (j - 1) (omega arith) ∙ ap s.small (sub-one j ∙ ap pred ej))

    pub gap_is : i - j ≡ gap o n s
    gap_is = ap₂ (λ (x y : ℕ). x - y) ei ej

    -- the small remainder has no term from z^j on
    small_past : (t : ℕ) → j ≤ t → s.small t ≡ o.zero
    small_past t h = at (dec_lt t (suc n))
      where
        at : Dec (t < suc n) → s.small t ≡ o.zero
        at (yes a) = terms_beyond o (tested o L.tests) (suc n) s.small t (omega arith) a
        at (no a) = held.small.beyond t (omega arith)

    module _ (b1 bm1 : List ℕ) (lb1 : length b1 ≡ length b) (lm : length bm ≡ length smm) (lm1 : length bm1 ≡ length bm)
        (cb : Codes m b) (cbm : Codes m bm) (c : ℕ) (code : c < m.size) (is : c ≡ o.prod (get_or b (i - 1) 0) (o.inv (get_or sm (j - 1) 0)))
        (dm : i - j < length smm) (took : Less o b sm j c (i - j) b1) (took-multiplier : Less o bm smm (length smm - (i - j)) c (i - j) bm1)
        (within : Within o n new) (within-multiplier : Within o (length smm) new_multiplier) where
      ec : c ≡ quotient o n s
      ec = is ∙ quotient_is

      pub new_in : Holds o b1 new
      new_in =
          new_holds b sm b1 j (quotient o n s) (gap o n s) s.big s.small cb (subst (λ (x : ℕ). x < m.size) ec code) held.big held.small
          (subst (λ (x : ℕ). Less o b sm j (quotient o n s) x b1) gap_is (subst (λ (x : ℕ). Less o b sm j x (i - j) b1) ec took)) lb1 jn
          (λ t l h. small_past (t - gap o n s) (omega (arith, gap_is))) (λ t l. within t (omega arith))

      pub new_multiplier_in : Holds o bm1 new_multiplier
      new_multiplier_in =
          new_holds bm smm bm1 (length smm - (i - j)) (quotient o n s) (gap o n s) s.big_multiplier s.small_multiplier cbm
          (subst (λ (x : ℕ). x < m.size) ec code) held.big_multiplier held.small_multiplier
          (subst (λ (x : ℕ). Less o bm smm (length smm - (i - j)) (quotient o n s) x bm1) gap_is (subst (λ (x : ℕ). Less o bm smm (length smm - (i - j)) x (i - j) bm1) ec took-multiplier))
          lm1 (omega arith) (λ t l h. absurd (omega (arith, gap_is))) (λ t l. within-multiplier t (omega arith))

      pub new_terms : terms o (length b1) (polynomial_of b1) ≡ terms o (suc n) new
      new_terms =
          let e : length b1 ≡ suc n = omega arith in
          ap (λ (x : ℕ). terms o x (polynomial_of b1)) e ∙ terms_ext o (suc n) (polynomial_of b1) new (λ t l. new_in.inside t (omega arith))

      -- the new pair takes the place of the big one
      pub replaced : (k : ℕ) → k ≡ terms o (length b1) (polynomial_of b1) → j ≤ k
          → Held o (iteration o n s) b1 bm1 sm smm × (k ≡ terms o (suc n) (iteration o n s).big) × (j ≡ terms o (suc n) (iteration o n s).small)
      unfolding iteration
      replaced k ek jk = rw (le-leb (terms o (suc n) s.small) (terms o (suc n) new) (omega (arith, new_terms))) (
        record { big = new_in; big_multiplier = new_multiplier_in; small = held.small; small_multiplier = held.small_multiplier },
        ek ∙ new_terms,
        ej,
      )

      -- the small pair becomes the big one, and the new pair the small one
      pub swapped : (k : ℕ) → k ≡ terms o (length b1) (polynomial_of b1) → k < j → (b2 bm2 sm2 smm2 : List ℕ)
          → Exchanged b1 sm b2 sm2 → Exchanged bm1 smm bm2 smm2
          → Held o (iteration o n s) b2 bm2 sm2 smm2 × (j ≡ terms o (suc n) (iteration o n s).big) × (k ≡ terms o (suc n) (iteration o n s).small)
      unfolding iteration
      swapped k ek kj b2 bm2 sm2 smm2 x y =
          let h = exchanged o b1 sm b2 sm2 new s.small new_in held.small within (omega arith) x in
          let hm = exchanged o bm1 smm bm2 smm2 new_multiplier s.small_multiplier new_multiplier_in held.small_multiplier within-multiplier (omega arith) y in
          rw (lt-leb (terms o (suc n) s.small) (terms o (suc n) new) (omega (arith, new_terms))) (
            record { big = h.0; big_multiplier = hm.0; small = h.1; small_multiplier = hm.1 },
            ej,
            ek ∙ new_terms,
          )
