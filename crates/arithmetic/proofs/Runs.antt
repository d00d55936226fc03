-- The iteration on rows from its beginning to its end.
use Rattle.std.proofs.Common.{◌≡◌, ℕ, suc, pred, ◌+◌, ◌-◌, ◌<◌, ◌≤◌, Bool, true, false, cond, leb, List, length, get_or, sym, refl, ap, ◌∙◌, subst, not-suc-le-zero, add-one, arith, below_more, le-ltb, lt-ltb, eq-eqb, ne_eqb}
use native.Mathlib.Fin
use Rattle.algebra.specs.Operations.{Operations, Tested}
use Rattle.algebra.specs.Polynomials.{less, terms, Within}
use Rattle.algebra.specs.Iteration.{Pairs, begun, after, gap, iteration, left, placed, quotient, Iterations}
use Rattle.algebra.proofs.Terms.{terms_le, terms_top, terms_within, tested}
use Rattle.algebra.proofs.IteratedCodes.{Kept, Makes}
use Rattle.algebra.proofs.IteratedCodes
use Rattle.arithmetic.specs.Meaning.{Meaning, Lawful, Codes}
use Rattle.arithmetic.specs.Rows.{Holds, Held, Iterated, Once, width}
use Rattle.arithmetic.proofs.Steps.{terms_ext}

module _ (o : Operations ℕ) (n : ℕ) (r : ℕ → ℕ) (stop : ℕ) where
  -- the iterations before the k-th were due
  abbrev pub Due : ℕ → Type 0
  Due k = (i : ℕ) → i < k → suc stop < left o n r i

  -- where the rows stand after k iterations, with the terms of the remainders
  pub record At (k i j : ℕ) (b bm sm smm : List ℕ) : Type 0 where
    pub due : Due k
    pub held : Held o (after o n r k) b bm sm smm
    pub big_terms : i ≡ terms o (suc n) (after o n r k).big
    pub small_terms : j ≡ left o n r k

module _ (m : Meaning) (L : Lawful m) where
  abbrev o : Operations ℕ
  o = m.codes

  abbrev Z : Tested o
  Z = tested o L.tests

  codes_in : (row : List ℕ) (p : ℕ → ℕ) → Holds o row p → ((t : ℕ) → p t < m.size) → Codes m row
  codes_in row p h c t l = subst (λ (x : ℕ). x < m.size) (sym (h.inside t l)) (c t)

  module _ {n : ℕ} {r : ℕ → ℕ} (rc : (t : ℕ) → t < n → r t < m.size) {stop : ℕ} where
    kept : (k : ℕ) → Due o n r stop k → Kept m.size o n stop (after o n r k)
    kept = IteratedCodes.kept m.size o L.closed L.ring L.field L.tests n r rc stop

    makes : (k : ℕ) → Due o n r stop k → suc stop < left o n r k → Makes m.size o n stop (after o n r k)
    makes = IteratedCodes.makes m.size o L.closed L.ring L.field L.tests n r rc stop

    -- the first remainders have n + 1 terms and those of r
    pub starts : {b bm sm smm : List ℕ} → Held o (begun o n r) b bm sm smm → At o n r stop 0 (n + 1) (terms o n r) b bm sm smm
    unfolding after left
    starts held = record { due = λ i h. absurd (not-suc-le-zero h); held = held; big_terms = top; small_terms = sym low }
      where
        top : n + 1 ≡ terms o (suc n) (begun o n r).big
        top =
            add-one n
            ∙ sym (ap (λ (v : Bool). cond v (terms o n (begun o n r).big) (suc n))
            (ap (λ (v : Bool). o.zero? (cond v o.one o.zero)) (eq-eqb n n refl) ∙ L.tests o.one
            ∙ ne_eqb o.one o.zero (λ e. L.ring.differ (Fin.val_path (sym e)))))

        low : terms o (suc n) (begun o n r).small ≡ terms o n r
        low =
            ap (λ (v : Bool). cond v (terms o n (begun o n r).small) (suc n))
            (ap (λ (v : Bool). o.zero? (cond v (r n) o.zero)) (le-ltb n n (omega arith)) ∙ Z.passes)
            ∙ terms_ext o n (begun o n r).small r (λ t l. ap (λ (v : Bool). cond v (r t) o.zero) (lt-ltb t n l))

    module _ {k i j : ℕ} {b bm sm smm : List ℕ} (h : At o n r stop k i j b bm sm smm) where
      small_terms_of : j ≡ terms o (suc n) (after o n r k).small
      unfolding left
      small_terms_of = h.small_terms

      pub all_codes : Codes m b × Codes m bm × Codes m sm × Codes m smm
      all_codes =
          let c = kept k h.due in
          (codes_in b (after o n r k).big h.held.big c.big_codes, codes_in bm (after o n r k).big_multiplier h.held.big_multiplier c.big_multiplier_codes, codes_in sm (after o n r k).small h.held.small c.small_codes, codes_in smm (after o n r k).small_multiplier h.held.small_multiplier c.small_multiplier_codes)

      pub ordered : j ≤ i
      ordered = omega (arith, (kept k h.due).ordered, small_terms_of, h.big_terms)

      pub big_low : i ≤ n + 1
      big_low = omega (arith, h.big_terms, terms_le o Z (suc n) (after o n r k).big)

      pub small_low : j ≤ n
      small_low = omega (arith, small_terms_of, terms_within o Z (suc n) (after o n r k).small n (kept k h.due).small_within)

      pub leads : 0 < j → length sm ≡ n → get_or sm (j - 1) 0 ≡ o.zero → ⊥
      leads p len e =
          terms_top o Z (suc n) (after o n r k).small (j - 1) (sym small_terms_of ∙ omega arith)
          (sym (h.held.small.inside (j - 1) (omega (arith, small_low))) ∙ e)

      module _ (more : suc stop < j) where
        goes_on : suc stop < left o n r k
        goes_on = subst (λ (x : ℕ). suc stop < x) h.small_terms more

        abbrev new : ℕ → ℕ
        new = less o (after o n r k).big (quotient o n (after o n r k)) (gap o n (after o n r k)) (after o n r k).small

        new_fits : Within o n new
        new_fits t l = (makes k h.due goes_on).new_within t (omega (arith, terms_le o Z (suc n) (after o n r k).big))

        new_multiplier_fits : Within o (width n stop) (less o (after o n r k).big_multiplier (quotient o n (after o n r k)) (gap o n (after o n r k)) (after o n r k).small_multiplier)
        new_multiplier_fits = (makes k h.due goes_on).new_multiplier_within

        -- the terms of both remainders together fall
        falls : (s : Pairs ℕ) (p u : ℕ → ℕ) → terms o (suc n) p < terms o (suc n) s.big
            → terms o (suc n) (placed o n s p u).big + terms o (suc n) (placed o n s p u).small < terms o (suc n) s.big + terms o (suc n) s.small
        falls s p u l = go (leb (terms o (suc n) s.small) (terms o (suc n) p))
          where
            stay : Pairs ℕ
            stay = record { big = p; big_multiplier = u; small = s.small; small_multiplier = s.small_multiplier }

            turn : Pairs ℕ
            turn = record { big = s.small; big_multiplier = s.small_multiplier; small = p; small_multiplier = u }

            go : (v : Bool) → terms o (suc n) (cond v stay turn).big + terms o (suc n) (cond v stay turn).small < terms o (suc n) s.big + terms o (suc n) s.small
            go true = omega arith
            go false = omega arith

        terms_fall : (i' j' : ℕ) → i' ≡ terms o (suc n) (iteration o n (after o n r k)).big → j' ≡ terms o (suc n) (iteration o n (after o n r k)).small → i' + j' < i + j
        unfolding iteration
        terms_fall i' j' ei ej =
            let s = after o n r k in
            let l : terms o (suc n) new < terms o (suc n) s.big
            = omega (arith, terms_within o Z (suc n) new (pred (terms o (suc n) s.big)) (makes k h.due goes_on).new_within, ordered, h.big_terms) in
            omega (arith, falls s new (less o s.big_multiplier (quotient o n s) (gap o n s) s.small_multiplier) l, small_terms_of, h.big_terms)

        -- after one more iteration the rows stand at the next place, and the terms are fewer
        pub next : {i' j' x w : ℕ} {b' bm' sm' smm' : List ℕ} → Once o x w i j b bm sm smm b' bm' sm' smm' i' j' → x ≡ n → w ≡ width n stop
            → At o n r stop (k + 1) i' j' b' bm' sm' smm' × (i' + j' < i + j)
        unfolding after left
        next {i'} {j'} {x} {w} {b'} {bm'} {sm'} {smm'} once ex ew =
            let here = subst (λ (v : ℕ). Once o n v i j b bm sm smm b' bm' sm' smm' i' j') ew (subst (λ (u : ℕ). Once o u w i j b bm sm smm b' bm' sm' smm' i' j') ex once) in
            let t = here (after o n r k) h.held h.big_terms small_terms_of new_fits new_multiplier_fits in
            let e : k + 1 ≡ suc k = omega arith in (
              subst (λ (v : ℕ). At o n r stop v i' j' b' bm' sm' smm') (sym e)
                  (record { due = subst (Due o n r stop) e (below_more _ _ h.due goes_on); held = t.0; big_terms = t.1; small_terms = t.2 }),
              terms_fall i' j' t.1 t.2,
            )

      -- where the small remainder has come down to degree `stop`
      pub iterated : length smm ≡ width n stop → j ≤ suc stop → Iterated m n stop r k b bm sm smm
      iterated len low =
          let it : Iterations o n r stop k = record { ended = subst (λ (x : ℕ). x ≤ suc stop) h.small_terms low; before = h.due } in
          let u = IteratedCodes.nonzero m.size o L.closed L.ring L.field L.tests n r rc stop k it in
          let inside : u.0 < length smm = omega (arith, u.1) in
          record {
            count = it;
            bound = IteratedCodes.bound m.size o L.closed L.ring L.field L.tests n r rc stop k it;
            held = h.held;
            codes = all_codes;
            key = IteratedCodes.key m.size o L.closed L.ring L.field L.tests n r rc stop k it;
            nonzero = (u.0, inside, (λ e. u.2 (sym (h.held.small_multiplier.inside u.0 inside) ∙ e)));
          }
