-- The search for a number that passes a test.
use Rattle.std.proofs.Common.{◌≡◌, ℕ, zero, suc, ◌<◌, ◌≤◌, Bool, true, false, cond, sym, refl, ap, ◌∙◌, not-suc-le-zero, arith}
use native.Mathlib.Decide.{dec_lt}
use Rattle.algebra.specs.Codes.{found}

pub found_lt : (test : ℕ → Bool) (n q : ℕ) → 0 < q → n ≤ q → found test n < q
unfolding found
found_lt test zero q p h = p
found_lt test (suc n) q p h = go (test n) (found_lt test n q p (omega arith))
  where
    go : (b : Bool) → found test n < q → cond b n (found test n) < q
    go true ih = omega arith
    go false ih = ih

-- where some number passes, the one that is found does
pub found-passes : (test : ℕ → Bool) (n b : ℕ) → b < n → test b ≡ true → test (found test n) ≡ true
unfolding found
found-passes test zero b h t = absurd (not-suc-le-zero h)
found-passes test (suc n) b h t = go (test n) refl (found-passes test n b)
  where
    go : (v : Bool) → test n ≡ v → (b < n → test b ≡ true → test (found test n) ≡ true) → test (cond v n (found test n)) ≡ true
    go true e rest = e
    go false e rest = elim (dec_lt b n) [ yes l ↦ rest l t | no l ↦ absurd (clash (ap test (omega arith) ∙ t)) ]
      where
        clash : test n ≡ true → ⊥
        clash p = let z : true ≡ false = sym p ∙ e in absurd (false_true z)
          where
            false_true : true ≡ false → ⊥
            false_true q = let w : ◌≡◌ {A = ℕ} 0 1 = ap (λ (x : Bool). cond x 0 1) q in omega arith
