-- The one way to cut a list at the first separator.
use Rattle.std.proofs.Common.{◌≡◌, ℕ, suc, ◌<◌, List, [], ◌∷◌, ◌++◌, length, sym, refl, ◌∙◌, arith, length-append, rules}
use Rattle.std.proofs.lemmas.List.{get_or_at}
use Rattle.text.specs.Numerals.{Digits}
use Rattle.text.specs.Parts.{Without, Parts}

-- a list that has b somewhere is not without it
pub occurs : (b : ℕ) (x y : List ℕ) → Without b (x ++ b ∷ y) → ⊥
occurs b x y w = w (length x) (search (rules, length-append)) (get_or_at x b y 0 (length x) refl)

-- the first b cuts a list in one way
pub one_way : (b : ℕ) (x y z w : List ℕ) → x ++ b ∷ y ≡ z ++ b ∷ w → Without b x → Without b z → (x ≡ z) × (y ≡ w)
one_way b [] y [] w e wx wz = (refl, cc)
one_way b [] y (c ∷ z) w e wx wz = let first : c ≡ b = cc in absurd (wz 0 (search rules) first)
one_way b (c ∷ x) y [] w e wx wz = let first : c ≡ b = cc in absurd (wx 0 (search rules) first)
one_way b (c ∷ x) y (d ∷ z) w e wx wz =
    let heads : c ≡ d = cc in
    let tails : x ++ b ∷ y ≡ z ++ b ∷ w = cc in
    let rest = one_way b x y z w tails (λ k h f. wx (suc k) (search rules) f) (λ k h f. wz (suc k) (search rules) f) in
    let same = rest.0 in
    (cc, rest.1)

pub same_parts : (b : ℕ) (bs x y z w : List ℕ) → Parts b bs x y → Parts b bs z w → (x ≡ z) × (y ≡ w)
same_parts b bs x y z w p q = one_way b x y z w (sym p.whole ∙ q.whole) p.first q.first

-- digits have no byte below theirs
pub digits_without : (b : ℕ) (bs : List ℕ) → b < 48 → Digits bs → Without b bs
digits_without b bs l d k h e = omega (arith, (d k h).0)
