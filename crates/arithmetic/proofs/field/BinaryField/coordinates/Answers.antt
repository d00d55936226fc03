-- What the proof of `field::BinaryField::coordinates` leaves to be shown.
use Rattle.std.proofs.Common.{◌≡◌, ℕ, ◌+◌, ◌<◌, List, [], ◌∷◌, ◌++◌, length, get_or, take, set, sym, refl, ap, ◌∙◌, ap₂, add-one, arith, length-set, take-suc-set}
use Rattle.algebra.specs.Coordinates.{coordinates, next}
use Rattle.algebra.proofs.HankelCoordinates.{coordinates_at, coordinates_length, hankel-bit}
use Rattle.arithmetic.proofs.field.BinaryField.coordinates.Goals as goal

-- each of the first n coordinates is 0 or 1
coordinate-low : (F m a n k : ℕ) → k < n → get_or (coordinates F m a n) k 0 < 2
coordinate-low F m a n k h = rw (coordinates_at F m a n k h) (hankel-bit F m a k)

-- one coordinate more, written behind those that a row begins with
more : (F m a j v : ℕ) (row : List ℕ) → j < length row → take j row ≡ coordinates F m a j → v ≡ next F m a (length (take j row)) (take j row)
    → take (j + 1) (set row j v) ≡ coordinates F m a (j + 1)
unfolding coordinates
more F m a j v row h e is =
    let next-is : v ≡ next F m a j (coordinates F m a j)
    = is ∙ ap (λ xs. next F m a (length xs) xs) e ∙ ap (λ (x : ℕ). next F m a x (coordinates F m a j)) (coordinates_length F m a j) in
    ap (λ (x : ℕ). take x (set row j v)) (add-one j) ∙ take-suc-set row j v h ∙ ap₂ (λ (xs : List ℕ) (x : ℕ). xs ++ (x ∷ [])) e next-is
    ∙ ap (coordinates F m a) (sym (add-one j))

pub loop-j-init : goal.loop-j-init
unfolding coordinates
loop-j-init c = (refl, refl)

pub coordinate-requires-clause-bits : goal.coordinate-requires-clause-bits
coordinate-requires-clause-bits c = λ k h.
    let f = c.args.self.now in
    let l : k < c.loop-j.j = omega (arith, ap length c.loop-j.invariant.1, coordinates_length f.polynomial f.degree c.args.a c.loop-j.j) in
    rw c.loop-j.invariant.1 (coordinate-low f.polynomial f.degree c.args.a c.loop-j.j k l)

pub loop-j-preserved : goal.loop-j-preserved
loop-j-preserved c =
    let h : c.loop-j.j < length c.loop-j.row = omega (arith, c.loop-j.invariant.0) in (
      simp length-set c.loop-j.invariant.0,
      more c.args.self.now.polynomial c.args.self.now.degree c.args.a c.loop-j.j c.coordinate.result c.loop-j.row h c.loop-j.invariant.1 c.coordinate.ensures,
    )
