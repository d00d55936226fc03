-- Equations of commutative rings, by computing: `solve`.
use Rattle.std.proofs.Common.{◌≡◌, ℕ, zero, suc, Bool, true, false, cond, ◌&&◌, T, eqb, leb, List, [], ◌∷◌, sym, refl, ap, ◌∙◌, ap₂, eqb→eq}
use mathlib.Core.Bool.{beq}
use Rattle.algebra.specs.Operations.{Operations, Ring}
use Rattle.algebra.proofs.Rings

infixl 60 ◌⊕◌
infixl 60 ◌⊖◌
infixl 70 ◌⊗◌
pub data Expr : Type 0 where
  # : ℕ → Expr
  O I : Expr
  ◌⊕◌ ◌⊗◌ ◌⊖◌ : Expr → Expr → Expr
  ⊝ : Expr → Expr

-- a signed product of variables; false is minus
pub data Mono : Type 0 where
  mono : Bool → List ℕ → Mono

abbrev pub eq_l : List ℕ → List ℕ → Bool
eq_l [] [] = true
eq_l [] (y ∷ ys) = false
eq_l (x ∷ xs) [] = false
eq_l (x ∷ xs) (y ∷ ys) = eqb x y && eq_l xs ys

and_l : (a b : Bool) → T (a && b) → T a
and_l true b t = tt
and_l false b t = t

and_r : (a b : Bool) → T (a && b) → T b
and_r true b t = t
and_r false b t = absurd t

eq_l_eq : (xs ys : List ℕ) → T (eq_l xs ys) → xs ≡ ys
eq_l_eq [] [] t = refl
eq_l_eq [] (y ∷ ys) t = absurd t
eq_l_eq (x ∷ xs) [] t = absurd t
eq_l_eq (x ∷ xs) (y ∷ ys) t = ap₂ (λ a b. a ∷ b) (eqb→eq x y (and_l (eqb x y) (eq_l xs ys) t)) (eq_l_eq xs ys (and_r (eqb x y) (eq_l xs ys) t))

abbrev pub ins_v : ℕ → List ℕ → List ℕ
ins_v n [] = n ∷ []
ins_v n (m ∷ ms) = let r = ins_v n ms in cond (leb n m) (n ∷ m ∷ ms) (m ∷ r)

abbrev pub mul_v : List ℕ → List ℕ → List ℕ
mul_v [] ys = ys
mul_v (x ∷ xs) ys = ins_v x (mul_v xs ys)

abbrev pub mul_m : Mono → Mono → Mono
mul_m (mono s xs) (mono t ys) = mono (beq s t) (mul_v xs ys)

abbrev pub flip : Bool → Bool
flip true = false
flip false = true

abbrev pub opp : Mono → Mono → Bool
opp (mono s xs) (mono t ys) = beq s (flip t) && eq_l xs ys

abbrev pub add_m : Mono → List Mono → List Mono
add_m m [] = m ∷ []
add_m m (p ∷ ps) = let r = add_m m ps in cond (opp m p) ps (p ∷ r)

abbrev pub add_p : List Mono → List Mono → List Mono
add_p [] q = q
add_p (m ∷ ms) q = add_m m (add_p ms q)

abbrev pub neg_m : Mono → Mono
neg_m (mono s xs) = mono (flip s) xs

abbrev pub neg_p : List Mono → List Mono
neg_p [] = []
neg_p (m ∷ ms) = neg_m m ∷ neg_p ms

abbrev pub scale : Mono → List Mono → List Mono
scale m [] = []
scale m (p ∷ ps) = add_m (mul_m m p) (scale m ps)

abbrev pub mul_p : List Mono → List Mono → List Mono
mul_p [] q = []
mul_p (m ∷ ms) q = add_p (scale m q) (mul_p ms q)

abbrev pub norm : Expr → List Mono
norm (# n) = mono true (n ∷ []) ∷ []
norm O = []
norm I = mono true [] ∷ []
norm (a ⊕ b) = add_p (norm a) (norm b)
norm (a ⊗ b) = mul_p (norm a) (norm b)
norm (a ⊖ b) = add_p (norm a) (neg_p (norm b))
norm (⊝ a) = neg_p (norm a)

abbrev pub is_nil : List Mono → Bool
is_nil [] = true
is_nil (m ∷ ms) = false

module _ {K : Type 0} (o : Operations K) (R : Ring o) where
  open o use {zero as 0#, one as 1#, sum as ◌+◌, prod as ◌*◌, neg}
  open R use {sum_assoc, sum_comm, sum_zero, sum_neg, prod_assoc, prod_comm, prod_one, distributes}

  infixl 60 ◌+◌
  infixl 70 ◌*◌
  abbrev pub at : List K → ℕ → K
  at [] n = 0#
  at (x ∷ xs) zero = x
  at (x ∷ xs) (suc n) = at xs n

  abbrev pub ⟦◌⟧ : Expr → List K → K
  ⟦ # n ⟧ ρ = at ρ n
  ⟦ O ⟧ ρ = 0#
  ⟦ I ⟧ ρ = 1#
  ⟦ a ⊕ b ⟧ ρ = ⟦ a ⟧ ρ + ⟦ b ⟧ ρ
  ⟦ a ⊗ b ⟧ ρ = ⟦ a ⟧ ρ * ⟦ b ⟧ ρ
  ⟦ a ⊖ b ⟧ ρ = ⟦ a ⟧ ρ + neg (⟦ b ⟧ ρ)
  ⟦ ⊝ a ⟧ ρ = neg (⟦ a ⟧ ρ)

  module _ (ρ : List K) where
    abbrev vs : List ℕ → K
    vs [] = 1#
    vs (n ∷ ns) = at ρ n * vs ns

    abbrev sg : Bool → K → K
    sg true x = x
    sg false x = neg x

    abbrev mo : Mono → K
    mo (mono s xs) = sg s (vs xs)

    abbrev po : List Mono → K
    po [] = 0#
    po (m ∷ ms) = mo m + po ms

    ins_v_ok : (n : ℕ) (ns : List ℕ) → vs (ins_v n ns) ≡ at ρ n * vs ns
    ins_v_ok n [] = refl
    ins_v_ok n (m ∷ ms) = go (leb n m) (ins_v_ok n ms)
      where
        go : (b : Bool) → vs (ins_v n ms) ≡ at ρ n * vs ms → vs (cond b (n ∷ m ∷ ms) (m ∷ ins_v n ms)) ≡ at ρ n * (at ρ m * vs ms)
        go true ih = refl
        go false ih = ap (λ x. at ρ m * x) ih ∙ Rings.mul_left_comm o R (at ρ m) (at ρ n) (vs ms)

    mul_v_ok : (xs ys : List ℕ) → vs (mul_v xs ys) ≡ vs xs * vs ys
    mul_v_ok [] ys = sym (Rings.one-mul o R (vs ys))
    mul_v_ok (x ∷ xs) ys = ins_v_ok x (mul_v xs ys) ∙ ap (λ y. at ρ x * y) (mul_v_ok xs ys) ∙ sym (prod_assoc (at ρ x) (vs xs) (vs ys))

    sg_mul : (s t : Bool) (x y : K) → sg (beq s t) (x * y) ≡ sg s x * sg t y
    sg_mul true true x y = refl
    sg_mul true false x y = sym (Rings.mul_neg o R x y)
    sg_mul false true x y = sym (Rings.neg_mul o R x y)
    sg_mul false false x y = simp (Rings.neg_mul o R, Rings.mul_neg o R, Rings.neg-neg o R)

    mul_m_ok : (m p : Mono) → mo (mul_m m p) ≡ mo m * mo p
    mul_m_ok (mono s xs) (mono t ys) = ap (sg (beq s t)) (mul_v_ok xs ys) ∙ sg_mul s t (vs xs) (vs ys)

    sg_opp : (s t : Bool) (x : K) → T (beq s (flip t)) → sg s x + sg t x ≡ 0#
    sg_opp true true x h = absurd h
    sg_opp true false x h = sum_neg x
    sg_opp false true x h = Rings.neg_add o R x
    sg_opp false false x h = absurd h

    opp_ok : (m p : Mono) → T (opp m p) → mo m + mo p ≡ 0#
    opp_ok (mono s xs) (mono t ys) h = rw (eq_l_eq xs ys (and_r (beq s (flip t)) (eq_l xs ys) h)) (sg_opp s t (vs ys) (and_l (beq s (flip t)) (eq_l xs ys) h))

    add_m_ok : (m : Mono) (q : List Mono) → po (add_m m q) ≡ mo m + po q
    add_m_ok m [] = refl
    add_m_ok m (p ∷ ps) = go (opp m p) (opp_ok m p) (add_m_ok m ps)
      where
        go : (b : Bool) → (T b → mo m + mo p ≡ 0#) → po (add_m m ps) ≡ mo m + po ps → po (cond b ps (p ∷ add_m m ps)) ≡ mo m + (mo p + po ps)
        go true h ih = rw (← sum_assoc (mo m) (mo p) (po ps), h tt, Rings.zero-add o R)
        go false h ih = ap (λ x. mo p + x) ih ∙ Rings.add_left_comm o R (mo p) (mo m) (po ps)

    add_p_ok : (p q : List Mono) → po (add_p p q) ≡ po p + po q
    add_p_ok [] q = sym (Rings.zero-add o R (po q))
    add_p_ok (m ∷ ms) q = add_m_ok m (add_p ms q) ∙ ap (λ x. mo m + x) (add_p_ok ms q) ∙ sym (sum_assoc (mo m) (po ms) (po q))

    neg_m_ok : (m : Mono) → mo (neg_m m) ≡ neg (mo m)
    neg_m_ok (mono true xs) = refl
    neg_m_ok (mono false xs) = sym (Rings.neg-neg o R (vs xs))

    neg_p_ok : (p : List Mono) → po (neg_p p) ≡ neg (po p)
    neg_p_ok [] = sym (Rings.neg-zero o R)
    neg_p_ok (m ∷ ms) = ap₂ ◌+◌ (neg_m_ok m) (neg_p_ok ms) ∙ sym (Rings.neg_sum o R (mo m) (po ms))

    scale_ok : (m : Mono) (q : List Mono) → po (scale m q) ≡ mo m * po q
    scale_ok m [] = sym (Rings.mul-zero o R (mo m))
    scale_ok m (p ∷ ps) = add_m_ok (mul_m m p) (scale m ps) ∙ ap₂ ◌+◌ (mul_m_ok m p) (scale_ok m ps) ∙ sym (distributes (mo m) (mo p) (po ps))

    mul_p_ok : (p q : List Mono) → po (mul_p p q) ≡ po p * po q
    mul_p_ok [] q = sym (Rings.zero-mul o R (po q))
    mul_p_ok (m ∷ ms) q = add_p_ok (scale m q) (mul_p ms q) ∙ ap₂ ◌+◌ (scale_ok m q) (mul_p_ok ms q) ∙ sym (Rings.distrib_r o R (mo m) (po ms) (po q))

    norm_ok : (e : Expr) → po (norm e) ≡ ⟦ e ⟧ ρ
    norm_ok (# n) = sum_zero _ ∙ prod_one (at ρ n)
    norm_ok O = refl
    norm_ok I = sum_zero 1#
    norm_ok (a ⊕ b) = add_p_ok (norm a) (norm b) ∙ ap₂ ◌+◌ (norm_ok a) (norm_ok b)
    norm_ok (a ⊗ b) = mul_p_ok (norm a) (norm b) ∙ ap₂ ◌*◌ (norm_ok a) (norm_ok b)
    norm_ok (a ⊖ b) = add_p_ok (norm a) (neg_p (norm b)) ∙ ap₂ ◌+◌ (norm_ok a) (neg_p_ok (norm b) ∙ ap neg (norm_ok b))
    norm_ok (⊝ a) = neg_p_ok (norm a) ∙ ap neg (norm_ok a)

    nil_ok : (p : List Mono) → T (is_nil p) → po p ≡ 0#
    nil_ok [] t = refl
    nil_ok (m ∷ ms) t = absurd t

    pub solve : (e₁ e₂ : Expr) → T (is_nil (norm (e₁ ⊖ e₂))) → ⟦ e₁ ⟧ ρ ≡ ⟦ e₂ ⟧ ρ
    solve e₁ e₂ t = Rings.eq_of_sub o R (⟦ e₁ ⟧ ρ) (⟦ e₂ ⟧ ρ) (sym (norm_ok (e₁ ⊖ e₂)) ∙ nil_ok (norm (e₁ ⊖ e₂)) t)

  -- which term is which expression: found by `search reify`
  pub data At (x : K) : List K → Type 0 where
    here : {ρ : List K} → At x (x ∷ ρ)
    there : {y : K} {ρ : List K} → At x ρ → At x (y ∷ ρ)

  pub data Is (ρ : List K) : K → Type 0 where
    zer : Is ρ 0#
    uno : Is ρ 1#
    plus : {a b : K} → Is ρ a → Is ρ b → Is ρ (a + b)
    times : {a b : K} → Is ρ a → Is ρ b → Is ρ (a * b)
    minus : {a : K} → Is ρ a → Is ρ (neg a)
    var : {a : K} → At a ρ → Is ρ a

  abbrev pub place : {x : K} {ρ : List K} → At x ρ → ℕ
  place here = 0
  place (there h) = suc (place h)

  abbrev pub code : {ρ : List K} {x : K} → Is ρ x → Expr
  code zer = O
  code uno = I
  code (plus p q) = code p ⊕ code q
  code (times p q) = code p ⊗ code q
  code (minus p) = ⊝ (code p)
  code (var h) = # (place h)

  place_ok : {x : K} {ρ : List K} (h : At x ρ) → at ρ (place h) ≡ x
  place_ok here = refl
  place_ok (there h) = place_ok h

  code_ok : {ρ : List K} {x : K} (p : Is ρ x) → ⟦ code p ⟧ ρ ≡ x
  code_ok zer = refl
  code_ok uno = refl
  code_ok (plus p q) = ap₂ ◌+◌ (code_ok p) (code_ok q)
  code_ok (times p q) = ap₂ ◌*◌ (code_ok p) (code_ok q)
  code_ok (minus p) = ap neg (code_ok p)
  code_ok (var h) = place_ok h

  pub data Sides (ρ : List K) : K → K → Type 0 where
    sides : {x y : K} → Is ρ x → Is ρ y → Sides ρ x y

  abbrev pub Same : {ρ : List K} {x y : K} → Sides ρ x y → Type 0
  Same (sides p q) = T (is_nil (norm (code p ⊖ code q)))

  pub ring : (ρ : List K) {x y : K} (s : Sides ρ x y) → Same s → x ≡ y
  ring ρ (sides p q) t = sym (code_ok p) ∙ solve ρ (code p) (code q) t ∙ code_ok q

pub ruleset reify = (sides, plus, times, minus, zer, uno, here, there, var)
