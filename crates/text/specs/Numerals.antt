-- Decimal numerals in bytes.
use Rattle.std.specs.Prelude.{◌≡◌, ℕ, ◌+◌, ◌-◌, ◌*◌, ◌^◌, ◌<◌, ◌≤◌, List, [], ◌∷◌, ◌++◌, length, slice_index}

-- the byte is one of the characters 0 to 9, whose codes are 48 to 57
abbrev pub Digit : ℕ → Type 0
Digit b = (48 ≤ b) × (b ≤ 57)

-- each byte is a digit
abbrev pub Digits : List ℕ → Type 0
Digits bs = (k : ℕ) → k < length bs → Digit (slice_index bs k)

-- the number that the digits bs write behind those of n
abbrev pub continued : ℕ → List ℕ → ℕ
continued n [] = n
continued n (b ∷ bs) = continued (n * 10 + (b - 48)) bs

-- the number that the digits bs write
abbrev pub value : List ℕ → ℕ
value bs = continued 0 bs

-- one to ten digits that write a number below 2 ^ 32
pub record Numeral (bs : List ℕ) : Type 0 where
  pub some : 0 < length bs
  pub few : length bs ≤ 10
  pub digits : Digits bs
  pub small : value bs < 2 ^ 32

-- the bytes are a numeral of n
pub record One (bs : List ℕ) (n : ℕ) : Type 0 where
  pub numeral : Numeral bs
  pub is : n ≡ value bs

-- the bytes are a numeral of m, a space (the byte 32), and a numeral of n
pub record Two (bs : List ℕ) (m n : ℕ) : Type 0 where
  pub left : List ℕ
  pub right : List ℕ
  pub whole : bs ≡ left ++ 32 ∷ right
  pub left_one : One left m
  pub right_one : One right n

-- the bytes are a numeral of l, a space (the byte 32), a numeral of m, a space, and a numeral of n
pub record Three (bytes : List ℕ) (l m n : ℕ) : Type 0 where
  pub left : List ℕ
  pub right : List ℕ
  pub whole : bytes ≡ left ++ 32 ∷ right
  pub left_one : One left l
  pub right_two : Two right m n
