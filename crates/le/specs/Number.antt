-- Numbers in bytes, the lowest byte first (document 01: "All numbers are little-endian"), once for every width.
use Rattle.std.specs.Prelude.{ℕ, zero, suc, ◌+◌, ◌*◌, ◌/◌, ◌%◌, ◌^◌, ◌<◌, ◌≡◌, List, [], ◌∷◌, take, drop, get_or}
use Rattle.std.proofs.lemmas.List.Edits.{sets}

-- every element is a byte
unfoldable pub Bytes : List ℕ → Type 0
Bytes s = (i : ℕ) → get_or s i 0 < 256

-- the number that a list of bytes holds
unfoldable pub value : List ℕ → ℕ
value [] = 0
value (b ∷ bs) = b + 256 * value bs

-- the n low bytes of a number
unfoldable pub bytes : ℕ → ℕ → List ℕ
bytes zero v = []
bytes (suc n) v = v % 256 ∷ bytes n (v / 256)

-- the n bytes at a place
unfoldable pub field : ℕ → ℕ → List ℕ → List ℕ
field n at s = take n (drop at s)

-- the number in the n bytes at a place
unfoldable pub number : ℕ → ℕ → List ℕ → ℕ
number n at s = value (field n at s)

-- the bytes with the n low bytes of v at a place, every other as it was
unfoldable pub stored : ℕ → ℕ → ℕ → List ℕ → List ℕ
stored n at v s = sets s at (bytes n v)

-- what reading the number at a place answers: the number, which fits its bytes
pub record Reads (n at : ℕ) (s : List ℕ) (r : ℕ) : Type 0 where
  pub is : r ≡ number n at s
  pub below : r < 256 ^ n
