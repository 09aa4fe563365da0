-- Sets of slots of the search, in words: slot n is digit n % 64 of word n / 64. Missing words count as full: a slot beyond the words is in every
-- set. No promise to a caller rests on these.
use Rattle.std.specs.Prelude.{◌≡◌, Bool, true, false, not, ◌&&◌, ◌||◌, List, ℕ, ◌+◌, ◌*◌, ◌/◌, ◌%◌, ◌^◌, ◌<◌, eqb, length, get_or}
use Rattle.std.specs.Int.Bits.{bit_or, bit_xor}
use Rattle.tableau_layout.specs.Layout.{slot_end}

-- words with a digit for each slot
abbrev pub set_words : ℕ
set_words = slot_end / 64 + 1

-- whether a word has binary digit j
unfoldable pub has_digit : ℕ → ℕ → Bool
has_digit w j = eqb (w / 2 ^ j % 2) 1

-- the word with all digits
abbrev pub full_word : ℕ
full_word = 0xffff_ffff_ffff_ffff

-- the digits of a that b lacks
abbrev pub word_less : ℕ → ℕ → ℕ
word_less a b = bit_xor (bit_or a b) b

-- word w of a set
abbrev pub set_word : List ℕ → ℕ → ℕ
set_word ws w = get_or ws w full_word

-- a set has slot n
unfoldable pub in_set : List ℕ → ℕ → Bool
in_set ws n = has_digit (set_word ws (n / 64)) (n % 64)

-- every slot of a is in b
abbrev pub SetWithin : List ℕ → List ℕ → Type 0
SetWithin a b = (k : ℕ) → in_set a k ≡ true → in_set b k ≡ true

-- n words, and no slot in them
pub record EmptySet (n : ℕ) (ws : List ℕ) : Type 0 where
  pub same : length ws ≡ n
  pub each : (k : ℕ) → k < 64 * n → in_set ws k ≡ false

-- in its words, the slots of another set
pub record SetPut (old others ws : List ℕ) : Type 0 where
  pub same : length ws ≡ length old
  pub each : (k : ℕ) → k < 64 * length old → in_set ws k ≡ in_set others k

-- slot n besides
pub record SetWith (old : List ℕ) (n : ℕ) (ws : List ℕ) : Type 0 where
  pub same : length ws ≡ length old
  pub each : (k : ℕ) → in_set ws k ≡ (eqb k n || in_set old k)

-- all but slot n, which stays where it is past the words
pub record SetWithout (old : List ℕ) (n : ℕ) (ws : List ℕ) : Type 0 where
  pub same : length ws ≡ length old
  pub gone : n < 64 * length old → in_set ws n ≡ false
  pub rest : (k : ℕ) → (k ≡ n → ⊥) → in_set ws k ≡ in_set old k

-- the slots of another set besides
pub record SetJoined (old others ws : List ℕ) : Type 0 where
  pub same : length ws ≡ length old
  pub each : (k : ℕ) → in_set ws k ≡ (in_set old k || in_set others k)

-- in its words, the slots that another set lacks
pub record SetLess (old others ws : List ℕ) : Type 0 where
  pub same : length ws ≡ length old
  pub each : (k : ℕ) → k < 64 * length old → in_set ws k ≡ (in_set old k && not (in_set others k))

-- r tells whether a slot in the words of a is in both sets
pub record SetsMeet (r : Bool) (a b : List ℕ) : Type 0 where
  pub apart : r ≡ false → (k : ℕ) → k < 64 * length a → in_set a k ≡ true → in_set b k ≡ false
  pub some : r ≡ true → (k : ℕ) × (k < 64 * length a) × (in_set a k ≡ true) × (in_set b k ≡ true)
