-- What the functions go by, one part of a fact's test each.
use Rattle.std.specs.Prelude.{Bool, not, ◌&&◌, List, [], ℕ, ◌*◌, zero, suc, ℤ, pos, get_or}
use Rattle.std.specs.Int.Signed.{lt_z, le_z}
use Rattle.query_meaning.specs.Facts.{most_facts, fact_words}

-- a word that is 0 or more, and below the end
abbrev pub in_range : ℤ → ℤ → Bool
in_range end z = not (lt_z z (pos 0)) && not (le_z end z)

-- the fact before fact i; none before the first
abbrev pub fact_before : List (List ℤ) → ℕ → List ℤ
fact_before fs zero = []
fact_before fs (suc i) = get_or fs i []

-- the words of given facts, at most
abbrev pub most_fact_words : ℕ
most_fact_words = most_facts * fact_words
