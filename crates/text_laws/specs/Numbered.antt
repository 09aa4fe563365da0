-- The lines of a sheet with the variables of each block numbered by first place.
use Rattle.std.specs.Prelude.{◌≡◌, cond, List, [], ◌∷◌, ◌++◌, ℕ, suc, eqb, ltb, ℤ, pos, negsuc, length, take}
use Rattle.sheet_format.specs.Line.{Line, byte_lines}
use Rattle.sheet_format.specs.Cause.{kind, rest, terms, is_head, is_atom}

-- the place of a variable among those that came before it, from 0; their count where it is new
unfoldable pub place_among : ℕ → List ℕ → ℕ
place_among v [] = 0
place_among v (k ∷ ks) = cond (eqb v k) 0 (suc (place_among v ks))

-- those that came before, and one more where it is new
unfoldable pub known : ℕ → List ℕ → List ℕ
known v ks = cond (ltb (place_among v ks) (length ks)) ks (ks ++ (v ∷ []))

-- a term, and what is known after it
abbrev pub numbered_term : List ℕ → ℤ → ℤ
numbered_term ks (pos n) = pos n
numbered_term ks (negsuc v) = negsuc (place_among v ks)

abbrev pub known_after : List ℕ → ℤ → List ℕ
known_after ks (pos n) = ks
known_after ks (negsuc v) = known v ks

-- terms one after the other
unfoldable pub numbered_terms : List ℕ → List ℤ → List ℤ
numbered_terms ks [] = []
numbered_terms ks (z ∷ zs) = numbered_term ks z ∷ numbered_terms (known_after ks z) zs

unfoldable pub known_behind : List ℕ → List ℤ → List ℕ
known_behind ks [] = ks
known_behind ks (z ∷ zs) = known_behind (known_after ks z) zs

-- a line's terms come after its kind, an atom's after its relation
abbrev pub terms_in : Line → List ℤ
terms_in l = cond (is_atom (kind l)) (terms l) (rest l)

abbrev pub before_terms : Line → List ℤ
before_terms l = take (cond (is_atom (kind l)) 2 1) l

-- a block has variables of its own
abbrev pub known_in : List ℕ → Line → List ℕ
known_in ks l = cond (is_head (kind l)) [] ks

-- lines one after the other
unfoldable pub numbered_lines : List ℕ → List Line → List Line
numbered_lines ks [] = []
numbered_lines ks (l ∷ ls) = (before_terms l ++ numbered_terms (known_in ks l) (terms_in l)) ∷ numbered_lines (known_behind (known_in ks l) (terms_in l)) ls

-- a sheet whose variables are numbered so
abbrev pub ByFirstPlace : List ℕ → Type 0
ByFirstPlace s = numbered_lines [] (byte_lines s) ≡ byte_lines s
