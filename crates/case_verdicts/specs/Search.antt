-- What a search may say of a state: which states come from it by giving made-up values other values, and that none of them is good.
use Rattle.std.specs.Prelude.{◌≡◌, cond, List, [], ◌∷◌, map, ℕ, ◌+◌, ◌<◌, eqb}
use Rattle.query_meaning.specs.Meaning.{Block, In, value}
use Rattle.case_verdicts.specs.Verdict.{Sheet}
use Rattle.case_verdicts.specs.Tableau.{State, Good}

-- ---- below a state

-- values below `top`, the constants, stay
abbrev pub Keeps : ℕ → (ℕ → ℕ) → Type 0
Keeps top h = (c : ℕ) → c < top → h c ≡ c

-- t is s with its made-up values mapped
pub record Below (top : ℕ) (s t : State) : Type 0 where
  pub to : ℕ → ℕ
  pub keeps : Keeps top to
  pub at : (n : ℕ) → to (s n) ≡ t n

-- where the search starts: each slot has a made-up value of its own
abbrev pub free : ℕ → State
free top n = top + n

-- nothing below s is good
pub record Refuted (top : ℕ) (x : Sheet) (s : State) : Type 0 where
  pub none : (t : State) → Below top s t → Good x t → ⊥

-- ---- equations

-- two values that are to become one
pub record Equation : Type 0 where
  pub left : ℕ
  pub right : ℕ

abbrev pub ◌≈◌ : ℕ → ℕ → Equation
a ≈ b = record { left = a; right = b }

infix 20 ◌≈◌
-- column by column
abbrev pub equations : List ℕ → List ℕ → List Equation
equations [] ns = []
equations (m ∷ ms) [] = []
equations (m ∷ ms) (n ∷ ns) = (m ≈ n) ∷ equations ms ns

-- h makes the two values of each equation one
abbrev pub Met : (ℕ → ℕ) → List Equation → Type 0
Met h es = (e : Equation) → In e es → h e.left ≡ h e.right

-- nothing below s that meets the equations is good
pub record RefutedBy (top : ℕ) (x : Sheet) (s : State) (es : List Equation) : Type 0 where
  pub none : (t : State) (b : Below top s t) → Met b.to es → Good x t → ⊥

-- what is good below s meets all equations of one of these
pub record Alternatives (top : ℕ) (x : Sheet) (s : State) (alts : List (List Equation)) : Type 0 where
  pub one : (t : State) (b : Below top s t) → Good x t → (alt : List Equation) × In alt alts × Met b.to alt

-- for each line of terms that must differ, the alternative that makes its two terms one
abbrev pub lines : (ℕ → ℕ) → Block → List (List Equation)
lines v b = map (λ d. (value v d.left ≈ value v d.right) ∷ []) b.apart

-- ---- how equations are met

-- r meets them, and every map that meets them factors through r
pub record Unifier (top : ℕ) (r : ℕ → ℕ) (es : List Equation) : Type 0 where
  pub keeps : Keeps top r
  pub met : Met r es
  pub general : (h : ℕ → ℕ) → Keeps top h → Met h es → (n : ℕ) → h (r n) ≡ h n

-- no map that keeps the constants meets them
pub record Clash (top : ℕ) (es : List Equation) : Type 0 where
  pub none : (h : ℕ → ℕ) → Keeps top h → Met h es → ⊥

-- n in the place of m
abbrev pub replace : ℕ → ℕ → ℕ → ℕ
replace m n k = cond (eqb k m) n k

-- r at every slot of s
abbrev pub after : (ℕ → ℕ) → State → State
after r s n = r (s n)
