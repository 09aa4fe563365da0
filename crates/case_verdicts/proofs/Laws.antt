-- More facts give no fewer answers; equal values at its variables give a row of terms equal values.
use mathlib.Core.Path.{◌≡◌, refl}
use mathlib.Core.List.{List, [], ◌∷◌, map}
use mathlib.Core.Logic.{inl, inr}
use Prim.Native.Nat.{ℕ}
use Rattle.query_meaning.specs.Meaning.{Term, Fact, Log, Block, In, value, row, fact, Answer}

-- the first log has no fact that the second lacks
pub record SubLog (log log' : Log) : Type 0 where
  pub at : (f : Fact) → In f log → In f log'

pub monotone : {log log' : Log} {b : Block} {t : List ℕ} → SubLog log log' → Answer log b t → Answer log' b t
monotone sub a = record { val = a.val; holds = λ x m. sub.at _ (a.holds x m); differ = a.differ; gives = a.gives }

-- a row rests on the values of its own terms
pub same_row : (v w : ℕ → ℕ) (ts : List Term) → ((t : Term) → In t ts → value v t ≡ value w t) → row v ts ≡ row w ts
same_row v w [] h = refl
same_row v w (t ∷ ts) h = λ i. h t (inl refl) i ∷ same_row v w ts (λ u m. h u (inr m)) i

abbrev pub renamed : (ℕ → ℕ) → Fact → Fact
renamed h f = fact f.rel (map h f.row)

pub row-renamed : (h v w : ℕ → ℕ) (ts : List Term) → ((t : Term) → In t ts → value w t ≡ h (value v t)) → row w ts ≡ map h (row v ts)
row-renamed h v w [] k = refl
row-renamed h v w (t ∷ ts) k = λ i. k t (inl refl) i ∷ row-renamed h v w ts (λ u m. k u (inr m)) i
