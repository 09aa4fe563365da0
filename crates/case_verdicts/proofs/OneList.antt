-- A sheet with one list is judged as one against that list alone.
use mathlib.Core.Path.{◌≡◌, refl, sym, subst}
use mathlib.Core.List.{List, [], ◌∷◌}
use mathlib.Core.Logic.{inl}
use Prim.Native.Nat.{ℕ}
use Rattle.query_meaning.specs.Meaning.{Log, Block, In, Answer}
use Rattle.case_verdicts.specs.Verdict.{Sheet, Agreeing, Case}

-- an agreeing log that gives the question the answer t, and does not give it to this list
pub record CaseAgainst (x : Sheet) (l : Block) (log : Log) (t : List ℕ) : Type 0 where
  pub agreeing : Agreeing x log
  pub asked : Answer log x.question t
  pub missing : Answer log l t → ⊥

module _ (x : Sheet) (l : Block) (one : x.lists ≡ l ∷ []) (log : Log) (t : List ℕ) where
  only : (k : Block) → In k x.lists → k ≡ l
  only k m = go (subst (In k) one m)
    where
      go : In k (l ∷ []) → k ≡ l
      go (mathlib.Core.Logic.inr x'') = elim x'' [ ]
      go (inl e) = e

  pub case-against : Case x log t → CaseAgainst x l log t
  case-against c = record { agreeing = c.agreeing; asked = c.asked; missing = c.missing l (subst (In l) (sym one) (inl refl)) }

  pub against-case : CaseAgainst x l log t → Case x log t
  against-case c = record { agreeing = c.agreeing; asked = c.asked; missing = λ k m a. c.missing (subst (λ b. Answer log b t) (only k m) a) }
