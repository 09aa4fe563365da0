-- What the theorems ask of a sheet, and accepted lines bring (proofs/FineSheet): constants below a top, few variables, full atoms, rows as
-- long as their heads, head variables that stand in atoms.
use Rattle.std.specs.Prelude.{◌≡◌, List, [], ◌∷◌, ℕ, ◌<◌, length}
use Rattle.query_layout.specs.Layout.{names}
use Rattle.sheet_format.specs.Line.{gather}
use Rattle.query_meaning.specs.Meaning.{Term, con, var, Atom, Apart, Block, In}
use Rattle.query_meaning.specs.Blocks.{View}
use Rattle.case_verdicts.specs.Table.{Table, relation, Sound}
use Rattle.case_verdicts.specs.Verdict.{Sheet}

-- a block's variables are below this, from 1 on. It stays shut, so that the theorems hold for any other number as well.
unfoldable pub width : ℕ
width = names

-- constants lie below `top`; values from `top` on are free to be made up
abbrev pub FineTerm : ℕ → Term → Type 0
FineTerm top (con c) = c < top
FineTerm top (var x) = x < width

-- each of the terms is so
abbrev pub Fine : ℕ → List Term → Type 0
Fine top ts = (t : Term) → In t ts → FineTerm top t

-- a known relation with a term for each column
pub record FineAtom (top : ℕ) (table : Table) (a : Atom) : Type 0 where
  pub terms : Fine top a.terms
  pub known : 0 < (relation table a.rel).columns
  pub full : length a.terms ≡ (relation table a.rel).columns

-- so are all terms of the block, and its atoms
pub record FineBlock (top : ℕ) (table : Table) (b : Block) : Type 0 where
  pub head : Fine top b.head
  pub atoms : (a : Atom) → In a b.atoms → FineAtom top table a
  pub apart : (d : Apart) → In d b.apart → FineTerm top d.left × FineTerm top d.right

-- all blocks are so; listed rows have constants only, one for each column of their view's head
pub record FineSheet (top : ℕ) (x : Sheet) : Type 0 where
  pub table : Sound x.table
  pub question : FineBlock top x.table x.question
  pub lists : (l : Block) → In l x.lists → FineBlock top x.table l
  pub views : (w : View) → In w x.views → FineBlock top x.table w.block
  pub rows : (w : View) → In w x.views → (r : List ℕ) → In r w.rows → (n : ℕ) → In n r → n < top
  pub lengths : (w : View) → In w x.views → (r : List ℕ) → In r w.rows → length r ≡ length w.block.head

-- ---- blocks whose answers come from the log's values

-- the variable that a term is
abbrev pub variable : Term → List ℕ
variable (con c) = []
variable (var x) = x ∷ []

-- the variables that stand in the atoms
abbrev pub variables : Block → List ℕ
variables b = gather (λ a. gather variable a.terms) b.atoms

-- a constant, or one of these variables
abbrev pub Bound : Block → Term → Type 0
Bound b (con c) = Unit {0}
Bound b (var x) = In x (variables b)

-- the variables of the head, and of lines of terms that must differ, stand in atoms
pub record Safe (b : Block) : Type 0 where
  pub head : (t : Term) → In t b.head → Bound b t
  pub apart : (d : Apart) → In d b.apart → Bound b d.left × Bound b d.right

-- so are the lists and the views
pub record Evaluable (x : Sheet) : Type 0 where
  pub lists : (l : Block) → In l x.lists → Safe l
  pub views : (w : View) → In w x.views → Safe w.block
