-- Sheets, the logs that agree with them, cases, and the three verdicts.
use Rattle.std.specs.Prelude.{List, ℕ, zero, suc}
use Rattle.query_meaning.specs.Meaning.{Log, Block, In, Answer}
use Rattle.query_meaning.specs.Blocks.{View}
use Rattle.case_verdicts.specs.Table.{Table, Lawful}

-- what is judged: a question against saved lists (the base's sheets have one), where each view's rows are listed in full
pub record Sheet : Type 0 where
  pub table : Table
  pub question : Block
  pub lists : List Block
  pub views : List View

-- Meaning, of agreeing, for one view: the answers that the log gives it are its listed rows, none more and none missing
pub record Agrees (log : Log) (w : View) : Type 0 where
  pub none_more : (t : List ℕ) → Answer log w.block t → In t w.rows
  pub none_missing : (t : List ℕ) → In t w.rows → Answer log w.block t

-- Meaning, of agreeing: a log that agrees in every view
pub record Agreeing (x : Sheet) (log : Log) : Type 0 where
  pub lawful : Lawful x.table log
  pub agrees : (w : View) → In w x.views → Agrees log w

-- Meaning, of cases: an agreeing log that gives the question the answer t, and gives t to no list
pub record Case (x : Sheet) (log : Log) (t : List ℕ) : Type 0 where
  pub agreeing : Agreeing x log
  pub asked : Answer log x.question t
  pub missing : (l : Block) → In l x.lists → Answer log l t → ⊥

-- Meaning, of verdict 0: some log agrees, and no log is a case
pub record Covered (x : Sheet) : Type 0 where
  pub some : (log : Log) × Agreeing x log
  pub none : (log : Log) (t : List ℕ) → Case x log t → ⊥

-- Meaning, of verdict 1: some log is a case
abbrev pub NotCovered : Sheet → Type 0
NotCovered x = (log : Log) × (t : List ℕ) × Case x log t

-- Meaning, of verdict 2: no log agrees
abbrev pub NoLog : Sheet → Type 0
NoLog x = (log : Log) → Agreeing x log → ⊥

-- what each verdict's number says of the sheet
abbrev pub HasVerdict : Sheet → ℕ → Type 0
HasVerdict x zero = Covered x
HasVerdict x (suc zero) = NotCovered x
HasVerdict x (suc (suc zero)) = NoLog x
HasVerdict x (suc (suc (suc n))) = ⊥
