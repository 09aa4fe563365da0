use mathlib.Core.Path.{◌≡◌, sym, ap, ◌∙◌}
use Prim.Native.Nat.{◌+◌}
use native.Mathlib.Omega.{arith}
use lib.Dec.{leb}
use lib.Seq.{slice}
use mathlib.Core.Bool.{true, false}
use mathlib.Core.List.{[]}
use borrow.Author.Tests.{eq-eqb, ne_eqb, le-leb, lt-leb, not-true, not-false}
use Rattle.list_laws.proofs.Words.{word_back}
use Rattle.sheet_format.specs.Cause.{term}
use Rattle.sheet_format.specs.Cause.Kind.{atom}
use Rattle.sheet_format.specs.Line.{all}
use Rattle.sheet_format.specs.Returns.{seen_of}
use Rattle.sheet_format.specs.Table.{table_in}
use Rattle.sheet_line_causes.specs.Parts.{cause_by, fields}
use Rattle.sheet_line_causes.proofs.Words.{failed, held}
use Rattle.sheet_line_causes.proofs.Lines.{atom-cause, atom-misplaced, atom-short, atom_rest, part-is}
use borrow.Author.Rules.{rules}
use Rattle.sheet_line_causes.proofs.atom_cause.Goals.{then-not-takes_atom-via-then-not-takes_atom, then-not-takes_atom-via-else-not-takes_atom+then-n-lt-LEAST_ATOM_FIELDS, then-columns-eq0-via-then-columns-eq0, then-columns-eq0-via-else-columns-eq0+then-columns-n}
use Rattle.sheet_line_causes.proofs.atom_cause.Goals as goal

pub returns-then-not-takes_atom : goal.returns-then-not-takes_atom
returns-then-not-takes_atom c = elim c.then-not-takes_atom.branch [ then-not-takes_atom-via-then-not-takes_atom w ↦ sym (atom-misplaced c.requires (table_in c.args.table.now) (seen_of c.args.g) (failed c.takes_atom.ensures w.if-not-takes_atom.true-raw)) | then-not-takes_atom-via-else-not-takes_atom+then-n-lt-LEAST_ATOM_FIELDS w ↦ sym (atom-short c.requires (table_in c.args.table.now) (seen_of c.args.g) (held c.takes_atom.ensures w.if-not-takes_atom.false-raw) w.if-n-lt-LEAST_ATOM_FIELDS.true) ]

pub returns-then-columns-eq0 : goal.returns-then-columns-eq0
returns-then-columns-eq0 c = sym ((let h1 : (cause_by (table_in c.args.table.now) (seen_of c.args.g) [] atom (fields c.args.n c.args.words.now) ≡ atom_rest (seen_of c.args.g) c.args.n c.args.words.now c.columns-columns.result) = atom-cause c.requires (table_in c.args.table.now) (seen_of c.args.g) (held c.takes_atom.ensures c.if-not-takes_atom.false-raw) c.if-n-lt-LEAST_ATOM_FIELDS.false c.columns-columns.result (rw (word_back c.args.words.now 2 c.columns-arg-1.given) at c.columns-columns.ensures) in h1) ∙ elim c.then-columns-eq0.branch [ then-columns-eq0-via-then-columns-eq0 w ↦ rw (eq-eqb _ _ w.if-columns-eq0.true) | then-columns-eq0-via-else-columns-eq0+then-columns-n w ↦ rw (ne_eqb _ _ w.if-columns-eq0.false, ne_eqb _ _ w.if-columns-n.true) ])

pub returns-then-not-are_terms : goal.returns-then-not-are_terms
returns-then-not-are_terms c = let t : all term (slice 3 (c.args.n + 1) c.args.words.now) ≡ false = ap (all term) (sym (part-is 3 (c.args.n + 1) c.args.words.now (omega arith))) ∙ failed c.are_terms.ensures c.if-not-are_terms.true-raw in
    sym ((let h1 : (cause_by (table_in c.args.table.now) (seen_of c.args.g) [] atom (fields c.args.n c.args.words.now) ≡ atom_rest (seen_of c.args.g) c.args.n c.args.words.now c.columns-columns.result) = atom-cause c.requires (table_in c.args.table.now) (seen_of c.args.g) (held c.takes_atom.ensures c.if-not-takes_atom.false-raw) c.if-n-lt-LEAST_ATOM_FIELDS.false c.columns-columns.result (rw (word_back c.args.words.now 2 c.columns-arg-1.given) at c.columns-columns.ensures) in h1) ∙ rw (ne_eqb _ _ c.if-columns-eq0.false, eq-eqb _ _ c.if-columns-n.false, t))

pub returns-then-most_atoms-g : goal.returns-then-most_atoms-g
returns-then-most_atoms-g c = let t : all term (slice 3 (c.args.n + 1) c.args.words.now) ≡ true = ap (all term) (sym (part-is 3 (c.args.n + 1) c.args.words.now (omega arith))) ∙ held c.are_terms.ensures c.if-not-are_terms.false-raw in
    let m = ap (λ m. leb m c.args.g.atoms) (sym c.most_atoms.ensures) ∙ le-leb _ _ c.if-most_atoms-g.true in
    sym ((let h1 : (cause_by (table_in c.args.table.now) (seen_of c.args.g) [] atom (fields c.args.n c.args.words.now) ≡ atom_rest (seen_of c.args.g) c.args.n c.args.words.now c.columns-columns.result) = atom-cause c.requires (table_in c.args.table.now) (seen_of c.args.g) (held c.takes_atom.ensures c.if-not-takes_atom.false-raw) c.if-n-lt-LEAST_ATOM_FIELDS.false c.columns-columns.result (rw (word_back c.args.words.now 2 c.columns-arg-1.given) at c.columns-columns.ensures) in h1) ∙ rw (ne_eqb _ _ c.if-columns-eq0.false, eq-eqb _ _ c.if-columns-n.false, t, m))

pub returns : goal.returns
returns c = let t : all term (slice 3 (c.args.n + 1) c.args.words.now) ≡ true = ap (all term) (sym (part-is 3 (c.args.n + 1) c.args.words.now (omega arith))) ∙ held c.are_terms.ensures c.if-not-are_terms.false-raw in
    let m = ap (λ m. leb m c.args.g.atoms) (sym c.most_atoms.ensures) ∙ lt-leb _ _ c.if-most_atoms-g.false in
    sym ((let h1 : (cause_by (table_in c.args.table.now) (seen_of c.args.g) [] atom (fields c.args.n c.args.words.now) ≡ atom_rest (seen_of c.args.g) c.args.n c.args.words.now c.columns-columns.result) = atom-cause c.requires (table_in c.args.table.now) (seen_of c.args.g) (held c.takes_atom.ensures c.if-not-takes_atom.false-raw) c.if-n-lt-LEAST_ATOM_FIELDS.false c.columns-columns.result (rw (word_back c.args.words.now 2 c.columns-arg-1.given) at c.columns-columns.ensures) in h1) ∙ rw (ne_eqb _ _ c.if-columns-eq0.false, eq-eqb _ _ c.if-columns-n.false, t, m))
