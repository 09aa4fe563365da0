use borrow.Author.Rules.{rules}
use mathlib.Core.Path.{subst}
use native.Mathlib.Omega.{arith}
use borrow.Author.Tests.{not-true, not-false}
use Rattle.list_laws.proofs.Words.{to_pos}
use Rattle.text_reader.specs.Held.{PutField}
use Rattle.text_reader.proofs.Steps.{put-none, put-value, put-variable, word_some, value-fits}
use Rattle.text_reader.proofs.put.Goals as goal

pub put_variable-requires : goal.put_variable-requires
put_variable-requires c = record { word_at = (c.requires.word_at.0, word_some c.requires.word_at.1 c.if-m-eq97.true); words_len = c.requires.words_len }

pub returns-then-m-eq97 : goal.returns-then-m-eq97
returns-then-m-eq97 c = put-variable _ _ _ _ _ _ (not-false _ c.if-not-s.false) c.if-m-eq97.true c.requires.word_at.0 (word_some c.requires.word_at.1 c.if-m-eq97.true) c.put_variable.ensures

pub overflow_cast-m : goal.overflow_cast-m
overflow_cast-m c = let v = value-fits c.requires.word_at.1 in record { sfits = omega arith }

pub returns : goal.returns
returns c = let a = c.args in
    let f = c.put_field-fields in
    let v = value-fits c.requires.word_at.1 in
    put-value _ _ _ _ _ _ (not-false _ c.if-not-s.false) c.if-m-eq97.false (subst (λ z. PutField a.words.now f.new.words a.n.lines a.n.fields z f.result) (to_pos a.m.value (omega arith)) f.ensures)
