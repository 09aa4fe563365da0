-- What each step does to a reading that is held.
use mathlib.Core.Path.{◌≡◌, refl, sym, ap, ◌∙◌, subst}
use mathlib.Core.Bool.{Bool, true, false, cond, ◌&&◌}
use mathlib.Core.List.{List, [], ◌∷◌}
use Prim.Native.Nat.{ℕ, suc, ◌+◌, ◌-◌, ◌≤◌, ◌<◌}
use native.Mathlib.Omega.{arith}
use native.Mathlib.Numerals.{add-one}
use lib.IntN.{ℤ, pos}
use lib.ListN.{take, drop, length-take}
use borrow.Author.Tests.{eq-eqb, ne_eqb, lt-ltb, le-ltb}
use Rattle.sheet_format.specs.Limits.{field_end}
use Rattle.text_meaning.specs.Names.{noted, token_mark}
use Rattle.text_meaning.specs.Places.{step}
use Rattle.text_meaning.specs.Reading.{Reading, reading_after, read}
use Rattle.text_meaning.specs.Control.{Control}
use Rattle.text_meaning.specs.Control.{Mark}
use Rattle.text_meaning.proofs.Bounds.{value-few, variable-some, kind-small}
use lib.Dec.{eqb}
use Rattle.text_meaning.specs.Numbers.{expected_number, control_of, stepped}
use Rattle.text_meaning.proofs.Numbers.{expected-some}
use Rattle.text_meaning.specs.declared.Expected.{Expected}
use Rattle.text_meaning.specs.declared.Standing.{Standing}
use Rattle.text_reader.specs.declared.Counts.{Counts}
use Rattle.text_reader.specs.declared.ReadTo.{ReadTo}
use Rattle.std.specs.Prelude.{Err}
use Rattle.text_reader.specs.Held.{BegunLine, PutField, Noted, Held, WordAt, BlockBegun, PutBy, VariablePut, Marked, EndedBy, Taken, Misfits}
use Rattle.text_reader.proofs.Lines.{begin-kept, put-kept}
use Rattle.text_reader.proofs.Names.{note_held}

-- ---- a line begins

module _ (c : Control) (n : Counts) where
  pub begun-none : {old : List ℤ} {from : List ℕ} → c.begins ≡ false → BlockBegun c old old from from n n
  begun-none e = record { held = λ h. record { line = h.line; noted = rw e h.noted; kept = rw e h.kept }; line = refl }

  module _ {old new : List ℤ} {from to : List ℕ} {r : ℕ} (e : c.begins ≡ true) (b : BegunLine old new from to n.lines c.kind n.line r) where
    pub begun-head : c.kind < 4 → BlockBegun c old new from to n (record { line = n.line; names = 0; lines = r; fields = 1 })
    begun-head k = record {
      held = λ h. record {
        line = h.line;
        noted = rw (e, lt-ltb c.kind 4 k) (record { size = h.noted.size; few = omega arith; begin = record { each = λ i l. absurd (omega arith) }; are = refl });
        kept = rw (e, ← h.line) (begin-kept h.kept b);
      };
      line = refl;
    }

    pub begun-other : 4 ≤ c.kind → BlockBegun c old new from to n (record { line = n.line; names = n.names; lines = r; fields = 1 })
    begun-other k = record {
      held = λ h. record {
        line = h.line;
        noted = rw (e, le-ltb c.kind 4 k) h.noted;
        kept = rw (e, ← h.line) (begin-kept h.kept b);
      };
      line = refl;
    }

-- ---- a field is put

module _ (text : List ℕ) (at e : ℕ) (c : Control) (m : Mark) (n : Counts) where
  pub put-none : {old : List ℤ} {from : List ℕ} → c.puts ≡ false → PutBy text at e c m old old from from n n
  put-none f = record { held = λ h. record { line = h.line; noted = rw f h.noted; kept = rw f h.kept }; line = refl }

  pub put-value : {old new : List ℤ} {from : List ℕ} {r : ℕ} → c.puts ≡ true → (m.kind ≡ 97 → ⊥) → PutField old new n.lines n.fields (pos m.value) r
      → PutBy text at e c m old new from from n (record { line = n.line; names = n.names; lines = n.lines; fields = r })
  put-value f k p = record {
    held = λ h. record {
      line = h.line;
      noted = rw (f, ne_eqb m.kind 97 k) h.noted;
      kept = rw (f, ne_eqb m.kind 97 k) (put-kept p h.kept);
    };
    line = refl;
  }

  pub put-variable : {old new : List ℤ} {from to : List ℕ} {r : Counts} → c.puts ≡ true → m.kind ≡ 97 → WordAt text at e → at < e → VariablePut text at e old new from to n r → PutBy text at e c m old new from to n r
  put-variable f k w l v = record {
    held = λ h. record {
      line = v.line ∙ h.line;
      noted = rw (f, eq-eqb m.kind 97 k) (note_held h.noted (rw (← h.noted.are) at v.noted) (w.begins l) (w.is l));
      kept = rw (f, eq-eqb m.kind 97 k, v.lines) (put-kept (rw (← h.noted.are) at v.field) h.kept);
    };
    line = v.line;
  }

-- ---- a line of the text ends

module _ (s : Standing) (m : Mark) (n : Counts) where
  pub ended-none : (m.kind ≡ 10 → ⊥) → EndedBy (control_of s) m n n
  ended-none k = record { held = λ h. record { line = rw (ne_eqb m.kind 10 k) h.line; noted = h.noted; kept = h.kept }; line = omega arith }

  pub ended : m.kind ≡ 10 → EndedBy (control_of s) m n (record { line = n.line + 1; names = n.names; lines = n.lines; fields = n.fields })
  ended k = record { held = λ h. record { line = rw (eq-eqb m.kind 10 k, add-one n.line) (ap suc h.line); noted = h.noted; kept = h.kept }; line = omega arith }

-- ---- a token

-- a variable has bytes, and a mark's number fits a field
pub word_some : {text : List ℕ} {at e : ℕ} {m : Mark} → Marked text at e m → m.kind ≡ 97 → at < e
word_some {text} {at} {e} w k =
    let l = variable-some (take (e - at) (drop at text)) (sym (ap (λ m. m.kind) w.is) ∙ k) in
    let t = length-take (e - at) (drop at text) in
    omega arith

pub value-fits : {text : List ℕ} {at e : ℕ} {m : Mark} → Marked text at e m → m.value < field_end
value-fits {text} {at} {e} w = rw (ap (λ m. m.value) w.is) (value-few (take (e - at) (drop at text)))

moved : {c d : Control} {m : Mark} (w : List ℕ) → m ≡ token_mark w → d ≡ step c m → (p : Reading) → p.control ≡ c → step p.control (token_mark w) ≡ d
moved {c} {d} {m} w mk ct p i = ap (λ x. step x (token_mark w)) i ∙ ap (step c) (sym mk) ∙ sym ct

pub taken : {text : List ℕ} {at e : ℕ} {from : ReadTo} {m : Mark} {s : Standing} {old mid new : List ℤ} {begun begun-after names names-after : List ℕ} {a b r : Counts}
    → m ≡ token_mark (take (e - at) (drop at text)) → control_of s ≡ step (control_of from.standing) m
    → BlockBegun (control_of s) old mid begun begun-after from.counts a → PutBy text at e (control_of s) m mid new names names-after a b → EndedBy (control_of s) m b r
    → Taken text at e from old new begun begun-after names names-after (record { standing = s; counts = r })
unfolding read
taken {text} {at} {e} {from} {m} {s} {old} {mid} {new} {begun} {begun-after} {names} {names-after} {a} {b} {r} mk ct begins puts ends = record {
  held = λ {p} i h. subst (λ x. Held text new begun-after names-after r (reading_after x (token_mark w) w p)) (sym (moved (take (e - at) (drop at text)) mk ct p i)) (subst (λ y. Held text new begun-after names-after r (reading_after (control_of s) y w p)) mk (ends.held (puts.held (begins.held h))));
  control = λ p i. moved (take (e - at) (drop at text)) mk ct p i;
  small = λ h. subst (λ (c : Control). c.kind ≤ 5) (sym ct) (kind-small (control_of from.standing) m h);
  line = let l = ends.line in let k = puts.line in let j = begins.line in omega arith;
}
  where
    w : List ℕ
    w = take (e - at) (drop at text)

-- ---- one that does not fit

same_line : (t u : Bool) (n : ℕ) → u ≡ false → n ≡ cond (t && u) (suc n) n
same_line true u n e = rw e
same_line false u n e = refl

pub misfits : {text : List ℕ} {at e : ℕ} {from : ReadTo} {m : Mark} {what : Expected} {old : List ℤ} {begun names : List ℕ}
    → m ≡ token_mark (take (e - at) (drop at text)) → stepped from.standing (Err what) ≡ step (control_of from.standing) m
    → Misfits text at e from old old begun begun names names (record { reached = from; what = what })
unfolding read
misfits {text} {at} {e} {from} {m} {what} {old} {begun} {names} mk ct = record {
  held = λ {p} i h. subst (λ x. Held text old begun names from.counts (reading_after x (token_mark w) w p)) (sym (moved (take (e - at) (drop at text)) mk ct p i)) (record {
    line = h.line ∙ same_line (eqb (token_mark w).kind 10) (eqb (expected_number what) 0) p.line (ne_eqb _ 0 (expected-some what));
    noted = h.noted;
    kept = h.kept;
  });
  control = λ p i. moved (take (e - at) (drop at text)) mk ct p i;
}
  where
    w : List ℕ
    w = take (e - at) (drop at text)
