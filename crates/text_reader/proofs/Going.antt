-- Running on: what is read from here on is what the definition reads.
use mathlib.Core.Path.{◌≡◌, refl, sym, ap, ◌∙◌, subst}
use mathlib.Core.Bool.{Bool, true, false, cond}
use mathlib.Core.List.{List, [], ◌∷◌, ◌++◌}
use Prim.Native.Nat.{ℕ, ◌+◌, ◌-◌, ◌≤◌, ◌<◌}
use native.Mathlib.Omega.{arith}
use lib.Dec.{eqb}
use lib.IntN.{ℤ, pos}
use lib.ListN.{length, get_or, take, drop, replicate, length-replicate, drop_of_length-le}
use borrow.Author.Tests.{eq-eqb, ne_eqb}
use Rattle.sheet_format.specs.Limits.{most_lines, most_words}
use Rattle.sheet_format.specs.Line.{words_of}
use Rattle.text_begins.specs.Begins.{is_blank_byte}
use Rattle.text_meaning.specs.Tokens.{tokens, behind}
use Rattle.text_meaning.specs.Reading.{Reading, read, read_all, unread, reading_of}
use Rattle.text_meaning.specs.Control.{Control}
use Rattle.text_tokens.specs.Ends.{TokenBegins, TokenEnds, Skipped}
use Rattle.text_reader.specs.declared.Counts.{Counts}
use Rattle.text_reader.specs.declared.ReadTo.{ReadTo}
use Rattle.text_reader.specs.declared.Misfit.{Misfit}
use Rattle.std.specs.Prelude.{Result, Ok, Err}
use Rattle.text_meaning.specs.Numbers.{control_of, stepped}
use Rattle.text_meaning.specs.declared.Place.TheVariants.{Start}
use Rattle.text_meaning.proofs.Numbers.{expected-some}
use Rattle.text_reader.specs.Held.{first_token, name_at, LinesKept, Held, HeldSome, WordAt, Taken, Misfits, TakenBy, ReadUp, ReadAs}

pub record Going (text : List ℕ) (words : List ℤ) (begun names : List ℕ) (r : ReadTo) (at : ℕ) : Type 0 where
  pub reading : Reading
  pub control : reading.control ≡ control_of r.standing
  pub held : Held text words begun names r.counts reading
  pub rest : read_all reading (tokens (drop at text) ++ ([] ∷ [])) ≡ reading_of text
  pub small : r.standing.kind ≤ 5
  pub line : r.counts.line ≤ at + 1
  pub inside : at ≤ length text
  pub begins : at < length text → is_blank_byte (get_or text at 0) ≡ false

-- ---- the start

held_none : (text : List ℕ) (words : List ℤ) (begun names : List ℕ) → words ≡ replicate most_words (pos 0) → begun ≡ replicate most_lines 0 → length names ≡ 12
    → Held text words begun names (record { line = 1; names = 0; lines = 0; fields = 0 }) unread
unfolding words_of
held_none text words begun names w b l = record {
  line = refl;
  noted = record { size = l; few = omega arith; begin = record { each = λ i h. absurd (omega arith) }; are = refl };
  kept = record {
    room = record { words_size = ap length w ∙ length-replicate most_words (pos 0); begun_size = ap length b ∙ length-replicate {A = ℕ} most_lines 0 };
    count = omega arith;
    same = refl;
    fit = tt;
    last = refl;
    stored = λ h. record { form = w; places = b };
  };
}

pub going_start : {text : List ℕ} {words : List ℤ} {begun names : List ℕ} {at : ℕ} → words ≡ replicate most_words (pos 0) → begun ≡ replicate most_lines 0 → length names ≡ 12 → Skipped text 0 at
    → Going text words begun names (record { standing = record { place = Start; block = 0; kind = 0; relation = 0; left = 0; bare = false; begins = false; puts = false }; counts = record { line = 1; names = 0; lines = 0; fields = 0 } }) at
unfolding reading_of
going_start {text} {words} {begun} {names} {at} w b l s = record {
  reading = unread;
  control = refl;
  held = held_none text words begun names w b l;
  rest = ap (λ ts. read_all unread (ts ++ ([] ∷ []))) (sym s.tokens);
  small = omega arith;
  line = omega arith;
  inside = s.inside;
  begins = s.begins;
}

-- ---- one token

module _ {text : List ℕ} {words : List ℤ} {begun names : List ℕ} {r : ReadTo} {at : ℕ} (g : Going text words begun names r at) where
  pub going_some : HeldSome text words begun names r.counts
  going_some = record { reading = g.reading; held = g.held }

  pub going_begins : at < length text → TokenBegins text at
  going_begins l = record { inside = l; byte = g.begins l }

  pub going_word : {e : ℕ} → at < length text → TokenEnds text at e → WordAt text at e
  going_word l t = record { order = let a = t.after in omega arith; inside = t.inside; begins = λ h. going_begins l; is = λ h. ap first_token t.token }

  pub end-word : WordAt text at at
  end-word = record { order = omega arith; inside = g.inside; begins = λ h. absurd (omega arith); is = λ h. absurd (omega arith) }

  read_as : {new : List ℤ} {begun-after names-after : List ℕ} {p : Reading} {c : Control} {n : Counts} → p.control ≡ c → Held text new begun-after names-after n p → p ≡ reading_of text → ReadUp text new begun-after c n
  read_as {new} {begun-after} {names-after} {p} {c} {n} k h i = record {
    control = subst (λ (p : Reading). p.control ≡ c) i k;
    line = subst (λ (p : Reading). n.line ≡ p.line) i h.line;
    kept = subst (λ (p : Reading). LinesKept new begun-after n.lines n.fields p.lines p.starts) i h.kept;
  }

  stepped_on : {e : ℕ} → TokenEnds text at e → read_all g.reading (take (e - at) (drop at text) ∷ (tokens (drop e text) ++ ([] ∷ []))) ≡ reading_of text
  stepped_on ends = ap (λ ts. read_all g.reading (ts ++ ([] ∷ []))) (sym ends.token) ∙ g.rest

  module _ {e : ℕ} (ends : TokenEnds text at e) {new : List ℤ} {begun-after names-after : List ℕ} where
    pub going_fails : {f : Misfit} → Misfits text at e r words new begun begun-after names names-after f → ReadUp text new begun-after (stepped f.reached.standing (Err f.what)) f.reached.counts
    unfolding read_all
    going_fails {f} k =
        let c = k.control g.reading g.control in
        let x : eqb (read g.reading (take (e - at) (drop at text))).control.expected 0 ≡ false = ap (λ (c : Control). eqb c.expected 0) c ∙ ne_eqb _ 0 (expected-some f.what) in
        read_as c (k.held g.control g.held) (rw x at (stepped_on ends))

    pub going_next : {t : ReadTo} {next : ℕ} → Taken text at e r words new begun begun-after names names-after t → Skipped text e next → Going text new begun-after names-after t next
    unfolding read_all
    going_next {t} {next} k s =
        let c = k.control g.reading g.control in
        let x : eqb (read g.reading (take (e - at) (drop at text))).control.expected 0 ≡ true = ap (λ (c : Control). eqb c.expected 0) c in
        record {
          reading = read g.reading (take (e - at) (drop at text));
          control = c;
          held = k.held g.control g.held;
          rest = ap (λ ts. read_all (read g.reading (take (e - at) (drop at text))) (ts ++ ([] ∷ []))) (sym s.tokens) ∙ rw x at (stepped_on ends);
          small = k.small g.small;
          line = let l = k.line in let j = g.line in let a = ends.after in let b = s.after in omega arith;
          inside = s.inside;
          begins = s.begins;
        }

  -- ---- the end of the text

  end_read : length text ≤ at → read g.reading (take (at - at) (drop at text)) ≡ reading_of text
  unfolding read_all behind
  end_read l = ap (read g.reading) none ∙ sym (both (eqb (read g.reading []).control.expected 0) (read g.reading [])) ∙ ap (λ s. read_all g.reading (behind [] s ++ ([] ∷ []))) (sym (drop_of_length-le text l)) ∙ g.rest
    where
      none : take (at - at) (drop at text) ≡ []
      none = let z : at - at ≡ 0 = omega arith in rw z

      both : (b : Bool) (p : Reading) → cond b p p ≡ p
      both true p = refl
      both false p = refl

  pub going_ends : (new : List ℤ) (begun-after names-after : List ℕ) (t : Result ReadTo Misfit) → TakenBy text at at r words new begun begun-after names names-after t → length text ≤ at → ReadAs text new begun-after t
  going_ends new begun-after names-after (Ok t) k l = read_as (k.control g.reading g.control) (k.held g.control g.held) (end_read l)
  going_ends new begun-after names-after (Err f) k l = read_as (k.control g.reading g.control) (k.held g.control g.held) (end_read l)
