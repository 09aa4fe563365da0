-- The lines of a text's number form are lines of a sheet: they are what its words give back, whatever the text.
use mathlib.Core.Path.{◌≡◌, refl, sym, ap, ◌∙◌}
use mathlib.Core.Bool.{Bool, true, false, cond, ◌&&◌}
use mathlib.Core.List.{List, [], ◌∷◌, ◌++◌, reverse, reverse-cons}
use Prim.Native.Nat.{ℕ, zero, suc, ◌+◌, ◌≤◌, ◌<◌}
use native.Mathlib.Omega.{arith}
use lib.Dec.{eqb, ltb, leb}
use lib.IntN.{ℤ, pos, negsuc}
use lib.ListN.{length, take, length-append, length-take}
use borrow.Author.Tests.{lt-ltb, leb-false}
use Rattle.sheet_format.specs.Limits.{field_end, field_minus_end, most_fields, most_variables}
use Rattle.sheet_format.specs.Field.{fits}
use Rattle.sheet_format.specs.Line.{Line, all, word_lines, words_of}
use Rattle.sheet_format.proofs.Lists.{and_left, and_right, and_both}
use Rattle.sheet_format.proofs.Good.{FittingLine, Goods}
use Rattle.sheet_format.proofs.LineLaws.{words_back}
use Rattle.text_meaning.specs.Tokens.{tokens}
use Rattle.text_meaning.specs.Names.{are_same_bytes, place_in, noted, token_mark}
use Rattle.text_meaning.specs.Places.{step}
use Rattle.text_meaning.specs.Reading.{Reading, field_for, grown, lines_in, names_in, reading_after, read, read_all, unread, reading_of, form_of}
use Rattle.text_meaning.specs.Control.{Control}
use Rattle.text_meaning.specs.Control.{Mark}
use Rattle.text_meaning.proofs.Bounds.{either, value-few, kind-small}

-- ---- fields that fit

fit-take : (n : ℕ) (l : List ℤ) → all fits l ≡ true → all fits (take n l) ≡ true
fit-take zero l h = refl
fit-take (suc n) [] h = refl
fit-take (suc n) (z ∷ l) h = and_both (fits z) (all fits (take n l)) (and_left (fits z) (all fits l) h) (fit-take n l (and_right (fits z) (all fits l) h))

fit-more : (l : List ℤ) (z : ℤ) → all fits l ≡ true → fits z ≡ true → all fits (l ++ (z ∷ [])) ≡ true
fit-more [] z h k = and_both (fits z) true k refl
fit-more (x ∷ l) z h k = and_both (fits x) (all fits (l ++ (z ∷ []))) (and_left (fits x) (all fits l) h) (fit-more l z (and_right (fits x) (all fits l) h) k)

place-few : (w : List ℕ) (ns : List (List ℕ)) → place_in w ns ≤ length ns
unfolding place_in
place-few w [] = omega arith
place-few w (n ∷ ns) = let a = place-few w ns in either (λ k. k ≤ suc (length ns)) (are_same_bytes w n) (omega arith) (omega arith)

-- no more names than a block may have variables
abbrev FewNames : List (List ℕ) → Type 0
FewNames ns = length ns ≤ most_variables

noted-few : (w : List ℕ) (ns : List (List ℕ)) → length ns ≤ most_variables → length (noted w ns) ≤ most_variables
unfolding noted
noted-few w ns h = either FewNames (ltb (place_in w ns) (length ns)) {x = ns} h (by (leb most_variables (length ns)) refl)
  where
    by : (t : Bool) → leb most_variables (length ns) ≡ t → length (cond t ns (ns ++ (w ∷ []))) ≤ most_variables
    by true e = h
    by false e = let l = leb-false most_variables (length ns) e in rw (length-append ns (w ∷ [])) (omega arith)

-- ---- readings

pub record Sound (p : Reading) : Type 0 where
  pub lines : Goods p.lines
  pub names : length p.names ≤ most_variables
  pub kind : p.control.kind ≤ 5

field_fits : (w : List ℕ) (ns : List (List ℕ)) → length ns ≤ most_variables → fits (field_for (token_mark w) w ns) ≡ true
field_fits w ns h =
    let a = place-few w ns in
    either (λ z. fits z ≡ true) (eqb (token_mark w).kind 97) (lt-ltb (suc (place_in w ns)) field_minus_end (omega arith)) (lt-ltb (token_mark w).value field_end (value-few w))

grown-good : (z : ℤ) (ls : List Line) → fits z ≡ true → Goods ls → Goods (grown z ls)
unfolding grown
grown-good z [] k g = tt
grown-good z (l ∷ ls) k g =
    let f = length-take most_fields (l ++ (z ∷ [])) in
    (record { few = omega arith; fitting = fit-take most_fields (l ++ (z ∷ [])) (fit-more l z g.0.fitting k) }, g.1)

module _ (p : Reading) (s : Sound p) (w : List ℕ) where
  read-sound : Sound (read p w)
  unfolding read
  read-sound =
      let k = kind-small p.control (token_mark w) s.kind in
      let d = step p.control (token_mark w) in
      let m = token_mark w in
      let n = either FewNames (d.begins && ltb d.kind 4) {x = []} {y = p.names} (omega arith) s.names in
      let l = either Goods d.begins {x = (pos d.kind ∷ []) ∷ p.lines} {y = p.lines} (record { few = omega arith; fitting = and_both (ltb d.kind field_end) true (lt-ltb d.kind field_end (omega arith)) refl }, s.lines) s.lines in
      record {
        lines = either Goods d.puts (grown-good (field_for m w (names_in d p.names)) (lines_in d p.lines) (field_fits w (names_in d p.names) n) l) l;
        names = either FewNames (d.puts && eqb m.kind 97) {x = noted w (names_in d p.names)} {y = names_in d p.names} (noted-few w (names_in d p.names) n) n;
        kind = k;
      }

pub run_sound : (p : Reading) (ws : List (List ℕ)) → Sound p → Sound (read_all p ws)
unfolding read_all
run_sound p [] s = s
run_sound p (w ∷ ws) s = let r = read-sound p s w in either Sound (eqb (read p w).control.expected 0) (run_sound (read p w) ws r) r

pub text-sound : (t : List ℕ) → Sound (reading_of t)
unfolding reading_of
text-sound t = run_sound unread (tokens t ++ ([] ∷ [])) (record { lines = tt; names = omega arith; kind = omega arith })

-- ---- the sheet's lines

goods_more : (ls : List Line) (l : Line) → Goods ls → FittingLine l → Goods (ls ++ (l ∷ []))
goods_more [] l g f = (f, tt)
goods_more (m ∷ ls) l g f = (g.0, goods_more ls l g.1 f)

pub goods_back : (ls : List Line) → Goods ls → Goods (reverse ls)
goods_back [] g = tt
goods_back (l ∷ ls) g = rw (reverse-cons l ls) (goods_more (reverse ls) l (goods_back ls g.1) g.0)

-- the words of a text's number form give back the lines that were read
pub form-lines : (t : List ℕ) → word_lines (form_of (reading_of t)) ≡ reverse (reading_of t).lines
unfolding form_of
form-lines t = words_back (reverse (reading_of t).lines) (goods_back (reading_of t).lines (text-sound t).lines)
