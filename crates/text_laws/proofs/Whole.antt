-- No line of a text's number form loses a field: there is always room for what is put.
use mathlib.Core.Path.{◌≡◌, refl, sym, ap, ◌∙◌}
use mathlib.Core.Bool.{Bool, true, false, cond, ◌&&◌, ◌||◌}
use mathlib.Core.List.{List, [], ◌∷◌, ◌++◌}
use Prim.Native.Nat.{ℕ, zero, suc, ◌+◌, ◌-◌, ◌≤◌, ◌<◌}
use native.Mathlib.Omega.{arith}
use lib.Dec.{eqb, ltb, leb}
use lib.IntN.{ℤ, pos}
use lib.ListN.{length, take, length-append, length-take}
use lib.Seq.{take_all}
use borrow.Author.Tests.{eqb-true, ltb-true, leb-true, eqb-false}
use Rattle.sheet_format.specs.Limits.{most_fields}
use Rattle.sheet_format.specs.Line.{Line}
use Rattle.sheet_format.specs.Table.{columns_of, relation, ten}
use Rattle.text_begins.specs.Begins.{letter_of}
use Rattle.text_meaning.specs.Names.{token_mark}
use Rattle.text_meaning.specs.Places.{goes, fails, columns_in, next_block, start_at, comment_at, open_at, term_expected, is_counted, more_at, closed_by, close_at, first_at, row_end_at, next_at, colon_at, relation_at, atom_end_at, row_expected, any_rows_at, step_from, step}
use Rattle.text_meaning.specs.Tokens.{tokens}
use Rattle.text_meaning.specs.Reading.{Reading, field_for, names_in, lines_in, grown, read, read_all, unread, reading_of}
use Rattle.text_meaning.specs.Control.{Control}
use Rattle.text_meaning.specs.Control.{Mark}
use Rattle.text_meaning.proofs.Bounds.{either}

-- either way of a test, which is known on it
by-test : {A : Type 0} (P : A → Type 0) (t : Bool) {x y : A} → (t ≡ true → P x) → (t ≡ false → P y) → P (cond t x y)
by-test P true p q = p refl
by-test P false p q = q refl

-- ---- the columns of a relation: at least one, at most four

columns-at : (n : ℕ) → n < 10 → (0 < columns_of ten (pos (suc n))) × (columns_of ten (pos (suc n)) ≤ 4)
unfolding columns_of relation
columns-at zero h = omega arith
columns-at (suc zero) h = omega arith
columns-at (suc (suc zero)) h = omega arith
columns-at (suc (suc (suc zero))) h = omega arith
columns-at (suc (suc (suc (suc zero)))) h = omega arith
columns-at (suc (suc (suc (suc (suc zero))))) h = omega arith
columns-at (suc (suc (suc (suc (suc (suc zero)))))) h = omega arith
columns-at (suc (suc (suc (suc (suc (suc (suc zero))))))) h = omega arith
columns-at (suc (suc (suc (suc (suc (suc (suc (suc zero)))))))) h = omega arith
columns-at (suc (suc (suc (suc (suc (suc (suc (suc (suc zero))))))))) h = omega arith
columns-at (suc (suc (suc (suc (suc (suc (suc (suc (suc (suc n)))))))))) h = absurd (omega arith)

abbrev Some : ℕ → Type 0
Some n = (0 < n) × (n ≤ 4)

columns-some : (r : ℕ) → (r ≡ 0 → ⊥) → Some (columns_in r)
unfolding columns_in
columns-some zero h = absurd (h refl)
columns-some (suc n) h = by-test Some (leb (suc n) 10) (λ e. let l = leb-true (suc n) 10 e in columns-at n (omega arith)) (λ e. omega arith)

-- ---- room in the last line

-- the fields of the last line after a token, where it had n before
abbrev pub width : Control → ℕ → ℕ
width c n = cond c.puts (suc (cond c.begins 1 n)) (cond c.begins 1 n)

-- the last line has room for as many columns as may come, and where one may come at once (2 to 4) there is one
pub record Room (c : Control) (n : ℕ) : Type 0 where
  pub some : 2 ≤ c.place → c.place ≤ 4 → 0 < c.left
  pub all : n + c.left ≤ most_fields

module _ (c : Control) (m : Mark) (n : ℕ) (r : Room c n) where
  abbrev Leaves : Control → Type 0
  Leaves d = Room d (width d n)

  goes-room : (p : ℕ) → (2 ≤ p → p ≤ 4 → 0 < c.left) → Leaves (goes c p)
  goes-room p s = record { some = s; all = r.all }

  fails-room : (what : ℕ) → Leaves (fails c what)
  fails-room what = record { some = r.some; all = r.all }

  start-room : Leaves (start_at c m)
  unfolding start_at
  start-room =
      either Leaves (eqb m.kind 10) (goes-room 0 (omega arith))
      (either Leaves (eqb m.kind 35) (goes-room 1 (omega arith))
      (either Leaves (eqb m.letter (letter_of (next_block c.block m.letter))) (record { some = omega arith; all = omega arith }) (fails-room (next_block c.block m.letter))))

  term-room : 2 ≤ c.place → c.place ≤ 4 → (what : ℕ) → Leaves (term_expected c m what)
  unfolding term_expected
  term-room a b what =
      let s = r.some a b in
      let l = r.all in
      either Leaves (eqb m.kind 48 || eqb m.kind 97) (record { some = omega arith; all = omega arith }) (fails-room what)

  more_room : Leaves (more_at c)
  unfolding more_at
  more_room =
      by-test Leaves (ltb 0 c.left) (λ e. let l = ltb-true 0 c.left e in goes-room 4 (omega arith)) (λ e. either Leaves (is_counted c) (fails-room 10) (fails-room 11))

  closed-room : Leaves (closed_by c)
  unfolding closed_by
  closed-room = either Leaves (eqb c.kind 4) (goes-room 8 (omega arith)) (either Leaves (eqb c.kind 5) (goes-room 11 (omega arith)) (goes-room 6 (omega arith)))

  close_room : Leaves (close_at c)
  unfolding close_at
  close_room = either Leaves (is_counted c) (either Leaves (eqb c.left 0) closed-room (fails-room 10)) closed-room

  row-end-room : (what : ℕ) → Leaves (row_end_at c m what)
  unfolding row_end_at
  row-end-room what = either Leaves (eqb m.kind 59) (goes-room 10 (omega arith)) (either Leaves (eqb m.kind 10) (goes-room 0 (omega arith)) (fails-room what))

  row_room : (what : ℕ) → Leaves (row_expected c m what)
  unfolding row_expected
  row_room what = either Leaves (eqb m.kind 40) (record { some = omega arith; all = omega arith }) (either Leaves (eqb m.kind 48) (record { some = omega arith; all = omega arith }) (fails-room what))

  relation-room : Leaves (relation_at c m)
  unfolding relation_at
  relation-room =
      either Leaves (eqb m.kind 65)
      (by-test Leaves (eqb m.value 0) (λ e. fails-room 9) (λ e. let s = columns-some m.value (eqb-false m.value 0 e) in record { some = λ a b. s.0; all = let q = s.1 in omega arith }))
      (fails-room 9)

  from-room : (p : ℕ) → p ≡ c.place → Leaves (step_from p c m)
  unfolding step_from comment_at open_at first_at next_at colon_at atom_end_at any_rows_at
  from-room p i =
      either Leaves (eqb p 0) start-room
      (either Leaves (eqb p 1) (either Leaves (eqb m.kind 10) (goes-room 0 (omega arith)) (goes-room 1 (omega arith)))
      (by-test Leaves (eqb p 2) (λ e. let q = eqb-true p 2 e in let s = r.some (omega arith) (omega arith) in either Leaves (eqb m.kind 40) (either Leaves (eqb c.kind 4) (goes-room 4 (omega arith)) (goes-room 3 (omega arith))) (fails-room 4))
      (λ _. by-test Leaves (eqb p 3) (λ e. let q = eqb-true p 3 e in either Leaves (eqb m.kind 41) close_room (term-room (omega arith) (omega arith) 5))
      (λ _. by-test Leaves (eqb p 4) (λ e. let q = eqb-true p 4 e in term-room (omega arith) (omega arith) 6)
      (λ _. either Leaves (eqb p 5) (either Leaves (eqb m.kind 44) more_room (either Leaves c.bare (row-end-room 16) (either Leaves (eqb m.kind 41) close_room (fails-room 7))))
      (either Leaves (eqb p 6) (either Leaves (eqb m.kind 58) (goes-room 7 (omega arith)) (fails-room 8))
      (either Leaves (eqb p 7) relation-room
      (either Leaves (eqb p 8) (either Leaves (eqb m.kind 44) (goes-room 7 (omega arith)) (either Leaves (eqb c.block 3) (either Leaves (eqb m.kind 61) (goes-room 9 (omega arith)) (fails-room 13)) (either Leaves (eqb m.kind 10) (goes-room 0 (omega arith)) (fails-room 12))))
      (either Leaves (eqb p 9) (either Leaves (eqb m.kind 10) (goes-room 0 (omega arith)) (row_room 14))
      (either Leaves (eqb p 10) (row_room 15)
      (row-end-room 17)))))))))))

  step_room : Leaves (step c m)
  unfolding step
  step_room = from-room c.place refl

-- ---- readings

abbrev last_fields : List Line → ℕ
last_fields [] = 0
last_fields (l ∷ ls) = length l

pub record Whole (p : Reading) : Type 0 where
  pub room : Room p.control (last_fields p.lines)

-- a field more in the last line, whatever it has
abbrev pub longer : ℤ → List Line → List Line
longer z [] = []
longer z (l ∷ ls) = (l ++ (z ∷ [])) ∷ ls

uncut : (z : ℤ) (ls : List Line) → suc (last_fields ls) ≤ most_fields → grown z ls ≡ longer z ls
unfolding grown
uncut z [] h = refl
uncut z (l ∷ ls) h = ap (λ k. k ∷ ls) (take_all most_fields (l ++ (z ∷ [])) (rw (length-append l (z ∷ [])) (omega arith)))

grown-room : (c : Control) (z : ℤ) (ls : List Line) → Room c (suc (last_fields ls)) → Room c (last_fields (grown z ls))
unfolding grown
grown-room c z [] r = record { some = r.some; all = let a = r.all in omega arith }
grown-room c z (l ∷ ls) r =
    let a = r.all in
    let t = length-take most_fields (l ++ (z ∷ [])) in
    let k = length-append l (z ∷ []) in
    record { some = r.some; all = omega arith }

module _ (p : Reading) (h : Whole p) (w : List ℕ) where
  read_whole : Whole (read p w)
  unfolding read
  read_whole = record { room = by d.puts d.begins (step_room p.control (token_mark w) (last_fields p.lines) h.room) }
    where
      d : Control
      d = step p.control (token_mark w)

      z : ℤ
      z = field_for (token_mark w) w (names_in (step p.control (token_mark w)) p.names)

      by : (a b : Bool)
          → Room (step p.control (token_mark w)) (cond a (suc (cond b 1 (last_fields p.lines))) (cond b 1 (last_fields p.lines)))
          → Room (step p.control (token_mark w)) (last_fields (cond a (grown z (cond b ((pos (step p.control (token_mark w)).kind ∷ []) ∷ p.lines) p.lines)) (cond b ((pos (step p.control (token_mark w)).kind ∷ []) ∷ p.lines) p.lines)))
      by true true r = grown-room (step p.control (token_mark w)) z ((pos (step p.control (token_mark w)).kind ∷ []) ∷ p.lines) r
      by true false r = grown-room (step p.control (token_mark w)) z p.lines r
      by false true r = r
      by false false r = r

  -- the field that a token puts is never cut off
  pub put_whole : (z : ℤ) → (step p.control (token_mark w)).puts ≡ true → grown z (lines_in (step p.control (token_mark w)) p.lines) ≡ longer z (lines_in (step p.control (token_mark w)) p.lines)
  put_whole z e = by (step p.control (token_mark w)).begins (rw e at (step_room p.control (token_mark w) (last_fields p.lines) h.room).all)
    where
      by : (b : Bool) → suc (cond b 1 (last_fields p.lines)) + (step p.control (token_mark w)).left ≤ most_fields
          → grown z (cond b ((pos (step p.control (token_mark w)).kind ∷ []) ∷ p.lines) p.lines) ≡ longer z (cond b ((pos (step p.control (token_mark w)).kind ∷ []) ∷ p.lines) p.lines)
      by true r = uncut z ((pos (step p.control (token_mark w)).kind ∷ []) ∷ p.lines) (omega arith)
      by false r = uncut z p.lines (omega arith)

pub run-whole : (p : Reading) (ws : List (List ℕ)) → Whole p → Whole (read_all p ws)
unfolding read_all
run-whole p [] h = h
run-whole p (w ∷ ws) h = let r = read_whole p h w in either Whole (eqb (read p w).control.expected 0) (run-whole (read p w) ws r) r

pub text-whole : (t : List ℕ) → Whole (reading_of t)
unfolding reading_of
text-whole t = run-whole unread (tokens t ++ ([] ∷ [])) (record { room = record { some = omega arith; all = omega arith } })
