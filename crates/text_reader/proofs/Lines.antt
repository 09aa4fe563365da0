-- Laws of the lines that are held in lent words: one begins, and a field is put into the last.
use mathlib.Core.Path.{◌≡◌, refl, sym, ap, ◌∙◌, subst}
use mathlib.Core.Bool.{Bool, true, false, cond}
use mathlib.Core.List.{List, [], ◌∷◌, ◌++◌, reverse, reverse-cons, append_assoc}
use mathlib.Core.Logic.{◌⊎◌, inl, inr, ⊎_elim}
use Prim.Native.Nat.{ℕ, zero, suc, ◌+◌, ◌-◌, ◌*◌, ◌≤◌, ◌<◌, min}
use native.Mathlib.Omega.{arith}
use lib.Dec.{eqb, ltb, leb}
use lib.IntN.{ℤ, pos}
use lib.ListN.{length, take, set, replicate, length-append, length-set, length-replicate, replicate-append-replicate}
use lib.Seq.{set-append_left, set_at, take_all, take_at}
use borrow.Author.Tests.{eq-eqb, ne_eqb, lt-ltb, le-ltb, le-leb, lt-leb}
use Rattle.sheet_format.specs.Limits.{most_lines, most_words}
use Rattle.list_laws.proofs.Order.{less?}
use Rattle.sheet_format.specs.Line.{Line, gather, line_words, words_of}
use Rattle.sheet_format.proofs.Lists.{append-nil, gather_append}
use Rattle.text_meaning.specs.Reading.{grown}
use Rattle.text_reader.specs.Held.{ReaderRoom, BegunLine, PutField, Fit, last_fields, Stored, LinesKept}

-- ---- lists

set-behind : {A : Type 0} (xs ys : List A) (i n : ℕ) (a : A) → n ≡ length xs + i → set (xs ++ ys) n a ≡ xs ++ set ys i a
set-behind [] ys i n a e = let q : n ≡ i = omega arith in rw q
set-behind (x ∷ xs) ys i zero a e = absurd (omega arith)
set-behind (x ∷ xs) ys i (suc n) a e = ap (λ r. x ∷ r) (set-behind xs ys i n a (omega arith))

-- ---- the words of lines

line-length : (l : Line) → length l ≤ 6 → length (line_words l) ≡ 7
unfolding line_words
line-length l h = simp (length-append, length-replicate) (omega arith)

form-more : (l : Line) (ls : List Line) → words_of (reverse (l ∷ ls)) ≡ words_of (reverse ls) ++ line_words l
unfolding words_of
form-more l ls =
    ap (gather line_words) (reverse-cons l ls)
    ∙ gather_append line_words (reverse ls) (l ∷ [])
    ∙ ap (λ r. gather line_words (reverse ls) ++ r) (append-nil (line_words l))

pub form-length : (ls : List Line) → Fit ls → length (words_of (reverse ls)) ≡ length ls * 7
unfolding words_of
form-length [] f = refl
form-length (l ∷ ls) f =
    let a = form-length ls f.2 in
    let b = line-length l f.1 in
    ap length (form-more l ls) ∙ length-append (words_of (reverse ls)) (line_words l) ∙ omega arith

-- a line with one field more
line-grows : (l : Line) (z : ℤ) (f : ℕ) → f ≡ length l → f < 6 → set (set (line_words l) 0 (pos (f + 1))) (1 + f) z ≡ line_words (l ++ (z ∷ []))
unfolding line_words
line-grows l z f e h =
    let s : 1 + f ≡ suc f = omega arith in
    let r : 6 - length l ≡ suc (5 - f) = omega arith in
    let n : length (l ++ (z ∷ [])) ≡ f + 1 = length-append l (z ∷ []) ∙ omega arith in
    let m : 6 - (f + 1) ≡ 5 - f = omega arith in
    rw (s, r, n, m) (ap (λ t. pos (f + 1) ∷ t) (set_at l (pos 0) (replicate (5 - f) (pos 0)) z f (sym e) ∙ sym (append_assoc l (z ∷ []) (replicate (5 - f) (pos 0)))))

-- ---- a line begins

module _ (ws : List ℤ) (bs : List ℕ) (ls : List Line) (ss : List ℕ) (fit : Fit ls) (n : ℕ) (is : n ≡ length ls) (room : n < most_lines) (same : length ss ≡ length ls) (k line : ℕ) where
  begin-form : Stored ws bs ls ss → set (set ws (n * 7) (pos 1)) (n * 7 + 1) (pos k) ≡ words_of (reverse ((pos k ∷ []) ∷ ls)) ++ replicate (most_words - suc (length ls) * 7) (pos 0)
  unfolding line_words
  begin-form s =
      let F = words_of (reverse ls) in
      let R = replicate (most_words - suc (length ls) * 7) (pos 0) in
      let a = form-length ls fit in
      let c : most_words - length ls * 7 ≡ 7 + (most_words - suc (length ls) * 7) = omega arith in
      let z : replicate (most_words - length ls * 7) (pos 0) ≡ replicate 7 (pos 0) ++ R = ap (λ m. replicate m (pos 0)) c ∙ sym (replicate-append-replicate 7 (most_words - suc (length ls) * 7) (pos 0)) in
      let b : ws ≡ F ++ (replicate 7 (pos 0) ++ R) = s.form ∙ ap (λ t. F ++ t) z in
      ap (λ t. set (set t (n * 7) (pos 1)) (n * 7 + 1) (pos k)) b
      ∙ ap (λ t. set t (n * 7 + 1) (pos k)) (set-behind F (replicate 7 (pos 0) ++ R) 0 (n * 7) (pos 1) (omega arith))
      ∙ set-behind F (set (replicate 7 (pos 0) ++ R) 0 (pos 1)) 1 (n * 7 + 1) (pos k) (omega arith)
      ∙ sym (append_assoc F (line_words (pos k ∷ [])) R)
      ∙ ap (λ t. t ++ R) (sym (form-more (pos k ∷ []) ls))

  begin-places : Stored ws bs ls ss → set bs n line ≡ reverse (line ∷ ss) ++ replicate (most_lines - suc (length ls)) 0
  begin-places s =
      let B = reverse ss in
      let R = replicate {A = ℕ} (most_lines - suc (length ls)) 0 in
      let c : most_lines - length ls ≡ suc (most_lines - suc (length ls)) = omega arith in
      let b : bs ≡ B ++ (0 ∷ R) = s.places ∙ ap (λ m. B ++ replicate {A = ℕ} m 0) c in
      let l : length B ≡ n = back-length ss ∙ omega arith in
      ap (λ t. set t n line) b ∙ set_at B 0 R line n l ∙ sym (append_assoc B (line ∷ []) R) ∙ ap (λ t. t ++ R) (sym (reverse-cons line ss))
    where
      back-length : (l : List ℕ) → length (reverse l) ≡ length l
      back-length [] = refl
      back-length (x ∷ l) = let a = back-length l in ap length (reverse-cons x l) ∙ length-append (reverse l) (x ∷ []) ∙ omega arith

  begin-stored : Stored ws bs ls ss → Stored (set (set ws (n * 7) (pos 1)) (n * 7 + 1) (pos k)) (set bs n line) ((pos k ∷ []) ∷ ls) (line ∷ ss)
  begin-stored s = record { form = begin-form s; places = begin-places s }

pub begin-kept : {ws new : List ℤ} {bs to : List ℕ} {n f r : ℕ} {ls : List Line} {ss : List ℕ} {k line : ℕ}
    → LinesKept ws bs n f ls ss → BegunLine ws new bs to n k line r → LinesKept new to r 1 ((pos k ∷ []) ∷ ls) (line ∷ ss)
begin-kept {ws} {new} {bs} {to} {n} {f} {r} {ls} {ss} {k} {line} h b = ⊎_elim fits full (less? n most_lines)
  where
    fits : n < most_lines → LinesKept new to r 1 ((pos k ∷ []) ∷ ls) (line ∷ ss)
    fits l =
        let t = lt-leb most_lines n l in
        let w : new ≡ set (set ws (n * 7) (pos 1)) (n * 7 + 1) (pos k) = rw t at b.words in
        let g : to ≡ set bs n line = rw t at b.begun in
        let e : r ≡ n + 1 = rw t at b.count in
        let c = h.count in
        let i : n ≡ length ls = omega arith in
        let wl : length new ≡ most_words = ap length w ∙ simp length-set h.room.words_size in
        let gl : length to ≡ most_lines = ap length g ∙ simp length-set h.room.begun_size in
        record {
          room = record { words_size = wl; begun_size = gl };
          count = omega arith;
          same = ap suc h.same;
          fit = (omega arith, omega arith, h.fit);
          last = refl;
          stored = λ m. rw (w, g) (begin-stored ws bs ls ss h.fit n i l h.same k line (h.stored (omega arith)));
        }

    full : most_lines ≤ n → LinesKept new to r 1 ((pos k ∷ []) ∷ ls) (line ∷ ss)
    full l =
        let t = le-leb most_lines n l in
        let w : new ≡ ws = rw t at b.words in
        let g : to ≡ bs = rw t at b.begun in
        let e : r ≡ most_lines + 1 = rw t at b.count in
        let c = h.count in
        record {
          room = record { words_size = ap length w ∙ h.room.words_size; begun_size = ap length g ∙ h.room.begun_size };
          count = omega arith;
          same = ap suc h.same;
          fit = (omega arith, omega arith, h.fit);
          last = refl;
          stored = λ m. absurd (omega arith);
        }

-- ---- a field is put

module _ (ws : List ℤ) (bs : List ℕ) (l : Line) (ls : List Line) (ss : List ℕ) (fit : Fit (l ∷ ls)) (f : ℕ) (is : f ≡ length l) (few : f < 6) (z : ℤ) where
  put-form : Stored ws bs (l ∷ ls) ss → set (set ws (length ls * 7) (pos (f + 1))) (length ls * 7 + 1 + f) z ≡ words_of (reverse ((l ++ (z ∷ [])) ∷ ls)) ++ replicate (most_words - suc (length ls) * 7) (pos 0)
  put-form s =
      let m = length ls in
      let F = words_of (reverse ls) in
      let R = replicate (most_words - suc m * 7) (pos 0) in
      let L = line_words l in
      let a = form-length ls fit.2 in
      let c = line-length l fit.1 in
      let d : length (set L 0 (pos (f + 1))) ≡ 7 = simp length-set c in
      let b : ws ≡ F ++ (L ++ R) = s.form ∙ ap (λ t. t ++ R) (form-more l ls) ∙ append_assoc F L R in
      ap (λ t. set (set t (m * 7) (pos (f + 1))) (m * 7 + 1 + f) z) b
      ∙ ap (λ t. set t (m * 7 + 1 + f) z) (set-behind F (L ++ R) 0 (m * 7) (pos (f + 1)) (omega arith) ∙ ap (λ t. F ++ t) (set-append_left L R 0 (pos (f + 1)) (omega arith)))
      ∙ set-behind F (set L 0 (pos (f + 1)) ++ R) (1 + f) (m * 7 + 1 + f) z (omega arith)
      ∙ ap (λ t. F ++ t) (set-append_left (set L 0 (pos (f + 1))) R (1 + f) z (omega arith) ∙ ap (λ t. t ++ R) (line-grows l z f is few))
      ∙ sym (append_assoc F (line_words (l ++ (z ∷ []))) R)
      ∙ ap (λ t. t ++ R) (sym (form-more (l ++ (z ∷ [])) ls))

  put-stored : Stored ws bs (l ∷ ls) ss → Stored (set (set ws (length ls * 7) (pos (f + 1))) (length ls * 7 + 1 + f) z) bs ((l ++ (z ∷ [])) ∷ ls) ss
  put-stored s = record { form = put-form s; places = s.places }

module _ {ws new : List ℤ} {bs : List ℕ} {n f r : ℕ} {ss : List ℕ} {z : ℤ} (p : PutField ws new n f z r) where
  put_into : (l : Line) (ls : List Line) → LinesKept ws bs n f (l ∷ ls) ss → LinesKept new bs n r (take 6 (l ++ (z ∷ [])) ∷ ls) ss
  put_into l ls h = ⊎_elim more full (less? f 6)
    where
      c : n ≡ min (most_lines + 1) (suc (length ls))
      c = h.count

      some : eqb n 0 ≡ false
      some = ne_eqb n 0 (λ e. let d = c in absurd (omega arith))

      full : 6 ≤ f → LinesKept new bs n r (take 6 (l ++ (z ∷ [])) ∷ ls) ss
      full g =
          let a = h.fit.1 in
          let i : f ≡ length l = h.last in
          let t : take 6 (l ++ (z ∷ [])) ≡ l = take_at l (z ∷ []) 6 (omega arith) in
          let w : new ≡ ws = rw (some, le-leb 6 f g) at p.words in
          let e : r ≡ f = rw (some, le-leb 6 f g) at p.count in
          rw (t, w, e) h

      more : f < 6 → LinesKept new bs n r (take 6 (l ++ (z ∷ [])) ∷ ls) ss
      more g = ⊎_elim far near (less? most_lines n)
        where
          i : f ≡ length l
          i = h.last

          t : take 6 (l ++ (z ∷ [])) ≡ l ++ (z ∷ [])
          t = let i' = i in take_all 6 (l ++ (z ∷ [])) (rw (length-append l (z ∷ [])) (omega arith))

          e : r ≡ f + 1
          e = rw (some, lt-leb 6 f g) at p.count

          k : length (l ++ (z ∷ [])) ≡ f + 1
          k = let i' = i in length-append l (z ∷ []) ∙ omega arith

          kept : length new ≡ most_words → (length (l ∷ ls) ≤ most_lines → Stored new bs ((l ++ (z ∷ [])) ∷ ls) ss) → LinesKept new bs n r (take 6 (l ++ (z ∷ [])) ∷ ls) ss
          kept w s = rw t (record {
            room = record { words_size = w; begun_size = h.room.begun_size };
            count = c;
            same = h.same;
            fit = (let k' = k in omega arith, let k' = k in omega arith, h.fit.2);
            last = e ∙ sym k;
            stored = s;
          })

          far : most_lines < n → LinesKept new bs n r (take 6 (l ++ (z ∷ [])) ∷ ls) ss
          far x =
              let w : new ≡ ws = rw (some, lt-leb 6 f g, lt-ltb most_lines n x) at p.words in
              kept (ap length w ∙ h.room.words_size) (λ m. let d = c in absurd (omega arith))

          near : n ≤ most_lines → LinesKept new bs n r (take 6 (l ++ (z ∷ [])) ∷ ls) ss
          near x =
              let d = c in
              let q : n - 1 ≡ length ls = omega arith in
              let w : new ≡ set (set ws (length ls * 7) (pos (f + 1))) (length ls * 7 + 1 + f) z = rw (some, lt-leb 6 f g, le-ltb most_lines n x, q) at p.words in
              kept (ap length w ∙ simp length-set h.room.words_size) (λ m. rw w (put-stored ws bs l ls ss h.fit f i g z (h.stored m)))

  pub put-kept : {ls : List Line} → LinesKept ws bs n f ls ss → LinesKept new bs n r (grown z ls) ss
  unfolding grown
  put-kept {ls = []} h =
      let c = h.count in
      let o : eqb n 0 ≡ true = eq-eqb n 0 (omega arith) in
      let w : new ≡ ws = rw o at p.words in
      let e : r ≡ f = rw o at p.count in
      rw (w, e) h
  put-kept {ls = l ∷ ls} h = put_into l ls h
