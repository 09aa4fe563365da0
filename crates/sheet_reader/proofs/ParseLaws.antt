-- Lines taken from a sheet's bytes one after the other.
use mathlib.Core.Path.{◌≡◌, refl, sym, ap, ◌∙◌, subst}
use mathlib.Core.Bool.{true, not}
use mathlib.Core.List.{List, [], ◌∷◌, ◌++◌, append_assoc}
use Prim.Native.Nat.{ℕ, suc, ◌+◌, ◌-◌, ◌*◌, ◌<◌, ◌≤◌}
use native.Mathlib.Omega.{arith}
use lib.Dec.{eqb}
use lib.IntN.{ℤ, pos}
use lib.ListN.{length, take, drop, get_or, replicate, length-append, length-drop, drop_of_length-le}
use lib.Seq.{drop-drop, take-length}
use Rattle.sheet_format.specs.Limits.{most_lines, line_word_count}
use Rattle.sheet_format.specs.Line.{Line, all, null, byte_lines, line_of, line_words, words_of}
use Rattle.sheet_format.specs.Table.{Table}
use Rattle.sheet_format.specs.Cause.{scan, start, refusal_of}
use Rattle.sheet_format.proofs.Lists.{no_way, append-nil, gather_append}
use Rattle.sheet_format.proofs.Good.{FittingLine, Goods, nil_good}
use Rattle.sheet_format.proofs.LineLaws.{lines-first, lines_none, lines_open, line-good, goods_append}
use Rattle.sheet_format.proofs.ScanLaws.{refused-front, scan_malformed, scan-long, accepted-lines, accepted-length}
use Rattle.list_laws.specs.Wrote.{Wrote}
use Rattle.sheet_line_ends.specs.Before.{before_end}
use Rattle.sheet_line_ends.proofs.Laws.{before_open, before-closes}
use Rattle.sheet_reader.specs.Parsed.{Parsed}

-- ---- the line at a place

pub line-closes : (s : List ℕ) (at e : ℕ) → at ≤ length s → e ≡ at + before_end (drop at s) → e < length s → byte_lines (drop at s) ≡ line_of (take (e - at) (drop at s)) ∷ byte_lines (drop (e + 1) s)
line-closes s at e le is lt =
    let t = drop at s in
    let l = length-drop at s in
    let k : e - at ≡ before_end t = omega arith in
    ap byte_lines (before-closes t (omega arith))
    ∙ lines-first (take (before_end t) t) (drop (suc (before_end t)) t) (before_open t)
    ∙ ap (λ n. line_of (take n t) ∷ byte_lines (drop (suc (before_end t)) t)) (sym k)
    ∙ ap (λ x. line_of (take (e - at) t) ∷ byte_lines x) (drop-drop (suc (before_end t)) at s ∙ ap (λ n. drop n s) (let q : at + suc (before_end t) ≡ e + 1 = omega arith in q))

open_line : (t : List ℕ) → 0 < length t → before_end t ≡ length t → byte_lines t ≡ [] ∷ []
open_line [] some h = absurd (omega arith)
open_line (b ∷ t) some h = lines_open b t (subst (λ x. all (λ b. not (eqb b 10)) x ≡ true) (ap (λ n. take n (b ∷ t)) h ∙ take-length (b ∷ t)) (before_open (b ∷ t)))

pub line_stays_open : (s : List ℕ) (at : ℕ) → at < length s → at + before_end (drop at s) ≡ length s → byte_lines (drop at s) ≡ [] ∷ []
line_stays_open s at lt h = let l = length-drop at s in open_line (drop at s) (omega arith) (omega arith)

-- ---- the lines so far

pub record Parsing (s : List ℕ) (ws : List ℤ) (n at : ℕ) : Type 0 where
  pub lines : List Line
  pub count : length lines ≡ n
  pub few : n ≤ most_lines + 1
  pub inside : at ≤ length s
  pub room : length ws ≡ (most_lines + 1) * line_word_count
  pub words : take (n * 7) ws ≡ words_of lines
  pub good : Goods lines
  pub rest : byte_lines s ≡ lines ++ byte_lines (drop at s)

pub parsing_none : (s : List ℕ) (ws : List ℤ) → length ws ≡ (most_lines + 1) * line_word_count → Parsing s ws 0 0
unfolding words_of
parsing_none s ws h = record { lines = []; count = refl; few = omega arith; inside = omega arith; room = h; words = refl; good = tt; rest = refl }

-- lines that are the front of the sheet's, and refused at one of them
parsed_front : (s : List ℕ) (ws : List ℤ) (n : ℕ) (p q : List Line) → length p ≡ n → n ≤ most_lines + 1 → take (n * 7) ws ≡ words_of p → Goods p → byte_lines s ≡ p ++ q
    → ((t : Table) → 0 < (scan t start [] 1 p).line) → ((t : Table) → (refusal_of t p).number ≡ 0 → ⊥) → Parsed s ws n
parsed_front s ws n p q l f w g e h never = record { lines = p; count = l; few = f; words = w; good = g; alike = λ t. sym (ap (refusal_of t) e ∙ refused-front t p q (h t)); whole = λ t z. absurd (never t z) }

pub parsed_long : (s : List ℕ) (ws : List ℤ) (n at : ℕ) → n ≡ most_lines + 1 → Parsing s ws n at → Parsed s ws n
parsed_long s ws n at e p =
    let c = p.count in
    parsed_front s ws n p.lines (byte_lines (drop at s)) c p.few p.words p.good p.rest (λ t. scan-long t p.lines (omega arith)) (λ t z. let k = accepted-length t p.lines z in omega arith)

pub parsed_all : (s : List ℕ) (ws : List ℤ) (n at : ℕ) → length s ≤ at → Parsing s ws n at → Parsed s ws n
parsed_all s ws n at le p =
    let e : p.lines ≡ byte_lines s = sym (p.rest ∙ ap (λ x. p.lines ++ byte_lines x) (drop_of_length-le s le) ∙ ap (λ x. p.lines ++ x) lines_none ∙ append-nil p.lines) in
    record { lines = p.lines; count = p.count; few = p.few; words = p.words; good = p.good; alike = λ t. ap (refusal_of t) e; whole = λ t z. e }

-- one line more
words_snoc : (p : List Line) (l : Line) → words_of (p ++ (l ∷ [])) ≡ words_of p ++ line_words l
unfolding words_of
words_snoc p l = gather_append line_words p (l ∷ []) ∙ ap (λ x. words_of p ++ x) (append-nil (line_words l))

words_more : (ws us : List ℤ) (n : ℕ) (p : List Line) (l : Line) → take (n * 7) ws ≡ words_of p → Wrote ws us (n * 7) (n * 7 + 7) (line_words l) → take ((n + 1) * 7) us ≡ words_of (p ++ (l ∷ []))
words_more ws us n p l e w = ap (λ k. take k us) (let q : (n + 1) * 7 ≡ n * 7 + 7 = omega arith in q) ∙ w.front ∙ ap (λ x. x ++ line_words l) e ∙ sym (words_snoc p l)

count-more : (p : List Line) (l : Line) (n : ℕ) → length p ≡ n → length (p ++ (l ∷ [])) ≡ n + 1
count-more p l n e = length-append p (l ∷ []) ∙ ap (λ k. k + 1) e

pub parsing_more : (s : List ℕ) (ws us : List ℤ) (n at e : ℕ) → Parsing s ws n at → n < most_lines + 1 → e ≡ at + before_end (drop at s) → e < length s
    → Wrote ws us (n * 7) (n * 7 + 7) (line_words (line_of (take (e - at) (drop at s)))) → Parsing s us (n + 1) (e + 1)
parsing_more s ws us n at e p f is lt w =
    let l = line_of (take (e - at) (drop at s)) in
    record {
      lines = p.lines ++ (l ∷ []);
      count = count-more p.lines l n p.count;
      few = omega arith;
      inside = omega arith;
      room = w.same ∙ p.room;
      words = words_more ws us n p.lines l p.words w;
      good = goods_append p.lines (l ∷ []) p.good (line-good (take (e - at) (drop at s)), tt);
      rest = p.rest ∙ ap (λ x. p.lines ++ x) (line-closes s at e p.inside is lt) ∙ sym (append_assoc p.lines (l ∷ []) (byte_lines (drop (e + 1) s)));
    }

-- a malformed line is the last that counts
not-formed : (p : List Line) → all (λ l. not (null l)) (p ++ ([] ∷ [])) ≡ true → ⊥
not-formed [] h = no_way h
not-formed ([] ∷ p) h = no_way h
not-formed ((z ∷ l) ∷ p) h = not-formed p h

parsed_malformed : (s : List ℕ) (ws us : List ℤ) (n at : ℕ) (q : List Line) → Parsing s ws n at → n < most_lines + 1 → byte_lines (drop at s) ≡ [] ∷ q → Wrote ws us (n * 7) (n * 7 + 7) (line_words []) → Parsed s us (n + 1)
parsed_malformed s ws us n at q p f e w =
    parsed_front s us (n + 1) (p.lines ++ ([] ∷ [])) q (count-more p.lines [] n p.count) (omega arith) (words_more ws us n p.lines [] p.words w)
    (goods_append p.lines ([] ∷ []) p.good (nil_good, tt)) (p.rest ∙ ap (λ x. p.lines ++ x) e ∙ sym (append_assoc p.lines ([] ∷ []) q))
    (λ t. scan_malformed t p.lines) (λ t z. not-formed p.lines (accepted-lines t (p.lines ++ ([] ∷ [])) z))

pub parsed_open : (s : List ℕ) (ws us : List ℤ) (n at : ℕ) → Parsing s ws n at → n < most_lines + 1 → at < length s → at + before_end (drop at s) ≡ length s
    → Wrote ws us (n * 7) (n * 7 + 7) (replicate 7 (pos 0)) → Parsed s us (n + 1)
unfolding line_words
parsed_open s ws us n at p f lt h w = parsed_malformed s ws us n at [] p f (line_stays_open s at lt h) w

pub parsed_broken : (s : List ℕ) (ws us : List ℤ) (n at e : ℕ) → Parsing s ws n at → n < most_lines + 1 → e ≡ at + before_end (drop at s) → e < length s
    → line_of (take (e - at) (drop at s)) ≡ [] → Wrote ws us (n * 7) (n * 7 + 7) (line_words (line_of (take (e - at) (drop at s)))) → Parsed s us (n + 1)
parsed_broken s ws us n at e p f is lt h w =
    parsed_malformed s ws us n at (byte_lines (drop (e + 1) s)) p f (line-closes s at e p.inside is lt ∙ ap (λ x. x ∷ byte_lines (drop (e + 1) s)) h)
    (subst (λ x. Wrote ws us (n * 7) (n * 7 + 7) (line_words x)) h w)

-- a line's words without a field count
pub no-count : (l : Line) → get_or (line_words l) 0 (pos 0) ≡ pos 0 → l ≡ []
unfolding line_words
no-count [] h = refl
no-count (z ∷ l) h = let q : ◌≡◌ {A = ℕ} (suc (length l)) 0 = cc in absurd (omega arith)

pub some-count : (l : Line) → FittingLine l → 0 < length l → get_or (line_words l) 0 (pos 0) ≡ pos (length l)
unfolding line_words
some-count l g h = refl
