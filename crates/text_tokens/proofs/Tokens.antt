-- Laws of tokens: where one begins, goes on and ends, and that blanks before it do not count.
use mathlib.Core.Path.{◌≡◌, refl, ap, ◌∙◌}
use mathlib.Core.Bool.{Bool, true, false}
use mathlib.Core.List.{List, [], ◌∷◌, ◌++◌}
use Prim.Native.Nat.{ℕ, suc, ◌+◌, ◌-◌, ◌≤◌, ◌<◌}
use native.Mathlib.Omega.{arith}
use lib.ListN.{length, get_or, take, drop, length-drop, drop_of_length-le}
use lib.Seq.{take_all, take-suc, get_or-drop, drop-drop}
use Rattle.list_laws.proofs.Lists.{drop-next}
use Rattle.text_begins.specs.Begins.{is_blank_byte, leading_blanks}
use Rattle.text_meaning.specs.Tokens.{token_kind, joins, word_goes_on, behind, tokens}
use Rattle.text_tokens.specs.Ends.{TokenBegins, TokenEnds, Skipped}

-- ---- a token

-- the bytes from a place to another
abbrev pub part : ℕ → ℕ → List ℕ → List ℕ
part at e s = take (e - at) (drop at s)

-- one more
part-more : (at e : ℕ) (s : List ℕ) → at ≤ e → e < length s → part at (e + 1) s ≡ part at e s ++ (get_or s e 0 ∷ [])
part-more at e s h l =
    let n : e + 1 - at ≡ suc (e - at) = omega arith in
    let k : e - at < length (drop at s) = rw (length-drop at s) (omega arith) in
    let g : at + (e - at) ≡ e = omega arith in
    ap (λ m. take m (drop at s)) n
    ∙ take-suc (drop at s) (e - at) 0 k
    ∙ ap (λ b. part at e s ++ (b ∷ [])) (get_or-drop at s (e - at) 0 ∙ ap (λ i. get_or s i 0) g)

-- the first of them
part-first : (at e : ℕ) (s : List ℕ) → at < e → at < length s → part at e s ≡ get_or s at 0 ∷ part (at + 1) e s
part-first at e s h l =
    let n : e - at ≡ suc (e - (at + 1)) = omega arith in
    ap (λ m. take m (drop at s)) n ∙ ap (take (suc (e - (at + 1)))) (drop-next s at 0 l)

module _ (s : List ℕ) (at : ℕ) where
  pub token-first : TokenBegins s at → tokens (drop at s) ≡ behind (part at (at + 1) s) (drop (at + 1) s)
  unfolding behind word_goes_on
  token-first b =
      let l = b.inside in
      let n = part-first at (at + 1) s (omega arith) l in
      let z : at + 1 - (at + 1) ≡ 0 = omega arith in
      rw (n, z, drop-next s at 0 l, b.byte)

  module _ (e : ℕ) (h : at < e) where
    -- what is behind it goes by its first byte
    goes_by : (l : e ≤ length s) (b : ℕ) → word_goes_on (part at e s) b ≡ joins (token_kind (get_or s at 0)) (token_kind b)
    unfolding word_goes_on
    goes_by l b = rw (part-first at e s h (omega arith))

    pub token-grows : e < length s → joins (token_kind (get_or s at 0)) (token_kind (get_or s e 0)) ≡ true → behind (part at e s) (drop e s) ≡ behind (part at (e + 1) s) (drop (e + 1) s)
    unfolding behind
    token-grows l j =
        let g = goes_by (omega arith) (get_or s e 0) ∙ j in
        rw (part-more at e s (omega arith) l, drop-next s e 0 l, g)

    pub token-ends : e < length s → joins (token_kind (get_or s at 0)) (token_kind (get_or s e 0)) ≡ false → behind (part at e s) (drop e s) ≡ part at e s ∷ tokens (drop e s)
    unfolding behind word_goes_on
    token-ends l j = rw (part-first at e s h (omega arith), drop-next s e 0 l, j)

    pub token-last : e ≤ length s → length s ≤ e → behind (part at e s) (drop e s) ≡ part at e s ∷ tokens (drop e s)
    unfolding behind
    token-last l k = rw (part-first at e s h (omega arith), drop_of_length-le s k)

-- a token that goes on to the end of the text
pub TokenEnds-all : (s : List ℕ) (at e : ℕ) → at < e → e ≤ length s → tokens (drop at s) ≡ behind (part at e s) (drop e s) → length s ≤ e → TokenEnds s at e
TokenEnds-all s at e h l t k = record { after = h; inside = l; token = t ∙ token-last s at e h l k }

-- ---- blanks

blank_step : (b : ℕ) (s : List ℕ) (t : Bool) → is_blank_byte b ≡ t → tokens s ≡ tokens (drop (leading_blanks s) s) → tokens (b ∷ s) ≡ tokens (drop (leading_blanks (b ∷ s)) (b ∷ s))
unfolding behind word_goes_on leading_blanks
blank_step b s true e h = rw e h
blank_step b s false e h = rw e (rw e)

blanks-gone : (s : List ℕ) → tokens s ≡ tokens (drop (leading_blanks s) s)
unfolding leading_blanks
blanks-gone [] = refl
blanks-gone (b ∷ s) = blank_step b s (is_blank_byte b) refl (blanks-gone s)

abbrev NoBlank : List ℕ → Type 0
NoBlank s = leading_blanks s < length s → is_blank_byte (get_or s (leading_blanks s) 0) ≡ false

no-blank-step : (b : ℕ) (s : List ℕ) (t : Bool) → is_blank_byte b ≡ t → NoBlank s → NoBlank (b ∷ s)
unfolding leading_blanks
no-blank-step b s true e h k = rw e (h (let k' = rw e at k in omega arith))
no-blank-step b s false e h k = rw e e

no-blank : (s : List ℕ) → NoBlank s
unfolding leading_blanks
no-blank [] k = absurd (omega arith)
no-blank (b ∷ s) k = no-blank-step b s (is_blank_byte b) refl (no-blank s) k

pub skipped : (s : List ℕ) (at n : ℕ) → at ≤ length s → n ≤ length (part at (length s) s) → n ≡ leading_blanks (part at (length s) s) → Skipped s at (at + n)
skipped s at n l k b =
    let d = length-drop at s in
    let a : part at (length s) s ≡ drop at s = take_all (length s - at) (drop at s) (omega arith) in
    let k' : n ≤ length (drop at s) = rw a at k in
    let e : n ≡ leading_blanks (drop at s) = rw a at b in
    record {
      after = omega arith;
      inside = omega arith;
      tokens = blanks-gone (drop at s) ∙ rw (← e, drop-drop n at s);
      begins = λ h. rw (← e, get_or-drop at s n 0) at (no-blank (drop at s) (omega arith));
    }
