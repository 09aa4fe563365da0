-- Laws of writing.
use mathlib.Core.Path.{◌≡◌, refl, sym, ap, ◌∙◌, subst}
use mathlib.Core.List.{List, [], ◌∷◌, ◌++◌, append_assoc, append-nil}
use Prim.Native.Nat.{ℕ, ◌+◌, ◌-◌, ◌<◌, ◌≤◌}
use native.Mathlib.Omega.{arith}
use native.Mathlib.Numerals.{add-one}
use lib.ListN.{length, take, drop, get_or, set, length-set, length-append, take-append-drop}
use lib.Seq.{take-suc, take-suc-set, take-length, drop-set-lt, drop-drop}
use Rattle.list_laws.specs.Wrote.{Wrote}

-- ---- writing in order

pub wrote_none : {A : Type 0} (a : List A) (at : ℕ) → Wrote a a at at []
wrote_none a at = record { end = omega arith; same = refl; front = sym (append-nil (take at a)); back = refl }

pub wrote-more : {A : Type 0} (a b : List A) (at to : ℕ) (vs : List A) (v : A) → to < length b → Wrote a b at to vs → Wrote a (set b to v) at (to + 1) (vs ++ (v ∷ []))
wrote-more a b at to vs v lt w =
    let e = w.end in
    record {
      end = simp length-append (omega arith);
      same = length-set b to v ∙ w.same;
      front = rw (add-one, take-suc-set b to v lt, w.front, append_assoc);
      back = drop-set-lt (to + 1) b to v (omega arith) ∙ sym (drop-drop 1 to b) ∙ ap (drop 1) w.back ∙ drop-drop 1 to a;
    }

pub wrote-join : {A : Type 0} (a b c : List A) (at to end : ℕ) (vs us : List A) → Wrote a b at to vs → Wrote b c to end us → Wrote a c at end (vs ++ us)
wrote-join a b c at to end vs us v u =
    let e = v.end in
    let f = u.end in
    let k : to + (end - to) ≡ end = omega arith in
    record {
      end = simp length-append (omega arith);
      same = u.same ∙ v.same;
      front = u.front ∙ ap (λ x. x ++ us) v.front ∙ append_assoc (take at a) vs us;
      back = u.back ∙ ap (λ n. drop n b) (sym k) ∙ sym (drop-drop (end - to) to b) ∙ ap (drop (end - to)) v.back ∙ drop-drop (end - to) to a ∙ ap (λ n. drop n a) k;
    }

pub wrote-over : {A : Type 0} (a b : List A) (to : ℕ) (vs : List A) → Wrote a b 0 to vs → b ≡ vs ++ drop (length vs) a
wrote-over a b to vs w = sym (take-append-drop to b) ∙ ap (λ x. x ++ drop to b) w.front ∙ ap (λ x. vs ++ x) w.back ∙ ap (λ n. vs ++ drop n a) (let e = w.end in let k : to ≡ length vs = omega arith in k)

-- ---- copying a list, one element after the other

pub copied_next : {A : Type 0} (a b vs : List A) (d : A) (at to j : ℕ) → to < length b → j < length vs → Wrote a b at to (take j vs) → Wrote a (set b to (get_or vs j d)) at (to + 1) (take (j + 1) vs)
copied_next a b vs d at to j lt in-vs w =
    subst (λ t. Wrote a (set b to (get_or vs j d)) at (to + 1) t) (sym (ap (λ k. take k vs) (add-one j) ∙ take-suc vs j d in-vs)) (wrote-more a b at to (take j vs) (get_or vs j d) lt w)

pub copied_more : {A : Type 0} (a b vs : List A) (d : A) (at j : ℕ) → at + j < length b → j < length vs → Wrote a b at (at + j) (take j vs) → Wrote a (set b (at + j) (get_or vs j d)) at (at + (j + 1)) (take (j + 1) vs)
copied_more a b vs d at j lt in-vs w =
    subst (λ k. Wrote a (set b (at + j) (get_or vs j d)) at k (take (j + 1) vs)) (let e : at + j + 1 ≡ at + (j + 1) = omega arith in e) (copied_next a b vs d at (at + j) j lt in-vs w)

pub copied_none : {A : Type 0} (a vs : List A) (at : ℕ) → Wrote a a at (at + 0) (take 0 vs)
copied_none a vs at = subst (λ k. Wrote a a at k []) (let e : at ≡ at + 0 = omega arith in e) (wrote_none a at)

pub copied_all : {A : Type 0} (a b vs : List A) (at j n : ℕ) → j ≡ n → length vs ≡ n → Wrote a b at (at + j) (take j vs) → Wrote a b at (at + n) vs
copied_all a b vs at j n e l w = subst (λ t. Wrote a b at (at + n) t) (ap (λ k. take k vs) (sym l) ∙ take-length vs) (subst (λ k. Wrote a b at (at + k) (take k vs)) e w)
