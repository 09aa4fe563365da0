-- Entries of the table as they are written, moved and counted, over lists.
use mathlib.Core.Path.{◌≡◌, refl, sym, ap, ◌∙◌, subst}
use mathlib.Core.Bool.{Bool, false}
use mathlib.Core.List.{List}
use mathlib.Core.Logic.{◌⊎◌, inl, inr}
use Prim.Native.Nat.{ℕ, ◌+◌, ◌-◌, ◌*◌, ◌<◌, ◌≤◌}
use native.Mathlib.Omega.{arith}
use Rattle.std.proofs.lemmas.Grind.{common_steps}
use native.Mathlib.Decide.{dec_lt}
use borrow.Author.Count.{below_more}
use borrow.Rule.Slice.PartMut.{put_mid}
use lib.ListN.{length, get_or, set, take, drop}
use lib.Seq.{get_or-set_same}
use Rattle.std.specs.List.{CopiedTo, SameBelow, SameFrom}
use Rattle.std.proofs.lemmas.Slice.{between_is, between-put_mid, take-put_mid_below, drop-put_mid}
use Rattle.list_laws.specs.Kept.{Kept}
use Rattle.list_laws.proofs.Lists.{part_get, part_length, part-is}
use Rattle.search_slots.specs.Slots.{set_words, SetsMeet}
use Rattle.search_nogoods.specs.Memory.{memory_slot, memory_value, memory_set, memory_count, EachValue, SameValue, MemoryMore}
use Rattle.search_nogoods.specs.Memory.{SetsApart, MemoryLess}
use Rattle.search_nogoods.specs.Parts.{SetStored, ValueMoved, KeptApart}
use Rattle.search_nogoods.specs.Sizes.{most_values, memory_count_at, memory_numbers, memory_words}

-- ---- what every entry has

-- a table that counts no entries
pub memory-empty : {P : ℕ → ℕ → List ℕ → Type 0} (sl sm : List ℕ) → get_or sl memory_count_at 0 ≡ 0 → EachValue P sl sm
memory-empty sl sm z = record { each = λ e lt. absurd (omega arith) }

same_carries : (P : ℕ → ℕ → List ℕ → Type 0) (tl tm : List ℕ) (f : ℕ) (sl sm : List ℕ) (e : ℕ) → SameValue tl tm f sl sm e
    → P (memory_slot sl e) (memory_value sl e) (memory_set sm e) → P (memory_slot tl f) (memory_value tl f) (memory_set tm f)
same_carries P tl tm f sl sm e s p =
    subst (λ (n : ℕ). P n (memory_value tl f) (memory_set tm f)) (sym s.slot)
    (subst (λ (w : ℕ). P (memory_slot sl e) w (memory_set tm f)) (sym s.value)
    (subst (λ (r : List ℕ). P (memory_slot sl e) (memory_value sl e) r) (sym s.rests) p))

module _ {P Q : ℕ → ℕ → List ℕ → Type 0} (sl sm tl tm : List ℕ) where
  pub more-holds : MemoryMore Q sl sm tl tm → ((n w : ℕ) (r : List ℕ) → Q n w r → P n w r) → EachValue P sl sm → EachValue P tl tm
  more-holds m new a = record { each = λ f lt. go f (m.each f lt) }
    where
      go : (f : ℕ) → ((e : ℕ) × (e < memory_count sl) × SameValue tl tm f sl sm e) ⊎ Q (memory_slot tl f) (memory_value tl f) (memory_set tm f)
          → P (memory_slot tl f) (memory_value tl f) (memory_set tm f)
      go f (inl (e, lt, s)) = same_carries P tl tm f sl sm e s (a.each e lt)
      go f (inr q) = new (memory_slot tl f) (memory_value tl f) (memory_set tm f) q

  pub less-holds : (set : List ℕ) → MemoryLess set sl sm tl tm → ((n w : ℕ) (r : List ℕ) → SetsApart r set → P n w r → Q n w r) → EachValue P sl sm
      → EachValue Q tl tm
  less-holds set m still a = record {
    each = λ f lt.
        let (e, le, s, apart) = m.each f lt in
        still (memory_slot tl f) (memory_value tl f) (memory_set tm f) apart (same_carries P tl tm f sl sm e s (a.each e le));
  }

-- ---- a set stored

pub rests-length : (sm : List ℕ) (e : ℕ) → length sm ≡ memory_words → e < most_values → length (memory_set sm e) ≡ set_words
rests-length sm e l lt = part_length sm (e * set_words) set_words (omega arith)

-- tm has the words of r at entry e, and those of sm elsewhere
pub stored : (sm r tm : List ℕ) (e : ℕ) → e < most_values → length sm ≡ memory_words → length r ≡ set_words
    → Kept 0 sm tm (e * set_words) (e * set_words + set_words) → ((x : ℕ) → x < set_words → get_or tm (e * set_words + x) 0 ≡ get_or r x 0) → SetStored sm e r tm
stored sm r tm e few l long kept each = record {
  here = let s = kept.same in sym (part-is 0 tm r (e * set_words) set_words (omega arith) long (λ x lt. sym (each x lt)));
  others = λ f small apart.
      part-is 0 sm (memory_set tm f) (f * set_words) set_words (omega arith) (rests-length tm f (kept.same ∙ l) small)
      (λ x lt. part_get tm (f * set_words) set_words x 0 lt ∙ other f x small apart lt (dec_lt f e));
}
  where
    other : (f x : ℕ) → f < most_values → (f ≡ e → ⊥) → x < set_words → Dec (f < e) → get_or tm (f * set_words + x) 0 ≡ get_or sm (f * set_words + x) 0
    other f x small apart lt (yes h) = kept.below (f * set_words + x) (omega arith)
    other f x small apart lt (no h) = kept.above (f * set_words + x) (omega arith)

-- r put over the words of entry e
pub stored_put : (sm r : List ℕ) (e k : ℕ) → e < most_values → length sm ≡ memory_words → length r ≡ set_words → k ≡ set_words
    → SetStored sm e r (put_mid (e * set_words) k sm r)
stored_put sm r e k few l long size = record {
  here = subst (λ (n : ℕ). take n (drop (e * set_words) (put_mid (e * set_words) k sm r)) ≡ r) (let q : e * set_words + set_words - e * set_words ≡ set_words = omega arith in q)
      (between-put_mid (e * set_words) k sm r (e * set_words + set_words) (omega arith) (omega arith));
  others = λ f small apart. go f small apart (dec_lt f e);
}
  where
    part : (ws : List ℕ) (f : ℕ) → memory_set ws f ≡ drop (f * set_words) (take (f * set_words + set_words) ws)
    part ws f = subst (λ (n : ℕ). take n (drop (f * set_words) ws) ≡ drop (f * set_words) (take (f * set_words + set_words) ws))
        (let q : f * set_words + set_words - f * set_words ≡ set_words = omega arith in q) (between_is ws (f * set_words) (f * set_words + set_words))

    go : (f : ℕ) → f < most_values → (f ≡ e → ⊥) → Dec (f < e) → memory_set (put_mid (e * set_words) k sm r) f ≡ memory_set sm f
    go f small apart (yes h) =
        part _ f ∙ ap (drop (f * set_words)) (take-put_mid_below (e * set_words) k sm r (f * set_words + set_words) (omega arith) (omega arith)) ∙ sym (part sm f)
    go f small apart (no h) = ap (take set_words) (drop-put_mid (e * set_words) k sm r (f * set_words) (omega arith) (omega arith) (omega arith))

-- the words of entry `from` copied over those of entry `to`
pub stored_copy : (sm tm : List ℕ) (from to n : ℕ) → from < most_values → to < most_values → length sm ≡ memory_words → length tm ≡ length sm → n ≡ set_words
    → CopiedTo sm tm (from * set_words) (to * set_words) n → SameBelow sm tm (to * set_words) → SameFrom sm tm (to * set_words + n)
    → SetStored sm to (memory_set sm from) tm
stored_copy sm tm from to n here there l same size copied below above =
    stored sm (memory_set sm from) tm to there l (rests-length sm from l here)
    (record { same = same; below = λ y h. below y 0 h; above = λ y h. above y 0 (omega arith) })
    (λ x lt.
    copied (to * set_words + x) 0 (omega arith) (omega arith)
    ∙ ap (λ (y : ℕ). get_or sm y 0) (let q : from * set_words + (to * set_words + x - to * set_words) ≡ from * set_words + x = omega arith in q)
    ∙ sym (part_get sm (from * set_words) set_words x 0 lt))

-- ---- an entry moved

same_trans : (al am : List ℕ) (e : ℕ) (bl bm : List ℕ) (f : ℕ) (cl cm : List ℕ) (g : ℕ) → SameValue al am e bl bm f → SameValue bl bm f cl cm g
    → SameValue al am e cl cm g
same_trans al am e bl bm f cl cm g x y = record { slot = x.slot ∙ y.slot; value = x.value ∙ y.value; rests = x.rests ∙ y.rests }

pub value-moved : (sl sm : List ℕ) (from to : ℕ) (tm : List ℕ) → to < from → from < most_values → length sl ≡ memory_numbers
    → SetStored sm to (memory_set sm from) tm
    → ValueMoved sl sm from to
    (set (set sl (to * 2) (get_or sl (from * 2) 0)) (to * 2 + 1) (get_or (set sl (to * 2) (get_or sl (from * 2) 0)) (from * 2 + 1) 0)) tm
value-moved sl sm from to tm less room l s = record {
  here = record { slot = grind (arith, common_steps); value = grind (arith, common_steps); rests = s.here };
  others = λ f small apart. record { slot = grind (arith, common_steps); value = grind (arith, common_steps); rests = s.others f small apart };
}

-- ---- entries kept

-- sets that do not meet; the first is whole
pub apart_of : (r : Bool) (a b : List ℕ) → length a ≡ set_words → SetsMeet r a b → r ≡ false → SetsApart a b
apart_of r a b l m e = record { each = λ k h. m.apart e k (omega arith) }

-- of the first e entries those that rest on no slot of the set are the first k now; the later ones are as before
pub record KeepingApart (sl sm r : List ℕ) (n k e : ℕ) (tl tm : List ℕ) : Type 0 where
  pub kept : KeptApart sl sm r n k tl tm
  pub rest : (f : ℕ) → e ≤ f → f < most_values → SameValue tl tm f sl sm f

module _ (sl sm r : List ℕ) (n k e : ℕ) (tl tm : List ℕ) (a : KeepingApart sl sm r n k e tl tm) where
  pub keeping_move : (ul um : List ℕ) → k ≤ e → e < n → n ≤ most_values → SetsApart (memory_set tm e) r → ValueMoved tl tm e k ul um
      → KeepingApart sl sm r n (k + 1) (e + 1) ul um
  keeping_move ul um less lt room off m = record {
    kept = record {
      each = below_more (λ f. (d : ℕ) × (d < n) × SameValue ul um f sl sm d × SetsApart (memory_set sm d) r) k
          (λ f h. let o = a.kept.each f h in (
            o.0,
            o.1,
            same_trans ul um f tl tm f sl sm o.0 (m.others f (omega arith) (λ q. omega arith)) o.2,
            o.3,
          )) (
            e,
            lt,
            same_trans ul um k tl tm e sl sm e m.here (a.rest e (omega arith) (omega arith)),
            subst (λ (s : List ℕ). SetsApart s r) (a.rest e (omega arith) (omega arith)).rests off,
          );
    };
    rest = λ f le h. same_trans ul um f tl tm f sl sm f (m.others f h (λ q. omega arith)) (a.rest f (omega arith) h);
  }

-- ---- the table without what rests on a slot of the set

pub less-some : (sl sm r : List ℕ) (n k : ℕ) (tl tm : List ℕ) → n ≡ memory_count sl → k ≤ n → length tl ≡ memory_numbers → KeptApart sl sm r n k tl tm
    → MemoryLess r sl sm (set tl memory_count_at k) tm
less-some sl sm r n k tl tm count le l a = record {
  each = λ f lt.
      let q = get_or-set_same tl memory_count_at k 0 (omega arith) in
      let o = a.each f (omega arith) in (
        o.0,
        let h = o.1 in omega arith,
        same_trans (set tl memory_count_at k) tm f tl tm f sl sm o.0
            (record { slot = grind (arith, common_steps); value = grind (arith, common_steps); rests = refl })
            o.2,
        subst (λ (s : List ℕ). SetsApart s r) (sym o.2.rests) o.3,
      );
}
