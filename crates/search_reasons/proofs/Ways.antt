-- Marking the slots of a way, and those of a row.
use mathlib.Core.Path.{◌≡◌, refl, sym, ap, ◌∙◌}
use mathlib.Core.List.{List}
use Prim.Native.Nat.{ℕ, ◌+◌, ◌-◌, ◌<◌, ◌≤◌}
use native.Mathlib.Omega.{arith}
use lib.ListN.{length, get_or}
use borrow.Author.Tests.{lt-ltb, le-ltb}
use Rattle.list_laws.proofs.Lists.{inside}
use Rattle.tableau_layout.specs.Layout.{slot_end}
use Rattle.case_verdicts.specs.Sheets.{top}
use Rattle.case_verdicts.specs.Tableau.{State}
use Rattle.case_verdicts.specs.Words.{state_of}
use Rattle.tableau_plan.specs.Plan.{slot_value}
use Rattle.search_slots.specs.Slots.{SetWithin, SetWith}
use Rattle.search_slots.proofs.Laws.{with_within, with_has}
use Rattle.search_links.specs.Links.{link_step, root, place_root, value_under}
use Rattle.search_links.proofs.Links.{root-fixed, root-step}
use Rattle.search_links.proofs.Words.{step-word, place-slot, place-constant}
use Rattle.search_links.proofs.Under.{under-constant, under-made, under-own}
use Rattle.search_reasons.specs.Reasons.{Obeys, Place, WayMarked, AgreementMarked}
use Rattle.search_reasons.proofs.Laws.{obeys-less, way-still}

-- ---- the value of a place

pub slot-value : (t : State) (w : ℕ) → w < slot_end → slot_value t w ≡ t w
unfolding slot_value
slot-value t w h = rw (lt-ltb w slot_end h)

pub constant-value : (t : State) (w : ℕ) → slot_end ≤ w → slot_value t w ≡ w - slot_end
unfolding slot_value
constant-value t w h = rw (le-ltb w slot_end h)

-- a constant needs no slot
pub way-constant : (ws : List ℕ) (w : ℕ) (set : List ℕ) → slot_end ≤ w → Place w → WayMarked ws w set set
way-constant ws w set h p = record {
  more = λ k e. e;
  way = λ t o. constant-value t w h ∙ sym (ap (value_under top t) (place-constant top ws w h) ∙ under-constant top t (w - slot_end) (omega arith));
}

-- ---- a way

-- x lies on the way of slot w, and the set has the slots as far as x
pub record WayTo (ws : List ℕ) (w x : ℕ) (old set : List ℕ) : Type 0 where
  pub more : SetWithin old set
  pub way : (t : State) → Obeys t ws set → t w ≡ value_under top t x
  pub end : root top (state_of top ws) x ≡ root top (state_of top ws) (top + w)

pub way-start : (ws : List ℕ) (w : ℕ) (set : List ℕ) → WayTo ws w (top + w) set set
way-start ws w set = record { more = λ k e. e; way = λ t o. sym (under-own top t w); end = refl }

module _ {ws : List ℕ} {w x : ℕ} {old set : List ℕ} (p : WayTo ws w x old set) where
  pub way_end : w < slot_end → link_step top (state_of top ws) x ≡ x → WayMarked ws w old set
  way_end h e = record {
    more = p.more;
    way = λ t o. slot-value t w h ∙ p.way t o ∙ ap (value_under top t) (sym (root-fixed top (state_of top ws) x e) ∙ p.end ∙ sym (place-slot top ws w h));
  }

  -- the link from x goes to its slot's word
  pub way-more : (next : List ℕ) → top ≤ x → x - top < length ws → get_or ws (x - top) 0 < x → SetWith set (x - top) next → WayTo ws w (get_or ws (x - top) 0) old next
  way-more next made here less a = record {
    more = λ k e. with_within a k (p.more k e);
    way = λ t o.
        p.way t (obeys-less t ws set next (with_within a) o) ∙ under-made top t x made ∙ sym (o (x - top) (with_has a))
        ∙ ap (value_under top t) (inside ws (x - top) (top + (x - top)) 0 here);
    end = ap (root top (state_of top ws)) (sym (step-word top ws x made here less)) ∙ root-step top (state_of top ws) x ∙ p.end;
  }

-- ---- two places

pub agree_ways : {ws : List ℕ} {w z : ℕ} {old mid set : List ℕ} → place_root top ws w ≡ place_root top ws z → WayMarked ws w old mid → WayMarked ws z mid set → AgreementMarked ws w z old set
agree_ways e a b = let c = way-still a b.more in
    record { more = c.more; same = λ t o. c.way t o ∙ ap (value_under top t) e ∙ sym (b.way t o) }
