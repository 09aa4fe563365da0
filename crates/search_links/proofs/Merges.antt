-- Two roots become one by a link.
use mathlib.Core.Path.{◌≡◌, refl, sym, ap, ◌∙◌, subst}
use mathlib.Core.Bool.{Bool, true, false}
use mathlib.Core.List.{List, [], ◌∷◌}
use mathlib.Core.Logic.{◌⊎◌, inl, inr}
use Prim.Native.Nat.{ℕ, ◌+◌, ◌-◌, ◌<◌, ◌≤◌}
use native.Mathlib.Omega.{arith}
use lib.ListN.{length, get_or, set, length-set}
use lib.Seq.{get_or-set_same, get_or-set_other}
use Rattle.list_laws.proofs.Lists.{inside}
use Rattle.query_meaning.specs.Meaning.{In}
use Rattle.case_verdicts.specs.Search.{◌≈◌, Unifier, Clash, replace}
use Rattle.case_verdicts.specs.Words.{state_of}
use Rattle.case_verdicts.proofs.Decide.{same?}
use Rattle.case_verdicts.proofs.Unify.{unify-same, unify-left, unify-right, clash, replace-same, replace-other}
use Rattle.search_links.specs.Links.{link_step, root, Linked, roots}
use Rattle.search_links.specs.Steps.{WrittenBy, Merged, MergedBy}
use Rattle.search_links.proofs.Links.{own-word, root-stays, root-low, root-linked}
use Rattle.search_links.proofs.Words.{roots-set}

-- the link from the made-up root a to the lower root b
module _ (top : ℕ) (ws : List ℕ) (a b : ℕ) (made : top ≤ a) (here : a - top < length ws) (less : b < a)
    (own : link_step top (state_of top ws) a ≡ a) (end : link_step top (state_of top ws) b ≡ b) where
  linked-set : Linked top ws → Linked top (set ws (a - top) b)
  linked-set linked n h = go (same? n (a - top))
    where
      go : Dec (n ≡ a - top) → get_or (set ws (a - top) b) n 0 ≤ top + n
      go (yes e) = let g = ap (λ (k : ℕ). get_or (set ws (a - top) b) k 0) e ∙ get_or-set_same ws (a - top) b 0 here in omega arith
      go (no ne) = rw (get_or-set_other ws (a - top) n b 0 ne) (linked n (rw length-set at h))

  -- a's slot had a itself
  own-exact : Linked top ws → state_of top ws (a - top) ≡ a
  own-exact linked =
      let o = own-word top (state_of top ws) a own made in
      let e = inside ws (a - top) (top + (a - top)) 0 here in
      let l = linked (a - top) here in
      omega arith

  words : Linked top ws → (h : ℕ → ℕ) → h a ≡ h b → (n : ℕ) → h (state_of top (set ws (a - top) b) n) ≡ h (state_of top ws n)
  words linked h e n = go (same? n (a - top))
    where
      go : Dec (n ≡ a - top) → h (state_of top (set ws (a - top) b) n) ≡ h (state_of top ws n)
      go (yes q) =
          ap (λ (k : ℕ). h (state_of top (set ws (a - top) b) k)) q ∙ ap h (get_or-set_same ws (a - top) b (top + (a - top)) here) ∙ sym e
          ∙ sym (ap (λ (k : ℕ). h (state_of top ws k)) q ∙ ap h (own-exact linked))
      go (no ne) = ap h (get_or-set_other ws (a - top) n b (top + n) ne)

  fewer : roots top (set ws (a - top) b) < roots top ws
  fewer =
      let o = own-word top (state_of top ws) a own made in
      let e = inside ws (a - top) (top + (a - top)) 0 here in
      roots-set top ws (a - top) b here (omega arith) (omega arith)

  -- l and r are a and b, in either order
  written : (l r : ℕ) → Unifier top (replace a b) ((l ≈ r) ∷ []) → ((h : ℕ → ℕ) → h l ≡ h r → h a ≡ h b) → In a (l ∷ r ∷ []) → In b (l ∷ r ∷ []) → Merged top ws (set ws (a - top) b) l r
  written l r u back ia ib = record {
    by = replace a b;
    unifier = u;
    ends = root-linked top (state_of top ws) (state_of top (set ws (a - top) b)) a b made less own end (get_or-set_same ws (a - top) b (top + (a - top)) here) (λ n ne. get_or-set_other ws (a - top) n b (top + n) ne);
    same = length-set ws (a - top) b;
    linked = linked-set;
    among = λ x. go x (same? x a);
    others = λ n off. get_or-set_other ws (a - top) n b 0 (λ e. off (subst (λ (x : ℕ). In x (l ∷ r ∷ [])) (let z : a ≡ top + n = omega arith in z) ia));
    words = λ linked h e. words linked h (back h e);
    fewer = inr fewer;
  }
    where
      go : (x : ℕ) → Dec (x ≡ a) → In (replace a b x) (x ∷ l ∷ r ∷ [])
      go x (yes e) = inr (subst (λ (y : ℕ). In y (l ∷ r ∷ [])) (sym (ap (replace a b) e ∙ replace-same a b)) ib)
      go x (no ne) = inl (replace-other a b x ne)

-- a is the root of v, and b that of w
module _ (top : ℕ) (ws : List ℕ) (v w a b : ℕ) (ea : a ≡ root top (state_of top ws) v) (eb : b ≡ root top (state_of top ws) w)
    (hv : v < top + length ws) (hw : w < top + length ws) where
  end-a : (link_step top (state_of top ws) a ≡ a) × (a < top + length ws)
  end-a = (rw ea (root-stays top (state_of top ws) v), let h = root-low top (state_of top ws) v in omega arith)

  end_b : (link_step top (state_of top ws) b ≡ b) × (b < top + length ws)
  end_b = (rw eb (root-stays top (state_of top ws) w), let h = root-low top (state_of top ws) w in omega arith)

  became : (r : Bool) (out : List ℕ) → MergedBy r top ws out a b → MergedBy r top ws out (root top (state_of top ws) v) (root top (state_of top ws) w)
  became r out j =
      subst (λ (x : ℕ). MergedBy r top ws out (root top (state_of top ws) v) x) eb (subst (λ (x : ℕ). MergedBy r top ws out x b) ea j)

  pub merge_same : a ≡ b → MergedBy true top ws ws (root top (state_of top ws) v) (root top (state_of top ws) w)
  merge_same e =
      became true ws
      (record { by = λ n. n; unifier = unify-same top a b e; ends = λ x. refl; same = refl; linked = λ l. l; among = λ x. inl refl; others = λ n off. refl; words = λ l h q n. refl; fewer = inl (e, refl) })

  pub merge_left : (r : Bool) (out : List ℕ) → b < a → WrittenBy r top ws out a b → MergedBy r top ws out (root top (state_of top ws) v) (root top (state_of top ws) w)
  merge_left true out less t =
      became true out (subst (λ (o : List ℕ). Merged top ws o a b) (sym t.2)
      (written top ws a b t.0 t.1 less end-a.0 end_b.0 a b (unify-left top a b t.0) (λ h e. e) (inl refl) (inr (inl refl))))
  merge_left false out less t = became false out (go t.0, t.1)
    where
      go : (a < top) ⊎ (top + length ws ≤ a) → Clash top ((a ≈ b) ∷ [])
      go (inl h) = clash top a b h (omega arith) (λ e. omega arith)
      go (inr far) = absurd (let h = end-a.1 in omega arith)

  pub merge_right : (r : Bool) (out : List ℕ) → a < b → WrittenBy r top ws out b a → MergedBy r top ws out (root top (state_of top ws) v) (root top (state_of top ws) w)
  merge_right true out less t =
      became true out (subst (λ (o : List ℕ). Merged top ws o a b) (sym t.2)
      (written top ws b a t.0 t.1 less end_b.0 end-a.0 a b (unify-right top a b t.0) (λ h e. sym e) (inr (inl refl)) (inl refl)))
  merge_right false out less t = became false out (go t.0, t.1)
    where
      go : (b < top) ⊎ (top + length ws ≤ b) → Clash top ((a ≈ b) ∷ [])
      go (inl h) = clash top a b (omega arith) h (λ e. omega arith)
      go (inr far) = absurd (let h = end_b.1 in omega arith)
