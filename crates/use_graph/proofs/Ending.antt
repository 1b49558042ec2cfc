-- Where following comes to a yes.
use Rattle.std.proofs.Common.{◌≡◌, ◌≤◌, ◌<◌, ◌+◌, ℕ, suc, zero, List, [], ◌∷◌, length, get_or, Bool, true, false, refl, sym, ap, ◌∙◌, subst, true≢false, ◌⊎◌, inl, inr, arith}
use Rattle.std.specs.Prelude.{◌↔◌}
use Rattle.std.proofs.lemmas.Bool.{cases_lt}
use Rattle.std.proofs.lemmas.List.{get_or_past}
use Rattle.use_graph.specs.declared.ends.Next.{Next}
use Rattle.use_graph.specs.declared.ends.Next.TheVariants.{Yes, No, To}
use Rattle.use_graph.specs.declared.ends.Answers.{Answers}
use Rattle.use_graph.specs.Ends.{next_at, next_leads, leads_within, ComesToYes, at_once, further}
use Rattle.use_graph.specs.Followed.{answer_at, rank_at, IsFollowed, AreFollowed}
use Rattle.use_graph.specs.Laws.{LeadingIsDecided, EnoughIsEnough}
use Rattle.use_graph.proofs.Ways.{Way, Simple, last_step, one_more, long}

-- two tests that hold at the same places are one
same_test : (a b : Bool) → (a ≡ true → b ≡ true) → (b ≡ true → a ≡ true) → a ≡ b
same_test true true f g = refl
same_test true false f g = sym (f refl)
same_test false true f g = g refl
same_test false false f g = refl

module _ (ns : List Next) where
  abbrev IsYes : ℕ → Type 0
  IsYes i = next_at ns i ≡ Yes

  abbrev GoesTo : ℕ → ℕ → Type 0
  GoesTo i j = next_at ns i ≡ To j

  past : (i : ℕ) → (next_at ns i ≡ No → ⊥) → i < length ns
  past i h = elim (cases_lt i (length ns)) [ inl l ↦ l | inr m ↦ absurd (h (get_or_past ns i No m)) ]

  yes_below : (i : ℕ) → IsYes i → i < length ns
  yes_below i e = past i (λ f. let g : Yes ≡ No = sym e ∙ f in cc)

  going_below : (i j : ℕ) → GoesTo i j → i < length ns
  going_below i j e = past i (λ f. let g : To j ≡ No = sym e ∙ f in cc)

  simply : (i : ℕ) → ComesToYes ns i → Simple GoesTo IsYes i
  simply _ (at_once i e) = last_step GoesTo IsYes i e
  simply _ (further i j e c) = one_more GoesTo IsYes i j e (simply j c)

  way_leads : (js : List ℕ) (k i : ℕ) → suc (length js) ≤ k → Way GoesTo IsYes i js → leads_within ns k i ≡ true
  way_leads js zero i l w = absurd (omega arith)
  way_leads [] (suc k) i l w = ap (next_leads (leads_within ns k)) w
  way_leads (j ∷ js) (suc k) i l w = ap (next_leads (leads_within ns k)) w.0 ∙ way_leads js k j (omega arith) w.1

  comes_leads : (k i : ℕ) → length ns ≤ k → ComesToYes ns i → leads_within ns k i ≡ true
  comes_leads k i h c =
      let p = simply i c in
      let l = long GoesTo IsYes (length ns) yes_below going_below i p in
      way_leads p.through k i (omega arith) p.way

  leads_comes : (k i : ℕ) → leads_within ns k i ≡ true → ComesToYes ns i
  leads_comes zero i h = absurd (true≢false (sym h))
  leads_comes (suc k) i h =
      let rec = leads_comes k in
      elim (next_at ns i) as (λ n. next_at ns i ≡ n → next_leads (leads_within ns k) n ≡ true → ComesToYes ns i) [
        | Yes ↦ λ e l. at_once i e
        | No ↦ λ e l. absurd (true≢false (sym l))
        | To j ↦ λ e l. further i j e (rec j l)
      ] refl h

  decided : (k i : ℕ) → length ns ≤ k → (leads_within ns k i ≡ true) ↔ ComesToYes ns i
  decided k i h = (leads_comes k i, comes_leads k i h)

  enough : (k l i : ℕ) → length ns ≤ k → length ns ≤ l → leads_within ns k i ≡ leads_within ns l i
  enough k l i h m = same_test (leads_within ns k i) (leads_within ns l i) (λ e. comes_leads l i m (leads_comes k i e)) (λ e. comes_leads k i h (leads_comes l i e))

  -- ---- answers that are followed

  module _ (a : Answers) (f : AreFollowed ns a) where
    answer_below : (i : ℕ) → answer_at a i ≡ true → i < length ns
    answer_below i y =
        let e = f.sized in
        elim (cases_lt i (length ns)) [
          | inl l ↦ l
          | inr m ↦ absurd (true≢false (sym y ∙ get_or_past a.answers.items i false (omega arith)))
        ]

    yes_comes : (n i : ℕ) → rank_at a i < n → answer_at a i ≡ true → ComesToYes ns i
    yes_comes zero i h y = absurd (omega arith)
    yes_comes (suc n) i h y =
        let rec = yes_comes n in
        elim (next_at ns i) as (λ x. next_at ns i ≡ x → IsFollowed a i x → ComesToYes ns i) [
          | Yes ↦ λ e q. at_once i e
          | No ↦ λ e q. absurd (true≢false (sym y ∙ q))
          | To j ↦ λ e q. further i j e (let r = q.1 y in rec j (omega arith) (sym q.0 ∙ y))
        ] refl (f.each i (answer_below i y))

    comes_yes : (i : ℕ) → ComesToYes ns i → answer_at a i ≡ true
    comes_yes _ (at_once i e) = subst (IsFollowed a i) e (f.each i (yes_below i e))
    comes_yes _ (further i j e c) =
        let q : IsFollowed a i (To j) = subst (IsFollowed a i) e (f.each i (going_below i j e)) in
        q.0 ∙ comes_yes j c

    pub answers_lead : (i : ℕ) → answer_at a i ≡ leads_within ns (suc (length ns)) i
    answers_lead i =
        same_test (answer_at a i) (leads_within ns (suc (length ns)) i)
        (λ y. comes_leads (suc (length ns)) i (omega arith) (yes_comes (suc (rank_at a i)) i (omega arith) y))
        (λ y. comes_yes i (leads_comes (suc (length ns)) i y))

  -- ---- answers one by one

  pub each_leads : (bs : List Bool) → length bs ≡ length ns → ((i : ℕ) → i < length ns → get_or bs i false ≡ leads_within ns (length ns) i)
      → (i : ℕ) → get_or bs i false ≡ leads_within ns (suc (length ns)) i
  each_leads bs e h i = elim (cases_lt i (length ns)) [
    | inl l ↦ h i l ∙ enough (length ns) (suc (length ns)) i (omega arith) (omega arith)
    | inr m ↦ get_or_past bs i false (omega arith) ∙ sym (ap (next_leads (leads_within ns (length ns))) (get_or_past ns i No m))
  ]

pub leading_is_decided : LeadingIsDecided
leading_is_decided ns k i h = decided ns k i h

pub enough_is_enough : EnoughIsEnough
enough_is_enough ns k i h = enough ns k (length ns) i h (omega arith)
