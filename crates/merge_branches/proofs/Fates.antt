-- The fates of members, one after another.
use Rattle.std.proofs.Common.{◌≡◌, ℕ, ◌+◌, ◌<◌, ◌≤◌, List, [], ◌∷◌, ◌++◌, Bool, true, false, ◌||◌, not, Some, None, take, drop, length, get_or, append_assoc, append-nil, refl, sym, ap, ◌∙◌, subst, arith}
use Rattle.std.specs.Prelude.{Option, if◌then◌else◌}
use Rattle.std.proofs.lemmas.List.{take_more, drop_more, drop_all, take-map, drop-map, length-map}
use Rattle.schema_defs.specs.Schema.{Schema, boolean}
use Rattle.schema_types.specs.View.{schema_view, schemas_view}
use Rattle.schema_types.specs.declared.schema.Schema as tree
use Rattle.merge_defs.specs.Outcome.{Note, Outcome, fault, never, answer, noted, mapped, has_way, widened, narrowed, note_if, more_than, of_reference}
use Rattle.merge_defs.specs.Alike.{roughly, wholly}
use Rattle.merge_defs.specs.Members.{As, Fate, Kept, as_body, as_member, joined, joint, out, left, fate, fates, with_fate, none_kept}
use Rattle.merge_parts.specs.Steps.{Steps, given}
use Rattle.merge_parts.proofs.Steps.{after_notes}
use Rattle.merge_steps.specs.Ends.{Leads}
use Rattle.merge_steps.proofs.Leading.{noted_nothing, answered_leads, mapped_leads, mapped_twice, leads_by, leads_on, leads_as}
use Rattle.merge_branches.specs.Kept.{kept_with, after_kept, fates_from, fate_so, stands_so}

-- ---- lists of those that are kept

or_more : (a b c : Bool) → (a || (b || c)) ≡ ((a || b) || c)
or_more true b c = refl
or_more false b c = refl

-- one more behind those before it, and what comes after
kept_more : (k : Kept) (f : Fate) (l : Kept) → after_kept k (with_fate f l) ≡ after_kept (kept_with k f) l
kept_more k (out b) l = ap (λ x. record { members = k.members ++ l.members; lost = x }) (or_more k.lost b l.lost)
kept_more k (left x) l = ap (λ ms. record { members = ms; lost = k.lost || l.lost }) (sym (append_assoc k.members (x ∷ []) l.members))

mapped_same : {A B : Type 0} (f g : A → B) → ((a : A) → f a ≡ g a) → (o : Outcome A) → mapped f o ≡ mapped g o
mapped_same f g e (fault d) = refl
mapped_same f g e (never ns) = refl
mapped_same f g e (answer ns a) = ap (answer ns) (e a)

or_none : (b : Bool) → (b || false) ≡ b
or_none true = refl
or_none false = refl

-- ---- one member

module _ (join : Schema → Schema → Outcome Schema) (body : Schema) where
  judged : (m : Schema) (before after : List Schema) (k : Kept) (old new : List Note) (f : Fate) → Steps old new (fate body m (before ++ after) (join body m)) (Some f)
      → Leads old new (mapped (after_kept k) (fates join body before (m ∷ after))) (mapped (after_kept (kept_with k f)) (fates join body (before ++ m ∷ []) after))
  judged m before after k old new f s =
      let rest = fates join body (before ++ m ∷ []) after in
      leads_as (mapped_leads (after_kept k) (answered_leads (fate body m (before ++ after) (join body m)) (λ g. mapped (with_fate g) rest) f s.told))
      (mapped_twice (after_kept k) (with_fate f) rest ∙ mapped_same (λ l. after_kept k (with_fate f l)) (after_kept (kept_with k f)) (kept_more k f) rest)

  -- the member at a place of all
  at_place : (ms : List Schema) (n : ℕ) (k : Kept) (old new : List Note) (f : Fate) → n < length ms
      → Steps old new (fate body (get_or ms n (boolean true)) (take n ms ++ drop (n + 1) ms) (join body (get_or ms n (boolean true)))) (Some f)
      → Leads old new (fates_from join body ms n k) (fates_from join body ms (n + 1) (kept_with k f))
  at_place ms n k old new f within s =
      let m = get_or ms n (boolean true) in
      leads_on (leads_by (ap (λ ys. mapped (after_kept k) (fates join body (take n ms) ys)) (drop_more ms n (boolean true) within)))
      (leads_as (judged m (take n ms) (drop (n + 1) ms) k old new f s)
      (ap (λ ys. mapped (after_kept (kept_with k f)) (fates join body ys (drop (n + 1) ms))) (sym (take_more ms n (boolean true) within))))

-- the outcome of a merge of its own, by its notes and what it found
alone : {A : Type 0} (ns : List Note) (o : Outcome A) (found : Option A) → Steps [] ns o found → o ≡ given ns found
alone ns o found s = sym (noted_nothing o) ∙ s.told

-- the same, as the program has the members
pub judged_at : (xs before rest after : List tree.Schema) (member : tree.Schema) (n : ℕ) (body : Schema) (told old new : List Note) (found : Option Schema) (f : Fate) (k k' : Kept)
    → n < length xs → before ≡ take n xs → rest ≡ drop n xs → after ≡ drop 1 rest → member ≡ get_or xs n member
    → Steps old new (fate body (schema_view member) (schemas_view before ++ schemas_view after) (given told found)) (Some f) → k' ≡ kept_with k f
    → (join : Schema → Schema → Outcome Schema) → Steps [] told (join body (get_or (schemas_view xs) n (boolean true))) found
    → Leads old new (fates_from join body (schemas_view xs) n k) (fates_from join body (schemas_view xs) (n + 1) k')
judged_at xs before rest after member n body told old new found f k k' within hb hr ha hm s hk join j =
    let ms = schemas_view xs in
    let m = get_or ms n (boolean true) in
    let inside : n < length ms = omega (arith, within, length-map xs schema_view) in
    let found_at : rest ≡ member ∷ after = hr ∙ drop_more xs n member within ∙ (λ i. sym hm i ∷ drop (n + 1) xs) ∙ ap (λ ys. member ∷ ys) (sym (ha ∙ ap (drop 1) (hr ∙ drop_more xs n member within))) in
    let parts : schema_view member ∷ schemas_view after ≡ m ∷ drop (n + 1) ms = ap schemas_view (sym found_at ∙ hr) ∙ sym (drop-map schema_view n xs) ∙ drop_more ms n (boolean true) inside in
    let at : schema_view member ≡ m = cc in
    let later : schemas_view after ≡ drop (n + 1) ms = cc in
    let earlier : schemas_view before ≡ take n ms = ap schemas_view hb ∙ sym (take-map schema_view n xs) in
    let is : fate body (schema_view member) (schemas_view before ++ schemas_view after) (given told found) ≡ fate body m (take n ms ++ drop (n + 1) ms) (join body m) =
    (λ i. fate body (at i) (earlier i ++ later i) (sym (alone told (join body m) found j) i)) in
    let P : Kept → Type 0 = λ l. Leads old new (fates_from join body ms n k) (fates_from join body ms (n + 1) l) in
    let Q : Outcome Fate → Type 0 = λ o. Steps old new o (Some f) in
    subst P (sym hk) (at_place join body ms n k old new f inside (subst Q is s))

-- ---- the loop over all members

pub fates_begin : (join : Schema → Schema → Outcome Schema) (body : Schema) (ms : List Schema) → fates join body [] ms ≡ fates_from join body ms 0 none_kept
fates_begin join body ms = same (fates join body [] ms)
  where
    same : (o : Outcome Kept) → o ≡ mapped (after_kept none_kept) o
    same (fault f) = refl
    same (never ns) = refl
    same (answer ns k) = refl

pub fates_end : (join : Schema → Schema → Outcome Schema) (body : Schema) (ms : List Schema) (n : ℕ) (k : Kept) → length ms ≤ n → fates_from join body ms n k ≡ answer [] k
fates_end join body ms n k h =
    ap (λ ys. mapped (after_kept k) (fates join body (take n ms) ys)) (drop_all n ms h)
    ∙ (λ i. answer [] (record { members = append-nil k.members i; lost = or_none k.lost i }))

-- ---- what becomes of one member, by its merge

-- it stands for its merge
pub stood : (old new : List Note) (how : As) (s kept merge : Schema) (wide b : Bool) → b ≡ not (wholly merge s) → new ≡ old ++ note_if b (more_than of_reference ∷ []) → kept ≡ s
    → Steps old new (stands_so how s merge wide) (Some (left (record { how = how; wider = b || wide; schema = kept })))
stood old new how s kept merge wide b hb e hk =
    let P : Bool → Type 0 = λ c. Steps old new (answer (note_if c (more_than of_reference ∷ [])) (left (record { how = how; wider = c || wide; schema = s }))) (Some (left (record { how = how; wider = b || wide; schema = kept }))) in
    subst P hb (record { told = (λ i. answer (sym e i) (left (record { how = how; wider = b || wide; schema = sym hk i }))) })

module _ (old new : List Note) (body m : Schema) (others : List Schema) (merge : Schema) (wide : Bool) where
  abbrev chosen_by : Bool → Bool → Outcome Fate
  chosen_by b c =
      if b then stands_so as_body body merge wide else if c then stands_so as_member m merge wide else answer [] (left (record { how = joined; wider = wide; schema = joint body m others }))

  pub is_body : (f : Fate) → roughly merge body ≡ true → Steps old new (stands_so as_body body merge wide) (Some f) → Steps old new (fate_so body m others merge wide) (Some f)
  is_body f h s = let P : Bool → Type 0 = λ b. Steps old new (chosen_by b (roughly merge m)) (Some f) in subst P (sym h) s

  pub is_member : (f : Fate) → roughly merge body ≡ false → roughly merge m ≡ true → Steps old new (stands_so as_member m merge wide) (Some f) → Steps old new (fate_so body m others merge wide) (Some f)
  is_member f h k s = let P : Outcome Fate → Type 0 = λ o. Steps old new o (Some f) in subst P (λ i. chosen_by (sym h i) (sym k i)) s

  pub is_joint : (s : Schema) → roughly merge body ≡ false → roughly merge m ≡ false → s ≡ joint body m others → new ≡ old → Steps old new (fate_so body m others merge wide) (Some (left (record { how = joined; wider = wide; schema = s })))
  is_joint s h k e same =
      record {
        told = (λ i. noted old (chosen_by (h i) (k i))) ∙ ap (λ ns. answer ns (left (record { how = joined; wider = wide; schema = joint body m others }))) (append-nil old ∙ sym same)
            ∙ (λ i. answer new (left (record { how = joined; wider = wide; schema = sym e i })));
      }

-- it has none
pub was_never : (old new told : List Note) (body m : Schema) (others : List Schema) (found : Option Schema) (b : Bool) → found ≡ None → new ≡ old ++ told → b ≡ has_way narrowed told
    → Steps old new (fate body m others (given told found)) (Some (out b))
was_never old new told body m others found b none e h = record { told = (λ i. noted old (fate body m others (given told (none i)))) ∙ (λ i. answer (sym e i) (out (sym h i))) }

chosen : {A : Type 0} (b c : Bool) (told : List Note) (p q : Outcome A) (x : A)
    → (if b then noted told p else if c then noted told q else answer told x) ≡ noted told (if b then p else if c then q else answer [] x)
chosen true c told p q x = refl
chosen false true told p q x = refl
chosen false false told p q x = ap (λ ns. answer ns x) (sym (append-nil told))

fate_by : (body m : Schema) (others : List Schema) (told : List Note) (merge : Schema) → fate body m others (answer told merge) ≡ noted told (fate_so body m others merge (has_way widened told))
fate_by body m others told merge =
    let wide = has_way widened told in
    chosen (roughly merge body) (roughly merge m) told (stands_so as_body body merge wide) (stands_so as_member m merge wide) (left (record { how = joined; wider = wide; schema = joint body m others }))

pub was_answer : (old mid new told : List Note) (body m : Schema) (others : List Schema) (found : Option Schema) (merge : Schema) (wide : Bool) (f : Fate) → found ≡ Some merge → mid ≡ old ++ told → wide ≡ has_way widened told
    → Steps mid new (fate_so body m others merge wide) (Some f) → Steps old new (fate body m others (given told found)) (Some f)
was_answer old mid new told body m others found merge wide f some e h s =
    let P : Bool → Type 0 = λ w. Steps mid new (fate_so body m others merge w) (Some f) in
    let Q : Outcome Fate → Type 0 = λ o. Steps old new o (Some f) in
    subst Q (sym (ap (λ g. fate body m others (given told g)) some ∙ fate_by body m others told merge)) (after_notes old mid new told (fate_so body m others merge (has_way widened told)) (Some f) e (subst P h s))
