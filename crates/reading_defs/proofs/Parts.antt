-- Readings of the parts of a value that agree: lists and maps of them agree.
use Rattle.std.proofs.Common.{◌≡◌, ℕ, suc, List, [], ◌∷◌, map, length, Bool, true, false, ◌&&◌, cond, refl, sym, ap, ◌∙◌, arith}
use Rattle.std.specs.List.{list_all, list_any}
use Rattle.json_value.specs.Value.{Value, null, list, object, items, same}
use Rattle.schema_defs.specs.Location.{Location, place}
use Rattle.model_defs.specs.Types.{TypeModel}
use Rattle.model_defs.specs.Model.{no_helper, ContainerModel}
use Rattle.model_defs.specs.Layer.{Content, one_type, places, named_fields, Judge, MemberPart, each_member, in_places}
use Rattle.model_defs.specs.Refusals.{Seen, judged, first_item, first_place, first_member}
use Rattle.model_defs.specs.Settled.{Part, places_written, entries_written, text_of, firsts_after, is_empty_at}
use Rattle.typed_defs.specs.Typed.{Typed, typeds, pairs}
use Rattle.typed_defs.specs.Written.{written, writes, by_places, fields_of, members_written, pairs_in, pairs_write, counts_as_empty}
use Rattle.typed_defs.specs.Fit.{may_be_empty}
use Rattle.reading_defs.specs.Reading.{Read, taken, stopped, unsound, Reader, under, here, paired, items_read, places_read, pair_read, pairs_read, keep_apart}
use Rattle.reading_defs.proofs.Good.{ContentIsGood}
use Rattle.reading_defs.proofs.Agree.{Agrees, agrees_under, agrees_along, agrees_followed, agrees_paired, nested}

-- a settled name is a text, whatever stands for one that is none
abbrev pub IsTextual : Value → Type 0
IsTextual w = (m n : List ℕ) → text_of m w ≡ text_of n w

module _ (models : List ContainerModel) (E : Type 0) (d : ℕ → TypeModel → Value) (q : ℕ → TypeModel → Read Typed) where
  -- what the contents of a variant are written as
  abbrev pub contents_written : Content → List Typed → Value
  contents_written (one_type t) (x ∷ []) = written models t x
  contents_written (one_type t) _ = null
  contents_written (places ts) xs = list (items (by_places ts (map (writes models) xs)))
  contents_written (named_fields closed fs) xs = object (members_written fs (fields_of models (typeds xs)))

  -- a part of a value, as each definition sees it
  pub record Part' : Type 0 where
    pub seen : Seen
    pub part : Part
    pub reader : Reader
    pub as_type : (t : TypeModel) → Agrees E (seen.takes (one_type t)) (seen.stops (one_type t)) (λ x. written models t x ≡ part.writes (one_type t)) (reader.as_type t)
    pub as_content : (c : Content) → ContentIsGood models E d q c → Agrees E (seen.takes c) (seen.stops c) (λ xs. contents_written c xs ≡ part.writes c) (reader.as_content c)
    pub empties : (t : TypeModel) (x : Typed) → may_be_empty t ≡ true → reader.as_type t ≡ taken x → counts_as_empty x ≡ is_empty_at no_helper t part.value

  -- a member
  pub record Entry : Type 0 where
    pub name : List ℕ
    pub key : Part'
    pub value : Part'
    pub texts : (k : TypeModel) → key.seen.takes (one_type k) ≡ true → IsTextual (key.part.writes (one_type k))

  abbrev pub takes_of : Part' → Judge
  takes_of p = p.seen.takes

  abbrev pub seen_of : Part' → Seen
  seen_of p = p.seen

  abbrev pub part_of : Part' → Part
  part_of p = p.part

  abbrev pub reader_of : Part' → Reader
  reader_of p = p.reader

  abbrev pub takes_at : Entry → MemberPart Judge
  takes_at e = record { name = e.name; key = e.key.seen.takes; value = e.value.seen.takes }

  abbrev pub seen_at : Entry → MemberPart Seen
  seen_at e = record { name = e.name; key = record { takes = e.key.seen.takes; stops = λ c. [] }; value = e.value.seen }

  abbrev pub part_at : Entry → MemberPart Part
  part_at e = record { name = e.name; key = e.key.part; value = e.value.part }

  abbrev pub reader_at : Entry → MemberPart Reader
  reader_at e = record { name = e.name; key = e.key.reader; value = e.value.reader }

  pub judged_map : (es : List Entry) → map judged (map seen_at es) ≡ map takes_at es
  judged_map [] = refl
  judged_map (e ∷ es) = ap (λ ms. takes_at e ∷ ms) (judged_map es)

  -- ---- lists

  pub items_agree : (t : TypeModel) (i : ℕ) (ps : List Part')
      → Agrees E (list_all (λ j. j (one_type t)) (map takes_of ps)) (first_item i (one_type t) (map seen_of ps))
      (λ xs. map (written models t) xs ≡ map (λ p. p.writes (one_type t)) (map part_of ps)) (items_read i t (map reader_of ps))
  items_agree t i [] = (refl, refl)
  items_agree t i (p ∷ ps) =
      agrees_followed E (λ x. written models t x ≡ p.part.writes (one_type t)) (λ xs. map (written models t) xs ≡ map (λ w. w.writes (one_type t)) (map part_of ps))
      (λ xs. map (written models t) xs ≡ p.part.writes (one_type t) ∷ map (λ w. w.writes (one_type t)) (map part_of ps))
      (p.seen.takes (one_type t)) (list_all (λ j. j (one_type t)) (map takes_of ps)) (place i ∷ p.seen.stops (one_type t)) (first_item (suc i) (one_type t) (map seen_of ps))
      (λ x xs a b. λ k. a k ∷ b k) (under (place i) (p.reader.as_type t)) (items_read (suc i) t (map reader_of ps))
      (agrees_under E (λ x. written models t x ≡ p.part.writes (one_type t)) (place i) (p.seen.takes (one_type t)) (p.seen.stops (one_type t)) (p.reader.as_type t) (p.as_type t))
      (items_agree t (suc i) ps)

  pub places_agree : (ts : List TypeModel) (i : ℕ) (ps : List Part') → length ps ≡ length ts
      → Agrees E (in_places ts (map takes_of ps)) (first_place i ts (map seen_of ps))
      (λ xs. by_places ts (map (writes models) xs) ≡ places_written ts (map part_of ps)) (places_read i ts (map reader_of ps))
  places_agree [] i [] h = (refl, refl)
  places_agree [] i (p ∷ ps) h = absurd (omega (arith, h))
  places_agree (t ∷ ts) i [] h = absurd (omega (arith, h))
  places_agree (t ∷ ts) i (p ∷ ps) h =
      agrees_followed E (λ x. written models t x ≡ p.part.writes (one_type t)) (λ xs. by_places ts (map (writes models) xs) ≡ places_written ts (map part_of ps))
      (λ xs. by_places (t ∷ ts) (map (writes models) xs) ≡ p.part.writes (one_type t) ∷ places_written ts (map part_of ps))
      (p.seen.takes (one_type t)) (in_places ts (map takes_of ps)) (place i ∷ p.seen.stops (one_type t)) (first_place (suc i) ts (map seen_of ps))
      (λ x xs a b. λ k. a k ∷ b k) (under (place i) (p.reader.as_type t)) (places_read (suc i) ts (map reader_of ps))
      (agrees_under E (λ x. written models t x ≡ p.part.writes (one_type t)) (place i) (p.seen.takes (one_type t)) (p.seen.stops (one_type t)) (p.reader.as_type t) (p.as_type t))
      (places_agree ts (suc i) ps (omega (arith, h)))

  pub no_places : (ts : List TypeModel) (ps : List Part') → (length ps ≡ length ts → ⊥) → in_places ts (map takes_of ps) ≡ false
  no_places [] [] h = absurd (h refl)
  no_places [] (p ∷ ps) h = refl
  no_places (t ∷ ts) [] h = refl
  no_places (t ∷ ts) (p ∷ ps) h = ap (λ b. p.seen.takes (one_type t) && b) (no_places ts ps (λ e. h (ap suc e))) ∙ by (p.seen.takes (one_type t))
    where
      by : (b : Bool) → (b && false) ≡ false
      by true = refl
      by false = refl

  -- of a set each that is not written like one before it
  pub kept_apart : (t : TypeModel) (seen : List Value) (xs : List Typed) → map (written models t) (keep_apart (written models t) seen xs) ≡ firsts_after seen (map (written models t) xs)
  kept_apart t seen [] = refl
  kept_apart t seen (x ∷ xs) = by (list_any (same (written models t x)) seen) (kept_apart t seen xs) (kept_apart t (written models t x ∷ seen) xs)
    where
      by : (b : Bool) → map (written models t) (keep_apart (written models t) seen xs) ≡ firsts_after seen (map (written models t) xs)
          → map (written models t) (keep_apart (written models t) (written models t x ∷ seen) xs) ≡ firsts_after (written models t x ∷ seen) (map (written models t) xs)
          → map (written models t) (cond b (keep_apart (written models t) seen xs) (x ∷ keep_apart (written models t) (written models t x ∷ seen) xs))
          ≡ cond b (firsts_after seen (map (written models t) xs)) (written models t x ∷ firsts_after (written models t x ∷ seen) (map (written models t) xs))
      by true g h = g
      by false g h = ap (λ vs. written models t x ∷ vs) h

  -- ---- maps

  abbrev IsPairOf : TypeModel → TypeModel → Entry → Typed × Typed → Type 0
  IsPairOf k t e x = (text_of [] (written models k x.0) ≡ text_of e.name (e.key.part.writes (one_type k))) × (written models t x.1 ≡ e.value.part.writes (one_type t))

  key_agrees : (k : TypeModel) (n : List ℕ) (b : Bool) (s : Location) (w : Value) (r : Read Typed) → (b ≡ true → IsTextual w)
      → Agrees E b s (λ x. written models k x ≡ w) r → Agrees E b [] (λ x. text_of [] (written models k x) ≡ text_of n w) (here r)
  key_agrees k n b s w (taken x) f h = (h.0, ap (text_of []) h.1 ∙ f h.0 [] n)
  key_agrees k n b s w (stopped l) f h = (h.0, refl)
  key_agrees k n b s w unsound f h = h

  under_cond : (n : List ℕ) (b : Bool) (s : Location) → cond b (n ∷ s) (n ∷ []) ≡ n ∷ cond b s []
  under_cond n true s = refl
  under_cond n false s = refl

  pair_agrees : (k t : TypeModel) (e : Entry)
      → Agrees E (e.key.seen.takes (one_type k) && e.value.seen.takes (one_type t)) (cond (e.key.seen.takes (one_type k)) (e.name ∷ e.value.seen.stops (one_type t)) (e.name ∷ []))
      (IsPairOf k t e) (pair_read k t (reader_at e))
  pair_agrees k t e =
      let a = e.key.seen.takes (one_type k) in
      let b = e.value.seen.takes (one_type t) in
      let s = e.value.seen.stops (one_type t) in
      agrees_along E (IsPairOf k t e) (a && b) (a && b) (e.name ∷ cond a s []) (cond a (e.name ∷ s) (e.name ∷ [])) (pair_read k t (reader_at e)) refl (under_cond e.name a s)
      (agrees_under E (IsPairOf k t e) e.name (a && b) (cond a s []) (paired (here (e.key.reader.as_type k)) (e.value.reader.as_type t))
      (agrees_paired E (λ x. text_of [] (written models k x) ≡ text_of e.name (e.key.part.writes (one_type k))) (λ y. written models t y ≡ e.value.part.writes (one_type t)) (IsPairOf k t e) a b [] s
      (λ x y g h. (g, h)) (here (e.key.reader.as_type k)) (e.value.reader.as_type t)
      (key_agrees k e.name a (e.key.seen.stops (one_type k)) (e.key.part.writes (one_type k)) (e.key.reader.as_type k) (e.texts k) (e.key.as_type k))
      (e.value.as_type t)))

  pub pairs_agree : (k t : TypeModel) (es : List Entry)
      → Agrees E (each_member k t (map takes_at es)) (first_member k t (map seen_at es))
      (λ xs. pairs_write k t (pairs_in models (pairs xs)) ≡ entries_written k t (map part_at es)) (pairs_read k t (map reader_at es))
  pairs_agree k t [] = (refl, refl)
  pairs_agree k t (e ∷ es) =
      let a = e.key.seen.takes (one_type k) in
      let b = e.value.seen.takes (one_type t) in
      let s = e.name ∷ e.value.seen.stops (one_type t) in
      agrees_along E (λ xs. pairs_write k t (pairs_in models (pairs xs)) ≡ entries_written k t (map part_at (e ∷ es)))
      (a && b && each_member k t (map takes_at es)) (a && b && each_member k t (map takes_at es))
      (cond (a && b) (first_member k t (map seen_at es)) (cond a s (e.name ∷ []))) (first_member k t (map seen_at (e ∷ es)))
      (pairs_read k t (map reader_at (e ∷ es))) refl (sym (nested a b (first_member k t (map seen_at es)) s (e.name ∷ [])))
      (agrees_followed E (IsPairOf k t e) (λ xs. pairs_write k t (pairs_in models (pairs xs)) ≡ entries_written k t (map part_at es))
      (λ xs. pairs_write k t (pairs_in models (pairs xs)) ≡ entries_written k t (map part_at (e ∷ es))) (a && b) (each_member k t (map takes_at es)) (cond a s (e.name ∷ [])) (first_member k t (map seen_at es))
      (λ x xs g h. λ j. (g.0 j, g.1 j) ∷ h j) (pair_read k t (reader_at e)) (pairs_read k t (map reader_at es)) (pair_agrees k t e) (pairs_agree k t es))
