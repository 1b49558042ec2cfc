-- Lists, tuples and maps that are read are typed values of their types.
use Rattle.std.proofs.Common.{◌≡◌, ℕ, suc, ◌==◌, List, [], ◌∷◌, map, length, Bool, true, false, ◌&&◌, not, cond, refl, ap, ◌∙◌, subst, arith}
use Rattle.std.proofs.lemmas.Bool.{eqb-true}
use Rattle.std.specs.List.{list_all, list_any}
use Rattle.std.specs.Ordering.{nat_cmp, is_lt}
use Rattle.std.specs.Cmp.Lexicographic.{slice_cmp}
use Rattle.json_value.specs.Value.{Value, Items, Members, text, list, object, item, no_items, member, no_members, same}
use Rattle.schema_defs.specs.Location.{place}
use Rattle.schema_defs.specs.Texts.{Relations}
use Rattle.model_defs.specs.Types.{TypeModel}
use Rattle.model_defs.specs.Model.{ContainerModel, ConversionsD}
use Rattle.model_defs.specs.Layer.{Content, one_type, places, named_fields}
use Rattle.model_defs.specs.Settled.{text_of}
use Rattle.model_defs.specs.Flat.{MembersRise}
use Rattle.typed_defs.specs.Typed.{Typed, typeds, pairs}
use Rattle.typed_defs.specs.Written.{written, field_types}
use Rattle.typed_defs.specs.IsTyped.{Held, in_places, differ_from, names_rise, each_held, pairs_held, is_of_type}
use Rattle.reading_defs.specs.Reading.{Read, taken, under, here, paired, items_read, places_read, tuple_read, pairs_read, keep_apart, value_reader, readers_of, item_readers, member_readers}
use Rattle.writing_laws.proofs.Taken.{one_taken, never_stopped, under_taken, here_taken, followed_taken, paired_taken, if_taken}
use Rattle.writing_laws.proofs.Back.{ContentLeads, MembersBack}
use Rattle.writing_laws.proofs.Pairs.{Pairs}

module _ (models : List ContainerModel) (cs : ConversionsD) (r : Relations) (q : ℕ → TypeModel → Read Typed) where
  abbrev pub Is : TypeModel → Typed → Type 0
  Is t x = is_of_type models cs r t x ≡ true

  abbrev pub held : List Typed → List Held
  held xs = each_held models cs r (typeds xs)

  -- typed values of contents
  abbrev pub content_is : Content → List Typed → Bool
  content_is (one_type t) xs = in_places (t ∷ []) (held xs)
  content_is (places ts) xs = in_places ts (held xs)
  content_is (named_fields closed fs) xs = in_places (field_types fs) (held xs)

  pub record ValueTyped (v : Value) : Type 0 where
    pub as_type : (t : TypeModel) (x : Typed) → (value_reader models cs r q v).as_type t ≡ taken x → Is t x
    pub as_content : (c : Content) (xs : List Typed) → ContentLeads c → (value_reader models cs r q v).as_content c ≡ taken xs → content_is c xs ≡ true

  abbrev pub AllTyped : Items → Type 0
  AllTyped no_items = Unit {0}
  AllTyped (item v vs) = ValueTyped v × AllTyped vs

  abbrev pub MembersTyped : Members → Type 0
  MembersTyped no_members = Unit {0}
  MembersTyped (member k v ms) = ValueTyped (text k) × ValueTyped v × MembersTyped ms

  abbrev pub PartsTyped : Value → Type 0
  PartsTyped (list vs) = AllTyped vs
  PartsTyped (object ms) = MembersTyped ms × MembersBack models cs r q q ms × MembersRise ms
  PartsTyped _ = Unit {0}

  -- ---- lists

  abbrev pub EachIs : TypeModel → List Typed → Type 0
  EachIs t [] = Unit {0}
  EachIs t (x ∷ xs) = Is t x × EachIs t xs

  pub items_are : (t : TypeModel) (i : ℕ) (vs : Items) (xs : List Typed) → AllTyped vs → items_read i t (item_readers models cs r q vs) ≡ taken xs → EachIs t xs × (length xs ≡ length (item_readers models cs r q vs))
  items_are t i no_items xs b e = subst (λ z. EachIs t z × (length z ≡ 0)) (one_taken [] xs e) (tt, refl)
  items_are t i (item v vs) xs b e =
      let one = (value_reader models cs r q v).as_type t in
      let g = followed_taken (under (place i) one) (items_read (suc i) t (item_readers models cs r q vs)) xs e in
      let rec = items_are t (suc i) vs g.1 b.1 g.3 in
      subst (λ z. EachIs t z × (length z ≡ suc (length (item_readers models cs r q vs)))) g.4 ((b.0.as_type t g.0 (under_taken (place i) one g.0 g.2), rec.0), ap suc rec.1)

  pub all_are : (t : TypeModel) (xs : List Typed) → EachIs t xs → list_all (λ h. h.is_of t) (held xs) ≡ true
  all_are t [] b = refl
  all_are t (x ∷ xs) b = let rec = all_are t xs b.1 in λ i. b.0 i && rec i

  pub held_length : (xs : List Typed) → length (held xs) ≡ length xs
  held_length [] = refl
  held_length (x ∷ xs) = ap suc (held_length xs)

  -- what is kept of a set
  pub kept_are : (t : TypeModel) (seen : List Value) (xs : List Typed) → EachIs t xs → EachIs t (keep_apart (written models t) seen xs)
  kept_are t seen [] b = tt
  kept_are t seen (x ∷ xs) b = by (list_any (same (written models t x)) seen) (kept_are t seen xs b.1) (kept_are t (written models t x ∷ seen) xs b.1)
    where
      by : (z : Bool) → EachIs t (keep_apart (written models t) seen xs) → EachIs t (keep_apart (written models t) (written models t x ∷ seen) xs)
          → EachIs t (cond z (keep_apart (written models t) seen xs) (x ∷ keep_apart (written models t) (written models t x ∷ seen) xs))
      by true g h = g
      by false g h = (b.0, h)

  pub kept_differ : (t : TypeModel) (seen : List Value) (xs : List Typed) → differ_from seen (map (λ h. h.writes t) (held (keep_apart (written models t) seen xs))) ≡ true
  kept_differ t seen [] = refl
  kept_differ t seen (x ∷ xs) = by (list_any (same (written models t x)) seen) refl (kept_differ t seen xs) (kept_differ t (written models t x ∷ seen) xs)
    where
      by : (z : Bool) → list_any (same (written models t x)) seen ≡ z → differ_from seen (map (λ h. h.writes t) (held (keep_apart (written models t) seen xs))) ≡ true
          → differ_from (written models t x ∷ seen) (map (λ h. h.writes t) (held (keep_apart (written models t) (written models t x ∷ seen) xs))) ≡ true
          → differ_from seen (map (λ h. h.writes t) (held (cond z (keep_apart (written models t) seen xs) (x ∷ keep_apart (written models t) (written models t x ∷ seen) xs)))) ≡ true
      by true e g h = g
      by false e g h = λ i. not (e i) && h i

  -- ---- places

  places_are : (ts : List TypeModel) (i : ℕ) (vs : Items) (xs : List Typed) → AllTyped vs → length (item_readers models cs r q vs) ≡ length ts → places_read i ts (item_readers models cs r q vs) ≡ taken xs → in_places ts (held xs) ≡ true
  places_are [] i no_items xs b l e = subst (λ z. in_places [] (held z) ≡ true) (one_taken [] xs e) refl
  places_are [] i (item v vs) xs b l e = absurd (omega (arith, l))
  places_are (t ∷ ts) i no_items xs b l e = absurd (omega (arith, l))
  places_are (t ∷ ts) i (item v vs) xs b l e =
      let one = (value_reader models cs r q v).as_type t in
      let g = followed_taken (under (place i) one) (places_read (suc i) ts (item_readers models cs r q vs)) xs e in
      let rec = places_are ts (suc i) vs g.1 b.1 (omega (arith, l)) g.3 in
      let first = b.0.as_type t g.0 (under_taken (place i) one g.0 g.2) in
      subst (λ z. in_places (t ∷ ts) (held z) ≡ true) g.4 (λ j. first j && rec j)

  pub tuple_is : (ts : List TypeModel) (v : Value) (xs : List Typed) → PartsTyped v → tuple_read ts (readers_of models cs r q v) ≡ taken xs → in_places ts (held xs) ≡ true
  tuple_is ts (list vs) xs b e =
      let g = if_taken (length (item_readers models cs r q vs) == length ts) (places_read 0 ts (item_readers models cs r q vs)) xs e in
      places_are ts 0 vs xs b (eqb-true (length (item_readers models cs r q vs)) (length ts) g.0) g.1
  tuple_is ts _ xs b e = absurd (never_stopped xs [] e)

  -- ---- maps

  pub pairs_are : (k t : TypeModel) (ms : Members) (es : List (Typed × Typed)) → MembersTyped ms → pairs_read k t (member_readers models cs r q ms) ≡ taken es
      → list_all (λ h. h.0.is_of k && h.1.is_of t) (pairs_held models cs r (pairs es)) ≡ true
  pairs_are k t no_members es b e = subst (λ z. list_all (λ h. h.0.is_of k && h.1.is_of t) (pairs_held models cs r (pairs z)) ≡ true) (one_taken [] es e) refl
  pairs_are k t (member n v ms) es b e =
      let key = (value_reader models cs r q (text n)).as_type k in
      let one = (value_reader models cs r q v).as_type t in
      let g = followed_taken (under n (paired (here key) one)) (pairs_read k t (member_readers models cs r q ms)) es e in
      let p = paired_taken (here key) one g.0 (under_taken n (paired (here key) one) g.0 g.2) in
      let name = b.0.as_type k p.0 (here_taken key p.0 p.2) in
      let first = b.1.as_type t p.1 p.3 in
      let rec = pairs_are k t ms g.1 b.2 g.3 in
      subst (λ z. list_all (λ h. h.0.is_of k && h.1.is_of t) (pairs_held models cs r (pairs z)) ≡ true) g.4
      (subst (λ z. list_all (λ h. h.0.is_of k && h.1.is_of t) (pairs_held models cs r (pairs (z ∷ g.1))) ≡ true) p.4 (λ i. (name i && first i) && rec i))

  pub pairs_rise : (k t : TypeModel) (es : List (Typed × Typed)) (ms : Members) → Pairs models cs r q q k t es ms → MembersRise ms
      → names_rise (map (λ h. text_of [] (h.0.writes k)) (pairs_held models cs r (pairs es))) ≡ true
  pairs_rise k t [] no_members b h = refl
  pairs_rise k t [] (member n v ms) b h = absurd b
  pairs_rise k t (e ∷ es) no_members b h = absurd b
  pairs_rise k t (e ∷ []) (member n v ms) b h = refl
  pairs_rise k t (e ∷ d ∷ es) (member n v no_members) b h = absurd b.3
  pairs_rise k t (e ∷ d ∷ es) (member n v (member m u ms)) b h =
      let rec = pairs_rise k t (d ∷ es) (member m u ms) b.3 h.1 in
      let first : is_lt (slice_cmp nat_cmp (text_of [] (written models k e.0)) (text_of [] (written models k d.0))) ≡ true =
      (λ i. is_lt (slice_cmp nat_cmp (text_of [] (b.0 i)) (text_of [] (b.3.0 i)))) ∙ ap is_lt h.0 in
      λ i. first i && rec i
