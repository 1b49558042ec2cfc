-- One value at its types: what reading gives agrees with what the definitions say, where it does at the items and at the parts.
use Rattle.std.proofs.Common.{◌≡◌, ℕ, ◌==◌, ℤ, pos, negsuc, List, [], map, length, Bool, true, false, ◌&&◌, ◌||◌, cond, refl, sym, ap, ◌∙◌, subst}
use Rattle.std.specs.List.{list_all}
use Rattle.std.proofs.lemmas.List.{length-map}
use Rattle.std.proofs.lemmas.Bool.{eqb-true, eqb-false}
use Rattle.json_value.specs.Value as value
use Rattle.json_value.specs.Value.{Value, null, number, fraction, text, list, object, items, no_members}
use Rattle.schema_defs.specs.declared.Format.{Format}
use Rattle.schema_defs.specs.Location.{Location}
use Rattle.schema_defs.specs.Integers.{Range, in_range}
use Rattle.schema_defs.specs.Texts.{Relations}
use Rattle.model_defs.specs.Types.{TypeModel, boolean_type, integer_type, text_type, native_type, any_type, unit_type, option_type, boxed_type, vec_type, set_type, map_type, tuple_type, array_type, item_type, outside_type, types_of}
use Rattle.model_defs.specs.Model.{ContainerModel}
use Rattle.model_defs.specs.Layer.{Content, one_type, places, named_fields, Judge, MemberPart, Parts, no_parts, list_parts, object_parts, is_boolean, is_in_range, is_text, is_null, has_the_format, each_item, in_places, of_length, type_takes, content_takes}
use Rattle.model_defs.specs.Layer as layer
use Rattle.model_defs.specs.Refusals.{Seen, first_item, first_place, in_list, in_array, in_tuple, type_stops}
use Rattle.model_defs.specs.Settled.{Part, put_all, each_written, places_written, type_writes, content_writes}
use Rattle.model_defs.specs.Settled as settled
use Rattle.model_defs.specs.Reach.{asked, is_among}
use Rattle.model_defs.proofs.Reach.{lone_among}
use Rattle.typed_defs.specs.Typed as typed
use Rattle.typed_defs.specs.Typed.{Typed, typeds, pairs}
use Rattle.typed_defs.specs.Written.{written, writes, json_number, by_places, pairs_in, pairs_write}
use Rattle.reading_defs.specs.Proper.{is_json_number, has_json_numbers}
use Rattle.reading_defs.specs.Reading.{Read, taken, stopped, Reader, read_map, boolean_read, integer_read, text_read, native_read, unit_read, list_read, array_read, tuple_read, items_read, places_read, keep_apart, type_read}
use Rattle.reading_defs.proofs.Agree.{Agrees, agrees_map, agrees_as, agrees_along}
use Rattle.reading_defs.proofs.Parts.{Part', Entry, takes_of, seen_of, part_of, reader_of, takes_at, seen_at, part_at, reader_at, items_agree, places_agree, no_places, kept_apart, pairs_agree}
use Rattle.reading_defs.proofs.Rows.{boxed_written, each_written as each_held, each_mapped}

-- the parts of a value
pub data Inside (P M : Type 0) : Type 0 where
  none_inside : Inside P M
  items_inside : List P → Inside P M
  members_inside : List M → Inside P M

json_is : (z : ℤ) → is_json_number z ≡ true → json_number z ≡ number z
json_is (pos n) h = ap (λ b. cond b (number (pos n)) null) h
json_is (negsuc n) h = ap (λ b. cond b (number (negsuc n)) null) h

module _ (models : List ContainerModel) (E : Type 0) (d : ℕ → TypeModel → Value) (q : ℕ → TypeModel → Read Typed) where
  abbrev pub takes_in : Inside (Part' models E d q) (Entry models E d q) → Parts Judge
  takes_in none_inside = no_parts
  takes_in (items_inside ps) = list_parts (map (takes_of models E d q) ps)
  takes_in (members_inside es) = object_parts (map (takes_at models E d q) es)

  abbrev pub seen_in : Inside (Part' models E d q) (Entry models E d q) → Parts Seen
  seen_in none_inside = no_parts
  seen_in (items_inside ps) = list_parts (map (seen_of models E d q) ps)
  seen_in (members_inside es) = object_parts (map (seen_at models E d q) es)

  abbrev pub parts_in : Inside (Part' models E d q) (Entry models E d q) → Parts Part
  parts_in none_inside = no_parts
  parts_in (items_inside ps) = list_parts (map (part_of models E d q) ps)
  parts_in (members_inside es) = object_parts (map (part_at models E d q) es)

  abbrev pub readers_in : Inside (Part' models E d q) (Entry models E d q) → Parts Reader
  readers_in none_inside = no_parts
  readers_in (items_inside ps) = list_parts (map (reader_of models E d q) ps)
  readers_in (members_inside es) = object_parts (map (reader_at models E d q) es)

  -- ---- scalars

  boolean_row : (v : Value) → Agrees E (is_boolean v) [] (λ x. written models boolean_type x ≡ v) (boolean_read v)
  boolean_row (value.boolean b) = (refl, refl)
  boolean_row _ = (refl, refl)

  whole_row : (g : Range) (z : ℤ) → is_json_number z ≡ true → (b : Bool) → Agrees E b [] (λ x. written models (integer_type g) x ≡ number z) (cond b (taken (typed.integer z)) (stopped []))
  whole_row g z h true = (refl, json_is z h)
  whole_row g z h false = (refl, refl)

  integer_row : (g : Range) (v : Value) → has_json_numbers v ≡ true → Agrees E (is_in_range g v) [] (λ x. written models (integer_type g) x ≡ v) (integer_read g v)
  integer_row g (number z) h = whole_row g z h (in_range z g)
  integer_row g _ h = (refl, refl)

  text_row : (v : Value) → Agrees E (is_text v) [] (λ x. written models text_type x ≡ v) (text_read v)
  text_row (text s) = (refl, refl)
  text_row _ = (refl, refl)

  format_row : (f : Format) (s : List ℕ) (b : Bool) → Agrees E b [] (λ x. written models (native_type f) x ≡ text s) (cond b (taken (typed.text s)) (stopped []))
  format_row f s true = (refl, refl)
  format_row f s false = (refl, refl)

  native_row : (r : Relations) (f : Format) (v : Value) → Agrees E (has_the_format r f v) [] (λ x. written models (native_type f) x ≡ v) (native_read r f v)
  native_row r f (text s) = format_row f s (r.has_format f s)
  native_row r f _ = (refl, refl)

  unit_row : (v : Value) → Agrees E (is_null v) [] (λ x. written models unit_type x ≡ v) (unit_read v)
  unit_row null = (refl, refl)
  unit_row _ = (refl, refl)

  option_row : (t : TypeModel) (b u : Bool) (s : Location) (w : Value) (r : Read Typed) → Agrees E u s (λ x. written models t x ≡ w) r
      → Agrees E (b || u) (cond b s s) (λ x. written models (option_type t) x ≡ cond b null w) (cond b (taken typed.none) (read_map typed.some r))
  option_row t true u s w r h = (refl, refl)
  option_row t false u s w r h = agrees_map E (λ x. written models t x ≡ w) (λ x. written models (option_type t) x ≡ w) typed.some u s (λ x g. g) r h

  either : (b : Bool) (s : Location) → s ≡ cond b s s
  either true s = refl
  either false s = refl

  -- ---- lists

  pub list_agrees : (t : TypeModel) (i : Inside (Part' models E d q) (Entry models E d q))
      → Agrees E (each_item (one_type t) (takes_in i)) (in_list (one_type t) (seen_in i)) (λ xs. map (written models t) xs ≡ each_written (one_type t) (parts_in i)) (list_read t (readers_in i))
  list_agrees t none_inside = (refl, refl)
  list_agrees t (items_inside ps) = items_agree models E d q t 0 ps
  list_agrees t (members_inside es) = (refl, refl)

  guarded : {A : Type 0} → (P : A → Type 0) (b t : Bool) (s : Location) (r : Read A) → Agrees E t s P r → Agrees E (b && t) (cond b s []) P (cond b r (stopped []))
  guarded P true t s r h = h
  guarded P false t s r h = (refl, refl)

  pub array_agrees : (t : TypeModel) (n : ℕ) (i : Inside (Part' models E d q) (Entry models E d q))
      → Agrees E (of_length n (takes_in i) && each_item (one_type t) (takes_in i)) (in_array t n (seen_in i)) (λ xs. map (written models t) xs ≡ each_written (one_type t) (parts_in i)) (array_read t n (readers_in i))
  array_agrees t n none_inside = (refl, refl)
  array_agrees t n (members_inside es) = (refl, refl)
  array_agrees t n (items_inside ps) =
      let P : List Typed → Type 0 = λ xs. map (written models t) xs ≡ each_written (one_type t) (parts_in (items_inside ps)) in
      let T = list_all (λ (j : Judge). j (one_type t)) (map (takes_of models E d q) ps) in
      let S = first_item 0 (one_type t) (map (seen_of models E d q) ps) in
      let R = items_read 0 t (map (reader_of models E d q) ps) in
      subst (λ k. Agrees E ((k == n) && T) (cond (length (map (seen_of models E d q) ps) == n) S []) P (cond (length (map (reader_of models E d q) ps) == n) R (stopped []))) (sym (length-map ps (takes_of models E d q)))
      (subst (λ k. Agrees E ((length ps == n) && T) (cond (k == n) S []) P (cond (length (map (reader_of models E d q) ps) == n) R (stopped []))) (sym (length-map ps (seen_of models E d q)))
      (subst (λ k. Agrees E ((length ps == n) && T) (cond (length ps == n) S []) P (cond (k == n) R (stopped []))) (sym (length-map ps (reader_of models E d q)))
      (guarded P (length ps == n) T S R (items_agree models E d q t 0 ps))))

  placed : (ts : List TypeModel) (ps : List (Part' models E d q)) (b : Bool) → (length ps == length ts) ≡ b
      → Agrees E (in_places ts (map (takes_of models E d q) ps)) (cond b (first_place 0 ts (map (seen_of models E d q) ps)) []) (λ xs. by_places ts (map (writes models) xs) ≡ places_written ts (map (part_of models E d q) ps))
      (cond b (places_read 0 ts (map (reader_of models E d q) ps)) (stopped []))
  placed ts ps true h = places_agree models E d q ts 0 ps (eqb-true (length ps) (length ts) h)
  placed ts ps false h = (no_places models E d q ts ps (eqb-false (length ps) (length ts) h), refl)

  pub tuple_agrees : (ts : List TypeModel) (i : Inside (Part' models E d q) (Entry models E d q))
      → Agrees E (layer.by_places ts (takes_in i)) (in_tuple ts (seen_in i)) (λ xs. list (items (by_places ts (map (writes models) xs))) ≡ settled.by_places ts (parts_in i)) (tuple_read ts (readers_in i))
  tuple_agrees ts none_inside = (refl, refl)
  tuple_agrees ts (members_inside es) = (refl, refl)
  tuple_agrees ts (items_inside ps) =
      let Q : List Typed → Type 0 = λ xs. by_places ts (map (writes models) xs) ≡ places_written ts (map (part_of models E d q) ps) in
      let P : List Typed → Type 0 = λ xs. list (items (by_places ts (map (writes models) xs))) ≡ list (items (places_written ts (map (part_of models E d q) ps))) in
      let T = in_places ts (map (takes_of models E d q) ps) in
      let S = first_place 0 ts (map (seen_of models E d q) ps) in
      let R = places_read 0 ts (map (reader_of models E d q) ps) in
      agrees_as E Q P T (cond (length (map (seen_of models E d q) ps) == length ts) S []) (λ xs h. ap (λ ws. list (items ws)) h) (cond (length (map (reader_of models E d q) ps) == length ts) R (stopped []))
      (subst (λ k. Agrees E T (cond (k == length ts) S []) Q (cond (length (map (reader_of models E d q) ps) == length ts) R (stopped []))) (sym (length-map ps (seen_of models E d q)))
      (subst (λ k. Agrees E T (cond (length ps == length ts) S []) Q (cond (k == length ts) R (stopped []))) (sym (length-map ps (reader_of models E d q)))
      (placed ts ps (length ps == length ts) refl)))

  -- ---- types, and contents, where the items at the value agree

  module _ (r : Relations) (v : Value) (i : Inside (Part' models E d q) (Entry models E d q)) (whole : has_json_numbers v ≡ true)
      (it : List ℕ → Bool) (is : List ℕ → Location) (iw : List ℕ → Value) (ir : List ℕ → Read Typed) where
    abbrev pub ItemAgrees : List ℕ → Type 0
    ItemAgrees n = Agrees E (it n) (is n) (λ x. written models (item_type n) x ≡ iw n) (ir n)

    pub type_agrees : (t : TypeModel) → ((n : List ℕ) → is_among n (asked t) ≡ true → ItemAgrees n)
        → Agrees E (type_takes r v (takes_in i) it t) (type_stops (seen_in i) is t) (λ x. written models t x ≡ type_writes v (parts_in i) iw t) (type_read models r v (readers_in i) ir t)
    type_agrees boolean_type h = boolean_row v
    type_agrees (integer_type g) h = integer_row g v whole
    type_agrees text_type h = text_row v
    type_agrees (native_type f) h = native_row r f v
    type_agrees any_type h = (refl, refl)
    type_agrees unit_type h = unit_row v
    type_agrees (option_type t) h =
        let T = type_takes r v (takes_in i) it t in
        let S = type_stops (seen_in i) is t in
        let W = type_writes v (parts_in i) iw t in
        let R = type_read models r v (readers_in i) ir t in
        agrees_along E (λ x. written models (option_type t) x ≡ cond (is_null v) null W) (is_null v || T) (is_null v || T) (cond (is_null v) S S) S (cond (is_null v) (taken typed.none) (read_map typed.some R)) refl
        (either (is_null v) S) (option_row t (is_null v) T S W R (type_agrees t h))
    type_agrees (boxed_type t) h =
        agrees_as E (λ x. written models t x ≡ type_writes v (parts_in i) iw t) (λ x. written models (boxed_type t) x ≡ type_writes v (parts_in i) iw t) (type_takes r v (takes_in i) it t) (type_stops (seen_in i) is t)
        (λ x g. boxed_written models t x ∙ g) (type_read models r v (readers_in i) ir t) (type_agrees t h)
    type_agrees (vec_type t) h =
        agrees_map E (λ xs. map (written models t) xs ≡ each_written (one_type t) (parts_in i)) (λ x. written models (vec_type t) x ≡ list (items (each_written (one_type t) (parts_in i)))) (λ xs. typed.list (typeds xs))
        (each_item (one_type t) (takes_in i)) (in_list (one_type t) (seen_in i)) (λ xs g. ap (λ ws. list (items ws)) (each_held models t xs ∙ g)) (list_read t (readers_in i)) (list_agrees t i)
    type_agrees (set_type t) h =
        agrees_map E (λ xs. map (written models t) xs ≡ each_written (one_type t) (parts_in i)) (λ x. written models (set_type t) x ≡ list (items (settled.firsts_after [] (each_written (one_type t) (parts_in i)))))
        (λ xs. typed.list (typeds (keep_apart (written models t) [] xs))) (each_item (one_type t) (takes_in i)) (in_list (one_type t) (seen_in i))
        (λ xs g. ap (λ ws. list (items ws)) (each_held models t (keep_apart (written models t) [] xs) ∙ kept_apart models E d q t [] xs ∙ ap (settled.firsts_after []) g)) (list_read t (readers_in i)) (list_agrees t i)
    type_agrees (array_type t n) h =
        agrees_map E (λ xs. map (written models t) xs ≡ each_written (one_type t) (parts_in i)) (λ x. written models (array_type t n) x ≡ list (items (each_written (one_type t) (parts_in i)))) (λ xs. typed.list (typeds xs))
        (of_length n (takes_in i) && each_item (one_type t) (takes_in i)) (in_array t n (seen_in i)) (λ xs g. ap (λ ws. list (items ws)) (each_held models t xs ∙ g)) (array_read t n (readers_in i)) (array_agrees t n i)
    type_agrees (tuple_type ts) h =
        agrees_map E (λ xs. list (items (by_places (types_of ts) (map (writes models) xs))) ≡ settled.by_places (types_of ts) (parts_in i)) (λ x. written models (tuple_type ts) x ≡ settled.by_places (types_of ts) (parts_in i))
        (λ xs. typed.list (typeds xs)) (layer.by_places (types_of ts) (takes_in i)) (in_tuple (types_of ts) (seen_in i)) (λ xs g. ap (λ ws. list (items (by_places (types_of ts) ws))) (each_mapped models xs) ∙ g)
        (tuple_read (types_of ts) (readers_in i)) (tuple_agrees (types_of ts) i)
    type_agrees (map_type k t) h = map_agrees i
      where
        map_agrees : (j : Inside (Part' models E d q) (Entry models E d q))
            → Agrees E (layer.as_map k t (takes_in j)) (type_stops (seen_in j) is (map_type k t)) (λ x. written models (map_type k t) x ≡ type_writes v (parts_in j) iw (map_type k t)) (type_read models r v (readers_in j) ir (map_type k t))
        map_agrees none_inside = (refl, refl)
        map_agrees (items_inside ps) = (refl, refl)
        map_agrees (members_inside es) =
            agrees_map E (λ xs. pairs_write k t (pairs_in models (pairs xs)) ≡ settled.entries_written k t (map (part_at models E d q) es))
            (λ x. written models (map_type k t) x ≡ object (put_all (settled.entries_written k t (map (part_at models E d q) es)) no_members)) (λ xs. typed.map_of (pairs xs)) _ _ (λ xs g. ap (λ ds. object (put_all ds no_members)) g) _ (pairs_agree models E d q k t es)
    type_agrees (item_type n) h = h n (lone_among n)
    type_agrees outside_type h = (refl, refl)
