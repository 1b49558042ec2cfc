-- Where a struct of required booleans, integers and texts stops reading a value that it refuses.
use Rattle.std.proofs.Common.{◌≡◌, ℕ, List, [], ◌∷◌, map, length, Bool, true, false, ◌||◌, not, cond, refl, sym, ap, ◌∙◌, subst, true≢false, bytes_eq, Option, Some, None}
use Rattle.std.specs.List.{list_any, list_all, filter}
use Rattle.std.proofs.lemmas.Slice.Eq.{bytes_eq-Decides}
use Rattle.json_value.specs.Value as value
use Rattle.json_value.specs.Value.{Value, Members, null, number, fraction, text, list, object, member, no_members, member_at, has_name}
use Rattle.schema_defs.specs.Location.{Location}
use Rattle.schema_defs.specs.Texts.{Relations}
use Rattle.model_defs.specs.Types.{TypeModel, boolean_type, integer_type, text_type, item_type}
use Rattle.model_defs.specs.Model.{ContainerModel, ConversionsD}
use Rattle.model_defs.specs.Layer.{one_type, named_fields, MemberPart, Parts, no_parts, list_parts, object_parts, own_members, other_members, unnamed_members, members_in, field_takes}
use Rattle.model_defs.specs.Reads.{allowed, leads_to_option, value_reads, still_reads}
use Rattle.model_defs.specs.Refusals.{Seen, judged, in_field, in_fields, after_unnamed, in_struct, type_stops, container_stops, item_stops, value_stops, items_seen, members_seen, refused_at}
use Rattle.model_defs.specs.Flat.{Flat, is_simple, takes_flat, flat_field, flat_model, all_simple, names_differ, MembersApart, NamesApart, first_unnamed, stops_at_field, first_wrong, or_further, flat_stops, FlatRefusals}
use Rattle.model_defs.proofs.Rows.{reads-level}
use Rattle.model_defs.proofs.Flat.{and_first, and_second, not_true, bytes_itself, kept, leads_not, simple_read, fields_content_read}

-- ---- members that no field names

module _ {J : Type 0} where
  unnamed : List Flat → MemberPart J → Bool
  unnamed fs m = not (list_any (λ f. bytes_eq f.0 m.name) fs)

  all_kept : (ms : List (MemberPart J)) → ms ≡ filter (unnamed []) ms
  unfolding unnamed
  all_kept [] = refl
  all_kept (m ∷ ms) = ap (λ z. m ∷ z) (all_kept ms)

  filtered_twice : (p q : MemberPart J → Bool) (ms : List (MemberPart J)) → filter (λ m. not (q m)) (filter (λ m. not (p m || false)) ms) ≡ filter (λ m. not (p m || q m)) ms
  filtered_twice p q [] = refl
  filtered_twice p q (m ∷ ms) =
      let rec = filtered_twice p q ms in
      elim (p m) as (λ b.
      filter (λ x. not (q x)) (cond (not (b || false)) (m ∷ filter (λ x. not (p x || false)) ms) (filter (λ x. not (p x || false)) ms))
      ≡ cond (not (b || q m)) (m ∷ filter (λ x. not (p x || q x)) ms) (filter (λ x. not (p x || q x)) ms)) [
        | true ↦ rec
        | false ↦ ap (λ z. cond (not (q m)) (m ∷ z) z) rec
      ]

  unnamed-filter : (fs : List Flat) (ms : List (MemberPart J)) → unnamed_members (map flat_field fs) ms ≡ filter (unnamed fs) ms
  unfolding unnamed
  unnamed-filter [] ms = all_kept ms
  unnamed-filter (f ∷ fs) ms = unnamed-filter fs (other_members (flat_field f) ms) ∙ filtered_twice (λ m. bytes_eq f.0 m.name) (λ m. list_any (λ g. bytes_eq g.0 m.name) fs) ms

-- ---- the fields, each with its members

module _ (leads : TypeModel → Bool) where
  abbrev in_own : List Flat → List (MemberPart Seen) → Location
  in_own [] ms = []
  in_own (f ∷ fs) ms = cond (field_takes leads (flat_field f) (map judged (own_members (flat_field f) ms))) (in_own fs ms) (in_field leads (flat_field f) (own_members (flat_field f) ms))

  others_kept : (f : Flat) (gs : List Flat) → list_all (λ g. not (bytes_eq f.0 g.0)) gs ≡ true → (ms : List (MemberPart Seen)) → in_own gs (other_members (flat_field f) ms) ≡ in_own gs ms
  others_kept f [] h ms = refl
  others_kept f (g ∷ gs) h ms =
      let e = kept f g (not_true _ (and_first _ _ h)) ms in
      let rec = others_kept f gs (and_second _ _ h) ms in
      λ i. cond (field_takes leads (flat_field g) (map judged (e i))) (rec i) (in_field leads (flat_field g) (e i))

  fields-own : (fs : List Flat) → names_differ fs ≡ true → (us ms : List (MemberPart Seen)) → in_fields leads (map flat_field fs) us ms ≡ in_own fs ms
  fields-own [] h us ms = refl
  fields-own (f ∷ fs) h us ms =
      ap (λ z. cond (field_takes leads (flat_field f) (map judged (own_members (flat_field f) ms))) z (in_field leads (flat_field f) (own_members (flat_field f) ms)))
      (fields-own fs (and_second _ _ h) us (other_members (flat_field f) ms) ∙ others_kept f fs (and_first _ _ h) ms)

-- ---- one field, one value

module _ (models : List ContainerModel) (conversions : ConversionsD) (relations : Relations) where
  seen : Members → List (MemberPart Seen)
  seen ms = members_seen models conversions relations ms

  abbrev part_of : List ℕ → Value → MemberPart Seen
  part_of k v = record {
    name = k;
    key = record { takes = value_reads models conversions relations (text k); stops = λ c. [] };
    value = record { takes = value_reads models conversions relations v; stops = value_stops models conversions relations v };
  }

  abbrev found_part : List ℕ → Option Value → List (MemberPart Seen)
  found_part n None = []
  found_part n (Some v) = part_of n v ∷ []

  none_left : (n : List ℕ) (t : TypeModel) (ms : Members) → has_name n ms ≡ false → own_members (flat_field (n, t)) (seen ms) ≡ []
  unfolding seen
  none_left n t no_members h = refl
  none_left n t (member k v ms) h =
      elim (bytes_eq n k) as (λ b. (b || has_name n ms) ≡ false → cond (b || false) (part_of k v ∷ own_members (flat_field (n, t)) (seen ms)) (own_members (flat_field (n, t)) (seen ms)) ≡ []) [
        | true ↦ λ e. absurd (true≢false e)
        | false ↦ λ e. none_left n t ms e
      ] h

  own-found : (f : Flat) (ms : Members) → MembersApart ms → own_members (flat_field f) (seen ms) ≡ found_part f.0 (member_at f.0 ms)
  unfolding seen
  own-found f no_members a = refl
  own-found f (member k v ms) a =
      let rec = own-found f ms a.1 in
      elim (bytes_eq f.0 k) as (λ b. bytes_eq f.0 k ≡ b →
      cond (b || false) (part_of k v ∷ own_members (flat_field f) (seen ms)) (own_members (flat_field f) (seen ms)) ≡ found_part f.0 (cond b (Some v) (member_at f.0 ms))) [
        | true ↦ λ e.
            let n = (bytes_eq-Decides f.0 k).0 e in
            let left = none_left f.0 f.1 ms (subst (λ x. has_name x ms ≡ false) (sym n) a.0) in
            λ i. part_of (sym n i) v ∷ left i
        | false ↦ λ e. rec
      ] refl

  simple_stops : (t : TypeModel) → is_simple t ≡ true → (v : Value) → value_stops models conversions relations v (one_type t) ≡ []
  simple_stops boolean_type h null = refl
  simple_stops boolean_type h (value.boolean b) = refl
  simple_stops boolean_type h (number z) = refl
  simple_stops boolean_type h fraction = refl
  simple_stops boolean_type h (text s) = refl
  simple_stops boolean_type h (list xs) = refl
  simple_stops boolean_type h (object ms) = refl
  simple_stops (integer_type g) h null = refl
  simple_stops (integer_type g) h (value.boolean b) = refl
  simple_stops (integer_type g) h (number z) = refl
  simple_stops (integer_type g) h fraction = refl
  simple_stops (integer_type g) h (text s) = refl
  simple_stops (integer_type g) h (list xs) = refl
  simple_stops (integer_type g) h (object ms) = refl
  simple_stops text_type h null = refl
  simple_stops text_type h (value.boolean b) = refl
  simple_stops text_type h (number z) = refl
  simple_stops text_type h fraction = refl
  simple_stops text_type h (text s) = refl
  simple_stops text_type h (list xs) = refl
  simple_stops text_type h (object ms) = refl
  simple_stops _ h v = absurd (true≢false (sym h))

  abbrev leads : TypeModel → Bool
  leads t = leads_to_option models t

  field_stops : (f : Flat) → is_simple f.1 ≡ true → (o : Option Value) (further : Location)
      → cond (field_takes leads (flat_field f) (map judged (found_part f.0 o))) further (in_field leads (flat_field f) (found_part f.0 o)) ≡ stops_at_field f o further
  field_stops f h None further = ap (λ b. cond b further []) (leads_not models conversions relations f.1 h)
  field_stops f h (Some v) further = λ i. cond (simple_read models conversions relations f.1 h v i) further (f.0 ∷ simple_stops f.1 h v i)

  own_stops : (fs : List Flat) → all_simple fs ≡ true → (ms : Members) → MembersApart ms → in_own leads fs (seen ms) ≡ first_wrong fs ms
  own_stops [] h ms a = refl
  own_stops (f ∷ fs) h ms a =
      let rec = own_stops fs (and_second _ _ h) ms a in
      let found = own-found f ms a in
      (λ i. cond (field_takes leads (flat_field f) (map judged (found i))) (rec i) (in_field leads (flat_field f) (found i)))
      ∙ field_stops f (and_first _ _ h) (member_at f.0 ms) (first_wrong fs ms)

  abbrev first_name : List (MemberPart Seen) → Option (List ℕ)
  first_name [] = None
  first_name (m ∷ ms) = Some m.name

  first_found : (fs : List Flat) (ms : Members) → first_name (filter (unnamed fs) (seen ms)) ≡ first_unnamed fs ms
  unfolding seen unnamed
  first_found fs no_members = refl
  first_found fs (member k v ms) =
      let rec = first_found fs ms in
      elim (list_any (λ f. bytes_eq f.0 k) fs) as (λ b. first_name (cond (not b) (part_of k v ∷ filter (unnamed fs) (seen ms)) (filter (unnamed fs) (seen ms))) ≡ cond b (first_unnamed fs ms) (Some k)) [
        | true ↦ rec
        | false ↦ refl
      ]

  after_first : (fs : List Flat) → names_differ fs ≡ true → (us ms : List (MemberPart Seen)) → after_unnamed leads true (map flat_field fs) us ms ≡ or_further (first_name us) (in_own leads fs ms)
  after_first fs d [] ms = fields-own leads fs d [] ms
  after_first fs d (u ∷ us) ms = refl

  struct_stops : (closed : Bool) (fs : List Flat) → names_differ fs ≡ true → all_simple fs ≡ true → (ms : Members) → MembersApart ms
      → in_struct leads closed (map flat_field fs) (seen ms) ≡ flat_stops closed fs (object ms)
  struct_stops true fs d h ms a =
      after_first fs d (unnamed_members (map flat_field fs) (seen ms)) (seen ms)
      ∙ (λ i. or_further (first_name (unnamed-filter fs (seen ms) i)) (own_stops fs h ms a i))
      ∙ ap (λ o. or_further o (first_wrong fs ms)) (first_found fs ms)
  struct_stops false fs d h ms a = fields-own leads fs d (unnamed_members (map flat_field fs) (seen ms)) (seen ms) ∙ own_stops fs h ms a

-- ---- the item

module _ (n : List ℕ) (closed : Bool) (fs : List Flat) (conversions : ConversionsD) (relations : Relations) where
  abbrev table : List ContainerModel
  table = flat_model n closed fs ∷ []

  -- a refused value is refused by the fields
  item_stopped : (v : Value) (parts : Parts Seen) → value_reads table conversions relations v (named_fields closed (map flat_field fs)) ≡ false
      → item_stops table conversions relations v parts (allowed table) n ≡ in_struct (leads_to_option table) closed (map flat_field fs) (members_in parts)
  item_stopped v parts e =
      ap (λ b. container_stops (leads_to_option table) (still_reads table conversions relations v (length table)) v parts (type_stops parts (item_stops table conversions relations v parts (length table))) (cond b (Some (flat_model n closed fs)) None)) (bytes_itself n)
      ∙ ap (λ b. cond b [] (in_struct (leads_to_option table) closed (map flat_field fs) (members_in parts))) (sym (reads-level table conversions relations v (named_fields closed (map flat_field fs))) ∙ e)

  no_members_unnamed : (gs : List Flat) → unnamed_members {J = Seen} (map flat_field gs) [] ≡ []
  no_members_unnamed [] = refl
  no_members_unnamed (g ∷ gs) = no_members_unnamed gs

  either_way : (b : Bool) → cond {A = Location} b [] [] ≡ []
  either_way true = refl
  either_way false = refl

  -- no member is refused where there is none
  no_field_stops : (leads : TypeModel → Bool) (gs : List Flat) (us : List (MemberPart Seen)) → in_fields leads (map flat_field gs) us [] ≡ []
  no_field_stops leads [] us = refl
  no_field_stops leads (g ∷ gs) us = ap (λ z. cond (field_takes leads (flat_field g) []) z []) (no_field_stops leads gs us) ∙ either_way _

  empty_stops : (leads : TypeModel → Bool) (b : Bool) → in_struct leads b (map flat_field fs) [] ≡ []
  empty_stops leads true = ap (λ us. after_unnamed leads true (map flat_field fs) us []) (no_members_unnamed fs) ∙ no_field_stops leads fs []
  empty_stops leads false = no_field_stops leads fs _

  stopped : names_differ fs ≡ true → all_simple fs ≡ true → (v : Value) → NamesApart v → takes_flat closed fs v ≡ false → refused_at table conversions relations (item_type n) v ≡ flat_stops closed fs v
  unfolding seen
  stopped d h (object ms) a e =
      item_stopped (object ms) (object_parts (members_seen table conversions relations ms)) (fields_content_read table conversions relations closed fs d h ms a ∙ e)
      ∙ struct_stops table conversions relations closed fs d h ms a
  stopped d h null a e = item_stopped null no_parts refl ∙ empty_stops (leads_to_option table) closed
  stopped d h (value.boolean b) a e = item_stopped (value.boolean b) no_parts refl ∙ empty_stops (leads_to_option table) closed
  stopped d h (number z) a e = item_stopped (number z) no_parts refl ∙ empty_stops (leads_to_option table) closed
  stopped d h fraction a e = item_stopped fraction no_parts refl ∙ empty_stops (leads_to_option table) closed
  stopped d h (text s) a e = item_stopped (text s) no_parts refl ∙ empty_stops (leads_to_option table) closed
  stopped d h (list xs) a e = item_stopped (list xs) (list_parts (items_seen table conversions relations xs)) refl ∙ empty_stops (leads_to_option table) closed

pub flat_refusals : FlatRefusals
flat_refusals n closed fs conversions relations d h v a e = stopped n closed fs conversions relations d h v a e
