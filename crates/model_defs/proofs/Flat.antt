-- How a struct of required booleans, integers and texts is read.
use Rattle.std.proofs.Common.{◌≡◌, ℕ, List, [], ◌∷◌, map, length, Bool, true, false, ◌&&◌, ◌||◌, not, cond, refl, sym, ap, ◌∙◌, subst, true≢false, bytes_eq, Some, None}
use Rattle.std.specs.List.{list_any, list_all, filter}
use Rattle.std.proofs.lemmas.Slice.Eq.{bytes_eq-Decides}
use Rattle.json_value.specs.Value as value
use Rattle.json_value.specs.Value.{Value, Members, null, number, fraction, text, list, object, member, no_members, member_at, has_name}
use Rattle.schema_defs.specs.Texts.{Relations}
use Rattle.model_defs.specs.Types.{TypeModel, boolean_type, integer_type, text_type, item_type}
use Rattle.model_defs.specs.Model.{ContainerModel, ConversionsD}
use Rattle.model_defs.specs.Layer.{Judge, one_type, named_fields, MemberPart, Parts, no_parts, list_parts, object_parts, struct_takes, type_takes, own_members, other_members, unnamed_members, is_none, field_takes, fields_take, rests_take, members_take, container_takes}
use Rattle.model_defs.specs.Reads.{reads, allowed, value_reads, item_judges, member_judges, leads_to_option, item_reads, name_reads}
pub use Rattle.model_defs.proofs.Rising.{bytes_itself, small_names_apart}
use Rattle.model_defs.specs.Flat.{Flat, is_simple, simple_takes, value_taken, all_named, takes_flat, flat_field, flat_model, all_simple, names_differ, MembersApart, NamesApart, FlatReading}

-- ---- tests

pub and_first : (a b : Bool) → (a && b) ≡ true → a ≡ true
and_first true b h = refl
and_first false b h = h

pub and_second : (a b : Bool) → (a && b) ≡ true → b ≡ true
and_second true b h = h
and_second false b h = absurd (true≢false (sym h))

pub and_true : (a : Bool) → (a && true) ≡ a
and_true true = refl
and_true false = refl

pub or_false : (a : Bool) → (a || false) ≡ a
or_false true = refl
or_false false = refl

pub not_true : (a : Bool) → not a ≡ true → a ≡ false
not_true true h = sym h
not_true false h = refl

-- ---- members that no field names

module _ {J : Type 0} where
  -- whether some field has the name
  any_named : List Flat → MemberPart J → Bool
  any_named fs m = list_any (λ f. bytes_eq f.0 m.name) fs

  none_of : (ms : List (MemberPart J)) → is_none ms ≡ list_all (any_named []) ms
  unfolding any_named
  none_of [] = refl
  none_of (m ∷ ms) = refl

  after_one : (p q : MemberPart J → Bool) (ms : List (MemberPart J)) → list_all q (filter (λ m. not (p m || false)) ms) ≡ list_all (λ m. p m || q m) ms
  after_one p q [] = refl
  after_one p q (m ∷ ms) =
      let rec = after_one p q ms in
      elim (p m) as (λ b. list_all q (cond (not (b || false)) (m ∷ filter (λ x. not (p x || false)) ms) (filter (λ x. not (p x || false)) ms)) ≡ ((b || q m) && list_all (λ x. p x || q x) ms)) [
        | true ↦ rec
        | false ↦ ap (λ z. q m && z) rec
      ]

  all_are_named : (fs : List Flat) (ms : List (MemberPart J)) → is_none (unnamed_members (map flat_field fs) ms) ≡ list_all (any_named fs) ms
  unfolding any_named
  all_are_named [] ms = none_of ms
  all_are_named (f ∷ fs) ms = all_are_named fs (other_members (flat_field f) ms) ∙ after_one (λ m. bytes_eq f.0 m.name) (any_named fs) ms

-- ---- each field's members

-- a name is not two
pub not_both : (m n k : List ℕ) → bytes_eq m n ≡ false → bytes_eq m k ≡ true → bytes_eq n k ≡ false
not_both m n k h e = elim (bytes_eq n k) as (λ b. bytes_eq n k ≡ b → b ≡ false) [
  | true ↦ λ t. absurd (true≢false (sym ((bytes_eq-Decides m n).1 ((bytes_eq-Decides m k).0 e ∙ sym ((bytes_eq-Decides n k).0 t))) ∙ h))
  | false ↦ λ t. refl
] refl

module _ {J : Type 0} where
  pub kept : (f g : Flat) → bytes_eq f.0 g.0 ≡ false → (ms : List (MemberPart J)) → own_members (flat_field g) (other_members (flat_field f) ms) ≡ own_members (flat_field g) ms
  kept f g h [] = refl
  kept f g h (m ∷ ms) =
      let rec = kept f g h ms in
      elim (bytes_eq f.0 m.name) as (λ b. bytes_eq f.0 m.name ≡ b →
      own_members (flat_field g) (cond (not (b || false)) (m ∷ other_members (flat_field f) ms) (other_members (flat_field f) ms))
      ≡ cond (bytes_eq g.0 m.name || false) (m ∷ own_members (flat_field g) ms) (own_members (flat_field g) ms)) [
        | true ↦ λ e. rec ∙ ap (λ b. cond (b || false) (m ∷ own_members (flat_field g) ms) (own_members (flat_field g) ms)) (sym (not_both f.0 g.0 m.name h e))
        | false ↦ λ e. ap (λ z. cond (bytes_eq g.0 m.name || false) (m ∷ z) z) rec
      ] refl

module _ (leads : TypeModel → Bool) where
  no_rest : (fs : List Flat) (ms : List (MemberPart Judge)) → rests_take leads (map flat_field fs) ms ≡ true
  no_rest [] ms = refl
  no_rest (f ∷ fs) ms = no_rest fs ms

  each_field : List Flat → List (MemberPart Judge) → Bool
  each_field fs ms = list_all (λ f. field_takes leads (flat_field f) (own_members (flat_field f) ms)) fs

  others_kept : (f : Flat) (gs : List Flat) → list_all (λ g. not (bytes_eq f.0 g.0)) gs ≡ true → (ms : List (MemberPart Judge))
      → each_field gs (other_members (flat_field f) ms) ≡ each_field gs ms
  unfolding each_field
  others_kept f [] h ms = refl
  others_kept f (g ∷ gs) h ms =
      let e = kept f g (not_true _ (and_first _ _ h)) ms in
      let rec = others_kept f gs (and_second _ _ h) ms in
      λ i. field_takes leads (flat_field g) (e i) && rec i

  fields-each : (fs : List Flat) → names_differ fs ≡ true → (ms : List (MemberPart Judge)) → fields_take leads (map flat_field fs) ms ≡ each_field fs ms
  unfolding each_field
  fields-each [] h ms = refl
  fields-each (f ∷ fs) h ms =
      let rec = fields-each fs (and_second _ _ h) (other_members (flat_field f) ms) in
      let others = others_kept f fs (and_first _ _ h) ms in
      ap (λ z. field_takes leads (flat_field f) (own_members (flat_field f) ms) && z) (rec ∙ others)

-- ---- one field, one value

module _ (models : List ContainerModel) (conversions : ConversionsD) (relations : Relations) where
  pub simple_read : (t : TypeModel) → is_simple t ≡ true → (v : Value) → value_reads models conversions relations v (one_type t) ≡ simple_takes t v
  simple_read boolean_type h null = refl
  simple_read boolean_type h (value.boolean b) = refl
  simple_read boolean_type h (number z) = refl
  simple_read boolean_type h fraction = refl
  simple_read boolean_type h (text s) = refl
  simple_read boolean_type h (list xs) = refl
  simple_read boolean_type h (object ms) = refl
  simple_read (integer_type g) h null = refl
  simple_read (integer_type g) h (value.boolean b) = refl
  simple_read (integer_type g) h (number z) = refl
  simple_read (integer_type g) h fraction = refl
  simple_read (integer_type g) h (text s) = refl
  simple_read (integer_type g) h (list xs) = refl
  simple_read (integer_type g) h (object ms) = refl
  simple_read text_type h null = refl
  simple_read text_type h (value.boolean b) = refl
  simple_read text_type h (number z) = refl
  simple_read text_type h fraction = refl
  simple_read text_type h (text s) = refl
  simple_read text_type h (list xs) = refl
  simple_read text_type h (object ms) = refl
  simple_read _ h v = absurd (true≢false (sym h))

  pub leads_not : (t : TypeModel) → is_simple t ≡ true → leads_to_option models t ≡ false
  leads_not boolean_type h = refl
  leads_not (integer_type g) h = refl
  leads_not text_type h = refl
  leads_not _ h = absurd (true≢false (sym h))

  members : Members → List (MemberPart Judge)
  members ms = member_judges models conversions relations ms

  none_left : (n : List ℕ) (t : TypeModel) (ms : Members) → has_name n ms ≡ false → own_members (flat_field (n, t)) (members ms) ≡ []
  unfolding members
  none_left n t no_members h = refl
  none_left n t (member k v ms) h =
      let part : MemberPart Judge = record { name = k; key = name_reads models conversions relations k; value = value_reads models conversions relations v } in
      elim (bytes_eq n k) as (λ b. (b || has_name n ms) ≡ false → cond (b || false) (part ∷ own_members (flat_field (n, t)) (members ms)) (own_members (flat_field (n, t)) (members ms)) ≡ []) [
        | true ↦ λ e. absurd (true≢false e)
        | false ↦ λ e. none_left n t ms e
      ] h

  at_most_one : (f : Flat) → is_simple f.1 ≡ true → (ms : Members) → MembersApart ms
      → field_takes (leads_to_option models) (flat_field f) (own_members (flat_field f) (members ms)) ≡ value_taken f.1 (member_at f.0 ms)
  unfolding members
  at_most_one f h no_members a = leads_not f.1 h
  at_most_one f h (member k v ms) a =
      let part : MemberPart Judge = record { name = k; key = name_reads models conversions relations k; value = value_reads models conversions relations v } in
      let rec = at_most_one f h ms a.1 in
      elim (bytes_eq f.0 k) as (λ b. bytes_eq f.0 k ≡ b →
      field_takes (leads_to_option models) (flat_field f) (cond (b || false) (part ∷ own_members (flat_field f) (members ms)) (own_members (flat_field f) (members ms)))
      ≡ value_taken f.1 (cond b (Some v) (member_at f.0 ms))) [
        | true ↦ λ e. ap (λ z. field_takes (leads_to_option models) (flat_field f) (part ∷ z)) (none_left f.0 f.1 ms (subst (λ n. has_name n ms ≡ false) (sym ((bytes_eq-Decides f.0 k).0 e)) a.0)) ∙ simple_read f.1 h v
        | false ↦ λ e. rec
      ] refl

  each_at_most_one : (fs : List Flat) → all_simple fs ≡ true → (ms : Members) → MembersApart ms
      → each_field (leads_to_option models) fs (members ms) ≡ list_all (λ f. value_taken f.1 (member_at f.0 ms)) fs
  unfolding each_field
  each_at_most_one [] h ms a = refl
  each_at_most_one (f ∷ fs) h ms a =
      let one = at_most_one f (and_first _ _ h) ms a in
      let rec = each_at_most_one fs (and_second _ _ h) ms a in
      λ i. one i && rec i

  named_members : (fs : List Flat) (ms : Members) → list_all (any_named fs) (members ms) ≡ all_named fs ms
  unfolding members any_named
  named_members fs no_members = refl
  named_members fs (member k v ms) = ap (λ z. list_any (λ f. bytes_eq f.0 k) fs && z) (named_members fs ms)

  struct_read : (closed : Bool) (fs : List Flat) → names_differ fs ≡ true → all_simple fs ≡ true → (ms : Members) → MembersApart ms
      → members_take (leads_to_option models) closed (map flat_field fs) (members ms) ≡ takes_flat closed fs (object ms)
  struct_read closed fs d h ms a =
      let named = all_are_named fs (members ms) ∙ named_members fs ms in
      let each = fields-each (leads_to_option models) fs d (members ms) ∙ each_at_most_one fs h ms a in
      let rests = no_rest (leads_to_option models) fs (unnamed_members (map flat_field fs) (members ms)) in
      (λ i. ((not closed || named i) && each i) && rests i) ∙ and_true _

  -- as the contents of an item
  pub fields_content_read : (closed : Bool) (fs : List Flat) → names_differ fs ≡ true → all_simple fs ≡ true → (ms : Members) → MembersApart ms
      → value_reads models conversions relations (object ms) (named_fields closed (map flat_field fs)) ≡ takes_flat closed fs (object ms)
  unfolding members
  fields_content_read closed fs d h ms a = struct_read closed fs d h ms a

module _ (n : List ℕ) (closed : Bool) (fs : List Flat) (conversions : ConversionsD) (relations : Relations) where
  abbrev table : List ContainerModel
  table = flat_model n closed fs ∷ []

  item_read : (v : Value) (parts : Parts Judge) → item_reads table conversions relations v parts (allowed table) n ≡ struct_takes (leads_to_option table) closed (map flat_field fs) parts
  item_read v parts =
      ap (λ b. container_takes (leads_to_option table) parts (type_takes relations v parts (item_reads table conversions relations v parts (length table))) relations conversions v (cond b (Some (flat_model n closed fs)) None)) (bytes_itself n)
      ∙ and_true _

  flat_read : names_differ fs ≡ true → all_simple fs ≡ true → (v : Value) → NamesApart v → reads table conversions relations (item_type n) v ≡ takes_flat closed fs v
  unfolding members
  flat_read d h (object ms) a = item_read (object ms) (object_parts (member_judges table conversions relations ms)) ∙ struct_read table conversions relations closed fs d h ms a
  flat_read d h null a = item_read null no_parts
  flat_read d h (value.boolean b) a = item_read (value.boolean b) no_parts
  flat_read d h (number z) a = item_read (number z) no_parts
  flat_read d h fraction a = item_read fraction no_parts
  flat_read d h (text s) a = item_read (text s) no_parts
  flat_read d h (list xs) a = item_read (list xs) (list_parts (item_judges table conversions relations xs))

pub flat_reading : FlatReading
flat_reading n closed fs conversions relations d h v a = flat_read n closed fs conversions relations d h v a
