-- What a struct of required booleans, integers and texts writes of a value that it read.
use Rattle.std.proofs.Common.{◌≡◌, ℕ, zero, suc, List, [], ◌∷◌, map, length, Bool, true, false, ◌||◌, not, cond, refl, sym, ap, ◌∙◌, true≢false, bytes_eq, Option, Some, None}
use Rattle.std.specs.List.{list_any, list_all}
use Rattle.std.proofs.lemmas.Slice.Eq.{bytes_eq-Decides}
use Rattle.json_value.specs.Value as value
use Rattle.json_value.specs.Value.{Value, Members, null, number, fraction, text, list, object, member, no_members, member_at, has_name, IsBelowFirst}
use Rattle.schema_defs.specs.Texts.{Relations}
use Rattle.model_defs.specs.Types.{TypeModel, boolean_type, integer_type, text_type, item_type}
use Rattle.model_defs.specs.Model.{ContainerModel, ConversionsD}
use Rattle.model_defs.specs.Layer.{one_type, MemberPart, Parts, object_parts, own_members, other_members, unnamed_members, members_in}
use Rattle.model_defs.specs.Reads.{allowed, leads_to_option, still_reads}
use Rattle.model_defs.specs.Settled.{Part, put_all, field_written, fields_written, rests_written, struct_written, type_writes, container_writes, item_writes, name_writes, value_writes, member_writers, settled, settled_inside}
use Rattle.model_defs.specs.Flat.{Flat, is_simple, all_named, takes_flat, flat_field, flat_model, all_simple, names_differ, MembersRise, NamesRise, named_only, flat_written, FlatStructsAreWritten}
use Rattle.model_defs.proofs.Flat.{and_first, and_second, not_true, bytes_itself, kept, leads_not}
use Rattle.model_defs.proofs.Rising.{below_next, put_found, put_rises, same_by_look_ups}

-- ---- the fields, each with its members

-- a member under its name, where there is one
abbrev entry : List ℕ → Option Value → List (List ℕ × Value)
entry n None = []
entry n (Some v) = (n, v) ∷ []

-- each field's member of ms put in its place, after what is done
abbrev put_fields : List Flat → Members → Members → Members
put_fields [] ms done = done
put_fields (f ∷ fs) ms done = put_fields fs ms (put_all (entry f.0 (member_at f.0 ms)) done)

module _ (leads : TypeModel → Bool) (default_of : ℕ → TypeModel → Value) where
  no_rests_written : (fs : List Flat) (ps : List (MemberPart Part)) (done : Members) → rests_written leads default_of (map flat_field fs) ps done ≡ done
  no_rests_written [] ps done = refl
  no_rests_written (f ∷ fs) ps done = no_rests_written fs ps done

  abbrev each_put : List Flat → List (MemberPart Part) → Members → Members
  each_put [] ps done = done
  each_put (f ∷ fs) ps done = each_put fs ps (put_all (field_written leads default_of (flat_field f) (own_members (flat_field f) ps)) done)

  others_put : (f : Flat) (gs : List Flat) → list_all (λ g. not (bytes_eq f.0 g.0)) gs ≡ true → (ps : List (MemberPart Part)) (done : Members)
      → each_put gs (other_members (flat_field f) ps) done ≡ each_put gs ps done
  others_put f [] h ps done = refl
  others_put f (g ∷ gs) h ps done =
      others_put f gs (and_second _ _ h) ps _
      ∙ ap (λ z. each_put gs ps (put_all (field_written leads default_of (flat_field g) z) done)) (kept f g (not_true _ (and_first _ _ h)) ps)

  fields_put : (fs : List Flat) → names_differ fs ≡ true → (ps : List (MemberPart Part)) (done : Members)
      → fields_written leads default_of (map flat_field fs) ps done ≡ each_put fs ps done
  fields_put [] h ps done = refl
  fields_put (f ∷ fs) h ps done = fields_put fs (and_second _ _ h) (other_members (flat_field f) ps) _ ∙ others_put f fs (and_first _ _ h) ps _

-- ---- one field, one value

module _ (models : List ContainerModel) (conversions : ConversionsD) (relations : Relations) (default_of : ℕ → TypeModel → Value) where
  abbrev leads : TypeModel → Bool
  leads t = leads_to_option models t

  writers : Members → List (MemberPart Part)
  writers ms = member_writers models conversions relations default_of ms

  simple_written : (t : TypeModel) → is_simple t ≡ true → (v : Value) → value_writes models conversions relations default_of v (one_type t) ≡ v
  simple_written boolean_type h null = refl
  simple_written boolean_type h (value.boolean b) = refl
  simple_written boolean_type h (number z) = refl
  simple_written boolean_type h fraction = refl
  simple_written boolean_type h (text s) = refl
  simple_written boolean_type h (list xs) = refl
  simple_written boolean_type h (object ms) = refl
  simple_written (integer_type g) h null = refl
  simple_written (integer_type g) h (value.boolean b) = refl
  simple_written (integer_type g) h (number z) = refl
  simple_written (integer_type g) h fraction = refl
  simple_written (integer_type g) h (text s) = refl
  simple_written (integer_type g) h (list xs) = refl
  simple_written (integer_type g) h (object ms) = refl
  simple_written text_type h null = refl
  simple_written text_type h (value.boolean b) = refl
  simple_written text_type h (number z) = refl
  simple_written text_type h fraction = refl
  simple_written text_type h (text s) = refl
  simple_written text_type h (list xs) = refl
  simple_written text_type h (object ms) = refl
  simple_written _ h v = absurd (true≢false (sym h))

  -- the first of a field's members is what a look-up finds
  field_put : (f : Flat) → is_simple f.1 ≡ true → (ms : Members)
      → field_written leads default_of (flat_field f) (own_members (flat_field f) (writers ms)) ≡ entry f.0 (member_at f.0 ms)
  unfolding writers
  field_put f h no_members = ap (λ b. cond b ((f.0, null) ∷ []) []) (leads_not models conversions relations f.1 h)
  field_put f h (member k v ms) =
      let part : MemberPart Part = record { name = k; key = record { value = text k; writes = name_writes models conversions relations default_of k }; value = record { value = v; writes = value_writes models conversions relations default_of v } } in
      let rec = field_put f h ms in
      elim (bytes_eq f.0 k) as (λ b.
      field_written leads default_of (flat_field f) (cond (b || false) (part ∷ own_members (flat_field f) (writers ms)) (own_members (flat_field f) (writers ms)))
      ≡ entry f.0 (cond b (Some v) (member_at f.0 ms))) [
        | true ↦ ap (λ z. (f.0, z) ∷ []) (simple_written f.1 h v)
        | false ↦ rec
      ]

  each_field_put : (fs : List Flat) → all_simple fs ≡ true → (ms done : Members) → each_put leads default_of fs (writers ms) done ≡ put_fields fs ms done
  each_field_put [] h ms done = refl
  each_field_put (f ∷ fs) h ms done =
      each_field_put fs (and_second _ _ h) ms _ ∙ ap (λ z. put_fields fs ms (put_all z done)) (field_put f (and_first _ _ h) ms)

  struct_put : (fs : List Flat) → names_differ fs ≡ true → all_simple fs ≡ true → (ms : Members)
      → struct_written leads default_of (map flat_field fs) (writers ms) ≡ put_fields fs ms no_members
  struct_put fs d h ms =
      ap (fields_written leads default_of (map flat_field fs) (writers ms)) (no_rests_written leads default_of fs (unnamed_members (map flat_field fs) (writers ms)) no_members)
      ∙ fields_put leads default_of fs d (writers ms) no_members
      ∙ each_field_put fs h ms no_members

-- ---- what the fields' members come to

is_named : List Flat → List ℕ → Bool
is_named fs k = list_any (λ f. bytes_eq f.0 k) fs

abbrev either : Option Value → Option Value → Option Value
either None y = y
either (Some x) y = Some x

either_itself : (x y : Option Value) → either x (either x y) ≡ either x y
either_itself None y = refl
either_itself (Some x) y = refl

either_none : (x : Option Value) → either x None ≡ x
either_none None = refl
either_none (Some x) = refl

entry_found : (k n : List ℕ) (o : Option Value) (done : Members) → member_at k (put_all (entry n o) done) ≡ cond (bytes_eq k n) (either o (member_at k done)) (member_at k done)
entry_found k n None done = elim (bytes_eq k n) as (λ b. member_at k done ≡ cond b (member_at k done) (member_at k done)) [ true ↦ refl | false ↦ refl ]
entry_found k n (Some v) done = put_found k n v done

bytes_turned : (k l : List ℕ) → bytes_eq k l ≡ bytes_eq l k
bytes_turned k l = elim (bytes_eq k l) as (λ b. bytes_eq k l ≡ b → b ≡ bytes_eq l k) [
  | true ↦ λ e. sym ((bytes_eq-Decides l k).1 (sym ((bytes_eq-Decides k l).0 e)))
  | false ↦ λ e. elim (bytes_eq l k) as (λ c. bytes_eq l k ≡ c → false ≡ c) [
    | true ↦ λ h. absurd (true≢false (sym ((bytes_eq-Decides k l).1 (sym ((bytes_eq-Decides l k).0 h))) ∙ e))
    | false ↦ λ h. refl
  ] refl
] refl

-- one field more, at a name that it has or has not
one_more : (b c : Bool) (x y : Option Value) → either (cond c x None) (cond b (either x y) y) ≡ either (cond (b || c) x None) y
one_more true true x y = either_itself x y
one_more true false x y = refl
one_more false c x y = refl

fields_found : (k : List ℕ) (fs : List Flat) (ms done : Members) → member_at k (put_fields fs ms done) ≡ either (cond (is_named fs k) (member_at k ms) None) (member_at k done)
unfolding is_named
fields_found k [] ms done = refl
fields_found k (f ∷ fs) ms done =
    fields_found k fs ms (put_all (entry f.0 (member_at f.0 ms)) done)
    ∙ ap (either (cond (is_named fs k) (member_at k ms) None)) (entry_found k f.0 (member_at f.0 ms) done ∙ at_the_name (bytes_eq k f.0) refl)
    ∙ one_more (bytes_eq k f.0) (is_named fs k) (member_at k ms) (member_at k done)
    ∙ ap (λ b. either (cond (b || is_named fs k) (member_at k ms) None) (member_at k done)) (bytes_turned k f.0)
  where
    at_the_name : (b : Bool) → bytes_eq k f.0 ≡ b → cond b (either (member_at f.0 ms) (member_at k done)) (member_at k done) ≡ cond b (either (member_at k ms) (member_at k done)) (member_at k done)
    at_the_name true e = ap (λ n. either (member_at n ms) (member_at k done)) (sym ((bytes_eq-Decides k f.0).0 e))
    at_the_name false e = refl

put_entry_rises : (n : List ℕ) (o : Option Value) (done : Members) → MembersRise done → MembersRise (put_all (entry n o) done)
put_entry_rises n None done h = h
put_entry_rises n (Some v) done h = put_rises n v done h

fields_rise : (fs : List Flat) (ms done : Members) → MembersRise done → MembersRise (put_fields fs ms done)
fields_rise [] ms done h = h
fields_rise (f ∷ fs) ms done h = fields_rise fs ms (put_all (entry f.0 (member_at f.0 ms)) done) (put_entry_rises f.0 (member_at f.0 ms) done h)

-- ---- the members that some field names

skipped_over : (k j : List ℕ) (fs : List Flat) → is_named fs j ≡ false → (x y : Option Value) → cond (is_named fs k) y None ≡ cond (is_named fs k) (cond (bytes_eq k j) x y) None
skipped_over k j fs h x y = elim (bytes_eq k j) as (λ b. bytes_eq k j ≡ b → cond (is_named fs k) y None ≡ cond (is_named fs k) (cond b x y) None) [
  | true ↦ λ e. let no : is_named fs k ≡ false = ap (is_named fs) ((bytes_eq-Decides k j).0 e) ∙ h in ap (λ b. cond b y None) no ∙ sym (ap (λ b. cond b x None) no)
  | false ↦ λ e. refl
] refl

kept_there : (k j : List ℕ) (fs : List Flat) → is_named fs j ≡ true → (x y : Option Value) → cond (bytes_eq k j) x (cond (is_named fs k) y None) ≡ cond (is_named fs k) (cond (bytes_eq k j) x y) None
kept_there k j fs h x y = elim (bytes_eq k j) as (λ b. bytes_eq k j ≡ b → cond b x (cond (is_named fs k) y None) ≡ cond (is_named fs k) (cond b x y) None) [
  | true ↦ λ e. let yes : is_named fs k ≡ true = ap (is_named fs) ((bytes_eq-Decides k j).0 e) ∙ h in sym (ap (λ b. cond b x None) yes)
  | false ↦ λ e. refl
] refl

named_found : (k : List ℕ) (fs : List Flat) (ms : Members) → member_at k (named_only fs ms) ≡ cond (is_named fs k) (member_at k ms) None
unfolding is_named
named_found k fs no_members = elim (is_named fs k) as (λ b. member_at k no_members ≡ cond b (member_at k no_members) None) [ true ↦ refl | false ↦ refl ]
named_found k fs (member j v ms) =
    let rec = named_found k fs ms in
    go (is_named fs j) refl rec
  where
    go : (b : Bool) → is_named fs j ≡ b → member_at k (named_only fs ms) ≡ cond (is_named fs k) (member_at k ms) None
        → member_at k (cond b (member j v (named_only fs ms)) (named_only fs ms)) ≡ cond (is_named fs k) (cond (bytes_eq k j) (Some v) (member_at k ms)) None
    go true e rec = ap (λ z. cond (bytes_eq k j) (Some v) z) rec ∙ kept_there k j fs e (Some v) (member_at k ms)
    go false e rec = rec ∙ skipped_over k j fs e (Some v) (member_at k ms)

named_below : (k : List ℕ) (fs : List Flat) (ms : Members) → IsBelowFirst k ms → MembersRise ms → IsBelowFirst k (named_only fs ms)
named_below k fs no_members b h = tt
named_below k fs (member j v ms) b h =
    let rec = named_below k fs ms (below_next k j ms b h.0) h.1 in
    elim (list_any (λ f. bytes_eq f.0 j) fs) as (λ c. IsBelowFirst k (cond c (member j v (named_only fs ms)) (named_only fs ms))) [ true ↦ b | false ↦ rec ]

named_rise : (fs : List Flat) (ms : Members) → MembersRise ms → MembersRise (named_only fs ms)
named_rise fs no_members h = tt
named_rise fs (member j v ms) h =
    let rec = named_rise fs ms h.1 in
    elim (list_any (λ f. bytes_eq f.0 j) fs) as (λ c. MembersRise (cond c (member j v (named_only fs ms)) (named_only fs ms))) [ true ↦ (named_below j fs ms h.0 h.1, rec) | false ↦ rec ]

put-named : (fs : List Flat) (ms : Members) → MembersRise ms → put_fields fs ms no_members ≡ named_only fs ms
put-named fs ms h =
    same_by_look_ups (put_fields fs ms no_members) (named_only fs ms) (fields_rise fs ms no_members tt) (named_rise fs ms h)
    (λ k. fields_found k fs ms no_members ∙ either_none _ ∙ sym (named_found k fs ms))

all_kept : (fs : List Flat) (ms : Members) → all_named fs ms ≡ true → named_only fs ms ≡ ms
all_kept fs no_members h = refl
all_kept fs (member j v ms) h =
    let rec = all_kept fs ms (and_second _ _ h) in
    let first = and_first _ _ h in
    ap (λ b. cond b (member j v (named_only fs ms)) (named_only fs ms)) first ∙ ap (member j v) rec

-- ---- the item

module _ (n : List ℕ) (closed : Bool) (fs : List Flat) (conversions : ConversionsD) (relations : Relations) where
  abbrev table : List ContainerModel
  table = flat_model n closed fs ∷ []

  module _ (default_of : ℕ → TypeModel → Value) where
    item_written : (v : Value) (parts : Parts Part) → item_writes table conversions relations default_of v parts (allowed table) n ≡ object (struct_written (leads_to_option table) default_of (map flat_field fs) (members_in parts))
    item_written v parts =
        ap (λ b. container_writes (leads_to_option table) default_of (still_reads table conversions relations v (length table)) v parts (type_writes v parts (item_writes table conversions relations default_of v parts (length table))) (cond b (Some (flat_model n closed fs)) None)) (bytes_itself n)

    object_written : names_differ fs ≡ true → all_simple fs ≡ true → (ms : Members) → MembersRise ms
        → value_writes table conversions relations default_of (object ms) (one_type (item_type n)) ≡ object (named_only fs ms)
    unfolding writers
    object_written d h ms r =
        item_written (object ms) (object_parts (member_writers table conversions relations default_of ms))
        ∙ ap object (struct_put table conversions relations default_of fs d h ms ∙ put-named fs ms r)

  inside : names_differ fs ≡ true → all_simple fs ≡ true → (ms : Members) → MembersRise ms → (k : ℕ) (entered : List ℕ)
      → settled_inside table conversions relations k entered (one_type (item_type n)) (object ms) ≡ object (named_only fs ms)
  inside d h ms r zero entered = object_written _ d h ms r
  inside d h ms r (suc k) entered = object_written _ d h ms r

  any_written : names_differ fs ≡ true → all_simple fs ≡ true → (v : Value) → NamesRise v → takes_flat closed fs v ≡ true → settled table conversions relations (item_type n) v ≡ flat_written fs v
  any_written d h (object ms) r t = inside d h ms r (length conversions.defaults) []
  any_written d h null r t = absurd (true≢false (sym t))
  any_written d h (value.boolean b) r t = absurd (true≢false (sym t))
  any_written d h (number z) r t = absurd (true≢false (sym t))
  any_written d h fraction r t = absurd (true≢false (sym t))
  any_written d h (text s) r t = absurd (true≢false (sym t))
  any_written d h (list xs) r t = absurd (true≢false (sym t))

nothing_lost : (fs : List Flat) (v : Value) → takes_flat true fs v ≡ true → flat_written fs v ≡ v
nothing_lost fs (object ms) t = ap object (all_kept fs ms (and_first _ _ t))
nothing_lost fs null t = refl
nothing_lost fs (value.boolean b) t = refl
nothing_lost fs (number z) t = refl
nothing_lost fs fraction t = refl
nothing_lost fs (text s) t = refl
nothing_lost fs (list xs) t = refl

pub flat_structs_written : FlatStructsAreWritten
flat_structs_written n fs conversions relations d h = record {
  any = λ closed v r t. any_written n closed fs conversions relations d h v r t;
  closed = λ v r t. any_written n true fs conversions relations d h v r t ∙ nothing_lost fs v t;
}
