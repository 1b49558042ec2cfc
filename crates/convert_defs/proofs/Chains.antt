-- Each schema that a row makes ranks below the one that it is made of, and none ranks above four: so chains of them end.
use Rattle.std.proofs.Common.{◌≡◌, ◌<◌, ◌≤◌, ◌+◌, ℕ, zero, suc, List, [], ◌∷◌, ◌++◌, map, filter, Bool, true, false, ◌&&◌, ◌||◌, not, Option, Some, None, is_none, is_some, option_map, refl, ap, subst, ◌∙◌, codes, arith}
use Rattle.std.specs.Prelude.{if◌then◌else◌}
use Rattle.std.specs.List.{list_all, list_any}
use Rattle.json_value.specs.Value.{Value}
use Rattle.schema_defs.specs.declared.Setting.{Setting}
use Rattle.schema_defs.specs.declared.Setting.TheVariants.{Strict}
use Rattle.schema_defs.specs.declared.InstanceType.{InstanceType}
use Rattle.schema_defs.specs.declared.InstanceType.TheVariants.{Null, Boolean, Object, Array, Number, Text, Integer}
use Rattle.schema_defs.specs.declared.Format.{Format}
use Rattle.schema_defs.specs.Location.{Location}
use Rattle.schema_defs.specs.Texts.{Relations}
use Rattle.schema_defs.specs.Schema.{Types, one_type, many_types, Plain, Schema, boolean, object, Same, no_same, same_value, Lists, no_lists, lists, Named, no_named, named, MaybeSchema, no_schema, the_schema, no_list, the_list, Schemas, no_more, schema, Places, no_items, each_item, by_place, Properties, no_properties, property, Document}
use Rattle.schema_defs.specs.Layer.{is_given}
use Rattle.model_defs.specs.Model.{allow_rule, deny_rule}
use Rattle.model_defs.specs.Layer.{is_null, is_text, is_boolean}
use Rattle.entry_defs.specs.Entry.{Target, unit_entry}
use Rattle.enum_defs.specs.Words.{same_type, has_type, without_same, is_bare}
use Rattle.enum_defs.specs.Shapes.{Case, external_cases}
use Rattle.convert_defs.specs.Row.{Part, child, of_branch, lone, made, FieldRow, field_parts, outside_parts, further_parts, body_parts, VariantRow, variants_parts, leaf_row, option_row, ruled_row, vec_row, set_row, map_row, refused_row, row_parts, Finding, noted, plainly, asking, here, narrowed, widened, null_note, string_note, names_note, not_note, bad_array, bad_value, mixed_enum, nested_enum, bad_not, names as names_cause}
use Rattle.convert_defs.specs.IntegerRow.{note_if}
use Rattle.convert_defs.specs.Standing.{of_type, less_enum, alone, no_keyword, is_untyped}
use Rattle.convert_defs.specs.Scalars.{non_null, text_finding, given_format, wanted_of, enumerated, listed_entry, kept_texts, boolean_finding, listed_alone, is_owner, is_number, distinct, texts_in, texts_entry, never_entry, without_nulls}
use Rattle.convert_defs.specs.Owners.{part_at, each_part, listed_parts, unlisted, fixed_row, open_list, is_true, is_by_place, list_notes, sized_finding, fixed_size, array_finding, property_fields, outside_names, outside_row, other_part, struct_of, no_property, is_empty, is_false, is_shut, are_alike, pattern_names, pattern_row, name_part, names_texts, map_of, counts_notes, names_notes, object_finding}
use Rattle.convert_defs.specs.Shapes.{Member, members_from, schemas_of, option_member, case_rows, case_row, external_rows, placed_field, fields_beside, body_of_fields, body_of_field, internal_variant, internal_of, adjacent_variant, adjacent_of, less_property, properties_in}
use Rattle.enum_defs.specs.Words.{required_of}
use Rattle.enum_defs.specs.Shapes as shape
use Rattle.enum_defs.specs.Exclusive.{exclusive}
use Rattle.convert_defs.specs.Table.{Line, lines, first_line, nullable, type_beside_null, lists_only_nulls, beside_null, reference_row, row_of_target, target_of, allowed_row, listed, with_type, only_type, type_variant, type_among, of_kinds, variant_order, type_of_listed, has_one_type, many_of, no_others, constant_of, constant_finding, constant_list, subschema_finding, finding_or, all_of_finding, any_of_finding, any_of_others, one_of_finding, one_of_only, one_of_internal, one_of_adjacent, one_of_external, one_of_option, only_member, not_finding, deny, under_not, denied, untagged_row, untagged_variant, row_of}
use Rattle.convert_defs.specs.Chains.{EachMade, ChainsEndWithin, ChainsEnd}
use Rattle.convert_defs.proofs.Bare.{and_left, and_right, impossible, none-some, some-same, is-none, has_type-is, four}

-- ---- ranks

abbrev flag : Bool → ℕ
flag b = if b then 1 else 0

flag-small : (b : Bool) → flag b ≤ 1
flag-small true = omega arith
flag-small false = omega arith

-- types whose rows make nothing
abbrev is_leaf : InstanceType → Bool
is_leaf Object = false
is_leaf Array = false
is_leaf _ = true

abbrev has_null : Option (List Value) → Bool
has_null None = false
has_null (Some vs) = list_any is_null vs

abbrev own_rank : Option Types → Option (List Value) → Bool → ℕ
own_rank None e w = 1 + flag (has_null e)
own_rank (Some (one_type k)) e w = flag (not (is_leaf k && w)) + flag (is_some e)
own_rank (Some (many_types ks)) e w = 2 + flag (is_some e)

abbrev rank : Schema → ℕ
rank (boolean b) = 0
rank (object p ss ls ns) = own_rank p.types p.enum_values (without_same ss) + flag (is_some p.const_value)

own-small : (o : Option Types) (e : Option (List Value)) (w : Bool) → own_rank o e w ≤ 3
own-small None e w = let a = flag-small (has_null e) in omega arith
own-small (Some (one_type k)) e w = let a = flag-small (not (is_leaf k && w)) in let b = flag-small (is_some e) in omega arith
own-small (Some (many_types ks)) e w = let a = flag-small (is_some e) in omega arith

rank-small : (s : Schema) → rank s ≤ 4
rank-small (boolean b) = omega arith
rank-small (object p ss ls ns) = let a = own-small p.types p.enum_values (without_same ss) in let b = flag-small (is_some p.const_value) in omega arith

-- ---- parts

abbrev Below : ℕ → List Part → Type 0
Below n ps = EachMade (λ s. rank s < n) ps

abbrev Least : List Part → Type 0
Least ps = EachMade (λ s. rank s ≡ 0) ps

least-below : (n : ℕ) → 1 ≤ n → (ps : List Part) → Least ps → Below n ps
least-below n h [] x = tt
least-below n h (made s ∷ ps) x = ((let e = x.0 in omega arith), least-below n h ps x.1)
least-below n h (child l s ∷ ps) x = least-below n h ps x
least-below n h (of_branch l s ∷ ps) x = least-below n h ps x
least-below n h (lone l s ∷ ps) x = least-below n h ps x

least-both : (xs ys : List Part) → Least xs → Least ys → Least (xs ++ ys)
least-both [] ys h g = g
least-both (made s ∷ xs) ys h g = (h.0, least-both xs ys h.1 g)
least-both (child l s ∷ xs) ys h g = least-both xs ys h g
least-both (of_branch l s ∷ xs) ys h g = least-both xs ys h g
least-both (lone l s ∷ xs) ys h g = least-both xs ys h g

one : (s : Schema) → rank s ≡ 0 → Least (made s ∷ [])
one s h = (h, tt)

part-least : (k : List ℕ) (m : MaybeSchema) → Least (part_at k m ∷ [])
part-least k no_schema = (refl, tt)
part-least k (the_schema s) = tt

-- ---- objects and arrays

fields-least : (st : Setting) (req : List (List ℕ)) (ps : Properties) → Least (field_parts (property_fields st req ps))
fields-least st req no_properties = tt
fields-least st req (property k s ps) = fields-least st req ps

outside-least : (ns : List (List ℕ)) (rest : MaybeSchema) → Least (outside_parts (outside_row ns rest))
outside-least (n ∷ ns) rest = part-least (codes "additionalProperties") rest
outside-least [] no_schema = tt
outside-least [] (the_schema (boolean b)) = tt
outside-least [] (the_schema (object p ss ls ns)) = tt

name-least : (m : MaybeSchema) → Least (name_part m ∷ [])
name-least no_schema = (refl, tt)
name-least (the_schema (boolean b)) = (refl, tt)
name-least (the_schema (object p ss ls ns)) = tt

map-least : (rest names : MaybeSchema) → Least (row_parts (map_of rest names))
map-least rest names = by (names_texts names)
  where
    by : (b : Bool) → Least (row_parts (if b then map_row (name_part names) (other_part rest) else refused_row names_cause))
    by true = least-both (name_part names ∷ []) (other_part rest ∷ []) (name-least names) (part-least (codes "additionalProperties") rest)
    by false = tt

pattern-least : (qs : Properties) → Least (row_parts (pattern_row qs))
pattern-least no_properties = tt
pattern-least (property k s qs) = tt

object-least : (st : Setting) (ns : Named) → Least (row_parts (object_finding st ns).row)
object-least st no_named = (refl, (refl, tt))
object-least st (named props patterns rest names rules) = by (no_property props && is_empty rules.required && no_property patterns && not (is_false rest)) (no_property props && is_empty rules.required && not (is_given names) && is_shut rest && are_alike patterns)
  where
    by : (a b : Bool) → Least (row_parts (if a then noted (counts_notes rules) (map_of rest names) else if b then asking (pattern_names patterns) (noted (counts_notes rules ++ note_if (not (is_given rest)) (here narrowed names_note)) (pattern_row patterns)) else noted (counts_notes rules ++ names_notes patterns names) (struct_of st props rest rules)).row)
    by true b = map-least rest names
    by false true = pattern-least patterns
    by false false = least-both (field_parts (property_fields st rules.required props)) (outside_parts (outside_row (outside_names props rules.required) rest)) (fields-least st rules.required props) (outside-least (outside_names props rules.required) rest)

listed-least : (i n : ℕ) (ss : Schemas) → Least (listed_parts i n ss)
listed-least i zero ss = tt
listed-least i (suc n) no_more = tt
listed-least i (suc n) (schema s ss) = listed-least (suc i) n ss

further-least : (n : ℕ) (m : MaybeSchema) → Least (further_parts n (part_at (codes "additionalItems") m))
further-least zero m = tt
further-least (suc n) m = part-least (codes "additionalItems") m

each-least : (m : Places) → Least (each_part m ∷ [])
each-least no_items = (refl, tt)
each-least (each_item s) = tt
each-least (by_place ss) = (refl, tt)

fixed-least : (n : ℕ) (m : Places) (rest : MaybeSchema) → Least (row_parts (fixed_row n m rest))
fixed-least n no_items rest = (refl, tt)
fixed-least n (each_item s) rest = tt
fixed-least n (by_place ss) rest = least-both (listed_parts 0 n ss) (further_parts (unlisted n ss) (part_at (codes "additionalItems") rest)) (listed-least 0 n ss) (further-least (unlisted n ss) rest)

array-least : (ls : Lists) → Least (row_parts (array_finding ls).row)
array-least no_lists = (refl, tt)
array-least (lists places rest contains rules) = sized (fixed_size rules contains)
  where
    open-least : (b : Bool) → Least (row_parts (if b then set_row (each_part places) else vec_row (each_part places)))
    open-least true = each-least places
    open-least false = each-least places

    opened : (b : Bool) → Least (row_parts (if b then plainly (refused_row bad_array) else noted (list_notes rules) (open_list rules (each_part places))).row)
    opened true = tt
    opened false = open-least (is_true rules.unique_items)

    sized : (o : Option ℕ) → Least (row_parts (sized_finding places rest contains rules o).row)
    sized (Some n) = fixed-least n places rest
    sized None = opened (is_by_place places || is_given contains)

-- ---- subschemas

abbrev LeastOf : List VariantRow → Type 0
LeastOf ws = Least (variants_parts ws)

variants-both : (xs ys : List VariantRow) → LeastOf xs → LeastOf ys → LeastOf (xs ++ ys)
variants-both [] ys h g = g
variants-both (x ∷ xs) ys h g = by (body_parts x.body) h (λ k. variants-both xs ys k g)
  where
    by : (ps : List Part) → Least (ps ++ variants_parts xs) → (Least (variants_parts xs) → Least (variants_parts (xs ++ ys))) → Least (ps ++ variants_parts (xs ++ ys))
    by [] k f = f k
    by (made s ∷ ps) k f = (k.0, by ps k.1 f)
    by (child l s ∷ ps) k f = by ps k f
    by (of_branch l s ∷ ps) k f = by ps k f
    by (lone l s ∷ ps) k f = by ps k f

cases-least : (l : Location) (cs : List Case) → LeastOf (map (case_row l) cs)
cases-least l [] = tt
cases-least l (c ∷ cs) = by c.content (cases-least l cs)
  where
    by : (o : Option Schema) → LeastOf (map (case_row l) cs) → LeastOf (map (case_row l) (record { name = c.name; content = o; closed = c.closed } ∷ cs))
    by None h = h
    by (Some s) h = h

external-least : (ms : List Member) → LeastOf (external_rows ms)
external-least [] = tt
external-least (m ∷ ms) = variants-both (case_rows m.0 (external_cases m.1)) (external_rows ms) (rows (external_cases m.1)) (external-least ms)
  where
    rows : (o : Option (List Case)) → LeastOf (case_rows m.0 o)
    rows None = tt
    rows (Some cs) = cases-least m.0 cs

beside-least : (l : Location) (st : Setting) (req : List (List ℕ)) (ps : Properties) → Least (field_parts (map (placed_field l) (property_fields st req ps)))
beside-least l st req no_properties = tt
beside-least l st req (property k s ps) = beside-least l st req ps

fields-body : (fs : List FieldRow) → Least (field_parts fs) → Least (body_parts (body_of_fields fs))
fields-body [] h = tt
fields-body (f ∷ fs) h = h

internal-least : (st : Setting) (tag : List ℕ) (ms : List Member) → LeastOf (map (internal_variant st tag) ms)
internal-least st tag [] = tt
internal-least st tag (m ∷ ms) =
    least-both (body_parts (internal_variant st tag m).body) (variants_parts (map (internal_variant st tag) ms))
    (fields-body (fields_beside st tag m) (beside-least m.0 st (required_of (shape.members_of m.1)) (less_property tag (properties_in m.1)))) (internal-least st tag ms)

field-body : (l : Location) (st : Setting) (req : List (List ℕ)) (ps : Properties) → Least (body_parts (body_of_field (map (placed_field l) (property_fields st req ps))))
field-body l st req no_properties = tt
field-body l st req (property k s ps) = tt

adjacent-least : (tag : List ℕ) (ms : List Member) → LeastOf (map (adjacent_variant tag) ms)
adjacent-least tag [] = tt
adjacent-least tag (m ∷ ms) =
    least-both (body_parts (adjacent_variant tag m).body) (variants_parts (map (adjacent_variant tag) ms))
    (field-body m.0 Strict (required_of (shape.members_of m.1)) (less_property tag (properties_in m.1))) (adjacent-least tag ms)

untagged-least : (ms : List Member) → LeastOf (map untagged_variant ms)
untagged-least [] = tt
untagged-least (m ∷ ms) = untagged-least ms

module _ (d : Document) (name : List ℕ) where
  one-of-least : (ms : List Member) → Least (row_parts (one_of_finding d name ms).row)
  one-of-least ms = optional (option_member ms)
    where
      only : (x : Option Member) → Least (row_parts (one_of_only d ms x).row)
      only (Some m) = tt
      only None = untagged-least ms

      internal : (x : Option shape.InternalShape) → Least (row_parts (one_of_internal d ms (option_map (internal_of d.setting ms) x)).row)
      internal (Some s) = internal-least d.setting s.tag ms
      internal None = only (only_member ms)

      adjacent : (x : Option shape.AdjacentShape) → Least (row_parts (one_of_adjacent d ms (option_map (adjacent_of ms) x)).row)
      adjacent (Some s) = adjacent-least s.tag ms
      adjacent None = internal (shape.internal_shape (schemas_of ms))

      external : (x : Option (List Case)) → Least (row_parts (one_of_external d ms (option_map (λ cs. external_rows ms) x)).row)
      external (Some cs) = external-least ms
      external None = adjacent (shape.adjacent_shape (schemas_of ms))

      optional : (x : Option Member) → Least (row_parts (one_of_option d ms x).row)
      optional (Some m) = tt
      optional None = external (shape.external_shape (schemas_of ms))

  any-of-least : (ms : List Member) → Least (row_parts (any_of_finding d name ms).row)
  any-of-least [] = tt
  any-of-least (m ∷ ms) = by (option_member (m ∷ ms))
    where
      apart : (b : Bool) → Least (row_parts (if b then one_of_finding d name (m ∷ ms) else plainly (untagged_row (m ∷ ms))).row)
      apart true = one-of-least (m ∷ ms)
      apart false = untagged-least (m ∷ ms)

      by : (x : Option Member) → Least (row_parts (any_of_others d name (m ∷ ms) x).row)
      by (Some n) = tt
      by None = apart (exclusive d (schemas_of (m ∷ ms)))

  all-of-least : (ms : List Member) → Least (row_parts (all_of_finding ms).row)
  all-of-least [] = tt
  all-of-least (m ∷ []) = tt
  all-of-least (m ∷ n ∷ ms) = tt

  deny-least : (s : Schema) → rank s ≡ 0 → (vs : List Value) → Least (row_parts (deny (made s) vs).row)
  deny-least s h vs = by (list_any is_owner vs)
    where
      by : (b : Bool) → Least (row_parts (if b then plainly (refused_row nested_enum) else noted (here narrowed not_note ∷ []) (ruled_row (made s) (deny_rule vs))).row)
      by true = tt
      by false = (h, tt)

  under-least : (s : Schema) (vs : List Value) → Least (row_parts (deny (under_not s) vs).row)
  under-least s vs = by (list_any is_owner vs)
    where
      by : (b : Bool) → Least (row_parts (if b then plainly (refused_row nested_enum) else noted (here narrowed not_note ∷ []) (ruled_row (under_not s) (deny_rule vs))).row)
      by true = tt
      by false = tt

  denied-least : (vs ws : List Value) → Least (row_parts (denied (type_of_listed vs) ws).row)
  denied-least [] ws = tt
  denied-least (v ∷ vs) ws = by (list_all is_text (v ∷ vs)) (list_all is_boolean (v ∷ vs)) (list_all is_number (v ∷ vs))
    where
      by : (a b c : Bool) → Least (row_parts (denied (if a then Some Text else if b then Some Boolean else if c then Some Integer else None) ws).row)
      by true b c = deny-least (alone (of_type Text no_keyword)) refl ws
      by false true c = deny-least (alone (of_type Boolean no_keyword)) refl ws
      by false false true = deny-least (alone (of_type Integer no_keyword)) refl ws
      by false false false = tt

  not-least : (s : Schema) → Least (row_parts (not_finding name s).row)
  not-least (boolean true) = tt
  not-least (boolean false) = tt
  not-least (object p ss ls ns) =
      by (is_none p.types && no_others p ls ns && without_same ss) (has_one_type p.types && is_some p.enum_values) (is_none p.types && is_some p.enum_values && no_others (less_enum p) ls ns && without_same ss)
    where
      by : (a b c : Bool) → Least (row_parts (if a then plainly (leaf_row (never_entry name)) else if b then deny (under_not (object (less_enum p) ss ls ns)) (listed p.enum_values) else if c then denied (type_of_listed (listed p.enum_values)) (listed p.enum_values) else plainly (refused_row bad_not)).row)
      by true b c = tt
      by false true c = under-least (object (less_enum p) ss ls ns) (listed p.enum_values)
      by false false true = denied-least (listed p.enum_values) (listed p.enum_values)
      by false false false = tt

  subschema-least : (ss : Same) (f : Finding) → subschema_finding d name ss ≡ Some f → Least (row_parts f.row)
  subschema-least (same_value (the_list us) no_list no_list no_schema false) f e = subst (λ x. Least (row_parts x.row)) (some-same _ f e) (all-of-least (members_from (codes "allOf") 0 us))
  subschema-least (same_value no_list (the_list us) no_list no_schema false) f e = subst (λ x. Least (row_parts x.row)) (some-same _ f e) (any-of-least (members_from (codes "anyOf") 0 us))
  subschema-least (same_value no_list no_list (the_list us) no_schema false) f e = subst (λ x. Least (row_parts x.row)) (some-same _ f e) (one-of-least (members_from (codes "oneOf") 0 us))
  subschema-least (same_value no_list no_list no_list (the_schema s) false) f e = subst (λ x. Least (row_parts x.row)) (some-same _ f e) (not-least s)
  subschema-least _ f e = none-some f e

-- ---- the lines

no-null : (vs : List Value) → list_any is_null (non_null vs) ≡ false
no-null [] = refl
no-null (v ∷ vs) = by (is_null v) refl (no-null vs)
  where
    by : (b : Bool) → is_null v ≡ b → list_any is_null (non_null vs) ≡ false → list_any is_null (if not b then v ∷ non_null vs else non_null vs) ≡ false
    by true e h = h
    by false e h = ap (λ b. b || list_any is_null (non_null vs)) e ∙ h

abbrev AllBelow : ℕ → List Line → Type 0
AllBelow n [] = Unit {0}
AllBelow n (l ∷ ls) = (l.fits ≡ true → Below n (row_parts l.finding.row)) × AllBelow n ls

first-below : (n : ℕ) (ls : List Line) → AllBelow n ls → Below n (row_parts (first_line ls).row)
first-below n [] h = tt
first-below n (l ∷ ls) h = by l.fits h.0 (first-below n ls h.1)
  where
    by : (b : Bool) → (b ≡ true → Below n (row_parts l.finding.row)) → Below n (row_parts (first_line ls).row) → Below n (row_parts (if b then l.finding else first_line ls).row)
    by true f g = f refl
    by false f g = g

module _ (r : Relations) (d : Document) (p : Plain) (ss : Same) (ls : Lists) (ns : Named) where
  abbrev n : ℕ
  n = rank (object p ss ls ns)

  abbrev e : Option (List Value)
  e = p.enum_values

  abbrev c : ℕ
  c = flag (is_some p.const_value)

  -- the rank of two types or more, and of one
  many-rank : (ks : List InstanceType) → p.types ≡ Some (many_types ks) → n ≡ 2 + flag (is_some e) + c
  many-rank ks h = ap (λ o. own_rank o e (without_same ss) + c) h

  some-map : (f : List Value → List Value) (o : Option (List Value)) → is_some (option_map f o) ≡ is_some o
  some-map f None = refl
  some-map f (Some vs) = refl

  typed-below : (k : InstanceType) (x : Option (List Value)) → is_some x ≡ is_some e → (ks : List InstanceType) → p.types ≡ Some (many_types ks) → flag (not (is_leaf k && without_same ss)) + flag (is_some x) + c < n
  typed-below k x h ks g =
      let a = flag-small (not (is_leaf k && without_same ss)) in
      let b = ap flag h in
      let m = many-rank ks g in
      omega arith

  beside-types : (o : Option Types) → is_some (type_beside_null o) ≡ true → (ks : List InstanceType) × (o ≡ Some (many_types ks))
  beside-types None h = impossible h
  beside-types (Some (one_type k)) h = impossible h
  beside-types (Some (many_types ks)) h = (ks, refl)

  among-types : (k : InstanceType) (o : Option Types) → type_among k o ≡ true → (ks : List InstanceType) × (o ≡ Some (many_types ks))
  among-types k None h = impossible h
  among-types k (Some (one_type l)) h = impossible h
  among-types k (Some (many_types ks)) h = (ks, refl)

  only-types : (o : Option Types) → is_some (only_type o) ≡ true → (ks : List InstanceType) × (o ≡ Some (many_types ks))
  only-types None h = impossible h
  only-types (Some (one_type k)) h = impossible h
  only-types (Some (many_types ks)) h = (ks, refl)

  of-many : (o : Option Types) → is_some (many_of o) ≡ true → (ks : List InstanceType) × (o ≡ Some (many_types ks))
  of-many None h = impossible h
  of-many (Some (one_type k)) h = impossible h
  of-many (Some (many_types ks)) h = (ks, refl)

  nullable-below : (o : Option InstanceType) (ks : List InstanceType) → p.types ≡ Some (many_types ks) → Below n (row_parts (nullable p ss ls ns o))
  nullable-below None ks g = tt
  nullable-below (Some k) ks g = by (lists_only_nulls p.enum_values || same_type Null k)
    where
      by : (b : Bool) → Below n (row_parts (if b then leaf_row unit_entry else option_row (made (object (beside_null (of_type k p)) ss ls ns))))
      by true = tt
      by false = (typed-below k (option_map non_null e) (some-map non_null e) ks g, tt)

  typed-as : (o : Option InstanceType) (ks : List InstanceType) → p.types ≡ Some (many_types ks) → Below n (row_parts (with_type p ss ls ns o))
  typed-as None ks g = tt
  typed-as (Some k) ks g = (typed-below k e refl ks g, tt)

  -- a schema of no type or of an owner's has a rank
  untyped-ranks : p.types ≡ None → 1 ≤ n
  untyped-ranks h = let m = ap (λ o. own_rank o e (without_same ss) + c) h in omega arith

  owner-ranks : (k : InstanceType) → is_leaf k ≡ false → has_type k p.types ≡ true → 1 ≤ n
  owner-ranks k l h =
      let m = ap (λ o. own_rank o e (without_same ss) + c) (has_type-is k p.types h) in
      let f = ap (λ b. flag (not (b && without_same ss))) l in
      omega arith

  -- subschemas rank too
  same-ranks : without_same ss ≡ false → 1 ≤ n
  same-ranks h = by p.types refl
    where
      by : (o : Option Types) → p.types ≡ o → 1 ≤ n
      by None g = untyped-ranks g
      by (Some (one_type k)) g =
          let m = ap (λ o. own_rank o e (without_same ss) + c) g in
          let f = ap (λ b. flag (not (is_leaf k && b))) h in
          let z = ap (λ b. flag (not b)) (both-false (is_leaf k)) in
          omega arith
        where
          both-false : (a : Bool) → (a && false) ≡ false
          both-false true = refl
          both-false false = refl
      by (Some (many_types ks)) g = let m = many-rank ks g in omega arith

  there : (x : Same) → is_some (subschema_finding d (wanted_of p) x) ≡ true → without_same x ≡ false
  there no_same h = impossible h
  there (same_value all any one none conditional) h = refl

  subschema-below : (x : Option Finding) → subschema_finding d (wanted_of p) ss ≡ x → is_some x ≡ true → Below n (row_parts (finding_or x).row)
  subschema-below None g h = impossible h
  subschema-below (Some f) g h = least-below n (same-ranks (there ss (ap is_some g ∙ h))) (row_parts f.row) (subschema-least d (wanted_of p) ss f g)

  allowed-below : has_one_type p.types ≡ true → is_some e ≡ true → Below n (row_parts (allowed_row (made (object (less_enum p) ss ls ns)) (listed e)))
  allowed-below h g = by (list_any is_owner (listed e)) p.types refl h
    where
      by : (b : Bool) (o : Option Types) → p.types ≡ o → has_one_type o ≡ true → Below n (row_parts (if b then refused_row nested_enum else ruled_row (made (object (less_enum p) ss ls ns)) (allow_rule (listed e))))
      by true o f h = tt
      by false None f h = impossible h
      by false (Some (one_type k)) f h =
          let m = ap (λ o. own_rank o e (without_same ss) + c) f in
          let a = ap (λ o. own_rank o None (without_same ss) + c) f in
          let z = ap flag g in
          (omega arith, tt)
      by false (Some (many_types ks)) f h = impossible h

  listed-below : (vs : List Value) → e ≡ Some vs → p.types ≡ None → Below n (row_parts (listed_alone p vs).row)
  listed-below vs f g = owner (list_any is_owner vs)
    where
      lower : list_any is_null vs ≡ true → own_rank p.types (Some (non_null vs)) true + flag (is_some p.const_value) < n
      lower h =
          let a = ap (λ o. own_rank o (Some (non_null vs)) true + flag (is_some p.const_value)) g in
          let b = ap flag (no-null vs) in
          let m = ap (λ o. own_rank o e (without_same ss) + c) g in
          let y = ap (λ x. flag (has_null x)) f ∙ ap flag h in
          omega arith

      whole : (a b x : Bool) → Below n (row_parts (if a then plainly (leaf_row (texts_entry (wanted_of p) (distinct (texts_in vs)))) else if b then boolean_finding (Some vs) else if x then plainly (ruled_row (made (alone (of_type Integer no_keyword))) (allow_rule vs)) else plainly (refused_row mixed_enum)).row)
      whole true b x = tt
      whole false true x = tt
      whole false false true = ((let a = untyped-ranks g in omega arith), tt)
      whole false false false = tt

      nulls : (b : Bool) → list_any is_null vs ≡ b → Below n (row_parts (if b then plainly (option_row (made (alone (without_nulls vs p)))) else if list_all is_text vs then plainly (leaf_row (texts_entry (wanted_of p) (distinct (texts_in vs)))) else if list_all is_boolean vs then boolean_finding (Some vs) else if list_all is_number vs then plainly (ruled_row (made (alone (of_type Integer no_keyword))) (allow_rule vs)) else plainly (refused_row mixed_enum)).row)
      nulls true h = (lower h, tt)
      nulls false h = whole (list_all is_text vs) (list_all is_boolean vs) (list_all is_number vs)

      only : (b : Bool) → Below n (row_parts (if b then plainly (leaf_row (if list_any is_null vs then unit_entry else never_entry (wanted_of p))) else if list_any is_null vs then plainly (option_row (made (alone (without_nulls vs p)))) else if list_all is_text vs then plainly (leaf_row (texts_entry (wanted_of p) (distinct (texts_in vs)))) else if list_all is_boolean vs then boolean_finding (Some vs) else if list_all is_number vs then plainly (ruled_row (made (alone (of_type Integer no_keyword))) (allow_rule vs)) else plainly (refused_row mixed_enum)).row)
      only true = tt
      only false = nulls (list_any is_null vs) refl

      owner : (b : Bool) → Below n (row_parts (if b then plainly (refused_row nested_enum) else if list_all is_null vs then plainly (leaf_row (if list_any is_null vs then unit_entry else never_entry (wanted_of p))) else if list_any is_null vs then plainly (option_row (made (alone (without_nulls vs p)))) else if list_all is_text vs then plainly (leaf_row (texts_entry (wanted_of p) (distinct (texts_in vs)))) else if list_all is_boolean vs then boolean_finding (Some vs) else if list_all is_number vs then plainly (ruled_row (made (alone (of_type Integer no_keyword))) (allow_rule vs)) else plainly (refused_row mixed_enum)).row)
      owner true = tt
      owner false = only (list_all is_null vs)

  kind-small : (k : InstanceType) → rank (of_kinds p ls ns k) ≤ 1
  kind-small Null = omega arith
  kind-small Boolean = omega arith
  kind-small Object = omega arith
  kind-small Array = omega arith
  kind-small Integer = omega arith
  kind-small Number = omega arith
  kind-small Text = omega arith

  variants-below : (ks : List InstanceType) → 2 ≤ n → Below n (variants_parts (map (type_variant p ls ns) ks))
  variants-below [] h = tt
  variants-below (k ∷ ks) h = ((let a = kind-small k in omega arith), variants-below ks h)

  text-parts : (o : Option Format) → Below n (row_parts (text_finding p o).row)
  text-parts None = tt
  text-parts (Some f) = tt

  enumerated-parts : (vs : List Value) → Below n (row_parts (enumerated r p vs).row)
  enumerated-parts vs = by (list_all (λ v. is_text v || is_null v) vs)
    where
      by : (b : Bool) → Below n (row_parts (if b then noted (note_if (list_any is_null vs) (here widened null_note) ++ note_if (is_some (given_format p)) (here widened string_note)) (leaf_row (listed_entry (list_any is_null vs) (wanted_of p) (kept_texts r p.texts vs))) else plainly (refused_row bad_value)).row)
      by true = tt
      by false = tt

  constant-parts : (o : Option (List ℕ)) → Below n (row_parts (constant_finding r p o).row)
  constant-parts None = tt
  constant-parts (Some s) = enumerated-parts (constant_list s p.enum_values)

  boolean-parts : (o : Option (List Value)) → Below n (row_parts (boolean_finding o).row)
  boolean-parts None = tt
  boolean-parts (Some vs) = tt

  reference-parts : (o : Option (List ℕ)) → Below n (row_parts (reference_row o))
  reference-parts None = tt
  reference-parts (Some q) = by (target_of q)
    where
      by : (x : Option Target) → Below n (row_parts (row_of_target x))
      by None = tt
      by (Some t) = tt

  listed-is : (o : Option (List Value)) → is_some o ≡ true → o ≡ Some (listed o)
  listed-is None h = impossible h
  listed-is (Some vs) h = refl

  all-below : AllBelow n (lines r d p ss ls ns)
  all-below = (
    (λ t. tt),
    (
      (λ t. let k = beside-types p.types t in nullable-below (type_beside_null p.types) k.0 k.1),
      (
        (λ t. text-parts (given_format p)),
        (
          (λ t. text-parts (given_format p)),
          (
            (λ t. enumerated-parts (listed p.enum_values)),
            (
              (λ t. constant-parts (constant_of p)),
              (
                (λ t. tt),
                (
                  (λ t. boolean-parts p.enum_values),
                  (
                    (λ t. least-below n (owner-ranks Object refl (and_left _ _ (and_left _ (is_bare p ss) t))) (row_parts (object_finding d.setting ns).row) (object-least d.setting ns)),
                    (
                      (λ t. least-below n (untyped-ranks (is-none p.types (untyped-type (and_left _ _ (and_left _ _ (and_left _ _ t)))))) (row_parts (object_finding d.setting ns).row) (object-least d.setting ns)),
                      (
                        (λ t. least-below n (owner-ranks Array refl (and_left _ _ (and_left _ (is_bare p ss) t))) (row_parts (array_finding ls).row) (array-least ls)),
                        (
                          (λ t. least-below n (untyped-ranks (is-none p.types (untyped-type (and_left _ _ (and_left _ _ (and_left _ _ t)))))) (row_parts (array_finding ls).row) (array-least ls)),
                          (
                            (λ t. tt),
                            (
                              (λ t. tt),
                              (
                                (λ t. reference-parts p.reference),
                                (
                                  (λ t. reference-parts p.reference),
                                  (
                                    (λ t. tt),
                                    (
                                      (λ t. allowed-below (and_left _ _ t) (and_right (has_one_type p.types) _ t)),
                                      (
                                        (λ t. let f = four (is_some p.enum_values) (is_none p.types) (no_others (less_enum p) ls ns) (without_same ss) t in
                                            listed-below (listed p.enum_values) (listed-is p.enum_values f.0) (is-none p.types f.1)),
                                        (
                                          (λ t. subschema-below (subschema_finding d (wanted_of p) ss) refl (and_left _ _ t)),
                                          (
                                            (λ t. tt),
                                            (
                                              (λ t. ((let z = ap flag t in omega arith), tt)),
                                              (
                                                (λ t. let k = among-types Null p.types (and_left _ _ t) in (untyped-below k.0 k.1, tt)),
                                                (
                                                  (λ t. let k = only-types p.types t in typed-as (only_type p.types) k.0 k.1),
                                                  ((λ t. let k = of-many p.types (and_left _ _ (and_left _ _ t)) in variants-below (filter (λ k. type_among k p.types) variant_order) (let m = many-rank k.0 k.1 in omega arith)), tt),
                                                ),
                                              ),
                                            ),
                                          ),
                                        ),
                                      ),
                                    ),
                                  ),
                                ),
                              ),
                            ),
                          ),
                        ),
                      ),
                    ),
                  ),
                ),
              ),
            ),
          ),
        ),
      ),
    ),
  )
    where
      untyped-type : is_untyped p ≡ true → is_none p.types ≡ true
      untyped-type h = and_left _ _ (and_left _ _ (and_left _ (is_none p.texts) h))

      untyped-below : (ks : List InstanceType) → p.types ≡ Some (many_types ks) → own_rank None e (without_same ss) + c < n
      untyped-below ks g = let m = many-rank ks g in let a = null-some e in omega arith
        where
          null-some : (o : Option (List Value)) → flag (has_null o) ≤ flag (is_some o)
          null-some None = omega arith
          null-some (Some vs) = flag-small (list_any is_null vs)

-- ---- chains

row-below : (r : Relations) (d : Document) (s : Schema) → Below (rank s) (row_parts (row_of r d s))
row-below r d (boolean true) = tt
row-below r d (boolean false) = tt
row-below r d (object p ss ls ns) = first-below (rank (object p ss ls ns)) (lines r d p ss ls ns) (all-below r d p ss ls ns)

each-below : (P : Schema → Type 0) (n : ℕ) → ((s : Schema) → rank s < n → P s) → (ps : List Part) → Below n ps → EachMade P ps
each-below P n f [] h = tt
each-below P n f (made s ∷ ps) h = (f s h.0, each-below P n f ps h.1)
each-below P n f (child l s ∷ ps) h = each-below P n f ps h
each-below P n f (of_branch l s ∷ ps) h = each-below P n f ps h
each-below P n f (lone l s ∷ ps) h = each-below P n f ps h

ends : (r : Relations) (d : Document) (n : ℕ) (s : Schema) → rank s ≤ n → ChainsEndWithin r d (suc n) s
ends r d zero s h = each-below (ChainsEndWithin r d 0) (rank s) (λ t l. absurd (omega arith)) (row_parts (row_of r d s)) (row-below r d s)
ends r d (suc n) s h = each-below (ChainsEndWithin r d (suc n)) (rank s) (λ t l. ends r d n t (omega arith)) (row_parts (row_of r d s)) (row-below r d s)

pub chains_end : ChainsEnd
chains_end r d s = ends r d 4 s (rank-small s)
