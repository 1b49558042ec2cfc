-- What a row hands on is in the schema, or is made of it with its walk; a part of a branch has a branch.
use Rattle.std.proofs.Common.{◌≡◌, ℕ, zero, suc, List, [], ◌∷◌, ◌++◌, map, filter, Bool, true, false, ◌&&◌, ◌||◌, not, Option, Some, None, is_none, is_some, option_map, inl, inr, refl, sym, subst, codes}
use Rattle.std.specs.Prelude.{take, Contains, if◌then◌else◌}
use Rattle.std.specs.List.{list_all, list_any}
use Rattle.json_value.specs.Value.{Value}
use Rattle.schema_defs.specs.declared.Setting.{Setting}
use Rattle.schema_defs.specs.declared.Setting.TheVariants.{Strict}
use Rattle.schema_defs.specs.declared.InstanceType.{InstanceType}
use Rattle.schema_defs.specs.declared.InstanceType.TheVariants.{Null, Boolean, Object, Array, Number, Text, Integer}
use Rattle.schema_defs.specs.declared.Format.{Format}
use Rattle.schema_defs.specs.Location.{Step, Location}
use Rattle.schema_defs.specs.Texts.{Relations}
use Rattle.schema_defs.specs.Schema.{Plain, Schema, boolean, object, Same, same_value, Lists, no_lists, lists, Named, no_named, named, MaybeSchema, no_schema, the_schema, no_list, the_list, Schemas, no_more, schema, Places, no_items, each_item, by_place, Properties, no_properties, property, ListRules, MemberRules, Document}
use Rattle.schema_defs.specs.Layer.{is_given}
use Rattle.schema_defs.specs.Admits.{target}
use Rattle.schema_defs.proofs.Stand.{first_in, rest_in}
use Rattle.model_defs.specs.Model.{allow_rule, deny_rule}
use Rattle.model_defs.specs.Layer.{is_null, is_text, is_boolean}
use Rattle.entry_defs.specs.Entry.{Target, unit_entry}
use Rattle.merge_walks.specs.Samples.{walk_in}
use Rattle.each_schema.specs.Each.{of_any_size}
use Rattle.convert_defs.specs.Row.{Part, child, of_branch, lone, made, FieldRow, VariantRow, field_parts, outside_parts, further_parts, body_parts, variants_parts, row_parts, Row, leaf_row, option_row, ruled_row, vec_row, set_row, map_row, refused_row, Finding, noted, plainly, asking, here, narrowed, widened, null_note, string_note, names_note, not_note, bad_value, mixed_enum, nested_enum, bad_array, bad_not, names as names_cause}
use Rattle.convert_defs.specs.Standing.{of_type, less_enum, less_reference, alone, no_keyword}
use Rattle.enum_defs.specs.Words.{same_type, without_same, required_of}
use Rattle.enum_defs.specs.Shapes.{Case, external_cases, external_shape, InternalShape, internal_shape, AdjacentShape, adjacent_shape, members_of}
use Rattle.enum_defs.specs.Exclusive.{exclusive}
use Rattle.convert_defs.specs.IntegerRow.{note_if}
use Rattle.convert_defs.specs.Scalars.{text_finding, given_format, wanted_of, enumerated, listed_entry, kept_texts, boolean_finding, listed_alone, is_owner, is_number, distinct, texts_in, texts_entry, never_entry, without_nulls}
use Rattle.convert_defs.specs.Owners.{part_at, each_part, listed_parts, unlisted, fixed_row, open_list, is_true, is_by_place, list_notes, sized_finding, fixed_size, array_finding, property_fields, outside_names, outside_row, other_part, struct_of, no_property, is_empty, is_false, is_shut, are_alike, pattern_names, pattern_row, name_part, names_texts, map_of, counts_notes, names_notes, object_finding}
use Rattle.convert_defs.specs.Shapes.{Member, members_from, schemas_of, option_member, external_members, external_rows, case_row, case_rows, case_body, properties_in, less_property, placed_field, fields_beside, body_of_fields, body_of_field, internal_variant, internal_of, internal_members, adjacent_variant, adjacent_of, adjacent_members, TaggedShape}
use Rattle.convert_defs.specs.Table.{Line, lines, first_line, nullable, type_beside_null, lists_only_nulls, beside_null, reference_row, row_of_target, target_of, target_part, schema_part, allowed_row, listed, type_of_listed, has_one_type, no_others, with_type, only_type, type_variant, type_among, of_kinds, variant_order, constant_of, constant_finding, constant_list, finding_of, row_of, member_part, subschema_finding, finding_or, all_of_finding, any_of_finding, any_of_others, one_of_finding, one_of_only, one_of_internal, one_of_adjacent, one_of_external, one_of_option, only_member, not_finding, deny, under_not, denied, untagged_row, untagged_variant}
use Rattle.convert_defs.proofs.Views.{AllParts, schema_of}
use Rattle.convert_defs.proofs.Bare.{none-some, some-same}
use Rattle.convert_defs.proofs.InsideParts.{IsMadeToo}
use Rattle.convert_defs.proofs.Inside.{parts-in}
use Rattle.convert_walks.specs.Spot.{Branches}
use Rattle.convert_walks.specs.Tree.{if_merged}
use Rattle.depth_laws.specs.Steps.{HasShort, AreShort, SameShort, AllShort, TargetsAreShort}
use Rattle.depth_laws.proofs.Fit.{IsOfWalk, IsThere, AreFitParts, AreMergedParts, AreShortBranches, IfMerged, RowsAreFit}

-- what rows make has no walk, or that of the schema
too : (most : ℕ) → IsMadeToo (HasShort most)
too most = record {
  one = λ k e. tt;
  of_objects = λ p ns h. tt;
  of_integers = λ p ns h. tt;
  of_texts = λ p ns h. tt;
  no_null = λ p ns k e h. h;
  no_nulls = λ vs p ns h. h;
  only = λ p ns k e h. h;
  no_types = λ p ns h. h;
  no_enum = λ p ns h. h;
  no_const = λ p ns h. h;
}

module _ (most : ℕ) (d : Document) (targets : TargetsAreShort d most) (s : Schema) where
  -- where a part stands, its schema aside
  abbrev Stands : Branches → Part → Type 0
  Stands ms (child k t) = Unit {0}
  Stands ms (of_branch k t) = IsThere ms (take 2 k)
  Stands ms (lone k t) = Unit {0}
  Stands ms (made t) = IsOfWalk s t

  abbrev All : Branches → List Part → Type 0
  All ms [] = Unit {0}
  All ms (p ∷ ps) = Stands ms p × All ms ps

  both : (ms : Branches) (xs ys : List Part) → All ms xs → All ms ys → All ms (xs ++ ys)
  both ms [] ys h g = g
  both ms (x ∷ xs) ys h g = (h.0, both ms xs ys h.1 g)

  abbrev R : Row → Type 0
  R w = All [] (row_parts w) × IfMerged most s (if_merged w)

  abbrev F : Finding → Type 0
  F f = AreShortBranches most s f.branches × All f.branches (row_parts f.row) × IfMerged most s (if_merged f.row)

  if-row : (b : Bool) (w v : Row) → R w → R v → R (if b then w else v)
  if-row true w v h g = h
  if-row false w v h g = g

  if-finding : (b : Bool) (f g : Finding) → F f → F g → F (if b then f else g)
  if-finding true f g h i = h
  if-finding false f g h i = i

  -- ---- objects

  part-at : (k : Step) (m : MaybeSchema) → Stands [] (part_at k m)
  part-at k no_schema = inl refl
  part-at k (the_schema t) = tt

  fields-fit : (st : Setting) (req : List (List ℕ)) (ps : Properties) → All [] (field_parts (property_fields st req ps))
  fields-fit st req no_properties = tt
  fields-fit st req (property k t ps) = (tt, fields-fit st req ps)

  outside-fit : (ns : List (List ℕ)) (rest : MaybeSchema) → All [] (outside_parts (outside_row ns rest))
  outside-fit (n ∷ ns) rest = (part-at (codes "additionalProperties") rest, tt)
  outside-fit [] no_schema = tt
  outside-fit [] (the_schema (boolean b)) = tt
  outside-fit [] (the_schema (object p ss ls ns)) = (tt, tt)

  name-fit : (m : MaybeSchema) → Stands [] (name_part m)
  name-fit no_schema = inl refl
  name-fit (the_schema (boolean b)) = inl refl
  name-fit (the_schema (object p ss ls ns)) = tt

  map-fit : (rest names : MaybeSchema) → R (map_of rest names)
  map-fit rest names = if-row (names_texts names) (map_row (name_part names) (other_part rest)) (refused_row names_cause) ((name-fit names, (part-at (codes "additionalProperties") rest, tt)), tt) (tt, tt)

  pattern-fit : (qs : Properties) → R (pattern_row qs)
  pattern-fit no_properties = (tt, tt)
  pattern-fit (property k t qs) = ((tt, tt), tt)

  struct-fit : (st : Setting) (props : Properties) (rest : MaybeSchema) (rules : MemberRules) → All [] (row_parts (struct_of st props rest rules))
  struct-fit st props rest rules = both [] (field_parts (property_fields st rules.required props)) (outside_parts (outside_row (outside_names props rules.required) rest)) (fields-fit st rules.required props) (outside-fit (outside_names props rules.required) rest)

  object-fit : (st : Setting) (ns : Named) → F (object_finding st ns)
  object-fit st no_named = (tt, (inl refl, (inl refl, tt)), tt)
  object-fit st (named props patterns rest names rules) =
      if-finding (no_property props && is_empty rules.required && no_property patterns && not (is_false rest)) (noted (counts_notes rules) (map_of rest names))
      (if no_property props && is_empty rules.required && not (is_given names) && is_shut rest && are_alike patterns
      then asking (pattern_names patterns) (noted (counts_notes rules ++ note_if (not (is_given rest)) (here narrowed names_note)) (pattern_row patterns))
      else noted (counts_notes rules ++ names_notes patterns names) (struct_of st props rest rules))
      (tt, (map-fit rest names).0, (map-fit rest names).1)
      (if-finding (no_property props && is_empty rules.required && not (is_given names) && is_shut rest && are_alike patterns)
      (asking (pattern_names patterns) (noted (counts_notes rules ++ note_if (not (is_given rest)) (here narrowed names_note)) (pattern_row patterns)))
      (noted (counts_notes rules ++ names_notes patterns names) (struct_of st props rest rules))
      (tt, (pattern-fit patterns).0, (pattern-fit patterns).1) (tt, struct-fit st props rest rules, tt))

  -- ---- arrays

  places-fit : (i n : ℕ) (ss : Schemas) → All [] (listed_parts i n ss)
  places-fit i zero ss = tt
  places-fit i (suc n) no_more = tt
  places-fit i (suc n) (schema t ss) = (tt, places-fit (suc i) n ss)

  further-fit : (n : ℕ) (p : Part) → Stands [] p → All [] (further_parts n p)
  further-fit zero p h = tt
  further-fit (suc n) p h = (h, tt)

  each-fit : (m : Places) → Stands [] (each_part m)
  each-fit no_items = inl refl
  each-fit (each_item t) = tt
  each-fit (by_place ss) = inl refl

  fixed-fit : (n : ℕ) (m : Places) (rest : MaybeSchema) → R (fixed_row n m rest)
  fixed-fit n no_items rest = ((inl refl, tt), tt)
  fixed-fit n (each_item t) rest = ((tt, tt), tt)
  fixed-fit n (by_place ss) rest =
      (both [] (listed_parts 0 n ss) (further_parts (unlisted n ss) (part_at (codes "additionalItems") rest)) (places-fit 0 n ss) (further-fit (unlisted n ss) (part_at (codes "additionalItems") rest) (part-at (codes "additionalItems") rest)), tt)

  open-fit : (rules : ListRules) (p : Part) → Stands [] p → R (open_list rules p)
  open-fit rules p h = if-row (is_true rules.unique_items) (set_row p) (vec_row p) ((h, tt), tt) ((h, tt), tt)

  sized-fit : (m : Places) (rest contains : MaybeSchema) (rules : ListRules) (o : Option ℕ) → F (sized_finding m rest contains rules o)
  sized-fit m rest contains rules (Some n) = (tt, (fixed-fit n m rest).0, (fixed-fit n m rest).1)
  sized-fit m rest contains rules None =
      if-finding (is_by_place m || is_given contains) (plainly (refused_row bad_array)) (noted (list_notes rules) (open_list rules (each_part m))) (tt, tt, tt) (tt, (open-fit rules (each_part m) (each-fit m)).0, (open-fit rules (each_part m) (each-fit m)).1)

  array-fit : (ls : Lists) → F (array_finding ls)
  array-fit no_lists = (tt, (inl refl, tt), tt)
  array-fit (lists m rest contains rules) = sized-fit m rest contains rules (fixed_size rules contains)

  -- ---- members

  members-short : (k : Step) (i : ℕ) (us : Schemas) → AllShort most us → AreShortBranches most s (members_from k i us)
  members-short k i no_more h = tt
  members-short k i (schema u us) h = (h.0, members-short k (suc i) us h.1)

  -- each has two steps
  abbrev TwoSteps : List Member → Type 0
  TwoSteps [] = Unit {0}
  TwoSteps (m ∷ ms) = ((l : Location) → take 2 (m.0 ++ l) ≡ m.0) × TwoSteps ms

  two-steps : (k : Step) (i : ℕ) (us : Schemas) → TwoSteps (members_from k i us)
  two-steps k i no_more = tt
  two-steps k i (schema u us) = ((λ l. refl), two-steps k (suc i) us)

  abbrev Within : List Member → List Member → Type 0
  Within ms ns = (m : Member) → Contains ns m → Contains ms m

  rest-within : (ms : List Member) (n : Member) (ns : List Member) → Within ms (n ∷ ns) → Within ms ns
  rest-within ms n ns h m c = h m (rest_in n ns m c)

  left-of : (ms : Branches) (xs ys : List Part) → All ms (xs ++ ys) → All ms xs
  left-of ms [] ys h = tt
  left-of ms (x ∷ xs) ys h = (h.0, left-of ms xs ys h.1)

  right-of : (ms : Branches) (xs ys : List Part) → All ms (xs ++ ys) → All ms ys
  right-of ms [] ys h = h
  right-of ms (x ∷ xs) ys h = right-of ms xs ys h.1

  variants-both : (ms : List Member) (xs ys : List VariantRow) → All ms (variants_parts xs) → All ms (variants_parts ys) → All ms (variants_parts (xs ++ ys))
  variants-both ms [] ys h g = g
  variants-both ms (x ∷ xs) ys h g = both ms (body_parts x.body) (variants_parts (xs ++ ys)) (left-of ms (body_parts x.body) (variants_parts xs) h) (variants-both ms xs ys (right-of ms (body_parts x.body) (variants_parts xs) h) g)

  untagged-fit : (ms : List Member) → All [] (variants_parts (map untagged_variant ms))
  untagged-fit [] = tt
  untagged-fit (m ∷ ms) = (tt, untagged-fit ms)

  module _ (ms : List Member) where
    module _ (m : Member) (there : Contains ms m) (two : (l : Location) → take 2 (m.0 ++ l) ≡ m.0) where
      content-fit : (k : List ℕ) (o : Option Schema) → All ms (body_parts (case_body m.0 k o))
      content-fit k None = tt
      content-fit k (Some t) = ((m, there, two (codes "properties" ∷ k ∷ [])), tt)

      cases-fit : (cs : List Case) → All ms (variants_parts (map (case_row m.0) cs))
      cases-fit [] = tt
      cases-fit (c ∷ cs) = both ms (body_parts (case_body m.0 c.name c.content)) (variants_parts (map (case_row m.0) cs)) (content-fit c.name c.content) (cases-fit cs)

      if-cases : (o : Option (List Case)) → All ms (variants_parts (case_rows m.0 o))
      if-cases None = tt
      if-cases (Some cs) = cases-fit cs

      placed-fit : (st : Setting) (req : List (List ℕ)) (ps : Properties) → All ms (field_parts (map (placed_field m.0) (property_fields st req ps)))
      placed-fit st req no_properties = tt
      placed-fit st req (property k t ps) = ((m, there, two (codes "properties" ∷ k ∷ [])), placed-fit st req ps)

      beside-fit : (st : Setting) (tag : List ℕ) → All ms (field_parts (fields_beside st tag m))
      beside-fit st tag = placed-fit st (required_of (members_of m.1)) (less_property tag (properties_in m.1))

    fields-body : (fs : List FieldRow) → All ms (field_parts fs) → All ms (body_parts (body_of_fields fs))
    fields-body [] h = tt
    fields-body (f ∷ fs) h = h

    field-body : (fs : List FieldRow) → All ms (field_parts fs) → All ms (body_parts (body_of_field fs))
    field-body [] h = tt
    field-body (f ∷ fs) h = (h.0, tt)

    external-fit : (ns : List Member) → TwoSteps ns → Within ms ns → All ms (variants_parts (external_rows ns))
    external-fit [] h w = tt
    external-fit (n ∷ ns) h w = variants-both ms (case_rows n.0 (external_cases n.1)) (external_rows ns) (if-cases n (w n (first_in n ns)) h.0 (external_cases n.1)) (external-fit ns h.1 (rest-within ms n ns w))

    internal-fit : (st : Setting) (tag : List ℕ) (ns : List Member) → TwoSteps ns → Within ms ns → All ms (variants_parts (map (internal_variant st tag) ns))
    internal-fit st tag [] h w = tt
    internal-fit st tag (n ∷ ns) h w =
        both ms (body_parts (internal_variant st tag n).body) (variants_parts (map (internal_variant st tag) ns)) (fields-body (fields_beside st tag n) (beside-fit n (w n (first_in n ns)) h.0 st tag)) (internal-fit st tag ns h.1 (rest-within ms n ns w))

    adjacent-fit : (tag : List ℕ) (ns : List Member) → TwoSteps ns → Within ms ns → All ms (variants_parts (map (adjacent_variant tag) ns))
    adjacent-fit tag [] h w = tt
    adjacent-fit tag (n ∷ ns) h w =
        both ms (body_parts (adjacent_variant tag n).body) (variants_parts (map (adjacent_variant tag) ns)) (field-body (fields_beside Strict tag n) (beside-fit n (w n (first_in n ns)) h.0 Strict tag)) (adjacent-fit tag ns h.1 (rest-within ms n ns w))

    module _ (two : TwoSteps ms) where
      external-found : (ws : List VariantRow) → external_members ms ≡ Some ws → All ms (variants_parts ws)
      external-found ws e = by (external_shape (schemas_of ms)) e
        where
          by : (o : Option (List Case)) → option_map (λ cs. external_rows ms) o ≡ Some ws → All ms (variants_parts ws)
          by None h = none-some ws h
          by (Some cs) h = subst (λ x. All ms (variants_parts x)) (some-same (external_rows ms) ws h) (external-fit ms two (λ m c. c))

      internal-found : (t : TaggedShape) → internal_members d.setting ms ≡ Some t → All ms (variants_parts t.variants)
      internal-found t e = by (internal_shape (schemas_of ms)) e
        where
          by : (o : Option InternalShape) → option_map (internal_of d.setting ms) o ≡ Some t → All ms (variants_parts t.variants)
          by None h = none-some t h
          by (Some x) h = subst (λ y. All ms (variants_parts y.variants)) (some-same (internal_of d.setting ms x) t h) (internal-fit d.setting x.tag ms two (λ m c. c))

      adjacent-found : (t : TaggedShape) → adjacent_members ms ≡ Some t → All ms (variants_parts t.variants)
      adjacent-found t e = by (adjacent_shape (schemas_of ms)) e
        where
          by : (o : Option AdjacentShape) → option_map (adjacent_of ms) o ≡ Some t → All ms (variants_parts t.variants)
          by None h = none-some t h
          by (Some x) h = subst (λ y. All ms (variants_parts y.variants)) (some-same (adjacent_of ms x) t h) (adjacent-fit x.tag ms two (λ m c. c))

      module _ (short : AreShortBranches most s ms) where
        one-of-fit : (n : List ℕ) → F (one_of_finding d n ms)
        one-of-fit n = optional (option_member ms)
          where
            only : (x : Option Member) → F (one_of_only d ms x)
            only (Some m) = (tt, (tt, tt), tt)
            only None = (tt, untagged-fit ms, tt)

            internal : (x : Option TaggedShape) → internal_members d.setting ms ≡ x → F (one_of_internal d ms x)
            internal (Some t) e = (short, internal-found t e, tt)
            internal None e = only (only_member ms)

            adjacent : (x : Option TaggedShape) → adjacent_members ms ≡ x → F (one_of_adjacent d ms x)
            adjacent (Some t) e = (short, adjacent-found t e, tt)
            adjacent None e = internal (internal_members d.setting ms) refl

            external : (x : Option (List VariantRow)) → external_members ms ≡ x → F (one_of_external d ms x)
            external (Some ws) e = (short, external-found ws e, tt)
            external None e = adjacent (adjacent_members ms) refl

            optional : (x : Option Member) → F (one_of_option d ms x)
            optional (Some m) = (tt, (tt, tt), tt)
            optional None = external (external_members ms) refl

        any-others-fit : (n : List ℕ) (x : Option Member) → F (any_of_others d n ms x)
        any-others-fit n (Some m) = (tt, (tt, tt), tt)
        any-others-fit n None = if-finding (exclusive d (schemas_of ms)) (one_of_finding d n ms) (plainly (untagged_row ms)) (one-of-fit n) (tt, untagged-fit ms, tt)

  any-of-fit : (n : List ℕ) (ms : List Member) → TwoSteps ms → AreShortBranches most s ms → F (any_of_finding d n ms)
  any-of-fit n [] two h = (tt, tt, tt)
  any-of-fit n (m ∷ ms) two h = any-others-fit (m ∷ ms) two h n (option_member (m ∷ ms))

  merged-members : (ms : List Member) → AreShortBranches most s ms → AreMergedParts most s (map member_part ms)
  merged-members [] h = tt
  merged-members (m ∷ ms) h = (h.0, merged-members ms h.1)

  all-of-fit : (ms : List Member) → AreShortBranches most s ms → F (all_of_finding ms)
  all-of-fit [] h = (tt, tt, tt)
  all-of-fit (m ∷ []) h = (tt, (tt, tt), tt)
  all-of-fit (m ∷ l ∷ ms) h = (tt, tt, merged-members (m ∷ l ∷ ms) h)

  deny-fit : (p : Part) (vs : List Value) → Stands [] p → F (deny p vs)
  deny-fit p vs h = if-finding (list_any is_owner vs) (plainly (refused_row nested_enum)) (noted (here narrowed not_note ∷ []) (ruled_row p (deny_rule vs))) (tt, tt, tt) (tt, (h, tt), tt)

  denied-fit : (o : Option InstanceType) (vs : List Value) → F (denied o vs)
  denied-fit None vs = (tt, tt, tt)
  denied-fit (Some k) vs = deny-fit (made (alone (of_type k no_keyword))) vs (inl refl)

  not-fit : (n : List ℕ) (u : Schema) → F (not_finding n u)
  not-fit n (boolean true) = (tt, tt, tt)
  not-fit n (boolean false) = (tt, tt, tt)
  not-fit n (object q sq lq nq) = by (is_none q.types && no_others q lq nq && without_same sq) (has_one_type q.types && is_some q.enum_values) (is_none q.types && is_some q.enum_values && no_others (less_enum q) lq nq && without_same sq)
    where
      by : (a b c : Bool) → F (if a then plainly (leaf_row (never_entry n)) else if b then deny (under_not (object (less_enum q) sq lq nq)) (listed q.enum_values) else if c then denied (type_of_listed (listed q.enum_values)) (listed q.enum_values) else plainly (refused_row bad_not))
      by true b c = (tt, tt, tt)
      by false true c = deny-fit (under_not (object (less_enum q) sq lq nq)) (listed q.enum_values) tt
      by false false true = denied-fit (type_of_listed (listed q.enum_values)) (listed q.enum_values)
      by false false false = (tt, tt, tt)

  subschemas-fit : (n : List ℕ) (x : Same) → SameShort most x → F (finding_or (subschema_finding d n x))
  subschemas-fit n (same_value (the_list us) no_list no_list no_schema false) h = all-of-fit (members_from (codes "allOf") 0 us) (members-short (codes "allOf") 0 us h.0)
  subschemas-fit n (same_value no_list (the_list us) no_list no_schema false) h = any-of-fit n (members_from (codes "anyOf") 0 us) (two-steps (codes "anyOf") 0 us) (members-short (codes "anyOf") 0 us h.1)
  subschemas-fit n (same_value no_list no_list (the_list us) no_schema false) h = one-of-fit (members_from (codes "oneOf") 0 us) (two-steps (codes "oneOf") 0 us) (members-short (codes "oneOf") 0 us h.2) n
  subschemas-fit n (same_value no_list no_list no_list (the_schema u) false) h = not-fit n u
  subschemas-fit n _ h = (tt, tt, tt)

  -- ---- the lines of the table

  module _ (r : Relations) (p : Plain) (ss : Same) (ls : Lists) (ns : Named) (e : walk_in s ≡ p.walk) (a : AreShort most (object p ss ls ns)) where
    text-fit : (o : Option Format) → F (text_finding p o)
    text-fit (Some f) = (tt, tt, tt)
    text-fit None = (tt, tt, tt)

    enumerated-fit : (vs : List Value) → F (enumerated r p vs)
    enumerated-fit vs =
        if-finding (list_all (λ v. is_text v || is_null v) vs) (noted (note_if (list_any is_null vs) (here widened null_note) ++ note_if (is_some (given_format p)) (here widened string_note)) (leaf_row (listed_entry (list_any is_null vs) (wanted_of p) (kept_texts r p.texts vs)))) (plainly (refused_row bad_value)) (tt, tt, tt) (tt, tt, tt)

    constant-fit : (o : Option (List ℕ)) → F (constant_finding r p o)
    constant-fit None = (tt, tt, tt)
    constant-fit (Some t) = enumerated-fit (constant_list t p.enum_values)

    boolean-fit : (o : Option (List Value)) → F (boolean_finding o)
    boolean-fit None = (tt, tt, tt)
    boolean-fit (Some vs) = (tt, tt, tt)

    nullable-fit : (o : Option InstanceType) → R (nullable p ss ls ns o)
    nullable-fit None = (tt, tt)
    nullable-fit (Some k) = if-row (lists_only_nulls p.enum_values || same_type Null k) (leaf_row unit_entry) (option_row (made (object (beside_null (of_type k p)) ss ls ns))) (tt, tt) ((inr (sym e), tt), tt)

    reference-fit : (o : Option (List ℕ)) → R (reference_row o)
    reference-fit None = (tt, tt)
    reference-fit (Some q) = by (target_of q)
      where
        by : (u : Option Target) → R (row_of_target u)
        by None = (tt, tt)
        by (Some t) = (tt, tt)

    allowed-fit : (vs : List Value) → R (allowed_row (made (object (less_enum p) ss ls ns)) vs)
    allowed-fit vs = if-row (list_any is_owner vs) (refused_row nested_enum) (ruled_row (made (object (less_enum p) ss ls ns)) (allow_rule vs)) (tt, tt) ((inr (sym e), tt), tt)

    listed-fit : (vs : List Value) → F (listed_alone p vs)
    listed-fit vs = by (list_any is_owner vs) (list_all is_null vs) (list_any is_null vs) (list_all is_text vs) (list_all is_boolean vs) (list_all is_number vs)
      where
        by : (a b c x f g : Bool) → F (if a then plainly (refused_row nested_enum) else if b then plainly (leaf_row (if list_any is_null vs then unit_entry else never_entry (wanted_of p))) else if c then plainly (option_row (made (alone (without_nulls vs p)))) else if x then plainly (leaf_row (texts_entry (wanted_of p) (distinct (texts_in vs)))) else if f then boolean_finding (Some vs) else if g then plainly (ruled_row (made (alone (of_type Integer no_keyword))) (allow_rule vs)) else plainly (refused_row mixed_enum))
        by true b c x f g = (tt, tt, tt)
        by false true c x f g = (tt, tt, tt)
        by false false true x f g = (tt, (inr (sym e), tt), tt)
        by false false false true f g = (tt, tt, tt)
        by false false false false true g = (tt, tt, tt)
        by false false false false false true = (tt, (inl refl, tt), tt)
        by false false false false false false = (tt, tt, tt)

    typed-fit : (o : Option InstanceType) → R (with_type p ss ls ns o)
    typed-fit None = (tt, tt)
    typed-fit (Some k) = ((inr (sym e), tt), tt)

    kind-fit : (k : InstanceType) → IsOfWalk s (of_kinds p ls ns k)
    kind-fit Null = inl refl
    kind-fit Boolean = inl refl
    kind-fit Object = inl refl
    kind-fit Array = inl refl
    kind-fit Number = inl refl
    kind-fit Text = inl refl
    kind-fit Integer = inl refl

    kinds-fit : (f : InstanceType → Bool) (ks : List InstanceType) → All [] (variants_parts (map (type_variant p ls ns) (filter f ks)))
    kinds-fit f [] = tt
    kinds-fit f (k ∷ ks) = by (f k) (kinds-fit f ks)
      where
        by : (b : Bool) → All [] (variants_parts (map (type_variant p ls ns) (filter f ks))) → All [] (variants_parts (map (type_variant p ls ns) (if b then k ∷ filter f ks else filter f ks)))
        by true g = (kind-fit k, g)
        by false g = g

    merged-targets : (q : Option (List ℕ)) → AreMergedParts most s (target_part d q ++ made (object (less_reference p) ss ls ns) ∷ [])
    merged-targets None = (a, tt)
    merged-targets (Some q) = by (target d q) refl
      where
        by : (t : Option Schema) → target d q ≡ t → AreMergedParts most s (schema_part t ++ made (object (less_reference p) ss ls ns) ∷ [])
        by None f = (a, tt)
        by (Some t) f = (targets q t f, (a, tt))

    abbrev Lines : List Line → Type 0
    Lines [] = Unit {0}
    Lines (l ∷ xs) = F l.finding × Lines xs

    first-fit : (xs : List Line) → Lines xs → F (first_line xs)
    first-fit [] h = (tt, tt, tt)
    first-fit (l ∷ xs) h = if-finding l.fits l.finding (first_line xs) h.0 (first-fit xs h.1)

    row-f : (w : Row) → R w → F (plainly w)
    row-f w h = (tt, h.0, h.1)

    lines-fit : Lines (lines r d p ss ls ns)
    lines-fit = (
      (tt, tt, tt),
      (
        (tt, (nullable-fit (type_beside_null p.types)).0, (nullable-fit (type_beside_null p.types)).1),
        (
          text-fit (given_format p),
          (
            text-fit (given_format p),
            (
              enumerated-fit (listed p.enum_values),
              (
                constant-fit (constant_of p),
                (
                  (tt, tt, tt),
                  (
                    boolean-fit p.enum_values,
                    (
                      object-fit d.setting ns,
                      (
                        object-fit d.setting ns,
                        (
                          array-fit ls,
                          (
                            array-fit ls,
                            (
                              (tt, tt, tt),
                              (
                                (tt, tt, tt),
                                (
                                  row-f (reference_row p.reference) (reference-fit p.reference),
                                  (
                                    row-f (reference_row p.reference) (reference-fit p.reference),
                                    (
                                      (tt, tt, merged-targets p.reference),
                                      (
                                        row-f (allowed_row (made (object (less_enum p) ss ls ns)) (listed p.enum_values)) (allowed-fit (listed p.enum_values)),
                                        (
                                          listed-fit (listed p.enum_values),
                                          (
                                            subschemas-fit (wanted_of p) ss a.1,
                                            ((tt, tt, ((a.0, tt, a.2, a.3), ((tt, a.1, tt, tt), tt))), ((tt, (inr (sym e), tt), tt), ((tt, (inr (sym e), tt), tt), (row-f (with_type p ss ls ns (only_type p.types)) (typed-fit (only_type p.types)), ((tt, kinds-fit (λ k. type_among k p.types) variant_order, tt), tt))))),
                                          ),
                                        ),
                                      ),
                                    ),
                                  ),
                                ),
                              ),
                            ),
                          ),
                        ),
                      ),
                    ),
                  ),
                ),
              ),
            ),
          ),
        ),
      ),
    )

  finding-fit : (r : Relations) (u : Schema) → walk_in s ≡ walk_in u → AreShort most u → F (finding_of r d u)
  finding-fit r (boolean true) e a = (tt, tt, tt)
  finding-fit r (boolean false) e a = (tt, tt, tt)
  finding-fit r (object p ss ls ns) e a = first-fit r p ss ls ns e a (lines r d p ss ls ns) (lines-fit r p ss ls ns e a)

  with-schemas : (ms : Branches) (ps : List Part) → AllParts (λ p. AreShort most (schema_of p)) ps → All ms ps → AreFitParts most s ms ps
  with-schemas ms [] h g = tt
  with-schemas ms (child k t ∷ ps) h g = (h.0, with-schemas ms ps h.1 g.1)
  with-schemas ms (of_branch k t ∷ ps) h g = ((h.0, g.0), with-schemas ms ps h.1 g.1)
  with-schemas ms (lone k t ∷ ps) h g = (h.0, with-schemas ms ps h.1 g.1)
  with-schemas ms (made t ∷ ps) h g = ((h.0, g.0), with-schemas ms ps h.1 g.1)

pub rows_are_fit : RowsAreFit
rows_are_fit r d most targets s a =
    let f = finding-fit most d targets s r s refl a in
    record { branches = f.0; parts = with-schemas most d targets s (finding_of r d s).branches (row_parts (row_of r d s)) (parts-in (HasShort most) of_any_size (too most) d r s a) f.1; merged = f.2 }
