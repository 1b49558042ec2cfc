-- What a row hands on stands where its steps lead to, or is made of the schema with its walk or none.
use Rattle.std.proofs.Common.{◌≡◌, ℕ, zero, suc, List, [], ◌∷◌, ◌++◌, map, filter, Bool, true, false, ◌&&◌, ◌||◌, not, Option, Some, None, is_none, is_some, option_map, ◌⊎◌, inl, inr, refl, sym, ap, subst, ◌∙◌, ◌≤◌, arith, codes, true≢false, bytes_eq}
use Rattle.std.specs.Prelude.{take, drop, length, nat_le, Contains, option_and_then, if◌then◌else◌}
use Rattle.std.specs.List.{list_all, list_any}
use Rattle.std.specs.Cmp.Lexicographic.{pointwise_decides}
use Rattle.std.proofs.lemmas.Slice.Eq.{bytes_eq-Decides}
use Rattle.json_value.specs.Value.{Value}
use Rattle.schema_defs.specs.declared.Setting.{Setting}
use Rattle.schema_defs.specs.declared.Setting.TheVariants.{Strict}
use Rattle.schema_defs.specs.declared.InstanceType.{InstanceType}
use Rattle.schema_defs.specs.declared.InstanceType.TheVariants.{Null, Boolean, Object, Array, Number, Text, Integer}
use Rattle.schema_defs.specs.declared.Format.{Format}
use Rattle.schema_defs.specs.Location.{Step, Location, place}
use Rattle.schema_defs.specs.Texts.{Relations}
use Rattle.schema_defs.specs.Schema.{Plain, Schema, boolean, object, Same, no_same, same_value, Lists, no_lists, lists, Named, no_named, named, MaybeSchema, no_schema, the_schema, no_list, the_list, Schemas, no_more, schema, Places, no_items, each_item, by_place, Properties, no_properties, property, ListRules, MemberRules, Document}
use Rattle.schema_defs.specs.Layer.{is_given}
use Rattle.schema_defs.specs.Admits.{target}
use Rattle.schema_defs.proofs.Stand.{none_in, first_in, rest_in, first_or_rest}
use Rattle.schema_defs.proofs.Places.{place-injective}
use Rattle.model_defs.specs.Model.{allow_rule, deny_rule}
use Rattle.model_defs.specs.Layer.{is_null, is_text, is_boolean}
use Rattle.entry_defs.specs.Entry.{Target, unit_entry}
use Rattle.merge_walks.specs.Carried.{Walk}
use Rattle.merge_walks.specs.Samples.{walk_in}
use Rattle.convert_defs.specs.Order.{same_place}
use Rattle.convert_defs.specs.Row.{Part, child, of_branch, lone, made, FieldRow, VariantRow, field_parts, outside_parts, further_parts, body_parts, variants_parts, row_parts, Row, leaf_row, option_row, ruled_row, vec_row, set_row, map_row, refused_row, Finding, noted, plainly, asking, here, narrowed, widened, null_note, string_note, names_note, not_note, bad_value, mixed_enum, nested_enum, bad_array, bad_not, names as names_cause}
use Rattle.convert_defs.specs.Standing.{of_type, less_const, less_types, less_enum, less_reference, alone, no_keyword}
use Rattle.enum_defs.specs.Words.{same_type, without_same, required_of, props_of, is_name, Name}
use Rattle.enum_defs.specs.Shapes.{the_only, is_null_schema, Case, text_case, text_cases, texts_of, may_list_texts, only_property, property_case, or_else, object_shape, is_object_alone, closedness, external_cases, external_shape, InternalShape, internal_shape, AdjacentShape, adjacent_shape, members_of}
use Rattle.enum_defs.specs.Exclusive.{exclusive}
use Rattle.convert_defs.specs.IntegerRow.{note_if}
use Rattle.convert_defs.specs.Scalars.{text_finding, given_format, wanted_of, enumerated, listed_entry, kept_texts, boolean_finding, listed_alone, is_owner, is_number, distinct, texts_in, texts_entry, never_entry, without_nulls}
use Rattle.convert_defs.specs.Owners.{part_at, each_part, listed_parts, unlisted, fixed_row, open_list, is_true, is_by_place, list_notes, sized_finding, fixed_size, array_finding, property_fields, outside_names, outside_row, other_part, struct_of, no_property, is_empty, is_false, is_shut, are_alike, pattern_names, pattern_row, name_part, names_texts, map_of, counts_notes, names_notes, object_finding}
use Rattle.convert_defs.specs.Shapes.{Member, members_from, schemas_of, option_member, external_members, external_rows, case_row, case_rows, case_body, properties_in, less_property, placed_field, fields_beside, body_of_fields, body_of_field, internal_variant, internal_of, internal_members, adjacent_variant, adjacent_of, adjacent_members, TaggedShape}
use Rattle.convert_defs.specs.Table.{Line, lines, first_line, nullable, lists_only_nulls, type_beside_null, beside_null, reference_row, row_of_target, target_of, target_part, schema_part, allowed_row, listed, type_of_listed, has_one_type, no_others, with_type, only_type, type_variant, type_among, of_kinds, variant_order, constant_of, constant_finding, constant_list, finding_of, member_part, subschema_finding, finding_or, all_of_finding, any_of_finding, any_of_others, one_of_finding, one_of_only, one_of_internal, one_of_adjacent, one_of_external, one_of_option, only_member, not_finding, deny, under_not, denied, untagged_row, untagged_variant}
use Rattle.convert_defs.proofs.Bare.{none-some, some-same}
use Rattle.convert_walks.specs.Spot.{Branches, branch_at}
use Rattle.convert_walks.specs.Tree.{if_merged}
use Rattle.depth_laws.specs.Leading.{walk_on, walk_to, AreLedTo, LedToSame, LedToLists, LedToNamed, LedToMaybe, LedToAll, LedToPlaces, LedToNames}
use Rattle.depth_laws.proofs.LedWalks.{GoesOn, AllInside, From, from-next, from-here, from-first}

same-is : (l m : Location) → same_place l m ≡ true → l ≡ m
same-is l m e = (pointwise_decides {E = bytes_eq} bytes_eq-Decides l m).0 e

same-itself : (l : Location) → same_place l l ≡ true
same-itself l = (pointwise_decides {E = bytes_eq} bytes_eq-Decides l l).1 refl

-- ---- branches, each found by its steps

abbrev pub Found : Branches → Type 0
Found ms = (m : Location × Schema) → Contains ms m → branch_at m.0 ms ≡ m.1

no-branch : Found []
no-branch m c = absurd (none_in m c)

-- a member from place i on has the steps of such a place
later-place : (k : Step) (i : ℕ) (us : Schemas) (m : Member) → Contains (members_from k i us) m → (j : ℕ) × (i ≤ j) × (m.0 ≡ k ∷ place j ∷ [])
later-place k i no_more m c = absurd (none_in m c)
later-place k i (schema u us) m c =
    elim (first_or_rest (k ∷ place i ∷ [], u) (members_from k (suc i) us) m c) [
      | inl e ↦ (i, omega arith, ap (λ x. x.0) (sym e))
      | inr g ↦ let r = later-place k (suc i) us m g in (r.0, omega (arith, r.1), r.2)
    ]

abbrev is_none_same : Same → Bool
is_none_same no_same = true
is_none_same (same_value all any one none c) = false

second : Location → Step
second [] = []
second (k ∷ []) = []
second (k ∷ j ∷ ks) = j

all-found : (k : Step) (i : ℕ) (us : Schemas) → Found (members_from k i us)
unfolding place second
all-found k i no_more m c = absurd (none_in m c)
all-found k i (schema u us) m c =
    elim (first_or_rest (k ∷ place i ∷ [], u) (members_from k (suc i) us) m c) [
      | inl e ↦ ap (λ l. branch_at l (members_from k i (schema u us))) (ap (λ x. x.0) (sym e)) ∙ ap (λ b. if b then u else branch_at (k ∷ place i ∷ []) (members_from k (suc i) us)) (same-itself (k ∷ place i ∷ [])) ∙ ap (λ x. x.1) e
      | inr g ↦ by (same_place m.0 (k ∷ place i ∷ [])) refl (later-place k (suc i) us m g) (all-found k (suc i) us m g)
    ]
  where
    by : (b : Bool) → same_place m.0 (k ∷ place i ∷ []) ≡ b → (j : ℕ) × (suc i ≤ j) × (m.0 ≡ k ∷ place j ∷ []) → branch_at m.0 (members_from k (suc i) us) ≡ m.1 → (if b then u else branch_at m.0 (members_from k (suc i) us)) ≡ m.1
    by false e r g = g
    by true e r g = let same : r.0 ≡ i = place-injective r.0 i (ap second (sym r.2 ∙ same-is m.0 (k ∷ place i ∷ []) e)) in absurd (omega (arith, same, r.1))

-- one step or more
abbrev pub HasSteps : Location → Type 0
HasSteps [] = ⊥
HasSteps (k ∷ ks) = Unit {0}

abbrev pub IsObject : Schema → Type 0
IsObject (boolean b) = ⊥
IsObject (object p ss ls ns) = Unit {0}

module _ (d : Document) (W : Walk → Type 0) (on : GoesOn d W) (o : Option Walk) where
  -- by what the schemas inside a member stand
  abbrev pub within : Member → Option Walk
  within m = walk_on (walk_to o m.0) (walk_in m.1)

  abbrev pub BranchesLed : Branches → Type 0
  BranchesLed [] = Unit {0}
  BranchesLed (m ∷ ms) = (HasSteps m.0 × AreLedTo d W (walk_to o m.0) m.1) × BranchesLed ms

  module _ (p : Plain) (ss : Same) (ls : Lists) (ns : Named) where
    -- it has the walk of the schema, or it has none and doesn't merge; and its reference, or none
    abbrev pub IsMadeOf : Schema → Type 0
    IsMadeOf (boolean b) = Unit {0}
    IsMadeOf (object q tt' ms os) = (((q.walk ≡ p.walk) × ((tt' ≡ ss) ⊎ (tt' ≡ no_same))) ⊎ ((q.walk ≡ None) × (q.reference ≡ None) × (tt' ≡ no_same))) × ((q.reference ≡ None) ⊎ (q.reference ≡ p.reference)) × AllInside d W on o tt' ms os

    abbrev pub IsLedPart : Branches → Part → Type 0
    IsLedPart ms (child k t) = HasSteps k × AreLedTo d W (walk_to o k) t
    IsLedPart ms (of_branch k t) = (m : Member) × Contains ms m × (take 2 k ≡ m.0) × IsObject m.1 × HasSteps (drop 2 k) × AreLedTo d W (walk_to (within m) (drop 2 k)) t
    IsLedPart ms (lone k t) = HasSteps k × AreLedTo d W (walk_to o k) t
    IsLedPart ms (made t) = IsMadeOf t

    abbrev pub AreLedParts : Branches → List Part → Type 0
    AreLedParts ms [] = Unit {0}
    AreLedParts ms (q ∷ qs) = IsLedPart ms q × AreLedParts ms qs

    -- members of allOf
    abbrev pub IsLedMember : Part → Type 0
    IsLedMember (child k t) = HasSteps k × AreLedTo d W (walk_to o k) t
    IsLedMember (of_branch k t) = ⊥
    IsLedMember (lone k t) = ⊥
    IsLedMember (made t) = ⊥

    abbrev pub AreLedMembers : List Part → Type 0
    AreLedMembers [] = Unit {0}
    AreLedMembers (q ∷ qs) = IsLedMember q × AreLedMembers qs

    -- the parts of a row that merges: those, or what is made first
    abbrev pub AreMergedLed : List Part → Type 0
    AreMergedLed [] = Unit {0}
    AreMergedLed (made t ∷ qs) = Unit {0}
    AreMergedLed (child k t ∷ qs) = AreLedMembers (child k t ∷ qs)
    AreMergedLed (of_branch k t ∷ qs) = ⊥
    AreMergedLed (lone k t ∷ qs) = ⊥

    -- and it has a reference or subschemas
    abbrev pub IfMergedLed : Option (List Part) → Type 0
    IfMergedLed None = Unit {0}
    IfMergedLed (Some qs) = AreMergedLed qs × (p.reference ≡ None → ss ≡ no_same → ⊥)

    abbrev pub IsLedFinding : Finding → Type 0
    IsLedFinding f = (BranchesLed f.branches × Found f.branches) × AreLedParts f.branches (row_parts f.row) × IfMergedLed (if_merged f.row)

    module _ (inside : AllInside d W on o ss ls ns) where
      abbrev All : Branches → List Part → Type 0
      All = AreLedParts

      both : (ms : Branches) (xs ys : List Part) → All ms xs → All ms ys → All ms (xs ++ ys)
      both ms [] ys h g = g
      both ms (x ∷ xs) ys h g = (h.0, both ms xs ys h.1 g)

      abbrev R : Row → Type 0
      R w = All [] (row_parts w) × IfMergedLed (if_merged w)

      abbrev F : Finding → Type 0
      F f = IsLedFinding f

      if-row : (b : Bool) (w v : Row) → R w → R v → R (if b then w else v)
      if-row true w v h g = h
      if-row false w v h g = g

      if-finding : (b : Bool) (f g : Finding) → F f → F g → F (if b then f else g)
      if-finding true f g h i = h
      if-finding false f g h i = i

      none : BranchesLed [] × Found []
      none = (tt, no-branch)

      -- of a type alone
      fresh : (q : Plain) → q.walk ≡ None → q.reference ≡ None → IsMadeOf (alone q)
      fresh q e f = (inr (e, f, refl), inl f, (tt, tt, tt))

      -- ---- objects

      part-at : (k : Step) (m : MaybeSchema) → LedToMaybe d W (walk_to o (k ∷ [])) m → IsLedPart [] (part_at k m)
      part-at k no_schema h = tt
      part-at k (the_schema t) h = (tt, h)

      fields-led : (st : Setting) (req : List (List ℕ)) (ps : Properties) → LedToNames d W (λ n. walk_to o (codes "properties" ∷ n ∷ [])) ps → All [] (field_parts (property_fields st req ps))
      fields-led st req no_properties h = tt
      fields-led st req (property k t ps) h = ((tt, h.0), fields-led st req ps h.1)

      outside-led : (xs : List (List ℕ)) (rest : MaybeSchema) → LedToMaybe d W (walk_to o (codes "additionalProperties" ∷ [])) rest → All [] (outside_parts (outside_row xs rest))
      outside-led (x ∷ xs) rest h = (part-at (codes "additionalProperties") rest h, tt)
      outside-led [] no_schema h = tt
      outside-led [] (the_schema (boolean b)) h = tt
      outside-led [] (the_schema (object q tt' ms os)) h = ((tt, h), tt)

      name-led : (m : MaybeSchema) → LedToMaybe d W (walk_to o (codes "propertyNames" ∷ [])) m → IsLedPart [] (name_part m)
      name-led no_schema h = fresh (of_type Text no_keyword) refl refl
      name-led (the_schema (boolean b)) h = fresh (of_type Text no_keyword) refl refl
      name-led (the_schema (object q tt' ms os)) h = (tt, h)

      map-led : (rest names : MaybeSchema) → LedToMaybe d W (walk_to o (codes "additionalProperties" ∷ [])) rest → LedToMaybe d W (walk_to o (codes "propertyNames" ∷ [])) names → R (map_of rest names)
      map-led rest names h g = if-row (names_texts names) (map_row (name_part names) (other_part rest)) (refused_row names_cause) ((name-led names g, (part-at (codes "additionalProperties") rest h, tt)), tt) (tt, tt)

      pattern-led : (qs : Properties) → LedToNames d W (λ n. walk_to o (codes "patternProperties" ∷ n ∷ [])) qs → R (pattern_row qs)
      pattern-led no_properties h = (tt, tt)
      pattern-led (property k t qs) h = (((tt, h.0), tt), tt)

      struct-led : (st : Setting) (props : Properties) (rest : MaybeSchema) (rules : MemberRules) → LedToNames d W (λ n. walk_to o (codes "properties" ∷ n ∷ [])) props → LedToMaybe d W (walk_to o (codes "additionalProperties" ∷ [])) rest → All [] (row_parts (struct_of st props rest rules))
      struct-led st props rest rules h g =
          both [] (field_parts (property_fields st rules.required props)) (outside_parts (outside_row (outside_names props rules.required) rest)) (fields-led st rules.required props h) (outside-led (outside_names props rules.required) rest g)

      object-led : (st : Setting) (os : Named) → LedToNamed d W o os → F (object_finding st os)
      object-led st no_named h = (none, (fresh (of_type Text no_keyword) refl refl, (tt, tt)), tt)
      object-led st (named props patterns rest names rules) h =
          if-finding (no_property props && is_empty rules.required && no_property patterns && not (is_false rest)) (noted (counts_notes rules) (map_of rest names))
          (if no_property props && is_empty rules.required && not (is_given names) && is_shut rest && are_alike patterns
          then asking (pattern_names patterns) (noted (counts_notes rules ++ note_if (not (is_given rest)) (here narrowed names_note)) (pattern_row patterns))
          else noted (counts_notes rules ++ names_notes patterns names) (struct_of st props rest rules))
          (none, (map-led rest names h.2 h.3).0, (map-led rest names h.2 h.3).1)
          (if-finding (no_property props && is_empty rules.required && not (is_given names) && is_shut rest && are_alike patterns)
          (asking (pattern_names patterns) (noted (counts_notes rules ++ note_if (not (is_given rest)) (here narrowed names_note)) (pattern_row patterns)))
          (noted (counts_notes rules ++ names_notes patterns names) (struct_of st props rest rules))
          (none, (pattern-led patterns h.1).0, (pattern-led patterns h.1).1) (none, struct-led st props rest rules h.0 h.2, tt))

      -- ---- arrays

      places-led : (i n : ℕ) (f : ℕ → Option Walk) → From o (codes "items") i f → (us : Schemas) → LedToAll d W f us → All [] (listed_parts i n us)
      places-led i zero f e us h = tt
      places-led i (suc n) f e no_more h = tt
      places-led i (suc n) f e (schema t us) h = ((tt, subst (λ u. AreLedTo d W u t) (from-here o (codes "items") i f e) h.0), places-led (suc i) n (λ j. f (suc j)) (from-next o (codes "items") i f e) us h.1)

      further-led : (n : ℕ) (q : Part) → IsLedPart [] q → All [] (further_parts n q)
      further-led zero q h = tt
      further-led (suc n) q h = (h, tt)

      each-led : (m : Places) → LedToPlaces d W o m → IsLedPart [] (each_part m)
      each-led no_items h = tt
      each-led (each_item t) h = (tt, h)
      each-led (by_place us) h = tt

      fixed-led : (n : ℕ) (m : Places) (rest : MaybeSchema) → LedToPlaces d W o m → LedToMaybe d W (walk_to o (codes "additionalItems" ∷ [])) rest → R (fixed_row n m rest)
      fixed-led n no_items rest h g = ((tt, tt), tt)
      fixed-led n (each_item t) rest h g = (((tt, h), tt), tt)
      fixed-led n (by_place us) rest h g =
          (both [] (listed_parts 0 n us) (further_parts (unlisted n us) (part_at (codes "additionalItems") rest)) (places-led 0 n (λ i. walk_to o (codes "items" ∷ place i ∷ [])) (from-first o (codes "items")) us h) (further-led (unlisted n us) (part_at (codes "additionalItems") rest) (part-at (codes "additionalItems") rest g)), tt)

      open-led : (rules : ListRules) (q : Part) → IsLedPart [] q → R (open_list rules q)
      open-led rules q h = if-row (is_true rules.unique_items) (set_row q) (vec_row q) ((h, tt), tt) ((h, tt), tt)

      sized-led : (m : Places) (rest contains : MaybeSchema) (rules : ListRules) (x : Option ℕ) → LedToPlaces d W o m → LedToMaybe d W (walk_to o (codes "additionalItems" ∷ [])) rest → F (sized_finding m rest contains rules x)
      sized-led m rest contains rules (Some n) h g = (none, (fixed-led n m rest h g).0, (fixed-led n m rest h g).1)
      sized-led m rest contains rules None h g =
          if-finding (is_by_place m || is_given contains) (plainly (refused_row bad_array)) (noted (list_notes rules) (open_list rules (each_part m))) (none, tt, tt) (none, (open-led rules (each_part m) (each-led m h)).0, (open-led rules (each_part m) (each-led m h)).1)

      array-led : (ms : Lists) → LedToLists d W o ms → F (array_finding ms)
      array-led no_lists h = (none, (tt, tt), tt)
      array-led (lists m rest contains rules) h = sized-led m rest contains rules (fixed_size rules contains) h.0 h.1

      -- ---- members

      members-led : (k : Step) (i : ℕ) (f : ℕ → Option Walk) → From o k i f → (us : Schemas) → LedToAll d W f us → BranchesLed (members_from k i us)
      members-led k i f e no_more h = tt
      members-led k i f e (schema u us) h = ((tt, subst (λ x. AreLedTo d W x u) (from-here o k i f e) h.0), members-led k (suc i) (λ j. f (suc j)) (from-next o k i f e) us h.1)

      -- each has two steps
      abbrev TwoSteps : List Member → Type 0
      TwoSteps [] = Unit {0}
      TwoSteps (m ∷ ms) = ((l : Location) → (take 2 (m.0 ++ l) ≡ m.0) × (drop 2 (m.0 ++ l) ≡ l)) × TwoSteps ms

      two-steps : (k : Step) (i : ℕ) (us : Schemas) → TwoSteps (members_from k i us)
      two-steps k i no_more = tt
      two-steps k i (schema u us) = ((λ l. (refl, refl)), two-steps k (suc i) us)

      abbrev Within : List Member → List Member → Type 0
      Within ms xs = (m : Member) → Contains xs m → Contains ms m

      rest-within : (ms : List Member) (n : Member) (xs : List Member) → Within ms (n ∷ xs) → Within ms xs
      rest-within ms n xs h m c = h m (rest_in n xs m c)

      left-of : (ms : Branches) (xs ys : List Part) → All ms (xs ++ ys) → All ms xs
      left-of ms [] ys h = tt
      left-of ms (x ∷ xs) ys h = (h.0, left-of ms xs ys h.1)

      right-of : (ms : Branches) (xs ys : List Part) → All ms (xs ++ ys) → All ms ys
      right-of ms [] ys h = h
      right-of ms (x ∷ xs) ys h = right-of ms xs ys h.1

      variants-both : (ms : List Member) (xs ys : List VariantRow) → All ms (variants_parts xs) → All ms (variants_parts ys) → All ms (variants_parts (xs ++ ys))
      variants-both ms [] ys h g = g
      variants-both ms (x ∷ xs) ys h g = both ms (body_parts x.body) (variants_parts (xs ++ ys)) (left-of ms (body_parts x.body) (variants_parts xs) h) (variants-both ms xs ys (right-of ms (body_parts x.body) (variants_parts xs) h) g)

      untagged-led : (ms : List Member) → BranchesLed ms → All [] (variants_parts (map untagged_variant ms))
      untagged-led [] h = tt
      untagged-led (m ∷ ms) h = (h.0, untagged-led ms h.1)

      -- the member that is chosen
      abbrev IfMember : Option Member → Type 0
      IfMember None = Unit {0}
      IfMember (Some m) = HasSteps m.0 × AreLedTo d W (walk_to o m.0) m.1

      filter-led : (f : Member → Bool) (ms : List Member) → BranchesLed ms → BranchesLed (filter f ms)
      filter-led f [] h = tt
      filter-led f (m ∷ ms) h = by (f m) (filter-led f ms h.1)
        where
          by : (b : Bool) → BranchesLed (filter f ms) → BranchesLed (if b then m ∷ filter f ms else filter f ms)
          by true g = (h.0, g)
          by false g = g

      the-only-led : (ms : List Member) → BranchesLed ms → IfMember (the_only ms)
      the-only-led [] h = tt
      the-only-led (m ∷ []) h = h.0
      the-only-led (m ∷ n ∷ ms) h = tt

      only-led : (ms : List Member) → BranchesLed ms → IfMember (only_member ms)
      only-led [] h = tt
      only-led (m ∷ []) h = h.0
      only-led (m ∷ n ∷ ms) h = tt

      option-led : (ms : List Member) → BranchesLed ms → IfMember (option_member ms)
      option-led ms h = by (nat_le 2 (length ms))
        where
          by : (b : Bool) → IfMember (if b then the_only (filter (λ m. not (is_null_schema m.1)) ms) else None)
          by true = the-only-led (filter (λ m. not (is_null_schema m.1)) ms) (filter-led (λ m. not (is_null_schema m.1)) ms h)
          by false = tt

      module _ (ms : List Member) where
        module _ (m : Member) (there : Contains ms m) (two : (l : Location) → (take 2 (m.0 ++ l) ≡ m.0) × (drop 2 (m.0 ++ l) ≡ l)) (led : AreLedTo d W (walk_to o m.0) m.1) where
          -- the walk of a property of the member
          abbrev at : List ℕ → Option Walk
          at n = walk_to (within m) (codes "properties" ∷ n ∷ [])

          members-of : (u : Schema) → AreLedTo d W (walk_to o m.0) u → LedToNamed d W (walk_on (walk_to o m.0) (walk_in u)) (members_of u)
          members-of (boolean b) h = tt
          members-of (object q tt' xs os) h = h.3

          props-of : (z : Option Walk) (os : Named) → LedToNamed d W z os → LedToNames d W (λ n. walk_to z (codes "properties" ∷ n ∷ [])) (props_of os)
          props-of z no_named h = tt
          props-of z (named ps pp x xn c) h = h.0

          placed : (k : List ℕ) (t : Schema) → IsObject m.1 × AreLedTo d W (at k) t → IsLedPart ms (of_branch (m.0 ++ codes "properties" ∷ k ∷ []) t)
          placed k t h = (
            m,
            there,
            (two (codes "properties" ∷ k ∷ [])).0,
            h.0,
            subst (λ l. HasSteps l) (sym (two (codes "properties" ∷ k ∷ [])).1) tt,
            subst (λ l. AreLedTo d W (walk_to (within m) l) t) (sym (two (codes "properties" ∷ k ∷ [])).1) h.1,
          )

          -- properties of a member that is an object
          abbrev PropertiesLed : Properties → Type 0
          PropertiesLed no_properties = Unit {0}
          PropertiesLed (property k t ps) = (IsObject m.1 × AreLedTo d W (at k) t) × PropertiesLed ps

          all-of-object : IsObject m.1 → (ps : Properties) → LedToNames d W at ps → PropertiesLed ps
          all-of-object e no_properties h = tt
          all-of-object e (property k t ps) h = ((e, h.0), all-of-object e ps h.1)

          of-object : (u : Schema) → u ≡ m.1 → LedToNames d W at (properties_in u) → PropertiesLed (properties_in u)
          of-object (boolean b) e h = tt
          of-object (object q tt' xs os) e h = all-of-object (subst IsObject e tt) (props_of os) h

          abbrev ContentLed : List ℕ → Option Schema → Type 0
          ContentLed k None = Unit {0}
          ContentLed k (Some t) = IsObject m.1 × AreLedTo d W (at k) t

          abbrev CasesLed : List Case → Type 0
          CasesLed [] = Unit {0}
          CasesLed (c ∷ cs) = ContentLed c.name c.content × CasesLed cs

          abbrev IfCases : Option (List Case) → Type 0
          IfCases None = Unit {0}
          IfCases (Some cs) = CasesLed cs

          texts-led : (xs : List Name) → CasesLed (map text_case xs)
          texts-led [] = tt
          texts-led (x ∷ xs) = (tt, texts-led xs)

          if-texts : (b : Bool) (x : Option (List Name)) → IfCases (if b then option_map (map text_case) x else None)
          if-texts false x = tt
          if-texts true None = tt
          if-texts true (Some xs) = texts-led xs

          if-either : (x y : Option (List Case)) → IfCases x → IfCases y → IfCases (or_else x y)
          if-either None y h g = g
          if-either (Some cs) y h g = h

          if-property : (c : Bool) (req : List Name) (ps : Properties) → PropertiesLed ps → IfCases (only_property c req ps)
          if-property c req no_properties h = tt
          if-property c req (property k t (property l u ps)) h = tt
          if-property c req (property k t no_properties) h = by (is_name k req)
            where
              by : (b : Bool) → IfCases (if b then Some (record { name = k; content = Some t; closed = c } ∷ []) else None)
              by true = (h.0, tt)
              by false = tt

          if-shape : (b : Bool) (os : Named) (x : Option Bool) → PropertiesLed (props_of os) → IfCases (option_and_then property_case (if b then option_map (λ c. record { object = os; closed = c }) x else None))
          if-shape false os x h = tt
          if-shape true os None h = tt
          if-shape true os (Some c) h = if-property c (required_of os) (props_of os) h

          properties-led : PropertiesLed (properties_in m.1)
          properties-led = of-object m.1 refl (props-of (within m) (members_of m.1) (members-of m.1 led))

          cases-of : IfCases (external_cases m.1)
          cases-of =
              if-either (text_cases m.1) (option_and_then property_case (object_shape m.1)) (if-texts (may_list_texts m.1) (texts_of m.1))
              (if-shape (is_object_alone m.1) (members_of m.1) (closedness (members_of m.1)) properties-led)

          content-led : (k : List ℕ) (x : Option Schema) → ContentLed k x → All ms (body_parts (case_body m.0 k x))
          content-led k None h = tt
          content-led k (Some t) h = (placed k t h, tt)

          cases-led : (cs : List Case) → CasesLed cs → All ms (variants_parts (map (case_row m.0) cs))
          cases-led [] h = tt
          cases-led (c ∷ cs) h = both ms (body_parts (case_body m.0 c.name c.content)) (variants_parts (map (case_row m.0) cs)) (content-led c.name c.content h.0) (cases-led cs h.1)

          if-cases : (x : Option (List Case)) → IfCases x → All ms (variants_parts (case_rows m.0 x))
          if-cases None h = tt
          if-cases (Some cs) h = cases-led cs h

          less-led : (tag : List ℕ) (ps : Properties) → PropertiesLed ps → PropertiesLed (less_property tag ps)
          less-led tag no_properties h = tt
          less-led tag (property k t ps) h = by (bytes_eq tag k) (less-led tag ps h.1)
            where
              by : (b : Bool) → PropertiesLed (less_property tag ps) → PropertiesLed (if b then less_property tag ps else property k t (less_property tag ps))
              by true g = g
              by false g = (h.0, g)

          placed-led : (st : Setting) (req : List (List ℕ)) (ps : Properties) → PropertiesLed ps → All ms (field_parts (map (placed_field m.0) (property_fields st req ps)))
          placed-led st req no_properties h = tt
          placed-led st req (property k t ps) h = (placed k t h.0, placed-led st req ps h.1)

          beside-led : (st : Setting) (tag : List ℕ) → All ms (field_parts (fields_beside st tag m))
          beside-led st tag = placed-led st (required_of (members_of m.1)) (less_property tag (properties_in m.1)) (less-led tag (properties_in m.1) properties-led)

        fields-body : (fs : List FieldRow) → All ms (field_parts fs) → All ms (body_parts (body_of_fields fs))
        fields-body [] h = tt
        fields-body (f ∷ fs) h = h

        field-body : (fs : List FieldRow) → All ms (field_parts fs) → All ms (body_parts (body_of_field fs))
        field-body [] h = tt
        field-body (f ∷ fs) h = (h.0, tt)

        external-led : (xs : List Member) → TwoSteps xs → BranchesLed xs → Within ms xs → All ms (variants_parts (external_rows xs))
        external-led [] h g w = tt
        external-led (n ∷ xs) h g w =
            variants-both ms (case_rows n.0 (external_cases n.1)) (external_rows xs) (if-cases n (w n (first_in n xs)) h.0 g.0.1 (external_cases n.1) (cases-of n (w n (first_in n xs)) h.0 g.0.1)) (external-led xs h.1 g.1 (rest-within ms n xs w))

        internal-led : (st : Setting) (tag : List ℕ) (xs : List Member) → TwoSteps xs → BranchesLed xs → Within ms xs → All ms (variants_parts (map (internal_variant st tag) xs))
        internal-led st tag [] h g w = tt
        internal-led st tag (n ∷ xs) h g w =
            both ms (body_parts (internal_variant st tag n).body) (variants_parts (map (internal_variant st tag) xs)) (fields-body (fields_beside st tag n) (beside-led n (w n (first_in n xs)) h.0 g.0.1 st tag)) (internal-led st tag xs h.1 g.1 (rest-within ms n xs w))

        adjacent-led : (tag : List ℕ) (xs : List Member) → TwoSteps xs → BranchesLed xs → Within ms xs → All ms (variants_parts (map (adjacent_variant tag) xs))
        adjacent-led tag [] h g w = tt
        adjacent-led tag (n ∷ xs) h g w =
            both ms (body_parts (adjacent_variant tag n).body) (variants_parts (map (adjacent_variant tag) xs)) (field-body (fields_beside Strict tag n) (beside-led n (w n (first_in n xs)) h.0 g.0.1 Strict tag)) (adjacent-led tag xs h.1 g.1 (rest-within ms n xs w))

        module _ (two : TwoSteps ms) (led : BranchesLed ms) (found : Found ms) where
          external-found : (ws : List VariantRow) → external_members ms ≡ Some ws → All ms (variants_parts ws)
          external-found ws e = by (external_shape (schemas_of ms)) e
            where
              by : (x : Option (List Case)) → option_map (λ cs. external_rows ms) x ≡ Some ws → All ms (variants_parts ws)
              by None h = none-some ws h
              by (Some cs) h = subst (λ x. All ms (variants_parts x)) (some-same (external_rows ms) ws h) (external-led ms two led (λ m c. c))

          internal-found : (t : TaggedShape) → internal_members d.setting ms ≡ Some t → All ms (variants_parts t.variants)
          internal-found t e = by (internal_shape (schemas_of ms)) e
            where
              by : (x : Option InternalShape) → option_map (internal_of d.setting ms) x ≡ Some t → All ms (variants_parts t.variants)
              by None h = none-some t h
              by (Some x) h = subst (λ y. All ms (variants_parts y.variants)) (some-same (internal_of d.setting ms x) t h) (internal-led d.setting x.tag ms two led (λ m c. c))

          adjacent-found : (t : TaggedShape) → adjacent_members ms ≡ Some t → All ms (variants_parts t.variants)
          adjacent-found t e = by (adjacent_shape (schemas_of ms)) e
            where
              by : (x : Option AdjacentShape) → option_map (adjacent_of ms) x ≡ Some t → All ms (variants_parts t.variants)
              by None h = none-some t h
              by (Some x) h = subst (λ y. All ms (variants_parts y.variants)) (some-same (adjacent_of ms x) t h) (adjacent-led x.tag ms two led (λ m c. c))

          one-of-led : (n : List ℕ) → F (one_of_finding d n ms)
          one-of-led n = optional (option_member ms) (option-led ms led)
            where
              only : (x : Option Member) → IfMember x → F (one_of_only d ms x)
              only (Some m) h = (none, (h, tt), tt)
              only None h = (none, untagged-led ms led, tt)

              internal : (x : Option TaggedShape) → internal_members d.setting ms ≡ x → F (one_of_internal d ms x)
              internal (Some t) e = ((led, found), internal-found t e, tt)
              internal None e = only (only_member ms) (only-led ms led)

              adjacent : (x : Option TaggedShape) → adjacent_members ms ≡ x → F (one_of_adjacent d ms x)
              adjacent (Some t) e = ((led, found), adjacent-found t e, tt)
              adjacent None e = internal (internal_members d.setting ms) refl

              external : (x : Option (List VariantRow)) → external_members ms ≡ x → F (one_of_external d ms x)
              external (Some ws) e = ((led, found), external-found ws e, tt)
              external None e = adjacent (adjacent_members ms) refl

              optional : (x : Option Member) → IfMember x → F (one_of_option d ms x)
              optional (Some m) h = (none, (h, tt), tt)
              optional None h = external (external_members ms) refl

          any-others-led : (n : List ℕ) (x : Option Member) → IfMember x → F (any_of_others d n ms x)
          any-others-led n (Some m) h = (none, (h, tt), tt)
          any-others-led n None h = if-finding (exclusive d (schemas_of ms)) (one_of_finding d n ms) (plainly (untagged_row ms)) (one-of-led n) (none, untagged-led ms led, tt)

      any-of-led : (n : List ℕ) (ms : List Member) → TwoSteps ms → BranchesLed ms → Found ms → F (any_of_finding d n ms)
      any-of-led n [] two h found = (none, tt, tt)
      any-of-led n (m ∷ ms) two h found = any-others-led (m ∷ ms) two h found n (option_member (m ∷ ms)) (option-led (m ∷ ms) h)

      merged-members : (ms : List Member) → BranchesLed ms → AreLedMembers (map member_part ms)
      merged-members [] h = tt
      merged-members (m ∷ ms) h = (h.0, merged-members ms h.1)

      all-of-led : (ms : List Member) → BranchesLed ms → (p.reference ≡ None → ss ≡ no_same → ⊥) → F (all_of_finding ms)
      all-of-led [] h merges = (none, tt, (tt, merges))
      all-of-led (m ∷ []) h merges = (none, (h.0, tt), tt)
      all-of-led (m ∷ l ∷ ms) h merges = (none, tt, (merged-members (m ∷ l ∷ ms) h, merges))

      deny-led : (q : Part) (vs : List Value) → IsLedPart [] q → F (deny q vs)
      deny-led q vs h = if-finding (list_any is_owner vs) (plainly (refused_row nested_enum)) (noted (here narrowed not_note ∷ []) (ruled_row q (deny_rule vs))) (none, tt, tt) (none, (h, tt), tt)

      denied-led : (x : Option InstanceType) (vs : List Value) → F (denied x vs)
      denied-led None vs = (none, tt, tt)
      denied-led (Some k) vs = deny-led (made (alone (of_type k no_keyword))) vs (fresh (of_type k no_keyword) refl refl)

      not-led : (n : List ℕ) (u : Schema) → AreLedTo d W (walk_to o (codes "not" ∷ [])) u → F (not_finding n u)
      not-led n (boolean true) h = (none, tt, tt)
      not-led n (boolean false) h = (none, tt, tt)
      not-led n (object q sq lq nq) h = by (is_none q.types && no_others q lq nq && without_same sq) (has_one_type q.types && is_some q.enum_values) (is_none q.types && is_some q.enum_values && no_others (less_enum q) lq nq && without_same sq)
        where
          by : (a b c : Bool) → F (if a then plainly (leaf_row (never_entry n)) else if b then deny (under_not (object (less_enum q) sq lq nq)) (listed q.enum_values) else if c then denied (type_of_listed (listed q.enum_values)) (listed q.enum_values) else plainly (refused_row bad_not))
          by true b c = (none, tt, tt)
          by false true c = deny-led (under_not (object (less_enum q) sq lq nq)) (listed q.enum_values) (tt, h)
          by false false true = denied-led (type_of_listed (listed q.enum_values)) (listed q.enum_values)
          by false false false = (none, tt, tt)

      same-stands : (x : Same) → x ≡ ss → is_none_same x ≡ false → p.reference ≡ None → ss ≡ no_same → ⊥
      same-stands x e f g h = absurd (true≢false (ap is_none_same (sym h ∙ sym e) ∙ f))

      subschemas-led : (n : List ℕ) (x : Same) → x ≡ ss → LedToSame d W o x → F (finding_or (subschema_finding d n x))
      subschemas-led n (same_value (the_list us) no_list no_list no_schema false) e h =
          all-of-led (members_from (codes "allOf") 0 us) (members-led (codes "allOf") 0 (λ i. walk_to o (codes "allOf" ∷ place i ∷ [])) (from-first o (codes "allOf")) us h.0) (same-stands (same_value (the_list us) no_list no_list no_schema false) e refl)
      subschemas-led n (same_value no_list (the_list us) no_list no_schema false) e h =
          any-of-led n (members_from (codes "anyOf") 0 us) (two-steps (codes "anyOf") 0 us) (members-led (codes "anyOf") 0 (λ i. walk_to o (codes "anyOf" ∷ place i ∷ [])) (from-first o (codes "anyOf")) us h.1) (all-found (codes "anyOf") 0 us)
      subschemas-led n (same_value no_list no_list (the_list us) no_schema false) e h =
          one-of-led (members_from (codes "oneOf") 0 us) (two-steps (codes "oneOf") 0 us) (members-led (codes "oneOf") 0 (λ i. walk_to o (codes "oneOf" ∷ place i ∷ [])) (from-first o (codes "oneOf")) us h.2) (all-found (codes "oneOf") 0 us) n
      subschemas-led n (same_value no_list no_list no_list (the_schema u) false) e h = not-led n u h.3
      subschemas-led n _ e h = (none, tt, tt)

      -- ---- the lines of the table

      module _ (r : Relations) where
        text-led : (x : Option Format) → F (text_finding p x)
        text-led (Some f) = (none, tt, tt)
        text-led None = (none, tt, tt)

        enumerated-led : (vs : List Value) → F (enumerated r p vs)
        enumerated-led vs =
            if-finding (list_all (λ v. is_text v || is_null v) vs) (noted (note_if (list_any is_null vs) (here widened null_note) ++ note_if (is_some (given_format p)) (here widened string_note)) (leaf_row (listed_entry (list_any is_null vs) (wanted_of p) (kept_texts r p.texts vs)))) (plainly (refused_row bad_value)) (none, tt, tt) (none, tt, tt)

        constant-led : (x : Option (List ℕ)) → F (constant_finding r p x)
        constant-led None = (none, tt, tt)
        constant-led (Some t) = enumerated-led (constant_list t p.enum_values)

        boolean-led : (x : Option (List Value)) → F (boolean_finding x)
        boolean-led None = (none, tt, tt)
        boolean-led (Some vs) = (none, tt, tt)

        -- with the same walk, reference and parts
        kept : (q : Plain) → q.walk ≡ p.walk → q.reference ≡ p.reference → IsMadeOf (object q ss ls ns)
        kept q e f = (inl (e, inl refl), inr f, inside)

        nullable-led : (x : Option InstanceType) → R (nullable p ss ls ns x)
        nullable-led None = (tt, tt)
        nullable-led (Some k) = if-row (lists_only_nulls p.enum_values || same_type Null k) (leaf_row unit_entry) (option_row (made (object (beside_null (of_type k p)) ss ls ns))) (tt, tt) ((kept (beside_null (of_type k p)) refl refl, tt), tt)

        reference-led : (x : Option (List ℕ)) → R (reference_row x)
        reference-led None = (tt, tt)
        reference-led (Some q) = by (target_of q)
          where
            by : (u : Option Target) → R (row_of_target u)
            by None = (tt, tt)
            by (Some t) = (tt, tt)

        allowed-led : (vs : List Value) → R (allowed_row (made (object (less_enum p) ss ls ns)) vs)
        allowed-led vs = if-row (list_any is_owner vs) (refused_row nested_enum) (ruled_row (made (object (less_enum p) ss ls ns)) (allow_rule vs)) (tt, tt) ((kept (less_enum p) refl refl, tt), tt)

        listed-led : (vs : List Value) → F (listed_alone p vs)
        listed-led vs = by (list_any is_owner vs) (list_all is_null vs) (list_any is_null vs) (list_all is_text vs) (list_all is_boolean vs) (list_all is_number vs)
          where
            by : (a b c x f g : Bool) → F (if a then plainly (refused_row nested_enum) else if b then plainly (leaf_row (if list_any is_null vs then unit_entry else never_entry (wanted_of p))) else if c then plainly (option_row (made (alone (without_nulls vs p)))) else if x then plainly (leaf_row (texts_entry (wanted_of p) (distinct (texts_in vs)))) else if f then boolean_finding (Some vs) else if g then plainly (ruled_row (made (alone (of_type Integer no_keyword))) (allow_rule vs)) else plainly (refused_row mixed_enum))
            by true b c x f g = (none, tt, tt)
            by false true c x f g = (none, tt, tt)
            by false false true x f g = (none, ((inl (refl, inr refl), inr refl, (tt, tt, tt)), tt), tt)
            by false false false true f g = (none, tt, tt)
            by false false false false true g = (none, tt, tt)
            by false false false false false true = (none, (fresh (of_type Integer no_keyword) refl refl, tt), tt)
            by false false false false false false = (none, tt, tt)

        typed-led : (x : Option InstanceType) → R (with_type p ss ls ns x)
        typed-led None = (tt, tt)
        typed-led (Some k) = ((kept (of_type k p) refl refl, tt), tt)

        kind-led : (k : InstanceType) → IsMadeOf (of_kinds p ls ns k)
        kind-led Null = fresh (of_type Null no_keyword) refl refl
        kind-led Boolean = fresh (of_type Boolean no_keyword) refl refl
        kind-led Object = (inr (refl, refl, refl), inl refl, (tt, tt, inside.2))
        kind-led Array = (inr (refl, refl, refl), inl refl, (tt, inside.1, tt))
        kind-led Number = fresh (of_type Number no_keyword) refl refl
        kind-led Text = (inr (refl, refl, refl), inl refl, (tt, tt, tt))
        kind-led Integer = (inr (refl, refl, refl), inl refl, (tt, tt, tt))

        kinds-led : (f : InstanceType → Bool) (ks : List InstanceType) → All [] (variants_parts (map (type_variant p ls ns) (filter f ks)))
        kinds-led f [] = tt
        kinds-led f (k ∷ ks) = by (f k) (kinds-led f ks)
          where
            by : (b : Bool) → All [] (variants_parts (map (type_variant p ls ns) (filter f ks))) → All [] (variants_parts (map (type_variant p ls ns) (if b then k ∷ filter f ks else filter f ks)))
            by true g = (kind-led k, g)
            by false g = g

        merged-targets : (x : Option (List ℕ)) → AreMergedLed (target_part d x ++ made (object (less_reference p) ss ls ns) ∷ [])
        merged-targets None = tt
        merged-targets (Some q) = by (target d q)
          where
            by : (t : Option Schema) → AreMergedLed (schema_part t ++ made (object (less_reference p) ss ls ns) ∷ [])
            by None = tt
            by (Some t) = tt

        -- a reference stands
        refers : is_some p.reference ≡ true → p.reference ≡ None → ss ≡ no_same → ⊥
        refers e f g = absurd (true≢false (sym e ∙ ap is_some f))

        -- subschemas stand
        has-same : not (without_same ss) ≡ true → p.reference ≡ None → ss ≡ no_same → ⊥
        has-same e f g = absurd (true≢false (sym e ∙ ap (λ x. not (without_same x)) g))

        abbrev Lines : List Line → Type 0
        Lines [] = Unit {0}
        Lines (l ∷ xs) = (l.fits ≡ true → F l.finding) × Lines xs

        first-led : (xs : List Line) → Lines xs → F (first_line xs)
        first-led [] h = (none, tt, tt)
        first-led (l ∷ xs) h = by l.fits refl (first-led xs h.1)
          where
            by : (b : Bool) → l.fits ≡ b → F (first_line xs) → F (if b then l.finding else first_line xs)
            by true e g = h.0 e
            by false e g = g

        row-f : (w : Row) → R w → F (plainly w)
        row-f w h = (none, h.0, h.1)

        lines-led : Lines (lines r d p ss ls ns)
        lines-led = (λ _. (none, tt, tt), (λ _. (none, (nullable-led (type_beside_null p.types)).0, (nullable-led (type_beside_null p.types)).1), (λ _. text-led (given_format p), (λ _. text-led (given_format p), (λ _. enumerated-led (listed p.enum_values), (λ _. constant-led (constant_of p), (λ _. (none, tt, tt), (λ _. boolean-led p.enum_values, (λ _. object-led d.setting ns inside.2, (λ _. object-led d.setting ns inside.2, (λ _. array-led ls inside.1, (λ _. array-led ls inside.1, (λ _. (none, tt, tt), (λ _. (none, tt, tt), (λ _. row-f (reference_row p.reference) (reference-led p.reference), (λ _. row-f (reference_row p.reference) (reference-led p.reference), (λ e. (none, tt, (merged-targets p.reference, refers e)), (λ _. row-f (allowed_row (made (object (less_enum p) ss ls ns)) (listed p.enum_values)) (allowed-led (listed p.enum_values)), (λ _. listed-led (listed p.enum_values), (λ _. subschemas-led (wanted_of p) ss refl inside.0, (λ e. (none, tt, (tt, has-same e)), (λ _. (none, (kept (less_const p) refl refl, tt), tt), (λ _. (none, (kept (less_types p) refl refl, tt), tt), (λ _. row-f (with_type p ss ls ns (only_type p.types)) (typed-led (only_type p.types)), (λ _. (none, kinds-led (λ k. type_among k p.types) variant_order, tt), tt)))))))))))))))))))))))))

        pub finding-led : IsLedFinding (finding_of r d (object p ss ls ns))
        finding-led = first-led (lines r d p ss ls ns) lines-led
