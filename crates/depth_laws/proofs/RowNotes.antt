-- Each note of a row stands at the schema, or at one of its branches.
use Rattle.std.proofs.Common.{◌≡◌, List, [], ◌∷◌, ◌++◌, map, filter, Bool, true, false, ◌&&◌, ◌||◌, not, Option, Some, None, is_none, is_some, ◌⊎◌, inl, inr, refl, ℕ, codes}
use Rattle.std.specs.Prelude.{Contains, if◌then◌else◌}
use Rattle.std.specs.List.{list_all, list_any}
use Rattle.json_value.specs.Value.{Value}
use Rattle.schema_defs.specs.declared.Setting.{Setting}
use Rattle.schema_defs.specs.declared.InstanceType.{InstanceType}
use Rattle.schema_defs.specs.declared.Format.{Format}
use Rattle.schema_defs.specs.Texts.{Relations}
use Rattle.schema_defs.specs.Schema.{Plain, Schema, boolean, object, Same, same_value, Lists, no_lists, lists, Named, no_named, named, MaybeSchema, no_schema, the_schema, no_list, the_list, Places, ListRules, Document}
use Rattle.schema_defs.specs.Layer.{is_given}
use Rattle.schema_defs.proofs.Stand.{first_in, rest_in}
use Rattle.model_defs.specs.Layer.{is_null, is_text, is_boolean}
use Rattle.model_defs.specs.Model.{allow_rule, deny_rule}
use Rattle.entry_defs.specs.Entry.{unit_entry}
use Rattle.enum_defs.specs.Words.{without_same}
use Rattle.enum_defs.specs.Exclusive.{exclusive}
use Rattle.enum_defs.specs.Kinds.{null_free}
use Rattle.convert_defs.specs.Row.{Part, made, Note, Finding, noted, plainly, asking, leaf_row, option_row, ruled_row, refused_row, here, narrowed, widened, null_note, string_note, names_note, not_note, bad_value, mixed_enum, nested_enum, bad_array, bad_not, VariantRow, open_branch_note, overlap_note, mixed_branches_note, tag_alone_note, counts_note, array_note, boolean_note, integer_note, type_note, add_notes}
use Rattle.convert_defs.specs.Standing.{of_type, less_enum, alone, no_keyword}
use Rattle.schema_defs.specs.declared.InstanceType.TheVariants.{Integer}
use Rattle.convert_defs.specs.IntegerRow.{note_if, has_multiple, numbers_or_none, lies_in, in_i64, range_of_plain, admitted_range}
use Rattle.convert_defs.specs.Scalars.{text_finding, given_format, wanted_of, enumerated, listed_entry, kept_texts, boolean_finding, listed_alone, is_owner, is_number, distinct, texts_in, texts_entry, never_entry, without_nulls, lists_both, string_finding}
use Rattle.convert_defs.specs.Owners.{each_part, open_list, is_by_place, list_notes, sized_finding, fixed_size, array_finding, struct_of, no_property, is_empty, is_false, is_shut, are_alike, pattern_names, pattern_row, map_of, counts_notes, names_notes, object_finding, above_zero, is_true}
use Rattle.convert_defs.specs.Shapes.{Member, members_from, schemas_of, option_member, external_members, internal_members, TaggedShape, adjacent_members, is_odd_null}
use Rattle.convert_defs.specs.Table.{Line, lines, first_line, type_of_listed, listed, has_one_type, no_others, constant_of, constant_finding, constant_list, finding_of, subschema_finding, finding_or, all_of_finding, any_of_finding, any_of_others, one_of_finding, one_of_only, one_of_internal, one_of_adjacent, one_of_external, one_of_option, only_member, not_finding, deny, under_not, denied, untagged_row, open_branches, text_branches, is_open_object, is_ruled_text, one_null_member, untyped, lists_no_null}
use Rattle.convert_walks.specs.Spot.{Branches}
use Rattle.depth_laws.proofs.Fit.{IsThere}

module _ (ms : Branches) where
  abbrev pub IsPlaced : Note → Type 0
  IsPlaced n = (n.place ≡ []) ⊎ IsThere ms n.place

  abbrev pub ArePlaced : List Note → Type 0
  ArePlaced [] = Unit {0}
  ArePlaced (n ∷ ns) = IsPlaced n × ArePlaced ns

  both : (xs ys : List Note) → ArePlaced xs → ArePlaced ys → ArePlaced (xs ++ ys)
  both [] ys h g = g
  both (x ∷ xs) ys h g = (h.0, both xs ys h.1 g)

  one : (b : Bool) (n : Note) → n.place ≡ [] → ArePlaced (note_if b n)
  one true n e = (inl e, tt)
  one false n e = tt

  two : (b c : Bool) (n m : Note) → n.place ≡ [] → m.place ≡ [] → ArePlaced (note_if b n ++ note_if c m)
  two b c n m e f = both (note_if b n) (note_if c m) (one b n e) (one c m f)

abbrev pub NotesStand : Finding → Type 0
NotesStand f = ArePlaced f.branches f.notes

choose : (b : Bool) (f g : Finding) → NotesStand f → NotesStand g → NotesStand (if b then f else g)
choose true f g h i = h
choose false f g h i = i

-- ---- members

module _ (d : Document) where
  abbrev Within : List Member → List Member → Type 0
  Within ms xs = (m : Member) → Contains xs m → Contains ms m

  open-stand : (ms xs : List Member) → Within ms xs → ArePlaced ms (open_branches xs)
  open-stand ms [] w = tt
  open-stand ms (x ∷ xs) w = by (is_open_object x) (open-stand ms xs (λ m c. w m (rest_in x xs m c)))
    where
      by : (b : Bool) → ArePlaced ms (open_branches xs) → ArePlaced ms (map (λ m. record { way = narrowed; kind = open_branch_note; place = m.0 }) (if b then x ∷ filter is_open_object xs else filter is_open_object xs))
      by true g = (inr (x, w x (first_in x xs), refl), g)
      by false g = g

  text-stand : (ms xs : List Member) → Within ms xs → ArePlaced ms (text_branches xs)
  text-stand ms [] w = tt
  text-stand ms (x ∷ xs) w = by (is_ruled_text x) (text-stand ms xs (λ m c. w m (rest_in x xs m c)))
    where
      by : (b : Bool) → ArePlaced ms (text_branches xs) → ArePlaced ms (map (λ m. record { way = widened; kind = string_note; place = m.0 }) (if b then x ∷ filter is_ruled_text xs else filter is_ruled_text xs))
      by true g = (inr (x, w x (first_in x xs), refl), g)
      by false g = g

  module _ (ms : List Member) where
    one-of-stands : (n : List ℕ) → NotesStand (one_of_finding d n ms)
    one-of-stands n = optional (option_member ms)
      where
        only : (x : Option Member) → NotesStand (one_of_only d ms x)
        only (Some m) = tt
        only None = one [] (not (exclusive d (schemas_of ms))) (here widened overlap_note) refl

        internal : (x : Option TaggedShape) → NotesStand (one_of_internal d ms x)
        internal (Some t) = two ms t.mixed t.alone (here narrowed mixed_branches_note) (here narrowed tag_alone_note) refl refl
        internal None = only (only_member ms)

        adjacent : (x : Option TaggedShape) → NotesStand (one_of_adjacent d ms x)
        adjacent (Some t) = two ms t.mixed t.alone (here narrowed mixed_branches_note) (here narrowed tag_alone_note) refl refl
        adjacent None = internal (internal_members d.setting ms)

        external : (x : Option (List VariantRow)) → NotesStand (one_of_external d ms x)
        external (Some ws) = both ms (open_branches ms) (text_branches ms) (open-stand ms ms (λ m c. c)) (text-stand ms ms (λ m c. c))
        external None = adjacent (adjacent_members ms)

        optional : (x : Option Member) → NotesStand (one_of_option d ms x)
        optional (Some m) = two [] (list_any is_odd_null ms) (not (null_free d m.1) || not (one_null_member ms)) (here widened null_note) (here widened null_note) refl refl
        optional None = external (external_members ms)

    any-others-stand : (n : List ℕ) (x : Option Member) → NotesStand (any_of_others d n ms x)
    any-others-stand n (Some m) = one [] (list_any is_odd_null ms) (here widened null_note) refl
    any-others-stand n None = choose (exclusive d (schemas_of ms)) (one_of_finding d n ms) (plainly (untagged_row ms)) (one-of-stands n) tt

  any-of-stands : (n : List ℕ) (ms : List Member) → NotesStand (any_of_finding d n ms)
  any-of-stands n [] = tt
  any-of-stands n (m ∷ ms) = any-others-stand (m ∷ ms) n (option_member (m ∷ ms))

  all-of-stands : (ms : List Member) → NotesStand (all_of_finding ms)
  all-of-stands [] = tt
  all-of-stands (m ∷ []) = tt
  all-of-stands (m ∷ l ∷ ms) = tt

  deny-stands : (q : Part) (vs : List Value) → NotesStand (deny q vs)
  deny-stands q vs = choose (list_any is_owner vs) (plainly (refused_row nested_enum)) (noted (here narrowed not_note ∷ []) (ruled_row q (deny_rule vs))) tt (inl refl, tt)

  denied-stands : (x : Option InstanceType) (vs : List Value) → NotesStand (denied x vs)
  denied-stands None vs = tt
  denied-stands (Some k) vs = deny-stands (made (alone (of_type k no_keyword))) vs

  not-stands : (n : List ℕ) (u : Schema) → NotesStand (not_finding n u)
  not-stands n (boolean true) = tt
  not-stands n (boolean false) = tt
  not-stands n (object q sq lq nq) = by (is_none q.types && no_others q lq nq && without_same sq) (has_one_type q.types && is_some q.enum_values) (is_none q.types && is_some q.enum_values && no_others (less_enum q) lq nq && without_same sq)
    where
      by : (a b c : Bool) → NotesStand (if a then plainly (leaf_row (never_entry n)) else if b then deny (under_not (object (less_enum q) sq lq nq)) (listed q.enum_values) else if c then denied (type_of_listed (listed q.enum_values)) (listed q.enum_values) else plainly (refused_row bad_not))
      by true b c = tt
      by false true c = deny-stands (under_not (object (less_enum q) sq lq nq)) (listed q.enum_values)
      by false false true = denied-stands (type_of_listed (listed q.enum_values)) (listed q.enum_values)
      by false false false = tt

  subschemas-stand : (n : List ℕ) (x : Same) → NotesStand (finding_or (subschema_finding d n x))
  subschemas-stand n (same_value (the_list us) no_list no_list no_schema false) = all-of-stands (members_from (codes "allOf") 0 us)
  subschemas-stand n (same_value no_list (the_list us) no_list no_schema false) = any-of-stands n (members_from (codes "anyOf") 0 us)
  subschemas-stand n (same_value no_list no_list (the_list us) no_schema false) = one-of-stands (members_from (codes "oneOf") 0 us) n
  subschemas-stand n (same_value no_list no_list no_list (the_schema u) false) = not-stands n u
  subschemas-stand n _ = tt

  -- ---- objects and arrays

  object-stands : (st : Setting) (os : Named) → NotesStand (object_finding st os)
  object-stands st no_named = tt
  object-stands st (named props patterns rest names rules) =
      choose (no_property props && is_empty rules.required && no_property patterns && not (is_false rest)) (noted (counts_notes rules) (map_of rest names))
      (if no_property props && is_empty rules.required && not (is_given names) && is_shut rest && are_alike patterns
      then asking (pattern_names patterns) (noted (counts_notes rules ++ note_if (not (is_given rest)) (here narrowed names_note)) (pattern_row patterns))
      else noted (counts_notes rules ++ names_notes patterns names) (struct_of st props rest rules))
      counts
      (choose (no_property props && is_empty rules.required && not (is_given names) && is_shut rest && are_alike patterns)
      (asking (pattern_names patterns) (noted (counts_notes rules ++ note_if (not (is_given rest)) (here narrowed names_note)) (pattern_row patterns)))
      (noted (counts_notes rules ++ names_notes patterns names) (struct_of st props rest rules))
      (both [] (counts_notes rules) (note_if (not (is_given rest)) (here narrowed names_note)) counts (one [] (not (is_given rest)) (here narrowed names_note) refl))
      (both [] (counts_notes rules) (names_notes patterns names) counts
      (two [] (is_given names || not (no_property patterns)) (not (no_property patterns)) (here widened names_note) (here narrowed names_note) refl refl)))
    where
      counts : ArePlaced [] (counts_notes rules)
      counts = one [] (above_zero rules.min_properties || is_some rules.max_properties) (here widened counts_note) refl

  sized-stands : (m : Places) (rest contains : MaybeSchema) (rules : ListRules) (x : Option ℕ) → NotesStand (sized_finding m rest contains rules x)
  sized-stands m rest contains rules (Some n) = tt
  sized-stands m rest contains rules None =
      choose (is_by_place m || is_given contains) (plainly (refused_row bad_array)) (noted (list_notes rules) (open_list rules (each_part m))) tt
      (one [] (is_true rules.unique_items || above_zero rules.min_items || is_some rules.max_items) (here widened array_note) refl)

  array-stands : (ls : Lists) → NotesStand (array_finding ls)
  array-stands no_lists = tt
  array-stands (lists m rest contains rules) = sized-stands m rest contains rules (fixed_size rules contains)

  -- ---- the lines of the table

  module _ (r : Relations) (p : Plain) (ss : Same) (ls : Lists) (ns : Named) where
    text-stands : (x : Option Format) → NotesStand (text_finding p x)
    text-stands (Some f) = one [] (is_some p.texts) (here widened string_note) refl
    text-stands None = tt

    enumerated-stands : (vs : List Value) → NotesStand (enumerated r p vs)
    enumerated-stands vs =
        choose (list_all (λ v. is_text v || is_null v) vs) (noted (note_if (list_any is_null vs) (here widened null_note) ++ note_if (is_some (given_format p)) (here widened string_note)) (leaf_row (listed_entry (list_any is_null vs) (wanted_of p) (kept_texts r p.texts vs)))) (plainly (refused_row bad_value))
        (two [] (list_any is_null vs) (is_some (given_format p)) (here widened null_note) (here widened string_note) refl refl) tt

    constant-stands : (x : Option (List ℕ)) → NotesStand (constant_finding r p x)
    constant-stands None = tt
    constant-stands (Some t) = enumerated-stands (constant_list t p.enum_values)

    boolean-stands : (x : Option (List Value)) → NotesStand (boolean_finding x)
    boolean-stands None = tt
    boolean-stands (Some vs) = one [] (not (lists_both vs)) (here widened boolean_note) refl

    listed-stands : (vs : List Value) → NotesStand (listed_alone p vs)
    listed-stands vs = by (list_any is_owner vs) (list_all is_null vs) (list_any is_null vs) (list_all is_text vs) (list_all is_boolean vs) (list_all is_number vs)
      where
        by : (a b c x f g : Bool) → NotesStand (if a then plainly (refused_row nested_enum) else if b then plainly (leaf_row (if list_any is_null vs then unit_entry else never_entry (wanted_of p))) else if c then plainly (option_row (made (alone (without_nulls vs p)))) else if x then plainly (leaf_row (texts_entry (wanted_of p) (distinct (texts_in vs)))) else if f then boolean_finding (Some vs) else if g then plainly (ruled_row (made (alone (of_type Integer no_keyword))) (allow_rule vs)) else plainly (refused_row mixed_enum))
        by true b c x f g = tt
        by false true c x f g = tt
        by false false true x f g = tt
        by false false false true f g = tt
        by false false false false true g = boolean-stands (Some vs)
        by false false false false false true = tt
        by false false false false false false = tt

    abbrev Lines : List Line → Type 0
    Lines [] = Unit {0}
    Lines (l ∷ xs) = NotesStand l.finding × Lines xs

    first-stands : (xs : List Line) → Lines xs → NotesStand (first_line xs)
    first-stands [] h = tt
    first-stands (l ∷ xs) h = choose l.fits l.finding (first_line xs) h.0 (first-stands xs h.1)

    -- after the note that there is no type
    after-untyped : (f : Finding) → NotesStand f → NotesStand (add_notes untyped f)
    after-untyped f h = (inl refl, h)

    lines-stand : Lines (lines r d p ss ls ns)
    lines-stand = (tt, (one [] (is_some p.const_value || is_some p.reference || not (without_same ss) || lists_no_null p.enum_values) (here widened null_note) refl, (text-stands (given_format p), (after-untyped (string_finding p) (text-stands (given_format p)), (enumerated-stands (listed p.enum_values), (constant-stands (constant_of p), (two [] (has_multiple (numbers_or_none p.numbers) || not (lies_in (in_i64 (range_of_plain p)) (admitted_range p))) (not (lies_in (admitted_range p) (in_i64 (range_of_plain p)))) (here widened integer_note) (here narrowed integer_note) refl refl, (boolean-stands p.enum_values, (object-stands d.setting ns, (after-untyped (object_finding d.setting ns) (object-stands d.setting ns), (array-stands ls, (after-untyped (array_finding ls) (array-stands ls), (tt, (tt, (tt, (tt, (tt, (tt, (listed-stands (listed p.enum_values), (both (finding_or (subschema_finding d (wanted_of p) ss)).branches (note_if (is_some p.types) (here widened type_note)) (finding_or (subschema_finding d (wanted_of p) ss)).notes (one (finding_or (subschema_finding d (wanted_of p) ss)).branches (is_some p.types) (here widened type_note) refl) (subschemas-stand (wanted_of p) ss), (tt, ((inl refl, tt), (tt, (tt, (tt, tt)))))))))))))))))))))))))

  pub notes-stand : (r : Relations) (s : Schema) → NotesStand (finding_of r d s)
  notes-stand r (boolean true) = tt
  notes-stand r (boolean false) = tt
  notes-stand r (object p ss ls ns) = first-stands r p ss ls ns (lines r d p ss ls ns) (lines-stand r p ss ls ns)
