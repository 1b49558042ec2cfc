-- Which rows of the table merge: that of a reference with others, that of a lone allOf, and that of subschemas beside other keywords.
use Rattle.std.proofs.Common.{◌≡◌, ℕ, List, [], ◌∷◌, ◌++◌, map, Bool, true, false, ◌&&◌, ◌||◌, not, Option, Some, None, is_some, refl, sym, ◌∙◌, subst, codes, true≢false}
use Rattle.std.specs.Prelude.{if◌then◌else◌}
use Rattle.std.specs.List.{list_all, list_any}
use Rattle.json_value.specs.Value.{Value}
use Rattle.schema_defs.specs.declared.Setting.{Setting}
use Rattle.schema_defs.specs.declared.InstanceType.{InstanceType}
use Rattle.schema_defs.specs.declared.InstanceType.TheVariants.{Null, Integer}
use Rattle.schema_defs.specs.declared.Format.{Format}
use Rattle.schema_defs.specs.Texts.{Relations}
use Rattle.schema_defs.specs.Schema.{Plain, Schema, boolean, object, Same, no_same, same_value, Lists, no_lists, lists, Named, no_named, named, MaybeSchema, no_schema, the_schema, no_list, the_list, Schemas, no_more, schema, Places, no_items, each_item, by_place, Properties, no_properties, property, Document}
use Rattle.model_defs.specs.Model.{allow_rule, deny_rule}
use Rattle.model_defs.specs.Layer.{is_null, is_text, is_boolean}
use Rattle.entry_defs.specs.Entry.{Target, unit_entry}
use Rattle.enum_defs.specs.Words.{same_type}
use Rattle.enum_defs.specs.Exclusive.{exclusive}
use Rattle.convert_defs.specs.Row.{Note, add_notes, type_note, Part, made, VariantRow, Row, leaf_row, option_row, ruled_row, vec_row, set_row, map_row, refused_row, mixed_enum, nested_enum, bad_value, bad_array, bad_not, names as names_cause, Finding, noted, plainly, asking, here, narrowed, widened, null_note, string_note, names_note, not_note}
use Rattle.convert_defs.specs.IntegerRow.{note_if}
use Rattle.convert_defs.specs.Standing.{of_type, less_enum, alone, no_keyword}
use Rattle.convert_defs.specs.Scalars.{text_finding, string_finding, given_format, wanted_of, enumerated, listed_entry, kept_texts, boolean_finding, listed_alone, is_owner, is_number, distinct, texts_in, texts_entry, never_entry, without_nulls}
use Rattle.convert_defs.specs.Owners.{each_part, fixed_row, fixed_size, open_list, is_true, is_by_place, list_notes, sized_finding, array_finding, name_part, other_part, names_texts, map_of, counts_notes, names_notes, are_alike, is_shut, is_false, no_property, is_empty, pattern_names, pattern_row, struct_of, object_finding}
use Rattle.schema_defs.specs.Layer.{is_given}
use Rattle.convert_defs.specs.Shapes.{Member, members_from, schemas_of, option_member, external_members, adjacent_members, internal_members, TaggedShape}
use Rattle.convert_defs.specs.Table.{Line, lines, first_line, nullable, type_beside_null, lists_only_nulls, beside_null, reference_row, row_of_target, target_of, allowed_row, listed, with_type, only_type, constant_of, constant_list, constant_finding, member_part, untagged_row, one_of_only, one_of_internal, one_of_adjacent, one_of_external, one_of_option, one_of_finding, only_member, any_of_others, any_of_finding, all_of_finding, deny, denied, type_of_listed, under_not, not_finding, no_others, subschema_finding, finding_or}
use Rattle.convert_defs.proofs.Bare.{and_right, none-some, some-same}
use Rattle.convert_walks.specs.Tree.{if_merged}
use Rattle.merging_laws.specs.Laws.{lone_all_of, MergesAs, by_target, by_body, by_members, RowsThatMerge}

-- ---- rows that do not merge

abbrev Unmerged : Row → Type 0
Unmerged w = if_merged w ≡ None

nullable-un : (p : Plain) (ss : Same) (ls : Lists) (ns : Named) (k : Option InstanceType) → Unmerged (nullable p ss ls ns k)
nullable-un p ss ls ns None = refl
nullable-un p ss ls ns (Some k) = by (lists_only_nulls p.enum_values || same_type Null k)
  where
    by : (b : Bool) → Unmerged (if b then leaf_row unit_entry else option_row (made (object (beside_null (of_type k p)) ss ls ns)))
    by true = refl
    by false = refl

text-un : (p : Plain) (f : Option Format) → Unmerged (text_finding p f).row
text-un p None = refl
text-un p (Some f) = refl

enumerated-un : (r : Relations) (p : Plain) (vs : List Value) → Unmerged (enumerated r p vs).row
enumerated-un r p vs = by (list_all (λ v. is_text v || is_null v) vs)
  where
    by : (b : Bool) → Unmerged (if b then noted (note_if (list_any is_null vs) (here widened null_note) ++ note_if (is_some (given_format p)) (here widened string_note)) (leaf_row (listed_entry (list_any is_null vs) (wanted_of p) (kept_texts r p.texts vs))) else plainly (refused_row bad_value)).row
    by true = refl
    by false = refl

constant-un : (r : Relations) (p : Plain) (s : Option (List ℕ)) → Unmerged (constant_finding r p s).row
constant-un r p None = refl
constant-un r p (Some s) = enumerated-un r p (constant_list s p.enum_values)

boolean-un : (vs : Option (List Value)) → Unmerged (boolean_finding vs).row
boolean-un None = refl
boolean-un (Some vs) = refl

map-un : (rest names : MaybeSchema) → Unmerged (map_of rest names)
map-un rest names = by (names_texts names)
  where
    by : (b : Bool) → Unmerged (if b then map_row (name_part names) (other_part rest) else refused_row names_cause)
    by true = refl
    by false = refl

pattern-un : (ps : Properties) → Unmerged (pattern_row ps)
pattern-un no_properties = refl
pattern-un (property k s ps) = refl

object-un : (st : Setting) (ns : Named) → Unmerged (object_finding st ns).row
object-un st no_named = refl
object-un st (named props patterns rest names rules) = by (no_property props && is_empty rules.required && no_property patterns && not (is_false rest)) (no_property props && is_empty rules.required && not (is_given names) && is_shut rest && are_alike patterns)
  where
    by : (a b : Bool) → Unmerged (if a then noted (counts_notes rules) (map_of rest names) else if b then asking (pattern_names patterns) (noted (counts_notes rules ++ note_if (not (is_given rest)) (here narrowed names_note)) (pattern_row patterns)) else noted (counts_notes rules ++ names_notes patterns names) (struct_of st props rest rules)).row
    by true b = map-un rest names
    by false true = pattern-un patterns
    by false false = refl

fixed-un : (n : ℕ) (m : Places) (rest : MaybeSchema) → Unmerged (fixed_row n m rest)
fixed-un n no_items rest = refl
fixed-un n (each_item s) rest = refl
fixed-un n (by_place ss) rest = refl

array-un : (ls : Lists) → Unmerged (array_finding ls).row
array-un no_lists = refl
array-un (lists places rest contains rules) = sized (fixed_size rules contains)
  where
    open-un : (b : Bool) → Unmerged (if b then set_row (each_part places) else vec_row (each_part places))
    open-un true = refl
    open-un false = refl

    opened : (b : Bool) → Unmerged (if b then plainly (refused_row bad_array) else noted (list_notes rules) (open_list rules (each_part places))).row
    opened true = refl
    opened false = open-un (is_true rules.unique_items)

    sized : (o : Option ℕ) → Unmerged (sized_finding places rest contains rules o).row
    sized (Some n) = fixed-un n places rest
    sized None = opened (is_by_place places || is_given contains)

reference-un : (q : Option (List ℕ)) → Unmerged (reference_row q)
reference-un None = refl
reference-un (Some q) = by (target_of q)
  where
    by : (t : Option Target) → Unmerged (row_of_target t)
    by None = refl
    by (Some t) = refl

allowed-un : (x : Part) (vs : List Value) → Unmerged (allowed_row x vs)
allowed-un x vs = by (list_any is_owner vs)
  where
    by : (b : Bool) → Unmerged (if b then refused_row nested_enum else ruled_row x (allow_rule vs))
    by true = refl
    by false = refl

listed-un : (p : Plain) (vs : List Value) → Unmerged (listed_alone p vs).row
listed-un p vs = by (list_any is_owner vs) (list_all is_null vs) (list_any is_null vs) (list_all is_text vs) (list_all is_boolean vs) (list_all is_number vs)
  where
    by : (a b c e f g : Bool) → Unmerged (
        if a then plainly (refused_row nested_enum)
        else if b then plainly (leaf_row (if c then unit_entry else never_entry (wanted_of p)))
        else if c then plainly (option_row (made (alone (without_nulls vs p))))
        else if e then plainly (leaf_row (texts_entry (wanted_of p) (distinct (texts_in vs))))
        else if f then boolean_finding (Some vs)
        else if g then plainly (ruled_row (made (alone (of_type Integer no_keyword))) (allow_rule vs))
        else plainly (refused_row mixed_enum)).row
    by true b c e f g = refl
    by false true c e f g = refl
    by false false true e f g = refl
    by false false false true f g = refl
    by false false false false true g = refl
    by false false false false false true = refl
    by false false false false false false = refl

-- ---- subschemas

one-un : (d : Document) (name : List ℕ) (ms : List Member) → Unmerged (one_of_finding d name ms).row
one-un d name ms = option (option_member ms)
  where
    only : (o : Option Member) → Unmerged (one_of_only d ms o).row
    only None = refl
    only (Some m) = refl

    internal : (o : Option TaggedShape) → Unmerged (one_of_internal d ms o).row
    internal None = only (only_member ms)
    internal (Some t) = refl

    adjacent : (o : Option TaggedShape) → Unmerged (one_of_adjacent d ms o).row
    adjacent None = internal (internal_members d.setting ms)
    adjacent (Some t) = refl

    external : (o : Option (List VariantRow)) → Unmerged (one_of_external d ms o).row
    external None = adjacent (adjacent_members ms)
    external (Some ws) = refl

    option : (o : Option Member) → Unmerged (one_of_option d ms o).row
    option None = external (external_members ms)
    option (Some m) = refl

any-un : (d : Document) (name : List ℕ) (ms : List Member) → Unmerged (any_of_finding d name ms).row
any-un d name [] = refl
any-un d name (m ∷ ms) = by (option_member (m ∷ ms))
  where
    apart : (b : Bool) → Unmerged (if b then one_of_finding d name (m ∷ ms) else plainly (untagged_row (m ∷ ms))).row
    apart true = one-un d name (m ∷ ms)
    apart false = refl

    by : (o : Option Member) → Unmerged (any_of_others d name (m ∷ ms) o).row
    by None = apart (exclusive d (schemas_of (m ∷ ms)))
    by (Some x) = refl

deny-un : (x : Part) (vs : List Value) → Unmerged (deny x vs).row
deny-un x vs = by (list_any is_owner vs)
  where
    by : (b : Bool) → Unmerged (if b then plainly (refused_row nested_enum) else noted (here narrowed not_note ∷ []) (ruled_row x (deny_rule vs))).row
    by true = refl
    by false = refl

denied-un : (k : Option InstanceType) (vs : List Value) → Unmerged (denied k vs).row
denied-un None vs = refl
denied-un (Some k) vs = deny-un (made (alone (of_type k no_keyword))) vs

not-un : (name : List ℕ) (s : Schema) → Unmerged (not_finding name s).row
not-un name (boolean true) = refl
not-un name (boolean false) = refl
not-un name (object p ss ls ns) = by _ _ _
  where
    by : (a b c : Bool) → Unmerged (
        if a then plainly (leaf_row (never_entry name))
        else if b then deny (under_not (object (less_enum p) ss ls ns)) (listed p.enum_values)
        else if c then denied (type_of_listed (listed p.enum_values)) (listed p.enum_values)
        else plainly (refused_row bad_not)).row
    by true b c = refl
    by false true c = deny-un (under_not (object (less_enum p) ss ls ns)) (listed p.enum_values)
    by false false true = denied-un (type_of_listed (listed p.enum_values)) (listed p.enum_values)
    by false false false = refl

with_type-un : (p : Plain) (ss : Same) (ls : Lists) (ns : Named) (k : Option InstanceType) → Unmerged (with_type p ss ls ns k)
with_type-un p ss ls ns None = refl
with_type-un p ss ls ns (Some k) = refl

none-of : {A : Type 0} (o : Option A) → is_some o ≡ false → o ≡ None
none-of None h = refl
none-of (Some x) h = absurd (true≢false h)

-- ---- the lines

module _ (r : Relations) (d : Document) (p : Plain) (ss : Same) (ls : Lists) (ns : Named) where
  abbrev Holds : Finding → Type 0
  Holds f = (ps : List Part) → if_merged f.row ≡ Some ps → MergesAs p ss ls ns f.notes ps

  none : {m : List Note} (ps : List Part) → None ≡ Some ps → MergesAs p ss ls ns m ps
  none ps h = none-some ps h

  un : {m : List Note} (w : Row) → Unmerged w → (ps : List Part) → if_merged w ≡ Some ps → MergesAs p ss ls ns m ps
  un w u ps h = none-some ps (sym u ∙ h)

  -- a line is taken where it fits, and those behind it where it does not
  abbrev AllHold : List Line → Type 0
  AllHold [] = Unit {0}
  AllHold (l ∷ rest) = (l.fits ≡ true → Holds l.finding) × (l.fits ≡ false → AllHold rest)

  first-holds : (rest : List Line) → AllHold rest → Holds (first_line rest)
  first-holds [] h = none
  first-holds (l ∷ rest) h = by l.fits h.0 (λ f. first-holds rest (h.1 f))
    where
      by : (b : Bool) → (b ≡ true → Holds l.finding) → (b ≡ false → Holds (first_line rest)) → Holds (if b then l.finding else first_line rest)
      by true f g = f refl
      by false f g = g refl

  target-holds : {m : List Note} (o : Option (List ℕ)) → p.reference ≡ o → is_some o ≡ true → (ps : List Part) → MergesAs p ss ls ns m ps
  target-holds None e h ps = absurd (true≢false (sym h))
  target-holds (Some q) e h ps = by_target q e

  module _ (n : p.reference ≡ None) (others : no_others p ls ns ≡ true) where
    abbrev Noted : Finding → Type 0
    Noted f = Holds (add_notes (note_if (is_some p.types) (here widened type_note)) f)

    all-holds : (us : Schemas) → ss ≡ lone_all_of us → Noted (all_of_finding (members_from (codes "allOf") 0 us))
    all-holds no_more e ps h = by_members no_more n e (sym (some-same (map member_part (members_from (codes "allOf") 0 no_more)) ps h)) others refl
    all-holds (schema u no_more) e ps h = none-some ps h
    all-holds (schema u (schema w us)) e ps h = by_members (schema u (schema w us)) n e (sym (some-same (map member_part (members_from (codes "allOf") 0 (schema u (schema w us)))) ps h)) others refl

    sub-holds : (x : Same) → ss ≡ x → (f : Finding) → subschema_finding d (wanted_of p) x ≡ Some f → Noted f
    sub-holds (same_value (the_list us) no_list no_list no_schema false) e f h = subst Noted (some-same _ f h) (all-holds us e)
    sub-holds (same_value no_list (the_list us) no_list no_schema false) e f h = subst Noted (some-same _ f h) (un (any_of_finding d (wanted_of p) (members_from (codes "anyOf") 0 us)).row (any-un d (wanted_of p) (members_from (codes "anyOf") 0 us)))
    sub-holds (same_value no_list no_list (the_list us) no_schema false) e f h = subst Noted (some-same _ f h) (un (one_of_finding d (wanted_of p) (members_from (codes "oneOf") 0 us)).row (one-un d (wanted_of p) (members_from (codes "oneOf") 0 us)))
    sub-holds (same_value no_list no_list no_list (the_schema s) false) e f h = subst Noted (some-same _ f h) (un (not_finding (wanted_of p) s).row (not-un (wanted_of p) s))
    sub-holds _ e f h = none-some f h

    found-holds : (o : Option Finding) → subschema_finding d (wanted_of p) ss ≡ o → Noted (finding_or o)
    found-holds None e = none
    found-holds (Some f) e = sub-holds ss refl f e

  all-hold : AllHold (lines r d p ss ls ns)
  all-hold = (
    (λ t. none),
    λ f. (
      (λ t. un (nullable p ss ls ns (type_beside_null p.types)) (nullable-un p ss ls ns (type_beside_null p.types))),
      λ f. (
        (λ t. un (string_finding p).row (text-un p (given_format p))),
        λ f. (
          (λ t. un (string_finding p).row (text-un p (given_format p))),
          λ f. (
            (λ t. un (enumerated r p (listed p.enum_values)).row (enumerated-un r p (listed p.enum_values))),
            λ f. (
              (λ t. un (constant_finding r p (constant_of p)).row (constant-un r p (constant_of p))),
              λ f. (
                (λ t. none),
                λ f. (
                  (λ t. un (boolean_finding p.enum_values).row (boolean-un p.enum_values)),
                  λ f. (
                    (λ t. un (object_finding d.setting ns).row (object-un d.setting ns)),
                    λ f. (
                      (λ t. un (object_finding d.setting ns).row (object-un d.setting ns)),
                      λ f. (
                        (λ t. un (array_finding ls).row (array-un ls)),
                        λ f. (
                          (λ t. un (array_finding ls).row (array-un ls)),
                          λ f. (
                            (λ t. none),
                            λ f. (
                              (λ t. none),
                              λ f. (
                                (λ t. un (reference_row p.reference) (reference-un p.reference)),
                                λ f. (
                                  (λ t. un (reference_row p.reference) (reference-un p.reference)),
                                  λ f. (
                                    (λ t ps h. target-holds p.reference refl t ps),
                                    λ without. (
                                      (λ t. un (allowed_row (made (object (less_enum p) ss ls ns)) (listed p.enum_values)) (allowed-un (made (object (less_enum p) ss ls ns)) (listed p.enum_values))),
                                      λ f. (
                                        (λ t. un (listed_alone p (listed p.enum_values)).row (listed-un p (listed p.enum_values))),
                                        λ f. (
                                          (λ t. found-holds (none-of p.reference without) (and_right (is_some (subschema_finding d (wanted_of p) ss)) (no_others p ls ns) t) (subschema_finding d (wanted_of p) ss) refl),
                                          λ f. (
                                            (λ t ps h. by_body (object p no_same ls ns) _ (none-of p.reference without) (sym (some-same _ ps h))),
                                            λ f. (
                                              (λ t. none),
                                              λ f. (
                                                (λ t. none),
                                                λ f. (
                                                  (λ t. un (with_type p ss ls ns (only_type p.types)) (with_type-un p ss ls ns (only_type p.types))),
                                                  λ f. ((λ t. none), λ f. tt),
                                                ),
                                              ),
                                            ),
                                          ),
                                        ),
                                      ),
                                    ),
                                  ),
                                ),
                              ),
                            ),
                          ),
                        ),
                      ),
                    ),
                  ),
                ),
              ),
            ),
          ),
        ),
      ),
    ),
  )

pub rows_that_merge : RowsThatMerge
rows_that_merge r d p ss ls ns ps h = first-holds r d p ss ls ns (lines r d p ss ls ns) (all-hold r d p ss ls ns) ps h
