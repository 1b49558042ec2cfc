-- The finding of the row that is taken.
use Rattle.std.proofs.Common.{◌≡◌, ℕ, List, [], ◌∷◌, ◌++◌, map, Bool, true, false, ◌&&◌, ◌||◌, not, Option, Some, None, is_none, is_some, option_and_then, refl, ap, ◌∙◌}
use Rattle.std.specs.Prelude.{if◌then◌else◌}
use Rattle.std.specs.List.{list_all}
use Rattle.json_value.specs.Value.{Value, text}
use Rattle.schema_defs.specs.declared.InstanceType.{InstanceType}
use Rattle.schema_defs.specs.declared.InstanceType.TheVariants.{Null, Boolean, Object, Array, Number, Text, Integer}
use Rattle.schema_defs.specs.Texts.{Relations}
use Rattle.schema_defs.specs.Schema.{Types, one_type, many_types, Plain, object, Same, no_same, same_value, Lists, no_lists, Named, no_named, no_schema, the_schema, no_list, the_list, Document}
use Rattle.model_defs.specs.Model.{untagged}
use Rattle.entry_defs.specs.Entry.{integer_entry, any_entry, unit_entry}
use Rattle.convert_defs.specs.Row.{made, leaf_row, as_it_is_row, enum_row, merged_row, refused_row, by_contents, conditional, mix, here, widened, const_note, type_note, Finding, noted, plainly, add_notes, asking}
use Rattle.convert_defs.specs.Standing.{less_types, less_enum, less_const, less_reference, no_keyword}
use Rattle.enum_defs.specs.Words.{as_text, has_type, without_same, is_bare}
use Rattle.convert_defs.specs.IntegerRow.{integer_of, integer_notes, note_if}
use Rattle.convert_defs.specs.Scalars.{string_finding, enumerated, boolean_finding, listed_alone, wanted_of, patterns_in}
use Rattle.convert_defs.specs.Owners.{array_finding, object_finding}
use Rattle.note_defs.specs.Taken.{RowName, refused, boolean_schema, null_and_a_type, text_type, untyped_texts, text_list, lone_text, integer_type, boolean_type, object_type, untyped_members, array_type, untyped_items, nothing_asked, null_type, lone_reference, reference_of_its_type, merged_reference, typed_list, lone_list, one_subschema_keyword, merged_subschemas, lone_constant, all_types, one_listed_type, listed_types, no_row, first_row, rows, row_taken, two_with_null, is_a_text, one_subschema, lists_all_seven, lists_one_type, lists_types, is_listed_type, no_part, subschemas_at_most}
use Rattle.convert_defs.specs.Row.{conditional}
use Rattle.json_value.specs.Value as value
use Rattle.convert_defs.specs.Table.{type_beside_null, nullable, nullable_notes, listed, allowed_row, only_type, with_type, reference_row, target_part, subschema_finding, constant_of, constant_finding, finding_or, untyped, type_variants, Line, lines, first_line, ◌⇒◌, type_among, many_of, same_types, target_types, every_type}

two-null : (o : Option Types) → is_some (type_beside_null o) ≡ two_with_null o
two-null None = refl
two-null (Some (one_type k)) = refl
two-null (Some (many_types [])) = refl
two-null (Some (many_types (Null ∷ []))) = refl
two-null (Some (many_types (Boolean ∷ []))) = refl
two-null (Some (many_types (Object ∷ []))) = refl
two-null (Some (many_types (Array ∷ []))) = refl
two-null (Some (many_types (Number ∷ []))) = refl
two-null (Some (many_types (Text ∷ []))) = refl
two-null (Some (many_types (Integer ∷ []))) = refl
two-null (Some (many_types (Null ∷ k ∷ []))) = refl
two-null (Some (many_types (Boolean ∷ Null ∷ []))) = refl
two-null (Some (many_types (Boolean ∷ Boolean ∷ []))) = refl
two-null (Some (many_types (Boolean ∷ Object ∷ []))) = refl
two-null (Some (many_types (Boolean ∷ Array ∷ []))) = refl
two-null (Some (many_types (Boolean ∷ Number ∷ []))) = refl
two-null (Some (many_types (Boolean ∷ Text ∷ []))) = refl
two-null (Some (many_types (Boolean ∷ Integer ∷ []))) = refl
two-null (Some (many_types (Object ∷ Null ∷ []))) = refl
two-null (Some (many_types (Object ∷ Boolean ∷ []))) = refl
two-null (Some (many_types (Object ∷ Object ∷ []))) = refl
two-null (Some (many_types (Object ∷ Array ∷ []))) = refl
two-null (Some (many_types (Object ∷ Number ∷ []))) = refl
two-null (Some (many_types (Object ∷ Text ∷ []))) = refl
two-null (Some (many_types (Object ∷ Integer ∷ []))) = refl
two-null (Some (many_types (Array ∷ Null ∷ []))) = refl
two-null (Some (many_types (Array ∷ Boolean ∷ []))) = refl
two-null (Some (many_types (Array ∷ Object ∷ []))) = refl
two-null (Some (many_types (Array ∷ Array ∷ []))) = refl
two-null (Some (many_types (Array ∷ Number ∷ []))) = refl
two-null (Some (many_types (Array ∷ Text ∷ []))) = refl
two-null (Some (many_types (Array ∷ Integer ∷ []))) = refl
two-null (Some (many_types (Number ∷ Null ∷ []))) = refl
two-null (Some (many_types (Number ∷ Boolean ∷ []))) = refl
two-null (Some (many_types (Number ∷ Object ∷ []))) = refl
two-null (Some (many_types (Number ∷ Array ∷ []))) = refl
two-null (Some (many_types (Number ∷ Number ∷ []))) = refl
two-null (Some (many_types (Number ∷ Text ∷ []))) = refl
two-null (Some (many_types (Number ∷ Integer ∷ []))) = refl
two-null (Some (many_types (Text ∷ Null ∷ []))) = refl
two-null (Some (many_types (Text ∷ Boolean ∷ []))) = refl
two-null (Some (many_types (Text ∷ Object ∷ []))) = refl
two-null (Some (many_types (Text ∷ Array ∷ []))) = refl
two-null (Some (many_types (Text ∷ Number ∷ []))) = refl
two-null (Some (many_types (Text ∷ Text ∷ []))) = refl
two-null (Some (many_types (Text ∷ Integer ∷ []))) = refl
two-null (Some (many_types (Integer ∷ Null ∷ []))) = refl
two-null (Some (many_types (Integer ∷ Boolean ∷ []))) = refl
two-null (Some (many_types (Integer ∷ Object ∷ []))) = refl
two-null (Some (many_types (Integer ∷ Array ∷ []))) = refl
two-null (Some (many_types (Integer ∷ Number ∷ []))) = refl
two-null (Some (many_types (Integer ∷ Text ∷ []))) = refl
two-null (Some (many_types (Integer ∷ Integer ∷ []))) = refl
two-null (Some (many_types (a ∷ b ∷ c ∷ ks))) = three a b
  where
    three : (a b : InstanceType) → is_some (type_beside_null (Some (many_types (a ∷ b ∷ c ∷ ks)))) ≡ two_with_null (Some (many_types (a ∷ b ∷ c ∷ ks)))
    three Null Null = refl
    three Null Boolean = refl
    three Null Object = refl
    three Null Array = refl
    three Null Number = refl
    three Null Text = refl
    three Null Integer = refl
    three Boolean Null = refl
    three Boolean Boolean = refl
    three Boolean Object = refl
    three Boolean Array = refl
    three Boolean Number = refl
    three Boolean Text = refl
    three Boolean Integer = refl
    three Object Null = refl
    three Object Boolean = refl
    three Object Object = refl
    three Object Array = refl
    three Object Number = refl
    three Object Text = refl
    three Object Integer = refl
    three Array Null = refl
    three Array Boolean = refl
    three Array Object = refl
    three Array Array = refl
    three Array Number = refl
    three Array Text = refl
    three Array Integer = refl
    three Number Null = refl
    three Number Boolean = refl
    three Number Object = refl
    three Number Array = refl
    three Number Number = refl
    three Number Text = refl
    three Number Integer = refl
    three Text Null = refl
    three Text Boolean = refl
    three Text Object = refl
    three Text Array = refl
    three Text Number = refl
    three Text Text = refl
    three Text Integer = refl
    three Integer Null = refl
    three Integer Boolean = refl
    three Integer Object = refl
    three Integer Array = refl
    three Integer Number = refl
    three Integer Text = refl
    three Integer Integer = refl

a-text : (o : Option Value) → is_some (option_and_then as_text o) ≡ is_a_text o
a-text None = refl
a-text (Some value.null) = refl
a-text (Some (value.boolean b)) = refl
a-text (Some (value.number z)) = refl
a-text (Some value.fraction) = refl
a-text (Some (text s)) = refl
a-text (Some (value.list xs)) = refl
a-text (Some (value.object ms)) = refl

at-most : (a b e c g s : Bool) → (a && b && (e && c && true && g) && s) ≡ (a && b && (e && c && g && s))
at-most false b e c g s = refl
at-most true false e c g s = refl
at-most true true false c g s = refl
at-most true true true false g s = refl
at-most true true true true g s = refl

alone-most : (a b g s : Bool) → (a && b && g && s) ≡ (a && b && (g && s))
alone-most false b g s = refl
alone-most true false g s = refl
alone-most true true g s = refl

one-sub : (d : Document) (w : List ℕ) (ss : Same) → is_some (subschema_finding d w ss) ≡ one_subschema ss
one-sub d w no_same = refl
one-sub d w (same_value no_list no_list no_list no_schema true) = refl
one-sub d w (same_value no_list no_list no_list no_schema false) = refl
one-sub d w (same_value no_list no_list no_list (the_schema e) true) = refl
one-sub d w (same_value no_list no_list no_list (the_schema e) false) = refl
one-sub d w (same_value no_list no_list (the_list c) no_schema true) = refl
one-sub d w (same_value no_list no_list (the_list c) no_schema false) = refl
one-sub d w (same_value no_list no_list (the_list c) (the_schema e) true) = refl
one-sub d w (same_value no_list no_list (the_list c) (the_schema e) false) = refl
one-sub d w (same_value no_list (the_list b) no_list no_schema true) = refl
one-sub d w (same_value no_list (the_list b) no_list no_schema false) = refl
one-sub d w (same_value no_list (the_list b) no_list (the_schema e) true) = refl
one-sub d w (same_value no_list (the_list b) no_list (the_schema e) false) = refl
one-sub d w (same_value no_list (the_list b) (the_list c) no_schema true) = refl
one-sub d w (same_value no_list (the_list b) (the_list c) no_schema false) = refl
one-sub d w (same_value no_list (the_list b) (the_list c) (the_schema e) true) = refl
one-sub d w (same_value no_list (the_list b) (the_list c) (the_schema e) false) = refl
one-sub d w (same_value (the_list a) no_list no_list no_schema true) = refl
one-sub d w (same_value (the_list a) no_list no_list no_schema false) = refl
one-sub d w (same_value (the_list a) no_list no_list (the_schema e) true) = refl
one-sub d w (same_value (the_list a) no_list no_list (the_schema e) false) = refl
one-sub d w (same_value (the_list a) no_list (the_list c) no_schema true) = refl
one-sub d w (same_value (the_list a) no_list (the_list c) no_schema false) = refl
one-sub d w (same_value (the_list a) no_list (the_list c) (the_schema e) true) = refl
one-sub d w (same_value (the_list a) no_list (the_list c) (the_schema e) false) = refl
one-sub d w (same_value (the_list a) (the_list b) no_list no_schema true) = refl
one-sub d w (same_value (the_list a) (the_list b) no_list no_schema false) = refl
one-sub d w (same_value (the_list a) (the_list b) no_list (the_schema e) true) = refl
one-sub d w (same_value (the_list a) (the_list b) no_list (the_schema e) false) = refl
one-sub d w (same_value (the_list a) (the_list b) (the_list c) no_schema true) = refl
one-sub d w (same_value (the_list a) (the_list b) (the_list c) no_schema false) = refl
one-sub d w (same_value (the_list a) (the_list b) (the_list c) (the_schema e) true) = refl
one-sub d w (same_value (the_list a) (the_list b) (the_list c) (the_schema e) false) = refl

all-seven : (o : Option Types) → list_all (λ k. type_among k o) every_type ≡ lists_all_seven o
all-seven None = refl
all-seven (Some (one_type k)) = refl
all-seven (Some (many_types ks)) = refl

one-listed : (o : Option Types) → is_some (only_type o) ≡ lists_one_type o
one-listed None = refl
one-listed (Some (one_type k)) = refl
one-listed (Some (many_types [])) = refl
one-listed (Some (many_types (k ∷ []))) = refl
one-listed (Some (many_types (k ∷ l ∷ ks))) = refl

many-listed : (o : Option Types) (b : Bool) → (is_some (many_of o) && b && not (type_among Number o)) ≡ (lists_types o && b && not (is_listed_type o Number))
many-listed None b = refl
many-listed (Some (one_type k)) b = refl
many-listed (Some (many_types ks)) b = refl

step : {b c : Bool} {f : Finding} {xs ys : List Line} → b ≡ c → xs ≡ ys → ((b ⇒ f) ∷ xs) ≡ ((c ⇒ f) ∷ ys)
step {b} {c} {f} {xs} {ys} e g = ap (λ z. (z ⇒ f) ∷ xs) e ∙ ap (λ zs. (c ⇒ f) ∷ zs) g

module _ (r : Relations) (d : Document) (p : Plain) (ss : Same) (ls : Lists) (ns : Named) where
  abbrev pub finding_by : RowName → Finding
  finding_by boolean_schema = plainly (refused_row mix)
  finding_by refused = plainly (refused_row conditional)
  finding_by null_and_a_type = noted (nullable_notes p ss) (nullable p ss ls ns (type_beside_null p.types))
  finding_by text_type = asking (patterns_in p) (string_finding p)
  finding_by untyped_texts = asking (patterns_in p) (add_notes untyped (string_finding p))
  finding_by text_list = asking (patterns_in p) (enumerated r p (listed p.enum_values))
  finding_by lone_text = asking (patterns_in p) (constant_finding r p (constant_of p))
  finding_by integer_type = noted (integer_notes p) (leaf_row (integer_entry (integer_of p)))
  finding_by boolean_type = boolean_finding p.enum_values
  finding_by object_type = object_finding d.setting ns
  finding_by untyped_members = add_notes untyped (object_finding d.setting ns)
  finding_by array_type = array_finding ls
  finding_by untyped_items = add_notes untyped (array_finding ls)
  finding_by nothing_asked = plainly (leaf_row any_entry)
  finding_by null_type = plainly (leaf_row unit_entry)
  finding_by lone_reference = plainly (reference_row p.reference)
  finding_by reference_of_its_type = plainly (reference_row p.reference)
  finding_by merged_reference = plainly (merged_row (target_part d p.reference ++ made (object (less_reference p) ss ls ns) ∷ []))
  finding_by typed_list = plainly (allowed_row (made (object (less_enum p) ss ls ns)) (listed p.enum_values))
  finding_by lone_list = listed_alone p (listed p.enum_values)
  finding_by one_subschema_keyword = add_notes (note_if (is_some p.types) (here widened type_note)) (finding_or (subschema_finding d (wanted_of p) ss))
  finding_by merged_subschemas = plainly (merged_row (made (object p no_same ls ns) ∷ made (object no_keyword ss no_lists no_named) ∷ []))
  finding_by lone_constant = noted (here widened const_note ∷ []) (as_it_is_row (made (object (less_const p) ss ls ns)))
  finding_by all_types = plainly (as_it_is_row (made (object (less_types p) ss ls ns)))
  finding_by one_listed_type = plainly (with_type p ss ls ns (only_type p.types))
  finding_by listed_types = plainly (enum_row untagged by_contents (type_variants p ls ns))
  finding_by no_row = plainly (refused_row mix)

  abbrev line : (Bool × RowName) → Line
  line x = x.0 ⇒ finding_by x.1

  first-lined : (xs : List (Bool × RowName)) → first_line (map line xs) ≡ finding_by (first_row xs)
  first-lined [] = refl
  first-lined (x ∷ xs) = by x.0 (first-lined xs)
    where
      by : (b : Bool) → first_line (map line xs) ≡ finding_by (first_row xs) → (if b then finding_by x.1 else first_line (map line xs)) ≡ finding_by (if b then x.1 else first_row xs)
      by true e = refl
      by false e = e

  lines-are : lines r d p ss ls ns ≡ map line (rows d p ss ls ns)
  lines-are =
      step refl (
      step (two-null p.types) (
      step refl (
      step refl (
      step refl (
      step (ap (λ b. b && (is_none p.types || has_type Text p.types) && is_none p.reference && without_same ss) (a-text p.const_value)) (
      step refl (
      step refl (
      step refl (
      step refl (
      step refl (
      step refl (
      step refl (
      step refl (
      step (at-most (is_some p.reference) (is_none p.types) (is_none p.enum_values) (is_none p.const_value) (no_part p ss ls ns) (without_same ss)) (
      step (at-most (is_some p.reference) (same_types p.types (target_types d p.reference)) (is_none p.enum_values) (is_none p.const_value) (no_part p ss ls ns) (without_same ss)) (
      step refl (
      step refl (
      step (alone-most (is_some p.enum_values) (is_none p.types) (is_none p.const_value && is_none p.reference && no_part p ss ls ns) (without_same ss)) (
      step (ap (λ b. b && subschemas_at_most p ss ls ns) (one-sub d (wanted_of p) ss)) (
      step refl (
      step refl (
      step (all-seven p.types) (
      step (one-listed p.types) (
      step (many-listed p.types (is_bare p ss)) (
      refl)))))))))))))))))))))))))

  pub taken-is : first_line (lines r d p ss ls ns) ≡ finding_by (row_taken d p ss ls ns)
  taken-is = ap first_line lines-are ∙ first-lined (rows d p ss ls ns)
