-- The rows of texts, of listed values and of booleans.
use Rattle.std.specs.Prelude.{ℕ, ◌&&◌, ◌||◌, not, List, [], ◌∷◌, ◌++◌, filter, Bool, true, false, Option, Some, None, is_some, option_and_then, bytes_eq, if◌then◌else◌}
use Rattle.std.specs.List.{list_any, list_all}
use Rattle.json_value.specs.Value as value
use Rattle.json_value.specs.Value.{Value, null, number, text, list, object}
use Rattle.schema_defs.specs.declared.InstanceType.TheVariants.{Integer}
use Rattle.schema_defs.specs.declared.Format.{Format}
use Rattle.schema_defs.specs.Texts.{Relations}
use Rattle.schema_defs.specs.Schema.{Texts, Plain}
use Rattle.schema_defs.specs.Layer.{format_of, texts_agree, if_given, is_listed}
use Rattle.model_defs.specs.Model.{external_tag, RuleD, text_rule, allow_rule}
use Rattle.model_defs.specs.Layer.{is_null, is_text, is_boolean}
use Rattle.entry_defs.specs.Entry.{Entry, boolean_entry, text_entry, native_entry, unit_entry, option_entry, item, enum_shape, newtype_shape, Variants, no_variants, variant_then, unit_contents}
use Rattle.convert_defs.specs.Row.{leaf_row, option_row, ruled_row, refused_row, made, mixed_enum, nested_enum, bad_value, here, widened, null_note, string_note, boolean_note, Finding, noted, plainly}
use Rattle.convert_defs.specs.Standing.{words_or, no_keyword, of_type, alone}
use Rattle.convert_defs.specs.IntegerRow.{note_if}

-- ---- texts

abbrev pub wanted_of : Plain → List ℕ
wanted_of p = words_or p.title []

abbrev pub given_format : Plain → Option Format
given_format p = option_and_then format_of p.format

abbrev pub patterns_of : Option Texts → List (List ℕ)
patterns_of None = []
patterns_of (Some t) = t.patterns

abbrev pub patterns_in : Plain → List (List ℕ)
patterns_in p = patterns_of p.texts

abbrev pub rule_of_texts : Texts → RuleD
rule_of_texts t = text_rule (record { least = t.min_length; most = t.max_length; all = t.patterns; any = [] })

abbrev pub ruled_text : List ℕ → Option Texts → Entry
ruled_text name None = text_entry
ruled_text name (Some t) = item name (newtype_shape text_entry (Some (rule_of_texts t)))

abbrev pub text_finding : Plain → Option Format → Finding
text_finding p (Some f) = noted (note_if (is_some p.texts) (here widened string_note)) (leaf_row (native_entry f))
text_finding p None = plainly (leaf_row (ruled_text (wanted_of p) p.texts))

abbrev pub string_finding : Plain → Finding
string_finding p = text_finding p (given_format p)

-- ---- enumerated texts

abbrev pub texts_in : List Value → List (List ℕ)
texts_in [] = []
texts_in (text s ∷ vs) = s ∷ texts_in vs
texts_in (v ∷ vs) = texts_in vs

abbrev pub unit_variants : List (List ℕ) → Variants
unit_variants [] = no_variants
unit_variants (n ∷ ns) = variant_then n n unit_contents (unit_variants ns)

-- the first of equal texts kept
abbrev pub distinct : List (List ℕ) → List (List ℕ)
distinct [] = []
distinct (n ∷ ns) = n ∷ filter (λ m. not (bytes_eq n m)) (distinct ns)

abbrev pub never_entry : List ℕ → Entry
never_entry name = item name (enum_shape false external_tag no_variants)

abbrev pub texts_entry : List ℕ → List (List ℕ) → Entry
texts_entry name [] = never_entry name
texts_entry name (t ∷ ts) = item name (enum_shape false external_tag (unit_variants (t ∷ ts)))

abbrev pub nullable_texts : List ℕ → List (List ℕ) → Entry
nullable_texts name [] = unit_entry
nullable_texts name (t ∷ ts) = option_entry (texts_entry name (t ∷ ts))

abbrev pub listed_entry : Bool → List ℕ → List (List ℕ) → Entry
listed_entry with_null name ts = if with_null then nullable_texts name ts else texts_entry name ts

module _ (r : Relations) where
  abbrev pub kept_texts : Option Texts → List Value → List (List ℕ)
  kept_texts t vs = distinct (filter (λ s. if_given (texts_agree r s) t) (texts_in vs))

  abbrev pub enumerated : Plain → List Value → Finding
  enumerated p vs =
      if list_all (λ v. is_text v || is_null v) vs
      then noted (note_if (list_any is_null vs) (here widened null_note) ++ note_if (is_some (given_format p)) (here widened string_note))
      (leaf_row (listed_entry (list_any is_null vs) (wanted_of p) (kept_texts p.texts vs)))
      else plainly (refused_row bad_value)

-- ---- booleans

abbrev pub lists_both : List Value → Bool
lists_both vs = is_listed (value.boolean true) vs && is_listed (value.boolean false) vs

abbrev pub boolean_finding : Option (List Value) → Finding
boolean_finding None = plainly (leaf_row boolean_entry)
boolean_finding (Some vs) = noted (note_if (not (lists_both vs)) (here widened boolean_note)) (leaf_row boolean_entry)

-- ---- values listed without a type

abbrev pub is_number : Value → Bool
is_number (number z) = true
is_number _ = false

abbrev pub is_owner : Value → Bool
is_owner (list xs) = true
is_owner (object ms) = true
is_owner _ = false

abbrev pub non_null : List Value → List Value
non_null vs = filter (λ v. not (is_null v)) vs

-- a default that is null is the option's alone
abbrev pub less_null : Option Value → Option Value
less_null None = None
less_null (Some v) = if is_null v then None else Some v

abbrev pub without_nulls : List Value → Plain → Plain
without_nulls vs p = record p { enum_values = Some (non_null vs); default = less_null p.default }

abbrev pub listed_alone : Plain → List Value → Finding
listed_alone p vs =
    if list_any is_owner vs then plainly (refused_row nested_enum)
    else if list_all is_null vs then plainly (leaf_row (if list_any is_null vs then unit_entry else never_entry (wanted_of p)))
    else if list_any is_null vs then plainly (option_row (made (alone (without_nulls vs p))))
    else if list_all is_text vs then plainly (leaf_row (texts_entry (wanted_of p) (distinct (texts_in vs))))
    else if list_all is_boolean vs then boolean_finding (Some vs)
    else if list_all is_number vs then plainly (ruled_row (made (alone (of_type Integer no_keyword))) (allow_rule vs))
    else plainly (refused_row mixed_enum)
