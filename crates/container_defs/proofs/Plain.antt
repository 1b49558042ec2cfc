-- Unions, and structs without attributes but `deny_unknown_fields`.
use Rattle.std.proofs.Common.{◌≡◌, ℕ, suc, ◌&&◌, List, [], ◌∷◌, ◌++◌, Bool, true, false, not, map, refl, ap, ◌∙◌}
use Rattle.std.specs.Prelude.{Option, Some, None, option_map, is_some}
use Rattle.token_trees.specs.declared.token.Span.{Span}
use Rattle.token_trees.specs.Token.{Name}
use Rattle.syntax_trees.specs.Item.{BodyD, struct_body, enum_body, union_body}
use Rattle.attr_parts.specs.declared.derive.Derive.{Derive}
use Rattle.attr_parts.specs.declared.rename.RenameRule.TheVariants as rules
use Rattle.attr_parts.specs.declared.rename.RenameAllRules.{RenameAllRules}
use Rattle.attr_parts.specs.Diagnostics.{DiagnosticD, getter_remote}
use Rattle.attr_parts.specs.Places.{place_of, item_spans}
use Rattle.attr_parts.specs.Values.{DefaultD, no_default}
use Rattle.attr_defs.specs.Container.{container_attrs}
use Rattle.attr_defs.specs.Renames.{Meaning}
use Rattle.attr_defs.specs.Texts.{Lexing}
use Rattle.model_defs.specs.Model.{struct_style, FieldModel, struct_model}
use Rattle.container_defs.specs.declared.style.Style.TheVariants.{Struct}
use Rattle.container_defs.specs.Checks.{told_if, flatten_told, marked}
use Rattle.container_defs.specs.Container.{ReadField, read_struct, has_getter}
use Rattle.container_defs.specs.Laws.{is_union, UnionsAlone, PlainField, plain_field, closing, plain_struct, ArePlain, plain_model, plain_container, NothingIsTold, FieldsAreRead}
use Rattle.container_defs.specs.Model.{fields_told_from, diagnostics_of}
use Rattle.container_defs.specs.Reader.{field_model}
use Rattle.container_defs.specs.Reading.{fields_from, data_of, name_field, container_with, container_of}

-- ---- unions

some_of : {A B : Type 0} (f : A → B) (o : Option A) → is_some (option_map f o) ≡ is_some o
some_of f None = refl
some_of f (Some a) = refl

data_but : (lexing : Lexing) (private : Name) (d : DefaultD) (b : BodyD) → is_some (data_of lexing private d b) ≡ not (is_union b)
data_but lexing private d (struct_body fs at) = refl
data_but lexing private d (enum_body vs at) = refl
data_but lexing private d (union_body fs at) = refl

pub unions_alone : UnionsAlone
unions_alone lexing variant_name field_name private i derive =
    some_of (marked derive) (container_of lexing variant_name field_name private i)
    ∙ some_of (container_with lexing variant_name field_name private i) (data_of lexing private (container_attrs lexing i).default i.body)
    ∙ data_but lexing private (container_attrs lexing i).default i.body

-- ---- fields without attributes

module _ (lexing : Lexing) (variant_name field_name : Meaning) (private : Name) where
  none_told : (index : ℕ) (fs : List PlainField) → fields_told_from lexing None index (map plain_field fs) ≡ []
  none_told index [] = refl
  none_told index (f ∷ fs) = none_told (suc index) fs

  abbrev no_rules : RenameAllRules
  no_rules = record { serialize = rules.None; deserialize = rules.None }

  -- the fields of the container
  abbrev read_plain : ℕ → List PlainField → List ReadField
  read_plain index fs = map (name_field variant_name field_name no_rules) (fields_from lexing private no_default None index (map plain_field fs))

  no_getter : (index : ℕ) (fs : List PlainField) → has_getter (read_struct Struct (read_plain index fs)) ≡ false
  no_getter index [] = refl
  no_getter index (f ∷ fs) = no_getter (suc index) fs

  no_flatten : (index : ℕ) (fs : List PlainField) → flatten_told Struct (read_plain index fs) ≡ []
  no_flatten index [] = refl
  no_flatten index (f ∷ fs) = no_flatten (suc index) fs

  abbrev named_so : PlainField → List ℕ → FieldModel
  named_so f x = record (plain_model f) { serialize_name = x; deserialize_names = x ∷ [] }

  all_read : (index : ℕ) (fs : List PlainField) → ArePlain fs → map field_model (read_plain index fs) ≡ map plain_model fs
  all_read index [] h = refl
  all_read index (f ∷ fs) h = λ i. ap (named_so f) h.0 i ∷ all_read (suc index) fs h.1 i

-- ---- structs

module _ (lexing : Lexing) (variant_name field_name : Meaning) (private : Name) (derive : Derive) (a b s : Span) (n : Name) (fs : List PlainField) (at : Span) where
  -- what is told of fields, that there is a getter, and what is told of flattening
  abbrev told_by : List DiagnosticD → Bool → List DiagnosticD → Span → List DiagnosticD
  told_by fields getter flatten place = fields ++ (told_if (getter && true) getter_remote place ++ (flatten ++ []))

  all_none : (place : Span) → told_by (fields_told_from lexing None 0 (map plain_field fs)) (has_getter (read_struct Struct (read_plain lexing variant_name field_name private 0 fs))) (flatten_told Struct (read_plain lexing variant_name field_name private 0 fs)) place ≡ []
  all_none place = λ i. told_by (none_told lexing variant_name field_name private 0 fs i) (no_getter lexing variant_name field_name private 0 fs i) (no_flatten lexing variant_name field_name private 0 fs i) place

  told_of : (closed : Bool) → diagnostics_of lexing variant_name field_name private (plain_struct (closing closed a b s) n fs at) derive ≡ []
  told_of true = all_none (place_of (item_spans (plain_struct (closing true a b s) n fs at)))
  told_of false = all_none (place_of (item_spans (plain_struct (closing false a b s) n fs at)))

pub nothing_is_told : NothingIsTold
nothing_is_told lexing variant_name field_name private derive closed a b s n fs at = told_of lexing variant_name field_name private derive a b s n fs at closed

pub fields_are_read : FieldsAreRead
fields_are_read lexing variant_name field_name private derive true a b s n fs at h = ap (λ ms. Some (record (plain_container true n fs) { body = struct_model struct_style ms })) (all_read lexing variant_name field_name private 0 fs h)
fields_are_read lexing variant_name field_name private derive false a b s n fs at h = ap (λ ms. Some (record (plain_container false n fs) { body = struct_model struct_style ms })) (all_read lexing variant_name field_name private 0 fs h)
