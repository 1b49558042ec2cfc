-- What holds of all items, whatever serde's own module is called and however names are written.
use Rattle.std.specs.Prelude.{◌≡◌, List, [], ◌∷◌, map, filter, length, Bool, true, false, not, Some, cond, is_some, codes, ⊤}
use Rattle.token_trees.specs.declared.token.Span.{Span}
use Rattle.token_trees.specs.Token.{word, Name}
use Rattle.syntax_trees.specs.Syntax.{TyD, path, segment, no_arguments, more_segments, end_segments}
use Rattle.syntax_trees.specs.Item.{MetaD, meta_list, FieldD, named_fields, BodyD, struct_body, enum_body, union_body, ItemD}
use Rattle.attr_parts.specs.declared.derive.Derive.{Derive}
use Rattle.attr_parts.specs.declared.derive.Derive.TheVariants.{Serialize, Deserialize}
use Rattle.attr_defs.specs.Container.{unraw}
use Rattle.attr_defs.specs.Renames.{Meaning}
use Rattle.attr_defs.specs.Texts.{Lexing}
use Rattle.type_spellings.specs.Types.{type_of}
use Rattle.model_defs.specs.Model.{struct_style, no_default, no_helper, FieldModel, struct_model, ContainerModel}
use Rattle.container_defs.specs.Checks.{counts, is_one, mark_counting}
use Rattle.container_defs.specs.Container.{ReadField}
use Rattle.container_defs.specs.Model.{model_of, diagnostics_of}
use Rattle.container_defs.specs.Reader.{item_model}

-- ---- unions

abbrev pub is_union : BodyD → Bool
is_union (struct_body fs at) = false
is_union (enum_body vs at) = false
is_union (union_body fs at) = true

-- every item but a union is a container
abbrev pub UnionsAlone : Type 0
UnionsAlone = (lexing : Lexing) (variant_name field_name : Meaning) (private : Name) (i : ItemD) (derive : Derive)
    → is_some (model_of lexing variant_name field_name private i derive) ≡ not (is_union i.body)

-- ---- the two derives

-- the reader of values makes the same of both
abbrev pub DerivesAgree : Type 0
DerivesAgree = (lexing : Lexing) (variant_name field_name : Meaning) (private : Name) (i : ItemD)
    → item_model lexing variant_name field_name private i Serialize ≡ item_model lexing variant_name field_name private i Deserialize

-- ---- `transparent`

abbrev pub marked_fields : List ReadField → List ReadField
marked_fields fs = filter (λ f. f.attrs.transparent) fs

-- of fields of which none is marked one is, where one alone counts
abbrev pub OneIsMarked : Type 0
OneIsMarked = (derive : Derive) (fs : List ReadField) → marked_fields fs ≡ []
    → length (marked_fields (mark_counting derive fs)) ≡ cond (is_one (filter (counts derive) fs)) 1 0

-- ---- structs with names, without attributes but `deny_unknown_fields`

abbrev pub PlainField : Type 0
PlainField = Name × TyD

abbrev pub plain_field : PlainField → FieldD
plain_field f = record { attrs = []; name = Some f.0; ty = f.1 }

-- `#[serde(deny_unknown_fields)]`, wherever its parts stand
abbrev pub denying : Span → Span → Span → MetaD
denying a b s = meta_list (path false (more_segments (segment (record { text = codes "serde"; span = a }) no_arguments) end_segments)) (word (codes "deny_unknown_fields") b ∷ []) s

abbrev pub closing : Bool → Span → Span → Span → List MetaD
closing true a b s = denying a b s ∷ []
closing false a b s = []

abbrev pub plain_struct : List MetaD → Name → List PlainField → Span → ItemD
plain_struct attrs n fs at = record { attrs = attrs; name = n; params = []; predicates = []; body = struct_body (named_fields (map plain_field fs)) at }

-- no name begins with `r#`
abbrev pub ArePlain : List PlainField → Type 0
ArePlain [] = ⊤
ArePlain (f ∷ fs) = (unraw f.0.text ≡ f.0.text) × ArePlain fs

abbrev pub plain_model : PlainField → FieldModel
plain_model f = record {
  has_name = true;
  serialize_name = f.0.text;
  deserialize_names = f.0.text ∷ [];
  field_type = type_of f.1;
  default = no_default;
  helper = no_helper;
  skip = false;
  is_rest = false;
}

abbrev pub plain_container : Bool → Name → List PlainField → ContainerModel
plain_container closed n fs = record { name = n.text; transparent = false; try_from = false; closed = closed; body = struct_model struct_style (map plain_model fs) }

-- nothing is told of them
abbrev pub NothingIsTold : Type 0
NothingIsTold = (lexing : Lexing) (variant_name field_name : Meaning) (private : Name) (derive : Derive) (closed : Bool) (a b s : Span) (n : Name) (fs : List PlainField) (at : Span)
    → diagnostics_of lexing variant_name field_name private (plain_struct (closing closed a b s) n fs at) derive ≡ []

-- and each field is read by its name as its type
abbrev pub FieldsAreRead : Type 0
FieldsAreRead = (lexing : Lexing) (variant_name field_name : Meaning) (private : Name) (derive : Derive) (closed : Bool) (a b s : Span) (n : Name) (fs : List PlainField) (at : Span) → ArePlain fs
    → item_model lexing variant_name field_name private (plain_struct (closing closed a b s) n fs at) derive ≡ Some (plain_container closed n fs)
