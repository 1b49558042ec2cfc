-- Worked examples: what some lists of attributes say, and what is told of them.
use Rattle.std.specs.Prelude.{◌≡◌, ℕ, ◌+◌, List, [], ◌∷◌, false, Some, None, codes}
use Prim.Native.String.{String}
use Rattle.token_trees.specs.declared.token.Span.{Span}
use Rattle.token_trees.specs.declared.token.Spacing.TheVariants.{Alone, Joint}
use Rattle.token_trees.specs.declared.token.Delimiter.TheVariants.{Parenthesis, None as Bare}
use Rattle.token_trees.specs.Token.{Tok, word, mark, fixed, group, toks_of, text, Name, site}
use Rattle.syntax_trees.specs.declared.cursor.SyntaxKind.TheVariants.{ExpectedArguments, ExpectedComma, ExpectedEqOrParen, ExpectedValue}
use Rattle.syntax_trees.specs.Syntax.{PathD, path, segment, more_segments, end_segments, no_arguments, TyD, ty_path, no_qself, ty_reference, LifetimeD}
use Rattle.syntax_trees.specs.Item.{MetaD, meta_list, meta_value, ItemD, FieldD, FieldsD, named_fields, unit_fields, VariantD, BodyD, struct_body, enum_body}
use Rattle.attr_parts.specs.declared.rename.RenameRule.{RenameRule}
use Rattle.attr_parts.specs.declared.rename.RenameRule.TheVariants as rules
use Rattle.attr_parts.specs.declared.rename.RenameAllRules.{RenameAllRules}
use Rattle.attr_parts.specs.declared.values.Identifier.TheVariants as identifiers
use Rattle.attr_parts.specs.Diagnostics.{KindD, DiagnosticD, duplicate, unknown_container, unknown_variant, unknown_rule, rename_fields_place, untagged_place, default_unit, default_place, tag_place, untagged_tag, content_alone, untagged_both, two_identifiers, variant_id_place, borrow_place, no_lifetimes, halves, expected_string, bad_suffix, bad_path, bad_type, bad_syntax}
use Rattle.attr_parts.specs.Names.{MultiNameD}
use Rattle.attr_parts.specs.Values.{no_default, own_default, external, internal, adjacent, untagged}
use Rattle.attr_defs.specs.Container.{ContainerAttrs, container_attrs, container_diagnostics}
use Rattle.attr_defs.specs.Members.{variant_attrs, variant_diagnostics, field_attrs, field_diagnostics}
use Rattle.attr_defs.specs.Renames.{Meaning, renamed}
use Rattle.attr_defs.specs.Texts.{Lexing}

-- the nth place
abbrev at : ℕ → Span
at n = record { file = 0; lo = n; hi = n + 1 }

-- from the one place to the other
abbrev from_to : ℕ → ℕ → Span
from_to n m = record { file = 0; lo = n; hi = m + 1 }

abbrev w : String → ℕ → Tok
w x n = word (codes x) (at n)

abbrev str : String → ℕ → Tok
str x n = fixed (text (codes x) []) (at n)

abbrev eq : ℕ → Tok
eq n = mark 61 Alone (at n)

abbrev comma : ℕ → Tok
comma n = mark 44 Alone (at n)

abbrev list : List Tok → ℕ → Tok
list ts n = group Parenthesis (toks_of ts) (at n)

abbrev hidden : List Tok → ℕ → Tok
hidden ts n = group Bare (toks_of ts) (at n)

abbrev one_name : String → PathD
one_name x = path false (more_segments (segment (record { text = codes x; span = at 90 }) no_arguments) end_segments)

abbrev serde : List Tok → MetaD
serde ts = meta_list (one_name "serde") ts (at 91)

abbrev item : BodyD → List MetaD → ItemD
item body attrs = record { attrs = attrs; name = record { text = codes "r#E"; span = at 92 }; params = []; predicates = []; body = body }

abbrev empty_enum : BodyD
empty_enum = enum_body [] (at 93)

abbrev unit_struct : BodyD
unit_struct = struct_body unit_fields (at 93)

abbrev named_struct : BodyD
named_struct = struct_body (named_fields []) (at 93)

-- no text has tokens
abbrev none : Lexing
none cs s = None

abbrev told_of : BodyD → List Tok → List DiagnosticD
told_of body ts = container_diagnostics none (item body (serde ts ∷ []))

abbrev attrs_of : BodyD → List Tok → ContainerAttrs
attrs_of body ts = container_attrs none (item body (serde ts ∷ []))

infixl 10 ◌!◌
abbrev ◌!◌ : KindD → ℕ → DiagnosticD
k ! n = record { kind = k; span = at n }

abbrev plain : String → ℕ → Name
plain x n = record { text = codes x; span = at n }

abbrev untagged_and_tag : List Tok
untagged_and_tag = w "untagged" 1 ∷ comma 2 ∷ w "tag" 3 ∷ eq 4 ∷ str "t" 5 ∷ []

abbrev all_three : List Tok
all_three = w "content" 1 ∷ eq 2 ∷ str "c" 3 ∷ comma 4 ∷ w "tag" 5 ∷ eq 6 ∷ str "t" 7 ∷ comma 8 ∷ w "untagged" 9 ∷ []

abbrev twice_renamed : List Tok
twice_renamed = w "rename" 1 ∷ eq 2 ∷ str "a" 3 ∷ comma 4 ∷ w "rename" 5 ∷ eq 6 ∷ str "b" 7 ∷ []

abbrev half_twice : List Tok
half_twice = w "rename" 1 ∷ list (w "serialize" 2 ∷ eq 3 ∷ str "a" 4 ∷ comma 5 ∷ w "serialize" 6 ∷ eq 7 ∷ str "b" 8 ∷ comma 9 ∷ w "deserialize" 10 ∷ eq 11 ∷ str "c" 12 ∷ []) 13 ∷ []

pub record TagExamples : Type 0 where
  pub both_told : told_of empty_enum untagged_and_tag ≡ (untagged_tag ! 1) ∷ (untagged_tag ! 3) ∷ []
  pub both_tag : (attrs_of empty_enum untagged_and_tag).tag ≡ external
  pub alone_told : told_of empty_enum (w "content" 1 ∷ eq 2 ∷ str "c" 3 ∷ []) ≡ (content_alone ! 1) ∷ []
  pub alone_tag : (attrs_of empty_enum (w "content" 1 ∷ eq 2 ∷ str "c" 3 ∷ [])).tag ≡ external
  pub three_told : told_of empty_enum all_three ≡ (untagged_both ! 9) ∷ (untagged_both ! 5) ∷ (untagged_both ! 1) ∷ []
  pub adjacent_told : told_of empty_enum (w "tag" 1 ∷ eq 2 ∷ str "t" 3 ∷ comma 4 ∷ w "content" 5 ∷ eq 6 ∷ str "c" 7 ∷ []) ≡ []
  pub adjacent_tag : (attrs_of empty_enum (w "tag" 1 ∷ eq 2 ∷ str "t" 3 ∷ comma 4 ∷ w "content" 5 ∷ eq 6 ∷ str "c" 7 ∷ [])).tag ≡ adjacent (codes "t") (codes "c")
  pub on_a_unit : told_of unit_struct (w "tag" 1 ∷ eq 2 ∷ str "t" 3 ∷ []) ≡ record { kind = tag_place; span = from_to 1 3 } ∷ []
  pub on_named : (attrs_of named_struct (w "tag" 1 ∷ eq 2 ∷ str "t" 3 ∷ [])).tag ≡ internal (codes "t")
  pub on_a_struct : told_of named_struct (w "untagged" 1 ∷ []) ≡ (untagged_place ! 1) ∷ []

pub record NameExamples : Type 0 where
  pub unknown_rule_once : told_of empty_enum (w "rename_all" 1 ∷ eq 2 ∷ str "x" 3 ∷ []) ≡ (unknown_rule (codes "x") ! 3) ∷ []
  pub twice_told : told_of empty_enum twice_renamed ≡ (duplicate (codes "rename") ! 5) ∷ (duplicate (codes "rename") ! 5) ∷ []
  pub twice_written : (attrs_of empty_enum twice_renamed).name.serialize ≡ plain "a" 3
  pub twice_read : (attrs_of empty_enum twice_renamed).name.deserialize ≡ plain "a" 3
  pub own_name : (attrs_of empty_enum []).name.serialize ≡ plain "E" 92
  pub half_told : told_of empty_enum half_twice ≡ (duplicate (codes "rename") ! 6) ∷ []
  pub half_written : (attrs_of empty_enum half_twice).name.serialize ≡ plain "E" 92
  pub half_read : (attrs_of empty_enum half_twice).name.deserialize ≡ plain "c" 12
  pub wrong_half : told_of empty_enum (w "rename" 1 ∷ list (w "other" 2 ∷ eq 3 ∷ str "a" 4 ∷ []) 5 ∷ comma 6 ∷ w "a" 7 ∷ []) ≡ (halves (codes "rename") ! 2) ∷ []
  pub rules : (attrs_of empty_enum (w "rename_all" 1 ∷ eq 2 ∷ str "snake_case" 3 ∷ [])).rename_all ≡ record { serialize = rules.SnakeCase; deserialize = rules.SnakeCase }
  pub fields_rules : told_of named_struct (w "rename_all_fields" 1 ∷ eq 2 ∷ w "x" 3 ∷ []) ≡ (expected_string (codes "rename_all_fields") (codes "rename_all_fields") ! 3) ∷ record { kind = rename_fields_place; span = from_to 1 3 } ∷ []

-- attributes that no meta is made of
pub record OddExamples : Type 0 where
  pub no_list : container_diagnostics none (item empty_enum (meta_value (one_name "serde") (str "x" 1 ∷ []) ∷ [])) ≡ (bad_syntax ExpectedArguments ! 90) ∷ []
  pub no_value : told_of empty_enum (w "rename" 1 ∷ []) ≡ (bad_syntax ExpectedEqOrParen ! 91) ∷ []
  pub two_texts : told_of empty_enum (w "rename" 1 ∷ eq 2 ∷ str "a" 3 ∷ str "b" 4 ∷ []) ≡ record { kind = expected_string (codes "rename") (codes "rename"); span = from_to 3 4 } ∷ []
  pub suffix : told_of empty_enum (w "tag" 1 ∷ eq 2 ∷ fixed (text (codes "t") (codes "x")) (at 3) ∷ []) ≡ (bad_suffix (codes "x") ! 3) ∷ []
  pub suffix_tag : (attrs_of empty_enum (w "tag" 1 ∷ eq 2 ∷ fixed (text (codes "t") (codes "x")) (at 3) ∷ [])).tag ≡ internal (codes "t")
  pub no_comma : told_of empty_enum (w "untagged" 1 ∷ w "untagged" 2 ∷ []) ≡ (bad_syntax ExpectedComma ! 2) ∷ []
  pub no_comma_tag : (attrs_of empty_enum (w "untagged" 1 ∷ w "untagged" 2 ∷ [])).tag ≡ untagged
  pub unknown : told_of empty_enum (w "a" 1 ∷ mark 58 Joint (at 2) ∷ mark 58 Alone (at 3) ∷ w "b" 4 ∷ []) ≡ record { kind = unknown_container (codes "a::b"); span = from_to 1 4 } ∷ []
  pub missing_value : told_of empty_enum (w "tag" 1 ∷ eq 2 ∷ comma 3 ∷ w "a" 4 ∷ []) ≡ (bad_syntax ExpectedValue ! 3) ∷ []
  pub hidden_text : (attrs_of empty_enum (w "tag" 1 ∷ eq 2 ∷ hidden (hidden (str "t" 3 ∷ []) 4 ∷ []) 5 ∷ [])).tag ≡ internal (codes "t")
  pub empty : told_of empty_enum [] ≡ []
  pub flag_twice : told_of empty_enum (w "transparent" 1 ∷ comma 2 ∷ w "transparent" 3 ∷ []) ≡ (duplicate (codes "transparent") ! 3) ∷ []
  pub no_path : told_of empty_enum (w "remote" 1 ∷ eq 2 ∷ str "?" 3 ∷ []) ≡ (bad_path (codes "?") ! 3) ∷ []
  pub no_type : told_of empty_enum (w "from" 1 ∷ eq 2 ∷ str "?" 3 ∷ []) ≡ (bad_type (codes "from") (codes "?") ! 3) ∷ []

pub record PlaceExamples : Type 0 where
  pub unit_default : told_of unit_struct (w "default" 1 ∷ []) ≡ record { kind = default_unit; span = site } ∷ []
  pub enum_default : told_of empty_enum (w "default" 1 ∷ []) ≡ (default_place ! 1) ∷ []
  pub struct_default : (attrs_of named_struct (w "default" 1 ∷ [])).default ≡ own_default
  pub two_kinds : told_of empty_enum (w "variant_identifier" 1 ∷ comma 2 ∷ w "field_identifier" 3 ∷ []) ≡ (two_identifiers ! 3) ∷ (two_identifiers ! 1) ∷ []
  pub enum_kind : (attrs_of empty_enum (w "field_identifier" 1 ∷ [])).identifier ≡ identifiers.Field
  pub struct_kind : told_of named_struct (w "variant_identifier" 1 ∷ []) ≡ (variant_id_place ! 93) ∷ []
  pub predicates : told_of empty_enum (w "bound" 1 ∷ eq 2 ∷ w "x" 3 ∷ []) ≡ (expected_string (codes "bound") (codes "bound") ! 3) ∷ []
  pub no_predicates : (attrs_of empty_enum (w "bound" 1 ∷ eq 2 ∷ w "x" 3 ∷ [])).ser_bound ≡ Some []

abbrev many_read : List Tok
many_read = w "rename" 1 ∷ list (w "deserialize" 2 ∷ eq 3 ∷ str "p" 4 ∷ comma 5 ∷ w "deserialize" 6 ∷ eq 7 ∷ str "q" 8 ∷ []) 9 ∷ []

abbrev variant : FieldsD → List Tok → VariantD
variant fs ts = record { attrs = serde ts ∷ []; name = plain "V" 80; fields = fs }

abbrev number : TyD
number = ty_path no_qself (one_name "i64")

abbrev field : TyD → List Tok → FieldD
field t ts = record { attrs = serde ts ∷ []; name = Some (plain "f" 85); ty = t }

abbrev a_lifetime : LifetimeD
a_lifetime = record { name = plain "a" 71; span = at 70 }

abbrev reference : TyD
reference = ty_reference (Some a_lifetime) false (ty_path no_qself (one_name "str"))

pub record MemberExamples : Type 0 where
  pub many_told : variant_diagnostics none (variant unit_fields many_read) ≡ []
  pub many_name : (variant_attrs none (variant unit_fields many_read)).name.deserialize ≡ plain "p" 4
  pub many_written : (variant_attrs none (variant unit_fields many_read)).name.serialize ≡ plain "V" 80
  pub many_aliases : (variant_attrs none (variant unit_fields many_read)).name.aliases ≡ plain "p" 4 ∷ plain "q" 8 ∷ []
  pub field_many_told : field_diagnostics none (field number many_read) 0 None ≡ []
  pub field_aliases : (field_attrs none (field number many_read) 0 None no_default (plain "private" 1)).name.aliases ≡ plain "p" 4 ∷ plain "q" 8 ∷ []
  pub skipped_twice : field_diagnostics none (field number (w "skip" 1 ∷ comma 2 ∷ w "skip_serializing" 3 ∷ [])) 0 None ≡ (duplicate (codes "skip_serializing") ! 3) ∷ []
  pub skipped_default : (field_attrs none (field number (w "skip" 1 ∷ [])) 0 None no_default (plain "private" 1)).default ≡ own_default
  pub nothing_borrowed : field_diagnostics none (field number (w "borrow" 1 ∷ [])) 0 None ≡ record { kind = no_lifetimes (codes "f"); span = from_to 90 90 } ∷ []
  pub own_lifetimes : (field_attrs none (field reference []) 0 None no_default (plain "private" 1)).borrowed_lifetimes ≡ a_lifetime ∷ []
  pub unknown_told : variant_diagnostics none (variant unit_fields (w "flatten" 1 ∷ [])) ≡ (unknown_variant (codes "flatten") ! 1) ∷ []
  pub no_newtype : variant_diagnostics none (variant unit_fields (w "borrow" 1 ∷ [])) ≡ record { kind = borrow_place; span = from_to 90 80 } ∷ []

-- a renamer that answers one name
abbrev answers_z : Meaning
answers_z r n = codes "z"

abbrev both : RenameRule → RenameAllRules
both r = record { serialize = r; deserialize = r }

abbrev names_of : List Tok → MultiNameD
names_of ts = (field_attrs none (field number ts) 0 None no_default (plain "private" 1)).name

abbrev half_named : List Tok
half_named = w "rename" 1 ∷ list (w "serialize" 2 ∷ eq 3 ∷ str "a" 4 ∷ []) 5 ∷ []

pub record RenameExamples : Type 0 where
  pub no_rule : renamed answers_z (both rules.None) (names_of []) ≡ record (names_of []) { aliases = plain "f" 85 ∷ [] }
  pub written : (renamed answers_z (both rules.LowerCase) (names_of [])).serialize ≡ plain "z" 85
  pub read : (renamed answers_z (both rules.LowerCase) (names_of [])).deserialize ≡ plain "z" 85
  pub joins : (renamed answers_z (both rules.LowerCase) (names_of (w "alias" 1 ∷ eq 2 ∷ str "b" 3 ∷ []))).aliases ≡ plain "b" 3 ∷ plain "z" 85 ∷ []
  pub named_stays : (renamed answers_z (both rules.LowerCase) (names_of half_named)).serialize ≡ plain "a" 4
  pub other_half : (renamed answers_z (both rules.LowerCase) (names_of half_named)).deserialize ≡ plain "z" 85
