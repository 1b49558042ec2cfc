-- Diagnostics, as contracts see them: texts are their bytes.
use Rattle.std.specs.Prelude.{◌≡◌, ℕ, List, ◌++◌, map, string_bytes}
use Rattle.token_trees.specs.declared.token.Span.{Span}
use Rattle.syntax_trees.specs.declared.cursor.SyntaxKind.{SyntaxKind}
use Rattle.syntax_trees.specs.declared.cursor.SyntaxError.{SyntaxError}
use Rattle.attr_parts.specs.declared.kind.DiagKind.{DiagKind}
use Rattle.attr_parts.specs.declared.kind.DiagKind.TheVariants.{Duplicate, UnknownContainer, UnknownVariant, UnknownField, UnknownRule, RenameFieldsPlace, UntaggedPlace, DefaultUnit, DefaultPlace, DefaultPathUnit, DefaultPathPlace, TagPlace, ContentPlace, TagTuple, UntaggedTag, ContentAlone, UntaggedContent, UntaggedBoth, TwoIdentifiers, FieldIdPlace, VariantIdPlace, BorrowPlace, NoLifetimes, LacksLifetime, Halves, ExpectedString, Suffix, BadPath, BadType, BadLifetimes, RepeatedLifetime, NoLifetimeGiven, Syntax, Union, UntaggedOrder, DefaultOrder, RemoteGeneric, GetterEnum, GetterRemote, FlattenTuple, FlattenNewtype, OtherIdentifier, OtherUntagged, OtherLast, OtherUnit, NewtypeLast, FieldIdUnit, VariantIdUnit, SkipSer, SkipSerField, SkipIfField, SkipDe, SkipDeField, TagConflict, SameTags, TransparentFrom, TransparentTryFrom, TransparentInto, TransparentEnum, TransparentUnit, TransparentMany, TransparentNoneSer, TransparentNoneDe, FromConflict}
use Rattle.attr_parts.specs.declared.kind.Diagnostic.{Diagnostic}
use Rattle.attr_parts.specs.declared.ctxt.Ctxt.{Ctxt}

pub data KindD : Type 0 where
  duplicate : List ℕ → KindD
  unknown_container : List ℕ → KindD
  unknown_variant : List ℕ → KindD
  unknown_field : List ℕ → KindD
  unknown_rule : List ℕ → KindD
  rename_fields_place : KindD
  untagged_place : KindD
  default_unit : KindD
  default_place : KindD
  default_path_unit : KindD
  default_path_place : KindD
  tag_place : KindD
  content_place : KindD
  tag_tuple : KindD
  untagged_tag : KindD
  content_alone : KindD
  untagged_content : KindD
  untagged_both : KindD
  two_identifiers : KindD
  field_id_place : KindD
  variant_id_place : KindD
  borrow_place : KindD
  no_lifetimes : List ℕ → KindD
  lacks_lifetime : List ℕ → List ℕ → KindD
  halves : List ℕ → KindD
  expected_string : List ℕ → List ℕ → KindD
  bad_suffix : List ℕ → KindD
  bad_path : List ℕ → KindD
  bad_type : List ℕ → List ℕ → KindD
  bad_lifetimes : List ℕ → KindD
  repeated_lifetime : List ℕ → KindD
  no_lifetime_given : KindD
  bad_syntax : SyntaxKind → KindD
  union_item : KindD
  untagged_order : KindD
  default_order : ℕ → KindD
  remote_generic : KindD
  getter_enum : KindD
  getter_remote : KindD
  flatten_tuple : KindD
  flatten_newtype : KindD
  other_identifier : KindD
  other_untagged : KindD
  other_last : KindD
  other_unit : KindD
  newtype_last : List ℕ → KindD
  field_id_unit : KindD
  variant_id_unit : KindD
  skip_ser : List ℕ → KindD
  skip_ser_field : List ℕ → List ℕ → KindD
  skip_if_field : List ℕ → List ℕ → KindD
  skip_de : List ℕ → KindD
  skip_de_field : List ℕ → List ℕ → KindD
  tag_conflict : List ℕ → KindD
  same_tags : List ℕ → KindD
  transparent_from : KindD
  transparent_try_from : KindD
  transparent_into : KindD
  transparent_enum : KindD
  transparent_unit : KindD
  transparent_many : KindD
  transparent_none_ser : KindD
  transparent_none_de : KindD
  from_conflict : KindD

pub record DiagnosticD : Type 0 where
  pub kind : KindD
  pub span : Span

abbrev pub kind_view : DiagKind → KindD
kind_view (Duplicate a) = duplicate (string_bytes a)
kind_view (UnknownContainer a) = unknown_container (string_bytes a)
kind_view (UnknownVariant a) = unknown_variant (string_bytes a)
kind_view (UnknownField a) = unknown_field (string_bytes a)
kind_view (UnknownRule a) = unknown_rule (string_bytes a)
kind_view RenameFieldsPlace = rename_fields_place
kind_view UntaggedPlace = untagged_place
kind_view DefaultUnit = default_unit
kind_view DefaultPlace = default_place
kind_view DefaultPathUnit = default_path_unit
kind_view DefaultPathPlace = default_path_place
kind_view TagPlace = tag_place
kind_view ContentPlace = content_place
kind_view TagTuple = tag_tuple
kind_view UntaggedTag = untagged_tag
kind_view ContentAlone = content_alone
kind_view UntaggedContent = untagged_content
kind_view UntaggedBoth = untagged_both
kind_view TwoIdentifiers = two_identifiers
kind_view FieldIdPlace = field_id_place
kind_view VariantIdPlace = variant_id_place
kind_view BorrowPlace = borrow_place
kind_view (NoLifetimes a) = no_lifetimes (string_bytes a)
kind_view (LacksLifetime a b) = lacks_lifetime (string_bytes a) (string_bytes b)
kind_view (Halves a) = halves (string_bytes a)
kind_view (ExpectedString a b) = expected_string (string_bytes a) (string_bytes b)
kind_view (Suffix a) = bad_suffix (string_bytes a)
kind_view (BadPath a) = bad_path (string_bytes a)
kind_view (BadType a b) = bad_type (string_bytes a) (string_bytes b)
kind_view (BadLifetimes a) = bad_lifetimes (string_bytes a)
kind_view (RepeatedLifetime a) = repeated_lifetime (string_bytes a)
kind_view NoLifetimeGiven = no_lifetime_given
kind_view (Syntax a) = bad_syntax a
kind_view Union = union_item
kind_view UntaggedOrder = untagged_order
kind_view (DefaultOrder a) = default_order a
kind_view RemoteGeneric = remote_generic
kind_view GetterEnum = getter_enum
kind_view GetterRemote = getter_remote
kind_view FlattenTuple = flatten_tuple
kind_view FlattenNewtype = flatten_newtype
kind_view OtherIdentifier = other_identifier
kind_view OtherUntagged = other_untagged
kind_view OtherLast = other_last
kind_view OtherUnit = other_unit
kind_view (NewtypeLast a) = newtype_last (string_bytes a)
kind_view FieldIdUnit = field_id_unit
kind_view VariantIdUnit = variant_id_unit
kind_view (SkipSer a) = skip_ser (string_bytes a)
kind_view (SkipSerField a b) = skip_ser_field (string_bytes a) (string_bytes b)
kind_view (SkipIfField a b) = skip_if_field (string_bytes a) (string_bytes b)
kind_view (SkipDe a) = skip_de (string_bytes a)
kind_view (SkipDeField a b) = skip_de_field (string_bytes a) (string_bytes b)
kind_view (TagConflict a) = tag_conflict (string_bytes a)
kind_view (SameTags a) = same_tags (string_bytes a)
kind_view TransparentFrom = transparent_from
kind_view TransparentTryFrom = transparent_try_from
kind_view TransparentInto = transparent_into
kind_view TransparentEnum = transparent_enum
kind_view TransparentUnit = transparent_unit
kind_view TransparentMany = transparent_many
kind_view TransparentNoneSer = transparent_none_ser
kind_view TransparentNoneDe = transparent_none_de
kind_view FromConflict = from_conflict

abbrev pub diagnostic_view : Diagnostic → DiagnosticD
diagnostic_view d = record { kind = kind_view d.kind; span = d.span }

-- what was collected, in order
abbrev pub diagnostics : Ctxt → List DiagnosticD
diagnostics c = map diagnostic_view c.errors.items

-- the diagnostic of an error of syntax
abbrev pub syntax : SyntaxError → DiagnosticD
syntax e = record { kind = bad_syntax e.kind; span = e.span }

-- a front of what was to be told stands after the old diagnostics
pub record TellsFront (old new told : List DiagnosticD) : Type 0 where
  pub front : List DiagnosticD
  pub rest : List DiagnosticD
  pub is_new : new ≡ old ++ front
  pub is_told : told ≡ front ++ rest
