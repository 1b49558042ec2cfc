-- What the attributes of a variant and of a field say (serde.rs, variant and field attributes).
use Rattle.std.specs.Prelude.{ℕ, ◌++◌, List, [], ◌∷◌, Bool, true, false, Option, Some, None, cond, unwrap_or, codes}
use Rattle.std.specs.declared.cmp.Ordering.{Ordering}
use Rattle.std.specs.Ordering.{nat_cmp}
use Rattle.std.specs.Cmp.Lexicographic.{slice_cmp}
use Rattle.std.specs.BTreeSet.{insert_key}
use Rattle.std.specs.Fmt.{decimal}
use Rattle.token_trees.specs.Token.{Name, site}
use Rattle.syntax_trees.specs.Syntax.{TyD, path, ExprPathD, expr_path, no_qself, LifetimeD, segment, SegmentD, end_segments, more_segments, no_arguments}
use Rattle.syntax_trees.specs.Item.{PredicateD, VariantD, FieldD}
use Rattle.attr_parts.specs.declared.rename.RenameAllRules.{RenameAllRules}
use Rattle.attr_parts.specs.declared.types.Elem.TheVariants.{Str, SliceU8}
use Rattle.attr_parts.specs.Diagnostics.{DiagnosticD}
use Rattle.attr_parts.specs.Lifetimes as types
use Rattle.attr_parts.specs.Names.{MultiNameD}
use Rattle.attr_parts.specs.Types.{is_cow_of, borrows_implicitly}
use Rattle.attr_parts.specs.Values.{DefaultD, no_default, own_default, lacks_default}
use Rattle.attr_defs.specs.Acts.{ActD, SettingD, values_of, added, told}
use Rattle.attr_defs.specs.Borrows.{field_borrow, set_of}
use Rattle.attr_defs.specs.Container.{plain_name}
use Rattle.attr_defs.specs.Looks.{name_of, default_of, predicates_of, function_of, lifetimes_of, look, is_set, rules_at}
use Rattle.attr_defs.specs.Owners.{of_variant, of_field, whole, written, read}
use Rattle.attr_defs.specs.Rows.{all_acts}
use Rattle.attr_defs.specs.Texts.{Lexing}

pub record VariantAttrs : Type 0 where
  pub name : MultiNameD
  pub rename_all : RenameAllRules
  pub ser_bound : Option (List PredicateD)
  pub de_bound : Option (List PredicateD)
  pub skip_deserializing : Bool
  pub skip_serializing : Bool
  pub other : Bool
  pub serialize_with : Option ExprPathD
  pub deserialize_with : Option ExprPathD
  pub borrow : Option SettingD
  pub untagged : Bool

pub record FieldAttrs : Type 0 where
  pub name : MultiNameD
  pub skip_serializing : Bool
  pub skip_deserializing : Bool
  pub skip_serializing_if : Option ExprPathD
  pub default : DefaultD
  pub serialize_with : Option ExprPathD
  pub deserialize_with : Option ExprPathD
  pub ser_bound : Option (List PredicateD)
  pub de_bound : Option (List PredicateD)
  pub borrowed_lifetimes : List LifetimeD
  pub getter : Option ExprPathD
  pub flatten : Bool
  pub transparent : Bool

-- names are in the order of their texts, each once, the first of equal ones
abbrev pub names_cmp : Name → Name → Ordering
names_cmp a b = slice_cmp nat_cmp a.text b.text

abbrev pub name_set : List Name → List Name → List Name
name_set old [] = old
name_set old (n ∷ ns) = name_set (insert_key names_cmp old n) ns

abbrev pub member_names : List ActD → Name → MultiNameD
member_names acts own = record {
  serialize = unwrap_or (look name_of (values_of acts (written (codes "rename")))) own;
  serialize_renamed = is_set (values_of acts (written (codes "rename")));
  deserialize = unwrap_or (look name_of (values_of acts (read (codes "rename")))) own;
  deserialize_renamed = is_set (values_of acts (read (codes "rename")));
  aliases = name_set [] (added acts);
}

abbrev pub variant_from : VariantD → List ActD → VariantAttrs
variant_from v acts = let s = values_of acts in record {
  name = member_names acts (plain_name v.name);
  rename_all = rules_at s (codes "rename_all");
  ser_bound = look predicates_of (s (written (codes "bound")));
  de_bound = look predicates_of (s (read (codes "bound")));
  skip_deserializing = is_set (s (whole (codes "skip_deserializing")));
  skip_serializing = is_set (s (whole (codes "skip_serializing")));
  other = is_set (s (whole (codes "other")));
  serialize_with = look function_of (s (whole (codes "serialize_with")));
  deserialize_with = look function_of (s (whole (codes "deserialize_with")));
  borrow = s (whole (codes "borrow"));
  untagged = is_set (s (whole (codes "untagged")));
}

abbrev pub variant_acts : Lexing → VariantD → List ActD
variant_acts lexing v = all_acts lexing (of_variant v) v.attrs

abbrev pub variant_attrs : Lexing → VariantD → VariantAttrs
variant_attrs lexing v = variant_from v (variant_acts lexing v)

abbrev pub variant_diagnostics : Lexing → VariantD → List DiagnosticD
variant_diagnostics lexing v = told (variant_acts lexing v)

-- the field's name, or its number
abbrev pub field_name_by : Option Name → ℕ → Name
field_name_by (Some n) index = plain_name n
field_name_by None index = record { text = decimal index; span = site }

abbrev pub field_name : FieldD → ℕ → Name
field_name f index = field_name_by f.name index

-- what its variant borrows comes first
abbrev pub handed_on : FieldD → Name → Option SettingD → List ActD
handed_on f n None = []
handed_on f n (Some s) = field_borrow f n s.at (lifetimes_of s.value)

abbrev pub field_acts : Lexing → FieldD → ℕ → Option SettingD → List ActD
field_acts lexing f index borrow = handed_on f (field_name f index) borrow ++ all_acts lexing (of_field f (field_name f index)) f.attrs

-- where a field that is never read has no default, it is its type's own, unless the container has one
abbrev pub field_default : Option DefaultD → Bool → DefaultD → DefaultD
field_default (Some d) skipped container = d
field_default None true container = cond (lacks_default container) own_default no_default
field_default None false container = no_default

-- the function that borrows a `Cow`
abbrev pub cow_function : Name → List ℕ → ExprPathD
cow_function private name =
    let part : List ℕ → SegmentD = λ x. segment (record { text = x; span = site }) no_arguments in
    expr_path no_qself (path false (more_segments (part (codes "_serde")) (more_segments (segment private no_arguments) (more_segments (part (codes "de")) (more_segments (part name) end_segments)))))

abbrev pub cow_by : Name → TyD → Option ExprPathD
cow_by private t = cond (is_cow_of Str t) (Some (cow_function private (codes "borrow_cow_str"))) (cond (is_cow_of SliceU8 t) (Some (cow_function private (codes "borrow_cow_bytes"))) None)

abbrev pub reader_of : Option ExprPathD → List LifetimeD → Name → TyD → Option ExprPathD
reader_of (Some f) held private t = Some f
reader_of None [] private t = None
reader_of None (l ∷ ls) private t = cow_by private t

-- what is held, and of a type that borrows without being asked, its own
abbrev pub held_by : List LifetimeD → TyD → List LifetimeD
held_by [] t = cond (borrows_implicitly t) (set_of (types.lifetimes_of t)) []
held_by (l ∷ ls) t = l ∷ ls

abbrev pub field_from : FieldD → ℕ → DefaultD → Name → List ActD → FieldAttrs
field_from f index container private acts =
    let s = values_of acts in
    let asked : List LifetimeD = unwrap_or (look lifetimes_of (s (whole (codes "borrow")))) [] in
    record {
      name = member_names acts (field_name f index);
      skip_serializing = is_set (s (whole (codes "skip_serializing")));
      skip_deserializing = is_set (s (whole (codes "skip_deserializing")));
      skip_serializing_if = look function_of (s (whole (codes "skip_serializing_if")));
      default = field_default (look default_of (s (whole (codes "default")))) (is_set (s (whole (codes "skip_deserializing")))) container;
      serialize_with = look function_of (s (whole (codes "serialize_with")));
      deserialize_with = reader_of (look function_of (s (whole (codes "deserialize_with")))) asked private f.ty;
      ser_bound = look predicates_of (s (written (codes "bound")));
      de_bound = look predicates_of (s (read (codes "bound")));
      borrowed_lifetimes = held_by asked f.ty;
      getter = look function_of (s (whole (codes "getter")));
      flatten = is_set (s (whole (codes "flatten")));
      transparent = false;
    }

-- a field by its place from 0; what its variant borrows, the container's default and the name of the private module are given
abbrev pub field_attrs : Lexing → FieldD → ℕ → Option SettingD → DefaultD → Name → FieldAttrs
field_attrs lexing f index borrow container private = field_from f index container private (field_acts lexing f index borrow)

abbrev pub field_diagnostics : Lexing → FieldD → ℕ → Option SettingD → List DiagnosticD
field_diagnostics lexing f index borrow = told (field_acts lexing f index borrow)
