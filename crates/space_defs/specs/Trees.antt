-- The items that are written for a space, as syntax trees.
use Rattle.std.specs.Prelude.{ℕ, ◌+◌, List, [], ◌∷◌, ◌++◌, length, map, Bool, true, false, Option, Some, None, codes}
use Rattle.std.specs.List.{flat_map}
use Rattle.token_trees.specs.Token.{site}
use Rattle.token_trees.specs.Text.{text_of}
use Rattle.syntax_trees.specs.Syntax.{TyD}
use Rattle.syntax_trees.specs.Item.{FieldD, FieldsD, named_fields, unnamed_fields, unit_fields, VariantD, BodyD, struct_body, enum_body, ItemD}
use Rattle.syntax_printing.specs.Print.{print_ty}
use Rattle.json_value.specs.Value.{Value}
use Rattle.model_defs.specs.Model.{RuleD, ConstraintD, ConversionsD}
use Rattle.entry_defs.specs.Entry.{State, required, optional, stated}
use Rattle.entry_defs.specs.Space.{Id, FieldAt, RestAt, ContentsAt, unit_at, newtype_at, tuple_at, struct_at, VariantAt, ShapeAt, struct_shape_at, enum_shape_at, newtype_shape_at, EntryAt, option_at, vec_at, set_at, map_at, Space, entry_at}
use Rattle.emit_defs.specs.Models.{empty_option, empty_vec, empty_set, empty_map, Manner, plain, whole, defaulted, skipped, held, state_defaults, after_state}
use Rattle.emit_defs.specs.Trees as trees
use Rattle.emit_defs.specs.Trees.{Carried, flag, valued, serde, when, rename_metas, manner_metas, manner_ty, tag_metas, text_ty, map_ty, unnamed_field}
use Rattle.space_defs.specs.Items.{ItemAt}
use Rattle.space_defs.specs.Leads.{is_transparent_at}
use Rattle.space_defs.specs.Types.{none_boxed, ty_at}

-- ---- stated defaults in order

abbrev pub field_defaults_at : List FieldAt → List Value
field_defaults_at gs = flat_map (λ g. state_defaults g.state) gs

abbrev pub contents_defaults_at : ContentsAt → List Value
contents_defaults_at (struct_at gs) = field_defaults_at gs
contents_defaults_at _ = []

abbrev pub shape_defaults_at : ShapeAt → List Value
shape_defaults_at (struct_shape_at closed gs p) = field_defaults_at gs
shape_defaults_at (enum_shape_at closed tag xs) = flat_map (λ x. contents_defaults_at x.contents) xs
shape_defaults_at (newtype_shape_at j rule) = []

-- ---- the table of conversions, in the order of the items

abbrev pub shape_rules_at : ShapeAt → List RuleD
shape_rules_at (newtype_shape_at j (Some r)) = r ∷ []
shape_rules_at _ = []

abbrev pub item_constraints_at : ItemAt → List ConstraintD
item_constraints_at i = map (λ r. record { item = i.name; rule = r }) (shape_rules_at i.shape)

abbrev pub conversions_at : List ItemAt → ConversionsD
conversions_at is = record { constraints = flat_map item_constraints_at is; defaults = flat_map (λ i. shape_defaults_at i.shape) is }

-- ---- how a field is written

abbrev pub optional_manner_at : Option EntryAt → Manner
optional_manner_at (Some (option_at j)) = skipped empty_option
optional_manner_at (Some (vec_at j)) = skipped empty_vec
optional_manner_at (Some (set_at j)) = skipped empty_set
optional_manner_at (Some (map_at l j)) = skipped empty_map
optional_manner_at _ = held

-- where it is known whether the entry leads to an option
abbrev pub manner_at : Bool → State → Option EntryAt → Manner
manner_at true required e = whole
manner_at false required e = plain
manner_at leads optional e = optional_manner_at e
manner_at leads (stated v) e = defaulted

-- ---- what an item's shape says of its attribute

abbrev pub shape_tag_at : ShapeAt → List Carried
shape_tag_at (enum_shape_at closed tag xs) = tag_metas tag
shape_tag_at _ = []

abbrev pub is_closed_at : ShapeAt → Bool
is_closed_at (struct_shape_at closed gs p) = closed
is_closed_at (enum_shape_at closed tag xs) = closed
is_closed_at (newtype_shape_at j rule) = false

-- ---- items; `boxed` says of two items whether the first boxes its uses of the second, `leads` whether an entry leads to an option, and n is the place of the next stated default

module _ (space : Space) (boxed : Id → Id → Bool) (leads : Id → Bool) where
  module _ (owner : Id) where
    abbrev pub used_tree_at : Id → TyD
    used_tree_at j = ty_at space (boxed owner) j

    abbrev pub field_manner_at : FieldAt → Manner
    field_manner_at g = manner_at (leads g.entry) g.state (entry_at space g.entry)

    abbrev pub field_tree_at : ℕ → FieldAt → FieldD
    field_tree_at n g = record {
      attrs = serde (rename_metas g.identifier g.name ++ manner_metas n (field_manner_at g));
      name = Some (trees.name_at g.identifier);
      ty = manner_ty (field_manner_at g) (used_tree_at g.entry);
    }

    abbrev pub field_trees_at : ℕ → List FieldAt → List FieldD
    field_trees_at n [] = []
    field_trees_at n (g ∷ gs) = field_tree_at n g ∷ field_trees_at (after_state g.state n) gs

    abbrev pub rest_trees_at : Option RestAt → List FieldD
    rest_trees_at None = []
    rest_trees_at (Some p) = record { attrs = serde (flag (codes "flatten") ∷ []); name = Some (trees.name_at p.identifier); ty = map_ty text_ty (ty_at space none_boxed p.entry) } ∷ []

    abbrev pub struct_trees_at : ℕ → List FieldAt → Option RestAt → List FieldD
    struct_trees_at n gs p = field_trees_at n gs ++ rest_trees_at p

    abbrev pub unnamed_trees_at : List Id → List FieldD
    unnamed_trees_at [] = []
    unnamed_trees_at (j ∷ js) = unnamed_field (used_tree_at j) ∷ unnamed_trees_at js

    abbrev pub contents_tree_at : ℕ → ContentsAt → FieldsD
    contents_tree_at n unit_at = unit_fields
    contents_tree_at n (newtype_at j) = unnamed_fields (unnamed_field (used_tree_at j) ∷ [])
    contents_tree_at n (tuple_at js) = unnamed_fields (unnamed_trees_at js)
    contents_tree_at n (struct_at gs) = named_fields (struct_trees_at n gs None)

    abbrev pub variant_tree_at : ℕ → VariantAt → VariantD
    variant_tree_at n x = record { attrs = serde (rename_metas x.identifier x.name); name = trees.name_at x.identifier; fields = contents_tree_at n x.contents }

    abbrev pub variant_trees_at : ℕ → List VariantAt → List VariantD
    variant_trees_at n [] = []
    variant_trees_at n (x ∷ xs) = variant_tree_at n x ∷ variant_trees_at (n + length (contents_defaults_at x.contents)) xs

    abbrev pub shape_tree_at : ℕ → ShapeAt → BodyD
    shape_tree_at n (struct_shape_at closed gs p) = struct_body (named_fields (struct_trees_at n gs p)) site
    shape_tree_at n (enum_shape_at closed tag xs) = enum_body (variant_trees_at n xs) site
    shape_tree_at n (newtype_shape_at j rule) = struct_body (unnamed_fields (unnamed_field (used_tree_at j) ∷ [])) site

    abbrev pub try_from_metas_at : ShapeAt → List Carried
    try_from_metas_at (newtype_shape_at j (Some r)) = valued (codes "try_from") (text_of (print_ty (used_tree_at j))) ∷ []
    try_from_metas_at _ = []

    abbrev pub shape_metas_at : ShapeAt → List Carried
    shape_metas_at s =
        shape_tag_at s
        ++ when (is_transparent_at space boxed owner s) (flag (codes "transparent"))
        ++ try_from_metas_at s
        ++ when (is_closed_at s) (flag (codes "deny_unknown_fields"))

  abbrev pub item_tree_at : ℕ → ItemAt → ItemD
  item_tree_at n i = record { attrs = serde (shape_metas_at i.id i.shape); name = trees.name_at i.name; params = []; predicates = []; body = shape_tree_at i.id n i.shape }

  abbrev pub item_trees_at : ℕ → List ItemAt → List ItemD
  item_trees_at n [] = []
  item_trees_at n (i ∷ is) = item_tree_at n i ∷ item_trees_at (n + length (shape_defaults_at i.shape)) is
