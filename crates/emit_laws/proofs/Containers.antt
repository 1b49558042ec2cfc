-- Items as they are read.
use Rattle.std.proofs.Common.{◌≡◌, ℕ, List, [], ◌∷◌, ◌++◌, map, Bool, true, false, not, refl, ap, ◌∙◌, codes}
use Rattle.std.specs.Prelude.{Option, Some, None, option_map, Result, Ok}
use Rattle.token_trees.specs.Token.{Tok, Name, site}
use Rattle.token_trees.specs.Text.{text_of}
use Rattle.syntax_trees.specs.Syntax.{TyD}
use Rattle.syntax_trees.specs.Item.{BodyD, ItemD}
use Rattle.syntax_trees.specs.declared.cursor.SyntaxError.{SyntaxError}
use Rattle.syntax_printing.specs.Print.{print_ty}
use Rattle.syntax_parsers.specs.Whole as whole_readers
use Rattle.attr_parts.specs.declared.values.Identifier.TheVariants as identifiers
use Rattle.attr_parts.specs.Diagnostics.{DiagnosticD, bad_type}
use Rattle.attr_parts.specs.Values.{no_default, TagD, external, internal, adjacent, untagged}
use Rattle.attr_defs.specs.Acts.{ActD, sets, is_flag, is_plain, is_ty, values_of, told}
use Rattle.attr_defs.specs.Container.{unraw, ContainerAttrs, container_from, container_acts, container_diagnostics, tuple_told, tag_told, identifier_told}
use Rattle.attr_defs.specs.Owners.{of_container, whole}
use Rattle.attr_defs.specs.Renames.{Meaning}
use Rattle.attr_defs.specs.Rows.{set_maybe, excess, unless_ended, acts_of}
use Rattle.attr_defs.specs.Steps.{Step, does, ◌>>=◌}
use Rattle.attr_defs.specs.Texts.{lexed, read_text, parsed_by}
use Rattle.container_defs.specs.declared.style.Style.TheVariants.{Struct, Newtype}
use Rattle.container_defs.specs.Container.{ReadData, read_enum, read_struct, ReadContainer}
use Rattle.container_defs.specs.Reading.{variant_of, data_of, name_variant, name_data, container_of}
use Rattle.model_defs.specs.Model as model
use Rattle.model_defs.specs.Model.{TagModel, external_tag, internal_tag, adjacent_tag}
use Rattle.entry_defs.specs.Entry.{Shape, struct_shape, enum_shape, newtype_shape, Variants, no_variants, variant_then, unit_contents, newtype_contents, tuple_contents, struct_contents, fields_of, rest_of, variants_of}
use Rattle.entry_defs.specs.Table.{ItemEntry}
use Rattle.emit_defs.specs.Formed.{TagFits, StandBeside}
use Rattle.emit_defs.specs.Setting.{Setting, ends_in_phantom}
use Rattle.emit_defs.specs.Models.{after_contents, is_transparent, is_closed}
use Rattle.emit_defs.specs.Trees.{Carried, flag, serde, when, name_at, used_tree, item_metas, shape_tree, variant_trees, item_tree}
use Rattle.emit_texts.specs.Laws.{literal, FunctionsAreRead}
use Rattle.emit_laws.proofs.Metas.{as_part, acts_read}
use Rattle.emit_laws.proofs.Fields.{no_rules}
use Rattle.emit_laws.proofs.Bodies.{ArePlain, RestIsPlain, ContentsArePlain, HasStyle, made_place, made_struct, made_variants, struct_made, variant_made}

abbrev pub tag_read : TagModel → TagD
tag_read external_tag = external
tag_read (internal_tag t) = internal t
tag_read (adjacent_tag t c) = adjacent t c
tag_read model.untagged = untagged

-- ---- what is said of an item

abbrev pub container_attrs_of : Name → Bool → Bool → TagD → Option TyD → ContainerAttrs
container_attrs_of n transparent closed tag t = record {
  name = record { serialize = n; serialize_renamed = false; deserialize = n; deserialize_renamed = false; aliases = [] };
  rename_all = no_rules;
  rename_all_fields = no_rules;
  transparent = transparent;
  deny_unknown_fields = closed;
  default = no_default;
  ser_bound = None;
  de_bound = None;
  tag = tag;
  type_from = None;
  type_try_from = t;
  type_into = None;
  remote = None;
  is_packed = false;
  identifier = identifiers.No;
  serde_path = None;
  expecting = None;
  non_exhaustive = false;
}

abbrev plain_at : List ℕ → List ℕ → ActD
plain_at n t = sets (whole n) site (is_plain t)

abbrev flag_at : List ℕ → ActD
flag_at n = sets (whole n) site is_flag

abbrev tag_acts : TagModel → List ActD
tag_acts external_tag = []
tag_acts (internal_tag t) = plain_at (codes "tag") t ∷ []
tag_acts (adjacent_tag t c) = plain_at (codes "tag") t ∷ plain_at (codes "content") c ∷ []
tag_acts model.untagged = flag_at (codes "untagged") ∷ []

abbrev flag_acts : Bool → List ℕ → List ActD
flag_acts true n = flag_at n ∷ []
flag_acts false n = []

-- u is the type that the text of `try_from` is read as
module _ (s : Setting) (n : List ℕ) (u : TyD) where
  abbrev the_item : Shape → ItemEntry
  the_item h = record { name = n; shape = h }

  abbrev pub TypeIsRead : Shape → Type 0
  TypeIsRead (newtype_shape e (Some r)) = read_text lexed whole_readers.type_of (literal (text_of (print_ty (used_tree s n e)))) ≡ Ok u
  TypeIsRead (newtype_shape e None) = Unit {0}
  TypeIsRead (struct_shape closed fs) = Unit {0}
  TypeIsRead (enum_shape closed tag ws) = Unit {0}

  abbrev shape_acts : Shape → List ActD
  shape_acts (struct_shape closed fs) = flag_acts closed (codes "deny_unknown_fields")
  shape_acts (enum_shape closed tag ws) = tag_acts tag ++ flag_acts closed (codes "deny_unknown_fields")
  shape_acts (newtype_shape e None) = flag_acts (not (ends_in_phantom s.name s.is_boxed n e)) (codes "transparent")
  shape_acts (newtype_shape e (Some r)) = sets (whole (codes "try_from")) site (is_ty u) ∷ []

  abbrev pub tag_in : Shape → TagD
  tag_in (enum_shape closed tag ws) = tag_read tag
  tag_in (struct_shape closed fs) = external
  tag_in (newtype_shape e rule) = external

  abbrev pub type_in : Shape → Option TyD
  type_in (newtype_shape e (Some r)) = Some u
  type_in (newtype_shape e None) = None
  type_in (struct_shape closed fs) = None
  type_in (enum_shape closed tag ws) = None

  abbrev pub made_attrs : Shape → ContainerAttrs
  made_attrs h = container_attrs_of (record { text = unraw n; span = site }) (is_transparent s n h) (is_closed h) (tag_in h) (type_in h)

  abbrev type_acts : ItemD → List ℕ → Result TyD SyntaxError → List ActD
  type_acts i x r =
      let t : Step (List Tok) = (parsed_by (bad_type (codes "try_from") x) site r >>= (λ o. does (set_maybe (whole (codes "try_from")) site is_ty o) [])) >>= excess in
      t.acts ++ unless_ended t.value []

  abbrev tail_metas : Bool → List Carried
  tail_metas b = (([] ++ when b (flag (codes "transparent"))) ++ []) ++ []

  module _ (m : ℕ) where
    abbrev tree : Shape → ItemD
    tree h = item_tree s m (the_item h)

    acts_in : (h : Shape) → TypeIsRead h → acts_of lexed (of_container (tree h)) (map as_part (item_metas s (the_item h))) ≡ shape_acts h
    acts_in (struct_shape true fs) r = refl
    acts_in (struct_shape false fs) r = refl
    acts_in (enum_shape true external_tag ws) r = refl
    acts_in (enum_shape false external_tag ws) r = refl
    acts_in (enum_shape true (internal_tag t) ws) r = refl
    acts_in (enum_shape false (internal_tag t) ws) r = refl
    acts_in (enum_shape true (adjacent_tag t c) ws) r = refl
    acts_in (enum_shape false (adjacent_tag t c) ws) r = refl
    acts_in (enum_shape true model.untagged ws) r = refl
    acts_in (enum_shape false model.untagged ws) r = refl
    acts_in (newtype_shape e (Some rule)) r = ap (type_acts (tree (newtype_shape e (Some rule))) (text_of (print_ty (used_tree s n e)))) r
    acts_in (newtype_shape e None) r = go (not (ends_in_phantom s.name s.is_boxed n e))
      where
        go : (b : Bool) → acts_of lexed (of_container (tree (newtype_shape e None))) (map as_part (tail_metas b)) ≡ flag_acts b (codes "transparent")
        go true = refl
        go false = refl

    acts_made : (h : Shape) → TypeIsRead h → container_acts lexed (tree h) ≡ shape_acts h
    acts_made h r = acts_read lexed (of_container (tree h)) (item_metas s (the_item h)) ∙ acts_in h r

    attrs_made : (h : Shape) → container_from (tree h) (values_of (shape_acts h)) ≡ made_attrs h
    attrs_made (struct_shape true fs) = refl
    attrs_made (struct_shape false fs) = refl
    attrs_made (enum_shape true external_tag ws) = refl
    attrs_made (enum_shape false external_tag ws) = refl
    attrs_made (enum_shape true (internal_tag t) ws) = refl
    attrs_made (enum_shape false (internal_tag t) ws) = refl
    attrs_made (enum_shape true (adjacent_tag t c) ws) = refl
    attrs_made (enum_shape false (adjacent_tag t c) ws) = refl
    attrs_made (enum_shape true model.untagged ws) = refl
    attrs_made (enum_shape false model.untagged ws) = refl
    attrs_made (newtype_shape e (Some rule)) = refl
    attrs_made (newtype_shape e None) = go (not (ends_in_phantom s.name s.is_boxed n e))
      where
        go : (b : Bool) → container_from (record (tree (newtype_shape e None)) { attrs = serde (tail_metas b) }) (values_of (flag_acts b (codes "transparent")))
            ≡ container_attrs_of (record { text = unraw n; span = site }) b false external None
        go true = refl
        go false = refl

    -- ---- nothing is told of its attributes

    no_tuple : (tag : List ℕ) (k : ℕ) (ws : Variants) → StandBeside tag ws → tuple_told (variant_trees s n k (variants_of ws)) ≡ []
    no_tuple tag k no_variants h = refl
    no_tuple tag k (variant_then i x unit_contents ws) h = no_tuple tag (after_contents unit_contents k) ws h.1
    no_tuple tag k (variant_then i x (struct_contents fs) ws) h = no_tuple tag (after_contents (struct_contents fs) k) ws h.1
    no_tuple tag k (variant_then i x (newtype_contents e) ws) h = absurd h.0
    no_tuple tag k (variant_then i x (tuple_contents es) ws) h = absurd h.0

    abbrev told_by : BodyD → List ActD → List DiagnosticD
    told_by body acts = told acts ++ tag_told body (values_of acts) ++ identifier_told body (values_of acts)

    untold : (closed : Bool) (tag : TagModel) (ws : Variants) → TagFits tag ws → told_by (shape_tree s n m (enum_shape closed tag ws)) (shape_acts (enum_shape closed tag ws)) ≡ []
    untold true external_tag ws f = refl
    untold false external_tag ws f = refl
    untold true (internal_tag t) ws f = ap (λ z. z ++ []) (no_tuple t m ws f)
    untold false (internal_tag t) ws f = ap (λ z. z ++ []) (no_tuple t m ws f)
    untold true (adjacent_tag t c) ws f = refl
    untold false (adjacent_tag t c) ws f = refl
    untold true model.untagged ws f = refl
    untold false model.untagged ws f = refl

    abbrev pub TagsFit : Shape → Type 0
    TagsFit (enum_shape closed tag ws) = TagFits tag ws
    TagsFit (struct_shape closed fs) = Unit {0}
    TagsFit (newtype_shape e rule) = Unit {0}

    none_told : (h : Shape) → TagsFit h → told_by (shape_tree s n m h) (shape_acts h) ≡ []
    none_told (struct_shape true fs) f = refl
    none_told (struct_shape false fs) f = refl
    none_told (enum_shape closed tag ws) f = untold closed tag ws f
    none_told (newtype_shape e (Some rule)) f = refl
    none_told (newtype_shape e None) f = go (not (ends_in_phantom s.name s.is_boxed n e))
      where
        go : (b : Bool) → told_by (shape_tree s n m (newtype_shape e None)) (flag_acts b (codes "transparent")) ≡ []
        go true = refl
        go false = refl

    pub attributes_untold : (h : Shape) → TypeIsRead h → TagsFit h → container_diagnostics lexed (tree h) ≡ []
    attributes_untold h r f = ap (told_by (shape_tree s n m h)) (acts_made h r) ∙ none_told h f

    -- ---- the container

    abbrev pub made_body : Shape → ReadData
    made_body (struct_shape closed fs) = read_struct Struct (made_struct s n m fs)
    made_body (enum_shape closed tag ws) = read_enum (made_variants s n m (variants_of ws))
    made_body (newtype_shape e rule) = read_struct Newtype (made_place 0 (used_tree s n e) ∷ [])

    abbrev pub made_container : Shape → ReadContainer
    made_container h = record { name = name_at n; attrs = made_attrs h; body = made_body h; params = []; predicates = []; original = tree h }

    abbrev pub VariantsFit : Variants → Type 0
    VariantsFit no_variants = Unit {0}
    VariantsFit (variant_then i x c ws) = (unraw i ≡ i) × ContentsArePlain c × HasStyle s n c × VariantsFit ws

    abbrev pub ShapeFits : Shape → Type 0
    ShapeFits (struct_shape closed fs) = ArePlain (fields_of fs) × RestIsPlain (rest_of fs)
    ShapeFits (enum_shape closed tag ws) = VariantsFit ws
    ShapeFits (newtype_shape e rule) = Unit {0}

    module _ (variant_name field_name : Meaning) (private : Name) where
      -- the container by its attributes
      abbrev by_attrs : ItemD → ContainerAttrs → Option ReadContainer
      by_attrs i a =
          option_map (λ d. record { name = i.name; attrs = a; body = name_data variant_name field_name a d; params = i.params; predicates = i.predicates; original = i }) (data_of lexed private a.default i.body)

      module _ (functions : FunctionsAreRead) where
        variants_made : (closed : Bool) (tag : TagD) (ws : Variants) (k : ℕ) → VariantsFit ws
            → map (name_variant variant_name field_name (container_attrs_of (record { text = unraw n; span = site }) false closed tag None)) (map (variant_of lexed private no_default) (variant_trees s n k (variants_of ws))) ≡ made_variants s n k (variants_of ws)
        variants_made closed tag no_variants k f = refl
        variants_made closed tag (variant_then i x c ws) k f =
            let one = variant_made s n variant_name field_name private functions k (record { identifier = i; name = x; contents = c }) f.0 f.1 f.2 in
            let rec = variants_made closed tag ws (after_contents c k) f.3 in
            λ j. one j ∷ rec j

        body_made : (h : Shape) → ShapeFits h → by_attrs (tree h) (made_attrs h) ≡ Some (made_container h)
        body_made (struct_shape closed fs) f =
            ap (λ z. Some (record (made_container (struct_shape closed fs)) { body = read_struct Struct z })) (struct_made s n variant_name field_name private functions fs m f.0 f.1)
        body_made (newtype_shape e rule) f = refl
        body_made (enum_shape closed tag ws) f =
            ap (λ z. Some (record (made_container (enum_shape closed tag ws)) { body = read_enum z })) (variants_made closed (tag_read tag) ws m f)

        pub container_made : (h : Shape) → TypeIsRead h → ShapeFits h → container_of lexed variant_name field_name private (tree h) ≡ Some (made_container h)
        container_made h t f =
            ap (λ acts. by_attrs (tree h) (container_from (tree h) (values_of acts))) (acts_made h t)
            ∙ ap (by_attrs (tree h)) (attrs_made h)
            ∙ body_made h f
