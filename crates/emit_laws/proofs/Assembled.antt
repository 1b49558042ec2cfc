-- The laws of emitted items, item by item.
use Rattle.std.proofs.Common.{◌≡◌, ◌≤◌, ◌+◌, ◌&&◌, ℕ, List, [], ◌∷◌, ◌++◌, map, length, true, not, refl, ap, ◌∙◌, Some, None, inl, inr, length-append, arith}
use Rattle.std.specs.Prelude.{option_map}
use Rattle.std.specs.List.{AllByRecursion, list_all, flat_map, filter_map, cons_option}
use Rattle.token_trees.specs.Token.{Name}
use Rattle.syntax_trees.specs.Syntax.{TyD}
use Rattle.attr_parts.specs.declared.derive.Derive.{Derive}
use Rattle.attr_defs.specs.Renames.{Meaning}
use Rattle.attr_defs.specs.Texts.{lexed}
use Rattle.container_defs.specs.Checks.{marked}
use Rattle.container_defs.specs.Forms.{is_known, names_of, leaves_forms}
use Rattle.container_defs.specs.Model.{model_of, diagnostics_of, told_at_last}
use Rattle.container_defs.specs.Reading.{container_of}
use Rattle.container_defs.specs.Reader.{reader_model, item_model}
use Rattle.model_defs.specs.Model.{ConversionsD}
use Rattle.model_defs.specs.Reads.{reads}
use Rattle.entry_defs.specs.Entry.{Entry, Fields, no_fields, field_then, field_again, rest_field, Shape, struct_shape, enum_shape, newtype_shape, Contents, unit_contents, newtype_contents, tuple_contents, struct_contents, Variants, no_variants, variant_then, fields_of, rest_of}
use Rattle.entry_defs.specs.Table.{ItemEntry, Table, target_name, items_of, Among}
use Rattle.entry_defs.specs.Sound.{EachInShape}
use Rattle.naming_defs.specs.Good.{is_good_name}
use Rattle.naming_defs.specs.Names.{identifiers, variant_identifiers}
use Rattle.naming_defs.specs.Laws.{ContentsAreGood, VariantsAreGood, ShapeIsGood}
use Rattle.emit_defs.specs.Formed.{EntryIsFormed, ContentsAreFormed, VariantsAreFormed, ShapeIsFormed, IsEmittable}
use Rattle.emit_defs.specs.Setting.{Setting, setting_of}
use Rattle.emit_defs.specs.Models.{unboxed, shape_defaults, conversions_of_items, model_of_item, models_of_items}
use Rattle.emit_defs.specs.Trees.{lone, item_tree, item_trees}
use Rattle.emit_defs.specs.Law.{IsOf}
use Rattle.emit_defs.proofs.Found.{of_table}
use Rattle.emit_defs.proofs.Meaning.{keeps_meaning}
use Rattle.emit_defs.proofs.Spelling.{types_spelled}
use Rattle.emit_texts.specs.Laws.{FunctionsAreRead, TypesAreReadAgain}
use Rattle.emit_laws.specs.Laws.{IsRoot, NothingIsTold, ItemsAreInside, ItemsAreRead, RootsAreRead, ItemsMeanEntries, TreesAreRoots}
use Rattle.emit_laws.proofs.Alone.{one_named, ruled}
use Rattle.emit_laws.proofs.Bodies.{ArePlain, RestIsPlain, ContentsArePlain, HasStyle}
use Rattle.emit_laws.proofs.Containers.{TypeIsRead, TagsFit, VariantsFit, ShapeFits, made_container, container_made, attributes_untold}
use Rattle.emit_laws.proofs.Told.{members_untold}
use Rattle.emit_laws.proofs.Checks.{checks_untold}
use Rattle.emit_laws.proofs.Read.{P, Q, named_items, written, good_names, entry_known, container_read}
use Rattle.emit_laws.proofs.Outside.{TypeMeans, InTable, never_outside}
use Rattle.emit_laws.proofs.Whole.{each_among, item_named, entry_named, shapes_named}
use Rattle.emit_laws.proofs.Words.{is_plain}

-- ---- good names aren't written raw

abbrev Good : List ℕ → Type 0
Good n = is_good_name n ≡ true

plain_fields : (fs : Fields) → AllByRecursion Good (identifiers fs) → ArePlain (fields_of fs)
plain_fields no_fields g = tt
plain_fields (field_then i n e s fs) g = (is_plain i g.0, plain_fields fs g.1)
plain_fields (field_again i n fs) g = (is_plain i g.0, plain_fields fs g.1)
plain_fields (rest_field i e) g = tt

plain_rest : (fs : Fields) → AllByRecursion Good (identifiers fs) → RestIsPlain (rest_of fs)
plain_rest no_fields g = tt
plain_rest (field_then i n e s fs) g = plain_rest fs g.1
plain_rest (field_again i n fs) g = plain_rest fs g.1
plain_rest (rest_field i e) g = is_plain i g.0

plain_contents : (c : Contents) → ContentsAreGood is_good_name c → ContentsArePlain c
plain_contents unit_contents g = tt
plain_contents (newtype_contents e) g = tt
plain_contents (tuple_contents es) g = tt
plain_contents (struct_contents fs) g = (plain_fields fs g.1, plain_rest fs g.1)

has_style : (s : Setting) (n : List ℕ) (c : Contents) → ContentsAreFormed c → HasStyle s n c
has_style s n unit_contents f = tt
has_style s n (newtype_contents e) f = tt
has_style s n (tuple_contents es) f = f.0
has_style s n (struct_contents fs) f = tt

variants_fit : (s : Setting) (n : List ℕ) (u : TyD) (m : ℕ) (ws : Variants) → AllByRecursion Good (variant_identifiers ws) → VariantsAreGood is_good_name ws → VariantsAreFormed ws → VariantsFit s n u m ws
variants_fit s n u m no_variants g k f = tt
variants_fit s n u m (variant_then i x c ws) g k f = (is_plain i g.0, plain_contents c k.0, has_style s n c f.0, variants_fit s n u m ws g.1 k.1 f.1)

shape_fits : (s : Setting) (n : List ℕ) (u : TyD) (m : ℕ) (h : Shape) → ShapeIsGood is_good_name h → ShapeIsFormed h → ShapeFits s n u m h
shape_fits s n u m (struct_shape closed fs) g f = (plain_fields fs g.1, plain_rest fs g.1)
shape_fits s n u m (enum_shape closed tag ws) g f = variants_fit s n u m ws g.0.1 g.1 f.1
shape_fits s n u m (newtype_shape e rule) g f = tt

tags_fit : (s : Setting) (n : List ℕ) (u : TyD) (m : ℕ) (h : Shape) → ShapeIsFormed h → TagsFit s n u m h
tags_fit s n u m (struct_shape closed fs) f = tt
tags_fit s n u m (enum_shape closed tag ws) f = f.0
tags_fit s n u m (newtype_shape e rule) f = tt

names_kept : (s : Setting) (is : List ItemEntry) (m : ℕ) → names_of (item_trees s m is) ≡ map (λ i. i.name) is
names_kept s [] m = refl
names_kept s (i ∷ is) m = ap (λ z. i.name ∷ z) (names_kept s is (m + length (shape_defaults i.shape)))

module _ (functions : FunctionsAreRead) (types : TypesAreReadAgain) (t : Table) (h : IsEmittable t) where
  abbrev s : Setting
  s = setting_of t

  abbrev cs : ConversionsD
  cs = conversions_of_items (items_of t)

  -- the type that the text of `try_from` is read as, where there is one
  record TypeFor (n : List ℕ) (m : ℕ) (c : Shape) : Type 0 where
    ty : TyD
    is_read : TypeIsRead s n ty c
    means : TypeMeans t n ty m c

  type_for : (n : List ℕ) (m : ℕ) (c : Shape) → ShapeIsFormed c → EachInShape (P t) (Q t) c → TypeFor n m c
  type_for n m (newtype_shape e (Some r)) f x =
      let k = types (target_name t) (s.is_boxed n) e f.1 (good_names t e x) in
      record { ty = k.0; is_read = k.1; means = k.2 }
  type_for n m (newtype_shape e None) f x = record { ty = lone []; is_read = tt; means = tt }
  type_for n m (struct_shape closed fs) f x = record { ty = lone []; is_read = tt; means = tt }
  type_for n m (enum_shape closed tag ws) f x = record { ty = lone []; is_read = tt; means = tt }

  -- an item at its place
  record Ready (m : ℕ) (i : ItemEntry) : Type 0 where
    u : TyD
    is_read : TypeIsRead s i.name u i.shape
    fits : ShapeFits s i.name u m i.shape
    tags : TagsFit s i.name u m i.shape
    stands : InTable t i.name u m i.shape

  ready : (m : ℕ) (i : ItemEntry) → Among i (items_of t) → m + length (shape_defaults i.shape) ≤ length cs.defaults → Ready m i
  ready m i a r =
      let formed : ShapeIsFormed i.shape = each_among (λ x. ShapeIsFormed x.shape) (items_of t) h.formed.items i a in
      let each : EachInShape (P t) (Q t) i.shape = each_among (λ x. EachInShape (P t) (Q t) x.shape) (items_of t) (shapes_named t h) i a in
      let good = each_among (λ x. (is_good_name x.name ≡ true) × ShapeIsGood is_good_name x.shape) (items_of t) h.named i a in
      let ty = type_for i.name m i.shape formed each in
      record {
        u = ty.ty;
        is_read = ty.is_read;
        fits = shape_fits s i.name ty.ty m i.shape good.1 formed;
        tags = tags_fit s i.name ty.ty m i.shape formed;
        stands = record {
          formed = formed;
          each = each;
          within = r;
          alone = one_named i.name (named_items t) h.sound.distinct (item_named t h i a).known;
          ruled = ruled (items_of t) h.sound.distinct i a;
          means = ty.means;
        };
      }

  module _ (variant_name field_name : Meaning) (private : Name) (derive : Derive) where
    one_made : (m : ℕ) (i : ItemEntry) (k : Ready m i) → container_of lexed variant_name field_name private (item_tree s m i) ≡ Some (made_container s i.name k.u m i.shape)
    one_made m i k =
        container_made s i.name k.u m variant_name field_name private functions i.shape k.is_read k.fits

    one_untold : (m : ℕ) (i : ItemEntry) → Ready m i → diagnostics_of lexed variant_name field_name private (item_tree s m i) derive ≡ []
    one_untold m i k =
        let attributes = attributes_untold s i.name k.u m i.shape k.is_read k.tags in
        let members = members_untold functions s i.name i.shape m in
        let last = ap (told_at_last derive (item_tree s m i)) (one_made m i k) ∙ checks_untold s i.name k.u i.shape m derive k.stands.formed in
        λ j. attributes j ++ (members j ++ last j)

    one_inside : (m : ℕ) (i : ItemEntry) → Ready m i → not (leaves_forms (named_items t) cs (model_of lexed variant_name field_name private (item_tree s m i) derive)) ≡ true
    one_inside m i k = ap (λ o. not (leaves_forms (named_items t) cs (option_map (marked derive) o))) (one_made m i k) ∙ ap not (never_outside t i.name k.u m i.shape derive k.stands)

    one_read : (m : ℕ) (i : ItemEntry) → Ready m i → item_model lexed variant_name field_name private (item_tree s m i) derive ≡ Some (model_of_item s m i)
    one_read m i k =
        ap (λ o. option_map reader_model (option_map (marked derive) o)) (one_made m i k) ∙ ap Some (container_read t i.name k.u m i.shape derive k.stands.formed k.stands.each)

    -- ---- all items

    all_untold : (is : List ItemEntry) (m : ℕ) → ((i : ItemEntry) → Among i is → Among i (items_of t)) → m + length (flat_map (λ i. shape_defaults i.shape) is) ≤ length cs.defaults
        → AllByRecursion (λ i. diagnostics_of lexed variant_name field_name private i derive ≡ []) (item_trees s m is)
    all_untold [] m a r = tt
    all_untold (i ∷ is) m a r =
        let long = length-append (shape_defaults i.shape) (flat_map (λ j. shape_defaults j.shape) is) in
        (one_untold m i (ready m i (a i (inl refl)) (omega arith)), all_untold is (m + length (shape_defaults i.shape)) (λ j b. a j (inr b)) (omega arith))

    all_inside : (is : List ItemEntry) (m : ℕ) → ((i : ItemEntry) → Among i is → Among i (items_of t)) → m + length (flat_map (λ i. shape_defaults i.shape) is) ≤ length cs.defaults
        → list_all (λ i. not (leaves_forms (named_items t) cs (model_of lexed variant_name field_name private i derive))) (item_trees s m is) ≡ true
    all_inside [] m a r = refl
    all_inside (i ∷ is) m a r =
        let long = length-append (shape_defaults i.shape) (flat_map (λ j. shape_defaults j.shape) is) in
        let one = one_inside m i (ready m i (a i (inl refl)) (omega arith)) in
        let rec = all_inside is (m + length (shape_defaults i.shape)) (λ j b. a j (inr b)) (omega arith) in
        λ k. one k && rec k

    all_read : (is : List ItemEntry) (m : ℕ) → ((i : ItemEntry) → Among i is → Among i (items_of t)) → m + length (flat_map (λ i. shape_defaults i.shape) is) ≤ length cs.defaults
        → filter_map (λ i. item_model lexed variant_name field_name private i derive) (item_trees s m is) ≡ models_of_items s m is
    all_read [] m a r = refl
    all_read (i ∷ is) m a r =
        let long = length-append (shape_defaults i.shape) (flat_map (λ j. shape_defaults j.shape) is) in
        let one = one_read m i (ready m i (a i (inl refl)) (omega arith)) in
        let rec = all_read is (m + length (shape_defaults i.shape)) (λ j b. a j (inr b)) (omega arith) in
        λ k. cons_option (one k) (rec k)

module _ (functions : FunctionsAreRead) (types : TypesAreReadAgain) where
  pub nothing_is_told : NothingIsTold
  nothing_is_told variant_name field_name private derive t h e = all_untold functions types t h variant_name field_name private derive (items_of t) 0 (λ i a. a) (omega arith)

  pub items_are_inside : ItemsAreInside
  items_are_inside variant_name field_name private derive t h e =
      ap (λ ns. list_all (λ i. not (leaves_forms ns (conversions_of_items (items_of t)) (model_of lexed variant_name field_name private i derive))) (item_trees (setting_of t) 0 (items_of t))) (names_kept (setting_of t) (items_of t) 0)
      ∙ all_inside functions types t h variant_name field_name private derive (items_of t) 0 (λ i a. a) (omega arith)

  pub items_are_read : ItemsAreRead
  items_are_read variant_name field_name private derive t h e = all_read functions types t h variant_name field_name private derive (items_of t) 0 (λ i a. a) (omega arith)

  pub roots_are_read : RootsAreRead
  roots_are_read t h e r =
      let each = entry_named t h e r.its_own in
      let spelled = types_spelled (setting_of t).name unboxed e (written t e r.formed each) in
      ((λ i. is_known (names_kept (setting_of t) (items_of t) 0 i) (spelled i)) ∙ entry_known t unboxed e each, spelled)

  pub items_mean_entries : ItemsMeanEntries
  items_mean_entries variant_name field_name private derive t h relations e r v =
      let back = items_are_read variant_name field_name private derive t h e in
      let root = (roots_are_read t h e r).1 in
      (λ k. reads (back k) (conversions_of_items (items_of t)) relations (root k) v) ∙ keeps_meaning t relations h.sound e r.its_own v

roots : (t : Table) (es : List Entry) → AllByRecursion (IsOf t) es → AllByRecursion EntryIsFormed es → AllByRecursion (IsRoot t) es
roots t [] o f = tt
roots t (e ∷ es) o f = (record { its_own = o.0; formed = f.0 }, roots t es o.1 f.1)

pub trees_are_roots : TreesAreRoots
trees_are_roots t h = roots t t.trees (of_table t h.sound).trees h.formed.trees
