-- What a program's items have in string literals is in UTF-8, as each text of a program is. So are the names in JSON of the table that they are emitted for.
use Rattle.std.proofs.Common.{◌≡◌, ◌+◌, ℕ, Bool, true, false, List, [], ◌∷◌, ◌++◌, map, length, cond, codes, bytes_eq, string_bytes, refl, ap, sym, subst, ◌∙◌}
use Rattle.std.specs.Prelude.{⊤, Some, None}
use Rattle.std.specs.List.{AllByRecursion}
use Rattle.std.specs.Str.{IsUtf8}
use Rattle.std.proofs.lemmas.Slice.Eq.{bytes_eq-Decides}
use Rattle.std.proofs.lemmas.Str.{IsUtf8-string_bytes}
use Rattle.token_trees.specs.Token.{Fixed, text, digits, other, Tok, word, mark, fixed, group}
use Rattle.token_trees.specs.View.{tree, trees, stream, fixed_view, tree_step, group_step, stream_step}
use Rattle.token_trees.specs.declared.token.Lit.{Lit}
use Rattle.token_trees.specs.declared.token.Lit.TheVariants.{Str, Int, Other}
use Rattle.token_trees.specs.declared.token.Group.{Group}
use Rattle.token_trees.specs.declared.token.TokenStream.{TokenStream, out-TokenStream}
use Rattle.token_trees.specs.declared.token.TokenTree.{TokenTree, out-TokenTree, roll-TokenTree, roll-out-TokenTree, fold-roll-TokenTree}
use Rattle.token_trees.specs.declared.token.TokenTree.TheOpen.{TokenTree-F}
use Rattle.token_trees.proofs.Views.{stream_out, group_out}
use Rattle.syntax_trees.specs.Item.{MetaD, meta_path, meta_list, meta_value, FieldD, FieldsD, named_fields, unnamed_fields, unit_fields, VariantD, BodyD, struct_body, enum_body, union_body, ItemD, meta_view, attribute_view, field_view, fields_view, variant_view, body_view, item_view}
use Rattle.syntax_trees.specs.declared.item.Meta.{Meta}
use Rattle.syntax_trees.specs.declared.item.Meta.TheVariants as metas
use Rattle.syntax_trees.specs.declared.item.Attribute.{Attribute}
use Rattle.syntax_trees.specs.declared.item.Field.{Field}
use Rattle.syntax_trees.specs.declared.item.Fields.{Fields as SomeFields}
use Rattle.syntax_trees.specs.declared.item.Fields.TheVariants as fields
use Rattle.syntax_trees.specs.declared.item.Variant.{Variant}
use Rattle.syntax_trees.specs.declared.item.Data.{Data}
use Rattle.syntax_trees.specs.declared.item.Data.TheVariants as bodies
use Rattle.syntax_trees.specs.declared.item.DeriveInput.{DeriveInput}
use Rattle.syntax_printing.specs.Print.{sign}
use Rattle.model_defs.specs.Model.{TagModel, external_tag, internal_tag, adjacent_tag, untagged}
use Rattle.entry_defs.specs.Entry.{Fields, Shape, struct_shape, enum_shape, newtype_shape, Contents, unit_contents, newtype_contents, tuple_contents, struct_contents, Variants, no_variants, variant_then, FieldEntry, fields_of, rest_of, variants_of}
use Rattle.entry_defs.specs.Table.{ItemEntry, Table, items_of}
use Rattle.naming_defs.specs.Good.{is_good_name}
use Rattle.naming_defs.specs.Names.{identifiers, variant_identifiers}
use Rattle.naming_defs.specs.Laws.{ContentsAreGood, VariantsAreGood, ShapeIsGood}
use Rattle.naming_defs.proofs.Good.{known}
use Rattle.emit_defs.specs.Setting.{Setting, setting_of}
use Rattle.emit_defs.specs.Models.{field_manner, after_state, after_contents, shape_defaults, is_closed, is_transparent}
use Rattle.emit_defs.specs.Trees.{Carried, flag, valued, carried_tokens, with_commas, serde, when, rename_metas, manner_metas, tag_metas, field_metas, field_trees, rest_trees, struct_trees, contents_tree, variant_trees, shape_tree, try_from_metas, item_metas, item_trees}
use Rattle.emit_defs.specs.Emission.{emission}
use Rattle.emit_defs.specs.Formed.{IsEmittable}
use Rattle.emitted_modules.specs.Laws.{FieldsAreTexts, ContentsAreTexts, VariantIsText, TagIsText, ShapeIsText, KeepsTokens, ItemsOfProgramsKeepTokens}
use Rattle.emitted_modules.proofs.Items.{Good, good_fields, emitted_items_keep_tokens}

-- ---- token trees

abbrev FixedIsText : Fixed → Type 0
FixedIsText (text v x) = IsUtf8 v
FixedIsText (digits d) = ⊤
FixedIsText (other w) = ⊤

abbrev TokIsText : Tok → Type 0
TokIsText (word x s) = ⊤
TokIsText (mark c j s) = ⊤
TokIsText (fixed f s) = FixedIsText f
TokIsText (group d ts s) = ⊤

abbrev ToksAreTexts : List Tok → Type 0
ToksAreTexts ts = AllByRecursion TokIsText ts

lit_is_text : (l : Lit) → FixedIsText (fixed_view l)
lit_is_text (Str v s) = IsUtf8-string_bytes v
lit_is_text (Int d) = tt
lit_is_text (Other w) = tt

one_level : (f : TokenTree-F TokenTree Group TokenStream) → TokIsText (tree (roll-TokenTree f))
one_level (TokenTree-F.Ident i) = subst TokIsText (sym (fold-roll-TokenTree Tok Tok (List Tok) tree_step group_step stream_step (TokenTree-F.Ident i))) tt
one_level (TokenTree-F.Punct p) = subst TokIsText (sym (fold-roll-TokenTree Tok Tok (List Tok) tree_step group_step stream_step (TokenTree-F.Punct p))) tt
one_level (TokenTree-F.Literal l) = subst TokIsText (sym (fold-roll-TokenTree Tok Tok (List Tok) tree_step group_step stream_step (TokenTree-F.Literal l))) (lit_is_text l.lit)
one_level (TokenTree-F.Group g) = subst TokIsText (sym (fold-roll-TokenTree Tok Tok (List Tok) tree_step group_step stream_step (TokenTree-F.Group g) ∙ group_out g)) tt

tree_is_text : (t : TokenTree) → TokIsText (tree t)
tree_is_text t = subst (λ (u : TokenTree). TokIsText (tree u)) (roll-out-TokenTree t) (one_level (out-TokenTree t))

trees_are_texts : (ts : List TokenTree) → ToksAreTexts (trees ts)
trees_are_texts [] = tt
trees_are_texts (t ∷ ts) = (tree_is_text t, trees_are_texts ts)

stream_is_text : (s : TokenStream) → ToksAreTexts (stream s)
stream_is_text s = subst ToksAreTexts (sym (stream_out s)) (trees_are_texts (out-TokenStream s).trees.items)

-- ---- items

abbrev MetaIsText : MetaD → Type 0
MetaIsText (meta_path p) = ⊤
MetaIsText (meta_list p ts s) = ToksAreTexts ts
MetaIsText (meta_value p ts) = ⊤

abbrev MetasAreTexts : List MetaD → Type 0
MetasAreTexts ms = AllByRecursion MetaIsText ms

abbrev EachIsText : List FieldD → Type 0
EachIsText fs = AllByRecursion (λ f. MetasAreTexts f.attrs) fs

abbrev FieldsAre : FieldsD → Type 0
FieldsAre (named_fields fs) = EachIsText fs
FieldsAre (unnamed_fields fs) = ⊤
FieldsAre unit_fields = ⊤

abbrev VariantIs : VariantD → Type 0
VariantIs v = MetasAreTexts v.attrs × FieldsAre v.fields

abbrev BodyIs : BodyD → Type 0
BodyIs (struct_body fs at) = FieldsAre fs
BodyIs (enum_body vs at) = AllByRecursion VariantIs vs
BodyIs (union_body fs at) = ⊤

abbrev ItemIs : ItemD → Type 0
ItemIs i = MetasAreTexts i.attrs × BodyIs i.body

meta_is_text : (m : Meta) → MetaIsText (meta_view m)
meta_is_text (metas.Path p) = tt
meta_is_text (metas.List p s at) = stream_is_text s
meta_is_text (metas.NameValue p s) = tt

attributes_are : (xs : List Attribute) → MetasAreTexts (map attribute_view xs)
attributes_are [] = tt
attributes_are (x ∷ xs) = (meta_is_text x.meta, attributes_are xs)

each_is : (fs : List Field) → EachIsText (map field_view fs)
each_is [] = tt
each_is (f ∷ fs) = (attributes_are f.attrs.items, each_is fs)

fields_are : (fs : SomeFields) → FieldsAre (fields_view fs)
fields_are (fields.Named fs) = each_is fs.items
fields_are (fields.Unnamed fs) = tt
fields_are fields.Unit = tt

variants_are : (vs : List Variant) → AllByRecursion VariantIs (map variant_view vs)
variants_are [] = tt
variants_are (v ∷ vs) = ((attributes_are v.attrs.items, fields_are v.fields), variants_are vs)

body_is : (b : Data) → BodyIs (body_view b)
body_is (bodies.Struct fs at) = fields_are fs
body_is (bodies.Enum vs at) = variants_are vs.items
body_is (bodies.Union fs at) = tt

items_are : (xs : List DeriveInput) → AllByRecursion ItemIs (map item_view xs)
items_are [] = tt
items_are (x ∷ xs) = ((attributes_are x.attrs.items, body_is x.body), items_are xs)

-- ---- what is carried

abbrev CarriedIs : Carried → Type 0
CarriedIs (flag m) = ⊤
CarriedIs (valued m v) = IsUtf8 v

abbrev AllCarried : List Carried → Type 0
AllCarried ms = AllByRecursion CarriedIs ms

alone : (m : Carried) → ToksAreTexts (carried_tokens m) → CarriedIs m
alone (flag m) h = tt
alone (valued m v) h = h.1.1.0

front : (m : Carried) (ts : List Tok) → ToksAreTexts (carried_tokens m ++ ts) → CarriedIs m
front (flag m) ts h = tt
front (valued m v) ts h = h.1.1.0

behind : (m : Carried) (ts : List Tok) → ToksAreTexts (carried_tokens m ++ ts) → ToksAreTexts ts
behind (flag m) ts h = h.1
behind (valued m v) ts h = h.1.1.1

with_commas_are : (ms : List Carried) → ToksAreTexts (with_commas ms) → AllCarried ms
with_commas_are [] h = tt
with_commas_are (m ∷ []) h = (alone m h, tt)
with_commas_are (m ∷ k ∷ ms) h =
    let rest : List Tok = sign 44 ∷ with_commas (k ∷ ms) in
    (front m rest h, with_commas_are (k ∷ ms) (behind m rest h).1)

serde_are : (ms : List Carried) → MetasAreTexts (serde ms) → AllCarried ms
serde_are [] h = tt
serde_are (m ∷ ms) h = with_commas_are (m ∷ ms) h.0

first_are : (ms ks : List Carried) → AllCarried (ms ++ ks) → AllCarried ms
first_are [] ks h = tt
first_are (m ∷ ms) ks h = (h.0, first_are ms ks h.1)

-- a good name is such a text, whether it is said or not
renamed : (i x : List ℕ) → Good i → AllCarried (rename_metas i x) → IsUtf8 x
renamed i x g h = by (bytes_eq i x) refl h
  where
    by : (b : Bool) → bytes_eq i x ≡ b → AllCarried (cond b [] (valued (codes "rename") x ∷ [])) → IsUtf8 x
    by true e k = subst IsUtf8 ((bytes_eq-Decides i x).0 e) (known i g).text
    by false e k = k.0

tag_is : (g : TagModel) → AllCarried (tag_metas g) → TagIsText g
tag_is external_tag h = tt
tag_is (internal_tag x) h = h.0
tag_is (adjacent_tag x c) h = (h.0, h.1.0)
tag_is untagged h = tt

-- ---- what is emitted

module _ (s : Setting) (n : List ℕ) where
  named_are : (fs : List FieldEntry) (more : List FieldD) (k : ℕ) → AllByRecursion (λ f. Good f.identifier) fs → EachIsText (field_trees s n k fs ++ more) → FieldsAreTexts fs
  named_are [] more k g h = tt
  named_are (f ∷ fs) more k g h = (
    renamed f.identifier f.name g.0 (first_are (rename_metas f.identifier f.name) (manner_metas k (field_manner s n f)) (serde_are (field_metas s n k f) h.0)),
    named_are fs more (after_state f.state k) g.1 h.1,
  )

  struct_is : (fs : Fields) (k : ℕ) → AllByRecursion Good (identifiers fs) → EachIsText (struct_trees s n k fs) → FieldsAreTexts (fields_of fs)
  struct_is fs k g h = named_are (fields_of fs) (rest_trees s n (rest_of fs)) k (good_fields fs g) h

  contents_are : (c : Contents) (k : ℕ) → ContentsAreGood is_good_name c → FieldsAre (contents_tree s n k c) → ContentsAreTexts c
  contents_are unit_contents k g h = tt
  contents_are (newtype_contents e) k g h = tt
  contents_are (tuple_contents es) k g h = tt
  contents_are (struct_contents fs) k g h = struct_is fs k g.1 h

  cases_are : (ws : Variants) (k : ℕ) → AllByRecursion Good (variant_identifiers ws) → VariantsAreGood is_good_name ws → AllByRecursion VariantIs (variant_trees s n k (variants_of ws)) → AllByRecursion VariantIsText (variants_of ws)
  cases_are no_variants k g d h = tt
  cases_are (variant_then i m c ws) k g d h = ((renamed i m g.0 (serde_are (rename_metas i m) h.0.0), contents_are c k d.0 h.0.1), cases_are ws (after_contents c k) g.1 d.1 h.1)

  shape_is : (h : Shape) (k : ℕ) → ShapeIsGood is_good_name h → MetasAreTexts (serde (item_metas s (record { name = n; shape = h }))) → BodyIs (shape_tree s n k h) → ShapeIsText h
  shape_is (struct_shape closed fs) k g a b = struct_is fs k g.1 b
  shape_is (enum_shape closed tag ws) k g a b =
      let h = enum_shape closed tag ws in
      let transparent = when (is_transparent s n h) (flag (codes "transparent")) in
      let tries = try_from_metas s n h in
      let end = when (is_closed h) (flag (codes "deny_unknown_fields")) in
      let all = serde_are (item_metas s (record { name = n; shape = h })) a in
      let tags = first_are (tag_metas tag) transparent (first_are (tag_metas tag ++ transparent) tries (first_are ((tag_metas tag ++ transparent) ++ tries) end all)) in
      (tag_is tag tags, cases_are ws k g.0.1 g.1 b)
  shape_is (newtype_shape e rule) k g a b = tt

all_are : (s : Setting) (is : List ItemEntry) (k : ℕ) → AllByRecursion (λ i. (is_good_name i.name ≡ true) × ShapeIsGood is_good_name i.shape) is → AllByRecursion ItemIs (item_trees s k is) → AllByRecursion (λ i. ShapeIsText i.shape) is
all_are s [] k g h = tt
all_are s (i ∷ is) k g h = (shape_is s i.name i.shape k g.0.1 h.0.0 h.0.1, all_are s is (k + length (shape_defaults i.shape)) g.1 h.1)

pub items_of_programs_keep_tokens : ItemsOfProgramsKeepTokens
items_of_programs_keep_tokens t h e xs q =
    let texts = subst (AllByRecursion ItemIs) q (items_are xs) in
    subst (AllByRecursion KeepsTokens) (sym q) (emitted_items_keep_tokens t h (all_are (setting_of t) (items_of t) 0 h.named texts) e)
