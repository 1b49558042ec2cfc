-- Naming, as the definitions have it, goes part by part.
use Rattle.std.proofs.Common.{◌≡◌, ℕ, List, [], ◌∷◌, map, Bool, Option, Some, None, refl, sym, ap, ◌∙◌}
use Rattle.model_defs.specs.Model.{TagModel, external_tag, internal_tag, adjacent_tag, untagged}
use Rattle.entry_defs.specs.Entry.{Entry, Fields, no_fields, field_then, field_again, entry_then, entry_again, struct_shape, enum_shape, variant_then, tuple_contents, struct_contents}
use Rattle.naming_defs.specs.Names.{Names, field_names, identifiers, variant_names, name_by, values, bound, bound_is_good, field_name, identified, identified_fields, identified_within, variant_name, identified_variants, named, named_entries, named_shape, named_fields, named_variants, named_contents}
use Rattle.naming_defs.specs.Good.{is_good_name}
use Rattle.tree_types.specs.declared.tree.ContentKind.{ContentKind}
use Rattle.tree_types.specs.declared.tree.ContentKind.TheVariants as kinds
use Rattle.tree_names.specs.Seen.{PartD, places_of, fields_of, contents_of, names_of, identifiers_of, parts_named, parts_identified_by, parts_identified, parts_bound, contents_named, VariantD, variants_of, variants_named, name_in, variants_identified}

-- ---- parts

module _ (b : Names) where
  abbrev FieldsNamed : List PartD → Fields → Names → Type 0
  FieldsNamed ps more t =
      let a = parts_named ps b t in let m = named_fields is_good_name b more a.0 in
      named_fields is_good_name b (fields_of ps more) t ≡ (m.0, fields_of a.1 m.1)

  pub fields_named : (ps : List PartD) (more : Fields) (t : Names) → FieldsNamed ps more t
  fields_named [] more t = refl
  fields_named (p ∷ ps) more t = one p.entry (λ u. fields_named ps more u)
    where
      one : (o : Option Entry) → ((u : Names) → FieldsNamed ps more u) → FieldsNamed (record p { entry = o } ∷ ps) more t
      one None h = ap (λ z. (z.0, field_again p.identifier p.name z.1)) (h t)
      one (Some e) h = let a = named is_good_name b e t in ap (λ z. (z.0, field_then p.identifier p.name a.1 p.state z.1)) (h a.0)

  abbrev PlacesNamed : List PartD → Names → Type 0
  PlacesNamed ps t = let a = parts_named ps b t in named_entries is_good_name b (places_of ps) t ≡ (a.0, places_of a.1)

  pub places_named : (ps : List PartD) (t : Names) → PlacesNamed ps t
  places_named [] t = refl
  places_named (p ∷ ps) t = one p.entry (λ u. places_named ps u)
    where
      one : (o : Option Entry) → ((u : Names) → PlacesNamed ps u) → PlacesNamed (record p { entry = o } ∷ ps) t
      one None h = ap (λ z. (z.0, entry_again z.1)) (h t)
      one (Some e) h = let a = named is_good_name b e t in ap (λ z. (z.0, entry_then a.1 z.1)) (h a.0)

  -- ---- identifiers of fields

  abbrev FieldsIdentified : (List ℕ → Bool) → List PartD → Fields → Names → Type 0
  FieldsIdentified fits ps more u = let a = parts_identified_by fits ps b u in identified fits u b (fields_of ps more) ≡ fields_of a.1 (identified fits a.0 b more)

  pub fields_identified : (fits : List ℕ → Bool) (ps : List PartD) (more : Fields) (u : Names) → FieldsIdentified fits ps more u
  fields_identified fits [] more u = refl
  fields_identified fits (p ∷ ps) more u = one p.entry (λ w. fields_identified fits ps more w)
    where
      one : (o : Option Entry) → ((w : Names) → FieldsIdentified fits ps more w) → FieldsIdentified fits (record p { entry = o } ∷ ps) more u
      one None h = let n = field_name fits u b p.name in ap (λ z. field_again n p.name z) (h (n ∷ u))
      one (Some e) h = let n = field_name fits u b p.name in ap (λ z. field_then n p.name e p.state z) (h (n ∷ u))

pub names_are : (ps : List PartD) (more : Fields) → field_names more ≡ [] → field_names (fields_of ps more) ≡ names_of ps
names_are [] more h = h
names_are (p ∷ ps) more h = one p.entry (names_are ps more h)
  where
    one : (o : Option Entry) → field_names (fields_of ps more) ≡ names_of ps → field_names (fields_of (record p { entry = o } ∷ ps) more) ≡ p.name ∷ names_of ps
    one None g = ap (λ z. p.name ∷ z) g
    one (Some e) g = ap (λ z. p.name ∷ z) g

-- the identifiers of a struct's fields, and of its rest
pub all_identified : (ps : List PartD) (more : Fields) → field_names more ≡ []
    → identified_fields is_good_name (fields_of ps more) ≡ (let a = parts_identified ps (names_of ps) [] in fields_of a.1 (identified is_good_name a.0 (names_of ps) more))
all_identified ps more h = ap (λ ns. identified is_good_name [] ns (fields_of ps more)) (names_are ps more h) ∙ fields_identified (names_of ps) is_good_name ps more []

-- those of a variant's, which patterns bind
pub all_bound : (ps : List PartD) (t : Names) → identified_within is_good_name t (fields_of ps no_fields) ≡ fields_of (parts_bound ps (names_of ps) (values t)).1 no_fields
all_bound ps t =
    ap (λ ns. identified (bound_is_good is_good_name) (values t) ns (fields_of ps no_fields)) (names_are ps no_fields refl) ∙ fields_identified (names_of ps) (bound_is_good is_good_name) ps no_fields (values t)

pub identifiers_are : (ps : List PartD) → identifiers (fields_of ps no_fields) ≡ identifiers_of ps
identifiers_are [] = refl
identifiers_are (p ∷ ps) = one p.entry (identifiers_are ps)
  where
    one : (o : Option Entry) → identifiers (fields_of ps no_fields) ≡ identifiers_of ps → identifiers (fields_of (record p { entry = o } ∷ ps) no_fields) ≡ p.identifier ∷ identifiers_of ps
    one None h = ap (λ z. p.identifier ∷ z) h
    one (Some e) h = ap (λ z. p.identifier ∷ z) h

-- ---- contents

module _ (b : Names) where
  abbrev ContentsNamed : ContentKind → List PartD → Names → Type 0
  ContentsNamed k ps t = let a = contents_named k ps b t in named_contents is_good_name b (contents_of k ps) t ≡ (a.0, contents_of k a.1)

  pub contents_are_named : (k : ContentKind) (ps : List PartD) (t : Names) → ContentsNamed k ps t
  contents_are_named kinds.Unit ps t = refl
  contents_are_named kinds.Newtype [] t = refl
  contents_are_named kinds.Newtype (p ∷ ps) t = one p.entry
    where
      one : (o : Option Entry) → ContentsNamed kinds.Newtype (record p { entry = o } ∷ ps) t
      one None = refl
      one (Some e) = refl
  contents_are_named kinds.Tuple ps t = ap (λ z. (z.0, tuple_contents z.1)) (places_named b ps t)
  contents_are_named kinds.Struct ps t =
      let a = parts_named ps b t in
      let c = (parts_bound a.1 (names_of a.1) (values a.0)).1 in
      ap (λ z. (let gs = identified_within is_good_name z.0 z.1 in (bound (identifiers gs) z.0, struct_contents gs))) (fields_named b ps no_fields t)
      ∙ ap (λ z. (bound (identifiers z) a.0, struct_contents z)) (all_bound a.1 a.0)
      ∙ ap (λ z. (bound z a.0, struct_contents (fields_of c no_fields))) (identifiers_are c)

  -- ---- variants

  abbrev VariantsNamed : TagModel → List VariantD → Names → Type 0
  VariantsNamed tag ws t = let a = variants_named ws b t in named_variants is_good_name b (variants_of tag ws) t ≡ (a.0, variants_of tag a.1)

  pub variants_are_named : (tag : TagModel) (ws : List VariantD) (t : Names) → VariantsNamed tag ws t
  variants_are_named tag [] t = refl
  variants_are_named tag (w ∷ ws) t =
      let c = contents_named w.kind w.parts b t in
      ap (λ a. (let r = named_variants is_good_name b (variants_of tag ws) a.0 in (r.0, variant_then w.identifier (name_in tag w) a.1 r.1))) (contents_are_named w.kind w.parts t)
      ∙ ap (λ z. (z.0, variant_then w.identifier (name_in tag w) (contents_of w.kind c.1) z.1)) (variants_are_named tag ws c.0)

  pub names_kept : (tag : TagModel) (ws : List VariantD) (t : Names) → map (name_in tag) (variants_named ws b t).1 ≡ map (name_in tag) ws
  names_kept tag [] t = refl
  names_kept tag (w ∷ ws) t = ap (λ z. name_in tag w ∷ z) (names_kept tag ws (contents_named w.kind w.parts b t).0)

again : (tag : TagModel) (n i w : List ℕ) → name_by tag n (name_by tag i w) ≡ name_by tag n w
again external_tag n i w = refl
again (internal_tag t) n i w = refl
again (adjacent_tag t c) n i w = refl
again untagged n i w = refl

pub variant_names_are : (tag : TagModel) (ws : List VariantD) → variant_names (variants_of tag ws) ≡ map (name_in tag) ws
variant_names_are tag [] = refl
variant_names_are tag (w ∷ ws) = ap (λ z. name_in tag w ∷ z) (variant_names_are tag ws)

pub variants_are_identified : (tag : TagModel) (b : Names) (ws : List VariantD) (u : Names) → identified_variants is_good_name tag u b (variants_of tag ws) ≡ variants_of tag (variants_identified tag ws b u).1
variants_are_identified tag b [] u = refl
variants_are_identified tag b (w ∷ ws) u =
    let n = variant_name is_good_name tag u b (name_in tag w) in
    λ i. variant_then n (again tag n w.identifier w.wanted i) (contents_of w.kind w.parts) (variants_are_identified tag b ws (n ∷ u) i)

-- ---- items

-- what is made of a struct with a rest or without
pub struct_named : (b : Names) (closed : Bool) (ps : List PartD) (more : Fields) (t : Names)
    → (let a = parts_named ps b t in let m = named_fields is_good_name b more a.0 in field_names m.1 ≡ [])
    → named_shape is_good_name b (struct_shape closed (fields_of ps more)) t
    ≡ (let a = parts_named ps b t in let m = named_fields is_good_name b more a.0 in let c = parts_identified a.1 (names_of a.1) [] in
    (m.0, struct_shape closed (fields_of c.1 (identified is_good_name c.0 (names_of a.1) m.1))))
struct_named b closed ps more t h =
    let a = parts_named ps b t in
    let m = named_fields is_good_name b more a.0 in
    ap (λ z. (z.0, struct_shape closed (identified_fields is_good_name z.1))) (fields_named b ps more t)
    ∙ ap (λ z. (m.0, struct_shape closed z)) (all_identified a.1 m.1 h)

pub enum_named : (b : Names) (closed : Bool) (tag : TagModel) (ws : List VariantD) (t : Names)
    → named_shape is_good_name b (enum_shape closed tag (variants_of tag ws)) t
    ≡ (let a = variants_named ws b t in (a.0, enum_shape closed tag (variants_of tag (variants_identified tag a.1 (map (name_in tag) a.1) []).1)))
enum_named b closed tag ws t =
    let a = variants_named ws b t in
    ap (λ z. (z.0, enum_shape closed tag (identified_variants is_good_name tag [] (variant_names (variants_of tag ws)) z.1))) (variants_are_named b tag ws t)
    ∙ ap (λ ns. (a.0, enum_shape closed tag (identified_variants is_good_name tag [] ns (variants_of tag a.1)))) (variant_names_are tag ws ∙ sym (names_kept b tag ws t))
    ∙ ap (λ z. (a.0, enum_shape closed tag z)) (variants_are_identified tag (map (name_in tag) a.1) a.1 [])
