-- The parts of variants of an enum, by its shape, are inside its members.
use Rattle.std.proofs.Common.{◌≡◌, ℕ, List, [], ◌∷◌, ◌++◌, map, flat_map, Bool, true, false, ◌&&◌, ◌||◌, Option, Some, None, is_none, option_map, option_and_then, refl, sym, ap, ◌∙◌, subst, bytes_eq}
use Rattle.std.specs.Prelude.{if◌then◌else◌}
use Rattle.std.specs.List.{list_all}
use Rattle.schema_defs.specs.declared.Setting.{Setting}
use Rattle.schema_defs.specs.declared.Setting.TheVariants.{Strict}
use Rattle.schema_defs.specs.declared.InstanceType.TheVariants.{Object, Text}
use Rattle.schema_defs.specs.Location.{Location}
use Rattle.schema_defs.specs.Schema.{Plain, Schema, boolean, object, Named, no_named, named, no_schema, the_schema, Properties, no_properties, property, Document, ListRules}
use Rattle.convert_defs.specs.Row.{Part, FieldRow, field_parts, VariantRow, body_parts, variants_parts, Row}
use Rattle.enum_defs.specs.Words.{has_type, without_same, without_lists, is_bare, names_of, all_some, is_name}
use Rattle.convert_defs.specs.Owners.{property_fields}
use Rattle.convert_defs.proofs.PlacedShapes.{ObjectShape, object_shape, shape_of_named, text_case, listed_texts, unit_rows, external_case, case_or, one_property, lone_property, property_row, if_distinct, are_distinct, branch_fields, internal_variant, adjacent_variant}
use Rattle.convert_defs.specs.Shapes.{Member, external_members, less_property, placed_field, body_of_field, body_of_fields, internal_members as internal_shape, TaggedShape, adjacent_members as adjacent_shape}
use Rattle.enum_defs.specs.Shapes.{closed_by as is_closed}
use Rattle.convert_defs.proofs.Views.{AllParts}
use Rattle.convert_defs.proofs.Rows.{parts-left, parts-right}
use Rattle.convert_defs.proofs.Bare.{none-some, some-same}
use Rattle.convert_defs.proofs.SameShapes.{whole, external-found, internal-found, adjacent-found}
use Rattle.each_schema.specs.Each.{EachSchema, EachInNamed, EachInProperties}
use Rattle.convert_defs.proofs.InsideParts.{IsMadeToo, In as PartIn, AllIn as RowIn, MembersIn as AllMembersIn, VariantsIn as AllVariantsIn, parts-both}

module _ (At : Plain → Named → Type 0) (sized : ListRules → Type 0) (made_here : IsMadeToo At) (d : Document) where
  abbrev In : Part → Type 0
  In = PartIn At sized

  abbrev AllIn : Row → Type 0
  AllIn = RowIn At sized

  abbrev MembersIn : List Member → Type 0
  MembersIn = AllMembersIn At sized

  abbrev VariantsIn : List VariantRow → Type 0
  VariantsIn = AllVariantsIn At sized

  -- ---- object shapes

  abbrev ShapeIn : ObjectShape → Type 0
  ShapeIn o = EachInProperties At sized o.props

  named-shape : (l : Location) (ms : Named) (o : ObjectShape) → EachInNamed At sized ms → shape_of_named l ms ≡ Some o → ShapeIn o
  named-shape l no_named o a e = subst ShapeIn (some-same _ o e) tt
  named-shape l (named props no_properties others no_schema rules) o a e = by (is_none rules.max_properties && is_none rules.min_properties && list_all (λ n. is_name n (names_of props)) rules.required) e
    where
      closed : (c : Option Bool) → option_map (λ c. record { place = l; closed = c; props = props; required_names = rules.required }) c ≡ Some o → ShapeIn o
      closed None h = none-some o h
      closed (Some c) h = subst ShapeIn (some-same _ o h) a.0

      by : (b : Bool) → (if b then option_map (λ c. record { place = l; closed = c; props = props; required_names = rules.required }) (is_closed others) else None) ≡ Some o → ShapeIn o
      by true h = closed (is_closed others) h
      by false h = none-some o h
  named-shape l (named props (property k u us) others names rules) o a e = none-some o e
  named-shape l (named props no_properties others (the_schema u) rules) o a e = none-some o e

  shape-in : (m : Member) (o : ObjectShape) → EachSchema At sized m.1 → object_shape m ≡ Some o → ShapeIn o
  shape-in (l, boolean b) o a e = none-some o e
  shape-in (l, object q sq lq nq) o a e = by (has_type Object q.types && is_bare q sq && is_none q.format && is_none q.numbers && is_none q.texts && without_lists lq) e
    where
      by : (b : Bool) → (if b then shape_of_named l nq else None) ≡ Some o → ShapeIn o
      by true h = named-shape l nq o a.3 h
      by false h = none-some o h

  abbrev ShapesIn : List ObjectShape → Type 0
  ShapesIn [] = Unit {0}
  ShapesIn (o ∷ os) = ShapeIn o × ShapesIn os

  -- what is given by each, of members that all give something
  shapes-in : (ms : List Member) (os : List ObjectShape) → MembersIn ms → all_some object_shape ms ≡ Some os → ShapesIn os
  shapes-in [] os a e = subst ShapesIn (some-same [] os e) tt
  shapes-in (m ∷ ms) os a e = by (object_shape m) refl (all_some object_shape ms) refl e (λ xs. shapes-in ms xs a.1)
    where
      by : (x : Option ObjectShape) → object_shape m ≡ x → (y : Option (List ObjectShape)) → all_some object_shape ms ≡ y → option_and_then (λ y. option_map (λ ys. y ∷ ys) (all_some object_shape ms)) x ≡ Some os
          → ((xs : List ObjectShape) → all_some object_shape ms ≡ Some xs → ShapesIn xs) → ShapesIn os
      by None f y g h rec = none-some os h
      by (Some o) f None g h rec = none-some os (ap (option_map (λ ys. o ∷ ys)) (sym g) ∙ h)
      by (Some o) f (Some xs) g h rec = subst ShapesIn (some-same (o ∷ xs) os (ap (option_map (λ ys. o ∷ ys)) (sym g) ∙ h)) (shape-in m o a.0 f, rec xs g)

  less-in : (n : List ℕ) (ps : Properties) → EachInProperties At sized ps → EachInProperties At sized (less_property n ps)
  less-in n no_properties h = tt
  less-in n (property k s ps) h = by (bytes_eq n k) (less-in n ps h.1)
    where
      by : (b : Bool) → EachInProperties At sized (less_property n ps) → EachInProperties At sized (if b then less_property n ps else property k s (less_property n ps))
      by true g = g
      by false g = (h.0, g)

  placed-in : (l : Location) (st : Setting) (req : List (List ℕ)) (ps : Properties) → EachInProperties At sized ps → AllParts In (field_parts (map (placed_field l) (property_fields st req ps)))
  placed-in l st req no_properties h = tt
  placed-in l st req (property k s ps) h = (h.0, placed-in l st req ps h.1)

  branch-in : (st : Setting) (n : List ℕ) (o : ObjectShape) → ShapeIn o → AllParts In (field_parts (branch_fields st n o))
  branch-in st n o h = placed-in o.place st o.required_names (less_property n o.props) (less-in n o.props h)

  fields-body : (fs : List FieldRow) → AllParts In (field_parts fs) → AllParts In (body_parts (body_of_fields fs))
  fields-body [] h = tt
  fields-body (f ∷ fs) h = h

  field-body : (fs : List FieldRow) → AllParts In (field_parts fs) → AllParts In (body_parts (body_of_field fs))
  field-body [] h = tt
  field-body (f ∷ fs) h = (h.0, tt)

  internal-all : (st : Setting) (n : List ℕ) (os : List ObjectShape) → ShapesIn os → VariantsIn (map (internal_variant st n) os)
  internal-all st n [] h = tt
  internal-all st n (o ∷ os) h = parts-both At sized (body_parts (internal_variant st n o).body) (variants_parts (map (internal_variant st n) os)) (fields-body (branch_fields st n o) (branch-in st n o h.0)) (internal-all st n os h.1)

  adjacent-all : (n : List ℕ) (os : List ObjectShape) → ShapesIn os → VariantsIn (map (adjacent_variant n) os)
  adjacent-all n [] h = tt
  adjacent-all n (o ∷ os) h = parts-both At sized (body_parts (adjacent_variant n o).body) (variants_parts (map (adjacent_variant n) os)) (field-body (branch_fields Strict n o) (branch-in Strict n o h.0)) (adjacent-all n os h.1)

  pub internal-in : (st : Setting) (ms : List Member) (t : TaggedShape) → MembersIn ms → internal_shape st ms ≡ Some t → VariantsIn t.variants
  internal-in st ms t a e =
      let f = internal-found st ms t e in
      subst (λ x. VariantsIn x.variants) (sym f.made) (internal-all st f.tag (map whole ms) (shapes-in ms (map whole ms) a f.shapes))

  pub adjacent-in : (ms : List Member) (t : TaggedShape) → MembersIn ms → adjacent_shape ms ≡ Some t → VariantsIn t.variants
  adjacent-in ms t a e =
      let f = adjacent-found ms t e in
      subst (λ x. VariantsIn x.variants) (sym f.made) (adjacent-all f.tag (map whole ms) (shapes-in ms (map whole ms) a f.shapes))

  units-in : (ts : List (List ℕ)) → VariantsIn (unit_rows ts)
  units-in [] = tt
  units-in (t ∷ ts) = units-in ts

  both-in : (xs ys : List VariantRow) → VariantsIn xs → VariantsIn ys → VariantsIn (xs ++ ys)
  both-in [] ys h g = g
  both-in (x ∷ xs) ys h g = parts-both At sized (body_parts x.body) (variants_parts (xs ++ ys)) (parts-left In (body_parts x.body) (variants_parts xs) h) (both-in xs ys (parts-right In (body_parts x.body) (variants_parts xs) h) g)

  one-in : (l : Location) (req : List (List ℕ)) (qs : Properties) (ws : List VariantRow) → EachInProperties At sized qs → lone_property l req qs ≡ Some ws → VariantsIn ws
  one-in l req no_properties ws a h = none-some ws h
  one-in l req (property k u no_properties) ws a h = chosen (is_name k req) h
    where
      chosen : (b : Bool) → (if b then Some (property_row l k u ∷ []) else None) ≡ Some ws → VariantsIn ws
      chosen true g = subst VariantsIn (some-same (property_row l k u ∷ []) ws g) (a.0, tt)
      chosen false g = none-some ws g
  one-in l req (property k u (property m t qs)) ws a h = none-some ws h

  case-in : (m : Member) (ws : List VariantRow) → EachSchema At sized m.1 → external_case m ≡ Some ws → VariantsIn ws
  case-in (l, u) ws a e = by (text_case u) refl e
    where
      shaped : (o : Option ObjectShape) → object_shape (l, u) ≡ o → option_and_then one_property o ≡ Some ws → VariantsIn ws
      shaped None f h = none-some ws h
      shaped (Some o) f h = one-in o.place o.required_names o.props ws (shape-in (l, u) o a f) h

      texts : (o : Option (List (List ℕ))) (us : List VariantRow) → option_map unit_rows o ≡ Some us → VariantsIn us
      texts None us h = none-some us h
      texts (Some ts) us h = subst VariantsIn (some-same (unit_rows ts) us h) (units-in ts)

      case : (u : Schema) (us : List VariantRow) → text_case u ≡ Some us → VariantsIn us
      case (boolean b) us h = none-some us h
      case (object q sq lq nq) us h = tested ((is_none q.types || has_type Text q.types) && is_none q.format && is_none q.reference && without_same sq) h
        where
          tested : (b : Bool) → (if b then option_map unit_rows (listed_texts q.const_value q.enum_values) else None) ≡ Some us → VariantsIn us
          tested true g = texts (listed_texts q.const_value q.enum_values) us g
          tested false g = none-some us g

      by : (o : Option (List VariantRow)) → text_case u ≡ o → case_or o (object_shape (l, u)) ≡ Some ws → VariantsIn ws
      by (Some vs) f h = subst VariantsIn (some-same vs ws h) (case u vs f)
      by None f h = shaped (object_shape (l, u)) refl h

  cases-in : (ms : List Member) (wss : List (List VariantRow)) → MembersIn ms → all_some external_case ms ≡ Some wss → VariantsIn (flat_map (λ ws. ws) wss)
  cases-in [] wss a e = subst (λ x. VariantsIn (flat_map (λ ws. ws) x)) (some-same [] wss e) tt
  cases-in (m ∷ ms) wss a e = by (external_case m) refl (all_some external_case ms) refl e (λ us. cases-in ms us a.1)
    where
      by : (x : Option (List VariantRow)) → external_case m ≡ x → (y : Option (List (List VariantRow))) → all_some external_case ms ≡ y → option_and_then (λ y. option_map (λ ys. y ∷ ys) (all_some external_case ms)) x ≡ Some wss
          → ((us : List (List VariantRow)) → all_some external_case ms ≡ Some us → VariantsIn (flat_map (λ ws. ws) us)) → VariantsIn (flat_map (λ ws. ws) wss)
      by None f y g h rec = none-some wss h
      by (Some ws) f None g h rec = none-some wss (ap (option_map (λ ys. ws ∷ ys)) (sym g) ∙ h)
      by (Some ws) f (Some us) g h rec =
          subst (λ x. VariantsIn (flat_map (λ ws. ws) x)) (some-same (ws ∷ us) wss (ap (option_map (λ ys. ws ∷ ys)) (sym g) ∙ h))
          (both-in ws (flat_map (λ ws. ws) us) (case-in m ws a.0 f) (rec us g))

  pub external-in : (ms : List Member) (ws : List VariantRow) → MembersIn ms → external_members ms ≡ Some ws → VariantsIn ws
  external-in ms ws a e = by (all_some external_case ms) refl (external-found ms ws e)
    where
      tested : (us : List VariantRow) → VariantsIn us → (b : Bool) → (if b then Some us else None) ≡ Some ws → VariantsIn ws
      tested us g true k = subst VariantsIn (some-same us ws k) g
      tested us g false k = none-some ws k

      by : (x : Option (List (List VariantRow))) → all_some external_case ms ≡ x → option_and_then (λ wss. if_distinct (flat_map (λ ws. ws) wss)) x ≡ Some ws → VariantsIn ws
      by None f h = none-some ws h
      by (Some wss) f h = tested (flat_map (λ ws. ws) wss) (cases-in ms wss a f) (are_distinct (map (λ w. w.name) (flat_map (λ ws. ws) wss))) h
