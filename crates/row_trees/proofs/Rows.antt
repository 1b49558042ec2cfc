-- What a row is made into of what its parts are converted to.
use Rattle.std.proofs.Common.{◌≡◌, ℕ, zero, suc, List, [], ◌∷◌, ◌++◌, map, Bool, Option, Some, None, refl, ap, ◌∙◌}
use Rattle.std.specs.List.{list_any}
use Rattle.entry_defs.specs.Entry.{Entry, item, tuple_entry, enum_shape, struct_shape, Entries, entry_then, Fields, no_fields, field_then, variant_then}
use Rattle.model_defs.specs.Model.{TagModel}
use Rattle.convert_defs.specs.Row.{Part, FieldRow, OutsideRow, VariantBody, unit_body, part_body, fields_body, VariantRow, Closing, by_shape, by_contents, leaf_row, as_it_is_row, option_row, ruled_row, vec_row, set_row, array_row, tuple_row, map_row, pattern_map_row, struct_row, enum_row, merged_row, refused_row, field_parts, outside_parts, further_parts, body_parts, variants_parts}
use Rattle.convert_defs.specs.Convert.{alike_entries, field_entry, row_fields, row_entries, outside_fields, is_closed_body, is_closed, body_content, row_variants}
use Rattle.row_trees.specs.Build.{first_of, built_fields, after_fields, built_outside, built_places, after_parts, built_tuple, HeldD, nothing, held, held_fields, BodyD, body_held, after_body, bodies_held, is_closed_held, closed_by, held_content, held_variants, enum_held, built_enum, RowsAreBuilt}

module _ (c : Part → Entry) where
  -- fields, with what is left behind them
  fields_built : (fs : List FieldRow) (es : List Entry) (more : Fields) → built_fields fs (map c (field_parts fs) ++ es) more ≡ row_fields c fs more
  fields_built [] es more = refl
  fields_built (f ∷ fs) es more = ap (λ m. field_then f.name f.name (field_entry c f) f.state m) (fields_built fs es more)

  fields_left : (fs : List FieldRow) (es : List Entry) → after_fields fs (map c (field_parts fs) ++ es) ≡ es
  fields_left [] es = refl
  fields_left (f ∷ fs) es = fields_left fs es

  places_built : (ps : List Part) (es : List Entry) (more : Entries) → built_places ps (map c ps ++ es) more ≡ row_entries c ps more
  places_built [] es more = refl
  places_built (p ∷ ps) es more = ap (λ m. entry_then (c p) m) (places_built ps es more)

  places_left : (ps : List Part) (es : List Entry) → after_parts ps (map c ps ++ es) ≡ es
  places_left [] es = refl
  places_left (p ∷ ps) es = places_left ps es

  mapped : (ps qs : List Part) → map c (ps ++ qs) ≡ map c ps ++ map c qs
  mapped [] qs = refl
  mapped (p ∷ ps) qs = ap (λ es. c p ∷ es) (mapped ps qs)

  nothing_left : (es : List Entry) → es ++ [] ≡ es
  nothing_left [] = refl
  nothing_left (e ∷ es) = ap (λ es. e ∷ es) (nothing_left es)

  further : (n : ℕ) (p : Part) → alike_entries n (first_of (map c (further_parts n p))) ≡ alike_entries n (c p)
  further zero p = refl
  further (suc n) p = refl

  tuple_built : (ps : List Part) (n : ℕ) (p : Part) → built_tuple ps n (map c (ps ++ further_parts n p)) ≡ tuple_entry (row_entries c ps (alike_entries n (c p)))
  tuple_built ps n p =
      ap (λ es. built_tuple ps n es) (mapped ps (further_parts n p))
      ∙ ap tuple_entry (places_built ps (map c (further_parts n p)) _
      ∙ ap (λ es. row_entries c ps (alike_entries n (first_of es))) (places_left ps (map c (further_parts n p)))
      ∙ ap (λ m. row_entries c ps m) (further n p))

  outside_built : (o : Option OutsideRow) → built_outside o (map c (outside_parts o)) ≡ outside_fields c o
  outside_built None = refl
  outside_built (Some o) = refl

  struct_built : (fs : List FieldRow) (o : Option OutsideRow)
      → built_fields fs (map c (field_parts fs ++ outside_parts o)) (built_outside o (after_fields fs (map c (field_parts fs ++ outside_parts o)))) ≡ row_fields c fs (outside_fields c o)
  struct_built fs o =
      ap (λ es. built_fields fs es (built_outside o (after_fields fs es))) (mapped (field_parts fs) (outside_parts o))
      ∙ fields_built fs (map c (outside_parts o)) _
      ∙ ap (λ es. row_fields c fs (built_outside o es)) (fields_left fs (map c (outside_parts o)))
      ∙ ap (λ m. row_fields c fs m) (outside_built o)

  -- ---- variants

  abbrev of_body : VariantBody → HeldD
  of_body unit_body = nothing
  of_body (part_body p) = held (c p)
  of_body (fields_body fs) = held_fields (row_fields c fs no_fields)

  abbrev of_row : VariantRow → BodyD
  of_row w = (w.name, of_body w.body)

  body_built : (b : VariantBody) (es : List Entry) → body_held b (map c (body_parts b) ++ es) ≡ of_body b
  body_built unit_body es = refl
  body_built (part_body p) es = refl
  body_built (fields_body fs) es = ap held_fields (fields_built fs es no_fields)

  body_left : (b : VariantBody) (es : List Entry) → after_body b (map c (body_parts b) ++ es) ≡ es
  body_left unit_body es = refl
  body_left (part_body p) es = refl
  body_left (fields_body fs) es = fields_left fs es

  bodies_built : (ws : List VariantRow) → bodies_held ws (map c (variants_parts ws)) ≡ map of_row ws
  bodies_built [] = refl
  bodies_built (w ∷ ws) =
      ap (λ es. bodies_held (w ∷ ws) es) (mapped (body_parts w.body) (variants_parts ws))
      ∙ ap (λ h. (w.name, h) ∷ bodies_held ws (after_body w.body (map c (body_parts w.body) ++ map c (variants_parts ws)))) (body_built w.body (map c (variants_parts ws)))
      ∙ ap (λ es. of_row w ∷ bodies_held ws es) (body_left w.body (map c (variants_parts ws)))
      ∙ ap (λ bs. of_row w ∷ bs) (bodies_built ws)

  closed_of : (b : VariantBody) → is_closed_held (of_body b) ≡ is_closed_body c b
  closed_of unit_body = refl
  closed_of (part_body p) = refl
  closed_of (fields_body fs) = refl

  any_closed : (ws : List VariantRow) → list_any (λ b. is_closed_held b.1) (map of_row ws) ≡ list_any (λ w. is_closed_body c w.body) ws
  any_closed [] = refl
  any_closed (w ∷ ws) = rw (closed_of w.body, any_closed ws)

  closing_built : (k : Closing) (ws : List VariantRow) → closed_by k (map of_row ws) ≡ is_closed c k ws
  closing_built (by_shape b) ws = refl
  closing_built by_contents ws = any_closed ws

  content_built : (tag : TagModel) (closed : Bool) (b : VariantBody) → held_content tag closed (of_body b) ≡ body_content c tag closed b
  content_built tag closed unit_body = refl
  content_built tag closed (part_body p) = refl
  content_built tag closed (fields_body fs) = refl

  variants_built : (tag : TagModel) (closed : Bool) (ws : List VariantRow) → held_variants tag closed (map of_row ws) ≡ row_variants c tag closed ws
  variants_built tag closed [] = refl
  variants_built tag closed (w ∷ ws) =
      ap (λ k. variant_then w.name w.name k (held_variants tag closed (map of_row ws))) (content_built tag closed w.body)
      ∙ ap (λ vs. variant_then w.name w.name (body_content c tag closed w.body) vs) (variants_built tag closed ws)

  enum_built : (name : List ℕ) (tag : TagModel) (k : Closing) (ws : List VariantRow)
      → built_enum name tag k ws (map c (variants_parts ws)) ≡ item name (enum_shape (is_closed c k ws) tag (row_variants c tag (is_closed c k ws) ws))
  enum_built name tag k ws =
      ap (λ bs. enum_held name tag k bs) (bodies_built ws)
      ∙ ap (λ b. item name (enum_shape b tag (held_variants tag b (map of_row ws)))) (closing_built k ws)
      ∙ ap (λ vs. item name (enum_shape (is_closed c k ws) tag vs)) (variants_built tag (is_closed c k ws) ws)

pub rows_are_built : RowsAreBuilt
rows_are_built c name (leaf_row e) = refl
rows_are_built c name (as_it_is_row p) = refl
rows_are_built c name (option_row p) = refl
rows_are_built c name (ruled_row p rule) = refl
rows_are_built c name (vec_row p) = refl
rows_are_built c name (set_row p) = refl
rows_are_built c name (array_row p n) = refl
rows_are_built c name (tuple_row ps n p) = tuple_built c ps n p
rows_are_built c name (map_row k p) = refl
rows_are_built c name (pattern_map_row qs p) = refl
rows_are_built c name (struct_row closed fs o) = ap (λ m. item name (struct_shape closed m)) (struct_built c fs o)
rows_are_built c name (enum_row tag closing ws) = enum_built c name tag closing ws
rows_are_built c name (merged_row ps) = refl
rows_are_built c name (refused_row k) = refl
