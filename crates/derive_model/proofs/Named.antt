-- The names of containers of the program are texts.
use Rattle.std.proofs.Common.{◌≡◌, List, [], ◌∷◌, map, true, ◌&&◌, refl, String}
use Rattle.std.specs.Prelude.{string_bytes}
use Rattle.std.specs.List.{list_all}
use Rattle.std.specs.Str.{is_utf8}
use Rattle.std.specs.declared.alloc.Global.{Global}
use Rattle.std.proofs.lemmas.Str.{is_utf8-from_IsUtf8, IsUtf8-string_bytes}
use Rattle.value_models.specs.declared.field.Field.{Field}
use Rattle.value_models.specs.declared.variant.Variant.{Variant}
use Rattle.value_models.specs.declared.container.Tag as tag
use Rattle.value_models.specs.declared.container.Tag.TheVariants as tags
use Rattle.value_models.specs.declared.container.Body as body
use Rattle.value_models.specs.declared.container.Body.TheVariants as bodies
use Rattle.value_models.specs.declared.container.Container.{Container}
use Rattle.value_models.specs.FieldView.{fields_view}
use Rattle.value_models.specs.VariantView.{fields_in, variants_view}
use Rattle.value_models.specs.ContainerView.{tag_view, body_view, containers_view, variants_in}
use Rattle.example_laws.specs.Fitted.{names_pass, is_tag_text, are_names_texts}
use Rattle.example_laws.proofs.Small.{both}

text : (s : String Global) → is_utf8 (string_bytes s) ≡ true
text s = is_utf8-from_IsUtf8 (string_bytes s) (IsUtf8-string_bytes s)

texts : (ss : List (String Global)) → list_all is_utf8 (map string_bytes ss) ≡ true
texts [] = refl
texts (s ∷ ss) = both (is_utf8 (string_bytes s)) (list_all is_utf8 (map string_bytes ss)) (text s) (texts ss)

fields_named : (fs : List Field) → names_pass is_utf8 (fields_view fs) ≡ true
fields_named [] = refl
fields_named (f ∷ fs) = both (list_all is_utf8 (map string_bytes f.deserialize_names.items)) (names_pass is_utf8 (fields_view fs)) (texts f.deserialize_names.items) (fields_named fs)

variants_named : (ws : List Variant) → list_all (λ w. list_all is_utf8 w.deserialize_names && names_pass is_utf8 w.fields) (variants_view ws) ≡ true
variants_named [] = refl
variants_named (w ∷ ws) =
    both (list_all is_utf8 (map string_bytes w.deserialize_names.items) && names_pass is_utf8 (fields_in w.fields)) (list_all (λ w. list_all is_utf8 w.deserialize_names && names_pass is_utf8 w.fields) (variants_view ws))
    (both (list_all is_utf8 (map string_bytes w.deserialize_names.items)) (names_pass is_utf8 (fields_in w.fields)) (texts w.deserialize_names.items) (fields_named w.fields.fields.items)) (variants_named ws)

tag_named : (t : tag.Tag) → is_tag_text (tag_view t) ≡ true
tag_named tags.External = refl
tag_named (tags.Internal t) = text t
tag_named (tags.Adjacent t k) = both (is_utf8 (string_bytes t)) (is_utf8 (string_bytes k)) (text t) (text k)
tag_named tags.Untagged = refl

body_named : (b : body.Body) → are_names_texts (body_view b) ≡ true
body_named (bodies.Struct s fs) = fields_named fs.fields.items
body_named (bodies.Enum t ws) = both (is_tag_text (tag_view t)) (list_all (λ w. list_all is_utf8 w.deserialize_names && names_pass is_utf8 w.fields) (variants_in ws)) (tag_named t) (variants_named ws.variants.items)

pub containers_named : (ms : List Container) → list_all (λ m. are_names_texts m.body) (containers_view ms) ≡ true
containers_named [] = refl
containers_named (m ∷ ms) = both (are_names_texts (body_view m.body)) (list_all (λ m. are_names_texts m.body) (containers_view ms)) (body_named m.body) (containers_named ms)
