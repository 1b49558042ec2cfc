-- What stands at a place of a list, as it is seen.
use Rattle.std.proofs.Common.{◌≡◌, ℕ, zero, suc, List, [], ◌∷◌, map, refl, Option, Some, None, option_map, slice_get, length, vec_len, Bor, sym, ap, ◌∙◌}
use Rattle.std.specs.declared.alloc.Global.{Global}
use Rattle.std.specs.declared.vec.Vec.{Vec}
use Rattle.std.proofs.lemmas.List.{length-map}
use Rattle.std.specs.Slice.{IsItemAt}
use Rattle.serde_json.specs.declared.value.Value as json
use Rattle.json_value.specs.View.{kept_view}
use Rattle.model_defs.specs.Model.{FieldModel, VariantModel}
use Rattle.value_models.specs.declared.value_type.ValueType.{ValueType}
use Rattle.value_models.specs.declared.field.Field.{Field}
use Rattle.value_models.specs.declared.variant.Variant.{Variant}
use Rattle.value_models.specs.TypeView.{type_view, types_view}
use Rattle.value_models.specs.FieldView.{field_view, fields_view}
use Rattle.value_models.specs.VariantView.{variant_view, variants_view}
use Rattle.value_models.proofs.Tables.{item_behind}

pub value_behind : (vs : List json.Value) (i : ℕ) (o : Option (Bor json.Value)) → IsItemAt vs i o → option_map (λ (v : Bor json.Value). kept_view v.now) o ≡ slice_get (map kept_view vs) i
value_behind vs i o h = item_behind kept_view vs i o h

pub type_behind : (ts : List ValueType) (i : ℕ) (o : Option (Bor ValueType)) → IsItemAt ts i o → option_map (λ (t : Bor ValueType). type_view t.now) o ≡ slice_get (types_view ts) i
type_behind ts i o h = item_behind type_view ts i o h

pub types_counted : (ts : List ValueType) (n : ℕ) → n ≡ length ts → Some n ≡ Some (length (types_view ts))
types_counted ts n h = ap Some (h ∙ sym (length-map ts type_view))

pub fields_counted : (fs : List Field) (n : ℕ) → n ≡ length fs → Some n ≡ Some (length (map (λ f. f.field_type) (fields_view fs)))
fields_counted fs n h = ap Some (h ∙ sym (length-map (fields_view fs) (λ f. f.field_type) ∙ length-map fs field_view))

pub values_counted : (vs : Vec json.Value Global) (n : ℕ) → n ≡ vec_len vs → n ≡ length (map kept_view vs.items)
values_counted vs n h = h ∙ vs.ok.0 ∙ sym (length-map vs.items kept_view)

got_field : (fs : List FieldModel) (i : ℕ) → option_map (λ f. f.field_type) (slice_get fs i) ≡ slice_get (map (λ f. f.field_type) fs) i
got_field [] i = refl
got_field (f ∷ fs) zero = refl
got_field (f ∷ fs) (suc i) = got_field fs i

pub field_there : (fs : List Field) (i : ℕ) (f : Bor Field) → IsItemAt fs i (Some f) → Some (type_view f.now.field_type) ≡ slice_get (map (λ g. g.field_type) (fields_view fs)) i
field_there fs i f h = ap (option_map (λ g. g.field_type)) (item_behind field_view fs i (Some f) h) ∙ got_field (fields_view fs) i

pub field_nowhere : (fs : List Field) (i : ℕ) → IsItemAt fs i None → None ≡ slice_get (map (λ g. g.field_type) (fields_view fs)) i
field_nowhere fs i h = ap (option_map (λ g. g.field_type)) (item_behind field_view fs i None h) ∙ got_field (fields_view fs) i

pub variant_behind : (ws : List Variant) (i : ℕ) (o : Option (Bor Variant)) → IsItemAt ws i o → option_map (λ (w : Bor Variant). variant_view w.now) o ≡ slice_get (variants_view ws) i
variant_behind ws i o h = item_behind variant_view ws i o h

pub variant_there : (p : ℕ) (w : VariantModel) (o : Option VariantModel) → Some w ≡ o → ◌≡◌ {A = Option (ℕ × VariantModel)} (Some (p, w)) (option_map (λ u. (p, u)) o)
variant_there p w o h = let f : VariantModel → ℕ × VariantModel = λ u. (p, u) in ap (option_map f) h

pub variant_nowhere : (p : ℕ) (o : Option VariantModel) → None ≡ o → ◌≡◌ {A = Option (ℕ × VariantModel)} None (option_map (λ u. (p, u)) o)
variant_nowhere p o h = let f : VariantModel → ℕ × VariantModel = λ u. (p, u) in ap (option_map f) h
