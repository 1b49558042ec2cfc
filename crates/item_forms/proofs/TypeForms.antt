-- Types by their forms.
use Rattle.std.proofs.Common.{◌≡◌, ℕ, List, Bool, true, false, Option, Some, None, refl, sym, ap, ◌∙◌}
use Rattle.syntax_trees.specs.Syntax.{ExprPathD}
use Rattle.type_spellings.specs.Types.{tuple_of, array_of}
use Rattle.model_defs.specs.Types.{TypeModel, boolean_type, integer_type, text_type, native_type, any_type, unit_type, option_type, boxed_type, vec_type, set_type, map_type, tuple_type, array_type, item_type, outside_type, TypeModels, no_types, type_then}
use Rattle.value_types.specs.declared.rows.Plain.{Plain}
use Rattle.value_types.specs.declared.rows.Plain.TheVariants.{Boolean, Whole, Signed, Text as PlainText, Native, Any}
use Rattle.value_types.specs.declared.rows.Holder.{Holder}
use Rattle.value_types.specs.declared.rows.Holder.TheVariants as holders
use Rattle.value_types.specs.RowView.{plain_view, held}
use Rattle.container_defs.specs.Forms.{is_option, is_text, is_text_map, empties}
use Rattle.item_forms.specs.declared.type_form.Form.{Form}
use Rattle.item_forms.specs.declared.type_form.Form.TheVariants.{Other}
use Rattle.item_forms.specs.TypeForm.{form, is_optional, is_textual, empties_form}

tuple_is_other : (ts : TypeModels) → Other ≡ form (tuple_of ts)
tuple_is_other no_types = refl
tuple_is_other (type_then t ts) = refl

pub tuple_form : (ts : TypeModels) (m : TypeModel) → tuple_of ts ≡ m → Other ≡ form m
tuple_form ts m e = tuple_is_other ts ∙ ap form e

array_is_other : (t : TypeModel) (o : Option ℕ) → Other ≡ form (array_of t o)
array_is_other t None = refl
array_is_other t (Some n) = refl

pub array_form : (t : TypeModel) (o : Option ℕ) (m : TypeModel) → array_of t o ≡ m → Other ≡ form m
array_form t o m e = array_is_other t o ∙ ap form e

option_seen : (m : TypeModel) → is_optional (form m) ≡ is_option m
option_seen boolean_type = refl
option_seen (integer_type r) = refl
option_seen text_type = refl
option_seen (native_type f) = refl
option_seen any_type = refl
option_seen unit_type = refl
option_seen (option_type t) = refl
option_seen (boxed_type t) = refl
option_seen (vec_type t) = refl
option_seen (set_type t) = refl
option_seen (map_type k t) = refl
option_seen (tuple_type ts) = refl
option_seen (array_type t n) = refl
option_seen (item_type n) = refl
option_seen outside_type = refl

pub optional_formed : (m : TypeModel) (f : Form) → f ≡ form m → is_optional f ≡ is_option m
optional_formed m f e = ap is_optional e ∙ option_seen m

text_seen : (m : TypeModel) → is_textual (form m) ≡ is_text m
text_seen boolean_type = refl
text_seen (integer_type r) = refl
text_seen text_type = refl
text_seen (native_type f) = refl
text_seen any_type = refl
text_seen unit_type = refl
text_seen (option_type t) = refl
text_seen (boxed_type t) = refl
text_seen (vec_type t) = refl
text_seen (set_type t) = refl
text_seen (map_type k t) = refl
text_seen (tuple_type ts) = refl
text_seen (array_type t n) = refl
text_seen (item_type n) = refl
text_seen outside_type = refl

pub textual_formed : (m : TypeModel) (f : Form) → f ≡ form m → is_textual f ≡ is_text m
textual_formed m f e = ap is_textual e ∙ text_seen m

emptied_by : (m : TypeModel) (p : ExprPathD) → empties_form (form m) p ≡ empties m p
emptied_by boolean_type p = refl
emptied_by (integer_type r) p = refl
emptied_by text_type p = refl
emptied_by (native_type f) p = refl
emptied_by any_type p = refl
emptied_by unit_type p = refl
emptied_by (option_type t) p = refl
emptied_by (boxed_type t) p = refl
emptied_by (vec_type t) p = refl
emptied_by (set_type t) p = refl
emptied_by (map_type k t) p = refl
emptied_by (tuple_type ts) p = refl
emptied_by (array_type t n) p = refl
emptied_by (item_type n) p = refl
emptied_by outside_type p = refl

pub emptied : (m : TypeModel) (f : Form) (p : ExprPathD) → f ≡ form m → empties_form f p ≡ empties m p
emptied m f p e = ap (λ g. empties_form g p) e ∙ emptied_by m p

-- ---- maps whose keys are texts

key_is_text : (k t : TypeModel) → is_text k ≡ is_text_map (map_type k t)
key_is_text boolean_type t = refl
key_is_text (integer_type r) t = refl
key_is_text text_type t = refl
key_is_text (native_type f) t = refl
key_is_text any_type t = refl
key_is_text unit_type t = refl
key_is_text (option_type s) t = refl
key_is_text (boxed_type s) t = refl
key_is_text (vec_type s) t = refl
key_is_text (set_type s) t = refl
key_is_text (map_type k s) t = refl
key_is_text (tuple_type ts) t = refl
key_is_text (array_type s n) t = refl
key_is_text (item_type n) t = refl
key_is_text outside_type t = refl

pub map_of_texts : (k t m : TypeModel) (b : Bool) → map_type k t ≡ m → b ≡ is_text k → b ≡ is_text_map m
map_of_texts k t m b e h = h ∙ key_is_text k t ∙ ap is_text_map e

plain_by : (p : Plain) → false ≡ is_text_map (plain_view p)
plain_by Boolean = refl
plain_by (Whole l g) = refl
plain_by (Signed b g) = refl
plain_by PlainText = refl
plain_by (Native f) = refl
plain_by Any = refl

pub plain_is_no_map : (p : Plain) (m : TypeModel) → plain_view p ≡ m → false ≡ is_text_map m
plain_is_no_map p m e = plain_by p ∙ ap is_text_map e

held_by : (h : Holder) (t : TypeModel) → false ≡ is_text_map (held h t)
held_by holders.Optional t = refl
held_by holders.Boxed t = refl
held_by holders.List t = refl
held_by holders.Set t = refl

pub held_is_no_map : (h : Holder) (t m : TypeModel) → held h t ≡ m → false ≡ is_text_map m
held_is_no_map h t m e = held_by h t ∙ ap is_text_map e

tuple_by : (ts : TypeModels) → false ≡ is_text_map (tuple_of ts)
tuple_by no_types = refl
tuple_by (type_then t ts) = refl

pub tuple_is_no_map : (ts : TypeModels) (m : TypeModel) → tuple_of ts ≡ m → false ≡ is_text_map m
tuple_is_no_map ts m e = tuple_by ts ∙ ap is_text_map e

array_by : (t : TypeModel) (o : Option ℕ) → false ≡ is_text_map (array_of t o)
array_by t None = refl
array_by t (Some n) = refl

pub array_is_no_map : (t : TypeModel) (o : Option ℕ) (m : TypeModel) → array_of t o ≡ m → false ≡ is_text_map m
array_is_no_map t o m e = array_by t o ∙ ap is_text_map e
