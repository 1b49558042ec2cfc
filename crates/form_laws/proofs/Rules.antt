-- Containers within the forms that are converted are newtypes.
use Rattle.std.proofs.Common.{◌≡◌, List, [], ◌∷◌, Bool, true, false, not, ◌&&◌, ◌||◌, Option, Some, None, is_some, refl, sym, ap, ◌∙◌}
use Rattle.attr_parts.specs.Values.{TagD}
use Rattle.syntax_trees.specs.Syntax.{TyD}
use Rattle.type_spellings.specs.Types.{type_of}
use Rattle.model_defs.specs.Types.{TypeModel, boolean_type, integer_type, text_type, native_type, any_type, unit_type, option_type, boxed_type, vec_type, set_type, map_type, tuple_type, array_type, item_type, outside_type}
use Rattle.reading_defs.specs.Proper.{is_newtype}
use Rattle.container_defs.specs.declared.style.Style.{Style}
use Rattle.container_defs.specs.declared.style.Style.TheVariants.{Struct, Tuple, Newtype, Unit as NoFields}
use Rattle.container_defs.specs.Container.{ReadField, ReadData, read_enum, read_struct}
use Rattle.container_defs.specs.Reader.{body_model}
use Rattle.container_defs.specs.Forms.{fails, same_type, newtype_type}
use Rattle.form_laws.proofs.Fields.{true_of_not}

outside_is_none : (m : TypeModel) → same_type outside_type m ≡ false
outside_is_none boolean_type = refl
outside_is_none (integer_type r) = refl
outside_is_none text_type = refl
outside_is_none (native_type f) = refl
outside_is_none any_type = refl
outside_is_none unit_type = refl
outside_is_none (option_type t) = refl
outside_is_none (boxed_type t) = refl
outside_is_none (vec_type t) = refl
outside_is_none (set_type t) = refl
outside_is_none (map_type k t) = refl
outside_is_none (tuple_type ts) = refl
outside_is_none (array_type t n) = refl
outside_is_none (item_type n) = refl
outside_is_none outside_type = refl

first_true : (a b : Bool) → (a && b) ≡ true → a ≡ true
first_true true b h = refl
first_true false b h = cc

not_outside : (t : TypeModel) → same_type outside_type t ≡ true → ⊥
not_outside t h = let no = outside_is_none t in cc

style_is_newtype : (tag : TagD) (s : Style) (fs : List ReadField) (t : TypeModel) → same_type (newtype_type (read_struct s fs)) t ≡ true → is_newtype (body_model tag (read_struct s fs)) ≡ true
style_is_newtype tag Struct fs t h = absurd (not_outside t h)
style_is_newtype tag Tuple fs t h = absurd (not_outside t h)
style_is_newtype tag Newtype fs t h = refl
style_is_newtype tag NoFields fs t h = absurd (not_outside t h)

body_is_newtype : (tag : TagD) (d : ReadData) (t : TypeModel) → same_type (newtype_type d) t ≡ true → is_newtype (body_model tag d) ≡ true
body_is_newtype tag (read_enum vs) t h = absurd (not_outside t h)
body_is_newtype tag (read_struct s fs) t h = style_is_newtype tag s fs t h

pub rule_fits : (tag : TagD) (d : ReadData) (alone : Bool) (o : Option TyD) → fails (λ t. same_type (newtype_type d) (type_of t) && alone) o ≡ false → (not (is_some o) || is_newtype (body_model tag d)) ≡ true
rule_fits tag d alone None h = refl
rule_fits tag d alone (Some t) h = body_is_newtype tag d (type_of t) (first_true (same_type (newtype_type d) (type_of t)) alone (true_of_not (same_type (newtype_type d) (type_of t) && alone) h))
