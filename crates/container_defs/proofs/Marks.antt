-- What marking the one field that counts changes, and what it doesn't.
use Rattle.std.proofs.Common.{◌≡◌, List, [], ◌∷◌, Bool, true, false, cond, map, length, refl, ap, sym, ◌∙◌, arith}
use Rattle.std.specs.Prelude.{filter, Option, Some, None, option_map}
use Rattle.attr_parts.specs.declared.derive.Derive.{Derive}
use Rattle.attr_parts.specs.declared.derive.Derive.TheVariants.{Serialize, Deserialize}
use Rattle.attr_parts.specs.Values.{TagD}
use Rattle.model_defs.specs.Model.{FieldModel, BodyModel, struct_model}
use Rattle.container_defs.specs.declared.style.Style.{Style}
use Rattle.container_defs.specs.declared.style.Style.TheVariants.{Struct, Tuple, Newtype, Unit as NoFields}
use Rattle.container_defs.specs.Checks.{counts, mark_if, is_one, mark_counting, mark_in, marked}
use Rattle.container_defs.specs.Container.{ReadField, ReadData, read_enum, read_struct, ReadContainer}
use Rattle.container_defs.specs.Laws.{marked_fields, OneIsMarked, DerivesAgree}
use Rattle.container_defs.specs.Reader.{field_model, style_model, body_model, reader_model}
use Rattle.container_defs.specs.Reading.{container_of}

-- ---- the reader of values doesn't see marks

abbrev mark_each : Derive → List ReadField → List ReadField
mark_each derive fs = map (λ f. mark_if (counts derive f) f) fs

field_marked : (b : Bool) (f : ReadField) → field_model (mark_if b f) ≡ field_model f
field_marked true f = refl
field_marked false f = refl

each_marked : (derive : Derive) (fs : List ReadField) → map field_model (mark_each derive fs) ≡ map field_model fs
each_marked derive [] = refl
each_marked derive (f ∷ fs) = λ i. field_marked (counts derive f) f i ∷ each_marked derive fs i

one_marked : (derive : Derive) (b : Bool) (fs : List ReadField) → map field_model (cond b (mark_each derive fs) fs) ≡ map field_model fs
one_marked derive true fs = each_marked derive fs
one_marked derive false fs = refl

counting_marked : (derive : Derive) (fs : List ReadField) → map field_model (mark_counting derive fs) ≡ map field_model fs
counting_marked derive fs = one_marked derive (is_one (filter (counts derive) fs)) fs

abbrev body_of : Style → List FieldModel → BodyModel
body_of s fs = struct_model (style_model s) fs

body_marked : (derive : Derive) (tag : TagD) (d : ReadData) → body_model tag (mark_in derive d) ≡ body_model tag d
body_marked derive tag (read_enum vs) = refl
body_marked derive tag (read_struct Struct fs) = ap (body_of Struct) (counting_marked derive fs)
body_marked derive tag (read_struct Tuple fs) = ap (body_of Tuple) (counting_marked derive fs)
body_marked derive tag (read_struct Newtype fs) = ap (body_of Newtype) (counting_marked derive fs)
body_marked derive tag (read_struct NoFields fs) = refl

maybe_marked : (derive : Derive) (tag : TagD) (b : Bool) (d : ReadData) → body_model tag (cond b (mark_in derive d) d) ≡ body_model tag d
maybe_marked derive tag true d = body_marked derive tag d
maybe_marked derive tag false d = refl

container_marked : (derive : Derive) (c : ReadContainer) → reader_model (marked derive c) ≡ reader_model c
container_marked derive c = ap (λ m. record (reader_model c) { body = m }) (maybe_marked derive c.attrs.tag c.attrs.transparent c.body)

option_marked : (o : Option ReadContainer) → option_map reader_model (option_map (marked Serialize) o) ≡ option_map reader_model (option_map (marked Deserialize) o)
option_marked None = refl
option_marked (Some c) = ap Some (container_marked Serialize c ∙ sym (container_marked Deserialize c))

pub derives_agree : DerivesAgree
derives_agree lexing variant_name field_name private i = option_marked (container_of lexing variant_name field_name private i)

-- ---- one field is marked

-- of a field that isn't marked
marked_before : (f : ReadField) (fs : List ReadField) (b : Bool) → f.attrs.transparent ≡ b → marked_fields (f ∷ fs) ≡ [] → (f.attrs.transparent ≡ false) × (marked_fields fs ≡ [])
marked_before f fs true e h = grind arith
marked_before f fs false e h = grind arith

counted : (derive : Derive) (f : ReadField) (fs : List ReadField) (b : Bool) → counts derive f ≡ b → f.attrs.transparent ≡ false
    → length (marked_fields (mark_each derive fs)) ≡ length (filter (counts derive) fs)
    → length (marked_fields (mark_each derive (f ∷ fs))) ≡ length (filter (counts derive) (f ∷ fs))
counted derive f fs true e h t = grind arith
counted derive f fs false e h t = grind arith

all_counted : (derive : Derive) (fs : List ReadField) → marked_fields fs ≡ [] → length (marked_fields (mark_each derive fs)) ≡ length (filter (counts derive) fs)
all_counted derive [] h = refl
all_counted derive (f ∷ fs) h =
    let k = marked_before f fs f.attrs.transparent refl h in
    counted derive f fs (counts derive f) refl k.0 (all_counted derive fs k.1)

one_length : (gs : List ReadField) → is_one gs ≡ true → length gs ≡ 1
one_length [] h = cc
one_length (g ∷ []) h = refl
one_length (g ∷ k ∷ gs) h = cc

one_of : (derive : Derive) (fs : List ReadField) (b : Bool) → is_one (filter (counts derive) fs) ≡ b → marked_fields fs ≡ []
    → length (marked_fields (cond b (mark_each derive fs) fs)) ≡ cond b 1 0
one_of derive fs true e h = all_counted derive fs h ∙ one_length (filter (counts derive) fs) e
one_of derive fs false e h = ap length h

pub one_is_marked : OneIsMarked
one_is_marked derive fs h = one_of derive fs (is_one (filter (counts derive) fs)) refl h
