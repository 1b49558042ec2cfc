-- What is found where answers are joined: each word of reading has its own word.
use Rattle.std.proofs.Common.{◌≡◌, List, ◌∷◌, Bool, true, false, refl, sym, ap}
use Rattle.std.specs.Prelude.{if◌then◌else◌}
use Rattle.json_value.specs.Value as value
use Rattle.json_value.specs.Value.{Value, null, number, fraction, text, list, object}
use Rattle.schema_defs.specs.declared.Format.{Format}
use Rattle.schema_defs.specs.Location.{Location, Step}
use Rattle.schema_defs.specs.Integers.{Range, in_range}
use Rattle.schema_defs.specs.Texts.{Relations}
use Rattle.model_defs.specs.Model.{HelperModel, no_helper, some_helper, whole_helper}
use Rattle.model_defs.specs.Layer.{is_null, is_boolean, is_text, is_in_range, has_the_format}
use Rattle.typed_defs.specs.Typed.{Typed}
use Rattle.reading_defs.specs.Reading as reading
use Rattle.reading_defs.specs.Reading.{Read, taken, stopped, unsound, read_map, under, here, if_sound, followed, paired, kept_if, helped, boolean_read, integer_read, text_read, native_read, unit_read}
use Rattle.default_defs.specs.Found.{Found, refused, ended, endless, if_so, told, both, or_next, given}
use Rattle.default_laws.specs.Laws.{as_found}

-- ---- joins

pub of_map : {A B : Type 0} (f : A → B) (x : Read A) → as_found (read_map f x) ≡ as_found x
of_map f (taken x) = refl
of_map f (stopped l) = refl
of_map f unsound = refl

pub of_paired : {A B : Type 0} (x : Read A) (y : Read B) → as_found (paired x y) ≡ both (as_found x) (as_found y)
of_paired (taken x) y = of_map (λ z. (x, z)) y
of_paired (stopped l) y = refl
of_paired unsound y = refl

module _ {A : Type 0} where
  pub of_under : (s : Step) (x : Read A) → as_found (under s x) ≡ as_found x
  of_under s (taken x) = refl
  of_under s (stopped l) = refl
  of_under s unsound = refl

  pub of_here : (x : Read A) → as_found (here x) ≡ as_found x
  of_here (taken x) = refl
  of_here (stopped l) = refl
  of_here unsound = refl

  pub of_followed : (x : Read A) (xs : Read (List A)) → as_found (followed x xs) ≡ both (as_found x) (as_found xs)
  of_followed (taken x) xs = of_map (λ z. x ∷ z) xs
  of_followed (stopped l) xs = refl
  of_followed unsound xs = refl

  pub of_next : (x y : Read A) → as_found (reading.or_next x y) ≡ or_next (as_found x) (as_found y)
  of_next (taken x) y = refl
  of_next (stopped l) y = refl
  of_next unsound y = refl

  pub of_kept : (b : Bool) (x : Read A) → as_found (kept_if b x) ≡ both (as_found x) (told b)
  of_kept true (taken x) = refl
  of_kept false (taken x) = refl
  of_kept b (stopped l) = refl
  of_kept b unsound = refl

  pub of_if : (b : Bool) (x : Read A) (l : Location) → as_found (if b then x else stopped l) ≡ if_so b (as_found x)
  of_if true x l = refl
  of_if false x l = refl

  -- a default that isn't refused
  pub of_sound : (x : Read A) (y : Found) → (y ≡ refused → ⊥) → as_found x ≡ y → as_found (if_sound x) ≡ given y
  of_sound (taken x) y h e = ap given e
  of_sound (stopped l) y h e = absurd (h (sym e))
  of_sound unsound y h e = ap given e

pub of_helped : (h : HelperModel) (x : Read Typed) → as_found (helped h x) ≡ as_found x
of_helped no_helper x = refl
of_helped some_helper x = of_map _ x
of_helped whole_helper x = refl

-- ---- what is found alone

pub both_ended : (x : Found) → both x ended ≡ x
both_ended refused = refl
both_ended ended = refl
both_ended endless = refl

pub both_grouped : (x y z : Found) → both x (both y z) ≡ both (both x y) z
both_grouped refused y z = refl
both_grouped ended y z = refl
both_grouped endless y z = refl

-- ---- scalars

choice : {A : Type 0} (b : Bool) (x : A) (l : Location) → as_found (if b then taken x else stopped l) ≡ told b
choice true x l = refl
choice false x l = refl

pub of_boolean : (v : Value) → as_found (boolean_read v) ≡ told (is_boolean v)
of_boolean (value.boolean b) = refl
of_boolean _ = refl

pub of_integer : (g : Range) (v : Value) → as_found (integer_read g v) ≡ told (is_in_range g v)
of_integer g (number z) = choice (in_range z g) _ _
of_integer g _ = refl

pub of_text : (v : Value) → as_found (text_read v) ≡ told (is_text v)
of_text (text s) = refl
of_text _ = refl

pub of_native : (r : Relations) (f : Format) (v : Value) → as_found (native_read r f v) ≡ told (has_the_format r f v)
of_native r f (text s) = choice (r.has_format f s) _ _
of_native r f _ = refl

pub of_unit : (v : Value) → as_found (unit_read v) ≡ told (is_null v)
of_unit null = refl
of_unit _ = refl
