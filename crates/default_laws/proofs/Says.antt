-- What is read of a part of a value, and what is found of it: each entry's type, and the contents of each variant.
use Rattle.std.proofs.Common.{◌≡◌, ℕ, List, [], Bool, true}
use Rattle.json_value.specs.Value.{Value}
use Rattle.model_defs.specs.Types.{TypeModel, text_type, types_of}
use Rattle.model_defs.specs.Layer.{MemberPart, Parts, one_type, places, named_fields}
use Rattle.typed_defs.specs.Typed.{Typed}
use Rattle.reading_defs.specs.Reading as reading
use Rattle.reading_defs.specs.Reading.{Read}
use Rattle.entry_defs.specs.Entry.{Target, Entry, tuple_entry, item, Entries, Shape, struct_shape, Fields, Contents, FieldEntry, VariantEntry, fields_of}
use Rattle.entry_defs.specs.Members.{names_differ}
use Rattle.entry_defs.specs.Sound.{Each, EachEntry, EachField}
use Rattle.emit_defs.specs.Setting.{Setting}
use Rattle.emit_defs.specs.Models.{type_model, type_models, struct_models}
use Rattle.default_defs.specs.Found.{Found, refused, ended}
use Rattle.default_defs.specs.Layer.{Reader}
use Rattle.default_defs.proofs.Alike as alike
use Rattle.default_laws.specs.Laws.{as_found}
use Rattle.default_laws.specs.Stated.{StatedByFields, StatedByContents, StatedByVariants, StatedByShape}

-- ---- stated defaults

module _ (s : Setting) (missed : Entry → Value → Found) (default_read : ℕ → TypeModel → Read Typed) where
  -- each default of these places is read
  abbrev pub AreRead : (ℕ → Entry → Value → TypeModel → Type 0) → Type 0
  AreRead H = (n : ℕ) (e : Entry) (w : Value) (ty : TypeModel) → H n e w ty → (missed e w ≡ refused → ⊥) × (as_found (default_read n ty) ≡ missed e w)

  abbrev pub FieldsAreRead : List ℕ → ℕ → List FieldEntry → Type 0
  FieldsAreRead owner at fs = AreRead (λ n e w ty. StatedByFields s n e w ty owner at fs)

  abbrev pub ContentsAreRead : List ℕ → ℕ → Contents → Type 0
  ContentsAreRead owner at c = AreRead (λ n e w ty. StatedByContents s n e w ty owner at c)

  abbrev pub VariantsAreRead : List ℕ → ℕ → List VariantEntry → Type 0
  VariantsAreRead owner at ws = AreRead (λ n e w ty. StatedByVariants s n e w ty owner at ws)

  abbrev pub ShapeIsRead : List ℕ → ℕ → Shape → Type 0
  ShapeIsRead owner at c = AreRead (λ n e w ty. StatedByShape s n e w ty owner at c)

-- ---- parts

module _ (s : Setting) (missed : Entry → Value → Found) (default_read : ℕ → TypeModel → Read Typed) (P : List ℕ → Shape → Type 0) (Q : Target → Type 0) where
  pub record Says (j : Reader) (k : reading.Reader) : Type 0 where
    pub one : (b : List ℕ → Bool) (e : Entry) → Each P Q e → as_found (k.as_type (type_model s.name b e)) ≡ j e
    pub lone : (b : List ℕ → Bool) (e : Entry) → Each P Q e → as_found (k.as_content (one_type (type_model s.name b e))) ≡ j e
    pub several : (b : List ℕ → Bool) (es : Entries) → EachEntry P Q es → as_found (k.as_content (places (types_of (type_models s.name b es)))) ≡ j (tuple_entry es)
    pub fields : (owner : List ℕ) (n : ℕ) (closed : Bool) (fs : Fields) → names_differ (fields_of fs) ≡ true → EachField P Q fs
        → FieldsAreRead s missed default_read owner n (fields_of fs)
        → as_found (k.as_content (named_fields closed (struct_models s owner n fs))) ≡ j (item [] (struct_shape closed fs))

  -- a name is read as a text
  pub record IsName (j : Reader) (k : reading.Reader) : Type 0 where
    pub says : Says j k
    pub is_a_text : as_found (k.as_type text_type) ≡ ended

  abbrev pub ItemsSay : List Reader → List reading.Reader → Type 0
  ItemsSay = alike.AlikeItems Reader reading.Reader IsName Says

  abbrev pub MembersSay : List (MemberPart Reader) → List (MemberPart reading.Reader) → Type 0
  MembersSay = alike.AlikeMembers Reader reading.Reader IsName Says

  abbrev pub PartsSay : Parts Reader → Parts reading.Reader → Type 0
  PartsSay = alike.AlikeParts Reader reading.Reader IsName Says
