-- Two judges of one value that agree: of entries, and of the contents that stand for them.
use Rattle.std.proofs.Common.{◌≡◌, ℕ, List, [], Bool, true}
use Rattle.model_defs.specs.Types.{types_of}
use Rattle.model_defs.specs.Layer as layer
use Rattle.model_defs.specs.Layer.{one_type, places, named_fields}
use Rattle.entry_defs.specs.Entry.{Target, Entry, tuple_entry, item, Entries, Shape, struct_shape, Fields, fields_of}
use Rattle.entry_defs.specs.Layer.{Judge}
use Rattle.emit_defs.specs.Setting.{Setting}
use Rattle.emit_defs.specs.Models.{type_model, type_models, struct_models}
use Rattle.entry_defs.specs.Members.{names_differ}
use Rattle.entry_defs.specs.Sound.{Each, EachEntry, EachField}

module _ (s : Setting) (P : List ℕ → Shape → Type 0) (Q : Target → Type 0) where
  pub record Agree (takes : Judge) (reads : layer.Judge) : Type 0 where
    pub one : (b : List ℕ → Bool) (e : Entry) → Each P Q e → takes e ≡ reads (one_type (type_model s.name b e))
    pub several : (b : List ℕ → Bool) (es : Entries) → EachEntry P Q es → takes (tuple_entry es) ≡ reads (places (types_of (type_models s.name b es)))
    pub fields : (owner : List ℕ) (n : ℕ) (closed : Bool) (fs : Fields) → names_differ (fields_of fs) ≡ true → EachField P Q fs
        → takes (item [] (struct_shape closed fs)) ≡ reads (named_fields closed (struct_models s owner n fs))

  pub record Both : Type 0 where
    pub left : Judge
    pub right : layer.Judge
    pub agree : Agree left right
