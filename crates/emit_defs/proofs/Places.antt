-- The places of tuples as lists: where an entry stands for several places, so does its type.
use Rattle.std.proofs.Common.{◌≡◌, ℕ, List, ◌∷◌, map, Bool, refl, ap, ◌∙◌}
use Rattle.std.specs.List.{AllByRecursion}
use Rattle.model_defs.specs.Types.{TypeModel, TypeModels, any_type, no_types, type_then, types_of}
use Rattle.entry_defs.specs.Entry.{Target, Entries, no_entries, entry_then, entry_again, next_entry, entries_of, Shape, Fields, no_fields, field_then, field_again, rest_field, next_field}
use Rattle.entry_defs.specs.Sound.{Each, EachEntry, EachField}
use Rattle.emit_defs.specs.Models.{type_again, type_model, type_models}

abbrev pub first_type : TypeModels → TypeModel
first_type no_types = any_type
first_type (type_then t ts) = t

pub types_again : (ts : TypeModels) → types_of (type_again ts) ≡ first_type ts ∷ types_of ts
types_again no_types = refl
types_again (type_then t ts) = refl

first_again : (ts : TypeModels) → first_type (type_again ts) ≡ first_type ts
first_again no_types = refl
first_again (type_then t ts) = refl

module _ (name : Target → List ℕ) (b : List ℕ → Bool) where
  pub first_model : (es : Entries) → first_type (type_models name b es) ≡ type_model name b (next_entry es)
  first_model no_entries = refl
  first_model (entry_then e es) = refl
  first_model (entry_again es) = first_again (type_models name b es) ∙ first_model es

  pub models_listed : (es : Entries) → types_of (type_models name b es) ≡ map (type_model name b) (entries_of es)
  models_listed no_entries = refl
  models_listed (entry_then e es) = ap (λ z. type_model name b e ∷ z) (models_listed es)
  models_listed (entry_again es) =
      let first = first_model es in
      let rec = models_listed es in
      types_again (type_models name b es) ∙ (λ i. first i ∷ rec i)

module _ (P : List ℕ → Shape → Type 0) (Q : Target → Type 0) where
  each_next : (es : Entries) → EachEntry P Q es → Each P Q (next_entry es)
  each_next no_entries h = tt
  each_next (entry_then e es) h = h.0
  each_next (entry_again es) h = each_next es h

  pub each_listed : (es : Entries) → EachEntry P Q es → AllByRecursion (Each P Q) (entries_of es)
  each_listed no_entries h = tt
  each_listed (entry_then e es) h = (h.0, each_listed es h.1)
  each_listed (entry_again es) h = (each_next es h, each_listed es h)

  pub next_each : (fs : Fields) → EachField P Q fs → Each P Q (next_field fs)
  next_each no_fields h = tt
  next_each (field_then i n e s fs) h = h.0
  next_each (field_again i n fs) h = next_each fs h
  next_each (rest_field i e) h = h
