-- Schemas without marks, part by part.
use Rattle.std.proofs.Common.{◌≡◌, ℕ, List, [], ◌++◌, refl, sym, ap, ◌∙◌}
use Rattle.std.specs.Prelude.{Option, option_map}
use Rattle.schema_defs.specs.Schema as defs
use Rattle.schema_defs.specs.Schema.{Properties, no_properties, property, schemas, schema_list, object}
use Rattle.schema_defs.specs.Mapped.{mapped, mapped_all, mapped_lists, mapped_named, mapped_properties, mapped_same}
use Rattle.schema_types.specs.declared.schema.Schema.{Schema}
use Rattle.schema_types.specs.declared.schema.Subschemas.{Subschemas}
use Rattle.schema_types.specs.declared.schema.ArrayValidation.{ArrayValidation}
use Rattle.schema_types.specs.declared.schema.ObjectValidation.{ObjectValidation}
use Rattle.schema_types.specs.declared.schema.SchemaObject.{SchemaObject, out-SchemaObject, roll-SchemaObject}
use Rattle.schema_types.specs.View.{array_view, lists_of, members_view, named_of, object_view, same_of, schemas_view, subschemas_view}
use Rattle.merge_walks.specs.Carried.{Walk, unmarked}
use Rattle.merge_walks.specs.Told.{unmark}
use Rattle.merge_walked.proofs.Lists.{relisted}
use Rattle.merge_walked.proofs.Maps.{each}
use Rattle.merge_walked.proofs.Objects.{object_seen, plain_of, rebuilt}

-- what is made of each schema of a map
abbrev pub without_mark : List ℕ → defs.Schema → defs.Schema
without_mark n s = mapped unmark s

pub mapped_each : (ps : Properties) → mapped_properties unmark ps ≡ each without_mark ps
mapped_each no_properties = refl
mapped_each (property n s ps) = ap (property n (mapped unmark s)) (mapped_each ps)

pub list_begins : (ss left : List Schema) (done : List defs.Schema) → done ≡ [] → left ≡ ss → mapped_all unmark (schemas (schemas_view ss)) ≡ schemas (done ++ schema_list (mapped_all unmark (schemas (schemas_view left))))
list_begins ss left done h k =
    relisted (mapped_all unmark (schemas (schemas_view ss))) ∙ (λ i. schemas (sym h i ++ schema_list (mapped_all unmark (schemas (schemas_view (sym k i))))))

-- an object with these parts
pub object_without : (o : SchemaObject) (ss : Option Subschemas) (ls : Option ArrayValidation) (ns : Option ObjectValidation) (w : Option Walk)
    → same_of (option_map subschemas_view ss) ≡ mapped_same unmark (same_of (option_map subschemas_view (out-SchemaObject o).subschemas))
    → lists_of (option_map array_view ls) ≡ mapped_lists unmark (lists_of (option_map array_view (out-SchemaObject o).array))
    → named_of (option_map members_view ns) ≡ mapped_named unmark (named_of (option_map members_view (out-SchemaObject o).object))
    → w ≡ option_map unmarked (out-SchemaObject o).walk
    → object_view (roll-SchemaObject (record (out-SchemaObject o) { subschemas = ss; array = ls; object = ns; walk = w })) ≡ mapped unmark (object_view o)
object_without o ss ls ns w hs hl hn hw =
    rebuilt o ss ls ns w
    ∙ (λ i. object (record (plain_of o) { walk = hw i }) (hs i) (hl i) (hn i))
    ∙ sym (ap (mapped unmark) (object_seen o))
