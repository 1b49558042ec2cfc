-- How the worked examples ask: what an item is read as, and what is told of it.
use Rattle.std.specs.Prelude.{List, [], Option, Some, None, codes}
use Rattle.token_trees.specs.declared.token.Span.{Span}
use Rattle.token_trees.specs.Token.{Name}
use Rattle.syntax_trees.specs.Item.{FieldD, VariantD, ItemD}
use Rattle.attr_parts.specs.declared.derive.Derive.{Derive}
use Rattle.attr_parts.specs.declared.derive.Derive.TheVariants.{Deserialize}
use Rattle.attr_parts.specs.Diagnostics.{DiagnosticD, KindD}
use Rattle.attr_parts.specs.Places.{place_of, field_spans, variant_spans, item_spans}
use Rattle.attr_defs.specs.Renames.{Meaning}
use Rattle.container_defs.specs.Container.{ReadField, ReadVariant, ReadContainer, all_fields}
use Rattle.container_defs.specs.Checks.{variants_in}
use Rattle.container_defs.specs.Model.{model_of, diagnostics_of}
use Rattle.container_defs.specs.Written.{plain, words}

-- a renamer that answers each name itself, and one that answers one name
abbrev pub itself : Meaning
itself r n = n

abbrev pub always_z : Meaning
always_z r n = codes "z"

abbrev pub private : Name
private = plain "private" 99

abbrev pub told_to : Derive → ItemD → List DiagnosticD
told_to derive i = diagnostics_of words itself itself private i derive

abbrev pub told : ItemD → List DiagnosticD
told i = told_to Deserialize i

infixl 10 ◌!◌
abbrev pub ◌!◌ : KindD → Span → DiagnosticD
k ! s = record { kind = k; span = s }

abbrev pub item_place : ItemD → Span
item_place i = place_of (item_spans i)

abbrev pub variant_place : VariantD → Span
variant_place v = place_of (variant_spans v)

abbrev pub field_place : FieldD → Span
field_place f = place_of (field_spans f)

-- ---- the container, and parts of it

abbrev pub read_by : Derive → ItemD → Option ReadContainer
read_by derive i = model_of words itself itself private i derive

abbrev pub named_z : ItemD → Option ReadContainer
named_z i = model_of words always_z always_z private i Deserialize

abbrev pub fields_in : Option ReadContainer → List ReadField
fields_in None = []
fields_in (Some c) = all_fields c.body

abbrev pub variants_of : Option ReadContainer → List ReadVariant
variants_of None = []
variants_of (Some c) = variants_in c.body
