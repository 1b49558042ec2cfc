-- What a search looks for, as the definitions see it.
use Rattle.std.specs.Prelude.{List, Option}
use Rattle.serde_json.specs.View.{view}
use Rattle.json_value.specs.Value.{Value}
use Rattle.json_value.specs.View.{value_of}
use Rattle.schema_faults.specs.declared.search.Sought.{Sought}
use Rattle.schema_faults.specs.declared.search.Sought.TheVariants.{Malformed, BadReference, Float}
use Rattle.schema_faults.specs.declared.search.Search.{Search}
use Rattle.schema_faults.specs.Schemas.{Node}
use Rattle.schema_faults.specs.Faults.{Place, Told, told_among, first, malformed_keywords, bad_reference_texts, float_marks}

abbrev pub told_for : Value → Sought → Told
told_for document Malformed = malformed_keywords
told_for document BadReference = bad_reference_texts document
told_for document Float = float_marks

abbrev pub told_by : Search → Told
told_by s = told_for (value_of (view s.document.now)) s.sought

-- the first that is told of these schemas
abbrev pub first_among : Search → List Node → Option Place
first_among s ns = first (told_among (told_by s) ns)
