-- Where a value is malformed as a schema document, where its references stand and which of them lead nowhere, and where numbers that are not whole stand, each in the order of the document's schemas.
use Rattle.std.specs.Prelude.{ℕ, ◌&&◌, ◌||◌, not, List, [], ◌∷◌, map, filter, Bool, true, false, Option, Some, None, bytes_eq, codes, nat_eq, if◌then◌else◌}
use Rattle.std.specs.List.{flat_map, list_any, list_all, starts_with}
use Rattle.json_value.specs.Value as value
use Rattle.json_value.specs.Value.{Value, Items, Members, text, list, no_items, item, member_at, is_whole, is_among}
use Rattle.schema_defs.specs.Location.{Location}
use Rattle.schema_defs.specs.Admits.{definition_name, is_root_reference}
use Rattle.schema_faults.specs.declared.keyword.Holds.{Holds}
use Rattle.schema_faults.specs.declared.keyword.Holds.TheVariants.{Anything, TypeNames, Values, Number, Multiple, Size}
use Rattle.schema_faults.specs.Keywords.{Row, keywords, is_known_at, fits, is_fraction, type_words, is_under}
use Rattle.schema_faults.specs.Schemas.{Node, schemas_of}

-- a place, and a text that is told of it
abbrev pub Place : Type 0
Place = Location × List ℕ

-- the texts that are told of one schema: of the root or not, held by that keyword
abbrev pub Told : Type 0
Told = Bool → List ℕ → Value → List (List ℕ)

abbrev pub told_at : Told → Node → List Place
told_at f n = map (λ t. (n.steps, t)) (f n.at_root n.keyword n.value)

abbrev pub told_among : Told → List Node → List Place
told_among f ns = flat_map (told_at f) ns

abbrev pub told_of : Told → Value → List Place
told_of f v = told_among f (schemas_of v)

abbrev pub first : {A : Type 0} → List A → Option A
first [] = None
first (x ∷ xs) = Some x

-- ---- malformed places

abbrev pub breaks : Members → Holds → Option Value → Bool
breaks owner h None = false
breaks owner h (Some v) = not (fits owner h v)

-- whether a keyword holds what it may not
abbrev pub is_broken : Bool → Members → Row → Bool
is_broken at_root owner r = is_known_at at_root r.1 && breaks owner r.1 (member_at r.0 owner)

-- the keywords that are malformed at a schema; of what is no schema, the keyword that holds it
abbrev pub malformed_keywords : Told
malformed_keywords at_root k (value.object ms) = map (λ r. r.0) (filter (is_broken at_root ms) keywords)
malformed_keywords at_root k (value.boolean b) = []
malformed_keywords at_root k _ = k ∷ []

-- the places where a document is malformed, each with its keyword
abbrev pub malformed_places : Value → List Place
malformed_places v = told_of malformed_keywords v

-- ---- references

abbrev pub text_in : Option Value → List (List ℕ)
text_in (Some (text s)) = s ∷ []
text_in _ = []

abbrev pub references_in : Value → List (List ℕ)
references_in (value.object ms) = text_in (member_at (codes "$ref") ms)
references_in _ = []

abbrev pub reference_texts : Told
reference_texts at_root k v = references_in v

-- the places of references, each with its text
abbrev pub reference_places : Value → List Place
reference_places v = told_of reference_texts v

-- whether a document has a definition of that name, under whichever keyword
abbrev pub defines : Value → List ℕ → Bool
defines (value.object ms) n = is_under (codes "$defs") ms n || is_under (codes "definitions") ms n
defines _ n = false

abbrev pub is_defined : Value → Option (List ℕ) → Bool
is_defined d None = false
is_defined d (Some n) = defines d n

-- whether a reference names the root or a definition of the document
abbrev pub leads : Value → List ℕ → Bool
leads d q = if is_root_reference q then true else is_defined d (definition_name q)

-- whether a reference stays in the document
abbrev pub is_internal : List ℕ → Bool
is_internal q = starts_with nat_eq q (codes "#")

abbrev pub bad_reference_texts : Value → Told
bad_reference_texts d at_root k v = filter (λ q. not (leads d q)) (references_in v)

-- the places of references that lead nowhere: missing where the text begins with `#`, external where it does not
abbrev pub bad_references : Value → List Place
bad_references v = told_of (bad_reference_texts v) v

-- ---- numbers that are not whole

abbrev pub lists_all_types : Items → Bool
lists_all_types xs = list_all (λ n. is_among (text n) xs) type_words

-- type `number`, but in a list of all seven names
abbrev pub names_number : Value → Bool
names_number (text s) = bytes_eq s (codes "number")
names_number (list xs) = is_among (text (codes "number")) xs && not (lists_all_types xs)
names_number _ = false

-- a number that is not whole, where a number stands or a value is kept
abbrev pub holds_fraction : Holds → Value → Bool
holds_fraction Number v = is_fraction v
holds_fraction Multiple v = is_fraction v
holds_fraction Size v = is_fraction v
holds_fraction Anything v = not (is_whole v)
holds_fraction Values v = not (is_whole v)
holds_fraction _ v = false

abbrev pub is_float : Holds → Value → Bool
is_float TypeNames v = names_number v
is_float h v = holds_fraction h v

abbrev pub if_present : (Value → Bool) → Option Value → Bool
if_present p None = false
if_present p (Some v) = p v

-- whether some keyword of a schema is such
abbrev pub some_keyword : (Holds → Value → Bool) → Value → Bool
some_keyword p (value.object ms) = list_any (λ r. if_present (p r.1) (member_at r.0 ms)) keywords
some_keyword p _ = false

-- a place alone: the text that is told is empty
abbrev pub mark_if : Bool → List (List ℕ)
mark_if b = if b then [] ∷ [] else []

abbrev pub float_marks : Told
float_marks at_root k v = mark_if (some_keyword is_float v)

-- the places of type `number` and of numbers that are not whole
abbrev pub float_places : Value → List Place
float_places v = told_of float_marks v

abbrev pub fraction_marks : Told
fraction_marks at_root k v = mark_if (some_keyword holds_fraction v)

-- those of numbers that are not whole
abbrev pub fraction_places : Value → List Place
fraction_places v = told_of fraction_marks v
