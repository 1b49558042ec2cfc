-- Schemas in lists and by name, read one by one.
use Rattle.std.proofs.Common.{◌≡◌, ℕ, List, [], ◌∷◌, ◌++◌, map, Option, Some, None, option_map, Less, Greater, String, Global, string_bytes, string_cmp, nat_cmp, refl, sym, ap, ◌∙◌}
use Rattle.std.proofs.lemmas.Cmp.{nat_list_cmp_total}
use Rattle.std.specs.Cmp.Lexicographic.{slice_cmp}
use Rattle.std.specs.List.{AllByRecursion}
use Rattle.std.specs.List.Sorted.{IsStrictlySortedBy}
use Rattle.std.specs.Map.{keys_of}
use Rattle.std.specs.Ordering.{ordering_reverse}
use Rattle.std.specs.BTreeMap.{insert_entry}
use Rattle.schema_defs.specs.Schema as defs
use Rattle.schema_defs.specs.Schema.{Schemas, no_more, schema, schemas, Properties, no_properties, property, properties}
use Rattle.std.proofs.Common.{length, false, true≢false}
use Rattle.std.specs.Prelude.{◌==◌}
use Rattle.schema_defs.specs.Read.{◌⊛◌, reading, schema_of, properties_of, unless_empty}
use Rattle.schema_types.specs.declared.schema.Schema.{Schema}
use Rattle.schema_types.specs.View.{schema_view, properties_view}
use Rattle.serde_json.specs.declared.value.Value as json
use Rattle.serde_json.specs.declared.value.Value.TheVariants.{Object}
use Rattle.serde_json.specs.View.{view}
use Rattle.serde_json.proofs.Views.{view-Object}
use Rattle.json_value.specs.View.{value_of}
use Rattle.std.specs.declared.collections.BTreeMap.{BTreeMap}
use Rattle.schema_types.specs.View.{schemas_view}
use Rattle.schema_reading.specs.Reading.{Entries, readings, looked_up}

-- ---- a list of schemas

abbrev pub before : List defs.Schema → Schemas → Schemas
before [] ss = ss
before (s ∷ done) ss = schema s (before done ss)

before_next : (done : List defs.Schema) (s : defs.Schema) (ss : Schemas) → before done (schema s ss) ≡ before (done ++ s ∷ []) ss
before_next [] s ss = refl
before_next (d ∷ done) s ss = ap (schema d) (before_next done s ss)

pub before_none : (done : List defs.Schema) → before done no_more ≡ schemas done
before_none [] = refl
before_none (d ∷ done) = ap (schema d) (before_none done)

-- what was read, and then what is left
abbrev pub list_onto : List defs.Schema → Option Schemas → Option Schemas
list_onto done o = option_map (before done) o

pub list_next : (done : List defs.Schema) (s : defs.Schema) (o : Option Schemas) → list_onto done (Some (λ s ss. schema s ss) ⊛ Some s ⊛ o) ≡ list_onto (done ++ s ∷ []) o
list_next done s None = refl
list_next done s (Some ss) = ap Some (before_next done s ss)

pub list_lost : (done : List defs.Schema) (o : Option Schemas) → let lost : Option defs.Schema = None in list_onto done (Some (λ s ss. schema s ss) ⊛ lost ⊛ o) ≡ None
list_lost done None = refl
list_lost done (Some ss) = refl

pub list_start : (o : Option Schemas) → o ≡ list_onto [] o
list_start None = refl
list_start (Some ss) = refl

-- ---- schemas by name

abbrev pub Pairs : Type 0
Pairs = List (List ℕ × defs.Schema)

abbrev pub pairs : List (String Global × Schema) → Pairs
pairs es = map (λ p. (string_bytes p.0, schema_view p.1)) es

abbrev pub named_before : Pairs → Properties → Properties
named_before [] ps = ps
named_before (d ∷ done) ps = property d.0 d.1 (named_before done ps)

named_before_next : (done : Pairs) (k : List ℕ) (s : defs.Schema) (ps : Properties) → named_before done (property k s ps) ≡ named_before (done ++ (k, s) ∷ []) ps
named_before_next [] k s ps = refl
named_before_next (d ∷ done) k s ps = ap (property d.0 d.1) (named_before_next done k s ps)

pub named_before_none : (es : List (String Global × Schema)) → named_before (pairs es) no_properties ≡ properties_view es
named_before_none [] = refl
named_before_none (e ∷ es) = ap (property (string_bytes e.0) (schema_view e.1)) (named_before_none es)

abbrev pub named_onto : Pairs → Option Properties → Option Properties
named_onto done o = option_map (named_before done) o

pub named_next : (done : Pairs) (k : List ℕ) (s : defs.Schema) (o : Option Properties) → named_onto done (Some (λ s ps. property k s ps) ⊛ Some s ⊛ o) ≡ named_onto (done ++ (k, s) ∷ []) o
named_next done k s None = refl
named_next done k s (Some ps) = ap Some (named_before_next done k s ps)

pub named_lost : (done : Pairs) (k : List ℕ) (o : Option Properties) → let lost : Option defs.Schema = None in named_onto done (Some (λ s ps. property k s ps) ⊛ lost ⊛ o) ≡ None
named_lost done k None = refl
named_lost done k (Some ps) = refl

pub named_start : (o : Option Properties) → o ≡ named_onto [] o
named_start None = refl
named_start (Some ps) = refl

-- ---- a name that goes last

abbrev pub key_names : {X : Type 0} → List (String Global × X) → List (List ℕ)
key_names es = map (λ e. string_bytes e.0) es

below_later : {X : Type 0} (k : String Global) (es : List (String Global × X)) (e : String Global × X) (more : List (String Global × X))
    → AllByRecursion (λ y. string_cmp k y ≡ Less) (keys_of (es ++ e ∷ more)) → string_cmp k e.0 ≡ Less
below_later k [] e more h = h.0
below_later k (x ∷ es) e more h = below_later k es e more h.1

above_first : (a b : List ℕ) → slice_cmp nat_cmp a b ≡ Less → slice_cmp nat_cmp b a ≡ Greater
above_first a b h = nat_list_cmp_total.antisymm b a ∙ ap ordering_reverse h

pub entry_last : (cs : List (String Global × Schema)) (done : Entries) (k : String Global) (s : Schema) (e : String Global × json.Value) (more : Entries)
    → key_names cs ≡ key_names done → string_bytes k ≡ string_bytes e.0 → IsStrictlySortedBy string_cmp (keys_of (done ++ e ∷ more))
    → insert_entry string_cmp cs k s ≡ cs ++ (k, s) ∷ []
unfolding IsStrictlySortedBy
entry_last [] done k s e more h n sorted = refl
entry_last (c ∷ cs) [] k s e more h n sorted = cc
entry_last (c ∷ cs) (d ∷ ds) k s e more h n sorted =
    let first : string_bytes c.0 ≡ string_bytes d.0 = cc in
    let others : key_names cs ≡ key_names ds = cc in
    let above : slice_cmp nat_cmp (string_bytes k) (string_bytes c.0) ≡ Greater = rw (n, first) (above_first (string_bytes d.0) (string_bytes e.0) (below_later d.0 ds e more sorted.0)) in
    rw (above, entry_last cs ds k s e more others n sorted.1) refl

pub names_last : (cs : List (String Global × Schema)) (done : Entries) (k : String Global) (s : Schema) (e : String Global × json.Value)
    → key_names cs ≡ key_names done → string_bytes k ≡ string_bytes e.0 → key_names (cs ++ (k, s) ∷ []) ≡ key_names (done ++ e ∷ [])
names_last [] [] k s e h n = ap (λ m. m ∷ []) n
names_last [] (d ∷ ds) k s e h n = cc
names_last (c ∷ cs) [] k s e h n = cc
names_last (c ∷ cs) (d ∷ ds) k s e h n =
    let first : string_bytes c.0 ≡ string_bytes d.0 = cc in
    let others : key_names cs ≡ key_names ds = cc in
    λ i. first i ∷ names_last cs ds k s e others n i

pub pairs_last : (cs : List (String Global × Schema)) (k : String Global) (s : Schema) → pairs (cs ++ (k, s) ∷ []) ≡ pairs cs ++ (string_bytes k, schema_view s) ∷ []
pairs_last [] k s = refl
pairs_last (c ∷ cs) k s = ap (λ ps. (string_bytes c.0, schema_view c.1) ∷ ps) (pairs_last cs k s)

pub properties_next : (e : String Global × json.Value) (es : Entries)
    → properties_of (readings (e ∷ es)) ≡ Some (λ s ps. property (string_bytes e.0) s ps) ⊛ (reading (value_of (view e.1))).as_schema ⊛ properties_of (readings es)
unfolding readings
properties_next e es = refl

pub properties_end : properties_of (readings []) ≡ Some no_properties
unfolding readings
properties_end = refl

-- ---- what an object is read as

pub object_read : (v : json.Value) (m : BTreeMap (String Global) json.Value Global) → v ≡ Object m → schema_of (looked_up m.entries) ≡ (reading (value_of (view v))).as_schema
unfolding looked_up readings
object_read v m e = sym (ap (λ d. (reading (value_of d)).as_schema) (ap view e ∙ view-Object m))

pub object_named : (v : json.Value) (m : BTreeMap (String Global) json.Value Global) → v ≡ Object m → properties_of (readings m.entries) ≡ (reading (value_of (view v))).as_named
unfolding readings
object_named v m e = sym (ap (λ d. (reading (value_of d)).as_named) (ap view e ∙ view-Object m))

-- ---- a list that is not empty

pub filled_is : (xs : List Schema) → (length xs == 0) ≡ false → unless_empty (schemas (schemas_view xs)) ≡ Some (schemas (schemas_view xs))
filled_is [] h = absurd (true≢false h)
filled_is (x ∷ xs) h = refl
