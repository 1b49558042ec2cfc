-- Definitions that are joined one by one, the last of the names first.
use Rattle.std.proofs.Common.{◌≡◌, List, [], ◌∷◌, ◌++◌, Option, Some, None, option_map, Ordering, Less, Equal, Greater, String, Global, string_bytes, string_cmp, is_eq, Bool, true, false, refl, sym, ap, ◌∙◌}
use Rattle.std.specs.Prelude.{cond, codes, is_some, option_and_then, if◌then◌else◌}
use Rattle.std.proofs.lemmas.Cmp.{nat_list_cmp_total}
use Rattle.std.specs.List.{AllByRecursion}
use Rattle.std.specs.List.Sorted.{IsStrictlySortedBy}
use Rattle.std.specs.Map.{keys_of, lookup}
use Rattle.std.specs.BTreeMap.{is_at, insert_entry}
use Rattle.std.specs.Ordering.{match_ordering}
use Rattle.json_value.specs.Value.{object}
use Rattle.serde_json.specs.View.{members_view}
use Rattle.json_value.specs.View.{members_of}
use Rattle.schema_defs.specs.Schema as defs
use Rattle.schema_defs.specs.Schema.{Properties}
use Rattle.schema_defs.specs.declared.Setting.{Setting}
use Rattle.schema_defs.specs.Read.{◌⊛◌, Lookup, keyword, flat, joined, make_document, with_definition, with_definitions, schema_of, definitions_of, document_of}
use Rattle.schema_types.specs.declared.document.Definition.{Definition}
use Rattle.schema_types.specs.declared.schema.Schema.{Schema}
use Rattle.schema_types.specs.View.{schema_view, properties_view}
use Rattle.schema_types.specs.DocumentView.{definition_view, definitions_view}
use Rattle.schema_reading.specs.Reading.{Entries, readings, looked_up}

abbrev pub Placed : Type 0
Placed = List (String Global × Definition)

abbrev pub placed_at : String Global → Placed → Option Definition
placed_at k es = lookup (is_at (string_cmp k)) es

absent : (k : String Global) (x : String Global) (es : Placed) → string_cmp k x ≡ Less → AllByRecursion (λ y. string_cmp x y ≡ Less) (keys_of es) → placed_at k es ≡ None
absent k x [] h a = refl
absent k x (e ∷ es) h a =
    let below : string_cmp k e.0 ≡ Less = nat_list_cmp_total.trans (string_bytes k) (string_bytes x) (string_bytes e.0) h a.0 in
    let rest = absent k x es h a.1 in
    λ i. cond (is_eq (below i)) (Some e.1) (rest i)

after_first : (x : defs.Definition) (b : Bool) (o : Option (List defs.Definition)) (ds : List defs.Definition) → o ≡ (if b then None else Some ds)
    → option_map (λ es. x ∷ es) o ≡ (if b then None else Some (x ∷ ds))
after_first x true o ds h = ap (option_map (λ es. x ∷ es)) h
after_first x false o ds h = ap (option_map (λ es. x ∷ es)) h

-- a definition goes to its place, unless its name stands there
pub placed_in : (es : Placed) (k : String Global) (d : Definition) → IsStrictlySortedBy string_cmp (keys_of es)
    → with_definition (definition_view (k, d)) (definitions_view es) ≡ (if is_some (placed_at k es) then None else Some (definitions_view (insert_entry string_cmp es k d)))
unfolding IsStrictlySortedBy
placed_in [] k d sorted = refl
placed_in (x ∷ es) k d sorted = by_order (string_cmp k x.0) refl (placed_in es k d sorted.1)
  where
    by_order : (o : Ordering) → string_cmp k x.0 ≡ o → with_definition (definition_view (k, d)) (definitions_view es) ≡ (if is_some (placed_at k es) then None else Some (definitions_view (insert_entry string_cmp es k d)))
        → match_ordering o (Some (definition_view (k, d) ∷ definition_view x ∷ definitions_view es)) None (option_map (λ ds. definition_view x ∷ ds) (with_definition (definition_view (k, d)) (definitions_view es)))
        ≡ (if is_some (cond (is_eq o) (Some x.1) (placed_at k es)) then None else Some (definitions_view (match_ordering o ((k, d) ∷ x ∷ es) ((x.0, d) ∷ es) (x ∷ insert_entry string_cmp es k d))))
    by_order Less l ih =
        let gone = absent k x.0 es l sorted.0 in
        λ i. if is_some (sym gone i) then None else Some (definition_view (k, d) ∷ definition_view x ∷ definitions_view es)
    by_order Equal l ih = refl
    by_order Greater l ih = after_first (definition_view x) (is_some (placed_at k es)) (with_definition (definition_view (k, d)) (definitions_view es)) (definitions_view (insert_entry string_cmp es k d)) ih

-- the last of the names goes first
pub last_first : (b : Bool) (es : List (String Global × Schema)) (e : String Global × Schema) (ds : Option (List defs.Definition))
    → with_definitions b (properties_view (es ++ e ∷ [])) ds
    ≡ with_definitions b (properties_view es) (option_and_then (with_definition (record { name = string_bytes e.0; under_defs = b; body = schema_view e.1 })) ds)
last_first b [] e ds = refl
last_first b (x ∷ es) e ds = ap (option_and_then (with_definition (record { name = string_bytes x.0; under_defs = b; body = schema_view x.1 }))) (last_first b es e ds)

pub joined_next : (b : Bool) (es : List (String Global × Schema)) (e : String Global × Schema) (ds : Placed) → IsStrictlySortedBy string_cmp (keys_of ds)
    → with_definitions b (properties_view (es ++ e ∷ [])) (Some (definitions_view ds))
    ≡ with_definitions b (properties_view es) (if is_some (placed_at e.0 ds) then None else Some (definitions_view (insert_entry string_cmp ds e.0 (record { under_defs = b; schema = e.1 }))))
joined_next b es e ds sorted = last_first b es e (Some (definitions_view ds)) ∙ ap (with_definitions b (properties_view es)) (placed_in ds e.0 (record { under_defs = b; schema = e.1 }) sorted)

pub none_joined : (b : Bool) (ps : Properties) → with_definitions b ps None ≡ None
none_joined b defs.no_properties = refl
none_joined b (defs.property k s ps) = ap (option_and_then (with_definition (record { name = k; under_defs = b; body = s }))) (none_joined b ps)

pub definitions_is : (f : Lookup) → definitions_of f ≡ flat (Some joined ⊛ keyword (codes "definitions") (λ r. r.as_named) f ⊛ keyword (codes "$defs") (λ r. r.as_named) f)
unfolding definitions_of
definitions_is f = refl

pub document_is : (setting : Setting) (es : Entries) → document_of setting (object (members_of (members_view es))) ≡ Some (make_document setting) ⊛ schema_of (looked_up es) ⊛ definitions_of (looked_up es)
unfolding document_of looked_up readings
document_is setting es = refl
