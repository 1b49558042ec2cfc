-- The definitions of a document that was read stand in the order of their names.
use Rattle.std.proofs.Common.{◌≡◌, ℕ, List, [], ◌∷◌, map, refl, ap, subst, ◌∙◌}
use Rattle.std.specs.Prelude.{Option, Some, None, option_map, option_and_then, unwrap_or, codes, Bool, true, false}
use Rattle.std.specs.declared.cmp.Ordering.{Ordering}
use Rattle.std.specs.declared.cmp.Ordering.TheVariants.{Less, Equal, Greater}
use Rattle.std.specs.Ordering.{nat_cmp, match_ordering, ordering_reverse}
use Rattle.std.specs.Cmp.Lexicographic.{slice_cmp}
use Rattle.std.proofs.lemmas.Cmp.{nat_list_cmp_total}
use Rattle.json_value.specs.Value as value
use Rattle.json_value.specs.Value.{Value, Members, null, number, fraction, text, list}
use Rattle.schema_defs.specs.declared.Setting.{Setting}
use Rattle.schema_defs.specs.Schema.{Schema, boolean, Properties, no_properties, property, Definition, Document}
use Rattle.schema_defs.specs.Read.{◌⊛◌, keyword, Lookup, lookup_of, member_readings, with_definition, with_definitions, joined, flat, definitions_of, schema_of, make_document, document_of}
use Rattle.schema_defs.specs.Laws.{NamesRise, IsBelowNext, DefinitionsRise}
use Rattle.schema_defs.proofs.Stand.{some_same, none_is_not}

abbrev names : List Definition → List (List ℕ)
names ds = map (λ e. e.name) ds

abbrev Inserted : Definition → List Definition → List Definition → Type 0
Inserted e ds es = NamesRise (names es) × ((n : List ℕ) → IsBelowNext n (names ds) → slice_cmp nat_cmp n e.name ≡ Less → IsBelowNext n (names es))

inserted : (e : Definition) (ds es : List Definition) → NamesRise (names ds) → with_definition e ds ≡ Some es → Inserted e ds es
inserted e [] es h k = subst (Inserted e []) (some_same (e ∷ []) es k) ((tt, tt), λ n b l. l)
inserted e (d ∷ ds) es h k = by_order (slice_cmp nat_cmp e.name d.name) refl (with_definition e ds) (λ fs g. inserted e ds fs h.1 g) k
  where
    by_order : (c : Ordering) → slice_cmp nat_cmp e.name d.name ≡ c → (o : Option (List Definition)) → ((fs : List Definition) → o ≡ Some fs → Inserted e ds fs)
        → match_ordering c (Some (e ∷ d ∷ ds)) None (option_map (λ es. d ∷ es) o) ≡ Some es → Inserted e (d ∷ ds) es
    by_order Less l o i k = subst (Inserted e (d ∷ ds)) (some_same (e ∷ d ∷ ds) es k) ((l, h), λ n b m. m)
    by_order Equal l o i k = absurd (none_is_not es k)
    by_order Greater l None i k = absurd (none_is_not es k)
    by_order Greater l (Some fs) i k =
        let r = i fs refl in
        subst (Inserted e (d ∷ ds)) (some_same (d ∷ fs) es k) ((r.1 d.name h.0 (nat_list_cmp_total.antisymm d.name e.name ∙ ap ordering_reverse l), r.0), λ n b m. b)

abbrev Risen : Option (List Definition) → Type 0
Risen o = (ds : List Definition) → o ≡ Some ds → NamesRise (names ds)

one_more : (e : Definition) (o : Option (List Definition)) → Risen o → Risen (option_and_then (with_definition e) o)
one_more e None h ds k = absurd (none_is_not ds k)
one_more e (Some es) h ds k = (inserted e es ds (h es refl) k).0

with_more : (b : Bool) (ps : Properties) (o : Option (List Definition)) → Risen o → Risen (with_definitions b ps o)
with_more b no_properties o h = h
with_more b (property k s ps) o h = one_more (record { name = k; under_defs = b; body = s }) (with_definitions b ps o) (with_more b ps o h)

joined_risen : (x y : Option Properties) → Risen (joined x y)
joined_risen x y = with_more true (unwrap_or y no_properties) (with_definitions false (unwrap_or x no_properties) (Some [])) (with_more false (unwrap_or x no_properties) (Some []) (λ ds k. subst (λ ds. NamesRise (names ds)) (some_same [] ds k) tt))

flat_risen : (x y : Option (Option Properties)) → Risen (flat (Some joined ⊛ x ⊛ y))
flat_risen None None ds k = absurd (none_is_not ds k)
flat_risen (Some x) None ds k = absurd (none_is_not ds k)
flat_risen None (Some y) ds k = absurd (none_is_not ds k)
flat_risen (Some x) (Some y) ds k = joined_risen x y ds k

definitions_risen : (f : Lookup) → Risen (definitions_of f)
unfolding definitions_of
definitions_risen f = flat_risen (keyword (codes "definitions") (λ r. r.as_named) f) (keyword (codes "$defs") (λ r. r.as_named) f)

document_risen : (s : Option Schema) (o : Option (List Definition)) → Risen o → (setting : Setting) (d : Document) → Some (make_document setting) ⊛ s ⊛ o ≡ Some d → NamesRise (names d.definitions)
document_risen None None h w d k = absurd (none_is_not d k)
document_risen (Some s) None h w d k = absurd (none_is_not d k)
document_risen None (Some ds) h w d k = absurd (none_is_not d k)
document_risen (Some s) (Some ds) h w d k = subst (λ d. NamesRise (names d.definitions)) (some_same (make_document w s ds) d k) (h ds refl)

pub definitions_rise : DefinitionsRise
unfolding document_of
definitions_rise w (value.boolean b) d k = subst (λ d. NamesRise (names d.definitions)) (some_same (make_document w (boolean b) []) d k) tt
definitions_rise w (value.object ms) d k =
    document_risen (schema_of (lookup_of (member_readings ms))) (definitions_of (lookup_of (member_readings ms))) (definitions_risen (lookup_of (member_readings ms))) w d k
definitions_rise w null d k = absurd (none_is_not d k)
definitions_rise w (number z) d k = absurd (none_is_not d k)
definitions_rise w fraction d k = absurd (none_is_not d k)
definitions_rise w (text s) d k = absurd (none_is_not d k)
definitions_rise w (list xs) d k = absurd (none_is_not d k)
