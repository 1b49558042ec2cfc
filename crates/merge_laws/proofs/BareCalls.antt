-- Calls of merging on bare schemas end.
use Rattle.std.proofs.Common.{◌≡◌, ℕ, zero, suc, List, [], ◌∷◌, Bool, true, false, ◌&&◌, ◌||◌, not, Option, Some, None, sym, subst}
use Rattle.std.specs.Prelude.{filter, if◌then◌else◌}
use Rattle.json_value.specs.Value.{Value}
use Rattle.schema_defs.specs.Schema.{Plain, Schema, boolean, object, Same, no_same, Lists, Named, no_named, named, MaybeSchema, no_schema, the_schema, Properties, no_properties, property, Document}
use Rattle.schema_defs.specs.Layer.{property_at, is_listed}
use Rattle.enum_defs.specs.Words.{is_name, names_of}
use Rattle.merge_defs.specs.Outcome.{Outcome, fault, never, answer, depth, unsupported, conditional, Note, note_if, both_ways, of_subtract, noted, and_then, mapped, or_else}
use Rattle.merge_defs.specs.Objects.{all_names, is_false}
use Rattle.merge_defs.specs.Less.{left_values, less_values, less_property, less_name, less_properties, unless_needed, less_named, less_same, is_conditional}
use Rattle.merge_defs.specs.Merge.{is_exact, less_object, less_layer, below, join}
use Rattle.merge_laws.specs.Bare.{IsBare, BareNamed, BareMaybe, BareProperties, HasNoFault, HasNoDepth, BareCallsEnd}
use Rattle.merge_laws.proofs.Ending.{Below, at_below, bare_merges_end}

-- ---- outcomes

with_notes : {A : Type 0} (ns : List Note) (o : Outcome A) → HasNoDepth o → HasNoDepth (noted ns o)
with_notes ns (fault (depth w)) h = h
with_notes ns (fault (unsupported u)) h = tt
with_notes ns (never ms) h = tt
with_notes ns (answer ms a) h = tt

through : {A B : Type 0} (f : A → B) (o : Outcome A) → HasNoDepth o → HasNoDepth (mapped f o)
through f (fault (depth w)) h = h
through f (fault (unsupported u)) h = tt
through f (never ms) h = tt
through f (answer ms a) h = tt

next : {A B : Type 0} (o : Outcome A) (k : A → Outcome B) → HasNoDepth o → ((a : A) → HasNoDepth (k a)) → HasNoDepth (and_then o k)
next (fault (depth w)) k h i = absurd h
next (fault (unsupported u)) k h i = tt
next (never ns) k h i = tt
next (answer ns a) k h i = with_notes ns (k a) (i a)

instead : {A : Type 0} (a : A) (o : Outcome A) → HasNoDepth o → HasNoDepth (or_else a o)
instead a (fault (depth w)) h = h
instead a (fault (unsupported u)) h = tt
instead a (never ns) h = tt
instead a (answer ns b) h = tt

either_way : {A : Type 0} (b : Bool) (o u : Outcome A) → HasNoDepth o → HasNoDepth u → HasNoDepth (if b then o else u)
either_way true o u h i = h
either_way false o u h i = i

-- ---- one level

module _ (n : ℕ) (join' less' : Schema → Schema → Outcome Schema) (child : (s t : Schema) → Below s n → Below t n → HasNoDepth (less' s t)) where
  property_ends : (p q : MaybeSchema) → BareMaybe p n → BareMaybe q n → HasNoDepth (less_property less' p q)
  property_ends (the_schema s) (the_schema t) h i = instead (boolean false) (less' s t) (child s t h i)
  property_ends (the_schema s) no_schema h i = tt
  property_ends no_schema q h i = tt

  name_ends : (b : Bool) (p q : MaybeSchema) → BareMaybe p n → BareMaybe q n → HasNoDepth (less_name less' b p q)
  name_ends true p no_schema h i = tt
  name_ends true p (the_schema t) h i = property_ends p (the_schema t) h i
  name_ends false p q h i = property_ends p q h i

  properties_end : (ps qs : Properties) → BareProperties ps n → BareProperties qs n → (needed ns : List (List ℕ)) → HasNoDepth (less_properties less' ps qs needed ns)
  properties_end ps qs h i needed [] = tt
  properties_end ps qs h i needed (k ∷ ks) =
      next (less_name less' (is_name k needed) (property_at k ps) (property_at k qs)) (λ s. mapped (property k s) (less_properties less' ps qs needed ks))
      (name_ends (is_name k needed) (property_at k ps) (property_at k qs) (at_below n k ps h) (at_below n k qs i))
      (λ s. through (property k s) (less_properties less' ps qs needed ks) (properties_end ps qs h i needed ks))

  needed_end : (needed : List (List ℕ)) (ps : Properties) → HasNoDepth (unless_needed less' needed ps)
  needed_end needed no_properties = tt
  needed_end needed (property k s ps) = either_way (is_false s && is_name k needed) (never []) (mapped (property k s) (unless_needed less' needed ps)) tt (through (property k s) (unless_needed less' needed ps) (needed_end needed ps))

  named_end : (ns os : Named) → BareNamed ns n → BareNamed os n → HasNoDepth (less_named less' ns os)
  named_end no_named os h i = tt
  named_end (named ps pp x xn c) no_named h i = tt
  named_end (named ps pp x xn c) (named qs qq y yn d) h i =
      through (λ props. named props pp x xn c) (and_then (less_properties less' ps qs d.required (all_names (names_of ps) (all_names (names_of qs) d.required))) (unless_needed less' c.required))
      (next (less_properties less' ps qs d.required (all_names (names_of ps) (all_names (names_of qs) d.required))) (unless_needed less' c.required)
      (properties_end ps qs h.0 i.0 d.required (all_names (names_of ps) (all_names (names_of qs) d.required))) (needed_end c.required))

  values_end : (p : Plain) (x y : Option (List Value)) → HasNoDepth (less_values p x y)
  values_end p (Some vs) (Some ws) = go (filter (λ v. not (is_listed v ws)) vs)
    where
      go : (xs : List Value) → HasNoDepth (left_values p xs)
      go [] = tt
      go (x ∷ xs) = tt
  values_end p None y = tt
  values_end p (Some vs) None = tt

  module _ (d : Document) where
    object_ends : (p : Plain) (ss : Same) (ls : Lists) (ns : Named) (q : Plain) (ms : Lists) (os : Named) → BareNamed ns n → BareNamed os n → HasNoDepth (less_object d join' less' p ss ls ns q no_same ms os)
    object_ends p ss ls ns q ms os h i =
        next (less_values p p.enum_values q.enum_values) (λ p'. and_then (less_named less' ns os) (λ ns'. less_same join' less' no_same (object p' ss ls ns'))) (values_end p p.enum_values q.enum_values)
        (λ p'. next (less_named less' ns os) (λ ns'. less_same join' less' no_same (object p' ss ls ns')) (named_end ns os h i) (λ ns'. tt))

    layer_ends : (a b : Schema) → IsBare a n → IsBare b n → HasNoDepth (less_layer d join' less' a b)
    layer_ends a (boolean true) h i = tt
    layer_ends a (boolean false) h i = tt
    layer_ends (boolean false) (object q tt' ms os) h i = tt
    layer_ends (boolean true) (object q tt' ms os) h i = tt
    layer_ends (object p ss ls ns) (object q tt' ms os) h i =
        subst (λ s. HasNoDepth (less_layer d join' less' (object p ss ls ns) (object q s ms os))) (sym i.1)
        (either_way (is_conditional ss || false) (fault (unsupported conditional)) (noted notes (less_object d join' less' p ss ls ns q no_same ms os)) tt
        (with_notes notes (less_object d join' less' p ss ls ns q no_same ms os) (object_ends p ss ls ns q ms os h.3 i.3)))
      where
        notes : List Note
        notes = note_if (not (is_exact d join' less' p ns (object p ss ls ns) q no_same ms os (object q no_same ms os))) (both_ways of_subtract)

-- ---- by the steps that are left

ends : (d : Document) (n : ℕ) (s t : Schema) → Below s n → Below t n → HasNoDepth ((below d n).less s t)
ends d zero s t h i = absurd h
ends d (suc n) s t h i = layer_ends n (below d n).join (below d n).less (ends d n) d s t h i

two_end : (o : Outcome Schema) → HasNoFault o → HasNoFault (and_then o (λ m. answer [] m))
two_end (fault f) h = h
two_end (never ns) h = tt
two_end (answer ns s) h = tt

pub bare_calls_end : BareCallsEnd
bare_calls_end d n a b h i = record {
  one = tt;
  two = two_end (join d n a b) (bare_merges_end d n a b h i);
  alone = tt;
  less_other = layer_ends n (below d n).join (below d n).less (ends d n) d a b h i;
}
