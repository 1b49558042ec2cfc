-- Lists and maps of schemas on their walks.
use Rattle.std.proofs.Common.{◌≡◌, ℕ, List, [], ◌∷◌, ◌++◌, drop, Bool, true, false, cond, Option, Some, None, String, Global, string_bytes, nat_cmp, bytes_eq, refl, sym, ap, ◌∙◌, true≢false}
use Rattle.std.proofs.lemmas.Map.Text.{is_eq-slice_cmp}
use Rattle.std.proofs.lemmas.Slice.Eq.{bytes_eq-Decides}
use Rattle.std.specs.Cmp.Lexicographic.{slice_cmp}
use Rattle.std.specs.Map.{lookup}
use Rattle.std.specs.BTreeMap.{is_at}
use Rattle.schema_defs.specs.Location.{Step}
use Rattle.schema_defs.specs.Schema as defs
use Rattle.schema_defs.specs.Schema.{MaybeSchema, no_schema, the_schema, Schemas, no_more, schema, schemas, schema_list}
use Rattle.schema_defs.specs.Layer.{property_at}
use Rattle.schema_types.specs.View.{schema_view, schemas_view, properties_view}
use Rattle.schema_types.specs.declared.schema.Schema.{Schema}
use Rattle.merge_walks.specs.Made.{settled_all}
use Rattle.merge_walks.specs.Carried.{Walk, to_child, carried, all_inside, names_inside}

pub relisted : (ss : Schemas) → ss ≡ schemas (schema_list ss)
relisted no_more = refl
relisted (schema s ss) = ap (schema s) (relisted ss)

-- nothing is done yet
pub begins : (w : Walk) (k : Step) (ss : List Schema) (done : List defs.Schema)
    → done ≡ [] → all_inside w k 0 (schemas (schemas_view ss)) ≡ schemas (done ++ schema_list (all_inside w k 0 (schemas (schemas_view (drop 0 ss)))))
begins w k ss done h = relisted (all_inside w k 0 (schemas (schemas_view ss))) ∙ ap (λ ds. schemas (ds ++ schema_list (all_inside w k 0 (schemas (schemas_view ss))))) (sym h)

pub settling_begins : (w : Walk) (ss left : List Schema) (done : List defs.Schema)
    → done ≡ [] → left ≡ ss → settled_all w (schemas (schemas_view ss)) ≡ schemas (done ++ schema_list (settled_all w (schemas (schemas_view left))))
settling_begins w ss left done h k =
    relisted (settled_all w (schemas (schemas_view ss))) ∙ (λ i. schemas (sym h i ++ schema_list (settled_all w (schemas (schemas_view (sym k i))))))

-- the schema of a name, on its walk
abbrev pub carried_at : Walk → Step → List ℕ → Option Schema → MaybeSchema
carried_at w k n None = no_schema
carried_at w k n (Some s) = the_schema (carried (to_child w (k ∷ n ∷ [])) (schema_view s))

found_or : (w : Walk) (k : Step) (n m : List ℕ) (b : Bool) (s : Schema) (x : Option Schema) (y : MaybeSchema)
    → (b ≡ true → n ≡ m) → carried_at w k n x ≡ y → carried_at w k n (cond b (Some s) x) ≡ cond b (the_schema (carried (to_child w (k ∷ m ∷ [])) (schema_view s))) y
found_or w k n m true s x y named h = ap (λ t. the_schema (carried (to_child w (k ∷ t ∷ [])) (schema_view s))) (named refl)
found_or w k n m false s x y named h = h

pub inside_lookup : (w : Walk) (k : Step) (n : List ℕ) (es : List (String Global × Schema))
    → carried_at w k n (lookup (is_at (λ j. slice_cmp nat_cmp n (string_bytes j))) es) ≡ property_at n (names_inside w k (properties_view es))
inside_lookup w k n [] = refl
inside_lookup w k n (e ∷ es) =
    rw (is_eq-slice_cmp n (string_bytes e.0)) (found_or w k n (string_bytes e.0) (bytes_eq n (string_bytes e.0)) e.1 _ _ (bytes_eq-Decides n (string_bytes e.0)).0 (inside_lookup w k n es))
