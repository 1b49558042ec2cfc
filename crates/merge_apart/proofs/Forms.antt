-- Objects that aren't merged without what stands aside, by their keywords of members.
use Rattle.std.proofs.Common.{◌≡◌, List, [], ◌∷◌, Bool, true, false, Option, Some, None, is_some, length, map, string_bytes, rules, Box, String, Global, true≢false, refl, sym, ap, ◌∙◌}
use Rattle.std.specs.Prelude.{◌↔◌, IsTrue}
use Rattle.schema_defs.specs.Schema.{MemberRules, Plain, Schema, Same, no_same, same_value, Lists, object, Properties, Named, named, MaybeSchema, Places}
use Rattle.schema_types.specs.declared.schema.Schema as tree
use Rattle.schema_types.specs.declared.schema.Items.TheShapes.{former-SchemaObject-object}
use Rattle.schema_types.specs.declared.schema.SchemaObject.{SchemaObject, out-SchemaObject, fold_out-SchemaObject}
use Rattle.schema_types.specs.declared.schema.ObjectValidation.{ObjectValidation, out-ObjectValidation, the_lemmas}
use Rattle.schema_types.specs.View.{object_view, members_view, maybe_view, properties_view, named_of, items_step, schema_step, array_step, members_step, object_step, subschemas_step}
use Rattle.merge_apart.specs.Aside.{is_open, names_alone}

-- ---- what isn't of the form

patterns_open : (p : Plain) (ss : Same) (ls : Lists) (ps : Properties) (es : List (String Global × tree.Schema)) (x n : MaybeSchema) (c : MemberRules)
    → (IsTrue false ↔ (length es ≡ 0)) → false ≡ is_open (object p ss ls (named ps (properties_view es) x n c))
patterns_open p ss ls ps [] x n c h = absurd (true≢false (sym (h.1 refl)))
patterns_open p no_same ls ps (e ∷ es) x n c h = refl
patterns_open p (same_value a b o m d) ls ps (e ∷ es) x n c h = refl

patterns_alone : (p : Plain) (ss : Same) (ls : Lists) (ps : Properties) (es : List (String Global × tree.Schema)) (x n : MaybeSchema) (c : MemberRules)
    → (IsTrue false ↔ (length es ≡ 0)) → false ≡ names_alone (object p ss ls (named ps (properties_view es) x n c))
patterns_alone p ss ls ps [] x n c h = absurd (true≢false (sym (h.1 refl)))
patterns_alone p no_same ls ps (e ∷ es) x n c h = refl
patterns_alone p (same_value a b o m d) ls ps (e ∷ es) x n c h = refl

more_alone : (p : Plain) (ss : Same) (ls : Lists) (ps : Properties) (es : List (String Global × tree.Schema)) (x : Option (Box tree.Schema Global)) (n : MaybeSchema) (c : MemberRules)
    → is_some x ≡ true → false ≡ names_alone (object p ss ls (named ps (properties_view es) (maybe_view x) n c))
more_alone p ss ls ps es None n c h = absurd (true≢false (sym h))
more_alone p no_same ls ps [] (Some t) n c h = refl
more_alone p no_same ls ps (e ∷ es) (Some t) n c h = refl
more_alone p (same_value a b o m d) ls ps es (Some t) n c h = refl

-- ---- of the code's objects

abbrev parts_of : ObjectValidation → Named
parts_of m =
    named (properties_view (out-ObjectValidation m).properties.entries) (properties_view (out-ObjectValidation m).pattern_properties.entries) (maybe_view (out-ObjectValidation m).additional_properties) (maybe_view (out-ObjectValidation m).property_names)
    (record { max_properties = (out-ObjectValidation m).max_properties; min_properties = (out-ObjectValidation m).min_properties; required = map string_bytes (out-ObjectValidation m).required.keys })

members_seen : (m : ObjectValidation) → members_view m ≡ parts_of m
members_seen m = search (rules, the_lemmas)

by_members : (f : Schema → Bool) (s : Schema) (p : Plain) (ss : Same) (ls : Lists) (ns : Option ObjectValidation) (m : ObjectValidation)
    → s ≡ object p ss ls (named_of (former-SchemaObject-object.map ObjectValidation Named members_view ns)) → ns ≡ Some m → false ≡ f (object p ss ls (parts_of m)) → false ≡ f s
by_members f s p ss ls ns m seen e h =
    h ∙ sym (ap f (seen ∙ ap (λ k. object p ss ls (named_of (former-SchemaObject-object.map ObjectValidation Named members_view k))) e ∙ ap (object p ss ls) (members_seen m)))

-- with each form of the rest: what holds of the parts holds of the object
by_parts : (f : Schema → Bool) (o : SchemaObject) (m : ObjectValidation) → (out-SchemaObject o).object ≡ Some m → ((p : Plain) (ss : Same) (ls : Lists) → false ≡ f (object p ss ls (parts_of m))) → false ≡ f (object_view o)
by_parts f o m e h =
    by_members f (object_view o) _ _ _ (out-SchemaObject o).object m (fold_out-SchemaObject Places Schema Lists Named Schema Same items_step schema_step array_step members_step object_step subschemas_step o) e (h _ _ _)

pub not_open : (o : SchemaObject) (m : ObjectValidation) (b : Bool) → (out-SchemaObject o).object ≡ Some m → (IsTrue b ↔ (length (out-ObjectValidation m).pattern_properties.entries ≡ 0)) → b ≡ false → b ≡ is_open (object_view o)
not_open o m true e h f = absurd (true≢false f)
not_open o m false e h f = by_parts is_open o m e (λ p ss ls. patterns_open p ss ls _ (out-ObjectValidation m).pattern_properties.entries _ _ _ h)

pub has_patterns : (o : SchemaObject) (m : ObjectValidation) (b : Bool) → (out-SchemaObject o).object ≡ Some m → (IsTrue b ↔ (length (out-ObjectValidation m).pattern_properties.entries ≡ 0)) → b ≡ false → false ≡ names_alone (object_view o)
has_patterns o m true e h f = absurd (true≢false f)
has_patterns o m false e h f = by_parts names_alone o m e (λ p ss ls. patterns_alone p ss ls _ (out-ObjectValidation m).pattern_properties.entries _ _ _ h)

pub has_more : (o : SchemaObject) (m : ObjectValidation) → (out-SchemaObject o).object ≡ Some m → is_some (out-ObjectValidation m).additional_properties ≡ true → false ≡ names_alone (object_view o)
has_more o m e h = by_parts names_alone o m e (λ p ss ls. more_alone p ss ls _ (out-ObjectValidation m).pattern_properties.entries (out-ObjectValidation m).additional_properties _ _ h)
