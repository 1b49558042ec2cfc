-- Schemas of which no two admit one value, told by their kinds or by their object shapes.
use Rattle.std.specs.Prelude.{ℕ, zero, suc, ◌&&◌, ◌||◌, not, List, [], ◌∷◌, Bool, true, false, Option, Some, None, is_none, option_and_then, bytes_eq, if◌then◌else◌}
use Rattle.std.specs.List.{list_any, list_all}
use Rattle.schema_defs.specs.Schema.{Plain, Schema, boolean, object, Same, Lists, Named, Document}
use Rattle.schema_defs.specs.Admits.{target, allowed}
use Rattle.schema_defs.specs.Children.{reference_of}
use Rattle.enum_defs.specs.declared.KindSet.{KindSet}
use Rattle.enum_defs.specs.Words.{Name, without_same, without_lists, without_named, is_unruled, is_name, required_of}
use Rattle.enum_defs.specs.Shapes.{ObjectShape, object_shape, constant_at, is_required, property_names}
use Rattle.enum_defs.specs.Kinds.{kinds}

-- ---- kinds

abbrev pub is_disjoint : KindSet → KindSet → Bool
is_disjoint a b = not ((a.null && b.null) || (a.boolean && b.boolean) || (a.number && b.number) || (a.string && b.string) || (a.array && b.array) || (a.object && b.object))

-- ---- object shapes

abbrev pub texts_differ : Option Name → Option Name → Bool
texts_differ (Some s) (Some t) = not (bytes_eq s t)
texts_differ _ _ = false

-- both require a property with different constant texts
abbrev pub differ_by_text : ObjectShape → ObjectShape → Bool
differ_by_text a b = list_any (λ n. is_required n b && texts_differ (constant_at n a) (constant_at n b)) (required_of a.object)

-- the first requires a property that the other, closed, does not name
abbrev pub requires_other : ObjectShape → ObjectShape → Bool
requires_other a b = b.closed && list_any (λ n. not (is_name n (property_names b))) (required_of a.object)

abbrev pub shapes_differ : Option ObjectShape → Option ObjectShape → Bool
shapes_differ (Some a) (Some b) = differ_by_text a b || requires_other a b || requires_other b a
shapes_differ _ _ = false

-- ---- where references alone lead

-- nothing but a reference stands
abbrev pub refers_at_most : Schema → Bool
refers_at_most (boolean b) = false
refers_at_most (object p ss ls ns) = is_none p.types && is_none p.enum_values && is_none p.const_value && is_unruled p && without_same ss && without_lists ls && without_named ns

-- the reference of a schema that says nothing else
abbrev pub reference_alone : Schema → Option Name
reference_alone s = if refers_at_most s then reference_of s else None

abbrev pub or_stays : (Schema → Schema) → Schema → Option Schema → Schema
or_stays f s None = s
or_stays f s (Some t) = f t

-- where n references may still be followed
abbrev pub led_within : Document → ℕ → Schema → Schema
led_within d zero s = s
led_within d (suc n) s = or_stays (led_within d n) s (option_and_then (target d) (reference_alone s))

abbrev pub led : Document → Schema → Schema
led d s = led_within d (allowed d) s

-- ---- pairs

abbrev pub are_apart : Document → Schema → Schema → Bool
are_apart d a b = is_disjoint (kinds d a) (kinds d b) || shapes_differ (object_shape (led d a)) (object_shape (led d b))

abbrev pub exclusive : Document → List Schema → Bool
exclusive d [] = true
exclusive d (s ∷ ss) = list_all (are_apart d s) ss && exclusive d ss
