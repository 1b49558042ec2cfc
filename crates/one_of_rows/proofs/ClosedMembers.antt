-- Members of a tagged shape are object shapes, so each is closed as its shape is.
use Rattle.std.proofs.Common.{◌≡◌, ℕ, List, [], ◌∷◌, map, Bool, true, false, ◌&&◌, ◌||◌, not, Option, Some, None, option_map, option_and_then, refl, sym, ap, ◌∙◌}
use Rattle.std.specs.Prelude.{if◌then◌else◌}
use Rattle.std.specs.List.{list_any}
use Rattle.schema_defs.specs.declared.Setting.{Setting}
use Rattle.schema_defs.specs.Schema.{Schema}
use Rattle.enum_defs.specs.Words.{all_some}
use Rattle.enum_defs.specs.Shapes.{ObjectShape, object_shape, shape_of, closedness, members_of, is_object_alone, InternalShape, internal_shape, internal_by as internal_shape_by, AdjacentShape, adjacent_shape, adjacent_of as adjacent_shape_of}
use Rattle.convert_defs.specs.Shapes.{Member, schemas_of, TaggedShape, true_or_none, is_closed_member, some_closed, some_open, has_tag_alone, internal_of, adjacent_of, internal_variant, adjacent_variant}
use Rattle.member_rows.specs.Members.{is_closed_shape}
use Rattle.one_of_rows.specs.Tagged.{closed_shapes, open_shapes, internal_by, adjacent_by}

none-some : {A : Type 0} {x : A} → None ≡ Some x → ⊥
none-some h = cc

closed-by : (s : Schema) (b : Bool) (c : Option Bool) (o : ObjectShape) → (if b then option_map (λ c. record { object = members_of s; closed = c }) c else None) ≡ Some o
    → true_or_none c ≡ is_closed_shape (if b then option_map (λ c. record { object = members_of s; closed = c }) c else None)
closed-by s true (Some c) o h = refl
closed-by s true None o h = refl
closed-by s false c o h = absurd (none-some h)

closed-one : (s : Schema) (o : ObjectShape) → object_shape s ≡ Some o → true_or_none (closedness (members_of s)) ≡ is_closed_shape (object_shape s)
closed-one s o h = closed-by s (is_object_alone s) (closedness (members_of s)) o h

-- the first and the others are shapes
first-some : (s : Schema) (ss : List Schema) (os : List ObjectShape) → all_some object_shape (s ∷ ss) ≡ Some os → (o : ObjectShape) × (object_shape s ≡ Some o)
first-some s ss os h = by (object_shape s) (all_some object_shape ss) h
  where
    by : (p : Option ObjectShape) (q : Option (List ObjectShape)) → option_and_then (λ y. option_map (λ ys. y ∷ ys) q) p ≡ Some os → (o : ObjectShape) × (p ≡ Some o)
    by None q h = absurd (none-some h)
    by (Some o) q h = (o, refl)

others-some : (s : Schema) (ss : List Schema) (os : List ObjectShape) → all_some object_shape (s ∷ ss) ≡ Some os → (ps : List ObjectShape) × (all_some object_shape ss ≡ Some ps)
others-some s ss os h = by (object_shape s) (all_some object_shape ss) h
  where
    by : (p : Option ObjectShape) (q : Option (List ObjectShape)) → option_and_then (λ y. option_map (λ ys. y ∷ ys) q) p ≡ Some os → (ps : List ObjectShape) × (q ≡ Some ps)
    by None q h = absurd (none-some h)
    by (Some o) None h = absurd (none-some h)
    by (Some o) (Some ps) h = (ps, refl)

pub closed-all : (ms : List Member) (os : List ObjectShape) → all_some object_shape (schemas_of ms) ≡ Some os → some_closed ms ≡ closed_shapes ms
closed-all [] os h = refl
closed-all (m ∷ ms) os h =
    let o = first-some m.1 (schemas_of ms) os h in
    let ps = others-some m.1 (schemas_of ms) os h in
    λ i. closed-one m.1 o.0 o.1 i || closed-all ms ps.0 ps.1 i

pub open-all : (ms : List Member) (os : List ObjectShape) → all_some object_shape (schemas_of ms) ≡ Some os → some_open ms ≡ open_shapes ms
open-all [] os h = refl
open-all (m ∷ ms) os h =
    let o = first-some m.1 (schemas_of ms) os h in
    let ps = others-some m.1 (schemas_of ms) os h in
    λ i. not (closed-one m.1 o.0 o.1 i) || open-all ms ps.0 ps.1 i

-- a shape of all is one of object shapes
shapes-of : {A : Type 0} (f : List ObjectShape → Option A) (o : Option (List ObjectShape)) (x : A) → option_and_then f o ≡ Some x → (os : List ObjectShape) × (o ≡ Some os)
shapes-of f None x h = absurd (none-some h)
shapes-of f (Some os) x h = (os, refl)

pub internal-seen : (setting : Setting) (ms : List Member) (s : InternalShape) → internal_shape (schemas_of ms) ≡ Some s → internal_of setting ms s ≡ internal_by setting ms s.tag
internal-seen setting ms s h =
    let os = shapes-of internal_shape_by (all_some object_shape (schemas_of ms)) s h in
    λ i. record {
      tag = s.tag;
      content = [];
      closed = closed-all ms os.0 os.1 i;
      mixed = closed-all ms os.0 os.1 i && open-all ms os.0 os.1 i;
      alone = false;
      variants = map (internal_variant setting s.tag) ms;
    }

pub adjacent-seen : (ms : List Member) (s : AdjacentShape) → adjacent_shape (schemas_of ms) ≡ Some s → adjacent_of ms s ≡ adjacent_by ms s.tag s.content
adjacent-seen ms s h =
    let os = shapes-of adjacent_shape_of (all_some object_shape (schemas_of ms)) s h in
    λ i. record {
      tag = s.tag;
      content = s.content;
      closed = closed-all ms os.0 os.1 i;
      mixed = closed-all ms os.0 os.1 i && open-all ms os.0 os.1 i;
      alone = not (closed-all ms os.0 os.1 i) && list_any (has_tag_alone s.tag) ms;
      variants = map (adjacent_variant s.tag) ms;
    }
