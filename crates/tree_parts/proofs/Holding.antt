-- What variants hold.
use Rattle.std.proofs.Common.{◌≡◌, ◌≤◌, ◌<◌, ◌&&◌, ℕ, List, [], ◌∷◌, length, Bool, true, false, Option, Some, None, is_none, Box, Global, refl, ap, sym, ◌∙◌, arith, true≢false}
use Rattle.std.specs.Prelude.{if◌then◌else◌}
use Rattle.model_defs.specs.Model.{TagModel, external_tag, internal_tag, adjacent_tag, untagged}
use Rattle.entry_defs.specs.Entry.{Entry, item, tuple_entry, struct_shape, Fields, rest_of, struct_contents, newtype_contents, tuple_contents, unit_contents}
use Rattle.convert_defs.specs.Convert.{content_of, same_flag, is_without_rest, is_closed_struct, has_two_places}
use Rattle.tree_types.specs.View.{Parts, atom_view, wrapped, places_view, fields_view, rest_fields, contents_view, tree_view, parts_of}
use Rattle.tree_types.specs.declared.tree.Atom.{Atom}
use Rattle.tree_types.specs.declared.tree.Atom.TheVariants as atoms
use Rattle.tree_types.specs.declared.tree.Wrap.{Wrap}
use Rattle.tree_types.specs.declared.tree.Wrap.TheVariants as wraps
use Rattle.tree_types.specs.declared.tree.Label.{Label}
use Rattle.tree_types.specs.declared.tree.FieldHead.{FieldHead}
use Rattle.tree_types.specs.declared.tree.ContentKind.TheVariants as kinds
use Rattle.tree_types.specs.declared.tree.Tree.{Tree}
use Rattle.tree_parts.specs.Options.{is_unit, is_untagged}

-- ---- atoms

pub unit_held : (tag : TagModel) (closed : Bool) (a : Atom) → is_unit (atom_view a) ≡ true → is_untagged tag ≡ true → content_of tag closed (atom_view a) ≡ unit_contents
unit_held untagged closed atoms.Unit h k = refl
unit_held external_tag closed atoms.Unit h k = absurd (true≢false (sym k))
unit_held (internal_tag t) closed atoms.Unit h k = absurd (true≢false (sym k))
unit_held (adjacent_tag t c) closed atoms.Unit h k = absurd (true≢false (sym k))
unit_held tag closed atoms.Bool h k = absurd (true≢false (sym h))
unit_held tag closed (atoms.Integer g) h k = absurd (true≢false (sym h))
unit_held tag closed atoms.Text h k = absurd (true≢false (sym h))
unit_held tag closed (atoms.Native f) h k = absurd (true≢false (sym h))
unit_held tag closed atoms.Any h k = absurd (true≢false (sym h))
unit_held tag closed (atoms.Reference q) h k = absurd (true≢false (sym h))

pub atom_held : (tag : TagModel) (closed : Bool) (a : Atom) → (is_unit (atom_view a) && is_untagged tag) ≡ false → content_of tag closed (atom_view a) ≡ newtype_contents (atom_view a)
atom_held untagged closed atoms.Unit h = absurd (true≢false h)
atom_held external_tag closed atoms.Unit h = refl
atom_held (internal_tag t) closed atoms.Unit h = refl
atom_held (adjacent_tag t c) closed atoms.Unit h = refl
atom_held tag closed atoms.Bool h = refl
atom_held tag closed (atoms.Integer g) h = refl
atom_held tag closed atoms.Text h = refl
atom_held tag closed (atoms.Native f) h = refl
atom_held tag closed atoms.Any h = refl
atom_held tag closed (atoms.Reference q) h = refl

pub atom_no_struct : (a : Atom) → is_closed_struct (atom_view a) ≡ false
atom_no_struct atoms.Unit = refl
atom_no_struct atoms.Bool = refl
atom_no_struct (atoms.Integer g) = refl
atom_no_struct atoms.Text = refl
atom_no_struct (atoms.Native f) = refl
atom_no_struct atoms.Any = refl
atom_no_struct (atoms.Reference q) = refl

-- ---- what is made of one part

pub one_held : (tag : TagModel) (closed : Bool) (w : Wrap) (e : Entry) → content_of tag closed (wrapped w e) ≡ newtype_contents (wrapped w e)
one_held tag closed wraps.Option e = refl
one_held tag closed wraps.Vec e = refl
one_held tag closed wraps.Set e = refl
one_held tag closed (wraps.Array n) e = refl
one_held tag closed (wraps.Newtype l r) e = refl

pub one_no_struct : (w : Wrap) (e : Entry) → is_closed_struct (wrapped w e) ≡ false
one_no_struct wraps.Option e = refl
one_no_struct wraps.Vec e = refl
one_no_struct wraps.Set e = refl
one_no_struct (wraps.Array n) e = refl
one_no_struct (wraps.Newtype l r) e = refl

pub held_whole : (ys : List (FieldHead × Option Tree)) (h : FieldHead) (t : Tree) → ys ≡ (h, Some t) ∷ [] → contents_view kinds.Newtype (parts_of ys) ≡ newtype_contents (tree_view t)
held_whole ys h t e = ap (λ zs. contents_view kinds.Newtype (parts_of zs)) e

-- ---- tuples

two_places : (xs : List (FieldHead × Option Tree)) → 2 ≤ length xs → has_two_places (places_view (parts_of xs)) ≡ true
two_places [] h = absurd (omega (arith, h))
two_places (x ∷ []) h = absurd (omega (arith, h))
two_places ((h, None) ∷ (k, None) ∷ xs) le = refl
two_places ((h, None) ∷ (k, Some u) ∷ xs) le = refl
two_places ((h, Some t) ∷ (k, None) ∷ xs) le = refl
two_places ((h, Some t) ∷ (k, Some u) ∷ xs) le = refl

few_places : (xs : List (FieldHead × Option Tree)) → length xs < 2 → has_two_places (places_view (parts_of xs)) ≡ false
few_places [] h = refl
few_places ((h, None) ∷ []) lt = refl
few_places ((h, Some t) ∷ []) lt = refl
few_places (x ∷ y ∷ xs) h = absurd (omega (arith, h))

pub places_held : (tag : TagModel) (closed : Bool) (xs : List (FieldHead × Option Tree)) → 2 ≤ length xs → content_of tag closed (tuple_entry (places_view (parts_of xs))) ≡ tuple_contents (places_view (parts_of xs))
places_held tag closed xs h = ap (λ b. if b then tuple_contents (places_view (parts_of xs)) else newtype_contents (tuple_entry (places_view (parts_of xs)))) (two_places xs h)

pub tuple_held : (tag : TagModel) (closed : Bool) (xs : List (FieldHead × Option Tree)) → length xs < 2 → content_of tag closed (tuple_entry (places_view (parts_of xs))) ≡ newtype_contents (tuple_entry (places_view (parts_of xs)))
tuple_held tag closed xs h = ap (λ b. if b then tuple_contents (places_view (parts_of xs)) else newtype_contents (tuple_entry (places_view (parts_of xs)))) (few_places xs h)

-- ---- structs

rest_given : (ps : Parts) (more : Fields) → rest_of (fields_view ps more) ≡ rest_of more
rest_given [] more = refl
rest_given ((h, None) ∷ ps) more = rest_given ps more
rest_given ((h, Some e) ∷ ps) more = rest_given ps more

no_rest_given : (r : Option (Label × Box Tree Global)) → is_without_rest (rest_of (rest_fields r)) ≡ is_none r
no_rest_given None = refl
no_rest_given (Some p) = refl

no_fields_more : (ps : Parts) (r : Option (Label × Box Tree Global)) → is_none r ≡ true → fields_view ps (rest_fields r) ≡ fields_view ps (rest_fields None)
no_fields_more ps None h = refl
no_fields_more ps (Some p) h = absurd (true≢false (sym h))

chosen : (tag : TagModel) (closed own : Bool) (n : List ℕ) (ps : Parts) (r : Option (Label × Box Tree Global)) (b : Bool) → (same_flag own closed && is_none r) ≡ b
    → content_of tag closed (item n (struct_shape own (fields_view ps (rest_fields r))))
    ≡ (if b then struct_contents (fields_view ps (rest_fields r)) else newtype_contents (item n (struct_shape own (fields_view ps (rest_fields r)))))
chosen tag closed own n ps r b h =
    ap (λ z. if same_flag own closed && z then struct_contents (fields_view ps (rest_fields r)) else newtype_contents (item n (struct_shape own (fields_view ps (rest_fields r)))))
    (ap is_without_rest (rest_given ps (rest_fields r)) ∙ no_rest_given r)
    ∙ ap (λ z. if z then struct_contents (fields_view ps (rest_fields r)) else newtype_contents (item n (struct_shape own (fields_view ps (rest_fields r))))) h

both : (a b : Bool) → (a && b) ≡ true → b ≡ true
both true b h = h
both false b h = absurd (true≢false (sym h))

pub fields_held : (tag : TagModel) (closed own : Bool) (n : List ℕ) (ps : Parts) (r : Option (Label × Box Tree Global)) → (same_flag own closed && is_none r) ≡ true
    → contents_view kinds.Struct ps ≡ content_of tag closed (item n (struct_shape own (fields_view ps (rest_fields r))))
fields_held tag closed own n ps r h = ap struct_contents (sym (no_fields_more ps r (both (same_flag own closed) (is_none r) h))) ∙ sym (chosen tag closed own n ps r true h)

pub struct_held : (tag : TagModel) (closed own : Bool) (n : List ℕ) (ps : Parts) (r : Option (Label × Box Tree Global)) → (same_flag own closed && is_none r) ≡ false
    → content_of tag closed (item n (struct_shape own (fields_view ps (rest_fields r)))) ≡ newtype_contents (item n (struct_shape own (fields_view ps (rest_fields r))))
struct_held tag closed own n ps r h = chosen tag closed own n ps r false h
