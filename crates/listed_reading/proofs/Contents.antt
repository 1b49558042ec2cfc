-- What the contents of a variant take.
use Rattle.std.proofs.Common.{◌≡◌, ℕ, Bool, true, false, List, [], ◌∷◌, Option, Some, None, slice_get, refl, sym, ap, ◌∙◌}
use Rattle.json_value.specs.Value.{Value}
use Rattle.schema_defs.specs.Texts.{Relations}
use Rattle.model_defs.specs.Layer.{is_null}
use Rattle.entry_defs.specs.Layer.{contents_entry}
use Rattle.entry_defs.specs.Table.{Table}
use Rattle.tree_types.specs.View.{Parts, contents_view, fields_view, first_part, places_view, parts_of, tree_view}
use Rattle.tree_types.specs.declared.tree.ContentKind.TheVariants.{Unit as UnitKind, Tuple as TupleKind, Struct as StructKind}
use Rattle.tree_types.specs.declared.tree.FieldHead.{FieldHead}
use Rattle.tree_types.specs.declared.tree.Tree.{Tree}
use Rattle.entry_defs.specs.Entry.{no_fields}
use Rattle.listed_reading.specs.Followed.{following, takes_in}
use Rattle.listed_reading.specs.Owners.{is_list, is_object}
use Rattle.listed_reading.proofs.Forms.{unit_taken, any_taken, tuple_refused, struct_refused}

module _ (t : Table) (left : ℕ) (r : Relations) (v : Value) where
  pub unit_held : (ps : Parts) (b : Bool) → b ≡ is_null v → (m : ℕ) (closed : Bool) → takes_in (following t left m) r (contents_entry closed (contents_view UnitKind ps)) v ≡ b
  unit_held ps b h m closed = unit_taken r v b h (following t left m)

  pub tuple_held : (ps : Parts) → is_list v ≡ false → (m : ℕ) (closed : Bool) → takes_in (following t left m) r (contents_entry closed (contents_view TupleKind ps)) v ≡ false
  tuple_held ps h m closed = tuple_refused r v h (places_view ps) (following t left m)

  pub struct_held : (ps : Parts) → is_object v ≡ false → (m : ℕ) (closed : Bool) → takes_in (following t left m) r (contents_entry closed (contents_view StructKind ps)) v ≡ false
  struct_held ps h m closed = struct_refused r v h [] closed (fields_view ps no_fields) (following t left m)

  -- the first of several parts, or none
  pub none_first : (ps all : List (FieldHead × Option Tree)) → ps ≡ all → slice_get ps 0 ≡ None → (m : ℕ) → takes_in (following t left m) r (first_part (parts_of all)) v ≡ true
  none_first [] all e h m = ap (λ qs. takes_in (following t left m) r (first_part (parts_of qs)) v) (sym e) ∙ any_taken r v (following t left m)
  none_first (p ∷ ps) all e h m = absurd (cc)

  pub some_first : (ps all : List (FieldHead × Option Tree)) (p : FieldHead × Option Tree) (b : Bool) → ps ≡ all → slice_get ps 0 ≡ Some p → ((m : ℕ) → takes_in (following t left m) r (first_part (parts_of (p ∷ []))) v ≡ b)
      → (m : ℕ) → takes_in (following t left m) r (first_part (parts_of all)) v ≡ b
  some_first [] all p b e h k m = absurd (cc)
  some_first (q ∷ ps) all p b e h k m =
      let same : q ≡ p = cc in
      ap (λ qs. takes_in (following t left m) r (first_part (parts_of qs)) v) (sym e) ∙ by q same ∙ k m
    where
      by : (q : FieldHead × Option Tree) → q ≡ p → takes_in (following t left m) r (first_part (parts_of (q ∷ ps))) v ≡ takes_in (following t left m) r (first_part (parts_of (p ∷ []))) v
      by q same = ap (λ x. takes_in (following t left m) r (first_part (parts_of (x ∷ ps))) v) same ∙ alone p
        where
          alone : (x : FieldHead × Option Tree) → takes_in (following t left m) r (first_part (parts_of (x ∷ ps))) v ≡ takes_in (following t left m) r (first_part (parts_of (x ∷ []))) v
          alone (h, None) = refl
          alone (h, Some e) = refl

  -- a part with a tree, or without
  pub none_held : (p : FieldHead × Option Tree) → p.1 ≡ None → (m : ℕ) → takes_in (following t left m) r (first_part (parts_of (p ∷ []))) v ≡ true
  none_held (h, None) e m = any_taken r v (following t left m)
  none_held (h, Some x) e m = absurd (cc)

  pub tree_held : (p : FieldHead × Option Tree) (x : Tree) (b : Bool) → p.1 ≡ Some x → ((m : ℕ) → takes_in (following t left m) r (tree_view x) v ≡ b) → (m : ℕ) → takes_in (following t left m) r (first_part (parts_of (p ∷ []))) v ≡ b
  tree_held (h, None) x b e k m = absurd (cc)
  tree_held (h, Some y) x b e k m = let same : y ≡ x = cc in ap (λ z. takes_in (following t left m) r (tree_view z) v) same ∙ k m
