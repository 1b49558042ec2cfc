-- What is entered for each form of tree, once its parts are.
use Rattle.std.proofs.Common.{◌≡◌, ℕ, List, [], ◌∷◌, map, Bool, Option, Some, None, option_map, Box, Vec, Global, refl, sym, ap, ◌∙◌}
use Rattle.std.specs.List.{slice_get}
use Rattle.entry_defs.specs.Entry.{Target, Entry, no_fields, rest_field, struct_contents, tuple_contents}
use Rattle.entry_defs.specs.Space.{Id, any_at, FieldAt, tuple_at, struct_at, VariantAt, struct_shape_at, enum_shape_at, map_at, tuple_entry_at, Space}
use Rattle.row_findings.specs.View.{tag_view}
use Rattle.row_findings.specs.declared.row.TagRow.{TagRow}
use Rattle.tree_types.specs.declared.tree.Label.{Label}
use Rattle.tree_types.specs.declared.tree.Atom.{Atom}
use Rattle.tree_types.specs.declared.tree.Atom.TheVariants as atoms
use Rattle.tree_types.specs.declared.tree.Wrap.{Wrap}
use Rattle.tree_types.specs.declared.tree.Wrap.TheVariants as wraps
use Rattle.tree_types.specs.declared.tree.FieldHead.{FieldHead}
use Rattle.tree_types.specs.declared.tree.VariantHead.{VariantHead}
use Rattle.tree_types.specs.declared.tree.Tree.{Tree}
use Rattle.tree_types.specs.declared.tree.Tree.TheVariants as trees
use Rattle.tree_types.specs.View.{atom_view, label_view, first_part, wrapped, places_view, fields_view, variants_view, tree_view, parts_of}
use Rattle.tree_types.proofs.Seen.{atom_seen, one_seen, map_seen, tuple_seen, struct_seen, enum_seen}
use Rattle.space_trees.specs.Placed.{put, opened_at, rest_given, placed, placed_entries, placed_fields, placed_variants, placed_contents}
use Rattle.space_trees.specs.Parts.{tree_seen, case_seen, placed_parts, trees_in, resolved, fields_at, struct_given, struct_filled, wrap_opened, wrap_closed}
use Rattle.space_trees.proofs.PartSteps.{places_placed, fields_placed}

trees_given : (ps : List (FieldHead × Option Tree)) → trees_in (parts_of ps) ≡ map tree_seen ps
trees_given [] = refl
trees_given (p ∷ ps) = ap (λ z. tree_seen p ∷ z) (trees_given ps)

abbrev tree_in : Option (FieldHead × Option Tree) → Option Tree
tree_in None = None
tree_in (Some p) = p.1

module _ (ids : Target → Id) where
  abbrev Placed : Option Id → Entry → Space → Space × Id → Type 0
  Placed at e s a = placed ids at e s ≡ a

  atoms-bare : (at : Option Id) (a : Atom) (s : Space) → placed ids at (atom_view a) s ≡ placed ids None (atom_view a) s
  atoms-bare at atoms.Bool s = refl
  atoms-bare at (atoms.Integer g) s = refl
  atoms-bare at atoms.Text s = refl
  atoms-bare at (atoms.Native f) s = refl
  atoms-bare at atoms.Any s = refl
  atoms-bare at atoms.Unit s = refl
  atoms-bare at (atoms.Reference q) s = refl

  pub atom_arm : (at : Option Id) (a : Atom) (s : Space) (w : Space × Id) → Placed None (atom_view a) s w → Placed at (tree_view (trees.Atom a)) s w
  atom_arm at a s w h = ap (λ e. placed ids at e s) (atom_seen a) ∙ atoms-bare at a s ∙ h

  pub map_arm : (at : Option Id) (k v : Box Tree Global) (s t u : Space) (i j : Id) (w : Space × Id) → Placed None (tree_view k.value) s (t, i) → Placed None (tree_view v.value) t (u, j) → put (map_at i j) u ≡ w
      → Placed at (tree_view (trees.Map k v)) s w
  map_arm at k v s t u i j w f g h =
      ap (λ e. placed ids at e s) (map_seen k v) ∙ ap (λ (a : Space × Id). put (map_at a.1 (placed ids None (tree_view v.value) a.0).1) (placed ids None (tree_view v.value) a.0).0) f
      ∙ ap (λ (b : Space × Id). put (map_at i b.1) b.0) g ∙ h

  wrapped-placed : (at : Option Id) (w : Wrap) (e : Entry) (s : Space)
      → placed ids at (wrapped w e) s ≡ wrap_closed w (wrap_opened at w s).1 (placed ids None e (wrap_opened at w s).0).1 (placed ids None e (wrap_opened at w s).0).0
  wrapped-placed at wraps.Option e s = refl
  wrapped-placed at wraps.Vec e s = refl
  wrapped-placed at wraps.Set e s = refl
  wrapped-placed at (wraps.Array n) e s = refl
  wrapped-placed at (wraps.Newtype l rule) e s = refl

  pub one_arm : (at : Option Id) (w : Wrap) (b : Box Tree Global) (s t u : Space) (o : Option Id) (j : Id) (a : Space × Id) → wrap_opened at w s ≡ (t, o) → Placed None (tree_view b.value) t (u, j) → wrap_closed w o j u ≡ a
      → Placed at (tree_view (trees.One w b)) s a
  one_arm at w b s t u o j a f g h =
      let e = tree_view b.value in
      ap (λ x. placed ids at x s) (one_seen w b) ∙ wrapped-placed at w e s
      ∙ ap (λ (p : Space × Option Id). wrap_closed w p.1 (placed ids None e p.0).1 (placed ids None e p.0).0) f
      ∙ ap (λ (q : Space × Id). wrap_closed w o q.1 q.0) g ∙ h

  -- ---- places and fields

  abbrev GivenParts : List (FieldHead × Option Tree) → Space → Space × List (Option Id) → Type 0
  GivenParts ps s a = placed_parts ids (map tree_seen ps) s ≡ a

  pub places_arm : (ps : List (FieldHead × Option Tree)) (s t : Space) (is : List (Option Id)) → GivenParts ps s (t, is) → placed_entries ids (places_view (parts_of ps)) s ≡ (t, resolved is None)
  places_arm ps s t is h =
      places_placed ids (parts_of ps) s
      ∙ ap (λ (a : Space × List (Option Id)). (a.0, resolved a.1 None)) (ap (λ z. placed_parts ids z s) (trees_given ps) ∙ h)

  pub bare_arm : (ps : List (FieldHead × Option Tree)) (s t : Space) (is : List (Option Id)) → GivenParts ps s (t, is)
      → placed_fields ids (fields_view (parts_of ps) no_fields) s ≡ (t, struct_given (parts_of ps) is None, None)
  bare_arm ps s t is h =
      fields_placed ids no_fields (λ z. (z, None)) (λ z. refl) (parts_of ps) s
      ∙ ap (λ (a : Space × List (Option Id)). (a.0, struct_given (parts_of ps) a.1 None, None)) (ap (λ z. placed_parts ids z s) (trees_given ps) ∙ h)

  pub rest_arm : (ps : List (FieldHead × Option Tree)) (n : List ℕ) (e : Entry) (s t u : Space) (is : List (Option Id)) (j : Id) → GivenParts ps s (t, is) → Placed None e t (u, j)
      → placed_fields ids (fields_view (parts_of ps) (rest_field n e)) s ≡ (u, struct_given (parts_of ps) is (Some j), Some j)
  rest_arm ps n e s t u is j h g =
      let last : Space → Space × Option Id = λ z. ((placed ids None e z).0, Some (placed ids None e z).1) in
      fields_placed ids (rest_field n e) last (λ z. refl) (parts_of ps) s
      ∙ ap (λ (a : Space × List (Option Id)). ((last a.0).0, struct_given (parts_of ps) a.1 (last a.0).1, (last a.0).1)) (ap (λ z. placed_parts ids z s) (trees_given ps) ∙ h)
      ∙ ap (λ (b : Space × Id). (b.0, struct_given (parts_of ps) is (Some b.1), Some b.1)) g

  pub tuple_arm : (at : Option Id) (ps : Vec (FieldHead × Option Tree) Global) (s t : Space) (is : List (Option Id)) (js : List Id) (w : Space × Id) → GivenParts ps.items s (t, is) → js ≡ resolved is None
      → put (tuple_entry_at js) t ≡ w → Placed at (tree_view (trees.Tuple ps)) s w
  tuple_arm at ps s t is js w f g h =
      ap (λ e. placed ids at e s) (tuple_seen ps) ∙ ap (λ (a : Space × List Id). put (tuple_entry_at a.1) a.0) (places_arm ps.items s t is f)
      ∙ ap (λ z. put (tuple_entry_at z) t) (sym g) ∙ h

  -- ---- items

  named-opened : (at : Option Id) (l : Label) (n : List ℕ) (s t : Space) (i : Id) → n ≡ label_view l → opened_at at n s ≡ (t, i) → opened_at at (label_view l) s ≡ (t, i)
  named-opened at l n s t i d o = ap (λ m. opened_at at m s) (sym d) ∙ o

  pub closed_arm : (at : Option Id) (l : Label) (n : List ℕ) (c : Bool) (ps : Vec (FieldHead × Option Tree) Global) (rest : Option (Label × Box Tree Global)) (s t u : Space) (i : Id) (is : List (Option Id)) (w : Space × Id) → rest ≡ None
      → n ≡ label_view l → opened_at at n s ≡ (t, i)
      → GivenParts ps.items t (u, is) → struct_filled i u (struct_shape_at c (struct_given (parts_of ps.items) is None) (rest_given (struct_given (parts_of ps.items) is None) None)) ≡ w
      → Placed at (tree_view (trees.Struct l c ps rest)) s w
  closed_arm at l n c ps rest s t u i is w none d o f h =
      let fs = fields_view (parts_of ps.items) no_fields in
      ap (λ z. placed ids at (tree_view (trees.Struct l c ps z)) s) none
      ∙ ap (λ e. placed ids at e s) (struct_seen l c ps None)
      ∙ ap (λ (p : Space × Id). struct_filled p.1 (placed_fields ids fs p.0).0 (struct_shape_at c (placed_fields ids fs p.0).1 (rest_given (placed_fields ids fs p.0).1 (placed_fields ids fs p.0).2))) (named-opened at l n s t i d o)
      ∙ ap (λ (a : Space × List FieldAt × Option Id). struct_filled i a.0 (struct_shape_at c a.1 (rest_given a.1 a.2))) (bare_arm ps.items t u is f) ∙ h

  pub open_arm : (at : Option Id) (l : Label) (n : List ℕ) (c : Bool) (ps : Vec (FieldHead × Option Tree) Global) (rest : Option (Label × Box Tree Global)) (r : Label × Box Tree Global) (s t u v : Space) (i j : Id) (is : List (Option Id)) (w : Space × Id)
      → rest ≡ Some r → n ≡ label_view l → opened_at at n s ≡ (t, i)
      → GivenParts ps.items t (u, is) → Placed None (tree_view r.1.value) u (v, j)
      → struct_filled i v (struct_shape_at c (struct_given (parts_of ps.items) is (Some j)) (rest_given (struct_given (parts_of ps.items) is (Some j)) (Some j))) ≡ w
      → Placed at (tree_view (trees.Struct l c ps rest)) s w
  open_arm at l n c ps rest r s t u v i j is w some d o f g h =
      let fs = fields_view (parts_of ps.items) (rest_field (label_view r.0) (tree_view r.1.value)) in
      ap (λ z. placed ids at (tree_view (trees.Struct l c ps z)) s) some
      ∙ ap (λ e. placed ids at e s) (struct_seen l c ps (Some r))
      ∙ ap (λ (p : Space × Id). struct_filled p.1 (placed_fields ids fs p.0).0 (struct_shape_at c (placed_fields ids fs p.0).1 (rest_given (placed_fields ids fs p.0).1 (placed_fields ids fs p.0).2))) (named-opened at l n s t i d o)
      ∙ ap (λ (a : Space × List FieldAt × Option Id). struct_filled i a.0 (struct_shape_at c a.1 (rest_given a.1 a.2))) (rest_arm ps.items (label_view r.0) (tree_view r.1.value) t u v is j f g) ∙ h

  pub enum_arm : (at : Option Id) (l : Label) (n : List ℕ) (c : Bool) (tag : TagRow) (ws : Vec (VariantHead × Vec (FieldHead × Option Tree) Global) Global) (s t u : Space) (i : Id) (xs : List VariantAt) (w : Space × Id)
      → n ≡ label_view l → opened_at at n s ≡ (t, i) → placed_variants ids (variants_view (tag_view tag) (map case_seen ws.items)) t ≡ (u, xs) → struct_filled i u (enum_shape_at c (tag_view tag) xs) ≡ w
      → Placed at (tree_view (trees.Enum l c tag ws)) s w
  enum_arm at l n c tag ws s t u i xs w d o f h =
      let vs = variants_view (tag_view tag) (map case_seen ws.items) in
      ap (λ e. placed ids at e s) (enum_seen l c tag ws)
      ∙ ap (λ (p : Space × Id). struct_filled p.1 (placed_variants ids vs p.0).0 (enum_shape_at c (tag_view tag) (placed_variants ids vs p.0).1)) (named-opened at l n s t i d o)
      ∙ ap (λ (a : Space × List VariantAt). struct_filled i a.0 (enum_shape_at c (tag_view tag) a.1)) f ∙ h

  -- ---- contents of variants

  pub first_arm : (xs zs : List (FieldHead × Option Tree)) (x : FieldHead × Option Tree) (e : Tree) (s : Space) (w : Space × Id) → zs ≡ xs → Some x ≡ slice_get zs 0 → x.1 ≡ Some e
      → Placed None (tree_view e) s w → Placed None (first_part (parts_of xs)) s w
  first_arm [] zs x e s w d h some made = absurd (let k : Some x ≡ None = h ∙ ap (λ us. slice_get us 0) d in cc)
  first_arm (y ∷ ys) zs x e s w d h some made =
      ap (λ (z : Option Tree). placed ids None (first_part ((y.0, option_map tree_view z) ∷ parts_of ys)) s) (sym (ap tree_in (h ∙ ap (λ us. slice_get us 0) d)) ∙ some) ∙ made

  pub bare_first_arm : (xs zs : List (FieldHead × Option Tree)) (x : FieldHead × Option Tree) (s : Space) (w : Space × Id) → zs ≡ xs → Some x ≡ slice_get zs 0 → x.1 ≡ None → put any_at s ≡ w
      → Placed None (first_part (parts_of xs)) s w
  bare_first_arm [] zs x s w d h none made = made
  bare_first_arm (y ∷ ys) zs x s w d h none made =
      ap (λ (z : Option Tree). placed ids None (first_part ((y.0, option_map tree_view z) ∷ parts_of ys)) s) (sym (ap tree_in (h ∙ ap (λ us. slice_get us 0) d)) ∙ none) ∙ made

  pub no_first_arm : (xs zs : List (FieldHead × Option Tree)) (s : Space) (w : Space × Id) → zs ≡ xs → None ≡ slice_get zs 0 → put any_at s ≡ w → Placed None (first_part (parts_of xs)) s w
  no_first_arm [] zs s w d h made = made
  no_first_arm (y ∷ ys) zs s w d h made = absurd (let k : None ≡ Some y = h ∙ ap (λ us. slice_get us 0) d in cc)

  pub tuple_contents_arm : (ps : List (FieldHead × Option Tree)) (s t : Space) (is : List (Option Id)) (js : List Id) → GivenParts ps s (t, is) → js ≡ resolved is None
      → placed_contents ids (tuple_contents (places_view (parts_of ps))) s ≡ (t, tuple_at js)
  tuple_contents_arm ps s t is js f g = ap (λ (a : Space × List Id). (a.0, tuple_at a.1)) (places_arm ps s t is f) ∙ ap (λ (z : List Id). (t, tuple_at z)) (sym g)

  pub struct_contents_arm : (ps : List (FieldHead × Option Tree)) (s t : Space) (is : List (Option Id)) (js : List Id) (gs : List FieldAt) → GivenParts ps s (t, is) → js ≡ resolved is None
      → gs ≡ fields_at (parts_of ps) js → placed_contents ids (struct_contents (fields_view (parts_of ps) no_fields)) s ≡ (t, struct_at gs)
  struct_contents_arm ps s t is js gs f g h =
      ap (λ (a : Space × List FieldAt × Option Id). (a.0, struct_at a.1)) (bare_arm ps s t is f) ∙ ap (λ (z : List FieldAt). (t, struct_at z)) (sym (h ∙ ap (fields_at (parts_of ps)) g))
