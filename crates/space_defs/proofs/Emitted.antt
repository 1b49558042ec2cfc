-- A space that holds a table emits what the table does.
use Rattle.std.proofs.Common.{◌≡◌, ◌<◌, ◌+◌, ℕ, zero, suc, List, [], ◌∷◌, ◌++◌, map, length, flat_map, Bool, true, false, not, Option, Some, None, is_some, refl, sym, ap, ap₂, ◌∙◌, subst, true≢false, inl, inr, codes, arith}
use Rattle.std.specs.List.{AllZip}
use Rattle.token_trees.specs.Token.{site}
use Rattle.token_trees.specs.Text.{text_of}
use Rattle.syntax_trees.specs.Syntax.{TyD, tys_of}
use Rattle.syntax_trees.specs.Item.{FieldD, FieldsD, named_fields, unnamed_fields, VariantD, BodyD, struct_body, enum_body, ItemD}
use Rattle.syntax_printing.specs.Print.{print_ty}
use Rattle.entry_defs.specs.Entry.{Target, State, required, optional, stated, Entry, boolean_entry, integer_entry, text_entry, native_entry, any_entry, unit_entry, option_entry, vec_entry, set_entry, map_entry, tuple_entry, array_entry, reference, item, Entries, no_entries, entry_then, entry_again, Shape, struct_shape, enum_shape, newtype_shape, Rest, no_rest, rest, rest_of, Contents, unit_contents, newtype_contents, tuple_contents, struct_contents, FieldEntry, VariantEntry, fields_of, variants_of}
use Rattle.entry_defs.specs.Space.{Id, FieldAt, RestAt, ContentsAt, VariantAt, ShapeAt, EntryAt, item_at, Space, entry_at, Holds, HoldsEntries, HoldsShape, HoldsContents}
use Rattle.entry_defs.specs.Table.{ItemEntry, Table, target_name, item_name, items_of}
use Rattle.emit_defs.specs.Setting.{setting_of, boxes, leads_of}
use Rattle.emit_defs.specs.Boxing.{BoxesAreExact}
use Rattle.emit_defs.specs.Models.{unboxed, Manner, manner, optional_manner, state_defaults, after_state, field_defaults, contents_defaults, shape_defaults, item_constraints, conversions_of_items}
use Rattle.emit_defs.specs.Trees as trees
use Rattle.emit_defs.specs.Trees.{Carried, flag, valued, serde, when, rename_metas, manner_metas, manner_ty, text_ty, map_ty, lone, unnamed_field, unnamed_fields_of, entry_ty, field_tree, field_trees, rest_trees, contents_tree, variant_tree, variant_trees, shape_tree, item_metas, item_tree, item_trees}
use Rattle.use_graph.specs.Laws.{ReachingIsDecided, LeadingIsDecided}
use Rattle.space_defs.specs.Items.{ItemAt, items_at}
use Rattle.space_defs.specs.Uses.{boxes_at}
use Rattle.space_defs.specs.Leads.{leads_at}
use Rattle.space_defs.specs.Types.{none_boxed, ty_at}
use Rattle.space_defs.specs.Trees.{field_defaults_at, contents_defaults_at, shape_defaults_at, item_constraints_at, optional_manner_at, manner_at, field_tree_at, field_trees_at, rest_trees_at, struct_trees_at, unnamed_trees_at, contents_tree_at, variant_trees_at, shape_tree_at, shape_metas_at, item_tree_at, item_trees_at}
use Rattle.space_defs.specs.Ordered.{AreBelow}
use Rattle.space_defs.specs.Held.{Stands, HoldsTable, SpacesEmitTables}
use Rattle.space_defs.proofs.Lists.{In}
use Rattle.space_defs.proofs.Pairs.{id_or, FieldHeld, RestHeld, fields_held, rest_held, VariantHeld, variants_held}
use Rattle.space_defs.proofs.Lookup.{Matches, matched, placed}
use Rattle.space_defs.proofs.Reached.{boxes_same}
use Rattle.space_defs.proofs.Leading.{phantom_same, leads_same}
use Rattle.space_defs.proofs.Typed.{Agree, none_agree, type_same, types_same}

-- ---- an id that has an entry is below the number of entries

pub below : (es : Space) (i : Id) (e : EntryAt) → entry_at es i ≡ Some e → i < length es
below [] i e a = absurd (true≢false (sym (ap is_some a)))
below (x ∷ xs) zero e a = omega arith
below (x ∷ xs) (suc i) e a = let l = below xs i e a in omega arith

module _ (leads : Target → Id → Bool) (space : Space) where
  held_below : (e : Entry) (i : Id) → Holds leads space e i → i < length space
  held_below boolean_entry i k = below space i _ k
  held_below (integer_entry x) i k = below space i _ k
  held_below text_entry i k = below space i _ k
  held_below (native_entry f) i k = below space i _ k
  held_below any_entry i k = below space i _ k
  held_below unit_entry i k = below space i _ k
  held_below (option_entry e) i k = below space i _ k.1
  held_below (vec_entry e) i k = below space i _ k.1
  held_below (set_entry e) i k = below space i _ k.1
  held_below (map_entry m e) i k = below space i _ k.2
  held_below (tuple_entry es) i k = below space i _ k.1
  held_below (array_entry e n) i k = below space i _ k.1
  held_below (reference q) i k = below space i _ k.1
  held_below (item n s) i k = below space i _ k.1

  all_below : (es : Entries) (js : List Id) → HoldsEntries leads space es js → AreBelow (length space) js
  all_below no_entries [] y = tt
  all_below no_entries (j ∷ js) y = absurd y
  all_below (entry_then e es) [] y = absurd y
  all_below (entry_then e es) (j ∷ js) y = (held_below e j y.0, all_below es js y.1)
  all_below (entry_again es) [] y = absurd y
  all_below (entry_again es) (j ∷ []) y = absurd (true≢false (sym (ap is_some y.0)))
  all_below (entry_again es) (j ∷ l ∷ js) y = let r = all_below es (l ∷ js) y.1 in (subst (λ z. z < length space) (ap (id_or j) y.0) r.0, r)

  optional_same : (e : Entry) (i : Id) → Holds leads space e i → optional_manner_at (entry_at space i) ≡ optional_manner e
  optional_same boolean_entry i k = ap optional_manner_at k
  optional_same (integer_entry x) i k = ap optional_manner_at k
  optional_same text_entry i k = ap optional_manner_at k
  optional_same (native_entry f) i k = ap optional_manner_at k
  optional_same any_entry i k = ap optional_manner_at k
  optional_same unit_entry i k = ap optional_manner_at k
  optional_same (option_entry e) i k = ap optional_manner_at k.1
  optional_same (vec_entry e) i k = ap optional_manner_at k.1
  optional_same (set_entry e) i k = ap optional_manner_at k.1
  optional_same (map_entry m e) i k = ap optional_manner_at k.2
  optional_same (tuple_entry es) i k = ap optional_manner_at k.1
  optional_same (array_entry e n) i k = ap optional_manner_at k.1
  optional_same (reference q) i k = ap optional_manner_at k.1
  optional_same (item n s) i k = ap optional_manner_at k.1

  manner_same : (l : Bool) (s : State) (e : Entry) (i : Id) → Holds leads space e i → manner_at l s (entry_at space i) ≡ manner l s e
  manner_same true required e i k = refl
  manner_same false required e i k = refl
  manner_same l optional e i k = optional_same e i k
  manner_same l (stated v) e i k = refl

  -- ---- stated defaults

  defaults_of_fields : (fs : List FieldEntry) (gs : List FieldAt) → AllZip (FieldHeld leads space) fs gs → field_defaults_at gs ≡ field_defaults fs
  defaults_of_fields [] [] z = refl
  defaults_of_fields [] (g ∷ gs) z = absurd z
  defaults_of_fields (f ∷ fs) [] z = absurd z
  defaults_of_fields (f ∷ fs) (g ∷ gs) z = ap₂ (λ x y. state_defaults x ++ y) z.0.state (defaults_of_fields fs gs z.1)

  defaults_of_contents : (c : Contents) (x : ContentsAt) → HoldsContents leads space c x → contents_defaults_at x ≡ contents_defaults c
  defaults_of_contents unit_contents x k = ap contents_defaults_at k
  defaults_of_contents (newtype_contents e) x k = ap contents_defaults_at k.1
  defaults_of_contents (tuple_contents es) x k = ap contents_defaults_at k.1
  defaults_of_contents (struct_contents fs) x k = ap contents_defaults_at k.1 ∙ defaults_of_fields (fields_of fs) k.0 (fields_held leads space fs k.0 None k.2)

  defaults_of_variants : (ws : List VariantEntry) (xs : List VariantAt) → AllZip (VariantHeld leads space) ws xs → flat_map (λ x. contents_defaults_at x.contents) xs ≡ flat_map (λ w. contents_defaults w.contents) ws
  defaults_of_variants [] [] z = refl
  defaults_of_variants [] (x ∷ xs) z = absurd z
  defaults_of_variants (w ∷ ws) [] z = absurd z
  defaults_of_variants (w ∷ ws) (x ∷ xs) z = ap₂ (λ x y. x ++ y) (defaults_of_contents w.contents x.contents z.0.contents) (defaults_of_variants ws xs z.1)

  defaults_of_shape : (c : Shape) (s : ShapeAt) → HoldsShape leads space c s → shape_defaults_at s ≡ shape_defaults c
  defaults_of_shape (struct_shape closed fs) s k = ap shape_defaults_at k.2 ∙ defaults_of_fields (fields_of fs) k.0 (fields_held leads space fs k.0 k.1 k.3)
  defaults_of_shape (enum_shape closed tag ws) s k = ap shape_defaults_at k.1 ∙ defaults_of_variants (variants_of ws) k.0 (variants_held leads space ws k.0 k.2)
  defaults_of_shape (newtype_shape e rule) s k = ap shape_defaults_at k.1

  defaults_of_items : (xs : List ItemEntry) (ys : List ItemAt) → AllZip (Matches leads space) xs ys → flat_map (λ y. shape_defaults_at y.shape) ys ≡ flat_map (λ x. shape_defaults x.shape) xs
  defaults_of_items [] [] z = refl
  defaults_of_items [] (y ∷ ys) z = absurd z
  defaults_of_items (x ∷ xs) [] z = absurd z
  defaults_of_items (x ∷ xs) (y ∷ ys) z = ap₂ (λ a b. a ++ b) (defaults_of_shape x.shape y.shape z.0.1) (defaults_of_items xs ys z.1)

  -- ---- constraints

  constraints_of_item : (n m : List ℕ) (i : Id) (c : Shape) (s : ShapeAt) → m ≡ n → HoldsShape leads space c s → item_constraints_at (record { id = i; name = m; shape = s }) ≡ item_constraints (record { name = n; shape = c })
  constraints_of_item n m i (struct_shape closed fs) s e k = ap₂ (λ a b. item_constraints_at (record { id = i; name = a; shape = b })) e k.2
  constraints_of_item n m i (enum_shape closed tag ws) s e k = ap₂ (λ a b. item_constraints_at (record { id = i; name = a; shape = b })) e k.1
  constraints_of_item n m i (newtype_shape x None) s e k = ap₂ (λ a b. item_constraints_at (record { id = i; name = a; shape = b })) e k.1
  constraints_of_item n m i (newtype_shape x (Some r)) s e k = ap₂ (λ a b. item_constraints_at (record { id = i; name = a; shape = b })) e k.1

  constraints_of_items : (xs : List ItemEntry) (ys : List ItemAt) → AllZip (Matches leads space) xs ys → flat_map item_constraints_at ys ≡ flat_map item_constraints xs
  constraints_of_items [] [] z = refl
  constraints_of_items [] (y ∷ ys) z = absurd z
  constraints_of_items (x ∷ xs) [] z = absurd z
  constraints_of_items (x ∷ xs) (y ∷ ys) z = ap₂ (λ a b. a ++ b) (constraints_of_item x.name y.name y.id x.shape y.shape z.0.0 z.0.1) (constraints_of_items xs ys z.1)

abbrev made_field : List ℕ → List ℕ → ℕ → Manner → TyD → FieldD
made_field i n k m y = record { attrs = serde (rename_metas i n ++ manner_metas k m); name = Some (trees.name_at i); ty = manner_ty m y }

same_field : (i j n l : List ℕ) (k : ℕ) (m o : Manner) (y z : TyD) → i ≡ j → n ≡ l → m ≡ o → y ≡ z → made_field i n k m y ≡ made_field j l k o z
same_field i j n l k m o y z a b c d = ap₂ (λ u v. made_field u v k m y) a b ∙ ap₂ (λ u v. made_field j l k u v) c d

abbrev made_rest : List ℕ → TyD → FieldD
made_rest i y = record { attrs = serde (flag (codes "flatten") ∷ []); name = Some (trees.name_at i); ty = map_ty text_ty y }

abbrev made_variant : List ℕ → List ℕ → FieldsD → VariantD
made_variant i n fs = record { attrs = serde (rename_metas i n); name = trees.name_at i; fields = fs }

same_variant : (i j n l : List ℕ) (fs gs : FieldsD) → i ≡ j → n ≡ l → fs ≡ gs → made_variant i n fs ≡ made_variant j l gs
same_variant i j n l fs gs a b c = ap₂ (λ u v. made_variant u v fs) a b ∙ ap (made_variant j l) c

abbrev made_item : List Carried → List ℕ → BodyD → ItemD
made_item ms n b = record { attrs = serde ms; name = trees.name_at n; params = []; predicates = []; body = b }

same_item : (ms os : List Carried) (m n : List ℕ) (b c : BodyD) → ms ≡ os → m ≡ n → b ≡ c → made_item ms m b ≡ made_item os n c
same_item ms os m n b c x y z = ap₂ (λ u v. made_item u v b) x y ∙ ap (made_item os n) z

module _ (leads : Target → Id → Bool) (space : Space) (t : Table) (h : HoldsTable leads space t) (reaching : ReachingIsDecided) (leading : LeadingIsDecided) (exact : BoxesAreExact) where
  abbrev boxed : Id → Id → Bool
  boxed o u = boxes_at space o u

  abbrev leading_at : Id → Bool
  leading_at i = leads_at space (boxes_at space) i

  abbrev name : Target → List ℕ
  name q = target_name t q

  leading_same : (e : Entry) (i : Id) → Holds leads space e i → leading_at i ≡ leads_of t e
  leading_same e i k = leads_same leads space t h reaching leading exact e i k

  bare_same : (e : Entry) (i : Id) → Holds leads space e i → ty_at space none_boxed i ≡ entry_ty name unboxed e
  bare_same e i k = type_same leads space t h none_boxed unboxed (none_agree leads space t h) (length space) e i (held_below leads space e i k) k

  -- at the id of an item, the reference that leads to it
  root_same : (e : Entry) (i : Id) → Stands leads space e i → ty_at space none_boxed i ≡ entry_ty name unboxed e
  root_same e i (inl k) = bare_same e i k
  root_same e i (inr p) =
      let d = h.led p.0 i p.2 in
      bare_same (item d.0.name d.0.shape) i d.2 ∙ ap lone (sym (ap item_name d.1)) ∙ ap (entry_ty name unboxed) (sym p.1)

  -- an item named m, at o
  module _ (o : Id) (m : List ℕ) (there : ShapeAt) (is_there : entry_at space o ≡ Some (item_at m there)) where
    agree : Agree leads space t h (boxed o) (boxes t m)
    agree j n s a = boxes_same leads space t h reaching exact o j m n there s is_there a

    used_type : (e : Entry) (i : Id) → Holds leads space e i → ty_at space (boxed o) i ≡ entry_ty name (boxes t m) e
    used_type e i k = type_same leads space t h (boxed o) (boxes t m) agree (length space) e i (held_below leads space e i k) k

    field_same : (n : ℕ) (f : FieldEntry) (g : FieldAt) → FieldHeld leads space f g → field_tree_at space boxed leading_at o n g ≡ field_tree (setting_of t) m n f
    field_same n f g k =
        let l = leading_same f.entry g.entry k.entry in
        same_field g.identifier f.identifier g.name f.name n (manner_at (leading_at g.entry) g.state (entry_at space g.entry)) (manner (leads_of t f.entry) f.state f.entry) (ty_at space (boxed o) g.entry) (entry_ty name (boxes t m) f.entry)
        k.identifier k.name
        (ap₂ (λ a b. manner_at a b (entry_at space g.entry)) l k.state ∙ manner_same leads space (leads_of t f.entry) f.state f.entry g.entry k.entry)
        (used_type f.entry g.entry k.entry)

    fields_same : (n : ℕ) (fs : List FieldEntry) (gs : List FieldAt) → AllZip (FieldHeld leads space) fs gs → field_trees_at space boxed leading_at o n gs ≡ field_trees (setting_of t) m n fs
    fields_same n [] [] z = refl
    fields_same n [] (g ∷ gs) z = absurd z
    fields_same n (f ∷ fs) [] z = absurd z
    fields_same n (f ∷ fs) (g ∷ gs) z =
        ap₂ (λ a b. a ∷ field_trees_at space boxed leading_at o (after_state b n) gs) (field_same n f g z.0) z.0.state
        ∙ ap (λ a. field_tree (setting_of t) m n f ∷ a) (fields_same (after_state f.state n) fs gs z.1)

    rest_same : (r : Rest) (p : Option RestAt) → RestHeld leads space r p → rest_trees_at space boxed leading_at o p ≡ rest_trees (setting_of t) m r
    rest_same no_rest p k = ap (rest_trees_at space boxed leading_at o) k
    rest_same (rest i e) p k =
        ap (rest_trees_at space boxed leading_at o) k.1
        ∙ ap₂ (λ a b. made_rest a b ∷ []) k.2 (bare_same e k.0.entry k.3)

    struct_same : (n : ℕ) (fs : List FieldEntry) (r : Rest) (gs : List FieldAt) (p : Option RestAt) → AllZip (FieldHeld leads space) fs gs → RestHeld leads space r p
        → struct_trees_at space boxed leading_at o n gs p ≡ (field_trees (setting_of t) m n fs ++ rest_trees (setting_of t) m r)
    struct_same n fs r gs p z k = ap₂ (λ a b. a ++ b) (fields_same n fs gs z) (rest_same r p k)

    one_same : (e : Entry) (i : Id) → Holds leads space e i → unnamed_fields (unnamed_field (ty_at space (boxed o) i) ∷ []) ≡ unnamed_fields (unnamed_field (entry_ty name (boxes t m) e) ∷ [])
    one_same e i k = ap (λ y. unnamed_fields (unnamed_field y ∷ [])) (used_type e i k)

    places : (js : List Id) → unnamed_trees_at space boxed leading_at o js ≡ unnamed_fields_of (tys_of (map (λ j. ty_at space (boxed o) j) js))
    places [] = refl
    places (j ∷ js) = ap (λ z. unnamed_field (ty_at space (boxed o) j) ∷ z) (places js)

    contents_same : (n : ℕ) (c : Contents) (x : ContentsAt) → HoldsContents leads space c x → contents_tree_at space boxed leading_at o n x ≡ contents_tree (setting_of t) m n c
    contents_same n unit_contents x k = ap (contents_tree_at space boxed leading_at o n) k
    contents_same n (newtype_contents e) x k = ap (contents_tree_at space boxed leading_at o n) k.1 ∙ one_same e k.0 k.2
    contents_same n (tuple_contents es) x k =
        ap (contents_tree_at space boxed leading_at o n) k.1
        ∙ ap unnamed_fields (places k.0 ∙ ap unnamed_fields_of (types_same leads space t h (boxed o) (boxes t m) agree (length space) es k.0 (all_below leads space es k.0 k.2) k.2))
    contents_same n (struct_contents fs) x k =
        ap (contents_tree_at space boxed leading_at o n) k.1
        ∙ ap named_fields (struct_same n (fields_of fs) (rest_of fs) k.0 None (fields_held leads space fs k.0 None k.2) (rest_held leads space fs k.0 None k.2))

    variants_same : (n : ℕ) (ws : List VariantEntry) (xs : List VariantAt) → AllZip (VariantHeld leads space) ws xs → variant_trees_at space boxed leading_at o n xs ≡ variant_trees (setting_of t) m n ws
    variants_same n [] [] z = refl
    variants_same n [] (x ∷ xs) z = absurd z
    variants_same n (w ∷ ws) [] z = absurd z
    variants_same n (w ∷ ws) (x ∷ xs) z =
        ap₂ (λ a b. a ∷ variant_trees_at space boxed leading_at o (n + length b) xs)
        (same_variant x.identifier w.identifier x.name w.name (contents_tree_at space boxed leading_at o n x.contents) (contents_tree (setting_of t) m n w.contents) z.0.identifier z.0.name (contents_same n w.contents x.contents z.0.contents))
        (defaults_of_contents leads space w.contents x.contents z.0.contents)
        ∙ ap (λ a. variant_tree (setting_of t) m n w ∷ a) (variants_same (n + length (contents_defaults w.contents)) ws xs z.1)

    shape_same : (n : ℕ) (c : Shape) (s : ShapeAt) → HoldsShape leads space c s → shape_tree_at space boxed leading_at o n s ≡ shape_tree (setting_of t) m n c
    shape_same n (struct_shape closed fs) s k =
        ap (shape_tree_at space boxed leading_at o n) k.2
        ∙ ap (λ z. struct_body (named_fields z) site) (struct_same n (fields_of fs) (rest_of fs) k.0 k.1 (fields_held leads space fs k.0 k.1 k.3) (rest_held leads space fs k.0 k.1 k.3))
    shape_same n (enum_shape closed tag ws) s k =
        ap (shape_tree_at space boxed leading_at o n) k.1 ∙ ap (λ z. enum_body z site) (variants_same n (variants_of ws) k.0 (variants_held leads space ws k.0 k.2))
    shape_same n (newtype_shape e rule) s k = ap (shape_tree_at space boxed leading_at o n) k.1 ∙ ap (λ z. struct_body z site) (one_same e k.0 k.2)

    metas_same : (c : Shape) (s : ShapeAt) → HoldsShape leads space c s → shape_metas_at space boxed leading_at o s ≡ item_metas (setting_of t) (record { name = m; shape = c })
    metas_same (struct_shape closed fs) s k = ap (shape_metas_at space boxed leading_at o) k.2
    metas_same (enum_shape closed tag ws) s k = ap (shape_metas_at space boxed leading_at o) k.1
    metas_same (newtype_shape e None) s k =
        ap (shape_metas_at space boxed leading_at o) k.1
        ∙ ap (λ b. (when (not b) (flag (codes "transparent")) ++ []) ++ []) (phantom_same leads space t h reaching leading exact e k.0 k.2 o m there is_there)
    metas_same (newtype_shape e (Some r)) s k =
        ap (shape_metas_at space boxed leading_at o) k.1
        ∙ ap (λ y. valued (codes "try_from") (text_of (print_ty y)) ∷ []) (used_type e k.0 k.2)

  item_same : (n : ℕ) (x : ItemEntry) (y : ItemAt) → entry_at space y.id ≡ Some (item_at y.name y.shape) → Matches leads space x y → item_tree_at space boxed leading_at n y ≡ item_tree (setting_of t) n x
  item_same n x y a k =
      let b = subst (λ z. entry_at space y.id ≡ Some (item_at z y.shape)) k.0 a in
      same_item (shape_metas_at space boxed leading_at y.id y.shape) (item_metas (setting_of t) x) y.name x.name (shape_tree_at space boxed leading_at y.id n y.shape) (shape_tree (setting_of t) x.name n x.shape)
      (metas_same y.id x.name y.shape b x.shape y.shape k.1) k.0 (shape_same y.id x.name y.shape b n x.shape y.shape k.1)

  items_same : (n : ℕ) (xs : List ItemEntry) (ys : List ItemAt) → ((y : ItemAt) → In y ys → entry_at space y.id ≡ Some (item_at y.name y.shape)) → AllZip (Matches leads space) xs ys
      → item_trees_at space boxed leading_at n ys ≡ item_trees (setting_of t) n xs
  items_same n [] [] p z = refl
  items_same n [] (y ∷ ys) p z = absurd z
  items_same n (x ∷ xs) [] p z = absurd z
  items_same n (x ∷ xs) (y ∷ ys) p z =
      ap₂ (λ a b. a ∷ item_trees_at space boxed leading_at (n + length b) ys) (item_same n x y (p y (inl refl)) z.0) (defaults_of_shape leads space x.shape y.shape z.0.1)
      ∙ ap (λ a. item_tree (setting_of t) n x ∷ a) (items_same (n + length (shape_defaults x.shape)) xs ys (λ w a. p w (inr a)) z.1)

pub spaces_emit_tables : ReachingIsDecided → LeadingIsDecided → BoxesAreExact → SpacesEmitTables
spaces_emit_tables reaching leading exact leads space t h e root k =
    let z = matched leads space t h in
    ap₂ (λ a b. record { items = a; conversions = b; root = ty_at space none_boxed root })
    (items_same leads space t h reaching leading exact 0 (items_of t) (items_at space) (placed space) z)
    (ap₂ (λ a b. record { constraints = a; defaults = b }) (constraints_of_items leads space (items_of t) (items_at space) z) (defaults_of_items leads space (items_of t) (items_at space) z))
    ∙ ap (λ y. record { items = item_trees (setting_of t) 0 (items_of t); conversions = conversions_of_items (items_of t); root = y }) (root_same leads space t h reaching leading exact e root k)
