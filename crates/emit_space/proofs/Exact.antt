-- Types and attributes ask of the uses of an item alone, and there the parts of the graph say which are boxed.
use Rattle.std.proofs.Common.{◌≡◌, ◌⊎◌, inl, inr, ◌<◌, ◌≤◌, ◌+◌, ℕ, zero, suc, List, [], ◌∷◌, ◌++◌, map, length, flat_map, Bool, true, false, ◌&&◌, not, cond, Option, Some, None, is_some, refl, sym, ap, ◌∙◌, subst, true≢false, codes, arith, eqb-true, eq-eqb}
use Rattle.std.specs.Prelude.{◌==◌, nat_lt, slice_index, slice_index_or, Vec, vec_len}
use Rattle.std.specs.declared.alloc.Global.{Global}
use Rattle.std.proofs.lemmas.Bool.{ltb-true, lt-ltb}
use Rattle.token_trees.specs.Token.{site}
use Rattle.token_trees.specs.Text.{text_of}
use Rattle.syntax_trees.specs.Syntax.{TyD, ty_array, ty_tuple, ex_fixed, tys_of}
use Rattle.syntax_trees.specs.Item.{FieldD, FieldsD, named_fields, unnamed_fields, VariantD, BodyD, struct_body, enum_body, ItemD}
use Rattle.syntax_printing.specs.Print.{print_ty}
use Rattle.token_trees.specs.Token.{digits}
use Rattle.std.specs.Fmt.{decimal}
use Rattle.model_defs.specs.Model.{RuleD}
use Rattle.entry_defs.specs.Space.{Id, FieldAt, RestAt, ContentsAt, unit_at, newtype_at, tuple_at, struct_at, VariantAt, ShapeAt, struct_shape_at, enum_shape_at, newtype_shape_at, EntryAt, boolean_at, integer_at, text_at, native_at, any_at, null_at, option_at, vec_at, set_at, map_at, tuple_entry_at, array_at, reference_at, item_at, Space, entry_at}
use Rattle.emit_defs.specs.Models.{after_state}
use Rattle.emit_defs.specs.Setting.{is_phantom}
use Rattle.emit_defs.specs.Trees as trees
use Rattle.emit_defs.specs.Trees.{flag, valued, serde, when, rename_metas, manner_metas, manner_ty, option_ty, unnamed_field}
use Rattle.use_graph.specs.Graph.{Graph, graph_of, Uses, Reaches, one_use, more_uses, TellsParts}
use Rattle.use_graph.specs.Ends.{leads_within}
use Rattle.use_graph.specs.declared.ends.Next.{Next}
use Rattle.use_graph.specs.declared.ends.Next.TheVariants.{Yes, No, To}
use Rattle.emit_defs.specs.Emission.{Emission}
use Rattle.use_graph.proofs.Rounds.{held}
use Rattle.use_graph.proofs.Ways.{reaches_on, reaches_below, reaching_is_decided}
use Rattle.space_defs.specs.Items.{ItemAt, items_at, name_at}
use Rattle.space_defs.specs.Uses.{used_by_contents, used_by_shape, used_by, uses_at, boxes_at}
use Rattle.space_defs.specs.Leads.{is_phantom_use, phantom_entry, ends_in_phantom_at, is_transparent_at, next_of_item, next_of, nexts_from, leads_at}
use Rattle.space_defs.specs.Types.{used_ty_at, form_ty, ty_within, ty_at}
use Rattle.space_defs.specs.Trees.{contents_defaults_at, shape_defaults_at, shape_tag_at, is_closed_at, manner_at, field_tree_at, field_trees_at, rest_trees_at, struct_trees_at, unnamed_trees_at, contents_tree_at, variant_tree_at, variant_trees_at, shape_tree_at, try_from_metas_at, shape_metas_at, item_tree_at, item_trees_at}
use Rattle.space_defs.specs.Emission.{emission_by, emission_at}
use Rattle.space_defs.proofs.Lists.{In, in_left, in_right, in_flat, same_bools, length_map}
use Rattle.space_defs.proofs.Lookup.{placed}
use Rattle.space_defs.proofs.Reached.{uses_it}
use Rattle.space_defs.proofs.Leading.{as_many}
use Rattle.emit_types.specs.Asked.{same_part, leads_by}

map_same : {A B : Type 0} (f h : A → B) (xs : List A) → ((x : A) → In x xs → f x ≡ h x) → map f xs ≡ map h xs
map_same f h [] e = refl
map_same f h (x ∷ xs) e = let a = e x (inl refl) in let b = map_same f h xs (λ y i. e y (inr i)) in λ z. a z ∷ b z

module _ (space : Space) where
  abbrev g : Graph
  g = uses_at space

  on : (o i j : Id) (e : EntryAt) → Reaches g o i → entry_at space i ≡ Some e → In j (used_by e) → Reaches g o j
  on o i j e r h a = reaches_on g o i j r (one_use i j (uses_it space i j e h a))

  -- ---- types

  module _ (o : Id) (c d : Id → Bool) (same : (u : Id) → Reaches g o u → c u ≡ d u) where
    -- the form of one entry, where the types inside are the same
    form_asked : (k : ℕ) → ((j : Id) → Reaches g o j → ty_within space k c j ≡ ty_within space k d j) → (i : Id) → Reaches g o i → (e : Option EntryAt) → entry_at space i ≡ e
        → form_ty (name_at space) (λ b j. ty_within space k b j) c i e ≡ form_ty (name_at space) (λ b j. ty_within space k b j) d i e
    form_asked k inside i r None h = refl
    form_asked k inside i r (Some boolean_at) h = refl
    form_asked k inside i r (Some (integer_at n)) h = refl
    form_asked k inside i r (Some text_at) h = refl
    form_asked k inside i r (Some (native_at f)) h = refl
    form_asked k inside i r (Some any_at) h = refl
    form_asked k inside i r (Some null_at) h = refl
    form_asked k inside i r (Some (option_at j)) h = ap option_ty (inside j (on o i j (option_at j) r h (inl refl)))
    form_asked k inside i r (Some (vec_at j)) h = refl
    form_asked k inside i r (Some (set_at j)) h = refl
    form_asked k inside i r (Some (map_at l j)) h = refl
    form_asked k inside i r (Some (tuple_entry_at js)) h =
        ap (λ z. ty_tuple (tys_of z)) (map_same (λ j. ty_within space k c j) (λ j. ty_within space k d j) js (λ j a. inside j (on o i j (tuple_entry_at js) r h a)))
    form_asked k inside i r (Some (array_at j n)) h = ap (λ z. ty_array z (ex_fixed (digits (decimal n)) site)) (inside j (on o i j (array_at j n) r h (inl refl)))
    form_asked k inside i r (Some (reference_at j)) h = ap (λ b. used_ty_at b (name_at space j)) (same j (on o i j (reference_at j) r h (inl refl)))
    form_asked k inside i r (Some (item_at n s)) h = ap (λ b. used_ty_at b n) (same i r)

    type_asked : (k : ℕ) (i : Id) → Reaches g o i → ty_within space k c i ≡ ty_within space k d i
    type_asked zero i r = refl
    type_asked (suc k) i r = form_asked k (type_asked k) i r (entry_at space i) refl

  module _ (b e : Id → Id → Bool) (same : (o u : Id) → Reaches g o u → b o u ≡ e o u) where
    used_asked : (o j : Id) → Reaches g o j → ty_at space (b o) j ≡ ty_at space (e o) j
    used_asked o j r = type_asked o (b o) (e o) (same o) (length space) j r

    phantom_asked : (o j : Id) → Reaches g o j → ends_in_phantom_at space b o j ≡ ends_in_phantom_at space e o j
    phantom_asked o j r = by_form (entry_at space j) refl
      where
        by_form : (x : Option EntryAt) → entry_at space j ≡ x → phantom_entry space b o j x ≡ phantom_entry space e o j x
        by_form (Some (reference_at k)) h = ap (λ z. is_phantom (name_at space k) && not z) (same o k (on o j k (reference_at k) r h (inl refl)))
        by_form (Some (item_at n s)) h = ap (λ z. is_phantom (name_at space j) && not z) (same o j r)
        by_form None h = refl
        by_form (Some boolean_at) h = refl
        by_form (Some (integer_at n)) h = refl
        by_form (Some text_at) h = refl
        by_form (Some (native_at f)) h = refl
        by_form (Some any_at) h = refl
        by_form (Some null_at) h = refl
        by_form (Some (option_at k)) h = refl
        by_form (Some (vec_at k)) h = refl
        by_form (Some (set_at k)) h = refl
        by_form (Some (map_at l k)) h = refl
        by_form (Some (tuple_entry_at ks)) h = refl
        by_form (Some (array_at k n)) h = refl

    -- ---- what entries lead on to

    next_asked : (i : Id) (x : EntryAt) → entry_at space i ≡ Some x → next_of space b i x ≡ next_of space e i x
    next_asked i (item_at n (newtype_shape_at j None)) h =
        let p = phantom_asked i j (one_use i j (uses_it space i j (item_at n (newtype_shape_at j None)) h (inl refl))) in
        λ z. cond (p z) No (To j)
    next_asked i (item_at n (newtype_shape_at j (Some r))) h = refl
    next_asked i (item_at n (struct_shape_at closed gs p)) h = refl
    next_asked i (item_at n (enum_shape_at closed tag xs)) h = refl
    next_asked i boolean_at h = refl
    next_asked i (integer_at n) h = refl
    next_asked i text_at h = refl
    next_asked i (native_at f) h = refl
    next_asked i any_at h = refl
    next_asked i null_at h = refl
    next_asked i (option_at k) h = refl
    next_asked i (vec_at k) h = refl
    next_asked i (set_at k) h = refl
    next_asked i (map_at l k) h = refl
    next_asked i (tuple_entry_at ks) h = refl
    next_asked i (array_at k n) h = refl
    next_asked i (reference_at k) h = refl

    nexts_asked : (xs : Space) (k : Id) → ((i j : Id) (x : EntryAt) → j ≡ k + i → entry_at xs i ≡ Some x → entry_at space j ≡ Some x) → nexts_from space b k xs ≡ nexts_from space e k xs
    nexts_asked [] k f = refl
    nexts_asked (x ∷ xs) k f =
        let a = next_asked k x (f 0 k x (omega arith) refl) in
        let rest = nexts_asked xs (suc k) (λ i j y p h. f (suc i) j y (omega arith) h) in
        λ z. a z ∷ rest z

    all_nexts : nexts_from space b 0 space ≡ nexts_from space e 0 space
    all_nexts = nexts_asked space 0 (λ i j x p h. let q : i ≡ j = omega arith in subst (λ z. entry_at space z ≡ Some x) q h)

    -- ---- items

    module _ (l m : Id → Bool) (alike : (i : Id) → l i ≡ m i) (o : Id) where
      abbrev AreReached : List Id → Type 0
      AreReached js = (j : Id) → In j js → Reaches g o j

      field_asked : (n : ℕ) (f : FieldAt) → Reaches g o f.entry → field_tree_at space b l o n f ≡ field_tree_at space e m o n f
      field_asked n f r =
          let a = alike f.entry in
          let t = used_asked o f.entry r in
          λ z. record {
            attrs = serde (rename_metas f.identifier f.name ++ manner_metas n (manner_at (a z) f.state (entry_at space f.entry)));
            name = Some (trees.name_at f.identifier);
            ty = manner_ty (manner_at (a z) f.state (entry_at space f.entry)) (t z);
          }

      fields_asked : (n : ℕ) (fs : List FieldAt) → AreReached (map (λ f. f.entry) fs) → field_trees_at space b l o n fs ≡ field_trees_at space e m o n fs
      fields_asked n [] r = refl
      fields_asked n (f ∷ fs) r =
          let a = field_asked n f (r f.entry (inl refl)) in
          let rest = fields_asked (after_state f.state n) fs (λ j i. r j (inr i)) in
          λ z. a z ∷ rest z

      rest_asked : (p : Option RestAt) → rest_trees_at space b l o p ≡ rest_trees_at space e m o p
      rest_asked None = refl
      rest_asked (Some p) = refl

      struct_asked : (n : ℕ) (fs : List FieldAt) (p : Option RestAt) → AreReached (map (λ f. f.entry) fs) → struct_trees_at space b l o n fs p ≡ struct_trees_at space e m o n fs p
      struct_asked n fs p r = let a = fields_asked n fs r in let c = rest_asked p in λ z. a z ++ c z

      places_asked : (js : List Id) → AreReached js → unnamed_trees_at space b l o js ≡ unnamed_trees_at space e m o js
      places_asked [] r = refl
      places_asked (j ∷ js) r =
          let a = used_asked o j (r j (inl refl)) in
          let rest = places_asked js (λ k i. r k (inr i)) in
          λ z. unnamed_field (a z) ∷ rest z

      contents_asked : (n : ℕ) (c : ContentsAt) → AreReached (used_by_contents c) → contents_tree_at space b l o n c ≡ contents_tree_at space e m o n c
      contents_asked n unit_at r = refl
      contents_asked n (newtype_at j) r = ap (λ t. unnamed_fields (unnamed_field t ∷ [])) (used_asked o j (r j (inl refl)))
      contents_asked n (tuple_at js) r = ap unnamed_fields (places_asked js r)
      contents_asked n (struct_at fs) r = ap named_fields (struct_asked n fs None r)

      variants_asked : (n : ℕ) (xs : List VariantAt) → AreReached (flat_map (λ x. used_by_contents x.contents) xs) → variant_trees_at space b l o n xs ≡ variant_trees_at space e m o n xs
      variants_asked n [] r = refl
      variants_asked n (x ∷ xs) r =
          let others = flat_map (λ y. used_by_contents y.contents) xs in
          let a = contents_asked n x.contents (λ j i. r j (in_left j (used_by_contents x.contents) others i)) in
          let rest = variants_asked (n + length (contents_defaults_at x.contents)) xs (λ j i. r j (in_right j (used_by_contents x.contents) others i)) in
          λ z. record { attrs = serde (rename_metas x.identifier x.name); name = trees.name_at x.identifier; fields = a z } ∷ rest z

      shape_asked : (n : ℕ) (s : ShapeAt) → AreReached (used_by_shape s) → shape_tree_at space b l o n s ≡ shape_tree_at space e m o n s
      shape_asked n (struct_shape_at closed fs p) r = ap (λ z. struct_body (named_fields z) site) (struct_asked n fs p r)
      shape_asked n (enum_shape_at closed tag xs) r = ap (λ z. enum_body z site) (variants_asked n xs r)
      shape_asked n (newtype_shape_at j rule) r = ap (λ t. struct_body (unnamed_fields (unnamed_field t ∷ [])) site) (used_asked o j (r j (inl refl)))

      metas_asked : (s : ShapeAt) → AreReached (used_by_shape s) → shape_metas_at space b l o s ≡ shape_metas_at space e m o s
      metas_asked (struct_shape_at closed fs p) r = refl
      metas_asked (enum_shape_at closed tag xs) r = refl
      metas_asked (newtype_shape_at j None) r = ap (λ z. (when (not z) (flag (codes "transparent")) ++ []) ++ []) (phantom_asked o j (r j (inl refl)))
      metas_asked (newtype_shape_at j (Some rule)) r = ap (λ t. valued (codes "try_from") (text_of (print_ty t)) ∷ []) (used_asked o j (r j (inl refl)))

    module _ (l m : Id → Bool) (alike : (i : Id) → l i ≡ m i) where
      item_asked : (n : ℕ) (i : ItemAt) → entry_at space i.id ≡ Some (item_at i.name i.shape) → item_tree_at space b l n i ≡ item_tree_at space e m n i
      item_asked n i h =
          let r : (j : Id) → In j (used_by_shape i.shape) → Reaches g i.id j = λ j a. one_use i.id j (uses_it space i.id j (item_at i.name i.shape) h a) in
          let ms = metas_asked l m alike i.id i.shape r in
          let s = shape_asked l m alike i.id n i.shape r in
          λ z. record { attrs = serde (ms z); name = trees.name_at i.name; params = []; predicates = []; body = s z }

      items_asked : (n : ℕ) (is : List ItemAt) → ((i : ItemAt) → In i is → entry_at space i.id ≡ Some (item_at i.name i.shape)) → item_trees_at space b l n is ≡ item_trees_at space e m n is
      items_asked n [] h = refl
      items_asked n (i ∷ is) h =
          let a = item_asked n i (h i (inl refl)) in
          let rest = items_asked (n + length (shape_defaults_at i.shape)) is (λ j x. h j (inr x)) in
          λ z. a z ∷ rest z

      emission_asked : (root : Id) → emission_by space b l root ≡ emission_by space e m root
      emission_asked root = let a = items_asked 0 (items_at space) (placed space) in λ z. record (emission_by space b l root) { items = a z }

-- ---- parts and leads, as they are found

both_hold : (a c : Bool) → (a && c) ≡ true → (a ≡ true) × (c ≡ true)
both_hold true c h = (refl, h)
both_hold false c h = absurd (true≢false (sym h))

module _ (space : Space) (parts : List ℕ) (sized : length parts ≡ length (uses_at space)) (told : TellsParts (uses_at space) parts) where
  parts_exact : (o u : Id) → Reaches (uses_at space) o u → same_part parts o u ≡ boxes_at space o u
  parts_exact o u r =
      let enough : length (uses_at space) ≤ length space = let e = length_map used_by space in omega arith in
      let decided = reaching_is_decided (uses_at space) (length space) u o enough in
      let o_below = reaches_below (uses_at space) o u r in
      same_bools (same_part parts o u) (boxes_at space o u)
      (λ h.
      let p = both_hold (nat_lt u (length parts)) (slice_index parts o == slice_index parts u) h in
      let u_in : u < length parts = ltb-true u (length parts) p.0 in
      let u_below : u < length (uses_at space) = omega arith in
      decided.1 (back o u r ((told o u o_below u_below).0 (eqb-true (slice_index parts o) (slice_index parts u) p.1))))
      (λ h.
      let x = decided.0 h in
      let u_below = reaches_below (uses_at space) u o x in
      let u_in : u < length parts = omega arith in
      let e = (told o u o_below u_below).1 (inr (r, x)) in
      λ z. lt-ltb u (length parts) u_in z && eq-eqb (slice_index parts o) (slice_index parts u) e z)
    where
      back : (o u : Id) → Reaches (uses_at space) o u → (o ≡ u) ⊎ (Reaches (uses_at space) o u × Reaches (uses_at space) u o) → Reaches (uses_at space) u o
      back o u r (inl e) = subst (λ z. Reaches (uses_at space) z o) e (subst (λ z. Reaches (uses_at space) o z) (sym e) r)
      back o u r (inr p) = p.1

  computed : (next : List Next) → next ≡ nexts_from space (same_part parts) 0 space → (answers : List Bool) → ((i : ℕ) → slice_index_or answers i false ≡ leads_within next (suc (length next)) i)
      → (root : Id) → emission_by space (same_part parts) (leads_by answers) root ≡ emission_at space root
  computed next e answers a root =
      let f : next ≡ nexts_from space (boxes_at space) 0 space = e ∙ all_nexts space (same_part parts) (boxes_at space) parts_exact in
      let n : length next ≡ length space = ap length f ∙ as_many space (boxes_at space) space 0 in
      let led : (i : Id) → leads_by answers i ≡ leads_at space (boxes_at space) i = λ i. a i ∙ (λ z. leads_within (f z) (suc (n z)) i) in
      emission_asked space (same_part parts) (boxes_at space) parts_exact (leads_by answers) (leads_at space (boxes_at space)) led root

-- the same of rows that are the graph of uses
emitted : (space : Space) (rows : List (Vec ℕ Global)) → graph_of rows ≡ uses_at space → (parts : List ℕ) → length parts ≡ length rows → TellsParts (graph_of rows) parts
    → (next : List Next) → next ≡ nexts_from space (same_part parts) 0 space → (answers : List Bool) → ((i : ℕ) → slice_index_or answers i false ≡ leads_within next (suc (length next)) i)
    → (root : Id) → emission_by space (same_part parts) (leads_by answers) root ≡ emission_at space root
emitted space rows e parts sized told =
    let many : length parts ≡ length (uses_at space) = sized ∙ sym (length_map (λ (row : Vec ℕ Global). row.items) rows) ∙ ap length e in
    computed space parts many (subst (λ g. TellsParts g parts) e told)

-- the same where all is lent on the way
pub emits : (space : Space) (rows : List (Vec ℕ Global)) → graph_of rows ≡ uses_at space
    → (lent_rows : List (Vec ℕ Global)) → lent_rows ≡ rows → (numbers : Vec ℕ Global) → vec_len numbers ≡ length lent_rows → TellsParts (graph_of lent_rows) numbers.items
    → (lent : List ℕ) → lent ≡ numbers.items → (next : List Next) → next ≡ nexts_from space (same_part lent) 0 space
    → (lent_next : List Next) → lent_next ≡ next → (answers : List Bool) → ((i : ℕ) → slice_index_or answers i false ≡ leads_within lent_next (suc (length lent_next)) i)
    → (lent_parts : List ℕ) → lent_parts ≡ numbers.items → (lent_answers : List Bool) → lent_answers ≡ answers
    → (root : Id) (e : Emission) → e ≡ emission_by space (same_part lent_parts) (leads_by lent_answers) root → e ≡ emission_at space root
emits space rows graph lent_rows a numbers sized told lent b next nexts lent_next d answers led lent_parts f lent_answers h root e made =
    let same : emission_by space (same_part lent_parts) (leads_by lent_answers) root ≡ emission_by space (same_part numbers.items) (leads_by answers) root
    = λ z. emission_by space (same_part (f z)) (leads_by (h z)) root in
    made
    ∙ same
    ∙ emitted space rows graph numbers.items (held numbers (length lent_rows) sized ∙ ap length a) (subst (λ r. TellsParts (graph_of r) numbers.items) a told)
    next (nexts ∙ ap (λ p. nexts_from space (same_part p) 0 space) b)
    answers (subst (λ n. (i : ℕ) → slice_index_or answers i false ≡ leads_within n (suc (length n)) i) d led) root
