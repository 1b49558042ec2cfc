-- One value: a tree takes it exactly where its id does, if that holds of the value's parts. Each of the two follows from the other, reference by reference.
use Rattle.std.proofs.Common.{◌≡◌, ◌⊎◌, inl, inr, ℕ, zero, suc, ◌≤◌, List, [], ◌∷◌, Bool, true, false, ◌&&◌, ◌||◌, Some, None, option_map, refl, sym, ap, subst, ◌∙◌, true≢false, arith}
use Rattle.json_value.specs.Value.{Value}
use Rattle.schema_defs.specs.Texts.{Relations}
use Rattle.model_defs.specs.Layer.{Parts, is_null, is_boolean, is_in_range, is_text, has_the_format}
use Rattle.model_defs.specs.Model.{external_tag, internal_tag, adjacent_tag, untagged}
use Rattle.model_defs.proofs.Flat.{and_true}
use Rattle.entry_defs.specs.Entry.{Target, Entry, boolean_entry, integer_entry, text_entry, native_entry, any_entry, unit_entry, option_entry, vec_entry, set_entry, map_entry, tuple_entry, array_entry, reference, item, Shape, struct_shape, enum_shape, newtype_shape, Variants, no_variants, variant_then, Contents, unit_contents, newtype_contents, tuple_contents, struct_contents}
use Rattle.entry_defs.specs.Layer.{Judge, integer_range, entry_takes, shape_takes, some_takes, same_takes, rule_holds}
use Rattle.entry_defs.specs.Space.{Id, ContentsAt, VariantAt, ShapeAt, EntryAt, boolean_at, integer_at, text_at, native_at, any_at, null_at, option_at, vec_at, set_at, map_at, tuple_entry_at, array_at, reference_at, item_at, Space, entry_at, Holds, HoldsShape, HoldsVariants, HoldsContents}
use Rattle.entry_defs.specs.Table.{ItemEntry, Table, target_item, allowed}
use Rattle.entry_defs.specs.Takes.{item_takes, follows, takes_within}
use Rattle.emit_defs.proofs.Pairs.{parts}
use Rattle.space_defs.proofs.Lists.{same_bools}
use Rattle.entry_laws.specs.Ids.{id_target, contents_at, variants_at, shape_at, form_at, held_at, table_at}
use Rattle.entry_laws.proofs.Following.{or-more, and-more, followed}
use Rattle.entry_laws.proofs.Ids.{item-at}
use Rattle.entry_laws.proofs.Both.{Agree, Both}
use Rattle.entry_laws.proofs.Same.{each-same, length-same, map-same, tuple-same, struct-same, external-same, internal-same, adjacent-same}

-- ---- one answer leads to another, or is led to by it

-- what joining answers keeps
pub record IsKept (R : Bool → Bool → Type 0) : Type 0 where
  pub same : (a b : Bool) → a ≡ b → R a b
  pub or : (a b c d : Bool) → R a b → R c d → R (a || c) (b || d)
  pub and : (a b c : Bool) → R a b → R (a && c) (b && c)

abbrev Leading : Bool → Bool → Type 0
Leading a b = a ≡ true → b ≡ true

abbrev Led : Bool → Bool → Type 0
Led a b = b ≡ true → a ≡ true

leading-kept : IsKept Leading
leading-kept = record { same = λ a b e h. sym e ∙ h; or = λ a b c d f g. or-more a b c d f g; and = λ a b c f. and-more a b c f }

led-kept : IsKept Led
led-kept = record { same = λ a b e h. e ∙ h; or = λ a b c d f g. or-more b a d c f g; and = λ a b c f. and-more b a c f }

module _ (leads : Target → Id → Bool) (space : Space) (r : Relations) (v : Value) (ps : Parts (Both leads space)) where
  abbrev pt : Parts Judge
  pt = parts (λ p. p.left) ps

  abbrev pi : Parts Judge
  pi = parts (λ p. p.right) ps

  abbrev form_takes : (Target → Bool) → EntryAt → Bool
  form_takes g x = entry_takes r v pi g (form_at x)

  -- ---- a tree, where `f` says what its references take; `S` says of each round what ids take

  module _ (R : Bool → Bool → Type 0) (kept : IsKept R) (f : Target → Bool) (N : Type 0) (S : N → Target → Bool) where
    abbrev References : N → Type 0
    References m = (q : Target) (j : Id) → leads q j ≡ true → R (f q) (S m (id_target j))

    -- by the round before, in which references are as they should be
    pub record Before (n : N) : Type 0 where
      pub round : N
      pub opened : (i : Id) (x : EntryAt) → entry_at space i ≡ Some x → S n (id_target i) ≡ form_takes (S round) x
      pub references : References round

    abbrev IsFirst : N → Type 0
    IsFirst n = (a : Bool) (i : Id) → R a (S n (id_target i))

    module _ (rounds : (n : N) → IsFirst n ⊎ Before n) where
      lift : (n : N) (i : Id) (a : Bool) (x : EntryAt) → entry_at space i ≡ Some x → ((m : N) → References m → R a (form_takes (S m) x)) → R a (S n (id_target i))
      lift n i a x h f = elim (rounds n) [ inl b ↦ b a i | inr d ↦ subst (R a) (sym (d.opened i x h)) (f d.round d.references) ]

      equal : (n : N) (i : Id) (a : Bool) (x : EntryAt) → entry_at space i ≡ Some x → ((m : N) → a ≡ form_takes (S m) x) → R a (S n (id_target i))
      equal n i a x h f = lift n i a x h (λ m k. kept.same a (form_takes (S m) x) (f m))

      mutual
        pub tree : (e : Entry) (i : Id) (n : N) → Holds leads space e i → R (entry_takes r v pt f e) (S n (id_target i))
        tree boolean_entry i n h = equal n i (is_boolean v) boolean_at h (λ m. refl)
        tree (integer_entry g) i n h = equal n i (is_in_range (integer_range g) v) (integer_at g) h (λ m. refl)
        tree text_entry i n h = equal n i (is_text v) text_at h (λ m. refl)
        tree (native_entry g) i n h = equal n i (has_the_format r g v) (native_at g) h (λ m. refl)
        tree any_entry i n h = equal n i true any_at h (λ m. refl)
        tree unit_entry i n h = equal n i (is_null v) null_at h (λ m. refl)
        tree (option_entry e) i n h =
            let rec = tree e h.0 in
            lift n i (is_null v || entry_takes r v pt f e) (option_at h.0) h.1
            (λ m k. kept.or (is_null v) (is_null v) (entry_takes r v pt f e) (S m (id_target h.0)) (kept.same (is_null v) (is_null v) refl) (rec m h.2))
        tree (vec_entry e) i n h = equal n i (entry_takes r v pt f (vec_entry e)) (vec_at h.0) h.1 (λ m. each-same leads space e h.0 h.2 ps)
        tree (set_entry e) i n h = equal n i (entry_takes r v pt f (set_entry e)) (set_at h.0) h.1 (λ m. each-same leads space e h.0 h.2 ps)
        tree (map_entry k e) i n h = equal n i (entry_takes r v pt f (map_entry k e)) (map_at h.0 h.1) h.2 (λ m. map-same leads space k e h.0 h.1 h.3 h.4 ps)
        tree (tuple_entry es) i n h = equal n i (entry_takes r v pt f (tuple_entry es)) (tuple_entry_at h.0) h.1 (λ m. tuple-same leads space es h.0 h.2 ps)
        tree (array_entry e l) i n h =
            equal n i (entry_takes r v pt f (array_entry e l)) (array_at h.0 l) h.1 (λ m i. length-same leads space l ps i && each-same leads space e h.0 h.2 ps i)
        tree (reference q) i n h = lift n i (f q) (reference_at h.0) h.1 (λ m k. k q h.0 h.2)
        tree (item l c) i n h =
            let rec = shape c h.0 in
            lift n i (shape_takes r v pt f c) (item_at l h.0) h.1 (λ m k. rec m h.2)

        shape : (c : Shape) (s : ShapeAt) (m : N) → HoldsShape leads space c s → R (shape_takes r v pt f c) (shape_takes r v pi (S m) (shape_at s))
        shape (struct_shape closed fs) s m h =
            kept.same _ _ (struct-same leads space closed fs h.0 h.1 h.3 ps ∙ ap (λ z. shape_takes r v pi (S m) (shape_at z)) (sym h.2))
        shape (enum_shape closed external_tag ws) s m h =
            kept.same _ _ (external-same leads space closed ws h.0 h.2 v ps ∙ ap (λ z. shape_takes r v pi (S m) (shape_at z)) (sym h.1))
        shape (enum_shape closed (internal_tag tag) ws) s m h =
            kept.same _ _ (internal-same leads space closed tag ws h.0 h.2 v ps ∙ ap (λ z. shape_takes r v pi (S m) (shape_at z)) (sym h.1))
        shape (enum_shape closed (adjacent_tag tag content) ws) s m h =
            kept.same _ _ (adjacent-same leads space closed tag content ws h.0 h.2 v ps ∙ ap (λ z. shape_takes r v pi (S m) (shape_at z)) (sym h.1))
        shape (enum_shape closed untagged ws) s m h =
            subst (λ z. R (some_takes r v pt f closed ws) (shape_takes r v pi (S m) (shape_at z))) (sym h.1) (some closed ws h.0 m h.2)
        shape (newtype_shape e rule) s m h =
            subst (λ z. R (entry_takes r v pt f e && rule_holds r v rule) (shape_takes r v pi (S m) (shape_at z))) (sym h.1)
            (kept.and (entry_takes r v pt f e) (S m (id_target h.0)) (rule_holds r v rule) (tree e h.0 m h.2))

        some : (closed : Bool) (ws : Variants) (xs : List VariantAt) (m : N) → HoldsVariants leads space ws xs → R (some_takes r v pt f closed ws) (some_takes r v pi (S m) closed (variants_at xs))
        some closed no_variants [] m h = kept.same false false refl
        some closed no_variants (x ∷ xs) m h = absurd h
        some closed (variant_then i n c ws) [] m h = absurd h
        some closed (variant_then i n c ws) (x ∷ xs) m h =
            kept.or (same_takes r v pt f closed c) (same_takes r v pi (S m) closed (contents_at x.contents)) (some_takes r v pt f closed ws) (some_takes r v pi (S m) closed (variants_at xs))
            (contents closed c x.contents m h.2) (some closed ws xs m h.3)

        contents : (closed : Bool) (c : Contents) (x : ContentsAt) (m : N) → HoldsContents leads space c x → R (same_takes r v pt f closed c) (same_takes r v pi (S m) closed (contents_at x))
        contents closed unit_contents x m h = kept.same _ _ (ap (λ z. same_takes r v pi (S m) closed (contents_at z)) (sym h))
        contents closed (newtype_contents e) x m h =
            subst (λ z. R (entry_takes r v pt f e) (same_takes r v pi (S m) closed (contents_at z))) (sym h.1) (tree e h.0 m h.2)
        contents closed (tuple_contents es) x m h =
            kept.same _ _ (tuple-same leads space es h.0 h.2 ps ∙ ap (λ z. same_takes r v pi (S m) closed (contents_at z)) (sym h.1))
        contents closed (struct_contents fs) x m h =
            kept.same _ _ (struct-same leads space closed fs h.0 None h.2 ps ∙ ap (λ z. same_takes r v pi (S m) closed (contents_at z)) (sym h.1))

  -- ---- the rounds in which ids are followed, and all of them

  abbrev u : Table
  u = table_at space

  abbrev I : ℕ → Target → Bool
  I k q = follows u r v pi k q

  abbrev all : Target → Bool
  all q = I (allowed u) q

  item-opened : (g : Target → Bool) (i : Id) (x : EntryAt) → entry_at space i ≡ Some x → item_takes (shape_takes r v pi g) (target_item u (id_target i)) ≡ form_takes g x
  item-opened g i x h = ap (item_takes (shape_takes r v pi g)) (item-at space i ∙ ap (option_map held_at) h) ∙ and_true (form_takes g x)

  all-opened : (i : Id) (x : EntryAt) → entry_at space i ≡ Some x → all (id_target i) ≡ form_takes all x
  all-opened i x h = followed u r v pi (id_target i) ∙ item-opened all i x h

  module _ (t : Table) (led : (q : Target) (j : Id) → leads q j ≡ true → (x : ItemEntry) × (target_item t q ≡ Some x) × Holds leads space (item x.name x.shape) j) where
    abbrev F : ℕ → Target → Bool
    F k q = follows t r v pt k q

    abbrev whole : Target → Bool
    whole q = F (allowed t) q

    whole-opened : (q : Target) (x : ItemEntry) → target_item t q ≡ Some x → whole q ≡ shape_takes r v pt whole x.shape
    whole-opened q x h = followed t r v pt q ∙ ap (item_takes (shape_takes r v pt whole)) h

    -- what trees take their ids take: by how often references are followed in trees

    abbrev Up : (Target → Bool) → Type 0
    Up f = (q : Target) (j : Id) → leads q j ≡ true → f q ≡ true → all (id_target j) ≡ true

    up-by : (f : Target → Bool) → Up f → (e : Entry) (i : Id) → Holds leads space e i → entry_takes r v pt f e ≡ true → all (id_target i) ≡ true
    up-by f refs e i h = tree Leading leading-kept f (Unit {0}) (λ n. all) (λ n. inr (record { round = tt; opened = all-opened; references = refs })) e i tt h

    up : (k : ℕ) → Up (F k)
    up zero q j l h = absurd (true≢false (sym h))
    up (suc k) q j l h =
        let d = led q j l in
        up-by (F k) (up k) (item d.0.name d.0.shape) j d.2 (sym (ap (item_takes (shape_takes r v pt (F k))) d.1) ∙ h)

    -- and back: by how often ids are followed

    abbrev Down : ℕ → Type 0
    Down k = (q : Target) (j : Id) → leads q j ≡ true → I k (id_target j) ≡ true → whole q ≡ true

    abbrev AllDown : ℕ → Type 0
    AllDown k = (m : ℕ) → m ≤ k → Down m

    abbrev Upto : ℕ → Type 0
    Upto k = (m : ℕ) × (m ≤ suc k)

    down-by : (k : ℕ) → AllDown k → (e : Entry) (i : Id) (n : ℕ) → n ≤ suc k → Holds leads space e i → I n (id_target i) ≡ true → entry_takes r v pt whole e ≡ true
    down-by k before e i n l h = tree Led led-kept whole (Upto k) (λ n. I n.0) (λ n. by n.0 n.1) e i (n, l) h
      where
        by : (n : ℕ) (l : n ≤ suc k) → IsFirst Led led-kept whole (Upto k) (λ n. I n.0) (n, l) ⊎ Before Led led-kept whole (Upto k) (λ n. I n.0) (n, l)
        by zero l = inl (λ a i h. absurd (true≢false (sym h)))
        by (suc n) l = inr (record { round = (n, omega arith); opened = λ i x h. item-opened (I n) i x h; references = before n (omega arith) })

    all-down : (k : ℕ) → AllDown k
    all-down zero m l q j w h = let e : m ≡ zero = omega arith in absurd (true≢false (sym (sym (ap (λ n. I n (id_target j)) e) ∙ h)))
    all-down (suc k) m l q j w h =
        let d = led q j w in
        whole-opened q d.0 d.1 ∙ down-by k (all-down k) (item d.0.name d.0.shape) j m l d.2 h

    tree-same : (e : Entry) (i : Id) → Holds leads space e i → entry_takes r v pt whole e ≡ all (id_target i)
    tree-same e i h = same_bools _ _ (up-by whole (up (allowed t)) e i h) (down-by (allowed u) (all-down (allowed u)) e i (allowed u) (omega arith) h)

    pub level : Agree leads space (takes_within t r v pt (allowed t)) (takes_within u r v pi (allowed u))
    level = record {
      one = tree-same;
      texts = refl;
      several = λ es js h. tuple-same leads space es js h ps;
      fields = λ closed fs gs h. struct-same leads space closed fs gs None h ps;
    }
