-- One value: what the containers read of it is what is found by entries, if that holds of its parts.
use Rattle.std.proofs.Common.{◌≡◌, ℕ, zero, suc, ◌≤◌, List, [], ◌∷◌, length, Bool, true, false, cond, refl, sym, ap, ◌∙◌, subst, Option, Some, None, inl, inr, arith}
use Rattle.std.specs.Prelude.{if◌then◌else◌}
use Rattle.json_value.specs.Value.{Value}
use Rattle.schema_defs.specs.Texts.{Relations}
use Rattle.model_defs.specs.Types.{TypeModel, boxed_type, item_type, types_of}
use Rattle.model_defs.specs.Model.{external_tag, internal_tag, adjacent_tag, untagged, ContainerModel, ConversionsD}
use Rattle.model_defs.specs.Layer.{Parts, fields_content, variant_content, is_null, members_in, given_rule_agrees}
use Rattle.model_defs.specs.Reads as reads
use Rattle.model_defs.specs.Reach.{asked, asked_by_content, asked_by_variants, asked_by, NoneReachesItself}
use Rattle.model_defs.proofs.Reach.{left_among, right_among, Ends, all_end}
use Rattle.typed_defs.specs.Typed as typed
use Rattle.typed_defs.specs.Typed.{Typed}
use Rattle.reading_defs.specs.Reading as reading
use Rattle.reading_defs.specs.Reading.{Read, taken, read_map, kept_if, absent, type_read, content_read, variant_read, untagged_read, container_read, item_reading, reader_within, list_read, tuple_read, unit_read}
use Rattle.entry_defs.specs.Entry.{Target, Entry, boolean_entry, integer_entry, text_entry, native_entry, any_entry, unit_entry, option_entry, vec_entry, set_entry, map_entry, tuple_entry, array_entry, reference, item, Shape, struct_shape, enum_shape, newtype_shape, Variants, no_variants, variant_then, Contents, unit_contents, newtype_contents, tuple_contents, struct_contents, variants_of}
use Rattle.entry_defs.specs.Layer.{integer_range}
use Rattle.entry_defs.specs.Table.{ItemEntry, Table, target_item, allowed}
use Rattle.entry_defs.specs.Sound.{Each, EachInShape, EachVariant, EachInContents, Leads}
use Rattle.emit_defs.specs.Setting.{Setting}
use Rattle.emit_defs.specs.Models.{unboxed, used, type_model, type_models, contents_style, contents_models, variant_model, variant_models, after_contents, model_of_item}
use Rattle.emit_defs.proofs.Found.{HasRule, IsPlaced}
use Rattle.emit_defs.proofs.Enum.{types_back}
use Rattle.emit_defs.proofs.Level.{named_item, AskEnds, inside, never_at_once, used_asks}
use Rattle.default_defs.specs.Found.{Found, told, both, or_next}
use Rattle.default_defs.specs.Layer.{Reader, entry_read, shape_read, first_read, same_read}
use Rattle.default_defs.specs.Supplied.{item_read, follows, read_within}
use Rattle.default_defs.proofs.Alike as alike
use Rattle.default_laws.specs.Laws.{as_found}
use Rattle.default_laws.proofs.AsFound.{of_map, of_next, of_kept, both_ended, of_boolean, of_integer, of_text, of_native, of_unit}
use Rattle.default_laws.proofs.Says.{ContentsAreRead, VariantsAreRead, ShapeIsRead, Says, IsName, PartsSay}
use Rattle.default_laws.proofs.Lists.{each, array, tuples, maps}
use Rattle.default_laws.proofs.Structs.{struct}
use Rattle.default_laws.proofs.Enums.{external, internal, adjacent}

-- the item of that name and its rule are found, and its stated defaults are read
pub record IsFilled (s : Setting) (models : List ContainerModel) (cs : ConversionsD) (missed : Entry → Value → Found) (default_read : ℕ → TypeModel → Read Typed) (n : List ℕ) (h : Shape) : Type 0 where
  pub placed : IsPlaced s models cs n h
  pub filled : ShapeIsRead s missed default_read n placed.at h

kept_so : (x : Read Typed) → as_found (kept_if true x) ≡ as_found x
kept_so x = of_kept true x ∙ both_ended (as_found x)

null_or : (b : Bool) (x : Read Typed) (y : Found) → as_found x ≡ y → as_found (if b then taken typed.none else read_map typed.some x) ≡ or_next (told b) y
null_or true x y e = refl
null_or false x y e = of_map typed.some x ∙ e

module _ (s : Setting) (models : List ContainerModel) (cs : ConversionsD) (table : Table) (r : Relations) (missed : Entry → Value → Found) (default_read : ℕ → TypeModel → Read Typed)
    (none : NoneReachesItself models)
    (names : (q : Target) (i : ItemEntry) → target_item table q ≡ Some i → s.name q ≡ i.name)
    (whole : (q : Target) (i : ItemEntry) → target_item table q ≡ Some i → Each (IsFilled s models cs missed default_read) (Leads table) (item i.name i.shape))
    (enough : length models ≤ allowed table)
    (lacks : (b : List ℕ → Bool) (e : Entry) → Each (IsFilled s models cs missed default_read) (Leads table) e → s.leads e ≡ false → absent models (type_model s.name b e) ≡ None) where
  abbrev P : List ℕ → Shape → Type 0
  P n h = IsFilled s models cs missed default_read n h

  abbrev Q : Target → Type 0
  Q q = Leads table q

  module _ (v : Value) (ps : Parts Reader) (qs : Parts reading.Reader) (x : PartsSay s missed default_read P Q ps qs) where
    -- where so many items may still be entered
    abbrev entered : ℕ → List ℕ → Read Typed
    entered m n = item_reading models cs r default_read v qs m n

    abbrev by_type : ℕ → TypeModel → Read Typed
    by_type m t = type_read models r v qs (item_reading models cs r default_read v qs m) t

    abbrev container : ℕ → Option ContainerModel → Read Typed
    container m o = container_read default_read (absent models) r cs v qs (type_read models r v qs (item_reading models cs r default_read v qs m)) o

    abbrev led_to : ℕ → Target → Found
    led_to j q = follows table r missed v ps j q

    by_used : (m : ℕ) (b : List ℕ → Bool) (n : List ℕ) → by_type m (used b n) ≡ entered m n
    by_used m b n = elim (b n) as (λ z. by_type m (cond z (boxed_type (item_type n)) (item_type n)) ≡ entered m n) [ true ↦ refl | false ↦ refl ]

    -- an item that ends within k is entered, as so many may be; then what it asks ends one sooner
    at_item : (n : List ℕ) (c : Shape) (p : IsPlaced s models cs n c) (k m : ℕ) → k ≤ m → Ends models k n → (y : Found)
        → ((i o : ℕ) → k ≡ suc i → i ≤ o → AskEnds s models cs i (asked_by (Some (model_of_item s p.at (named_item n c)))) → as_found (container o (Some (model_of_item s p.at (named_item n c)))) ≡ y)
        → as_found (entered m n) ≡ y
    at_item n c p zero m l e y f = absurd (never_at_once s models cs n c p e)
    at_item n c p (suc k) zero l e y f = absurd (omega arith)
    at_item n c p (suc k) (suc m) l e y f = ap (λ o. as_found (container m o)) p.found ∙ f k m refl (omega arith) (inside s models cs k n c p e)

    -- ---- entries, where references that end so soon are read as they are found

    module _ (j : ℕ) (refs : (k m : ℕ) → k ≤ j → k ≤ m → (q : Target) (i : ItemEntry) → target_item table q ≡ Some i → Ends models k i.name → as_found (entered m i.name) ≡ led_to j q) where
      mutual
        entry : (k m : ℕ) → k ≤ j → k ≤ m → (b : List ℕ → Bool) (e : Entry) → Each P Q e → AskEnds s models cs k (asked (type_model s.name b e))
            → as_found (by_type m (type_model s.name b e)) ≡ entry_read missed r v ps (led_to j) e
        entry k m lj lm b boolean_entry h a = of_boolean v
        entry k m lj lm b (integer_entry i) h a = of_integer (integer_range i) v
        entry k m lj lm b text_entry h a = of_text v
        entry k m lj lm b (native_entry f) h a = of_native r f v
        entry k m lj lm b any_entry h a = refl
        entry k m lj lm b unit_entry h a = of_unit v
        entry k m lj lm b (option_entry e) h a = null_or (is_null v) (by_type m (type_model s.name b e)) _ (entry k m lj lm b e h a)
        entry k m lj lm b (vec_entry e) h a = of_map _ (list_read (type_model s.name unboxed e) qs) ∙ each s missed default_read P Q unboxed e h ps qs x
        entry k m lj lm b (set_entry e) h a = of_map _ (list_read (type_model s.name unboxed e) qs) ∙ each s missed default_read P Q unboxed e h ps qs x
        entry k m lj lm b (map_entry l e) h a = maps s missed default_read P Q unboxed l e h.0 h.1 ps qs x
        entry k m lj lm b (tuple_entry es) h a = of_map _ (tuple_read (types_of (type_models s.name b es)) qs) ∙ tuples s missed default_read P Q b es h ps qs x
        entry k m lj lm b (array_entry e n) h a = of_map _ (reading.array_read (type_model s.name b e) n qs) ∙ array s missed default_read P Q b e h n ps qs x
        entry k m lj lm b (reference q) h a =
            let n = names q h.0 h.1 in
            ap as_found (by_used m b (s.name q)) ∙ ap (λ l. as_found (entered m l)) n ∙ refs k m lj lm q h.0 h.1 (subst (Ends models k) n (a (s.name q) (used_asks b (s.name q))))
        entry k m lj lm b (item n c) h a =
            let p = h.0 in
            ap as_found (by_used m b n)
            ∙ at_item n c p.placed k m lm (a n (used_asks b n)) (shape_read missed r v ps (led_to j) c) (λ i o e l y. shape i o (omega (arith, e, lj)) l n c p.placed.at h.1 p.placed.rule p.filled y)

        shape : (k m : ℕ) → k ≤ j → k ≤ m → (n : List ℕ) (c : Shape) (at : ℕ) → EachInShape P Q c → HasRule cs n c → ShapeIsRead s missed default_read n at c
            → AskEnds s models cs k (asked_by (Some (model_of_item s at (named_item n c)))) → as_found (container m (Some (model_of_item s at (named_item n c)))) ≡ shape_read missed r v ps (led_to j) c
        shape k m lj lm n (struct_shape closed fs) at h u st a = kept_so _ ∙ of_map _ _ ∙ struct s missed default_read P Q (absent models) lacks n closed at fs h.0 h.1 st ps qs x
        shape k m lj lm n (enum_shape closed external_tag ws) at h u st a = kept_so _ ∙ external s missed default_read P Q (absent models) lacks n closed at ws h st v ps qs x
        shape k m lj lm n (enum_shape closed (internal_tag tag) ws) at h u st a =
            kept_so _
            ∙ internal s missed default_read P Q (absent models) lacks n closed tag at ws h st v (members_in ps) (members_in qs)
            (alike.members_alike Reader reading.Reader (IsName s missed default_read P Q) (Says s missed default_read P Q) ps qs x)
        shape k m lj lm n (enum_shape closed (adjacent_tag tag content) ws) at h u st a =
            kept_so _
            ∙ adjacent s missed default_read P Q (absent models) lacks n closed tag content at ws h st v (members_in ps) (members_in qs)
            (alike.members_alike Reader reading.Reader (IsName s missed default_read P Q) (Says s missed default_read P Q) ps qs x)
        shape k m lj lm n (enum_shape closed untagged ws) at h u st a = kept_so _ ∙ first k m lj lm n closed ws at 0 h st a
        shape k m lj lm n (newtype_shape e None) at h u st a =
            kept_so _ ∙ of_map typed.newtype (by_type m (type_model s.name (s.is_boxed n) e)) ∙ entry k m lj lm (s.is_boxed n) e h a ∙ sym (both_ended _)
        shape k m lj lm n (newtype_shape e (Some rule)) at h u st a =
            let one = of_map typed.newtype (by_type m (type_model s.name (s.is_boxed n) e)) ∙ entry k m lj lm (s.is_boxed n) e h a in
            of_kept _ (read_map typed.newtype (by_type m (type_model s.name (s.is_boxed n) e))) ∙ (λ i. both (one i) (told (given_rule_agrees r v (u i))))

        first : (k m : ℕ) → k ≤ j → k ≤ m → (n : List ℕ) (closed : Bool) (ws : Variants) (at i : ℕ) → EachVariant P Q ws → VariantsAreRead s missed default_read n at (variants_of ws)
            → AskEnds s models cs k (asked_by_variants closed (variant_models s n at (variants_of ws)))
            → as_found (untagged_read default_read (absent models) r cs v qs (by_type m) closed i (variant_models s n at (variants_of ws))) ≡ first_read missed r v ps (led_to j) closed ws
        first k m lj lm n closed no_variants at i h st a = refl
        first k m lj lm n closed (variant_then y l c ws) at i h st a =
            let w = variant_model s n at (record { identifier = y; name = l; contents = c }) in
            let more = variant_models s n (after_contents c at) (variants_of ws) in
            let ask = asked_by_content (variant_content closed w) in
            let asks = asked_by_variants closed more in
            let one = same k m lj lm n closed y l c at i h.0 (λ o e z ty g. st o e z ty (inl g)) (λ z b. a z (left_among z ask asks b)) in
            let rec = first k m lj lm n closed ws (after_contents c at) (suc i) h.1 (λ o e z ty g. st o e z ty (inr g)) (λ z b. a z (right_among z ask asks b)) in
            of_next (variant_read default_read (absent models) r cs v qs (by_type m) closed i w) (untagged_read default_read (absent models) r cs v qs (by_type m) closed (suc i) more)
            ∙ (λ z. or_next (one z) (rec z))

        same : (k m : ℕ) → k ≤ j → k ≤ m → (n : List ℕ) (closed : Bool) (y l : List ℕ) (c : Contents) (at i : ℕ) → EachInContents P Q c → ContentsAreRead s missed default_read n at c
            → AskEnds s models cs k (asked_by_content (fields_content closed (contents_style s n c) (contents_models s n at c)))
            → as_found (variant_read default_read (absent models) r cs v qs (by_type m) closed i (variant_model s n at (record { identifier = y; name = l; contents = c }))) ≡ same_read missed r v ps (led_to j) closed c
        same k m lj lm n closed y l unit_contents at i h st a = of_map _ (read_map (λ z. z ∷ []) (unit_read v)) ∙ of_map _ (unit_read v) ∙ of_unit v
        same k m lj lm n closed y l (newtype_contents e) at i h st a =
            of_map _ (read_map (λ z. z ∷ []) (by_type m (type_model s.name (s.is_boxed n) e))) ∙ of_map _ (by_type m (type_model s.name (s.is_boxed n) e)) ∙ entry k m lj lm (s.is_boxed n) e h a
        same k m lj lm n closed y l (tuple_contents es) at i h st a =
            of_map _ (tuple_read _ qs) ∙ ap (λ ts. as_found (tuple_read ts qs)) (types_back 0 (types_of (type_models s.name (s.is_boxed n) es)))
            ∙ tuples s missed default_read P Q (s.is_boxed n) es h ps qs x
        same k m lj lm n closed y l (struct_contents fs) at i h st a = of_map _ (reading.struct_read default_read (absent models) closed _ qs) ∙ struct s missed default_read P Q (absent models) lacks n closed at fs h.0 h.1 st ps qs x

    refs_agree : (j k m : ℕ) → k ≤ j → k ≤ m → (q : Target) (i : ItemEntry) → target_item table q ≡ Some i → Ends models k i.name → as_found (entered m i.name) ≡ led_to j q
    refs_agree zero zero m lj lm q i e d = absurd (never_at_once s models cs i.name i.shape (whole q i e).0.placed d)
    refs_agree zero (suc k) m lj lm q i e d = absurd (omega arith)
    refs_agree (suc j) k m lj lm q i e d =
        let w = whole q i e in
        at_item i.name i.shape w.0.placed k m lm d (led_to (suc j) q)
        (λ o p f l a. shape j (refs_agree j) o p (omega (arith, f, lj)) l i.name i.shape w.0.placed.at w.1 w.0.placed.rule w.0.filled a ∙ ap (item_read (shape_read missed r v ps (led_to j))) (sym e))

    in_all : (b : List ℕ → Bool) (e : Entry) → Each P Q e → as_found (by_type (reads.allowed models) (type_model s.name b e)) ≡ read_within table r missed v ps (allowed table) e
    in_all b e h = entry (allowed table) (refs_agree (allowed table)) (length models) (reads.allowed models) enough (omega arith) b e h (λ l a. all_end models none l)

    pub level : Says s missed default_read P Q (read_within table r missed v ps (allowed table)) (reader_within models cs r default_read v qs (reads.allowed models))
    level = record {
      one = λ b e h. in_all b e h;
      lone = λ b e h. of_map _ (by_type (reads.allowed models) (type_model s.name b e)) ∙ in_all b e h;
      several = λ b es h. tuples s missed default_read P Q b es h ps qs x;
      fields = λ owner n closed fs d h st. struct s missed default_read P Q (absent models) lacks owner closed n fs d h st ps qs x;
    }
