-- One value: an entry takes it exactly where the containers read it, if that holds of its parts.
use Rattle.std.proofs.Common.{◌≡◌, ℕ, zero, suc, ◌≤◌, List, [], ◌∷◌, map, length, Bool, true, false, ◌&&◌, ◌||◌, cond, refl, sym, ap, ◌∙◌, subst, Option, Some, None, arith}
use Rattle.std.specs.Prelude.{◌==◌}
use Rattle.std.specs.List.{list_any, list_all, AllByRecursion}
use Rattle.json_value.specs.Value.{Value}
use Rattle.schema_defs.specs.Texts.{Relations}
use Rattle.model_defs.specs.Types.{TypeModel, boxed_type, item_type, types_of}
use Rattle.model_defs.specs.Model.{external_tag, internal_tag, adjacent_tag, untagged, ContainerModel, ConversionsD, container_named}
use Rattle.model_defs.specs.Layer as layer
use Rattle.model_defs.specs.Layer.{MemberPart, Parts, no_parts, list_parts, object_parts, one_type, named_fields, fields_content, variant_content, is_null, type_takes, content_takes, container_takes, given_rule_agrees}
use Rattle.model_defs.specs.Reads as reads
use Rattle.model_defs.specs.Reads.{leads_to_option, item_reads, reads_within}
use Rattle.model_defs.specs.Reach.{asked, asked_by_content, asked_by_variants, asked_by, NoneReachesItself}
use Rattle.model_defs.proofs.Flat.{and_true}
use Rattle.model_defs.proofs.Reach.{left_among, right_among, Ends, all_end, spare_items}
use Rattle.entry_defs.specs.Entry.{Target, Entry, option_entry, vec_entry, set_entry, map_entry, tuple_entry, array_entry, reference, item, Entries, Shape, struct_shape, enum_shape, newtype_shape, Fields, Variants, no_variants, variant_then, Contents, unit_contents, newtype_contents, tuple_contents, struct_contents, entries_of, fields_of, variants_of}
use Rattle.entry_defs.specs.Layer.{Judge, each_item, as_map, by_places, of_length, in_places, entry_takes, shape_takes, some_takes, same_takes}
use Rattle.entry_defs.specs.Table.{ItemEntry, Table, target_item, allowed}
use Rattle.entry_defs.specs.Takes.{item_takes, follows, takes_within}
use Rattle.emit_defs.specs.Setting.{Setting}
use Rattle.emit_defs.specs.Models.{unboxed, used, type_model, type_models, struct_models, contents_style, contents_models, variant_model, variant_models, after_contents, model_of_item}
use Rattle.entry_defs.specs.Members.{names_differ}
use Rattle.entry_defs.specs.Sound.{Each, EachEntry, EachInShape, EachField, EachVariant, EachInContents, Leads}
use Rattle.emit_defs.proofs.Found.{HasRule, IsPlaced}
use Rattle.emit_defs.proofs.Places.{models_listed, each_listed}
use Rattle.emit_defs.proofs.Pairs.{parts}
use Rattle.emit_defs.proofs.Both.{Agree, Both}
use Rattle.emit_defs.proofs.Struct.{struct_agrees, members_read}
use Rattle.emit_defs.proofs.Enum.{types_back, external_agrees, internal_agrees, adjacent_agrees}
use Rattle.emit_defs.proofs.Level.{named_item, AskEnds, inside, inside_too, never_at_once, used_asks}

module _ (s : Setting) (models : List ContainerModel) (cs : ConversionsD) (table : Table) (r : Relations) (none : NoneReachesItself models)
    (names : (q : Target) (i : ItemEntry) → target_item table q ≡ Some i → s.name q ≡ i.name)
    (whole : (q : Target) (i : ItemEntry) → target_item table q ≡ Some i → Each (IsPlaced s models cs) (Leads table) (item i.name i.shape))
    (enough : length models ≤ allowed table)
    (told : (b : List ℕ → Bool) (e : Entry) → Each (IsPlaced s models cs) (Leads table) e → leads_to_option models (type_model s.name b e) ≡ s.leads e) where
  abbrev P : List ℕ → Shape → Type 0
  P n h = IsPlaced s models cs n h

  abbrev Q : Target → Type 0
  Q q = Leads table q

  abbrev leads : TypeModel → Bool
  leads t = leads_to_option models t

  abbrev Pair : Type 0
  Pair = Both s P Q

  module _ (v : Value) (ps : Parts Pair) where
    abbrev pt : Parts Judge
    pt = parts (λ p. p.left) ps

    abbrev pr : Parts layer.Judge
    pr = parts (λ p. p.right) ps

    -- ---- what a type reads of the value

    abbrev rd : TypeModel → Bool
    rd t = type_takes r v pr (item_reads models cs r v pr (reads.allowed models)) t

    abbrev container : Option ContainerModel → Bool
    container m = container_takes leads pr rd r cs v m

    rd_item : (n : List ℕ) → rd (item_type n) ≡ container (container_named n models)
    rd_item n = λ i. container_takes leads pr (type_takes r v pr (λ l. sym ((spare_items models none).reading cs r v pr (reads.allowed models) l (omega arith)) i)) r cs v (container_named n models)

    rd_placed : (n : List ℕ) (h : Shape) (p : P n h) → rd (item_type n) ≡ container (Some (model_of_item s p.at (named_item n h)))
    rd_placed n h p = rd_item n ∙ ap container p.found

    rd_used : (b : List ℕ → Bool) (n : List ℕ) → rd (used b n) ≡ rd (item_type n)
    rd_used b n = elim (b n) as (λ x. rd (cond x (boxed_type (item_type n)) (item_type n)) ≡ rd (item_type n)) [ true ↦ refl | false ↦ refl ]

    -- ---- parts

    items_agree : (e : Entry) → Each P Q e → (b : List ℕ → Bool) (js : List Pair) → list_all (λ j. j e) (map (λ p. p.left) js) ≡ list_all (λ j. j (one_type (type_model s.name b e))) (map (λ p. p.right) js)
    items_agree e h b [] = refl
    items_agree e h b (j ∷ js) =
        let rec = items_agree e h b js in
        λ i. j.agree.one b e h i && rec i

    each_agrees : (e : Entry) → Each P Q e → (b : List ℕ → Bool) → (xs : Parts Pair) → each_item e (parts (λ p. p.left) xs) ≡ layer.each_item (one_type (type_model s.name b e)) (parts (λ p. p.right) xs)
    each_agrees e h b (list_parts js) = items_agree e h b js
    each_agrees e h b no_parts = refl
    each_agrees e h b (object_parts ms) = refl

    map_agrees : (k e : Entry) → Each P Q k → Each P Q e → (xs : Parts Pair) → as_map k e (parts (λ p. p.left) xs) ≡ layer.as_map (type_model s.name unboxed k) (type_model s.name unboxed e) (parts (λ p. p.right) xs)
    map_agrees k e hk he (object_parts ms) = members_read s [] leads P Q told k e hk he unboxed ms
    map_agrees k e hk he no_parts = refl
    map_agrees k e hk he (list_parts js) = refl

    in_places_agree : (b : List ℕ → Bool) (es : List Entry) → AllByRecursion (Each P Q) es → (js : List Pair)
        → in_places es (map (λ p. p.left) js) ≡ layer.in_places (map (type_model s.name b) es) (map (λ p. p.right) js)
    in_places_agree b [] h [] = refl
    in_places_agree b [] h (j ∷ js) = refl
    in_places_agree b (e ∷ es) h [] = refl
    in_places_agree b (e ∷ es) h (j ∷ js) =
        let rec = in_places_agree b es h.1 js in
        λ i. j.agree.one b e h.0 i && rec i

    places_agree : (b : List ℕ → Bool) (es : Entries) → EachEntry P Q es → (xs : Parts Pair)
        → by_places (entries_of es) (parts (λ p. p.left) xs) ≡ layer.by_places (types_of (type_models s.name b es)) (parts (λ p. p.right) xs)
    places_agree b es h (list_parts js) =
        in_places_agree b (entries_of es) (each_listed P Q es h) js ∙ ap (λ ts. layer.in_places ts (map (λ p. p.right) js)) (sym (models_listed s.name b es))
    places_agree b es h no_parts = refl
    places_agree b es h (object_parts ms) = refl

    as_many : (js : List Pair) → length (map (λ p. p.left) js) ≡ length (map (λ p. p.right) js)
    as_many [] = refl
    as_many (j ∷ js) = ap suc (as_many js)

    length_agrees : (n : ℕ) (xs : Parts Pair) → of_length n (parts (λ p. p.left) xs) ≡ layer.of_length n (parts (λ p. p.right) xs)
    length_agrees n (list_parts js) = ap (λ m. m == n) (as_many js)
    length_agrees n no_parts = refl
    length_agrees n (object_parts ms) = refl

    fields_agree : (owner : List ℕ) (n : ℕ) (closed : Bool) (fs : Fields) → names_differ (fields_of fs) ≡ true → EachField P Q fs
        → shape_takes r v pt (λ q. false) (struct_shape closed fs) ≡ layer.struct_takes leads closed (struct_models s owner n fs) pr
    fields_agree owner n closed fs d h = struct_agrees s owner leads P Q told closed n fs d h ps

    -- ---- entries, where references that end so soon agree

    module _ (k j : ℕ) (refs : (q : Target) (i : ItemEntry) → target_item table q ≡ Some i → Ends models k i.name → follows table r v pt j q ≡ rd (item_type i.name)) where
      abbrev at : Target → Bool
      at q = follows table r v pt j q

      mutual
        entry_agrees : (b : List ℕ → Bool) (e : Entry) → Each P Q e → AskEnds s models cs k (asked (type_model s.name b e)) → entry_takes r v pt at e ≡ rd (type_model s.name b e)
        entry_agrees b (option_entry e) h x = ap (λ z. is_null v || z) (entry_agrees b e h x)
        entry_agrees b (vec_entry e) h x = each_agrees e h unboxed ps
        entry_agrees b (set_entry e) h x = each_agrees e h unboxed ps
        entry_agrees b (map_entry k e) h x = map_agrees k e h.0 h.1 ps
        entry_agrees b (tuple_entry es) h x = places_agree b es h ps
        entry_agrees b (array_entry e n) h x = λ i. length_agrees n ps i && each_agrees e h b ps i
        entry_agrees b (reference q) h x =
            let n = names q h.0 h.1 in
            refs q h.0 h.1 (subst (Ends models k) n (x (s.name q) (used_asks b (s.name q)))) ∙ ap (λ l. rd (item_type l)) (sym n) ∙ sym (rd_used b (s.name q))
        entry_agrees b (item n c) h x =
            let p = h.0 in
            shape_agrees n c p.at h.1 p.rule (inside_too s models cs k n c p (x n (used_asks b n))) ∙ sym (rd_placed n c p) ∙ sym (rd_used b n)
        entry_agrees b _ h x = refl

        shape_agrees : (n : List ℕ) (c : Shape) (m : ℕ) → EachInShape P Q c → HasRule cs n c → AskEnds s models cs k (asked_by (Some (model_of_item s m (named_item n c))))
            → shape_takes r v pt at c ≡ container (Some (model_of_item s m (named_item n c)))
        shape_agrees n (struct_shape closed fs) m h u x = struct_agrees s n leads P Q told closed m fs h.0 h.1 ps ∙ sym (and_true _)
        shape_agrees n (enum_shape closed external_tag ws) m h u x = external_agrees s n leads P Q told closed m ws h v ps ∙ sym (and_true _)
        shape_agrees n (enum_shape closed (internal_tag tag) ws) m h u x = internal_agrees s n leads P Q told closed tag m ws h v ps ∙ sym (and_true _)
        shape_agrees n (enum_shape closed (adjacent_tag tag content) ws) m h u x = adjacent_agrees s n leads P Q told closed tag content m ws h v ps ∙ sym (and_true _)
        shape_agrees n (enum_shape closed untagged ws) m h u x = some_agrees n closed ws m h x ∙ sym (and_true _)
        shape_agrees n (newtype_shape e None) m h u x = ap (λ z. z && true) (entry_agrees (s.is_boxed n) e h x)
        shape_agrees n (newtype_shape e (Some rule)) m h u x =
            let one = entry_agrees (s.is_boxed n) e h x in
            λ i. one i && given_rule_agrees r v (sym u i)

        some_agrees : (n : List ℕ) (closed : Bool) (ws : Variants) (m : ℕ) → EachVariant P Q ws → AskEnds s models cs k (asked_by_variants closed (variant_models s n m (variants_of ws)))
            → some_takes r v pt at closed ws ≡ list_any (λ w. content_takes leads pr rd (variant_content closed w)) (variant_models s n m (variants_of ws))
        some_agrees n closed no_variants m h x = refl
        some_agrees n closed (variant_then i l c ws) m h x =
            let w = variant_model s n m (record { identifier = i; name = l; contents = c }) in
            let ask = asked_by_content (variant_content closed w) in
            let asks = asked_by_variants closed (variant_models s n (after_contents c m) (variants_of ws)) in
            let one = same_agrees n closed c m h.0 (λ y a. x y (left_among y ask asks a)) in
            let rec = some_agrees n closed ws (after_contents c m) h.1 (λ y a. x y (right_among y ask asks a)) in
            λ i. one i || rec i

        same_agrees : (n : List ℕ) (closed : Bool) (c : Contents) (m : ℕ) → EachInContents P Q c → AskEnds s models cs k (asked_by_content (fields_content closed (contents_style s n c) (contents_models s n m c)))
            → same_takes r v pt at closed c ≡ content_takes leads pr rd (fields_content closed (contents_style s n c) (contents_models s n m c))
        same_agrees n closed unit_contents m h x = refl
        same_agrees n closed (newtype_contents e) m h x = entry_agrees (s.is_boxed n) e h x
        same_agrees n closed (tuple_contents es) m h x =
            places_agree (s.is_boxed n) es h ps ∙ ap (λ ts. layer.by_places ts pr) (sym (types_back 0 (types_of (type_models s.name (s.is_boxed n) es))))
        same_agrees n closed (struct_contents fs) m h x = fields_agree n m closed fs h.0 h.1

    refs_agree : (k j : ℕ) → k ≤ j → (q : Target) (i : ItemEntry) → target_item table q ≡ Some i → Ends models k i.name → follows table r v pt j q ≡ rd (item_type i.name)
    refs_agree zero j l q i e x = absurd (never_at_once s models cs i.name i.shape (whole q i e).0 x)
    refs_agree (suc k) zero l q i e x = absurd (omega arith)
    refs_agree (suc k) (suc j) l q i e x =
        let w = whole q i e in
        let p = w.0 in
        ap (item_takes (shape_takes r v pt (follows table r v pt j))) e
        ∙ shape_agrees k j (refs_agree k j (omega arith)) i.name i.shape p.at w.1 p.rule (inside s models cs k i.name i.shape p x)
        ∙ sym (rd_placed i.name i.shape p)

    pub level : Agree s P Q (takes_within table r v pt (allowed table)) (reads_within models cs r v pr (reads.allowed models))
    level = record {
      one = λ b e h. entry_agrees (length models) (allowed table) (refs_agree (length models) (allowed table) enough) b e h (λ l a. all_end models none l);
      several = λ b es h. places_agree b es h ps;
      fields = λ owner n closed fs d h. fields_agree owner n closed fs d h;
    }
