-- Where no item reaches itself at one value, spare items change nothing.
use Rattle.std.proofs.Common.{◌≡◌, ℕ, zero, suc, ◌+◌, ◌≤◌, List, [], ◌∷◌, ◌++◌, map, length, cond, Bool, true, false, ◌&&◌, ◌||◌, not, refl, sym, ap, ◌∙◌, subst, true≢false, bytes_eq, Option, Some, None, arith}
use Rattle.std.specs.List.{list_any, IsDistinct, AllByRecursion}
use Rattle.std.proofs.lemmas.Map.Keys.{IsDistinct-cons}
use Rattle.std.proofs.lemmas.Map.Made.{length-le_from_is_member}
use Rattle.std.proofs.lemmas.Cmp.{nat_list_eq_equiv}
use Rattle.std.proofs.lemmas.Slice.Eq.{bytes_eq-Decides}
use Rattle.json_value.specs.Value.{Value}
use Rattle.schema_defs.specs.Texts.{Relations}
use Rattle.model_defs.specs.Types.{TypeModel, option_type, boxed_type, item_type}
use Rattle.model_defs.specs.Model.{Style, struct_style, tuple_style, newtype_style, unit_style, FieldModel, VariantModel, external_tag, internal_tag, adjacent_tag, untagged, BodyModel, struct_model, enum_model, ContainerModel, ConversionsD, container_named, rule_of}
use Rattle.model_defs.specs.Layer.{Content, one_type, places, named_fields, Judge, Parts, is_null, type_takes, content_takes, struct_item_takes, body_takes, container_takes, given_rule_agrees, fields_content, variant_content}
use Rattle.model_defs.specs.Reads.{type_leads, body_leads, container_leads, leads_within, leads_to_option, item_reads, reads, parts_of, allowed}
use Rattle.model_defs.specs.Reach.{asked, asked_by_content, asked_by_variants, asked_by_body, asked_by, is_among, Asks, Reaches, at_once, further, NoneReachesItself, SpareItems, ItemsAreNeverSpent}
use Rattle.model_defs.proofs.Flat.{bytes_itself}
use Rattle.model_defs.proofs.Rows.{reads-level}

-- ---- two judges of items that agree where they are asked

abbrev pub AgreeOn : (List ℕ → Bool) → (List ℕ → Bool) → List (List ℕ) → Type 0
AgreeOn f g ns = (n : List ℕ) → is_among n ns ≡ true → f n ≡ g n

pub left_among : (n : List ℕ) (xs ys : List (List ℕ)) → is_among n xs ≡ true → is_among n (xs ++ ys) ≡ true
left_among n [] ys h = absurd (true≢false (sym h))
left_among n (x ∷ xs) ys h =
    elim (bytes_eq n x) as (λ b. (b || is_among n xs) ≡ true → (b || is_among n (xs ++ ys)) ≡ true) [ true ↦ λ e. refl | false ↦ λ e. left_among n xs ys e ] h

pub right_among : (n : List ℕ) (xs ys : List (List ℕ)) → is_among n ys ≡ true → is_among n (xs ++ ys) ≡ true
right_among n [] ys h = h
right_among n (x ∷ xs) ys h = elim (bytes_eq n x) as (λ b. (b || is_among n (xs ++ ys)) ≡ true) [ true ↦ refl | false ↦ right_among n xs ys h ]

pub lone_among : (n : List ℕ) → is_among n (n ∷ []) ≡ true
lone_among n = ap (λ b. b || false) (bytes_itself n)

-- ---- leading to an option

module _ (f g : List ℕ → Bool) where
  type_leads-agrees : (t : TypeModel) → AgreeOn f g (asked t) → type_leads f t ≡ type_leads g t
  type_leads-agrees (boxed_type t) h = type_leads-agrees t h
  type_leads-agrees (item_type n) h = h n (lone_among n)
  type_leads-agrees _ h = refl

  body_leads-agrees : (closed : Bool) (b : BodyModel) → AgreeOn f g (asked_by_body closed b) → body_leads f b ≡ body_leads g b
  body_leads-agrees closed (struct_model newtype_style (x ∷ [])) h = type_leads-agrees x.field_type h
  body_leads-agrees closed _ h = refl

  container_leads-agrees : (m : Option ContainerModel) → AgreeOn f g (asked_by m) → container_leads f m ≡ container_leads g m
  container_leads-agrees None h = refl
  container_leads-agrees (Some m) h = ap (λ z. m.transparent && z) (body_leads-agrees m.closed m.body h)

-- ---- reading

module _ (leads : TypeModel → Bool) (r : Relations) (cs : ConversionsD) (v : Value) (parts : Parts Judge) (f g : List ℕ → Bool) where
  type_takes-agrees : (t : TypeModel) → AgreeOn f g (asked t) → type_takes r v parts f t ≡ type_takes r v parts g t
  type_takes-agrees (option_type t) h = ap (λ z. is_null v || z) (type_takes-agrees t h)
  type_takes-agrees (boxed_type t) h = type_takes-agrees t h
  type_takes-agrees (item_type n) h = h n (lone_among n)
  type_takes-agrees _ h = refl

  pub content_takes-agrees : (c : Content) → AgreeOn f g (asked_by_content c) → content_takes leads parts (type_takes r v parts f) c ≡ content_takes leads parts (type_takes r v parts g) c
  content_takes-agrees (one_type t) h = type_takes-agrees t h
  content_takes-agrees (places ts) h = refl
  content_takes-agrees (named_fields closed fs) h = refl

  struct_takes-agrees : (closed : Bool) (s : Style) (fs : List FieldModel) → AgreeOn f g (asked_by_content (fields_content closed s fs))
      → struct_item_takes leads parts (type_takes r v parts f) closed s fs ≡ struct_item_takes leads parts (type_takes r v parts g) closed s fs
  struct_takes-agrees closed struct_style fs h = refl
  struct_takes-agrees closed newtype_style fs h = content_takes-agrees (fields_content closed newtype_style fs) h
  struct_takes-agrees closed tuple_style fs h = refl
  struct_takes-agrees closed unit_style fs h = refl

  variants_agree : (closed : Bool) (ws : List VariantModel) → AgreeOn f g (asked_by_variants closed ws)
      → list_any (λ w. content_takes leads parts (type_takes r v parts f) (variant_content closed w)) ws ≡ list_any (λ w. content_takes leads parts (type_takes r v parts g) (variant_content closed w)) ws
  variants_agree closed [] h = refl
  variants_agree closed (w ∷ ws) h =
      let one = content_takes-agrees (variant_content closed w) (λ n k. h n (left_among n (asked_by_content (variant_content closed w)) (asked_by_variants closed ws) k)) in
      let rec = variants_agree closed ws (λ n k. h n (right_among n (asked_by_content (variant_content closed w)) (asked_by_variants closed ws) k)) in
      λ i. one i || rec i

  body_takes-agrees : (closed : Bool) (b : BodyModel) → AgreeOn f g (asked_by_body closed b)
      → body_takes leads parts (type_takes r v parts f) closed b v ≡ body_takes leads parts (type_takes r v parts g) closed b v
  body_takes-agrees closed (struct_model s fs) h = struct_takes-agrees closed s fs h
  body_takes-agrees closed (enum_model untagged ws) h = variants_agree closed ws h
  body_takes-agrees closed (enum_model external_tag ws) h = refl
  body_takes-agrees closed (enum_model (internal_tag t) ws) h = refl
  body_takes-agrees closed (enum_model (adjacent_tag t c) ws) h = refl

  container_takes-agrees : (m : Option ContainerModel) → AgreeOn f g (asked_by m)
      → container_takes leads parts (type_takes r v parts f) r cs v m ≡ container_takes leads parts (type_takes r v parts g) r cs v m
  container_takes-agrees None h = refl
  container_takes-agrees (Some m) h = λ i. body_takes-agrees m.closed m.body h i && (not m.try_from || given_rule_agrees r v (rule_of m.name cs.constraints))

-- ---- where each walk from an item ends within k

module _ (models : List ContainerModel) where
  abbrev pub Ends : ℕ → List ℕ → Type 0
  Ends zero n = container_named n models ≡ None
  Ends (suc k) n = (l : List ℕ) → Asks models n l → Ends k l

  spare_leads : (k j : ℕ) → k ≤ j → (n : List ℕ) → Ends k n → leads_within models j n ≡ leads_within models k n
  spare_leads zero zero h n e = refl
  spare_leads zero (suc j) h n e = ap (container_leads (leads_within models j)) e
  spare_leads (suc k) zero h n e = absurd (omega arith)
  spare_leads (suc k) (suc j) h n e =
      container_leads-agrees (leads_within models j) (leads_within models k) (container_named n models) (λ l a. spare_leads k j (omega arith) l (e l a))

  module _ (cs : ConversionsD) (r : Relations) (v : Value) (parts : Parts Judge) where
    abbrev reads_at : ℕ → List ℕ → Bool
    reads_at k n = item_reads models cs r v parts k n

    pub spare_reads : (k j : ℕ) → k ≤ j → (n : List ℕ) → Ends k n → reads_at j n ≡ reads_at k n
    spare_reads zero zero h n e = refl
    spare_reads zero (suc j) h n e = ap (container_takes (leads_to_option models) parts (type_takes r v parts (reads_at j)) r cs v) e
    spare_reads (suc k) zero h n e = absurd (omega arith)
    spare_reads (suc k) (suc j) h n e =
        container_takes-agrees (leads_to_option models) r cs v parts (reads_at j) (reads_at k) (container_named n models) (λ l a. spare_reads k j (omega arith) l (e l a))

-- ---- as many names as the table has are enough

abbrev names : List ContainerModel → List (List ℕ)
names ms = map (λ m. m.name) ms

names_long : (ms : List ContainerModel) → length (names ms) ≡ length ms
names_long [] = refl
names_long (m ∷ ms) = ap suc (names_long ms)

found_among : (n : List ℕ) (ms : List ContainerModel) (m : ContainerModel) → container_named n ms ≡ Some m → is_among n (names ms) ≡ true
found_among n [] m e = cc
found_among n (x ∷ xs) m e =
    elim (bytes_eq n x.name) as (λ b. cond b (Some x) (container_named n xs) ≡ Some m → (b || is_among n (names xs)) ≡ true) [ true ↦ λ k. refl | false ↦ λ k. found_among n xs m k ] e

module _ (models : List ContainerModel) where
  one_further : (m n l : List ℕ) → Reaches models m n → Asks models n l → Reaches models m l
  one_further _ _ l (at_once m n a) b = further m n l a (at_once n l b)
  one_further _ _ l (further m k n a r) b = further m k l a (one_further k n l r b)

  module _ (none : NoneReachesItself models) where
    apart : (n : List ℕ) (ws : List (List ℕ)) → ((q : List ℕ) → is_among q ws ≡ true → Reaches models q n) → AllByRecursion (λ y. bytes_eq n y ≡ false) ws
    apart n [] h = tt
    apart n (w ∷ ws) h =
        let first : bytes_eq n w ≡ false = elim (bytes_eq n w) as (λ b. bytes_eq n w ≡ b → b ≡ false) [
          | true ↦ λ e. absurd (none n (subst (λ q. Reaches models q n) (sym ((bytes_eq-Decides n w).0 e)) (h w (left_among w (w ∷ []) ws (lone_among w)))))
          | false ↦ λ e. refl
        ] refl in
        (first, apart n ws (λ q k. h q (right_among q (w ∷ []) ws k)))

    record IsWalk (vs : List (List ℕ)) (n : List ℕ) : Type 0 where
      distinct : IsDistinct bytes_eq vs
      found : (q : List ℕ) → is_among q vs ≡ true → is_among q (names models) ≡ true
      reaching : (q : List ℕ) → is_among q vs ≡ true → Reaches models q n

    among_both : (P : List ℕ → Type 0) (n : List ℕ) (vs : List (List ℕ)) → P n → ((q : List ℕ) → is_among q vs ≡ true → P q) → (q : List ℕ) → is_among q (n ∷ vs) ≡ true → P q
    among_both P n vs p h q e = elim (bytes_eq q n) as (λ b. bytes_eq q n ≡ b → (b || is_among q vs) ≡ true → P q) [
      | true ↦ λ k a. subst P (sym ((bytes_eq-Decides q n).0 k)) p
      | false ↦ λ k a. h q a
    ] refl e

    -- the walk, with the item where it stands
    distinct_longer : (vs : List (List ℕ)) (n : List ℕ) → IsWalk vs n → IsDistinct bytes_eq (n ∷ vs)
    distinct_longer vs n w = IsDistinct-cons bytes_eq n vs (apart n vs w.reaching) w.distinct

    found_longer : (vs : List (List ℕ)) (n : List ℕ) → IsWalk vs n → (m : ContainerModel) → container_named n models ≡ Some m → (q : List ℕ) → is_among q (n ∷ vs) ≡ true → is_among q (names models) ≡ true
    found_longer vs n w m e = among_both (λ q. is_among q (names models) ≡ true) n vs (found_among n models m e) w.found

    at_the_end : (vs : List (List ℕ)) (n : List ℕ) → length vs ≡ length models → IsWalk vs n → container_named n models ≡ None
    at_the_end vs n long w = elim (container_named n models) as (λ o. container_named n models ≡ o → o ≡ None) [
      | None ↦ λ e. refl
      | Some m ↦ λ e.
          let most = length-le_from_is_member nat_list_eq_equiv (n ∷ vs) (names models) (distinct_longer vs n w) (found_longer vs n w m e) in
          let l = names_long models in
          absurd (omega arith)
    ] refl

    ends : (k : ℕ) (vs : List (List ℕ)) (n : List ℕ) → length vs + k ≡ length models → IsWalk vs n → Ends models k n
    ends zero vs n long w = at_the_end vs n (omega arith) w
    ends (suc k) vs n long w = λ l a. elim (container_named n models) as (λ o. container_named n models ≡ o → is_among l (asked_by o) ≡ true → Ends models k l) [
      | None ↦ λ e b. absurd (true≢false (sym b))
      | Some m ↦ λ e b. ends k (n ∷ vs) l (omega arith) (record {
        distinct = distinct_longer vs n w;
        found = found_longer vs n w m e;
        reaching = among_both (λ q. Reaches models q l) n vs (at_once n l a) (λ q h. one_further q n l (w.reaching q h) a);
      })
    ] refl a

    none_yet : (n : List ℕ) → IsWalk [] n
    unfolding IsDistinct
    none_yet n = record { distinct = tt; found = λ q h. absurd (true≢false (sym h)); reaching = λ q h. absurd (true≢false (sym h)) }

    pub all_end : (n : List ℕ) → Ends models (length models) n
    all_end n = ends (length models) [] n (omega arith) (none_yet n)

    pub spare_items : SpareItems models
    spare_items = record {
      leading = λ k n h. spare_leads models (length models) k h n (all_end n);
      reading = λ cs r v parts k n h. spare_reads models cs r v parts (length models) k h n (all_end n);
    }

    -- an item is read as its container says, where each type in it says what it says alone
    pub items_read : (cs : ConversionsD) (r : Relations) (n : List ℕ) (v : Value)
        → reads models cs r (item_type n) v ≡ container_takes (leads_to_option models) (parts_of models cs r v) (λ t. reads models cs r t v) r cs v (container_named n models)
    items_read cs r n v =
        reads-level models cs r v (one_type (item_type n))
        ∙ (λ i. container_takes (leads_to_option models) (parts_of models cs r v) (type_takes r v (parts_of models cs r v) (λ l. sym (spare_items.reading cs r v (parts_of models cs r v) (allowed models) l (omega arith)) i)) r cs v (container_named n models))
        ∙ (λ i. container_takes (leads_to_option models) (parts_of models cs r v) (λ t. sym (reads-level models cs r v (one_type t)) i) r cs v (container_named n models))

pub items_never_spent : ItemsAreNeverSpent
items_never_spent models none = spare_items models none
