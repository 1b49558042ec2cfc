-- Settled values, type by type and item by item.
use Rattle.std.proofs.Common.{◌≡◌, ℕ, zero, suc, ◌≤◌, List, [], ◌∷◌, map, length, Bool, true, if◌then◌else◌, refl, sym, ap, ◌∙◌, Option, Some, None, arith}
use Rattle.json_value.specs.Value as value
use Rattle.json_value.specs.Value.{Value, Items, Members, null, number, fraction, text, list, object, item, no_items, member, no_members, items, values, entries}
use Rattle.schema_defs.specs.declared.Format.{Format}
use Rattle.schema_defs.specs.Texts.{Relations}
use Rattle.schema_defs.specs.Integers.{Range}
use Rattle.model_defs.specs.Types.{TypeModel, types_of, boolean_type, integer_type, text_type, native_type, any_type, unit_type, option_type, boxed_type, item_type}
use Rattle.model_defs.specs.Model.{VariantModel, external_tag, internal_tag, adjacent_tag, untagged, BodyModel, struct_model, enum_model, ContainerModel, ConversionsD, container_named}
use Rattle.model_defs.specs.Layer.{Content, one_type, places, named_fields, Parts, list_parts, object_parts, is_null, fields_content, variant_content}
use Rattle.model_defs.specs.Reads as reads
use Rattle.model_defs.specs.Reads.{allowed, item_reads, value_reads, still_reads, leads_to_option}
use Rattle.model_defs.specs.Settled.{Part, put_all, firsts_after, text_of, each_written, places_written, entries_written, struct_written, type_writes, content_writes, untagged_writes, body_writes, container_writes, item_writes, writes_within, value_writes, item_writers, member_writers}
use Rattle.model_defs.specs.Reach.{asked, asked_by_content, asked_by_variants, asked_by_body, asked_by, is_among, NoneReachesItself}
use Rattle.model_defs.specs.SettledRows.{in_places, written, part_of, member_part_of, parts_of, TypesAreWritten, ContentsAreWritten, ItemsAreWritten, RowsOfWriting}
use Rattle.model_defs.proofs.Reach.{left_among, right_among, lone_among, content_takes-agrees, Ends, spare_reads, all_end}
use Rattle.model_defs.proofs.Rows.{reads-level}

-- ---- the parts

module _ (models : List ContainerModel) (cs : ConversionsD) (r : Relations) (d : ℕ → TypeModel → Value) where
  item_writers-map : (xs : Items) → item_writers models cs r d xs ≡ map (part_of models cs r d) (values xs)
  item_writers-map no_items = refl
  item_writers-map (item v vs) = ap (λ ps. part_of models cs r d v ∷ ps) (item_writers-map vs)

  member_writers-map : (ms : Members) → member_writers models cs r d ms ≡ map (member_part_of models cs r d) (entries ms)
  member_writers-map no_members = refl
  member_writers-map (member k v ms) = ap (λ ps. member_part_of models cs r d (k, v) ∷ ps) (member_writers-map ms)

  -- the value of each kind, with its parts
  level : (v : Value) (c : Content) → value_writes models cs r d v c ≡ writes_within models cs r d v (parts_of models cs r d v) (allowed models) c
  level null c = refl
  level (value.boolean b) c = refl
  level (number z) c = refl
  level fraction c = refl
  level (text s) c = refl
  level (list xs) c = ap (λ ps. writes_within models cs r d (list xs) (list_parts ps) (allowed models) c) (item_writers-map xs)
  level (object ms) c = ap (λ ps. writes_within models cs r d (object ms) (object_parts ps) (allowed models) c) (member_writers-map ms)

  each_item : (t : TypeModel) (xs : Items) → each_written (one_type t) (list_parts (item_writers models cs r d xs)) ≡ map (written models cs r d t) (values xs)
  each_item t no_items = refl
  each_item t (item v vs) = ap (λ z. written models cs r d t v ∷ z) (each_item t vs)

  each_place : (ts : List TypeModel) (xs : Items) → places_written ts (item_writers models cs r d xs) ≡ in_places (written models cs r d) ts (values xs)
  each_place [] no_items = refl
  each_place [] (item v vs) = refl
  each_place (t ∷ ts) no_items = refl
  each_place (t ∷ ts) (item v vs) = ap (λ z. written models cs r d t v ∷ z) (each_place ts vs)

  each_entry : (k t : TypeModel) (ms : Members)
      → entries_written k t (member_writers models cs r d ms) ≡ map (λ e. (text_of e.0 (written models cs r d k (text e.0)), written models cs r d t e.1)) (entries ms)
  each_entry k t no_members = refl
  each_entry k t (member n v ms) = ap (λ z. (text_of n (written models cs r d k (text n)), written models cs r d t v) ∷ z) (each_entry k t ms)

  boolean_row : (v : Value) → written models cs r d boolean_type v ≡ v
  boolean_row null = refl
  boolean_row (value.boolean b) = refl
  boolean_row (number z) = refl
  boolean_row fraction = refl
  boolean_row (text s) = refl
  boolean_row (list xs) = refl
  boolean_row (object ms) = refl

  integer_row : (g : Range) (v : Value) → written models cs r d (integer_type g) v ≡ v
  integer_row g null = refl
  integer_row g (value.boolean b) = refl
  integer_row g (number z) = refl
  integer_row g fraction = refl
  integer_row g (text s) = refl
  integer_row g (list xs) = refl
  integer_row g (object ms) = refl

  text_row : (v : Value) → written models cs r d text_type v ≡ v
  text_row null = refl
  text_row (value.boolean b) = refl
  text_row (number z) = refl
  text_row fraction = refl
  text_row (text s) = refl
  text_row (list xs) = refl
  text_row (object ms) = refl

  native_row : (f : Format) (v : Value) → written models cs r d (native_type f) v ≡ v
  native_row f null = refl
  native_row f (value.boolean b) = refl
  native_row f (number z) = refl
  native_row f fraction = refl
  native_row f (text s) = refl
  native_row f (list xs) = refl
  native_row f (object ms) = refl

  any_row : (v : Value) → written models cs r d any_type v ≡ v
  any_row null = refl
  any_row (value.boolean b) = refl
  any_row (number z) = refl
  any_row fraction = refl
  any_row (text s) = refl
  any_row (list xs) = refl
  any_row (object ms) = refl

  unit_row : (v : Value) → written models cs r d unit_type v ≡ v
  unit_row null = refl
  unit_row (value.boolean b) = refl
  unit_row (number z) = refl
  unit_row fraction = refl
  unit_row (text s) = refl
  unit_row (list xs) = refl
  unit_row (object ms) = refl

  option_row : (t : TypeModel) (v : Value) → written models cs r d (option_type t) v ≡ (if is_null v then null else written models cs r d t v)
  option_row t null = refl
  option_row t (value.boolean b) = refl
  option_row t (number z) = refl
  option_row t fraction = refl
  option_row t (text s) = refl
  option_row t (list xs) = refl
  option_row t (object ms) = refl

  boxed_row : (t : TypeModel) (v : Value) → written models cs r d (boxed_type t) v ≡ written models cs r d t v
  boxed_row t null = refl
  boxed_row t (value.boolean b) = refl
  boxed_row t (number z) = refl
  boxed_row t fraction = refl
  boxed_row t (text s) = refl
  boxed_row t (list xs) = refl
  boxed_row t (object ms) = refl

  types_written : TypesAreWritten models cs r d
  types_written = record {
    boolean = boolean_row;
    integer = integer_row;
    a_text = text_row;
    native = native_row;
    any = any_row;
    unit = unit_row;
    option = option_row;
    boxed = boxed_row;
    vec = λ t xs. ap (λ z. list (items z)) (each_item t xs);
    set = λ t xs. ap (λ z. list (items (firsts_after [] z))) (each_item t xs);
    map_of = λ k t ms. ap (λ z. object (put_all z no_members)) (each_entry k t ms);
    tuple = λ ts xs. ap (λ z. list (items z)) (each_place (types_of ts) xs);
    array = λ t n xs. ap (λ z. list (items z)) (each_item t xs);
  }

  contents_written : ContentsAreWritten models cs r d
  contents_written = record {
    unnamed = λ ts xs. ap (λ z. list (items z)) (each_place ts xs);
    named = λ closed fs ms. ap (λ z. object (struct_written (leads_to_option models) d fs z)) (member_writers-map ms);
  }

-- ---- two writers of items that agree where they are asked, and two readers of contents that agree where those are

module _ (P : List ℕ → Type 0) where
  abbrev AllOf : List (List ℕ) → Type 0
  AllOf ns = (n : List ℕ) → is_among n ns ≡ true → P n

  module _ (leads : TypeModel → Bool) (d : ℕ → TypeModel → Value) (a b : Content → Bool) (v : Value) (parts : Parts Part) (f g : List ℕ → Value)
      (agree : (n : List ℕ) → P n → f n ≡ g n) (same : (c : Content) → AllOf (asked_by_content c) → a c ≡ b c) where
    type_agrees : (t : TypeModel) → AllOf (asked t) → type_writes v parts f t ≡ type_writes v parts g t
    type_agrees (option_type t) h = ap (λ z. if is_null v then null else z) (type_agrees t h)
    type_agrees (boxed_type t) h = type_agrees t h
    type_agrees (item_type n) h = agree n (h n (lone_among n))
    type_agrees _ h = refl

    content_agrees : (c : Content) → AllOf (asked_by_content c) → content_writes leads d a v parts (type_writes v parts f) c ≡ content_writes leads d b v parts (type_writes v parts g) c
    content_agrees (one_type t) h = type_agrees t h
    content_agrees (places ts) h = refl
    content_agrees (named_fields closed fs) h = refl

    variants_agree : (closed : Bool) (ws : List VariantModel) → AllOf (asked_by_variants closed ws)
        → untagged_writes leads d a v parts (type_writes v parts f) closed ws ≡ untagged_writes leads d b v parts (type_writes v parts g) closed ws
    variants_agree closed [] h = refl
    variants_agree closed (w ∷ ws) h =
        let left = λ (n : List ℕ) (k : is_among n (asked_by_content (variant_content closed w)) ≡ true). h n (left_among n (asked_by_content (variant_content closed w)) (asked_by_variants closed ws) k) in
        let one = content_agrees (variant_content closed w) left in
        let rec = variants_agree closed ws (λ n k. h n (right_among n (asked_by_content (variant_content closed w)) (asked_by_variants closed ws) k)) in
        let first = same (variant_content closed w) left in
        λ i. if first i then one i else rec i

    body_agrees : (closed : Bool) (m : BodyModel) → AllOf (asked_by_body closed m)
        → body_writes leads d a v parts (type_writes v parts f) closed m ≡ body_writes leads d b v parts (type_writes v parts g) closed m
    body_agrees closed (struct_model s fs) h = content_agrees (fields_content closed s fs) h
    body_agrees closed (enum_model untagged ws) h = variants_agree closed ws h
    body_agrees closed (enum_model external_tag ws) h = refl
    body_agrees closed (enum_model (internal_tag t) ws) h = refl
    body_agrees closed (enum_model (adjacent_tag t c) ws) h = refl

    container_agrees : (m : Option ContainerModel) → AllOf (asked_by m)
        → container_writes leads d a v parts (type_writes v parts f) m ≡ container_writes leads d b v parts (type_writes v parts g) m
    container_agrees None h = refl
    container_agrees (Some m) h = body_agrees m.closed m.body h

-- ---- spare items

module _ (models : List ContainerModel) (cs : ConversionsD) (r : Relations) (d : ℕ → TypeModel → Value) where
  module _ (v : Value) (parts : Parts Part) where
    abbrev writes_at : ℕ → List ℕ → Value
    writes_at k n = item_writes models cs r d v parts k n

    abbrev reads_at : ℕ → Content → Bool
    reads_at k c = still_reads models cs r v k c

    spare_contents : (k j : ℕ) → k ≤ j → (c : Content) → AllOf (Ends models k) (asked_by_content c) → reads_at j c ≡ reads_at k c
    spare_contents k j h c e =
        let parts' = reads.parts_of models cs r v in
        content_takes-agrees (leads_to_option models) r cs v parts' (item_reads models cs r v parts' j) (item_reads models cs r v parts' k) c (λ l a. spare_reads models cs r v parts' k j h l (e l a))

    spare_writes : (k j : ℕ) → k ≤ j → (n : List ℕ) → Ends models k n → writes_at j n ≡ writes_at k n
    spare_writes zero zero h n e = refl
    spare_writes zero (suc j) h n e = ap (container_writes (leads_to_option models) d (reads_at j) v parts (type_writes v parts (writes_at j))) e
    spare_writes (suc k) zero h n e = absurd (omega arith)
    spare_writes (suc k) (suc j) h n e =
        container_agrees (Ends models k) (leads_to_option models) d (reads_at j) (reads_at k) v parts (writes_at j) (writes_at k) (spare_writes k j (omega arith)) (spare_contents k j (omega arith)) (container_named n models) e

  items_written : NoneReachesItself models → ItemsAreWritten models cs r d
  items_written none n v =
      let parts = parts_of models cs r d v in
      let most : length models ≤ allowed models = omega arith in
      let same : (c : Content) → still_reads models cs r v (length models) c ≡ value_reads models cs r v c
      = λ c. sym (spare_contents v parts (length models) (allowed models) most c (λ l a. all_end models none l)) ∙ sym (reads-level models cs r v c) in
      level models cs r d v (one_type (item_type n))
      ∙ (λ i. container_writes (leads_to_option models) d (λ c. same c i) v parts (type_writes v parts (λ l. sym (spare_writes v parts (length models) (allowed models) most l (all_end models none l)) i)) (container_named n models))
      ∙ (λ i. container_writes (leads_to_option models) d (value_reads models cs r v) v parts (λ t. sym (level models cs r d v (one_type t)) i) (container_named n models))

pub rows_of_writing : RowsOfWriting
rows_of_writing models cs r d = (types_written models cs r d, contents_written models cs r d, items_written models cs r d)
