-- What enums come to.
use Rattle.std.proofs.Common.{◌≡◌, ℕ, List, [], ◌∷◌, Option, Some, None, option_map, Bool, true, false, ◌&&◌, ◌||◌, not, cond, bytes_eq, refl, sym, ap, ◌∙◌}
use Rattle.json_value.specs.Value as value
use Rattle.json_value.specs.Value.{Value, null, number, fraction, text, list, object, Items, Members, no_members, member, member_at}
use Rattle.schema_defs.specs.Texts.{Relations}
use Rattle.model_defs.specs.Model.{TagModel, external_tag, internal_tag, adjacent_tag, untagged}
use Rattle.model_defs.specs.Layer.{MemberPart, object_parts, named, without, is_none}
use Rattle.entry_defs.specs.Entry as entry
use Rattle.entry_defs.specs.Entry.{VariantEntry, Contents, unit_contents, newtype_contents, tuple_contents, struct_contents, no_rest, no_fields, fields_of, rest_of, enum_shape, variants_of}
use Rattle.entry_defs.specs.Layer.{contents_entry, is_unit_named, tagged_variant, variant_named, variant_of_text}
use Rattle.naming_defs.specs.Names.{name_by}
use Rattle.tree_types.specs.View.{label_view}
use Rattle.default_defs.specs.Found.{Found, refused, ended, if_so, told, both, or_next}
use Rattle.default_defs.specs.Layer.{Reader, adjacent_read, beside_content, beside_tag, contents_read, external_read, first_read, internal_read, same_read}
use Rattle.default_defs.specs.Supplied.{follows, parts_of}
use Rattle.default_reading.specs.Seen.{Variant, content, contents_in, variants_in, case_named, case_of_text, tagged_case, is_unit_case}
use Rattle.default_reading.specs.Steps.{Setting, missed, comes, comes_in, as_object, as_text, Differ, is_other, has_beyond, has_others, others_come, struct_comes, named_comes, beside_comes, given_content, adjacent_comes, first_comes, by_case, only_comes, internal_comes, adjacent_by}
use Rattle.default_reading.proofs.Joined.{closed_same}
use Rattle.default_reading.proofs.Structs.{readers, part, struct_same}

-- ---- variants by their names

abbrev entry_of : TagModel → Variant → VariantEntry
entry_of g w = record { identifier = label_view w.0.label; name = name_by g (label_view w.0.label) w.0.label.wanted.now; contents = content w }

abbrev listed : TagModel → List Variant → List VariantEntry
listed g ws = variants_of (variants_in g ws)

module _ (g : TagModel) (wanted : (i n : List ℕ) → name_by g i n ≡ n) where
  by_name : (b : Bool) (w : Variant) (o : Option VariantEntry) (p : Option Variant) → o ≡ option_map (entry_of g) p → cond b (Some (entry_of g w)) o ≡ option_map (entry_of g) (cond b (Some w) p)
  by_name true w o p h = refl
  by_name false w o p h = h

  named_case : (n : List ℕ) (ws : List Variant) → variant_named n (listed g ws) ≡ option_map (entry_of g) (case_named n ws)
  named_case n [] = refl
  named_case n (w ∷ ws) =
      ap (λ z. cond (bytes_eq n z) (Some (entry_of g w)) (variant_named n (listed g ws))) (wanted (label_view w.0.label) w.0.label.wanted.now)
      ∙ by_name (bytes_eq n w.0.label.wanted.now) w (variant_named n (listed g ws)) (case_named n ws) (named_case n ws)

  of_text : (ws : List Variant) (o : Option Value) → variant_of_text (listed g ws) o ≡ option_map (entry_of g) (case_of_text ws o)
  of_text ws None = refl
  of_text ws (Some null) = refl
  of_text ws (Some (value.boolean b)) = refl
  of_text ws (Some (number z)) = refl
  of_text ws (Some fraction) = refl
  of_text ws (Some (text t)) = named_case t ws
  of_text ws (Some (list xs)) = refl
  of_text ws (Some (object ms)) = refl

  tagged_same : (tag : List ℕ) (ws : List Variant) (ms : Members) → tagged_variant tag (listed g ws) (object ms) ≡ option_map (entry_of g) (tagged_case tag ws ms)
  tagged_same tag ws ms = of_text ws (member_at tag ms)

module _ (s : Setting) (r : Relations) where
  -- ---- external tags

  unit_same : (o : Option Variant) → is_unit_named (option_map (entry_of external_tag) o) ≡ is_unit_case o
  unit_same None = refl
  unit_same (Some w) = refl

  contents_same : (closed : Bool) (v : Value) (o : Option Variant) → contents_read (missed s r) closed (part s r [] v).value (option_map (entry_of external_tag) o) ≡ named_comes s r closed (option_map content o) v
  unfolding comes
  contents_same closed v None = refl
  contents_same closed v (Some w) = refl

  external_same : (closed : Bool) (ws : List Variant) (ms : Members) → external_read (missed s r) closed (listed external_tag ws) (object ms) (object_parts (readers s r ms)) ≡ only_comes s r closed ws ms
  external_same closed ws no_members = refl
  external_same closed ws (member n v no_members) =
      ap (contents_read (missed s r) closed (part s r n v).value) (named_case external_tag (λ i n. refl) n ws) ∙ contents_same closed v (case_named n ws)
  external_same closed ws (member n v (member k w ms)) = refl

  pub external_text : (v : Value) (n : List ℕ) (ws : List Variant) (b : Bool) (x : Found) → Some n ≡ as_text v → b ≡ is_unit_case (case_named n ws) → x ≡ told b → (closed : Bool) (m : ℕ) (i : List ℕ) → comes_in s r m (entry.item i (enum_shape closed external_tag (variants_in external_tag ws))) v ≡ x
  unfolding comes_in
  external_text null n ws b x h k e closed m i = absurd (cc)
  external_text (value.boolean c) n ws b x h k e closed m i = absurd (cc)
  external_text (number z) n ws b x h k e closed m i = absurd (cc)
  external_text fraction n ws b x h k e closed m i = absurd (cc)
  external_text (text t) n ws b x h k e closed m i =
      let same : t ≡ n = cc in
      ap (λ u. told (is_unit_named (variant_named u (listed external_tag ws)))) same
      ∙ ap (λ o. told (is_unit_named o)) (named_case external_tag (λ i n. refl) n ws) ∙ ap told (unit_same (case_named n ws)) ∙ ap told (sym k) ∙ sym e
  external_text (list xs) n ws b x h k e closed m i = absurd (cc)
  external_text (object ms) n ws b x h k e closed m i = absurd (cc)

  pub external_object : (v : Value) (ms : Members) (ws : List Variant) (b : Found) (closed : Bool) → Some ms ≡ as_object v → only_comes s r closed ws ms ≡ b → (m : ℕ) (i : List ℕ) → comes_in s r m (entry.item i (enum_shape closed external_tag (variants_in external_tag ws))) v ≡ b
  unfolding comes_in
  external_object null ms ws b closed h k m i = absurd (cc)
  external_object (value.boolean c) ms ws b closed h k m i = absurd (cc)
  external_object (number z) ms ws b closed h k m i = absurd (cc)
  external_object fraction ms ws b closed h k m i = absurd (cc)
  external_object (text t) ms ws b closed h k m i = absurd (cc)
  external_object (list xs) ms ws b closed h k m i = absurd (cc)
  external_object (object ns) ms ws b closed h k m i = let same : ns ≡ ms = cc in external_same closed ws ns ∙ ap (only_comes s r closed ws) same ∙ k

  pub external_refused : (v : Value) (ws : List Variant) (closed : Bool) → None ≡ as_text v → None ≡ as_object v → (m : ℕ) (i : List ℕ) → comes_in s r m (entry.item i (enum_shape closed external_tag (variants_in external_tag ws))) v ≡ refused
  unfolding comes_in
  external_refused null ws closed h k m i = refl
  external_refused (value.boolean c) ws closed h k m i = refl
  external_refused (number z) ws closed h k m i = refl
  external_refused fraction ws closed h k m i = refl
  external_refused (text t) ws closed h k m i = absurd (cc)
  external_refused (list xs) ws closed h k m i = refl
  external_refused (object ms) ws closed h k m i = absurd (cc)

  -- ---- internal tags

  twice : (b c : Bool) → ((not b && true) || c) ≡ ((not b && not b) || c)
  twice true c = refl
  twice false c = refl

  -- what no field names are the members with another name than the tag
  beyond_tag : (tag : List ℕ) (ms : Members) → has_others (Some tag) [] ms ≡ has_beyond tag tag ms
  beyond_tag tag no_members = refl
  beyond_tag tag (member k v ms) = twice (bytes_eq tag k) (has_others (Some tag) [] ms) ∙ ap (λ c. (not (bytes_eq tag k) && not (bytes_eq tag k)) || c) (beyond_tag tag ms)

  one_nothing : (b : Bool) (x : Found) → x ≡ ended → both (cond b ended ended) x ≡ ended
  one_nothing true x h = h
  one_nothing false x h = h

  nothing_kept : (tag : List ℕ) (ms : Members) → others_come s r (Some tag) [] no_rest ms ≡ ended
  nothing_kept tag no_members = refl
  nothing_kept tag (member k v ms) = one_nothing (is_other (Some tag) [] k) (others_come s r (Some tag) [] no_rest ms) (nothing_kept tag ms)

  nothing_beside : (closed : Bool) (tag : List ℕ) (ms : Members) → struct_comes s r (Some tag) closed no_fields ms ≡ if_so (not (closed && has_beyond tag tag ms)) ended
  nothing_beside closed tag ms = λ i. if_so (not (closed && beyond_tag tag ms i)) (nothing_kept tag ms i)

  beside_same : (closed : Bool) (tag : List ℕ) (ms : Members) (c : Contents) → Differ ms → beside_tag (missed s r) closed (without tag (readers s r ms)) c ≡ beside_comes s r closed tag ms c
  beside_same closed tag ms unit_contents d = struct_same s r (Some tag) closed no_fields ms d ∙ nothing_beside closed tag ms
  beside_same closed tag ms (newtype_contents e) d = refl
  beside_same closed tag ms (tuple_contents es) d = refl
  beside_same closed tag ms (struct_contents fs) d = struct_same s r (Some tag) closed fs ms d

  internal_case : (closed : Bool) (tag : List ℕ) (ms : Members) (o : Option Variant) → Differ ms → internal_read (missed s r) closed tag (readers s r ms) (option_map (entry_of (internal_tag tag)) o) ≡ by_case s r (beside_comes s r closed tag ms) o
  internal_case closed tag ms None d = refl
  internal_case closed tag ms (Some w) d = beside_same closed tag ms (content w) d

  pub internal_object : (v : Value) (ms : Members) (tag : List ℕ) (ws : List Variant) (b : Found) (closed : Bool) → Some ms ≡ as_object v → Differ ms → internal_comes s r closed tag ws ms ≡ b
      → (m : ℕ) (i : List ℕ) → comes_in s r m (entry.item i (enum_shape closed (internal_tag tag) (variants_in (internal_tag tag) ws))) v ≡ b
  unfolding comes_in
  internal_object null ms tag ws b closed h d k m i = absurd (cc)
  internal_object (value.boolean c) ms tag ws b closed h d k m i = absurd (cc)
  internal_object (number z) ms tag ws b closed h d k m i = absurd (cc)
  internal_object fraction ms tag ws b closed h d k m i = absurd (cc)
  internal_object (text t) ms tag ws b closed h d k m i = absurd (cc)
  internal_object (list xs) ms tag ws b closed h d k m i = absurd (cc)
  internal_object (object ns) ms tag ws b closed h d k m i =
      let same : ns ≡ ms = cc in
      ap (λ us. internal_read (missed s r) closed tag (readers s r us) (tagged_variant tag (listed (internal_tag tag) ws) (object us))) same
      ∙ ap (internal_read (missed s r) closed tag (readers s r ms)) (tagged_same (internal_tag tag) (λ i n. refl) tag ws ms)
      ∙ internal_case closed tag ms (tagged_case tag ws ms) d ∙ k

  pub internal_refused : (v : Value) (tag : List ℕ) (ws : List Variant) (closed : Bool) → None ≡ as_object v → (m : ℕ) (i : List ℕ) → comes_in s r m (entry.item i (enum_shape closed (internal_tag tag) (variants_in (internal_tag tag) ws))) v ≡ refused
  unfolding comes_in
  internal_refused null tag ws closed h m i = refl
  internal_refused (value.boolean c) tag ws closed h m i = refl
  internal_refused (number z) tag ws closed h m i = refl
  internal_refused fraction tag ws closed h m i = refl
  internal_refused (text t) tag ws closed h m i = refl
  internal_refused (list xs) tag ws closed h m i = refl
  internal_refused (object ms) tag ws closed h m i = absurd (cc)

  -- ---- adjacent tags

  one_beyond : (k : List ℕ) (v : Value) (beside : List ℕ) (ps : List (MemberPart Reader)) (a b c : Bool) → bytes_eq beside k ≡ b → is_none (without beside ps) ≡ not c
      → is_none (without beside (cond (not a) (part s r k v ∷ ps) ps)) ≡ not ((not a && not b) || c)
  one_beyond k v beside ps true b c e h = h
  one_beyond k v beside ps false true c e h = ap (λ d. is_none (cond (not d) (part s r k v ∷ without beside ps) (without beside ps))) e ∙ h
  one_beyond k v beside ps false false c e h = ap (λ d. is_none (cond (not d) (part s r k v ∷ without beside ps) (without beside ps))) e

  none_beyond : (tag beside : List ℕ) (ms : Members) → is_none (without beside (without tag (readers s r ms))) ≡ not (has_beyond tag beside ms)
  none_beyond tag beside no_members = refl
  none_beyond tag beside (member k v ms) = one_beyond k v beside (without tag (readers s r ms)) (bytes_eq tag k) (bytes_eq beside k) (has_beyond tag beside ms) refl (none_beyond tag beside ms)

  one_content : (closed : Bool) (c : Contents) (k : List ℕ) (v : Value) (ps : List (MemberPart Reader)) (o : Option Value) (b : Bool) → beside_content (missed s r) closed c ps ≡ given_content s r closed c o
      → beside_content (missed s r) closed c (cond b (part s r k v ∷ ps) ps) ≡ given_content s r closed c (cond b (Some v) o)
  unfolding comes
  one_content closed c k v ps o true h = refl
  one_content closed c k v ps o false h = h

  content_same : (closed : Bool) (c : Contents) (n : List ℕ) (ms : Members) → beside_content (missed s r) closed c (named n (readers s r ms)) ≡ given_content s r closed c (member_at n ms)
  content_same closed c n no_members = refl
  content_same closed c n (member k v ms) = one_content closed c k v (named n (readers s r ms)) (member_at n ms) (bytes_eq n k) (content_same closed c n ms)

  adjacent_case : (closed : Bool) (tag beside : List ℕ) (ms : Members) (o : Option Variant)
      → adjacent_read (missed s r) closed tag beside (readers s r ms) (option_map (entry_of (adjacent_tag tag beside)) o) ≡ by_case s r (adjacent_comes s r closed tag beside ms) o
  adjacent_case closed tag beside ms None = refl
  adjacent_case closed tag beside ms (Some w) =
      λ i. if_so (closed_same closed (is_none (without beside (without tag (readers s r ms)))) (has_beyond tag beside ms) (none_beyond tag beside ms) i) (content_same closed (content w) beside ms i)

  pub adjacent_object : (v : Value) (ms : Members) (tag beside : List ℕ) (ws : List Variant) (b : Found) (closed : Bool) → Some ms ≡ as_object v → adjacent_by s r closed tag beside ws ms ≡ b
      → (m : ℕ) (i : List ℕ) → comes_in s r m (entry.item i (enum_shape closed (adjacent_tag tag beside) (variants_in (adjacent_tag tag beside) ws))) v ≡ b
  unfolding comes_in
  adjacent_object null ms tag beside ws b closed h k m i = absurd (cc)
  adjacent_object (value.boolean c) ms tag beside ws b closed h k m i = absurd (cc)
  adjacent_object (number z) ms tag beside ws b closed h k m i = absurd (cc)
  adjacent_object fraction ms tag beside ws b closed h k m i = absurd (cc)
  adjacent_object (text t) ms tag beside ws b closed h k m i = absurd (cc)
  adjacent_object (list xs) ms tag beside ws b closed h k m i = absurd (cc)
  adjacent_object (object ns) ms tag beside ws b closed h k m i =
      let same : ns ≡ ms = cc in
      ap (λ us. adjacent_read (missed s r) closed tag beside (readers s r us) (tagged_variant tag (listed (adjacent_tag tag beside) ws) (object us))) same
      ∙ ap (adjacent_read (missed s r) closed tag beside (readers s r ms)) (tagged_same (adjacent_tag tag beside) (λ i n. refl) tag ws ms)
      ∙ adjacent_case closed tag beside ms (tagged_case tag ws ms) ∙ k

  pub adjacent_refused : (v : Value) (tag beside : List ℕ) (ws : List Variant) (closed : Bool) → None ≡ as_object v → (m : ℕ) (i : List ℕ) → comes_in s r m (entry.item i (enum_shape closed (adjacent_tag tag beside) (variants_in (adjacent_tag tag beside) ws))) v ≡ refused
  unfolding comes_in
  adjacent_refused null tag beside ws closed h m i = refl
  adjacent_refused (value.boolean c) tag beside ws closed h m i = refl
  adjacent_refused (number z) tag beside ws closed h m i = refl
  adjacent_refused fraction tag beside ws closed h m i = refl
  adjacent_refused (text t) tag beside ws closed h m i = refl
  adjacent_refused (list xs) tag beside ws closed h m i = refl
  adjacent_refused (object ms) tag beside ws closed h m i = absurd (cc)

  -- ---- without tags

  module _ (v : Value) (m : ℕ) (closed : Bool) where
    same_comes : (c : Contents) → same_read (missed s r) r v (parts_of s.table r (missed s r) v) (follows s.table r (missed s r) v (parts_of s.table r (missed s r) v) m) closed c ≡ comes_in s r m (contents_entry closed c) v
    unfolding comes_in
    same_comes unit_contents = refl
    same_comes (newtype_contents e) = refl
    same_comes (tuple_contents es) = refl
    same_comes (struct_contents fs) = refl

    first_same : (ws : List Variant) → first_read (missed s r) r v (parts_of s.table r (missed s r) v) (follows s.table r (missed s r) v (parts_of s.table r (missed s r) v) m) closed (variants_in untagged ws) ≡ first_comes s r m closed (contents_in ws) v
    first_same [] = refl
    first_same (w ∷ ws) = λ i. or_next (same_comes (content w) i) (first_same ws i)

    pub untagged_come : (ws : List Variant) (i : List ℕ) → comes_in s r m (entry.item i (enum_shape closed untagged (variants_in untagged ws))) v ≡ first_comes s r m closed (contents_in ws) v
    unfolding comes_in
    untagged_come ws i = first_same ws
