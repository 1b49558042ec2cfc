-- No cause puts an emitted item outside the forms.
use Rattle.std.proofs.Common.{◌≡◌, ◌<◌, ◌≤◌, ◌^◌, ◌+◌, ◌&&◌, ◌||◌, ℕ, suc, List, [], ◌∷◌, ◌++◌, map, length, Bool, true, false, not, cond, refl, sym, ap, ◌∙◌, subst, true≢false, Some, None, bytes_eq, arith}
use Rattle.std.specs.Prelude.{nat_lt, nat_eq}
use Rattle.std.specs.Cmp.{signed_Decides}
use Rattle.std.specs.List.{list_any, list_all}
use Rattle.std.specs.Fmt.{decimal}
use Rattle.std.proofs.lemmas.Bool.{lt-ltb}
use Rattle.std.proofs.lemmas.Fmt.{decimal_injective}
use Rattle.std.proofs.lemmas.Slice.Eq.{bytes_eq-Decides}
use Rattle.syntax_trees.specs.Syntax.{Tys, end_tys, more_tys}
use Rattle.attr_parts.specs.Values.{internal}
use Rattle.container_defs.specs.Checks.{is_one}
use Rattle.container_defs.specs.Container.{ReadField}
use Rattle.container_defs.specs.Forms as forms
use Rattle.container_defs.specs.Forms.{is_known, is_text, is_text_map, holds, fails, is_empty, is_known_reader, is_known_condition, has_odd_emptiness, has_extras, has_odd_some, has_odd_whole, is_odd_rest, repeats_name, rests, is_unread, has_unread, field_type, written_name, stands_beside, is_stated_elsewhere, has_place, same_type, same_types, same_range, same_format, is_outside}
use Rattle.container_defs.specs.Reader.{written_so}
use Rattle.schema_defs.specs.declared.Format.{Format}
use Rattle.schema_defs.specs.declared.Format.TheVariants.{Uuid, Date, DateTime, Ip, Ipv4, Ipv6}
use Rattle.schema_defs.specs.Integers.{Range}
use Rattle.schema_defs.specs.Location.{place}
use Rattle.model_defs.specs.Types.{TypeModel, TypeModels, no_types, type_then, boolean_type, integer_type, text_type, native_type, any_type, unit_type, option_type, boxed_type, vec_type, set_type, map_type, tuple_type, array_type, item_type, outside_type}
use Rattle.model_defs.specs.Model.{ConversionsD}
use Rattle.model_defs.proofs.Flat.{and_first, and_second, and_true, not_true}
use Rattle.model_defs.proofs.Rising.{bytes_itself}
use Rattle.entry_defs.specs.Entry.{State, required, optional, stated, Entry, option_entry, vec_entry, set_entry, map_entry, Entries, no_entries, entry_then, entry_again, entries_of, Rest, no_rest, rest, Fields, Contents, unit_contents, newtype_contents, tuple_contents, struct_contents, Variants, no_variants, variant_then, FieldEntry, VariantEntry, fields_of, rest_of, variants_of}
use Rattle.entry_defs.specs.Table.{Table}
use Rattle.entry_defs.specs.Members.{names_differ}
use Rattle.entry_defs.specs.Sound.{EachVariant, EachInContents}
use Rattle.emit_defs.specs.Formed as formed
use Rattle.emit_defs.specs.Formed.{Lacks, ContentsAreFormed, StandBeside, TagFits, VariantsAreFormed, RuleFits, ShapeIsFormed}
use Rattle.emit_defs.specs.Setting.{Setting, setting_of}
use Rattle.emit_defs.specs.Models.{manner, state_defaults, after_state, after_contents}
use Rattle.emit_defs.specs.Trees.{ty_again, entry_tys}
use Rattle.emit_defs.proofs.Spelling.{place_written}
use Rattle.emit_laws.proofs.Fields.{default_of}
use Rattle.emit_laws.proofs.Bodies.{made_places, made_fields, made_rest, made_contents, made_variants}
use Rattle.emit_laws.proofs.Checks.{or_false, in_contents}
use Rattle.emit_laws.proofs.Read.{P, Q}
use Rattle.emit_laws.proofs.Inside.{and_false}

-- ---- a type that is known is itself

format_itself : (f : Format) → same_format f f ≡ true
format_itself Uuid = refl
format_itself Date = refl
format_itself DateTime = refl
format_itself Ip = refl
format_itself Ipv4 = refl
format_itself Ipv6 = refl

pub both_true : (a b : Bool) → a ≡ true → b ≡ true → (a && b) ≡ true
both_true a b h k = λ i. h i && k i

number_itself : (n : ℕ) → nat_eq n n ≡ true
number_itself n = sym (and_true (nat_eq n n)) ∙ bytes_itself (n ∷ [])

range_itself : (g : Range) → same_range g g ≡ true
range_itself g = both_true _ _ ((signed_Decides g.least g.least).1 refl) ((signed_Decides g.greatest g.greatest).1 refl)

first_true : (a b : Bool) → (a && b) ≡ true → a ≡ true
first_true true b h = refl
first_true false b h = h

second_true : (a b : Bool) → (a && b) ≡ true → b ≡ true
second_true true b h = h
second_true false b h = absurd (true≢false (sym h))

module _ (items : List (List ℕ)) where
  mutual
    pub same_known : (t : TypeModel) → is_known items t ≡ true → same_type t t ≡ true
    same_known boolean_type h = refl
    same_known (integer_type g) h = range_itself g
    same_known text_type h = refl
    same_known (native_type f) h = format_itself f
    same_known any_type h = refl
    same_known unit_type h = refl
    same_known (option_type t) h = same_known t h
    same_known (boxed_type t) h = same_known t h
    same_known (vec_type t) h = same_known t h
    same_known (set_type t) h = same_known t h
    same_known (map_type k t) h = both_true _ _ (same_known k (first_true _ _ h)) (same_known t (second_true (is_known items k) _ h))
    same_known (tuple_type ts) h = same_all ts h
    same_known (array_type t n) h = both_true _ _ (same_known t h) (number_itself n)
    same_known (item_type n) h = bytes_itself n
    same_known outside_type h = absurd (true≢false (sym h))

    same_all : (ts : TypeModels) → forms.are_known items ts ≡ true → same_types ts ts ≡ true
    same_all no_types h = refl
    same_all (type_then t ts) h = both_true _ _ (same_known t (first_true _ _ h)) (same_all ts (second_true (is_known items t) _ h))

-- ---- names of places

apart_numbers : (i j : ℕ) → i < j → j < 2 ^ 64 → bytes_eq (decimal i) (decimal j) ≡ false
apart_numbers i j h k = elim (bytes_eq (decimal i) (decimal j)) as (λ b. bytes_eq (decimal i) (decimal j) ≡ b → b ≡ false) [
  | true ↦ λ e. let same : i ≡ j = decimal_injective i j (omega arith) k ((bytes_eq-Decides (decimal i) (decimal j)).0 e) in absurd (omega arith)
  | false ↦ λ e. refl
] refl

abbrev count : Tys → ℕ
count end_tys = 0
count (more_tys t ts) = suc (count ts)

apart_places : (i : ℕ) (ts : Tys) (j : ℕ) → i < j → j + count ts ≤ 2 ^ 64 → list_any (λ g. bytes_eq (decimal i) (written_name g)) (made_places j ts) ≡ false
apart_places i end_tys j h k = refl
apart_places i (more_tys t ts) j h k = or_false (bytes_eq (decimal i) (decimal j)) _ (apart_numbers i j h (omega arith)) (apart_places i ts (suc j) (omega arith) (omega arith))

places_once : (ts : Tys) (i : ℕ) → i + count ts ≤ 2 ^ 64 → repeats_name (made_places i ts) ≡ false
places_once end_tys i h = refl
places_once (more_tys t ts) i h = or_false _ _ (apart_places i ts (suc i) (omega arith) (omega arith)) (places_once ts (suc i) (omega arith))

-- whether lists of fields are unread
pub unread_none : (b : Bool) (c : Bool) → c ≡ false → (b && c) ≡ false
unread_none b c h = ap (λ z. b && z) h ∙ and_false b

module _ (t : Table) (n : List ℕ) where
  abbrev s : Setting
  s = setting_of t

  count_again : (ts : Tys) → count (ty_again ts) ≡ suc (count ts)
  count_again end_tys = refl
  count_again (more_tys u us) = refl

  counted : (es : Entries) → count (entry_tys s.name (s.is_boxed n) es) ≡ length (entries_of es)
  counted no_entries = refl
  counted (entry_then e es) = ap suc (counted es)
  counted (entry_again es) = count_again (entry_tys s.name (s.is_boxed n) es) ∙ ap suc (counted es)

  -- ---- names of fields

  abbrev RestApart : List FieldEntry → Rest → Type 0
  RestApart fs no_rest = Unit {0}
  RestApart fs (rest i e) = list_all (λ f. not (bytes_eq f.name i)) fs ≡ true

  later_apart : (f : FieldEntry) (fs : List FieldEntry) (o : Rest) → RestApart (f ∷ fs) o → RestApart fs o
  later_apart f fs no_rest h = tt
  later_apart f fs (rest i e) h = and_second (not (bytes_eq f.name i)) _ h

  first_apart : (f : FieldEntry) (fs : List FieldEntry) (o : Rest) → RestApart (f ∷ fs) o → list_any (λ g. bytes_eq f.name (written_name g)) (made_rest s n o) ≡ false
  first_apart f fs no_rest h = refl
  first_apart f fs (rest i e) h = ap (λ b. b || false) (not_true _ (and_first (not (bytes_eq f.name i)) _ h))

  names_apart : (x : List ℕ) (gs : List FieldEntry) (o : Rest) (k : ℕ) → list_all (λ g. not (bytes_eq x g.name)) gs ≡ true → list_any (λ g. bytes_eq x (written_name g)) (made_rest s n o) ≡ false
      → list_any (λ g. bytes_eq x (written_name g)) (made_fields s n k gs ++ made_rest s n o) ≡ false
  names_apart x [] o k h e = e
  names_apart x (g ∷ gs) o k h e = or_false (bytes_eq x g.name) _ (not_true _ (and_first (not (bytes_eq x g.name)) _ h)) (names_apart x gs o (after_state g.state k) (and_second (not (bytes_eq x g.name)) _ h) e)

  pub fields_once : (fs : List FieldEntry) (o : Rest) (k : ℕ) → names_differ fs ≡ true → RestApart fs o → repeats_name (made_fields s n k fs ++ made_rest s n o) ≡ false
  fields_once [] no_rest k d a = refl
  fields_once [] (rest i e) k d a = refl
  fields_once (f ∷ fs) o k d a =
      or_false _ _ (names_apart f.name fs o (after_state f.state k) (and_first _ _ d) (first_apart f fs o a)) (fields_once fs o (after_state f.state k) (and_second _ _ d) (later_apart f fs o a))

  no_rest_apart : (fs : List FieldEntry) (o : Rest) → o ≡ no_rest → RestApart fs o
  no_rest_apart fs o e = subst (RestApart fs) (sym e) tt

  contents_once : (c : Contents) (k : ℕ) → ContentsAreFormed c → EachInContents (P t) (Q t) c → repeats_name (made_contents s n k c) ≡ false
  contents_once unit_contents k f x = refl
  contents_once (newtype_contents e) k f x = refl
  contents_once (tuple_contents es) k f x =
      let few = f.1 in
      let c = counted es in
      places_once (entry_tys s.name (s.is_boxed n) es) 0 (omega arith)
  contents_once (struct_contents fs) k f x = fields_once (fields_of fs) (rest_of fs) k x.0 (no_rest_apart (fields_of fs) (rest_of fs) f.0)

  pub variants_once : (ws : Variants) (k : ℕ) → VariantsAreFormed ws → EachVariant (P t) (Q t) ws → list_any repeats_name (map (λ v. v.fields) (made_variants s n k (variants_of ws))) ≡ false
  variants_once no_variants k f x = refl
  variants_once (variant_then i l c ws) k f x = or_false (repeats_name (made_contents s n k c)) _ (contents_once c k f.0 x.0) (variants_once ws (after_contents c k) f.1 x.1)

  pub rest_of_shape : (closed : Bool) (fs : Fields) (o : Rest) → formed.RestFits closed fs o → RestApart (fields_of fs) o
  rest_of_shape closed fs no_rest f = tt
  rest_of_shape closed fs (rest i e) f = f.1

  -- ---- fields that are read by the names by which they are written

  pub itself_read : (x : List ℕ) → (not (bytes_eq x x || false)) ≡ false
  itself_read x = ap (λ b. not (b || false)) (bytes_itself x)

  pub variants_unread : (ws : List VariantEntry) (k : ℕ) → list_any has_unread (map (λ v. v.fields) (made_variants s n k ws)) ≡ false
  variants_unread [] k = refl
  variants_unread (w ∷ ws) k =
      or_false (has_unread (made_contents s n k w.contents)) _
      (unread_none (not (is_empty (rests (made_contents s n k w.contents)))) (list_any is_unread (made_contents s n k w.contents)) (in_contents s n is_unread (λ l f. itself_read f.name) (λ i e. refl) (λ i ty. itself_read (decimal i)) w.contents k))
      (variants_unread ws (after_contents w.contents k))

  -- ---- rests

  pub rests_left : (fs : List FieldEntry) (o : Rest) (k : ℕ) → rests (made_fields s n k fs ++ made_rest s n o) ≡ made_rest s n o
  rests_left [] no_rest k = refl
  rests_left [] (rest i e) k = refl
  rests_left (f ∷ fs) o k = rests_left fs o (after_state f.state k)

  no_rests : (ts : Tys) (i : ℕ) → rests (made_places i ts) ≡ []
  no_rests end_tys i = refl
  no_rests (more_tys u us) i = no_rests us (suc i)

  contents_flat : (c : Contents) (k : ℕ) → ContentsAreFormed c → not (is_empty (rests (made_contents s n k c))) ≡ false
  contents_flat unit_contents k f = refl
  contents_flat (newtype_contents e) k f = refl
  contents_flat (tuple_contents es) k f = ap (λ z. not (is_empty z)) (no_rests (entry_tys s.name (s.is_boxed n) es) 0)
  contents_flat (struct_contents fs) k f = ap (λ z. not (is_empty z)) (rests_left (fields_of fs) (rest_of fs) k) ∙ ap (λ o. not (is_empty (made_rest s n o))) f.0

  pub variants_flat : (ws : Variants) (k : ℕ) → VariantsAreFormed ws → list_any (λ v. not (is_empty (rests v.fields))) (made_variants s n k (variants_of ws)) ≡ false
  variants_flat no_variants k f = refl
  variants_flat (variant_then i l c ws) k f = or_false _ _ (contents_flat c k f.0) (variants_flat ws (after_contents c k) f.1)

  abbrev pub rests_by : Bool → List ReadField → Bool
  rests_by closed rs = not (is_empty rs) && not (true && not closed && is_one rs)

  pub rest_stands : (closed : Bool) (fs : Fields) (o : Rest) → formed.RestFits closed fs o → rests_by closed (made_rest s n o) ≡ false
  rest_stands closed fs no_rest f = refl
  rest_stands closed fs (rest i e) f = ap (λ b. rests_by b (made_rest s n (rest i e))) f.0

  -- ---- stated defaults

  pub stated_fits : (l : Bool) (st : State) (e : Entry) (k N : ℕ) → k + length (state_defaults st) ≤ N → (items : List (List ℕ)) (cs : ConversionsD) → length cs.defaults ≡ N
      → is_stated_elsewhere items cs (default_of k (manner l st e)) ≡ false
  stated_fits true required e k N r items cs h = refl
  stated_fits false required e k N r items cs h = refl
  stated_fits l (stated v) e k N r items cs h =
      ap (λ o. not (holds (λ m. nat_lt m (length cs.defaults)) (written_so (place k) o))) (place_written k)
      ∙ ap (λ q. not (holds (λ m. nat_lt m (length cs.defaults)) (cond q (Some k) None))) (bytes_itself (place k))
      ∙ ap not (lt-ltb k (length cs.defaults) (omega arith))
  stated_fits l optional (option_entry e) k N r items cs h = refl
  stated_fits l optional (vec_entry e) k N r items cs h = refl
  stated_fits l optional (set_entry e) k N r items cs h = refl
  stated_fits l optional (map_entry x e) k N r items cs h = refl
  stated_fits l optional _ k N r items cs h = refl

  -- ---- styles beside tags

  pub beside : (tag : List ℕ) (ws : Variants) (k : ℕ) → StandBeside tag ws → list_any (λ v. not (stands_beside (internal tag) v.style)) (made_variants s n k (variants_of ws)) ≡ false
  beside tag no_variants k f = refl
  beside tag (variant_then i l unit_contents ws) k f = beside tag ws (after_contents unit_contents k) f.1
  beside tag (variant_then i l (struct_contents fs) ws) k f = beside tag ws (after_contents (struct_contents fs) k) f.1
  beside tag (variant_then i l (newtype_contents e) ws) k f = absurd f.0
  beside tag (variant_then i l (tuple_contents es) ws) k f = absurd f.0
