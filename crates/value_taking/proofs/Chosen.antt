-- The contents of variants by their style, and which variant a value is read as.
use Rattle.std.proofs.Common.{◌≡◌, ℕ, suc, List, [], ◌∷◌, map, length, Bool, true, false, cond, not, ◌&&◌, ◌||◌, Option, Some, None, bytes_eq, refl, sym, ap, ◌∙◌}
use Rattle.std.specs.List.{list_any}
use Rattle.json_value.specs.Value as value
use Rattle.json_value.specs.Value.{Value, Members, null, number, fraction, text, list, object, no_members, member, entries, member_at}
use Rattle.model_defs.specs.Model.{Style, struct_style, tuple_style, newtype_style, unit_style, FieldModel, VariantModel, TagModel, external_tag, internal_tag, adjacent_tag, untagged, variant_named, struct_model}
use Rattle.model_defs.specs.Layer.{MemberPart, Judge, is_null, is_unit, is_none, variant_content, fields_content, without, named, members_in, members_take, variant_of_text, tagged_variant, is_unit_named, contents_take, external_takes, beside_tag, internal_takes, beside_content, adjacent_takes}
use Rattle.model_defs.specs.Reads.{allowed, leads_to_option}
use Rattle.typed_defs.specs.Typed.{Typed}
use Rattle.reading_defs.specs.Reading.{Read, taken, stopped, unit_of}
use Rattle.reading_defs.specs.Laws.{is_taken}
use Rattle.value_parts.specs.At.{Entry, by_place}
use Rattle.value_parts.specs.Choice as choice'
use Rattle.value_parts.specs.Choice.{Choice, settled, inside, beside, in_turn, variant_from, entry_of, entries_without, unit_choice, contents_choice, one_choice, external_choice, tagged, bare_choice, style_choice, internal_found, content_choice, closed_choice, adjacent_found, internal_choice, adjacent_choice, entries_in, choice}
use Rattle.value_taking.specs.At.{Tables, judge, parts, entry_part, entry_parts, content_at, body_at, enum_at, members_at, untagged_at, struct_at, demanded, only_at}
use Rattle.value_taking.specs.Choices.{choice_at}
use Rattle.value_taking.proofs.Levels.{as_content_is, members_seen, tuple_is}

-- ---- the first variant of a name

abbrev model_of : Option (ℕ × VariantModel) → Option VariantModel
model_of None = None
model_of (Some f) = Some f.1

model_if : (b : Bool) (i : ℕ) (w : VariantModel) (o : Option (ℕ × VariantModel)) → cond b (Some w) (model_of o) ≡ model_of (cond b (Some (i, w)) o)
model_if true i w o = refl
model_if false i w o = refl

named_from : (i : ℕ) (ws : List VariantModel) (n : List ℕ) → variant_named n ws ≡ model_of (variant_from i ws n)
named_from i [] n = refl
named_from i (w ∷ ws) n =
    ap (λ o. cond (list_any (bytes_eq n) w.deserialize_names) (Some w) o) (named_from (suc i) ws n)
    ∙ model_if (list_any (bytes_eq n) w.deserialize_names) i w (variant_from (suc i) ws n)

-- ---- members by name

abbrev value_in : Option Entry → Option Value
value_in None = None
value_in (Some e) = Some e.1

value_if : (b : Bool) (e : Entry) (o : Option Entry) → cond b (Some e.1) (value_in o) ≡ value_in (cond b (Some e) o)
value_if true e o = refl
value_if false e o = refl

member_is : (n : List ℕ) (ms : Members) → member_at n ms ≡ value_in (entry_of n (entries ms))
member_is n no_members = refl
member_is n (member k v ms) = ap (λ o. cond (bytes_eq n k) (Some v) o) (member_is n ms) ∙ value_if (bytes_eq n k) (k, v) (entry_of n (entries ms))

tagged_is : (ws : List VariantModel) (v : Value) → variant_of_text ws (Some v) ≡ model_of (tagged ws v)
tagged_is ws null = refl
tagged_is ws (value.boolean b) = refl
tagged_is ws (number z) = refl
tagged_is ws fraction = refl
tagged_is ws (text n) = named_from 0 ws n
tagged_is ws (list xs) = refl
tagged_is ws (object ms) = refl

-- the variant that the member of a tag names
abbrev by_entry : List VariantModel → Option Entry → Option VariantModel
by_entry ws None = None
by_entry ws (Some e) = model_of (tagged ws e.1)

of_entry : (ws : List VariantModel) (o : Option Entry) → variant_of_text ws (value_in o) ≡ by_entry ws o
of_entry ws None = refl
of_entry ws (Some e) = tagged_is ws e.1

tag_is : (tag : List ℕ) (ws : List VariantModel) (v : Value) → tagged_variant tag ws v ≡ by_entry ws (entry_of tag (entries_in v))
tag_is tag ws null = refl
tag_is tag ws (value.boolean b) = refl
tag_is tag ws (number z) = refl
tag_is tag ws fraction = refl
tag_is tag ws (text m) = refl
tag_is tag ws (list xs) = refl
tag_is tag ws (object ms) = ap (variant_of_text ws) (member_is tag ms) ∙ of_entry ws (entry_of tag (entries ms))

unit_taken : (b : Bool) (x : Typed) → is_taken (cond b (taken x) (stopped [])) ≡ b
unit_taken true x = refl
unit_taken false x = refl

module _ (s : Tables) where
  filtered_if : (p : Bool) (e : Entry) (es : List Entry) (ms : List (MemberPart Judge)) → ms ≡ entry_parts s es → cond p (entry_part s e ∷ ms) ms ≡ entry_parts s (cond p (e ∷ es) es)
  filtered_if true e es ms h = ap (λ ps. entry_part s e ∷ ps) h
  filtered_if false e es ms h = h

  without_is : (n : List ℕ) (es : List Entry) → without n (entry_parts s es) ≡ entry_parts s (entries_without n es)
  without_is n [] = refl
  without_is n (e ∷ es) = filtered_if (not (bytes_eq n e.0)) e (entries_without n es) (without n (entry_parts s es)) (without_is n es)

  -- the first member of the name, if any
  abbrev led : Option Entry → List (MemberPart Judge) → List (MemberPart Judge)
  led None ps = []
  led (Some e) ps = entry_part s e ∷ ps

  abbrev named_after : List ℕ → List Entry → List (MemberPart Judge)
  named_after n [] = []
  named_after n (e ∷ es) = cond (bytes_eq n e.0) (named n (entry_parts s es)) (named_after n es)

  named_if : (b : Bool) (e : Entry) (n : List ℕ) (es : List Entry) → named n (entry_parts s es) ≡ led (entry_of n es) (named_after n es)
      → cond b (entry_part s e ∷ named n (entry_parts s es)) (named n (entry_parts s es)) ≡ led (cond b (Some e) (entry_of n es)) (cond b (named n (entry_parts s es)) (named_after n es))
  named_if true e n es h = refl
  named_if false e n es h = h

  named_is : (n : List ℕ) (es : List Entry) → named n (entry_parts s es) ≡ led (entry_of n es) (named_after n es)
  named_is n [] = refl
  named_is n (e ∷ es) = named_if (bytes_eq n e.0) e n es (named_is n es)

  parts_are : (v : Value) → members_in (parts s v) ≡ entry_parts s (entries_in v)
  parts_are null = refl
  parts_are (value.boolean b) = refl
  parts_are (number z) = refl
  parts_are fraction = refl
  parts_are (text m) = refl
  parts_are (list xs) = refl
  parts_are (object ms) = members_seen s ms

  module _ (k : ℕ) (closed : Bool) (v : Value) where
    abbrev says : Choice → Bool
    says c = choice_at s k closed v c

    -- contents, which a unit variant has none of
    inside_if : (b : Bool) (i : ℕ) (w : VariantModel) (e : Entry) (r : Read Typed) → is_taken r ≡ false
        → says (cond b (settled r) (inside i w e)) ≡ (not b && judge s e.1 (variant_content closed w))
    inside_if true i w e r h = h
    inside_if false i w e r h = sym (as_content_is s (variant_content closed w) e.1)

    -- ---- by the one member, or the text

    unit_says : (o : Option (ℕ × VariantModel)) → says (unit_choice o) ≡ is_unit_named (model_of o)
    unit_says None = refl
    unit_says (Some f) = unit_taken (is_unit f.1) (unit_of f.0 [])

    contents_says : (e : Entry) (o : Option (ℕ × VariantModel)) → says (contents_choice e o) ≡ contents_take closed (judge s e.1) (model_of o)
    contents_says e None = refl
    contents_says e (Some f) = inside_if (is_unit f.1) f.0 f.1 e (stopped []) refl

    one_is : (ws : List VariantModel) (ms : Members) → says (one_choice ws (entries ms)) ≡ external_takes closed ws (object ms) (parts s (object ms))
    one_is ws no_members = refl
    one_is ws (member n w no_members) = contents_says (n, w) (variant_from 0 ws n) ∙ ap (contents_take closed (judge s w)) (sym (named_from 0 ws n))
    one_is ws (member n w (member m u ms)) = refl

    external_is : (ws : List VariantModel) (u : Value) → says (external_choice ws u) ≡ external_takes closed ws u (parts s u)
    external_is ws null = refl
    external_is ws (value.boolean b) = refl
    external_is ws (number z) = refl
    external_is ws fraction = refl
    external_is ws (text n) = unit_says (variant_from 0 ws n) ∙ ap is_unit_named (sym (named_from 0 ws n))
    external_is ws (list xs) = refl
    external_is ws (object ms) = one_is ws ms

    -- ---- by a tag, beside the fields

    bare_is : (c : Bool) (i : ℕ) (es : List Entry) → says (bare_choice c i es) ≡ members_take (leads_to_option s.models) c [] (entry_parts s es)
    bare_is true i [] = refl
    bare_is true i (e ∷ es) = refl
    bare_is false i [] = refl
    bare_is false i (e ∷ es) = refl

    style_is : (st : Style) (i : ℕ) (w : VariantModel) (es : List Entry)
        → says (style_choice closed i w st es) ≡ beside_tag (leads_to_option s.models) closed (entry_parts s es) (record { serialize_name = w.serialize_name; deserialize_names = w.deserialize_names; style = st; fields = w.fields })
    style_is struct_style i w es = refl
    style_is unit_style i w es = bare_is closed i es
    style_is tuple_style i w es = refl
    style_is newtype_style i w es = refl

    tag_says : (tag : List ℕ) (es : List Entry) (o : Option (ℕ × VariantModel))
        → says (internal_found closed tag es o) ≡ internal_takes (leads_to_option s.models) closed tag (entry_parts s es) (model_of o)
    tag_says tag es None = refl
    tag_says tag es (Some f) =
        style_is f.1.style f.0 f.1 (entries_without tag es) ∙ ap (λ ms. beside_tag (leads_to_option s.models) closed ms f.1) (sym (without_is tag es))

    internal_is : (tag : List ℕ) (ws : List VariantModel) (es : List Entry) (o : Option Entry)
        → says (internal_choice closed tag ws es o) ≡ internal_takes (leads_to_option s.models) closed tag (entry_parts s es) (by_entry ws o)
    internal_is tag ws es None = refl
    internal_is tag ws es (Some e) = tag_says tag es (tagged ws e.1)

    -- ---- by a tag, beside the contents

    content_is : (i : ℕ) (w : VariantModel) (o : Option Entry) (ps : List (MemberPart Judge)) → says (content_choice i w o) ≡ beside_content closed w (led o ps)
    content_is i w None ps = unit_taken (is_unit w) (unit_of i [])
    content_is i w (Some e) ps = inside_if (is_unit w) i w e (stopped (e.0 ∷ [])) refl

    beside_is : (c : Bool) (os : List Entry) (d : Choice) (b : Bool) → says d ≡ b → says (closed_choice c os d) ≡ ((not c || is_none (entry_parts s os)) && b)
    beside_is true [] d b h = h
    beside_is true (o ∷ os) d b h = refl
    beside_is false [] d b h = h
    beside_is false (o ∷ os) d b h = h

    content_says : (tag content : List ℕ) (es : List Entry) (o : Option (ℕ × VariantModel))
        → says (adjacent_found closed tag content es o) ≡ adjacent_takes closed tag content (entry_parts s es) (model_of o)
    content_says tag content es None = refl
    content_says tag content es (Some f) =
        let others = ap (without content) (without_is tag es) ∙ without_is content (entries_without tag es) in
        beside_is closed (entries_without content (entries_without tag es)) (content_choice f.0 f.1 (entry_of content es)) (beside_content closed f.1 (led (entry_of content es) (named_after content es)))
        (content_is f.0 f.1 (entry_of content es) (named_after content es))
        ∙ (λ i. (not closed || is_none (sym others i)) && beside_content closed f.1 (sym (named_is content es) i))

    adjacent_is : (tag content : List ℕ) (ws : List VariantModel) (es : List Entry) (o : Option Entry)
        → says (adjacent_choice closed tag content ws es o) ≡ adjacent_takes closed tag content (entry_parts s es) (by_entry ws o)
    adjacent_is tag content ws es None = refl
    adjacent_is tag content ws es (Some e) = content_says tag content es (tagged ws e.1)

    -- what is chosen is read as the enum is
    choice_is : (tag : TagModel) (ws : List VariantModel) → says (choice closed tag ws v) ≡ enum_at s k closed tag ws v
    choice_is external_tag ws = external_is ws v
    choice_is (internal_tag tag) ws =
        internal_is tag ws (entries_in v) (entry_of tag (entries_in v))
        ∙ (λ i. internal_takes (leads_to_option s.models) closed tag (sym (parts_are v) i) (sym (tag_is tag ws v) i))
    choice_is (adjacent_tag tag content) ws =
        adjacent_is tag content ws (entries_in v) (entry_of tag (entries_in v))
        ∙ (λ i. adjacent_takes closed tag content (sym (parts_are v) i) (sym (tag_is tag ws v) i))
    choice_is untagged ws = refl

    -- ---- an enum, by what is chosen

    pub settled_enum : (tag : TagModel) (ws : List VariantModel) (r : Read Typed) (b : Bool) → settled r ≡ choice closed tag ws v → b ≡ is_taken r → b ≡ enum_at s k closed tag ws v
    settled_enum tag ws r b h e = e ∙ ap says h ∙ choice_is tag ws

    pub inside_enum : (tag : TagModel) (ws : List VariantModel) (i : ℕ) (w : VariantModel) (e : Entry) (j : ℕ) (b : Bool) → inside i w e ≡ choice closed tag ws v → j ≡ allowed s.models
        → b ≡ content_at s j (variant_content closed w) e.1 → b ≡ enum_at s k closed tag ws v
    inside_enum tag ws i w e j b h l is = is ∙ ap (λ z. content_at s z (variant_content closed w) e.1) l ∙ ap says h ∙ choice_is tag ws

    pub beside_enum : (tag : TagModel) (ws : List VariantModel) (i : ℕ) (fs : List FieldModel) (es ds : List Entry) (b : Bool) → beside i fs es ≡ choice closed tag ws v → ds ≡ es
        → b ≡ members_at s closed fs ds → b ≡ enum_at s k closed tag ws v
    beside_enum tag ws i fs es ds b h same is = is ∙ ap (members_at s closed fs) same ∙ ap says h ∙ choice_is tag ws

    pub turn_enum : (tag : TagModel) (ws us : List VariantModel) (b : Bool) → in_turn us ≡ choice closed tag ws v → b ≡ untagged_at s k closed us v → b ≡ enum_at s k closed tag ws v
    turn_enum tag ws us b h is = is ∙ ap says h ∙ choice_is tag ws

  -- ---- contents

  only_is : (k : ℕ) (closed : Bool) (fs : List FieldModel) (v : Value) → only_at s k fs v ≡ content_at s k (fields_content closed newtype_style fs) v
  only_is k closed [] v = refl
  only_is k closed (f ∷ []) v = refl
  only_is k closed (f ∷ g ∷ fs) v = refl

  pub newtype_there : (k : ℕ) (closed : Bool) (fs : List FieldModel) (v : Value) (b : Bool) → b ≡ only_at s k fs v → b ≡ body_at s k closed (struct_model newtype_style fs) v
  newtype_there k closed fs v b h = h ∙ only_is k closed fs v

  module _ (k : ℕ) (closed : Bool) (w : VariantModel) (v : Value) where
    by_style : (st : Style) → w.style ≡ st → content_at s k (fields_content closed st w.fields) v ≡ content_at s k (variant_content closed w) v
    by_style st h = ap (λ z. content_at s k (fields_content closed z w.fields) v) (sym h)

    pub struct_content : (fs : List FieldModel) (b : Bool) → w.style ≡ struct_style → fs ≡ w.fields → b ≡ struct_at s closed fs v → b ≡ content_at s k (variant_content closed w) v
    struct_content fs b h e is = is ∙ ap (λ gs. struct_at s closed gs v) e ∙ by_style struct_style h

    pub tuple_content : (fs : List FieldModel) (n : Option ℕ) (b : Bool) → w.style ≡ tuple_style → fs ≡ w.fields → n ≡ Some (length (map (λ f. f.field_type) fs))
        → b ≡ demanded s (by_place (map (λ f. f.field_type) fs)) n v → b ≡ content_at s k (variant_content closed w) v
    tuple_content fs n b h e l is =
        is ∙ ap (λ m. demanded s (by_place (map (λ f. f.field_type) fs)) m v) l ∙ sym (tuple_is s (map (λ f. f.field_type) fs) v)
        ∙ ap (λ gs. content_at s k (fields_content closed tuple_style gs) v) e ∙ by_style tuple_style h

    pub only_content : (fs : List FieldModel) (b : Bool) → w.style ≡ newtype_style → fs ≡ w.fields → b ≡ only_at s k fs v → b ≡ content_at s k (variant_content closed w) v
    only_content fs b h e is = is ∙ ap (λ gs. only_at s k gs v) e ∙ only_is k closed w.fields v ∙ by_style newtype_style h

    pub unit_content : (b : Bool) → w.style ≡ unit_style → b ≡ is_null v → b ≡ content_at s k (variant_content closed w) v
    unit_content b h is = is ∙ by_style unit_style h
