-- The contents of variants by their style, and which variant a value is read as.
use Rattle.std.proofs.Common.{◌≡◌, ℕ, zero, suc, List, [], ◌∷◌, map, length, filter, Bool, true, false, cond, not, Option, Some, None, bytes_eq, refl, sym, ap, ◌∙◌}
use Rattle.std.specs.List.{list_any}
use Rattle.json_value.specs.Value as value
use Rattle.json_value.specs.Value.{Value, Items, Members, null, number, fraction, text, list, object, no_items, item, no_members, member, values, entries, member_at}
use Rattle.model_defs.specs.Model.{Style, struct_style, tuple_style, newtype_style, unit_style, FieldModel, VariantModel, TagModel, external_tag, internal_tag, adjacent_tag, untagged}
use Rattle.model_defs.specs.Layer.{MemberPart, is_unit, variant_content, fields_content, without, named, members_in}
use Rattle.model_defs.specs.Refusals.{tag_value}
use Rattle.model_defs.specs.Reads.{allowed}
use Rattle.typed_defs.specs.Typed.{Typed}
use Rattle.reading_defs.specs.Reading.{Read, taken, stopped, Reader, read_map, under, of_name, of_tag, unit_named, contents_read, external_read, content_beside, adjacent_read, after_tag, internal_read, variant_of, unit_of, absent, readers_of, members_read, unit_read}
use Rattle.value_parts.specs.At.{Setting, Entry, default_of, reader, entry_part, entry_parts, type_at, content_at, enum_at, members_at, untagged_at, struct_at, demanded, by_place}
use Rattle.value_parts.specs.Choice as choice'
use Rattle.value_parts.specs.Choice.{Choice, settled, inside, beside, in_turn, variant_from, entry_of, entries_without, unit_choice, contents_choice, one_choice, external_choice, tagged, bare_choice, style_choice, internal_found, content_choice, closed_choice, adjacent_found, internal_choice, adjacent_choice, entries_in, choice, inside_at, choice_at}
use Rattle.value_reading.specs.Steps.{only_at, variant_at}
use Rattle.value_reading.proofs.Levels.{as_content_is, members_seen, tuple_is}

module _ (s : Setting) where
  pub only_is : (k : ℕ) (closed : Bool) (fs : List FieldModel) (v : Value) → only_at s k fs v ≡ content_at s k (fields_content closed newtype_style fs) v
  only_is k closed [] v = refl
  only_is k closed (f ∷ []) v = refl
  only_is k closed (f ∷ g ∷ fs) v = refl

  -- ---- the first variant of a name

  abbrev chosen : (ℕ → VariantModel → Read Typed) → Read Typed → Option (ℕ × VariantModel) → Read Typed
  chosen found missing None = missing
  chosen found missing (Some f) = found f.0 f.1

  chosen_if : (found : ℕ → VariantModel → Read Typed) (missing : Read Typed) (b : Bool) (i : ℕ) (w : VariantModel) (o : Option (ℕ × VariantModel))
      → cond b (found i w) (chosen found missing o) ≡ chosen found missing (cond b (Some (i, w)) o)
  chosen_if found missing true i w o = refl
  chosen_if found missing false i w o = refl

  by_name : (found : ℕ → VariantModel → Read Typed) (missing : Read Typed) (i : ℕ) (ws : List VariantModel) (n : List ℕ)
      → of_name found missing i ws n ≡ chosen found missing (variant_from i ws n)
  by_name found missing i [] n = refl
  by_name found missing i (w ∷ ws) n =
      ap (λ r. cond (list_any (bytes_eq n) w.deserialize_names) (found i w) r) (by_name found missing (suc i) ws n)
      ∙ chosen_if found missing (list_any (bytes_eq n) w.deserialize_names) i w (variant_from (suc i) ws n)

  module _ (k : ℕ) (closed : Bool) (v : Value) where
    abbrev says : Choice → Read Typed
    says c = choice_at s k closed v c

    -- two ways to choose that say the same of each variant
    same_chosen : (found : ℕ → VariantModel → Read Typed) (missing : Read Typed) (c : Option (ℕ × VariantModel) → Choice)
        → says (c None) ≡ missing → ((i : ℕ) (w : VariantModel) → says (c (Some (i, w))) ≡ found i w) → (o : Option (ℕ × VariantModel)) → says (c o) ≡ chosen found missing o
    same_chosen found missing c none some None = none
    same_chosen found missing c none some (Some f) = some f.0 f.1

    if_unit : (b : Bool) (r q : Read Typed) → says (settled (cond b r q)) ≡ cond b r q
    if_unit b r q = refl

    says_if : (b : Bool) (c d : Choice) (r q : Read Typed) → says c ≡ r → says d ≡ q → says (cond b c d) ≡ cond b r q
    says_if true c d r q h g = h
    says_if false c d r q h g = g

    inside_is : (i : ℕ) (w : VariantModel) (e : Entry) → says (inside i w e) ≡ under e.0 (read_map (variant_of i) ((reader s e.1).as_content (variant_content closed w)))
    inside_is i w e = ap (λ r. under e.0 (read_map (variant_of i) r)) (sym (as_content_is s (variant_content closed w) e.1))

    contents_is : (e : Entry) (ws : List VariantModel) (n : List ℕ) → says (contents_choice e (variant_from 0 ws n)) ≡ of_name (contents_read closed (entry_part s e)) (stopped []) 0 ws n
    contents_is e ws n =
        same_chosen (contents_read closed (entry_part s e)) (stopped []) (contents_choice e) refl
        (λ i w. says_if (is_unit w) (settled (stopped [])) (inside i w e) (stopped []) (under e.0 (read_map (variant_of i) ((reader s e.1).as_content (variant_content closed w)))) refl (inside_is i w e)) (variant_from 0 ws n)
        ∙ sym (by_name (contents_read closed (entry_part s e)) (stopped []) 0 ws n)

    one_is : (ws : List VariantModel) (ms : Members) → says (one_choice ws (entries ms)) ≡ external_read closed ws (object ms) (readers_of s.models s.conversions s.relations (default_of s) (object ms))
    one_is ws no_members = refl
    one_is ws (member n w no_members) = contents_is (n, w) ws n
    one_is ws (member n w (member m u ms)) = refl

    external_is : (ws : List VariantModel) (u : Value) → says (external_choice ws u) ≡ external_read closed ws u (readers_of s.models s.conversions s.relations (default_of s) u)
    external_is ws null = refl
    external_is ws (value.boolean b) = refl
    external_is ws (number z) = refl
    external_is ws fraction = refl
    external_is ws (text n) = same_chosen unit_named (stopped []) unit_choice refl (λ i w. refl) (variant_from 0 ws n) ∙ sym (by_name unit_named (stopped []) 0 ws n)
    external_is ws (list xs) = refl
    external_is ws (object ms) = one_is ws ms

  -- ---- members by name

  filtered_if : (p : Bool) (e : Entry) (es : List Entry) (ms : List (MemberPart Reader)) → ms ≡ entry_parts s es → cond p (entry_part s e ∷ ms) ms ≡ entry_parts s (cond p (e ∷ es) es)
  filtered_if true e es ms h = ap (λ ps. entry_part s e ∷ ps) h
  filtered_if false e es ms h = h

  without_is : (n : List ℕ) (es : List Entry) → without n (entry_parts s es) ≡ entry_parts s (entries_without n es)
  without_is n [] = refl
  without_is n (e ∷ es) = filtered_if (not (bytes_eq n e.0)) e (entries_without n es) (without n (entry_parts s es)) (without_is n es)

  -- the first member of the name, if any
  abbrev led : Option Entry → List (MemberPart Reader) → List (MemberPart Reader)
  led None ps = []
  led (Some e) ps = entry_part s e ∷ ps

  abbrev named_after : List ℕ → List Entry → List (MemberPart Reader)
  named_after n [] = []
  named_after n (e ∷ es) = cond (bytes_eq n e.0) (named n (entry_parts s es)) (named_after n es)

  named_if : (b : Bool) (e : Entry) (n : List ℕ) (es : List Entry) → named n (entry_parts s es) ≡ led (entry_of n es) (named_after n es)
      → cond b (entry_part s e ∷ named n (entry_parts s es)) (named n (entry_parts s es)) ≡ led (cond b (Some e) (entry_of n es)) (cond b (named n (entry_parts s es)) (named_after n es))
  named_if true e n es h = refl
  named_if false e n es h = h

  named_is : (n : List ℕ) (es : List Entry) → named n (entry_parts s es) ≡ led (entry_of n es) (named_after n es)
  named_is n [] = refl
  named_is n (e ∷ es) = named_if (bytes_eq n e.0) e n es (named_is n es)

  abbrev value_in : Option Entry → Option Value
  value_in None = None
  value_in (Some e) = Some e.1

  value_if : (b : Bool) (e : Entry) (o : Option Entry) → cond b (Some e.1) (value_in o) ≡ value_in (cond b (Some e) o)
  value_if true e o = refl
  value_if false e o = refl

  member_is : (n : List ℕ) (ms : Members) → member_at n ms ≡ value_in (entry_of n (entries ms))
  member_is n no_members = refl
  member_is n (member k v ms) = ap (λ o. cond (bytes_eq n k) (Some v) o) (member_is n ms) ∙ value_if (bytes_eq n k) (k, v) (entry_of n (entries ms))

  tag_is : (n : List ℕ) (v : Value) → tag_value n v ≡ value_in (entry_of n (entries_in v))
  tag_is n null = refl
  tag_is n (value.boolean b) = refl
  tag_is n (number z) = refl
  tag_is n fraction = refl
  tag_is n (text m) = refl
  tag_is n (list xs) = refl
  tag_is n (object ms) = member_is n ms

  parts_are : (v : Value) → members_in (readers_of s.models s.conversions s.relations (default_of s) v) ≡ entry_parts s (entries_in v)
  parts_are null = refl
  parts_are (value.boolean b) = refl
  parts_are (number z) = refl
  parts_are fraction = refl
  parts_are (text m) = refl
  parts_are (list xs) = refl
  parts_are (object ms) = members_seen s ms

  -- ---- by a tag

  module _ (k : ℕ) (closed : Bool) (v : Value) where
    by_tag : (found : ℕ → VariantModel → Read Typed) (missing : Read Typed) (ws : List VariantModel) (u : Value) → of_tag found missing ws u ≡ chosen found missing (tagged ws u)
    by_tag found missing ws null = refl
    by_tag found missing ws (value.boolean b) = refl
    by_tag found missing ws (number z) = refl
    by_tag found missing ws fraction = refl
    by_tag found missing ws (text n) = by_name found missing 0 ws n
    by_tag found missing ws (list xs) = refl
    by_tag found missing ws (object ms) = refl

    bare_is : (c : Bool) (i : ℕ) (es : List Entry) → choice_at s k c v (bare_choice c i es) ≡ read_map (unit_of i) (members_at s c [] es)
    bare_is true i [] = refl
    bare_is true i (e ∷ es) = refl
    bare_is false i [] = refl
    bare_is false i (e ∷ es) = refl

    style_is : (st : Style) (i : ℕ) (w : VariantModel) (es : List Entry) → w.style ≡ st
        → choice_at s k closed v (style_choice closed i w st es) ≡ internal_read (default_of s) (absent s.models) closed (entry_parts s es) i (record { serialize_name = w.serialize_name; deserialize_names = w.deserialize_names; style = st; fields = w.fields })
    style_is struct_style i w es h = refl
    style_is unit_style i w es h = bare_is closed i es
    style_is tuple_style i w es h = refl
    style_is newtype_style i w es h = refl

    internal_is : (tag : List ℕ) (ws : List VariantModel) (es : List Entry) (o : Option Entry)
        → choice_at s k closed v (internal_choice closed tag ws es o) ≡ after_tag tag ws (internal_read (default_of s) (absent s.models) closed (entry_parts s (entries_without tag es))) (value_in o)
    internal_is tag ws es None = refl
    internal_is tag ws es (Some e) =
        same_chosen k closed v (internal_read (default_of s) (absent s.models) closed (entry_parts s (entries_without tag es))) (stopped (tag ∷ [])) (internal_found closed tag es) refl
        (λ i w. style_is w.style i w (entries_without tag es) refl) (tagged ws e.1)
        ∙ sym (by_tag (internal_read (default_of s) (absent s.models) closed (entry_parts s (entries_without tag es))) (stopped (tag ∷ [])) ws e.1)

    content_is : (i : ℕ) (w : VariantModel) (o : Option Entry) (ps : List (MemberPart Reader)) → choice_at s k closed v (content_choice i w o) ≡ content_beside closed (led o ps) i w
    content_is i w None ps = refl
    content_is i w (Some e) ps =
        says_if k closed v (is_unit w) (settled (stopped (e.0 ∷ []))) (inside i w e) (stopped (e.0 ∷ [])) (under e.0 (read_map (variant_of i) ((reader s e.1).as_content (variant_content closed w)))) refl (inside_is k closed v i w e)

    beside_is : (os : List Entry) (i : ℕ) (w : VariantModel) (o : Option Entry) (ps : List (MemberPart Reader)) (c : Bool) → closed ≡ c
        → choice_at s k closed v (closed_choice c os (content_choice i w o)) ≡ adjacent_read c (entry_parts s os) (led o ps) i w
    beside_is (d ∷ os) i w o ps true h = refl
    beside_is [] i w o ps true h = content_is i w o ps ∙ ap (λ b. content_beside b (led o ps) i w) h
    beside_is (d ∷ os) i w o ps false h = content_is i w o ps ∙ ap (λ b. content_beside b (led o ps) i w) h
    beside_is [] i w o ps false h = content_is i w o ps ∙ ap (λ b. content_beside b (led o ps) i w) h

    abbrev adjacent : List ℕ → List ℕ → List Entry → ℕ → VariantModel → Read Typed
    adjacent tag content es = adjacent_read closed (entry_parts s (entries_without content (entries_without tag es))) (led (entry_of content es) (named_after content es))

    adjacent_is : (tag content : List ℕ) (ws : List VariantModel) (es : List Entry) (o : Option Entry)
        → choice_at s k closed v (adjacent_choice closed tag content ws es o) ≡ after_tag tag ws (adjacent tag content es) (value_in o)
    adjacent_is tag content ws es None = refl
    adjacent_is tag content ws es (Some e) =
        same_chosen k closed v (adjacent tag content es) (stopped (tag ∷ [])) (adjacent_found closed tag content es) refl
        (λ i w. beside_is (entries_without content (entries_without tag es)) i w (entry_of content es) (named_after content es) closed refl) (tagged ws e.1)
        ∙ sym (by_tag (adjacent tag content es) (stopped (tag ∷ [])) ws e.1)

    -- what is chosen reads as the enum does
    pub choice_is : (tag : TagModel) (ws : List VariantModel) → choice_at s k closed v (choice closed tag ws v) ≡ enum_at s k closed tag ws v
    choice_is external_tag ws = external_is k closed v ws v
    choice_is (internal_tag tag) ws =
        internal_is tag ws (entries_in v) (entry_of tag (entries_in v))
        ∙ sym (λ i. after_tag tag ws (internal_read (default_of s) (absent s.models) closed ((ap (without tag) (parts_are v) ∙ without_is tag (entries_in v)) i)) (tag_is tag v i))
    choice_is (adjacent_tag tag content) ws =
        adjacent_is tag content ws (entries_in v) (entry_of tag (entries_in v))
        ∙ ap (λ r. after_tag tag ws r (value_in (entry_of tag (entries_in v)))) (sym both)
        ∙ ap (after_tag tag ws (adjacent_read closed (without content (without tag (members_in (readers_of s.models s.conversions s.relations (default_of s) v)))) (named content (members_in (readers_of s.models s.conversions s.relations (default_of s) v))))) (sym (tag_is tag v))
      where
        others : without content (without tag (members_in (readers_of s.models s.conversions s.relations (default_of s) v))) ≡ entry_parts s (entries_without content (entries_without tag (entries_in v)))
        others = ap (λ ms. without content (without tag ms)) (parts_are v) ∙ ap (without content) (without_is tag (entries_in v)) ∙ without_is content (entries_without tag (entries_in v))

        own : named content (members_in (readers_of s.models s.conversions s.relations (default_of s) v)) ≡ led (entry_of content (entries_in v)) (named_after content (entries_in v))
        own = ap (named content) (parts_are v) ∙ named_is content (entries_in v)

        both : adjacent_read closed (without content (without tag (members_in (readers_of s.models s.conversions s.relations (default_of s) v)))) (named content (members_in (readers_of s.models s.conversions s.relations (default_of s) v))) ≡ adjacent tag content (entries_in v)
        both = λ i. adjacent_read closed (others i) (own i)
    choice_is untagged ws = refl

    -- ---- an enum, by what is chosen

    pub settled_enum : (tag : TagModel) (ws : List VariantModel) (r : Read Typed) → settled r ≡ choice closed tag ws v → r ≡ enum_at s k closed tag ws v
    settled_enum tag ws r h = ap (choice_at s k closed v) h ∙ choice_is tag ws

    pub inside_enum : (tag : TagModel) (ws : List VariantModel) (i : ℕ) (w : VariantModel) (e : Entry) (o : Read Typed) → inside i w e ≡ choice closed tag ws v
        → o ≡ inside_at s closed i w e → o ≡ enum_at s k closed tag ws v
    inside_enum tag ws i w e o h is = is ∙ ap (choice_at s k closed v) h ∙ choice_is tag ws

    pub beside_enum : (tag : TagModel) (ws : List VariantModel) (i : ℕ) (fs : List FieldModel) (es ds : List Entry) (r : Read (List Typed)) (o : Read Typed) → beside i fs es ≡ choice closed tag ws v
        → ds ≡ es → r ≡ members_at s closed fs ds → o ≡ read_map (variant_of i) r → o ≡ enum_at s k closed tag ws v
    beside_enum tag ws i fs es ds r o h same is w =
        w ∙ ap (read_map (variant_of i)) (is ∙ ap (members_at s closed fs) same) ∙ ap (choice_at s k closed v) h ∙ choice_is tag ws

    pub turn_enum : (tag : TagModel) (ws us : List VariantModel) (o : Read Typed) → in_turn us ≡ choice closed tag ws v → o ≡ untagged_at s k closed 0 us v → o ≡ enum_at s k closed tag ws v
    turn_enum tag ws us o h is = is ∙ ap (choice_at s k closed v) h ∙ choice_is tag ws

  -- ---- contents

  pub inside_here : (k : ℕ) (closed : Bool) (i : ℕ) (w : VariantModel) (e : Entry) (r : Read (List Typed)) (q o : Read Typed) → k ≡ allowed s.models
      → r ≡ content_at s k (variant_content closed w) e.1 → q ≡ read_map (variant_of i) r → o ≡ under e.0 q → o ≡ inside_at s closed i w e
  inside_here k closed i w e r q o l is a u =
      u ∙ ap (under e.0) (a ∙ ap (read_map (variant_of i)) (is ∙ ap (λ j. content_at s j (variant_content closed w) e.1) l))

  module _ (k : ℕ) (closed : Bool) (w : VariantModel) (v : Value) where
    by_style : (st : Style) → w.style ≡ st → content_at s k (fields_content closed st w.fields) v ≡ content_at s k (variant_content closed w) v
    by_style st h = ap (λ z. content_at s k (fields_content closed z w.fields) v) (sym h)

    pub struct_content : (fs : List FieldModel) (o : Read (List Typed)) → w.style ≡ struct_style → fs ≡ w.fields → o ≡ struct_at s closed fs v → o ≡ content_at s k (variant_content closed w) v
    struct_content fs o h e is = is ∙ ap (λ gs. struct_at s closed gs v) e ∙ by_style struct_style h

    pub tuple_content : (fs : List FieldModel) (n : Option ℕ) (o : Read (List Typed)) → w.style ≡ tuple_style → fs ≡ w.fields → n ≡ Some (length (map (λ f. f.field_type) fs))
        → o ≡ demanded s (by_place (map (λ f. f.field_type) fs)) n v → o ≡ content_at s k (variant_content closed w) v
    tuple_content fs n o h e l is =
        is ∙ ap (λ m. demanded s (by_place (map (λ f. f.field_type) fs)) m v) l ∙ sym (tuple_is s (map (λ f. f.field_type) fs) v)
        ∙ ap (λ gs. content_at s k (fields_content closed tuple_style gs) v) e ∙ by_style tuple_style h

    pub only_content : (fs : List FieldModel) (o : Read (List Typed)) → w.style ≡ newtype_style → fs ≡ w.fields → o ≡ only_at s k fs v → o ≡ content_at s k (variant_content closed w) v
    only_content fs o h e is = is ∙ ap (λ gs. only_at s k gs v) e ∙ only_is k closed w.fields v ∙ by_style newtype_style h

    pub unit_content : (r : Read Typed) (o : Read (List Typed)) → w.style ≡ unit_style → r ≡ unit_read v → o ≡ read_map (λ x. x ∷ []) r → o ≡ content_at s k (variant_content closed w) v
    unit_content r o h e is = is ∙ ap (read_map (λ x. x ∷ [])) e ∙ by_style unit_style h

    pub unit_variant : (i : ℕ) (b : Bool) (r : Read (List Typed)) (o : Read Typed) → b ≡ is_unit w → b ≡ true → r ≡ content_at s k (variant_content closed w) v → o ≡ read_map (unit_of i) r
        → o ≡ variant_at s k closed i w v
    unit_variant i b r o h t is a =
        a ∙ ap (read_map (unit_of i)) is
        ∙ ap (λ c. cond c (read_map (unit_of i) (content_at s k (variant_content closed w) v)) (read_map (variant_of i) (content_at s k (variant_content closed w) v))) (sym t ∙ h)

    pub other_variant : (i : ℕ) (b : Bool) (r : Read (List Typed)) (o : Read Typed) → b ≡ is_unit w → b ≡ false → r ≡ content_at s k (variant_content closed w) v → o ≡ read_map (variant_of i) r
        → o ≡ variant_at s k closed i w v
    other_variant i b r o h t is a =
        a ∙ ap (read_map (variant_of i)) is
        ∙ ap (λ c. cond c (read_map (unit_of i) (content_at s k (variant_content closed w) v)) (read_map (variant_of i) (content_at s k (variant_content closed w) v))) (sym t ∙ h)
