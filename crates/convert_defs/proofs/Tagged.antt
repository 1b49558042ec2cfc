-- Internal enums, all branches together.
use Rattle.schema_defs.specs.declared.Setting.{Setting}
use Rattle.std.proofs.Common.{◌≡◌, ℕ, suc, List, [], ◌∷◌, map, Bool, true, false, ◌&&◌, ◌||◌, not, Option, Some, None, option_map, option_and_then, refl, sym, ap, ◌∙◌, subst, bytes_eq}
use Rattle.std.specs.Prelude.{if◌then◌else◌}
use Rattle.std.specs.List.{list_all, list_any}
use Rattle.std.proofs.lemmas.Slice.Eq.{bytes_eq-Decides}
use Rattle.json_value.specs.Value as value
use Rattle.json_value.specs.Value.{Value, Members, same, null, number, fraction, text, list, member_at, has_name}
use Rattle.schema_defs.specs.Location.{Step, place}
use Rattle.schema_defs.specs.Texts.{Relations}
use Rattle.schema_defs.specs.Schema.{Schema, boolean, no_same, no_lists, no_named, MaybeSchema, no_schema, the_schema, Schemas, no_more, schema, Document}
use Rattle.schema_defs.specs.Layer.{Parts, property_at}
use Rattle.model_defs.specs.Model.{internal_tag}
use Rattle.model_defs.specs.Layer as model
use Rattle.model_defs.specs.Layer.{MemberPart, object_parts, members_in, without}
use Rattle.entry_defs.specs.Entry.{Target, Entry, no_rest, no_fields, VariantEntry, fields_of, variants_of}
use Rattle.entry_defs.specs.Layer as entry
use Rattle.entry_defs.specs.Layer.{entry_takes, variant_named, variant_of_text, tagged_variant, beside_tag, internal_takes, members_take}
use Rattle.entry_defs.specs.Members.{names_differ, AreMembers}
use Rattle.entry_defs.proofs.Members.{members_one_by_one}
use Rattle.convert_defs.specs.Row.{Way, narrowed, here, mixed_branches_note, Part, FieldRow, field_parts, body_parts, VariantRow, variants_parts, enum_row, by_shape}
use Rattle.convert_defs.specs.IntegerRow.{note_if}
use Rattle.convert_defs.specs.Standing.{no_keyword}
use Rattle.enum_defs.specs.Words.{is_name, names_of, all_some}
use Rattle.convert_defs.proofs.PlacedShapes.{ObjectShape, object_shape, constant_at, tag_texts, are_tags, is_tag, are_distinct, branch_fields, internal_variant, some_closed}
use Rattle.convert_defs.specs.Shapes.{Member, members_from, words_or_none, body_of_fields, TaggedShape, internal_members as internal_shape}
use Rattle.enum_defs.specs.Shapes.{constant_text, constant_in}
use Rattle.convert_defs.specs.Apart.{differ, is_apart, all_apart}
use Rattle.convert_defs.specs.Table.{one_of_internal}
use Rattle.convert_defs.specs.Convert.{row_fields, body_content, row_variants, entry_of}
use Rattle.convert_defs.specs.Laws.{Keeps, same_way}
use Rattle.convert_defs.proofs.Keeps.{keep-equal, keep-from, keep-to, free-note, free-left}
use Rattle.convert_defs.proofs.Bare.{and_left, and_right, impossible, none-some, some-same, or_left, or_right}
use Rattle.convert_defs.proofs.Views.{View, of_null, of_boolean, of_number, of_text, of_list, of_object, IsConverted, AllParts}
use Rattle.convert_defs.proofs.Rows.{IsSound, IsClean, parts-left, parts-right, parts-weaker}
use Rattle.convert_defs.proofs.Objects.{same-differ, rest-both}
use Rattle.convert_defs.proofs.ObjectShapes.{shape_member, shape_judge, shape-judged}
use Rattle.convert_defs.proofs.OneOf.{One, Counted}
use Rattle.convert_defs.proofs.External.{names, keyed, required-within}
use Rattle.convert_defs.proofs.Differ.{distinct-differ, head-alone}
use Rattle.convert_defs.proofs.Fine.{branch-names, member-shape}
use Rattle.convert_defs.proofs.Openness.{AllOpen, open-each}
use Rattle.convert_defs.proofs.Internal.{Told, AllTold, counted-told, text_in, tag_key, text-there, beside-members, branch_takes, branch-keeps, tag-value, all-has}
use Rattle.convert_defs.proofs.PlacedShapes.{internal_with}
use Rattle.convert_defs.proofs.SameShapes.{whole, internal-found}

constant-there : (m : MaybeSchema) (s : List ℕ) → constant_in m ≡ Some s → (u : Schema) × (m ≡ the_schema u) × (constant_text u ≡ Some s)
constant-there no_schema s h = none-some s h
constant-there (the_schema u) s h = (u, refl, h)

module _ (way : Way) (P : List ℕ → Type 0) (st : Setting) (R : Schema → Entry → Type 0) (conv : Part → Entry) (r : Relations) (fol : List ℕ → Bool) (tgt : Target → Bool) (v : Value) (ps : Parts) (es : model.Parts entry.Judge) (w : View way st R r v ps es) where
  module _ (tag : List ℕ) (closed : Bool) where
    abbrev inside : VariantRow → Bool
    inside x = beside_tag closed (without tag (members_in es)) (body_content conv (internal_tag tag) closed x.body)

    abbrev made_variants : List VariantRow → List VariantEntry
    made_variants xs = variants_of (row_variants conv (internal_tag tag) closed xs)

    abbrev says_by : Option (List ℕ) → VariantRow → Bool
    says_by key x = keyed x.name key && inside x

    other-named : (n : List ℕ) (xs : List VariantRow) → is_name n (names xs) ≡ false → list_any (says_by (Some n)) xs ≡ false
    other-named n [] g = refl
    other-named n (x ∷ xs) g =
        let a = or_left (bytes_eq n x.name) (is_name n (names xs)) g in
        let b = other-named n xs (or_right (bytes_eq n x.name) (is_name n (names xs)) g) in
        λ i. (a i && inside x) || b i

    named-says : (n : List ℕ) (xs : List VariantRow) → differ (names xs) ≡ true → internal_takes closed tag (members_in es) (variant_named n (made_variants xs)) ≡ list_any (says_by (Some n)) xs
    named-says n [] d = refl
    named-says n (x ∷ xs) d = by (bytes_eq n x.name) refl (named-says n xs (and_right (list_all (λ m. not (bytes_eq x.name m)) (names xs)) _ d))
      where
        or-false : (b : Bool) → b ≡ (b || false)
        or-false true = refl
        or-false false = refl

        by : (b : Bool) → bytes_eq n x.name ≡ b → internal_takes closed tag (members_in es) (variant_named n (made_variants xs)) ≡ list_any (says_by (Some n)) xs
            → internal_takes closed tag (members_in es) (if b then Some (record { identifier = x.name; name = x.name; contents = body_content conv (internal_tag tag) closed x.body }) else variant_named n (made_variants xs)) ≡ (b && inside x || list_any (says_by (Some n)) xs)
        by true e f = or-false (inside x) ∙ ap (λ b. inside x || b) (sym (other-named n xs (ap (λ m. is_name m (names xs)) ((bytes_eq-Decides n x.name).0 e) ∙ head-alone x.name (names xs) d)))
        by false e f = f

    none-named : (xs : List VariantRow) → false ≡ list_any (says_by None) xs
    none-named [] = refl
    none-named (x ∷ xs) = none-named xs

    text-says : (a : Option Value) (xs : List VariantRow) → differ (names xs) ≡ true → internal_takes closed tag (members_in es) (variant_of_text (made_variants xs) a) ≡ list_any (says_by (text_in a)) xs
    text-says None xs d = none-named xs
    text-says (Some null) xs d = none-named xs
    text-says (Some (value.boolean b)) xs d = none-named xs
    text-says (Some (number z)) xs d = none-named xs
    text-says (Some fraction) xs d = none-named xs
    text-says (Some (text s)) xs d = named-says s xs d
    text-says (Some (list ys)) xs d = none-named xs
    text-says (Some (value.object ms)) xs d = none-named xs

    enum-says : (u : Value) (xs : List VariantRow) → differ (names xs) ≡ true → internal_takes closed tag (members_in es) (tagged_variant tag (made_variants xs) u) ≡ list_any (says_by (tag_key tag u)) xs
    enum-says null xs d = none-named xs
    enum-says (value.boolean b) xs d = none-named xs
    enum-says (number z) xs d = none-named xs
    enum-says fraction xs d = none-named xs
    enum-says (text s) xs d = none-named xs
    enum-says (list ys) xs d = none-named xs
    enum-says (value.object ms) xs d = text-says (member_at tag ms) xs d

    -- ---- one branch

    body-takes : (xs : List (MemberPart entry.Judge)) (fs : List FieldRow) → beside_tag closed xs (body_content conv (internal_tag tag) closed (body_of_fields fs)) ≡ members_take closed (fields_of (row_fields conv fs no_fields)) no_rest xs
    body-takes xs [] = refl
    body-takes xs (f ∷ fs) = ap (λ o. members_take closed (fields_of (row_fields conv (f ∷ fs) no_fields)) o xs) (rest-both way st R conv r (f ∷ fs) no_fields)

    body-fields : (fs : List FieldRow) → AllParts (IsSound way P st R conv r fol tgt v ps es w) (body_parts (body_of_fields fs)) → AllParts (IsConverted way st R conv) (field_parts fs)
    body-fields [] h = tt
    body-fields (f ∷ fs) h = parts-weaker _ (IsConverted way st R conv) (λ p g. g.0) (field_parts (f ∷ fs)) h

    module _ (m : Member) (o : ObjectShape) (e : object_shape m ≡ Some o) (s : List ℕ) (c : constant_at tag o ≡ Some s) (req : is_name tag o.required_names ≡ true) (apart : is_apart m.1 ≡ true) (open_way : Keeps way (not o.closed) (not closed))
        (sound : AllParts (IsSound way P st R conv r fol tgt v ps es w) (body_parts (internal_variant st tag o).body)) where
      abbrev u : Schema
      u = (constant-there (property_at tag o.props) s c).0

      here_u : property_at tag o.props ≡ the_schema u
      here_u = (constant-there (property_at tag o.props) s c).1

      const : constant_text u ≡ Some s
      const = (constant-there (property_at tag o.props) s c).2

      within : list_all (λ n. is_name n (names_of o.props)) o.required_names ≡ true
      within = required-within way P st R conv r fol tgt v ps es w m o e

      fields_differ : names_differ (fields_of (row_fields conv (branch_fields st tag o) no_fields)) ≡ true
      fields_differ = same-differ way st R conv r (branch_fields st tag o) ∙ branch-names P r (record { setting = st; root = boolean true; definitions = [] }) no_keyword no_same no_lists no_named tag o (member-shape P r (record { setting = st; root = boolean true; definitions = [] }) no_keyword no_same no_lists no_named m o apart e)

      inside-is : (ks : List (MemberPart entry.Judge)) → AreMembers ks → beside_tag closed (without tag ks) (body_content conv (internal_tag tag) closed (internal_variant st tag o).body)
          ≡ branch_takes way st R conv r tag o u s here_u const req within closed open_way (body-fields (branch_fields st tag o) sound) ks
      inside-is ks am = body-takes (without tag ks) (branch_fields st tag o) ∙ members_one_by_one closed (fields_of (row_fields conv (branch_fields st tag o) no_fields)) no_rest (without tag ks) tt fields_differ (beside-members tag ks am)

      said : {v : Value} {ps : Parts} {es : model.Parts entry.Judge} → View way st R r v ps es → Keeps way (shape_judge o v ps) (keyed s (tag_key tag v) && beside_tag closed (without tag (members_in es)) (body_content conv (internal_tag tag) closed (internal_variant st tag o).body))
      said (of_null ps) = keep-equal way _ _ refl
      said (of_boolean b ps) = keep-equal way _ _ refl
      said (of_number z ps f) = keep-equal way _ _ refl
      said (of_text t ps) = keep-equal way _ _ refl
      said (of_list xs ps ks f) = keep-equal way _ _ refl
      said (of_object ms ps ks h am) =
          keep-to way _ _ _ (branch-keeps way st R conv r tag o u s here_u const req within closed open_way (body-fields (branch_fields st tag o) sound) ps.name ms ps.members ks h am.1.0 am.0)
          (ap (λ b. keyed s (text_in (member_at tag ms)) && b) (sym (inside-is ks am.0)))

      touched : {v : Value} {ps : Parts} {es : model.Parts entry.Judge} → View way st R r v ps es → (n : List ℕ) → tag_key tag v ≡ Some n → shape_judge o v ps ≡ true → bytes_eq n s ≡ true
      touched (of_null ps) n k x = impossible x
      touched (of_boolean b ps) n k x = impossible x
      touched (of_number z ps f) n k x = impossible x
      touched (of_text t ps) n k x = impossible x
      touched (of_list xs ps ks f) n k x = impossible x
      touched (of_object ms ps ks h am) n k x =
          let y = tag-value way st R conv r tag o u s here_u const req within closed open_way (body-fields (branch_fields st tag o) sound) ps.name ms ps.members ks h am.1.0 (and_left _ _ x)
          (all-has way st R conv r tag o u s here_u const req within closed open_way (body-fields (branch_fields st tag o) sound) (λ n. has_name n ms) o.required_names (and_right (list_all (shape_member o) ps.members) _ x) tag req) in
          ap (λ z. same z (text s)) (some-same (text n) y.0 (sym (text-there (member_at tag ms) n k) ∙ y.1)) ∙ y.2

      told : Told way P st R conv r fol tgt v ps es w (tag_key tag v) inside m.1 (internal_variant st tag o)
      told =
          let j = shape-judged way st R r m o e v ps es w fol in
          let a = ap words_or_none c in
          record {
            keeps = keep-from way _ _ _ j (keep-to way _ _ _ (said w) (ap (λ n. keyed n (tag_key tag v) && inside (internal_variant st tag o)) (sym a)));
            touches = λ n k x. ap (bytes_eq n) a ∙ touched w n k (sym j ∙ x);
          }

    -- ---- all branches

    split-some : {A B : Type 0} (f : A → Option B) (x : A) (xs : List A) (ys : List B) → all_some f (x ∷ xs) ≡ Some ys → (y : B) × (zs : List B) × (f x ≡ Some y) × (all_some f xs ≡ Some zs) × (y ∷ zs ≡ ys)
    split-some f x xs ys h = by (f x) refl (all_some f xs) refl h
      where
        by : (a : Option _) → f x ≡ a → (b : Option (List _)) → all_some f xs ≡ b → option_and_then (λ y. option_map (λ ys. y ∷ ys) (all_some f xs)) a ≡ Some ys → (y : _) × (zs : List _) × (f x ≡ Some y) × (all_some f xs ≡ Some zs) × (y ∷ zs ≡ ys)
        by None g b j h = none-some ys h
        by (Some y) g None j h = none-some ys (ap (option_map (λ ys. y ∷ ys)) (sym j) ∙ h)
        by (Some y) g (Some zs) j h = (y, zs, g, j, some-same (y ∷ zs) ys (ap (option_map (λ ys. y ∷ ys)) (sym j) ∙ h))

    abbrev Sound : List VariantRow → Type 0
    Sound xs = AllParts (IsSound way P st R conv r fol tgt v ps es w) (variants_parts xs)

    all-told : (k : Step) (i : ℕ) (us : Schemas) (os : List ObjectShape) (ts : List (List ℕ)) → all_some object_shape (members_from k i us) ≡ Some os → all_some (constant_at tag) os ≡ Some ts → list_all (λ o. is_name tag o.required_names) os ≡ true → all_apart us ≡ true
        → AllOpen way closed os → Sound (map (internal_variant st tag) os) → AllTold way P st R conv r fol tgt v ps es w (tag_key tag v) inside us (map (internal_variant st tag) os)
    all-told k i no_more os ts e f g a z q = subst (λ xs. AllTold way P st R conv r fol tgt v ps es w (tag_key tag v) inside no_more (map (internal_variant st tag) xs)) (some-same [] os e) tt
    all-told k i (schema s ss) [] ts e f g a z q = let x = split-some object_shape (k ∷ place i ∷ [], s) (members_from k (suc i) ss) [] e in impossible (sym (ap (λ xs. elim xs [ [] ↦ false | y ∷ ys ↦ true ]) x.4))
    all-told k i (schema s ss) (o ∷ os) ts e f g a z q =
        let x = split-some object_shape (k ∷ place i ∷ [], s) (members_from k (suc i) ss) (o ∷ os) e in
        let y = split-some (constant_at tag) o os ts f in
        let same_o = ap (λ xs. elim xs [ [] ↦ o | y ∷ ys ↦ y ]) x.4 in
        let same_os = ap (λ xs. elim xs [ [] ↦ [] | y ∷ ys ↦ ys ]) x.4 in (
          told (k ∷ place i ∷ [], s) o (x.2 ∙ ap Some same_o) y.0 y.2 (and_left _ _ g) (and_left _ _ a) z.0 (parts-left (IsSound way P st R conv r fol tgt v ps es w) (body_parts (internal_variant st tag o).body) (variants_parts (map (internal_variant st tag) os)) q),
          all-told k (suc i) ss os y.1 (x.3 ∙ ap Some same_os) y.3 (and_right (is_name tag o.required_names) _ g) (and_right (is_apart s) _ a) z.1 (parts-right (IsSound way P st R conv r fol tgt v ps es w) (body_parts (internal_variant st tag o).body) (variants_parts (map (internal_variant st tag) os)) q),
        )

    texts-are : (os : List ObjectShape) (ts : List (List ℕ)) → all_some (constant_at tag) os ≡ Some ts → names (map (internal_variant st tag) os) ≡ ts
    texts-are [] ts f = some-same [] ts f
    texts-are (o ∷ os) ts f =
        let y = split-some (constant_at tag) o os ts f in
        let a = ap words_or_none y.2 in
        let b = texts-are os y.1 y.3 in
        (λ i. a i ∷ b i) ∙ y.4

  pub internal-holds : (d : Document) (name : List ℕ) (k : Step) (us : Schemas) → all_apart us ≡ true → (t : TaggedShape) → internal_shape st (members_from k 0 us) ≡ Some t → One way P st R conv r fol tgt v ps es w name us (one_of_internal d (members_from k 0 us) (Some t))
  internal-holds d name k us a t e = λ g0 c q. let f = internal-found st (members_from k 0 us) t e in made (map whole (members_from k 0 us)) f.shapes f.tag f.is_one t f.made c q
    where
      tags : (os : List ObjectShape) (n : List ℕ) → is_tag os n ≡ true → (ts : List (List ℕ)) × (tag_texts os n ≡ Some ts) × (are_distinct ts ≡ true) × (list_all (λ o. is_name n o.required_names) os ≡ true)
      tags os n h = by (tag_texts os n) refl h
        where
          by : (x : Option (List (List ℕ))) → tag_texts os n ≡ x → are_tags n os x ≡ true → (ts : List (List ℕ)) × (tag_texts os n ≡ Some ts) × (are_distinct ts ≡ true) × (list_all (λ o. is_name n o.required_names) os ≡ true)
          by None f h = impossible h
          by (Some ts) f h = (ts, f, and_left _ _ h, and_right (are_distinct ts) _ h)

      made : (os : List ObjectShape) → all_some object_shape (members_from k 0 us) ≡ Some os → (n : List ℕ) → is_tag os n ≡ true
          → (x : TaggedShape) → x ≡ internal_with st os n
          → IsClean way (one_of_internal d (members_from k 0 us) (Some x)) → AllParts (IsSound way P st R conv r fol tgt v ps es w) (variants_parts x.variants)
          → Keeps way (Counted way P st R conv r fol tgt v ps es w us) (entry_takes r v es tgt (entry_of conv name (enum_row (internal_tag x.tag) (by_shape x.closed) x.variants)))
      made os f n h x z c q =
          let y = tags os n h in
          let closed = some_closed os in
          let rows = map (internal_variant st n) os in
          let mix : same_way way narrowed ≡ true → (some_closed os && list_any (λ o. not o.closed) os) ≡ false = λ u. sym (ap (λ t. t.mixed) z) ∙ free-note way x.mixed (here narrowed mixed_branches_note) (free-left way (note_if x.mixed (here narrowed mixed_branches_note)) _ c.0) u in
          let told = all-told n closed k 0 us os y.0 f y.1 y.3 a (open-each way closed os mix (λ g. g)) (subst (λ t. AllParts (IsSound way P st R conv r fol tgt v ps es w) (variants_parts t.variants)) z q) in
          let d = ap differ (texts-are n closed os y.0 y.1) ∙ distinct-differ y.0 y.2 in
          keep-to way _ _ _ (counted-told way P st R conv r fol tgt v ps es w (tag_key n v) (inside n closed) us rows told d)
          (sym (enum-says n closed v rows d) ∙ ap (λ t. entry_takes r v es tgt (entry_of conv name (enum_row (internal_tag t.tag) (by_shape t.closed) t.variants))) (sym z))
