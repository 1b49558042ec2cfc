-- Adjacent enums, all branches together.
use Rattle.schema_defs.specs.declared.Setting.TheVariants.{Strict}
use Rattle.schema_defs.specs.declared.Setting.{Setting}
use Rattle.schema_defs.specs.Layer.{MemberPart as SchemaMember}
use Rattle.std.proofs.Common.{◌≡◌, ◌⊎◌, inl, inr, ℕ, suc, List, [], ◌∷◌, ◌++◌, map, Bool, true, false, ◌&&◌, ◌||◌, not, Option, Some, None, option_map, option_and_then, refl, sym, ap, ◌∙◌, subst, true≢false, codes, bytes_eq}
use Rattle.std.specs.Prelude.{if◌then◌else◌}
use Rattle.std.specs.List.{list_all, list_any, flat_map}
use Rattle.std.proofs.lemmas.Slice.Eq.{bytes_eq-Decides}
use Rattle.json_value.specs.Value as value
use Rattle.json_value.specs.Value.{Value, Members, same, null, number, fraction, text, list, member_at, has_name}
use Rattle.schema_defs.specs.Location.{Step, place}
use Rattle.schema_defs.specs.Texts.{Relations}
use Rattle.schema_defs.specs.Schema.{Schema, MaybeSchema, Properties, no_properties, property, no_schema, the_schema, Schemas, no_more, schema, Document}
use Rattle.schema_defs.specs.Layer.{Parts, property_at, is_given, maybe}
use Rattle.model_defs.specs.Model.{adjacent_tag}
use Rattle.model_defs.specs.Layer as model
use Rattle.model_defs.specs.Layer.{MemberPart, object_parts, members_in, named, without, is_none}
use Rattle.entry_defs.specs.Entry.{Target, Entry, boolean_entry, integer_entry, text_entry, native_entry, any_entry, unit_entry, option_entry, vec_entry, set_entry, map_entry, tuple_entry, array_entry, reference, item, struct_shape, enum_shape, newtype_shape, rest_of, newtype_contents, tuple_contents, struct_contents, VariantEntry, variants_of}
use Rattle.entry_defs.specs.Layer as entry
use Rattle.entry_defs.specs.Layer.{entry_takes, variant_named, variant_of_text, tagged_variant, is_unit, contents_entry, beside_content, adjacent_takes}
use Rattle.entry_defs.specs.Members.{has_member, AreMembers}
use Rattle.convert_defs.specs.Row.{Way, narrowed, widened, here, mixed_branches_note, tag_alone_note, Part, of_branch, unit_body, part_body, VariantBody, body_parts, VariantRow, variants_parts, enum_row, by_shape}
use Rattle.convert_defs.specs.IntegerRow.{note_if}
use Rattle.convert_defs.specs.Owners.{property_fields}
use Rattle.enum_defs.specs.Words.{is_name, names_of, all_some}
use Rattle.convert_defs.proofs.PlacedShapes.{has_tag_alone, are_all_required, ObjectShape, object_shape, constant_at, tag_texts, are_tags, is_tag, are_distinct, adjacent_variant, some_closed, adjacent_with}
use Rattle.convert_defs.specs.Shapes.{placed_field, is_no_property, Member, members_from, words_or_none, less_property, body_of_field, TaggedShape, adjacent_members as adjacent_shape}
use Rattle.enum_defs.specs.Shapes.{constant_text, constant_in}
use Rattle.convert_defs.specs.Apart.{differ, is_apart, all_apart}
use Rattle.convert_defs.specs.Table.{one_of_adjacent}
use Rattle.convert_defs.specs.Convert.{same_flag, is_without_rest, has_two_places, content_of, body_content, row_variants, entry_of}
use Rattle.convert_defs.specs.Laws.{Keeps, same_way}
use Rattle.convert_defs.proofs.Keeps.{keep-equal, keep-from, keep-to, free-note, free-left, free-right}
use Rattle.convert_defs.proofs.Bare.{and_left, and_right, and_true, impossible, none-some, some-same, or_left, or_right}
use Rattle.convert_defs.proofs.Views.{View, of_null, of_boolean, of_number, of_text, of_list, of_object, JudgesMatch, AllParts}
use Rattle.convert_defs.proofs.Rows.{IsSound, IsClean, parts-left, parts-right}
use Rattle.convert_defs.proofs.ObjectShapes.{bound_member, bound_judge, bound-judged, given-name}
use Rattle.convert_defs.proofs.OneOf.{One, Counted}
use Rattle.convert_defs.proofs.External.{names, keyed, required-within}
use Rattle.convert_defs.proofs.Differ.{distinct-differ, head-alone}
use Rattle.convert_defs.proofs.Contents.{content-judged}
use Rattle.convert_defs.proofs.Adjacent.{named-once, adjacent-keeps, tag-value}
use Rattle.convert_defs.proofs.Openness.{AllOpen, open-each, open-rest}
use Rattle.convert_defs.proofs.Internal.{Told, AllTold, counted-told, text_in, tag_key, text-there, less-same}
use Rattle.convert_defs.proofs.SameShapes.{whole, adjacent-found}

constant-there : (m : MaybeSchema) (s : List ℕ) → constant_in m ≡ Some s → (u : Schema) × (m ≡ the_schema u) × (constant_text u ≡ Some s)
constant-there no_schema s h = none-some s h
constant-there (the_schema u) s h = (u, refl, h)

module _ (way : Way) (P : List ℕ → Type 0) (st : Setting) (R : Schema → Entry → Type 0) (conv : Part → Entry) (r : Relations) (fol : List ℕ → Bool) (tgt : Target → Bool) (v : Value) (ps : Parts) (es : model.Parts entry.Judge) (w : View way st R r v ps es) where
  module _ (tag content : List ℕ) (closed : Bool) where
    abbrev inside : VariantRow → Bool
    inside x = (not closed || is_none (without content (without tag (members_in es)))) && beside_content closed (body_content conv (adjacent_tag tag content) closed x.body) (named content (members_in es))

    abbrev made_variants : List VariantRow → List VariantEntry
    made_variants xs = variants_of (row_variants conv (adjacent_tag tag content) closed xs)

    abbrev says_by : Option (List ℕ) → VariantRow → Bool
    says_by key x = keyed x.name key && inside x

    other-named : (n : List ℕ) (xs : List VariantRow) → is_name n (names xs) ≡ false → list_any (says_by (Some n)) xs ≡ false
    other-named n [] g = refl
    other-named n (x ∷ xs) g =
        let a = or_left (bytes_eq n x.name) (is_name n (names xs)) g in
        let b = other-named n xs (or_right (bytes_eq n x.name) (is_name n (names xs)) g) in
        λ i. (a i && inside x) || b i

    named-says : (n : List ℕ) (xs : List VariantRow) → differ (names xs) ≡ true → adjacent_takes closed tag content (members_in es) (variant_named n (made_variants xs)) ≡ list_any (says_by (Some n)) xs
    named-says n [] d = refl
    named-says n (x ∷ xs) d = by (bytes_eq n x.name) refl (named-says n xs (and_right (list_all (λ m. not (bytes_eq x.name m)) (names xs)) _ d))
      where
        or-false : (b : Bool) → b ≡ (b || false)
        or-false true = refl
        or-false false = refl

        by : (b : Bool) → bytes_eq n x.name ≡ b → adjacent_takes closed tag content (members_in es) (variant_named n (made_variants xs)) ≡ list_any (says_by (Some n)) xs
            → adjacent_takes closed tag content (members_in es) (if b then Some (record { identifier = x.name; name = x.name; contents = body_content conv (adjacent_tag tag content) closed x.body }) else variant_named n (made_variants xs)) ≡ (b && inside x || list_any (says_by (Some n)) xs)
        by true e f = or-false (inside x) ∙ ap (λ b. inside x || b) (sym (other-named n xs (ap (λ m. is_name m (names xs)) ((bytes_eq-Decides n x.name).0 e) ∙ head-alone x.name (names xs) d)))
        by false e f = f

    none-named : (xs : List VariantRow) → false ≡ list_any (says_by None) xs
    none-named [] = refl
    none-named (x ∷ xs) = none-named xs

    text-says : (a : Option Value) (xs : List VariantRow) → differ (names xs) ≡ true → adjacent_takes closed tag content (members_in es) (variant_of_text (made_variants xs) a) ≡ list_any (says_by (text_in a)) xs
    text-says None xs d = none-named xs
    text-says (Some null) xs d = none-named xs
    text-says (Some (value.boolean b)) xs d = none-named xs
    text-says (Some (number z)) xs d = none-named xs
    text-says (Some fraction) xs d = none-named xs
    text-says (Some (text s)) xs d = named-says s xs d
    text-says (Some (list ys)) xs d = none-named xs
    text-says (Some (value.object ms)) xs d = none-named xs

    enum-says : (u : Value) (xs : List VariantRow) → differ (names xs) ≡ true → adjacent_takes closed tag content (members_in es) (tagged_variant tag (made_variants xs) u) ≡ list_any (says_by (tag_key tag u)) xs
    enum-says null xs d = none-named xs
    enum-says (value.boolean b) xs d = none-named xs
    enum-says (number z) xs d = none-named xs
    enum-says fraction xs d = none-named xs
    enum-says (text s) xs d = none-named xs
    enum-says (list ys) xs d = none-named xs
    enum-says (value.object ms) xs d = text-says (member_at tag ms) xs d

    -- ---- one branch

    pub no-part : (e : Entry) → is_unit (content_of (adjacent_tag tag content) closed e) ≡ false
    no-part (tuple_entry us) = by (has_two_places us)
      where
        by : (b : Bool) → is_unit (if b then tuple_contents us else newtype_contents (tuple_entry us)) ≡ false
        by true = refl
        by false = refl
    no-part unit_entry = refl
    no-part (item l (struct_shape c fs)) = by (same_flag c closed && is_without_rest (rest_of fs))
      where
        by : (b : Bool) → is_unit (if b then struct_contents fs else newtype_contents (item l (struct_shape c fs))) ≡ false
        by true = refl
        by false = refl
    no-part (item l (enum_shape c t ws)) = refl
    no-part (item l (newtype_shape e u)) = refl
    no-part boolean_entry = refl
    no-part (integer_entry g) = refl
    no-part text_entry = refl
    no-part (native_entry f) = refl
    no-part any_entry = refl
    no-part (option_entry e) = refl
    no-part (vec_entry e) = refl
    no-part (set_entry e) = refl
    no-part (map_entry m e) = refl
    no-part (array_entry e n) = refl
    no-part (reference t) = refl

    -- each name is the tag's or the content's
    abbrev Within : ObjectShape → Type 0
    Within o = (n : List ℕ) → is_name n (names_of o.props) ≡ true → (bytes_eq n tag || bytes_eq n content) ≡ true

    -- each property is required, and a branch with the tag alone is closed where that is noted
    abbrev Right : ObjectShape → Type 0
    Right o = (list_all (λ n. is_name n o.required_names) (names_of o.props) ≡ true) × (same_way way narrowed ≡ true → less_property tag o.props ≡ no_properties → o.closed ≡ true)

    abbrev AllWithin : List ObjectShape → Type 0
    AllWithin [] = Unit {0}
    AllWithin (o ∷ os) = Within o × AllWithin os

    abbrev AllRight : List ObjectShape → Type 0
    AllRight [] = Unit {0}
    AllRight (o ∷ os) = Right o × AllRight os

    module _ (apart_names : bytes_eq content tag ≡ false) where
      abbrev body_says : VariantBody → List (MemberPart entry.Judge) → Bool
      body_says b ks = beside_content closed (body_content conv (adjacent_tag tag content) closed b) ks

      module _ (m : Member) (o : ObjectShape) (e : object_shape m ≡ Some o) (s : List ℕ) (c : constant_at tag o ≡ Some s) (req : is_name tag o.required_names ≡ true) (apart : is_apart m.1 ≡ true) (wi : Within o) (ri : Right o) (open_way : Keeps way (not o.closed) (not closed)) where
        abbrev u : Schema
        u = (constant-there (property_at tag o.props) s c).0

        here_u : property_at tag o.props ≡ the_schema u
        here_u = (constant-there (property_at tag o.props) s c).1

        const : constant_text u ≡ Some s
        const = (constant-there (property_at tag o.props) s c).2

        within : list_all (λ n. is_name n (names_of o.props)) o.required_names ≡ true
        within = required-within way P st R conv r fol tgt v ps es w m o e

        abbrev REQ : Members → Bool
        REQ ms = list_all (λ n. has_name n ms) o.required_names

        holds-at : (f : List ℕ → Bool) (ns : List (List ℕ)) → list_all f ns ≡ true → (n : List ℕ) → is_name n ns ≡ true → f n ≡ true
        holds-at f [] h n g = impossible g
        holds-at f (x ∷ ns) h n g = by (bytes_eq n x) refl g (holds-at f ns (and_right (f x) _ h) n)
          where
            by : (b : Bool) → bytes_eq n x ≡ b → (b || is_name n ns) ≡ true → (is_name n ns ≡ true → f n ≡ true) → f n ≡ true
            by true y g k = ap f ((bytes_eq-Decides n x).0 y) ∙ and_left _ _ h
            by false y g k = k g

        all-at : (f : List ℕ → Bool) (ns : List (List ℕ)) → ((n : List ℕ) → is_name n ns ≡ true → f n ≡ true) → list_all f ns ≡ true
        all-at f [] g = refl
        all-at f (n ∷ ns) g =
            let a = g n (ap (λ b. b || is_name n ns) ((bytes_eq-Decides n n).1 refl)) in
            let b = all-at f ns (λ x h. g x (later (bytes_eq x n) (is_name x ns) h)) in
            λ i. a i && b i
          where
            later : (a b : Bool) → b ≡ true → (a || b) ≡ true
            later true b h = refl
            later false b h = h

        tag_there : (ms : Members) → REQ ms ≡ true → has_name tag ms ≡ true
        tag_there ms h = holds-at (λ n. has_name n ms) o.required_names h tag req

        -- what is required is the tag and, where a property says so, the content
        all-required : (ms : Members) → has_name tag ms ≡ true → (is_given (property_at content o.props) ≡ true → has_name content ms ≡ true) → REQ ms ≡ true
        all-required ms h g = all-at (λ n. has_name n ms) o.required_names (λ n q. let y = holds-at (λ n. is_name n (names_of o.props)) o.required_names within n q in by n (bytes_eq n tag) refl (bytes_eq n content) refl (wi n y) y)
          where
            by : (n : List ℕ) (a : Bool) → bytes_eq n tag ≡ a → (b : Bool) → bytes_eq n content ≡ b → (a || b) ≡ true → is_name n (names_of o.props) ≡ true → has_name n ms ≡ true
            by n true x b y z q = ap (λ k. has_name k ms) ((bytes_eq-Decides n tag).0 x) ∙ h
            by n false x true y z q = let k = (bytes_eq-Decides n content).0 y in ap (λ k. has_name k ms) k ∙ g (given-name content o.props ∙ ap (λ k. is_name k (names_of o.props)) (sym k) ∙ q)
            by n false x false y z q = impossible z

        turned : (a b : List ℕ) → bytes_eq a b ≡ false → bytes_eq b a ≡ false
        turned a b h = by (bytes_eq b a) refl
          where
            by : (c : Bool) → bytes_eq b a ≡ c → c ≡ false
            by true x = absurd (true≢false (sym ((bytes_eq-Decides a b).1 (sym ((bytes_eq-Decides b a).0 x))) ∙ h))
            by false x = refl

        only : (n : List ℕ) → bytes_eq tag n ≡ false → bytes_eq content n ≡ false → property_at n o.props ≡ no_schema
        only n a b = none (property_at n o.props) refl
          where
            none : (m : MaybeSchema) → property_at n o.props ≡ m → m ≡ no_schema
            none no_schema x = refl
            none (the_schema t) x = absurd (true≢false (sym (wi n (sym (given-name n o.props) ∙ ap is_given x)) ∙ (λ i. turned tag n a i || turned content n b i)))

        has-key : (ks : List (MemberPart entry.Judge)) (n : List ℕ) → has_member n ks ≡ true → (k : MemberPart entry.Judge) × (ls : List (MemberPart entry.Judge)) × (named n ks ≡ k ∷ ls)
        has-key [] n h = impossible h
        has-key (k ∷ ks) n h = by (bytes_eq n k.name) h (has-key ks n)
          where
            by : (b : Bool) → (b || has_member n ks) ≡ true → (has_member n ks ≡ true → (l : MemberPart entry.Judge) × (ls : List (MemberPart entry.Judge)) × (named n ks ≡ l ∷ ls)) → (l : MemberPart entry.Judge) × (ls : List (MemberPart entry.Judge)) × ((if b then k ∷ named n ks else named n ks) ≡ l ∷ ls)
            by true h f = (k, named n ks, refl)
            by false h f = f h

        key-has : (ks : List (MemberPart entry.Judge)) (n : List ℕ) (l : MemberPart entry.Judge) (ls : List (MemberPart entry.Judge)) → named n ks ≡ l ∷ ls → has_member n ks ≡ true
        key-has [] n l ls h = impossible (ap (λ xs. elim xs [ [] ↦ false | y ∷ ys ↦ true ]) h)
        key-has (k ∷ ks) n l ls h = by (bytes_eq n k.name) h (key-has ks n l ls)
          where
            by : (b : Bool) → (if b then k ∷ named n ks else named n ks) ≡ l ∷ ls → (named n ks ≡ l ∷ ls → has_member n ks ≡ true) → (b || has_member n ks) ≡ true
            by true h f = refl
            by false h f = f h

        tag-gone : (qs : Properties) → property_at tag (less_property tag qs) ≡ no_schema
        tag-gone no_properties = refl
        tag-gone (property k t qs) = by (bytes_eq tag k) refl (tag-gone qs)
          where
            by : (b : Bool) → bytes_eq tag k ≡ b → property_at tag (less_property tag qs) ≡ no_schema → property_at tag (if b then less_property tag qs else property k t (less_property tag qs)) ≡ no_schema
            by true x f = f
            by false x f = ap (λ b. if b then the_schema t else property_at tag (less_property tag qs)) x ∙ f

        abbrev Is : VariantBody → Type 0
        Is b = (v : Value) (ps : Parts) (es : model.Parts entry.Judge) → View way st R r v ps es → Keeps way (bound_judge o v ps) (keyed s (tag_key tag v) && ((not closed || is_none (without content (without tag (members_in es)))) && body_says b (named content (members_in es))))

        -- the tag alone
        unit-says : less_property tag o.props ≡ no_properties → Is unit_body
        unit-says z _ _ _ (of_null ps) = keep-equal way _ _ refl
        unit-says z _ _ _ (of_boolean b ps) = keep-equal way _ _ refl
        unit-says z _ _ _ (of_number y ps f) = keep-equal way _ _ refl
        unit-says z _ _ _ (of_text t ps) = keep-equal way _ _ refl
        unit-says z _ _ _ (of_list xs ps ks f) = keep-equal way _ _ refl
        unit-says z _ _ _ (of_object ms ps ks h am) =
            adjacent-keeps way st R r tag content apart_names o u s here_u const only closed open_way (λ k. false) content_way (body_says unit_body) REQ tag_there into back ps.name ms ps.members ks h am.1.0 am.0
          where
            absent : property_at content o.props ≡ no_schema
            absent = sym (less-same tag content apart_names o.props) ∙ ap (property_at content) z

            none : (m : Way) (b : Bool) → (same_way m narrowed ≡ true → o.closed ≡ true) → b ≡ not o.closed → Keeps m b false
            none narrowed b f y = λ t. absurd (true≢false (sym t ∙ y ∙ ap not (f refl)))
            none widened b f y = λ t. impossible t

            content_way : (j : SchemaMember) (k : MemberPart entry.Judge) → JudgesMatch way st R j.says k.value → bytes_eq content j.name ≡ true → Keeps way (bound_member o j) false
            content_way j k g x = none way (bound_member o j) (λ y. ri.1 y z)
                (ap (λ m. maybe j.says (property_at m o.props) && (is_given (property_at m o.props) || not o.closed)) (sym ((bytes_eq-Decides content j.name).0 x)) ∙ ap (λ m. maybe j.says m && (is_given m || not o.closed)) absent)

            into : (ms : Members) (ks : List (MemberPart entry.Judge)) → ((n : List ℕ) → has_member n ks ≡ has_name n ms) → AreMembers ks → REQ ms ≡ true → list_all (λ k. false) (named content ks) ≡ true → body_says unit_body (named content ks) ≡ true
            into ms ks g a y t = by (named content ks) t
              where
                by : (xs : List (MemberPart entry.Judge)) → list_all (λ k. false) xs ≡ true → body_says unit_body xs ≡ true
                by [] t = refl
                by (x ∷ xs) t = impossible t

            back : (ms : Members) (ks : List (MemberPart entry.Judge)) → ((n : List ℕ) → has_member n ks ≡ has_name n ms) → AreMembers ks → has_name tag ms ≡ true → body_says unit_body (named content ks) ≡ true → (list_all (λ k. false) (named content ks) ≡ true) × (REQ ms ≡ true)
            back ms ks g a y t = (by (named content ks) t, all-required ms y (λ q. absurd (true≢false (sym q ∙ ap is_given absent))))
              where
                by : (xs : List (MemberPart entry.Judge)) → body_says unit_body xs ≡ true → list_all (λ k. false) xs ≡ true
                by [] t = refl
                by (x ∷ xs) t = impossible t

        -- the content beside it
        abbrev one_says : Part → MemberPart entry.Judge → Bool
        one_says p k = k.value (contents_entry closed (content_of (adjacent_tag tag content) closed (conv p)))

        part-says : (p : Part) (t : Schema) → property_at content o.props ≡ the_schema t → R t (conv p) → Is (part_body p)
        part-says p t z q _ _ _ (of_null ps) = keep-equal way _ _ refl
        part-says p t z q _ _ _ (of_boolean b ps) = keep-equal way _ _ refl
        part-says p t z q _ _ _ (of_number y ps f) = keep-equal way _ _ refl
        part-says p t z q _ _ _ (of_text x ps) = keep-equal way _ _ refl
        part-says p t z q _ _ _ (of_list xs ps ks f) = keep-equal way _ _ refl
        part-says p t z q _ _ _ (of_object ms ps ks h am) =
            adjacent-keeps way st R r tag content apart_names o u s here_u const only closed open_way (one_says p) content_way (body_says (part_body p)) REQ tag_there into back ps.name ms ps.members ks h am.1.0 am.0
          where
            content_way : (j : SchemaMember) (k : MemberPart entry.Judge) → JudgesMatch way st R j.says k.value → bytes_eq content j.name ≡ true → Keeps way (bound_member o j) ((one_says p) k)
            content_way j k g x = keep-from way _ _ _
                (ap (λ m. maybe j.says (property_at m o.props) && (is_given (property_at m o.props) || not o.closed)) (sym ((bytes_eq-Decides content j.name).0 x)) ∙ ap (λ m. maybe j.says m && (is_given m || not o.closed)) z ∙ and_true (j.says t))
                (keep-to way _ _ _ (g.agree t (conv p) q) (sym (content-judged k.value g.labels (adjacent_tag tag content) closed (conv p))))

            beside-is : (k : MemberPart entry.Judge) (ls : List (MemberPart entry.Judge)) → body_says (part_body p) (k ∷ ls) ≡ (one_says p) k
            beside-is k ls = λ i. not (no-part (conv p) i) && k.value (contents_entry closed (content_of (adjacent_tag tag content) closed (conv p)))

            needed : is_name content o.required_names ≡ true
            needed = holds-at (λ n. is_name n o.required_names) (names_of o.props) ri.0 content (sym (given-name content o.props) ∙ ap is_given z)

            into : (ms : Members) (ks : List (MemberPart entry.Judge)) → ((n : List ℕ) → has_member n ks ≡ has_name n ms) → AreMembers ks → REQ ms ≡ true → list_all (one_says p) (named content ks) ≡ true → body_says (part_body p) (named content ks) ≡ true
            into ms ks g a y f =
                let x = has-key ks content (g content ∙ holds-at (λ n. has_name n ms) o.required_names y content needed) in
                ap (body_says (part_body p)) x.2 ∙ beside-is x.0 x.1 ∙ and_left _ _ (ap (list_all (one_says p)) (sym x.2) ∙ f)

            back : (ms : Members) (ks : List (MemberPart entry.Judge)) → ((n : List ℕ) → has_member n ks ≡ has_name n ms) → AreMembers ks → has_name tag ms ≡ true → body_says (part_body p) (named content ks) ≡ true → (list_all (one_says p) (named content ks) ≡ true) × (REQ ms ≡ true)
            back ms ks g a y f = by (named content ks) refl (named-once content ks a) f
              where
                first : (k : MemberPart entry.Judge) (xs : List (MemberPart entry.Judge)) → xs ≡ k ∷ [] → body_says (part_body p) xs ≡ true → list_all (one_says p) xs ≡ true
                first k xs x f = ap (list_all (one_says p)) x ∙ and_true ((one_says p) k) ∙ sym (beside-is k []) ∙ ap (body_says (part_body p)) (sym x) ∙ f

                by : (xs : List (MemberPart entry.Judge)) → named content ks ≡ xs → (named content ks ≡ []) ⊎ ((k : MemberPart entry.Judge) × (named content ks ≡ k ∷ [])) → body_says (part_body p) (named content ks) ≡ true → (list_all (one_says p) (named content ks) ≡ true) × (REQ ms ≡ true)
                by xs x (inl n) f = absurd (true≢false (sym (ap (body_says (part_body p)) (sym n) ∙ f) ∙ no-part (conv p)))
                by xs x (inr (k, n)) f = (first k (named content ks) n f, all-required ms y (λ w. sym (g content) ∙ key-has ks content k [] n))

        branch-says : (qs : Properties) → less_property tag o.props ≡ qs → AllParts (IsSound way P st R conv r fol tgt v ps es w) (body_parts (body_of_field (map (placed_field o.place) (property_fields Strict o.required_names qs)))) → Is (body_of_field (map (placed_field o.place) (property_fields Strict o.required_names qs)))
        branch-says no_properties z q = unit-says z
        branch-says (property k t qs) z q = part-says (of_branch (o.place ++ (codes "properties" ∷ k ∷ [])) t) t (ap (λ n. property_at n o.props) (sym same) ∙ at-k) q.0.0
          where
            itself : (n : List ℕ) → bytes_eq n n ≡ true
            itself n = (bytes_eq-Decides n n).1 refl

            there : property_at k (less_property tag o.props) ≡ the_schema t
            there = ap (property_at k) z ∙ ap (λ b. if b then the_schema t else property_at k qs) (itself k)

            not-tag : bytes_eq k tag ≡ false
            not-tag = by (bytes_eq k tag) refl
              where
                by : (b : Bool) → bytes_eq k tag ≡ b → b ≡ false
                by true x = absurd (true≢false (sym (ap is_given (sym (ap (λ n. property_at n (less_property tag o.props)) ((bytes_eq-Decides k tag).0 x)) ∙ there)) ∙ ap is_given (tag-gone o.props)))
                by false x = refl

            at-k : property_at k o.props ≡ the_schema t
            at-k = sym (less-same tag k not-tag o.props) ∙ there

            same : k ≡ content
            same = (bytes_eq-Decides k content).0 (ap (λ b. b || bytes_eq k content) (sym not-tag) ∙ wi k (sym (given-name k o.props) ∙ ap is_given at-k))

        touched : {v : Value} {ps : Parts} {es : model.Parts entry.Judge} → View way st R r v ps es → (n : List ℕ) → tag_key tag v ≡ Some n → bound_judge o v ps ≡ true → bytes_eq n s ≡ true
        touched (of_null ps) n k x = impossible x
        touched (of_boolean b ps) n k x = impossible x
        touched (of_number z ps f) n k x = impossible x
        touched (of_text t ps) n k x = impossible x
        touched (of_list xs ps ks f) n k x = impossible x
        touched (of_object ms ps ks h am) n k x =
            let y = tag-value way st R r tag content apart_names o u s here_u const only closed open_way ps.name ms ps.members ks h am.1.0 (and_left _ _ x) (tag_there ms (and_right (list_all (bound_member o) ps.members) _ x)) in
            ap (λ z. same z (text s)) (some-same (text n) y.0 (sym (text-there (member_at tag ms) n k) ∙ y.1)) ∙ y.2

        told : AllParts (IsSound way P st R conv r fol tgt v ps es w) (body_parts (adjacent_variant tag o).body) → Told way P st R conv r fol tgt v ps es w (tag_key tag v) inside m.1 (adjacent_variant tag o)
        told q =
            let j = bound-judged way st R r m o e ri.0 v ps es w fol in
            let a = ap words_or_none c in
            record {
              keeps = keep-from way _ _ _ j (keep-to way _ _ _ (branch-says (less_property tag o.props) refl q v ps es w) (ap (λ n. keyed n (tag_key tag v) && inside (adjacent_variant tag o)) (sym a)));
              touches = λ n k x. ap (bytes_eq n) a ∙ touched w n k (sym j ∙ x);
            }

      -- ---- all branches

      split-some : {A B : Type 0} (f : A → Option B) (x : A) (xs : List A) (ys : List B) → all_some f (x ∷ xs) ≡ Some ys → (y : B) × (zs : List B) × (f x ≡ Some y) × (all_some f xs ≡ Some zs) × (y ∷ zs ≡ ys)
      split-some f x xs ys h = by (f x) refl (all_some f xs) refl h
        where
          by : (a : Option _) → f x ≡ a → (b : Option (List _)) → all_some f xs ≡ b → option_and_then (λ y. option_map (λ ys. y ∷ ys) (all_some f xs)) a ≡ Some ys → (y : _) × (zs : List _) × (f x ≡ Some y) × (all_some f xs ≡ Some zs) × (y ∷ zs ≡ ys)
          by None g b j h = none-some ys h
          by (Some y) g None j h = none-some ys (ap (option_map (λ ys. y ∷ ys)) (sym j) ∙ h)
          by (Some y) g (Some zs) j h = (y, zs, g, j, some-same (y ∷ zs) ys (ap (option_map (λ ys. y ∷ ys)) (sym j) ∙ h))

      abbrev Sound : List VariantRow → Type 0
      Sound xs = AllParts (IsSound way P st R conv r fol tgt v ps es w) (variants_parts xs)

      all-told : (k : Step) (i : ℕ) (us : Schemas) (os : List ObjectShape) (ts : List (List ℕ)) → all_some object_shape (members_from k i us) ≡ Some os → all_some (constant_at tag) os ≡ Some ts → list_all (λ o. is_name tag o.required_names) os ≡ true → all_apart us ≡ true
          → AllWithin os → AllRight os → AllOpen way closed os → Sound (map (adjacent_variant tag) os) → AllTold way P st R conv r fol tgt v ps es w (tag_key tag v) inside us (map (adjacent_variant tag) os)
      all-told k i no_more os ts e f g a wi ri z q = subst (λ xs. AllTold way P st R conv r fol tgt v ps es w (tag_key tag v) inside no_more (map (adjacent_variant tag) xs)) (some-same [] os e) tt
      all-told k i (schema s ss) [] ts e f g a wi ri z q = let x = split-some object_shape (k ∷ place i ∷ [], s) (members_from k (suc i) ss) [] e in impossible (sym (ap (λ xs. elim xs [ [] ↦ false | y ∷ ys ↦ true ]) x.4))
      all-told k i (schema s ss) (o ∷ os) ts e f g a wi ri z q =
          let x = split-some object_shape (k ∷ place i ∷ [], s) (members_from k (suc i) ss) (o ∷ os) e in
          let y = split-some (constant_at tag) o os ts f in
          let same_o = ap (λ xs. elim xs [ [] ↦ o | y ∷ ys ↦ y ]) x.4 in
          let same_os = ap (λ xs. elim xs [ [] ↦ [] | y ∷ ys ↦ ys ]) x.4 in (
            told (k ∷ place i ∷ [], s) o (x.2 ∙ ap Some same_o) y.0 y.2 (and_left _ _ g) (and_left _ _ a) wi.0 ri.0 z.0 (parts-left (IsSound way P st R conv r fol tgt v ps es w) (body_parts (adjacent_variant tag o).body) (variants_parts (map (adjacent_variant tag) os)) q),
            all-told k (suc i) ss os y.1 (x.3 ∙ ap Some same_os) y.3 (and_right (is_name tag o.required_names) _ g) (and_right (is_apart s) _ a) wi.1 ri.1 z.1 (parts-right (IsSound way P st R conv r fol tgt v ps es w) (body_parts (adjacent_variant tag o).body) (variants_parts (map (adjacent_variant tag) os)) q),
          )

      texts-are : (os : List ObjectShape) (ts : List (List ℕ)) → all_some (constant_at tag) os ≡ Some ts → names (map (adjacent_variant tag) os) ≡ ts
      texts-are [] ts f = some-same [] ts f
      texts-are (o ∷ os) ts f =
          let y = split-some (constant_at tag) o os ts f in
          let a = ap words_or_none y.2 in
          let b = texts-are os y.1 y.3 in
          (λ i. a i ∷ b i) ∙ y.4

  -- ---- the two names

  flat-name : (os : List ObjectShape) (o : ObjectShape) (n : List ℕ) → is_name n (names_of o.props) ≡ true → is_name n (flat_map (λ o. names_of o.props) (o ∷ os)) ≡ true
  flat-name os o n h = left (names_of o.props) h
    where
      left : (xs : List (List ℕ)) → is_name n xs ≡ true → is_name n (xs ++ flat_map (λ o. names_of o.props) os) ≡ true
      left [] h = impossible h
      left (x ∷ xs) h = by (bytes_eq n x) h (left xs)
        where
          by : (b : Bool) → (b || is_name n xs) ≡ true → (is_name n xs ≡ true → is_name n (xs ++ flat_map (λ o. names_of o.props) os) ≡ true) → (b || is_name n (xs ++ flat_map (λ o. names_of o.props) os)) ≡ true
          by true h f = refl
          by false h f = f h

  flat-later : (os : List ObjectShape) (o : ObjectShape) (n : List ℕ) → is_name n (flat_map (λ o. names_of o.props) os) ≡ true → is_name n (flat_map (λ o. names_of o.props) (o ∷ os)) ≡ true
  flat-later os o n h = right (names_of o.props)
    where
      right : (xs : List (List ℕ)) → is_name n (xs ++ flat_map (λ o. names_of o.props) os) ≡ true
      right [] = h
      right (x ∷ xs) = by (bytes_eq n x) (right xs)
        where
          by : (b : Bool) → is_name n (xs ++ flat_map (λ o. names_of o.props) os) ≡ true → (b || is_name n (xs ++ flat_map (λ o. names_of o.props) os)) ≡ true
          by true f = refl
          by false f = f

  within-all : (tag content : List ℕ) (closed : Bool) (os : List ObjectShape) → ((n : List ℕ) → is_name n (flat_map (λ o. names_of o.props) os) ≡ true → (bytes_eq n tag || bytes_eq n content) ≡ true) → AllWithin tag content closed os
  within-all tag content closed [] f = tt
  within-all tag content closed (o ∷ os) f = ((λ n h. f n (flat-name os o n h)), within-all tag content closed os (λ n h. f n (flat-later os o n h)))

  right-all : (tag content : List ℕ) (closed c : Bool) (os : List ObjectShape) → list_all are_all_required os ≡ true → (same_way way narrowed ≡ true → (c && list_any (λ o. not o.closed) os) ≡ false) → (same_way way narrowed ≡ true → list_any (has_tag_alone tag) os ≡ true → c ≡ true) → AllRight tag content closed os
  right-all tag content closed c [] h f g = tt
  right-all tag content closed c (o ∷ os) h f g = (
    (and_left _ _ h, (λ z n. shut z (g z (ap (λ b. b || list_any (has_tag_alone tag) os) (ap is_no_property n))))),
    right-all tag content closed c os (and_right (are_all_required o) _ h) (λ z. open-rest c o os (f z)) (λ z k. g z (later (has_tag_alone tag o) (list_any (has_tag_alone tag) os) k)),
  )
    where
      later : (a b : Bool) → b ≡ true → (a || b) ≡ true
      later true b h = refl
      later false b h = h

      not-not : (b : Bool) → not b ≡ false → b ≡ true
      not-not true h = refl
      not-not false h = absurd (true≢false h)

      shut : same_way way narrowed ≡ true → c ≡ true → o.closed ≡ true
      shut z x = not-not o.closed (or_left (not o.closed) (list_any (λ o. not o.closed) os) (sym (ap (λ b. b && (not o.closed || list_any (λ o. not o.closed) os)) x) ∙ f z))

  pub adjacent-holds : (d : Document) (name : List ℕ) (k : Step) (us : Schemas) → all_apart us ≡ true → (t : TaggedShape) → adjacent_shape (members_from k 0 us) ≡ Some t → One way P st R conv r fol tgt v ps es w name us (one_of_adjacent d (members_from k 0 us) (Some t))
  adjacent-holds d name k us a t e = λ g0 c q. let f = adjacent-found (members_from k 0 us) t e in made (map whole (members_from k 0 us)) f.shapes f.all_needed f.tag f.content f.differ f.among f.is_one t f.made c q
    where
      tags : (os : List ObjectShape) (n : List ℕ) → is_tag os n ≡ true → (ts : List (List ℕ)) × (tag_texts os n ≡ Some ts) × (are_distinct ts ≡ true) × (list_all (λ o. is_name n o.required_names) os ≡ true)
      tags os n h = by (tag_texts os n) refl h
        where
          by : (x : Option (List (List ℕ))) → tag_texts os n ≡ x → are_tags n os x ≡ true → (ts : List (List ℕ)) × (tag_texts os n ≡ Some ts) × (are_distinct ts ≡ true) × (list_all (λ o. is_name n o.required_names) os ≡ true)
          by None f h = impossible h
          by (Some ts) f h = (ts, f, and_left _ _ h, and_right (are_distinct ts) _ h)

      made : (os : List ObjectShape) → all_some object_shape (members_from k 0 us) ≡ Some os → list_all are_all_required os ≡ true → (tag content : List ℕ) → bytes_eq content tag ≡ false → ((n : List ℕ) → is_name n (flat_map (λ o. names_of o.props) os) ≡ true → (bytes_eq n tag || bytes_eq n content) ≡ true)
          → is_tag os tag ≡ true → (x : TaggedShape) → x ≡ adjacent_with os tag content → IsClean way (one_of_adjacent d (members_from k 0 us) (Some x)) → AllParts (IsSound way P st R conv r fol tgt v ps es w) (variants_parts x.variants)
          → Keeps way (Counted way P st R conv r fol tgt v ps es w us) (entry_takes r v es tgt (entry_of conv name (enum_row (adjacent_tag x.tag x.content) (by_shape x.closed) x.variants)))
      made os f u tag content p l h x z c q =
          let y = tags os tag h in
          let closed = some_closed os in
          let rows = map (adjacent_variant tag) os in
          let mix : same_way way narrowed ≡ true → (some_closed os && list_any (λ o. not o.closed) os) ≡ false = λ u. sym (ap (λ t. t.mixed) z) ∙ free-note way x.mixed (here narrowed mixed_branches_note) (free-left way (note_if x.mixed (here narrowed mixed_branches_note)) (note_if x.alone (here narrowed tag_alone_note)) c.0) u in
          let lone : same_way way narrowed ≡ true → (not (some_closed os) && list_any (has_tag_alone tag) os) ≡ false = λ u. sym (ap (λ t. t.alone) z) ∙ free-note way x.alone (here narrowed tag_alone_note) (free-right way (note_if x.mixed (here narrowed mixed_branches_note)) (note_if x.alone (here narrowed tag_alone_note)) c.0) u in
          let ri = right-all tag content closed (some_closed os) os u mix (λ z g. some (some_closed os) (list_any (has_tag_alone tag) os) g (lone z)) in
          let told = all-told tag content closed p k 0 us os y.0 f y.1 y.3 a (within-all tag content closed os l) ri (open-each way closed os mix (λ g. g)) (subst (λ t. AllParts (IsSound way P st R conv r fol tgt v ps es w) (variants_parts t.variants)) z q) in
          let d = ap differ (texts-are tag content closed p os y.0 y.1) ∙ distinct-differ y.0 y.2 in
          keep-to way _ _ _ (counted-told way P st R conv r fol tgt v ps es w (tag_key tag v) (inside tag content closed) us rows told d)
          (sym (enum-says tag content closed v rows d) ∙ ap (λ t. entry_takes r v es tgt (entry_of conv name (enum_row (adjacent_tag t.tag t.content) (by_shape t.closed) t.variants))) (sym z))
        where
          some : (a b : Bool) → b ≡ true → (not a && b) ≡ false → a ≡ true
          some true b h k = refl
          some false b h k = absurd (true≢false (sym h ∙ k))
