-- Naming keeps what emission asks of shapes, and no field has the name that a rest is given.
use Rattle.std.proofs.Common.{◌≡◌, ℕ, suc, List, [], ◌∷◌, ◌++◌, length, Bool, true, false, ◌&&◌, ◌||◌, not, cond, refl, sym, ap, ◌∙◌, subst, true≢false, inl, inr, map, bytes_eq, codes, arith}
use Rattle.std.specs.Prelude.{Option}
use Rattle.std.specs.List.{list_all, flat_map, AllByRecursion}
use Rattle.std.proofs.lemmas.Slice.Eq.{bytes_eq-Decides}
use Rattle.model_defs.specs.Model.{TagModel, external_tag, internal_tag, adjacent_tag, untagged, RuleD}
use Rattle.entry_defs.specs.Entry.{Entry, boolean_entry, integer_entry, text_entry, native_entry, any_entry, unit_entry, option_entry, vec_entry, set_entry, map_entry, tuple_entry, array_entry, reference, item, Entries, no_entries, entry_then, entry_again, entries_of, Shape, struct_shape, enum_shape, newtype_shape, Fields, no_fields, field_then, field_again, rest_field, Rest, no_rest, rest, rest_of, Variants, no_variants, variant_then, Contents, unit_contents, newtype_contents, tuple_contents, struct_contents, fields_of}
use Rattle.entry_defs.specs.Table.{ItemEntry, TargetEntry, items_in, items_in_shape, items_of, Among}
use Rattle.entry_defs.specs.Sound.{Each, EachInShape}
use Rattle.naming_defs.specs.Names.{Names, is_among, free_name, is_value, taking, values, bound_is_good, field_names, field_name, identified, identified_fields, identified_within, identified_variants, variant_names, named, named_entries, named_shape, named_fields, named_variants, named_contents, item_name, keys, after_targets, named_targets, named_trees, named_table}
use Rattle.naming_defs.proofs.Free.{free-name}
use Rattle.naming_defs.proofs.Kept.{each-named, each-shape}
use Rattle.entry_defs.proofs.Each.{in_entry, in_shape}
use Rattle.emit_defs.specs.Formed.{HasOne, HasTwo, EntryIsFormed, EntriesAreFormed, FieldsAreFormed, RestFits, ContentsAreFormed, StandsBeside, StandBeside, TagFits, VariantsAreFormed, RuleFits, ShapeIsFormed, RestMay, ShapeIsShaped, Shaped, Anywhere, NamedTablesAreFormed}

-- ---- names among names

among_right : (n : List ℕ) (xs ys : Names) → is_among n (xs ++ ys) ≡ false → is_among n ys ≡ false
among_right n [] ys h = h
among_right n (x ∷ xs) ys h = by (bytes_eq n x) h (among_right n xs ys)
  where
    by : (b : Bool) → (b || is_among n (xs ++ ys)) ≡ false → (is_among n (xs ++ ys) ≡ false → is_among n ys ≡ false) → is_among n ys ≡ false
    by true k f = absurd (true≢false k)
    by false k f = f k

itself : (n : List ℕ) → bytes_eq n n ≡ true
itself n = (bytes_eq-Decides n n).1 refl

among_first : (n : List ℕ) (t : Names) → is_among n (n ∷ t) ≡ true
among_first n t = ap (λ b. b || is_among n t) (itself n)

among_later : (n m : List ℕ) (t : Names) → is_among n t ≡ true → is_among n (m ∷ t) ≡ true
among_later n m t h = by (bytes_eq n m)
  where
    by : (b : Bool) → (b || is_among n t) ≡ true
    by true = refl
    by false = h

module _ (is_good : List ℕ → Bool) where
  abbrev named_so : Names → Names → List ℕ → List ℕ
  named_so taken beside n = field_name is_good taken beside n

  -- a good name that was wanted is taken from then on
  wanted_taken : (taken beside : Names) (n : List ℕ) → is_good n ≡ true → is_among n (named_so taken beside n ∷ taken) ≡ true
  wanted_taken taken beside n g = by (is_among n taken) refl
    where
      by : (b : Bool) → is_among n taken ≡ b → is_among n (named_so taken beside n ∷ taken) ≡ true
      by true e = among_later n (named_so taken beside n) taken e
      by false e =
          let same : named_so taken beside n ≡ n =
          ap (λ z. cond (z && not (is_among n taken)) n (free_name (codes "field") (taken ++ beside))) g ∙ ap (λ z. cond (not z) n (free_name (codes "field") (taken ++ beside))) e in
          subst (λ z. is_among n (z ∷ taken) ≡ true) (sym same) (among_first n taken)

  -- each good name of these fields is taken
  abbrev AreTaken : Names → Names → Type 0
  AreTaken taken [] = Unit {0}
  AreTaken taken (n ∷ ns) = (is_good n ≡ true → is_among n taken ≡ true) × AreTaken taken ns

  still_taken : (m : List ℕ) (taken ns : Names) → AreTaken taken ns → AreTaken (m ∷ taken) ns
  still_taken m taken [] h = tt
  still_taken m taken (n ∷ ns) h = (λ g. among_later n m taken (h.0 g), still_taken m taken ns h.1)

  -- a name that a rest is given is none of theirs: a good one would be taken, and a numbered one stands beside none of them
  apart_from : (taken beside : Names) (i n : List ℕ) → is_among n beside ≡ true → (is_good n ≡ true → is_among n taken ≡ true) → bytes_eq n (named_so taken beside i) ≡ false
  apart_from taken beside i n b h = by (bytes_eq n (named_so taken beside i)) refl
    where
      differs : (g a : Bool) → is_good i ≡ g → is_among i taken ≡ a → n ≡ cond (g && not a) i (free_name (codes "field") (taken ++ beside)) → ⊥
      differs true false e f k = true≢false (sym (h (ap is_good k ∙ e)) ∙ ap (λ z. is_among z taken) k ∙ f)
      differs true true e f k = true≢false (sym b ∙ ap (λ z. is_among z beside) k ∙ among_right (free_name (codes "field") (taken ++ beside)) taken beside (free-name (codes "field") (taken ++ beside)))
      differs false a e f k = true≢false (sym b ∙ ap (λ z. is_among z beside) k ∙ among_right (free_name (codes "field") (taken ++ beside)) taken beside (free-name (codes "field") (taken ++ beside)))

      by : (z : Bool) → bytes_eq n (named_so taken beside i) ≡ z → z ≡ false
      by true e = absurd (differs (is_good i) (is_among i taken) refl refl ((bytes_eq-Decides n (named_so taken beside i)).0 e))
      by false e = refl

  -- ---- the rest's name

  abbrev Away : Rest → List ℕ → Type 0
  Away no_rest n = Unit {0}
  Away (rest i e) n = bytes_eq n i ≡ false

  abbrev AllAway : Rest → Names → Type 0
  AllAway o ns = AllByRecursion (Away o) ns

  abbrev AllAmong : Names → Names → Type 0
  AllAmong beside ns = AllByRecursion (λ n. is_among n beside ≡ true) ns

  from_taken : (taken beside ns : Names) (i : List ℕ) (e : Entry) → AreTaken taken ns → AllAmong beside ns → AllAway (rest (named_so taken beside i) e) ns
  from_taken taken beside [] i e h b = tt
  from_taken taken beside (n ∷ ns) i e h b = (apart_from taken beside i n b.0 h.0, from_taken taken beside ns i e h.1 b.1)

  none_away : (ns : Names) → AllAway no_rest ns
  none_away [] = tt
  none_away (n ∷ ns) = (tt, none_away ns)

  rest_away : (beside : Names) (fs : Fields) (taken ns : Names) → AreTaken taken ns → AllAmong beside ns → AllAmong beside (field_names fs)
      → AllAway (rest_of (identified is_good taken beside fs)) ns × AllAway (rest_of (identified is_good taken beside fs)) (field_names fs)
  rest_away beside no_fields taken ns h b c = (none_away ns, tt)
  rest_away beside (rest_field i e) taken ns h b c = (from_taken taken beside ns i e h b, tt)
  rest_away beside (field_then i n e s fs) taken ns h b c =
      let m = named_so taken beside n in
      let r = rest_away beside fs (m ∷ taken) (n ∷ ns) (wanted_taken taken beside n, still_taken m taken ns h) (c.0, b) c.1 in
      (r.0.1, (r.0.0, r.1))
  rest_away beside (field_again i n fs) taken ns h b c =
      let m = named_so taken beside n in
      let r = rest_away beside fs (m ∷ taken) (n ∷ ns) (wanted_taken taken beside n, still_taken m taken ns h) (c.0, b) c.1 in
      (r.0.1, (r.0.0, r.1))

  all_later : (m : List ℕ) (ms ns : Names) → AllAmong ms ns → AllAmong (m ∷ ms) ns
  all_later m ms [] h = tt
  all_later m ms (n ∷ ns) h = (among_later n m ms h.0, all_later m ms ns h.1)

  all_themselves : (ns : Names) → AllAmong ns ns
  all_themselves [] = tt
  all_themselves (n ∷ ns) = (among_first n ns, all_later n ns ns (all_themselves ns))

  -- ---- names of fields are kept

  abbrev lacks : List ℕ → Fields → Bool
  lacks n fs = list_all (λ f. not (bytes_eq f.name n)) (fields_of fs)

  lacks_identified : (x : List ℕ) (beside : Names) (fs : Fields) (taken : Names) → lacks x (identified is_good taken beside fs) ≡ lacks x fs
  lacks_identified x beside no_fields taken = refl
  lacks_identified x beside (rest_field i e) taken = refl
  lacks_identified x beside (field_then i n e s fs) taken = ap (λ b. not (bytes_eq n x) && b) (lacks_identified x beside fs (named_so taken beside n ∷ taken))
  lacks_identified x beside (field_again i n fs) taken = ap (λ b. not (bytes_eq n x) && b) (lacks_identified x beside fs (named_so taken beside n ∷ taken))

  away_lacks : (i : List ℕ) (e : Entry) (fs : Fields) → AllAway (rest i e) (field_names fs) → lacks i fs ≡ true
  away_lacks i e no_fields h = refl
  away_lacks i e (rest_field j x) h = refl
  away_lacks i e (field_then j n x s fs) h = let rec = away_lacks i e fs h.1 in let one = h.0 in λ k. not (one k) && rec k
  away_lacks i e (field_again j n fs) h = let rec = away_lacks i e fs h.1 in let one = h.0 in λ k. not (one k) && rec k

  fields_formed : (beside : Names) (fs : Fields) (taken : Names) → FieldsAreFormed fs → FieldsAreFormed (identified is_good taken beside fs)
  fields_formed beside no_fields taken f = tt
  fields_formed beside (rest_field i e) taken f = f
  fields_formed beside (field_then i n e s fs) taken f = (f.0, fields_formed beside fs (named_so taken beside n ∷ taken) f.1)
  fields_formed beside (field_again i n fs) taken f = fields_formed beside fs (named_so taken beside n ∷ taken) f

  rest_may : (closed : Bool) (beside : Names) (fs : Fields) (taken : Names) → RestMay closed (rest_of fs) → RestMay closed (rest_of (identified is_good taken beside fs))
  rest_may closed beside no_fields taken h = h
  rest_may closed beside (rest_field i e) taken h = h
  rest_may closed beside (field_then i n e s fs) taken h = rest_may closed beside fs (named_so taken beside n ∷ taken) h
  rest_may closed beside (field_again i n fs) taken h = rest_may closed beside fs (named_so taken beside n ∷ taken) h

  no_rest_kept : (beside : Names) (fs : Fields) (taken : Names) → rest_of fs ≡ no_rest → rest_of (identified is_good taken beside fs) ≡ no_rest
  no_rest_kept beside no_fields taken h = refl
  no_rest_kept beside (rest_field i e) taken h = cc
  no_rest_kept beside (field_then i n e s fs) taken h = no_rest_kept beside fs (named_so taken beside n ∷ taken) h
  no_rest_kept beside (field_again i n fs) taken h = no_rest_kept beside fs (named_so taken beside n ∷ taken) h

  fits_by : (closed : Bool) (fs gs : Fields) (o : Rest) → RestMay closed o → AllAway o (field_names fs) → ((x : List ℕ) → lacks x gs ≡ lacks x fs) → RestFits closed gs o
  fits_by closed fs gs no_rest h a k = tt
  fits_by closed fs gs (rest i e) h a k = (h, k i ∙ away_lacks i e fs a)

  rest_fits : (closed : Bool) (fs : Fields) → RestMay closed (rest_of fs) → RestFits closed (identified_fields is_good fs) (rest_of (identified_fields is_good fs))
  rest_fits closed fs h =
      let beside = field_names fs in
      fits_by closed fs (identified_fields is_good fs) (rest_of (identified_fields is_good fs)) (rest_may closed beside fs [] h) (rest_away beside fs [] [] tt tt (all_themselves beside)).1
      (λ x. lacks_identified x beside fs [])

-- ---- what is inside is named too

module _ (is_good : List ℕ → Bool) where
  module _ (beside : Names) where
    one_kept : (es : Entries) (t : Names) → HasOne es → HasOne (named_entries is_good beside es t).1
    one_kept no_entries t h = h
    one_kept (entry_then e es) t h = tt
    one_kept (entry_again es) t h = tt

    two_kept : (es : Entries) (t : Names) → HasTwo es → HasTwo (named_entries is_good beside es t).1
    two_kept no_entries t h = h
    two_kept (entry_then e es) t h = one_kept es (named is_good beside e t).0 h
    two_kept (entry_again es) t h = one_kept es t h

    as_many : (es : Entries) (t : Names) → length (entries_of (named_entries is_good beside es t).1) ≡ length (entries_of es)
    as_many no_entries t = refl
    as_many (entry_then e es) t = ap suc (as_many es (named is_good beside e t).0)
    as_many (entry_again es) t = ap suc (as_many es t)

    mutual
      entry_named : (e : Entry) (t : Names) → EntryIsFormed e → EntryIsFormed (named is_good beside e t).1
      entry_named (option_entry e) t f = entry_named e t f
      entry_named (vec_entry e) t f = entry_named e t f
      entry_named (set_entry e) t f = entry_named e t f
      entry_named (map_entry k e) t f = (entry_named k t f.0, entry_named e (named is_good beside k t).0 f.1)
      entry_named (tuple_entry es) t f = (one_kept es t f.0, entries_named es t f.1)
      entry_named (array_entry e n) t f = (f.0, entry_named e t f.1)
      entry_named (item n h) t f = tt
      entry_named boolean_entry t f = tt
      entry_named (integer_entry g) t f = tt
      entry_named text_entry t f = tt
      entry_named (native_entry x) t f = tt
      entry_named any_entry t f = tt
      entry_named unit_entry t f = tt
      entry_named (reference q) t f = tt

      entries_named : (es : Entries) (t : Names) → EntriesAreFormed es → EntriesAreFormed (named_entries is_good beside es t).1
      entries_named no_entries t f = tt
      entries_named (entry_then e es) t f = (entry_named e t f.0, entries_named es (named is_good beside e t).0 f.1)
      entries_named (entry_again es) t f = entries_named es t f

    fields_named : (fs : Fields) (t : Names) → FieldsAreFormed fs → FieldsAreFormed (named_fields is_good beside fs t).1
    fields_named no_fields t f = tt
    fields_named (field_then i n e s fs) t f = (entry_named e t f.0, fields_named fs (named is_good beside e t).0 f.1)
    fields_named (field_again i n fs) t f = fields_named fs t f
    fields_named (rest_field i e) t f = entry_named e t f

    may_named : (closed : Bool) (fs : Fields) (t : Names) → RestMay closed (rest_of fs) → RestMay closed (rest_of (named_fields is_good beside fs t).1)
    may_named closed no_fields t h = h
    may_named closed (rest_field i e) t h = h
    may_named closed (field_then i n e s fs) t h = may_named closed fs (named is_good beside e t).0 h
    may_named closed (field_again i n fs) t h = may_named closed fs t h

    restless : (fs : Fields) (t : Names) → rest_of fs ≡ no_rest → rest_of (named_fields is_good beside fs t).1 ≡ no_rest
    restless no_fields t h = refl
    restless (rest_field i e) t h = cc
    restless (field_then i n e s fs) t h = restless fs (named is_good beside e t).0 h
    restless (field_again i n fs) t h = restless fs t h

    lacks_named : (x : List ℕ) (fs : Fields) (t : Names) → lacks is_good x (named_fields is_good beside fs t).1 ≡ lacks is_good x fs
    lacks_named x no_fields t = refl
    lacks_named x (rest_field i e) t = refl
    lacks_named x (field_then i n e s fs) t = ap (λ b. not (bytes_eq n x) && b) (lacks_named x fs (named is_good beside e t).0)
    lacks_named x (field_again i n fs) t = ap (λ b. not (bytes_eq n x) && b) (lacks_named x fs t)

    lacks_all : (x : List ℕ) (fs : Fields) (t : Names) → (let a = named_fields is_good beside fs t in lacks is_good x (identified_within is_good a.0 a.1)) ≡ lacks is_good x fs
    lacks_all x fs t =
        let a = named_fields is_good beside fs t in
        lacks_identified (bound_is_good is_good) x (field_names a.1) a.1 (values a.0) ∙ lacks_named x fs t

    contents_named : (c : Contents) (t : Names) → ContentsAreFormed c → ContentsAreFormed (named_contents is_good beside c t).1
    contents_named unit_contents t f = tt
    contents_named (newtype_contents e) t f = entry_named e t f
    contents_named (tuple_contents es) t f =
        let few = f.1 in
        let many = as_many es t in
        (two_kept es t f.0, omega arith, entries_named es t f.2)
    contents_named (struct_contents fs) t f =
        let a = named_fields is_good beside fs t in
        let fits = bound_is_good is_good in
        (no_rest_kept fits (field_names a.1) a.1 (values a.0) (restless fs t f.0), fields_formed fits (field_names a.1) a.1 (values a.0) (fields_named fs t f.1))

    beside_named : (tag : List ℕ) (c : Contents) (t : Names) → StandsBeside tag c → StandsBeside tag (named_contents is_good beside c t).1
    beside_named tag unit_contents t h = tt
    beside_named tag (newtype_contents e) t h = h
    beside_named tag (tuple_contents es) t h = h
    beside_named tag (struct_contents fs) t h = lacks_all tag fs t ∙ h

    variants_named : (ws : Variants) (t : Names) → VariantsAreFormed ws → VariantsAreFormed (named_variants is_good beside ws t).1
    variants_named no_variants t f = tt
    variants_named (variant_then i n c ws) t f = (contents_named c t f.0, variants_named ws (named_contents is_good beside c t).0 f.1)

    all_beside : (tag : List ℕ) (ws : Variants) (t : Names) → StandBeside tag ws → StandBeside tag (named_variants is_good beside ws t).1
    all_beside tag no_variants t h = tt
    all_beside tag (variant_then i n c ws) t h = (beside_named tag c t h.0, all_beside tag ws (named_contents is_good beside c t).0 h.1)

    variants_identified : (tag : TagModel) (around : Names) (ws : Variants) (taken : Names) → VariantsAreFormed ws → VariantsAreFormed (identified_variants is_good tag taken around ws)
    variants_identified tag around no_variants taken f = tt
    variants_identified tag around (variant_then i n c ws) taken f = (f.0, variants_identified tag around ws _ f.1)

    beside_identified : (x : List ℕ) (tag : TagModel) (around : Names) (ws : Variants) (taken : Names) → StandBeside x ws → StandBeside x (identified_variants is_good tag taken around ws)
    beside_identified x tag around no_variants taken f = tt
    beside_identified x tag around (variant_then i n c ws) taken f = (f.0, beside_identified x tag around ws _ f.1)

    tag_named : (tag : TagModel) (ws : Variants) (t : Names) → TagFits tag ws → TagFits tag (identified_variants is_good tag [] (variant_names ws) (named_variants is_good beside ws t).1)
    tag_named external_tag ws t f = tt
    tag_named (internal_tag x) ws t f = beside_identified x (internal_tag x) (variant_names ws) (named_variants is_good beside ws t).1 [] (all_beside x ws t f)
    tag_named (adjacent_tag x y) ws t f = f
    tag_named untagged ws t f = tt

    rule_named : (e : Entry) (rule : Option RuleD) (t : Names) → RuleFits e rule → RuleFits (named is_good beside e t).1 rule
    rule_named boolean_entry rule t f = f
    rule_named (integer_entry g) rule t f = f
    rule_named text_entry rule t f = f
    rule_named (native_entry x) rule t f = f
    rule_named any_entry rule t f = f
    rule_named unit_entry rule t f = f
    rule_named (option_entry e) rule t f = f
    rule_named (vec_entry e) rule t f = f
    rule_named (set_entry e) rule t f = f
    rule_named (map_entry k e) rule t f = f
    rule_named (tuple_entry es) rule t f = f
    rule_named (array_entry e n) rule t f = f
    rule_named (reference q) rule t f = f
    rule_named (item n h) rule t f = f

naming_forms_shapes : (is_good : List ℕ → Bool) (beside taken : Names) (h : Shape) → ShapeIsShaped h → ShapeIsFormed (named_shape is_good beside h taken).1
naming_forms_shapes is_good beside taken (struct_shape closed fs) f =
    let gs = (named_fields is_good beside fs taken).1 in
    (rest_fits is_good closed gs (may_named is_good beside closed fs taken f.0), fields_formed is_good (field_names gs) gs [] (fields_named is_good beside fs taken f.1))
naming_forms_shapes is_good beside taken (enum_shape closed tag ws) f =
    (tag_named is_good beside tag ws taken f.0, variants_identified is_good beside tag (variant_names ws) (named_variants is_good beside ws taken).1 [] (variants_named is_good beside ws taken f.1))
naming_forms_shapes is_good beside taken (newtype_shape e rule) f = (rule_named is_good beside e rule taken f.0, entry_named is_good beside e taken f.1)

-- ---- tables

abbrev Formed : List ℕ → Shape → Type 0
Formed n h = ShapeIsFormed h

module _ (is_good : List ℕ → Bool) (beside : Names) where
  to_formed : (n m : List ℕ) (h : Shape) (t : Names) → Shaped n h → Formed m (named_shape is_good beside h t).1
  to_formed n m h t f = naming_forms_shapes is_good beside t h f

  trees_formed : (es : List Entry) (t : Names) → AllByRecursion (λ e. EntryIsFormed e × Each Shaped Anywhere e) es → AllByRecursion (λ e. EntryIsFormed e × Each Formed Anywhere e) (named_trees is_good beside es t).1
  trees_formed [] t h = tt
  trees_formed (e ∷ es) t h =
      ((entry_named is_good beside e t h.0.0, each-named is_good beside Shaped Formed Anywhere Anywhere to_formed (λ q x. x) e t h.0.1), trees_formed es (named is_good beside e t).0 h.1)

  targets_formed : (first : Names) (xs : List TargetEntry) (t : Names) → AllByRecursion (λ x. ShapeIsShaped x.led_to.shape × EachInShape Shaped Anywhere x.led_to.shape) xs
      → AllByRecursion (λ x. ShapeIsFormed x.led_to.shape × EachInShape Formed Anywhere x.led_to.shape) (named_targets is_good beside first xs t).1
  targets_formed first [] t h = tt
  targets_formed first (x ∷ xs) t h =
      let n = item_name is_good beside first x.led_to.name in (
        (naming_forms_shapes is_good beside t x.led_to.shape h.0.0, each-shape is_good beside Shaped Formed Anywhere Anywhere to_formed (λ q x. x) x.led_to.shape t h.0.1),
        targets_formed (taking (is_value x.led_to.shape) n first) xs (named_shape is_good beside x.led_to.shape t).0 h.1,
      )

abbrev IsOk : ItemEntry → Type 0
IsOk i = ShapeIsFormed i.shape

all_among : (xs : List ItemEntry) → ((i : ItemEntry) → Among i xs → IsOk i) → AllByRecursion IsOk xs
all_among [] f = tt
all_among (x ∷ xs) f = (f x (inl refl), all_among xs (λ i a. f i (inr a)))

split : (i : ItemEntry) (xs ys : List ItemEntry) → (Among i xs → IsOk i) → (Among i ys → IsOk i) → Among i (xs ++ ys) → IsOk i
split i [] ys f g a = g a
split i (x ∷ xs) ys f g (inl e) = f (inl e)
split i (x ∷ xs) ys f g (inr a) = split i xs ys (λ b. f (inr b)) g a

of_led : (xs : List TargetEntry) → AllByRecursion (λ x. ShapeIsFormed x.led_to.shape × EachInShape Formed Anywhere x.led_to.shape) xs → (i : ItemEntry) → Among i (map (λ x. x.led_to) xs) → IsOk i
of_led [] h i a = absurd a
of_led (x ∷ xs) h i (inl e) = subst IsOk e h.0.0
of_led (x ∷ xs) h i (inr a) = of_led xs h.1 i a

of_inner : (xs : List TargetEntry) → AllByRecursion (λ x. ShapeIsFormed x.led_to.shape × EachInShape Formed Anywhere x.led_to.shape) xs → (i : ItemEntry) → Among i (flat_map (λ x. items_in_shape x.led_to.shape) xs) → IsOk i
of_inner [] h i a = absurd a
of_inner (x ∷ xs) h i a = split i (items_in_shape x.led_to.shape) (flat_map (λ x. items_in_shape x.led_to.shape) xs) (λ b. (in_shape Formed Anywhere x.led_to.shape h.0.1 i b).0) (of_inner xs h.1 i) a

of_trees : (es : List Entry) → AllByRecursion (λ e. EntryIsFormed e × Each Formed Anywhere e) es → (i : ItemEntry) → Among i (flat_map items_in es) → IsOk i
of_trees [] h i a = absurd a
of_trees (e ∷ es) h i a = split i (items_in e) (flat_map items_in es) (λ b. (in_entry Formed Anywhere e h.0.1 i b).0) (of_trees es h.1 i) a

roots : (es : List Entry) → AllByRecursion (λ e. EntryIsFormed e × Each Formed Anywhere e) es → AllByRecursion EntryIsFormed es
roots [] h = tt
roots (e ∷ es) h = (h.0.0, roots es h.1)

pub named_tables_are_formed : NamedTablesAreFormed
named_tables_are_formed is_good t h =
    let beside = keys is_good t.targets in
    let n = named_table is_good t in
    let xs = targets_formed is_good beside [] t.targets (after_targets is_good beside [] t.targets) h.targets in
    let es = trees_formed is_good beside t.trees (named_targets is_good beside [] t.targets (after_targets is_good beside [] t.targets)).0 h.trees in
    record {
      trees = roots n.trees es;
      items = all_among (items_of n) (λ i a. split i (map (λ x. x.led_to) n.targets ++ flat_map (λ x. items_in_shape x.led_to.shape) n.targets) (flat_map items_in n.trees)
          (split i (map (λ x. x.led_to) n.targets) (flat_map (λ x. items_in_shape x.led_to.shape) n.targets) (of_led n.targets xs i) (of_inner n.targets xs i)) (of_trees n.trees es i) a);
    }
