-- Rows of arrays: lists and sets of any length, and those of one length.
use Rattle.schema_defs.specs.declared.Setting.{Setting}
use Rattle.std.proofs.Common.{◌≡◌, ℕ, zero, suc, List, [], ◌∷◌, ◌++◌, length, Bool, true, false, ◌&&◌, ◌||◌, not, Option, Some, None, is_none, is_some, refl, sym, ap, ◌∙◌, nat_le, ◌==◌, codes}
use Rattle.std.specs.Prelude.{if◌then◌else◌, nat_eq}
use Rattle.std.proofs.Math.Dec.{leb-zero, leb-suc-zero, leb-suc-suc, eqb-suc-zero, eqb-zero-suc, eqb-suc-suc}
use Rattle.std.proofs.lemmas.Bool.{eqb-true}
use Rattle.std.specs.List.{list_all}
use Rattle.json_value.specs.Value as value
use Rattle.json_value.specs.Value.{Value, Items, no_items as end_items, item_count}
use Rattle.schema_defs.specs.declared.InstanceType.TheVariants.{Array}
use Rattle.schema_defs.specs.Texts.{Relations}
use Rattle.schema_defs.specs.Location.{Step, place}
use Rattle.schema_defs.specs.Schema.{Plain, Schema, boolean, object, Same, Lists, lists, Named, Places, no_items, each_item, by_place, MaybeSchema, no_schema, the_schema, Schemas, no_more, schema, ListRules}
use Rattle.schema_defs.specs.Layer.{Judge, Parts, if_given, of_kind_agrees, parts_agree, is_kind, lists_agree, items_agree, list_rules_agree, by_places, maybe, all_distinct, contains_agrees, is_given}
use Rattle.model_defs.specs.Layer as model
use Rattle.model_defs.specs.Layer.{no_parts, list_parts, object_parts}
use Rattle.entry_defs.specs.Entry.{Target, Entry, Entries, no_entries, next_entry, vec_entry, array_entry, tuple_entry, entries_of}
use Rattle.entry_defs.specs.Layer as entry
use Rattle.entry_defs.specs.Layer.{entry_takes, in_places}
use Rattle.convert_defs.specs.Row.{Way, widened, Part, child, further_parts}
use Rattle.enum_defs.specs.Words.{has_type, is_bare}
use Rattle.convert_defs.specs.Owners.{anything, part_at, each_part, is_by_place, list_notes, is_true, above_zero, fixed_size, one_size, listed_parts, unlisted}
use Rattle.convert_defs.specs.Convert.{row_entries, alike_entries}
use Rattle.convert_defs.specs.Laws.{Keeps, same_way, Free}
use Rattle.convert_defs.proofs.Keeps.{keep-equal, keep-from, keep-to, keep-then, keep-both, keep-wider, free-note}
use Rattle.convert_defs.proofs.Views.{View, of_null, of_boolean, of_number, of_text, of_list, of_object, JudgesMatch, ItemsMatch, each-agrees, each-true, IsConverted, AllParts, says-any}
use Rattle.convert_defs.proofs.Bare.{and_left, and_right, and_true, and_false, or_left, or_right, impossible, typed, none-some, not_true, none-agrees, swapped, exchanged, not-above, no-most}
use Rattle.convert_defs.proofs.Scalars.{Agrees}

module _ (way : Way) (st : Setting) (R : Schema → Entry → Type 0) (conv : Part → Entry) where
  abbrev Conv : Part → Type 0
  Conv p = IsConverted way st R conv p

  -- ---- items of any number

  pub each-part : (places : Places) → (is_by_place places ≡ false) → (xs : Items) (js : List Judge) (ks : List entry.Judge) → ItemsMatch way st R xs js ks → (rest : MaybeSchema) → Conv (each_part places)
      → Keeps way (items_agree js places rest) (list_all (λ k. k (conv (each_part places))) ks)
  each-part no_items b xs js ks h rest c = keep-from way _ _ _ (sym (each-true way st R xs js ks h)) (each-agrees way st R xs js ks h (boolean true) (conv anything) c)
  each-part (each_item s) b xs js ks h rest c = each-agrees way st R xs js ks h s (conv (each_part (each_item s))) c
  each-part (by_place ss) b xs js ks h rest c = impossible (sym b)

  not-true : (u : Option Bool) (b : Bool) → is_true u ≡ false → if_given (λ u. not u || b) u ≡ true
  not-true None b h = refl
  not-true (Some true) b h = impossible (sym h)
  not-true (Some false) b h = refl

  rules-agree : (c : ListRules) → Free way (list_notes c) → same_way way widened ≡ true → (xs : Items) → list_rules_agree xs c ≡ true
  rules-agree c n e xs = let h = free-note way (is_true c.unique_items || above_zero c.min_items || is_some c.max_items) _ n e in
      let k = or_left (is_true c.unique_items || above_zero c.min_items) _ h in
      λ i. not-above c.min_items (item_count xs) (or_right (is_true c.unique_items) _ k) i && no-most c.max_items (item_count xs) (or_right (is_true c.unique_items || above_zero c.min_items) _ h) i && not-true c.unique_items (all_distinct xs) (or_left (is_true c.unique_items) _ k) i

  no-contains : (js : List Judge) (m : MaybeSchema) → is_given m ≡ false → contains_agrees js m ≡ true
  no-contains js no_schema h = refl
  no-contains js (the_schema s) h = impossible (sym h)

  pub open-agrees : (places : Places) (rest contains : MaybeSchema) (c : ListRules) → is_by_place places ≡ false → is_given contains ≡ false → Free way (list_notes c) → Conv (each_part places)
      → (xs : Items) (js : List Judge) (ks : List entry.Judge) → ItemsMatch way st R xs js ks → Keeps way (lists_agree xs js (lists places rest contains c)) (list_all (λ k. k (conv (each_part places))) ks)
  open-agrees places rest contains c b g n e xs js ks h =
      keep-then way _ _ _ (keep-wider way (items_agree js places rest && contains_agrees js contains) (list_rules_agree xs c) (λ u. rules-agree c n u xs))
      (keep-from way _ _ _ ((λ i. items_agree js places rest && no-contains js contains g i) ∙ and_true (items_agree js places rest)) (each-part places b xs js ks h rest e))

  pub any-agrees : (xs : Items) (js : List Judge) (ks : List entry.Judge) → ItemsMatch way st R xs js ks → Conv anything → Keeps way true (list_all (λ k. k (conv anything)) ks)
  any-agrees xs js ks h e = keep-from way _ _ _ (sym (each-true way st R xs js ks h)) (each-agrees way st R xs js ks h (boolean true) (conv anything) e)

  -- ---- one length

  abbrev pub has_length : ℕ → List entry.Judge → Bool
  has_length zero [] = true
  has_length zero (k ∷ ks) = false
  has_length (suc n) [] = false
  has_length (suc n) (k ∷ ks) = has_length n ks

  within-length : (n : ℕ) (xs : Items) (js : List Judge) (ks : List entry.Judge) → ItemsMatch way st R xs js ks → (nat_le n (item_count xs) && nat_le (item_count xs) n) ≡ has_length n ks
  within-length zero end_items [] [] h = refl
  within-length zero (value.item v vs) (j ∷ js) (k ∷ ks) h = (λ i. leb-zero (suc (item_count vs)) i && leb-suc-zero (item_count vs) i)
  within-length (suc n) end_items [] [] h = λ i. leb-suc-zero n i && nat_le 0 (suc n)
  within-length (suc n) (value.item v vs) (j ∷ js) (k ∷ ks) h = (λ i. leb-suc-suc n (item_count vs) i && leb-suc-suc (item_count vs) n i) ∙ within-length n vs js ks h.1
  within-length n end_items [] (k ∷ ks) h = absurd h
  within-length n end_items (j ∷ js) ks h = absurd h
  within-length n (value.item v vs) [] ks h = absurd h
  within-length n (value.item v vs) (j ∷ js) [] h = absurd h

  length-is : (n : ℕ) (ks : List entry.Judge) → (length ks == n) ≡ has_length n ks
  length-is zero [] = refl
  length-is zero (k ∷ ks) = eqb-suc-zero (length ks)
  length-is (suc n) [] = eqb-zero-suc n
  length-is (suc n) (k ∷ ks) = eqb-suc-suc (length ks) n ∙ length-is n ks

  if-some : (b : Bool) (o : Option ℕ) (n : ℕ) → (if b then o else None) ≡ Some n → (b ≡ true) × (o ≡ Some n)
  if-some true o n h = (refl, h)
  if-some false o n h = none-some n h

  one-size : (x y : Option ℕ) (n : ℕ) → one_size x y ≡ Some n → (x ≡ Some n) × (y ≡ Some n)
  one-size None y n h = none-some n h
  one-size (Some zero) y n h = none-some n h
  one-size (Some (suc m)) None n h = none-some n h
  one-size (Some (suc m)) (Some k) n h =
      let f = if-some (nat_eq (suc m) k) (Some (suc m)) n h in (f.1, ap Some (sym (eqb-true (suc m) k f.0)) ∙ f.1)

  fixed-rules : (n : ℕ) (contains : MaybeSchema) (c : ListRules) → fixed_size c contains ≡ Some n → (is_none c.unique_items ≡ true) × (is_given contains ≡ false) × (c.min_items ≡ Some n) × (c.max_items ≡ Some n)
  fixed-rules n contains c h =
      let f = if-some (is_none c.unique_items && not (is_given contains)) (one_size c.min_items c.max_items) n h in
      let o = one-size c.min_items c.max_items n f.1 in
      (and_left _ _ f.0, not_true _ (and_right (is_none c.unique_items) _ f.0), o.0, o.1)

  fixed-agree : (n : ℕ) (contains : MaybeSchema) (c : ListRules) → fixed_size c contains ≡ Some n → (xs : Items) (js : List Judge) (ks : List entry.Judge) → ItemsMatch way st R xs js ks → list_rules_agree xs c ≡ has_length n ks
  fixed-agree n contains c f xs js ks h = let g = fixed-rules n contains c f in
      (λ i. if_given (λ m. nat_le m (item_count xs)) (g.2 i) && if_given (λ m. nat_le (item_count xs) m) (g.3 i) && none-agrees (λ u. not u || all_distinct xs) c.unique_items g.0 i)
      ∙ and_true (nat_le n (item_count xs) && nat_le (item_count xs) n) ∙ within-length n xs js ks h

  pub array-agrees : (n : ℕ) (places : Places) (rest contains : MaybeSchema) (c : ListRules) → is_by_place places ≡ false → fixed_size c contains ≡ Some n → Conv (each_part places)
      → (xs : Items) (js : List Judge) (ks : List entry.Judge) → ItemsMatch way st R xs js ks
      → Keeps way (lists_agree xs js (lists places rest contains c)) (length ks == n && list_all (λ k. k (conv (each_part places))) ks)
  array-agrees n places rest contains c b f e xs js ks h =
      keep-from way _ _ _
      ((λ i. items_agree js places rest && no-contains js contains (fixed-rules n contains c f).1 i && (fixed-agree n contains c f xs js ks h ∙ sym (length-is n ks)) i)
      ∙ ap (λ a. a && (length ks == n)) (and_true (items_agree js places rest)) ∙ swapped (items_agree js places rest) (length ks == n))
      (keep-both way (length ks == n) (length ks == n) _ _ (keep-equal way _ _ refl) (each-part places b xs js ks h rest e))

  -- the part for the rest says what the schema of the rest says
  pub rest-says : (w : Step) (rest : MaybeSchema) (j : Judge) (k : entry.Judge) → JudgesMatch way st R j k → Conv (part_at w rest) → Keeps way (maybe j rest) (k (conv (part_at w rest)))
  rest-says w no_schema j k h e = says-any way st R j k h (conv anything) e
  rest-says w (the_schema s) j k h e = h.agree s (conv (part_at w (the_schema s))) e

  -- n places, the first of them at place i: those listed, and then each of the rest by itself
  abbrev filled : ℕ → ℕ → Schemas → Part → List Part
  filled i zero ss rest = []
  filled i (suc n) no_more rest = rest ∷ filled (suc i) n no_more rest
  filled i (suc n) (schema s ss) rest = child (codes "items" ∷ place i ∷ []) s ∷ filled (suc i) n ss rest

  next-alike : (n : ℕ) (e : Entry) → next_entry (alike_entries (suc n) e) ≡ e
  next-alike zero e = refl
  next-alike (suc n) e = next-alike n e

  further : (i n : ℕ) (p : Part) → entries_of (alike_entries n (conv p)) ≡ entries_of (row_entries conv (filled i n no_more p) no_entries)
  further i zero p = refl
  further i (suc zero) p = refl
  further i (suc (suc n)) p = λ j. next-alike n (conv p) j ∷ further (suc i) (suc n) p j

  -- the rest is one part
  all-places : (i n : ℕ) (ss : Schemas) (p : Part) → entries_of (row_entries conv (listed_parts i n ss) (alike_entries (unlisted n ss) (conv p))) ≡ entries_of (row_entries conv (filled i n ss p) no_entries)
  all-places i zero no_more p = refl
  all-places i zero (schema s ss) p = refl
  all-places i (suc n) no_more p = further i (suc n) p
  all-places i (suc n) (schema s ss) p = ap (λ es. conv (child (codes "items" ∷ place i ∷ []) s) ∷ es) (all-places (suc i) n ss p)

  filled-known : (i n : ℕ) (ss : Schemas) (p : Part) → AllParts Conv (listed_parts i n ss ++ further_parts (unlisted n ss) p) → AllParts Conv (filled i n ss p)
  filled-known i zero ss p c = tt
  filled-known i (suc n) no_more p c = each i (suc n) c.0
    where
      each : (i n : ℕ) → Conv p → AllParts Conv (filled i n no_more p)
      each i zero c = tt
      each i (suc n) c = (c, each (suc i) n c)
  filled-known i (suc n) (schema s ss) p c = (c.0, filled-known (suc i) n ss p c.1)

  tuple-agrees : (i n : ℕ) (ss : Schemas) (rest : MaybeSchema) → AllParts Conv (filled i n ss (part_at (codes "additionalItems") rest))
      → (xs : Items) (js : List Judge) (ks : List entry.Judge) → ItemsMatch way st R xs js ks
      → Keeps way (by_places js ss rest && has_length n ks) (in_places (entries_of (row_entries conv (filled i n ss (part_at (codes "additionalItems") rest)) no_entries)) ks)
  tuple-agrees i zero ss rest e end_items [] [] h = keep-equal way true true refl
  tuple-agrees i zero ss rest e (value.item v vs) (j ∷ js) (k ∷ ks) h = keep-equal way _ _ (and_false (by_places (j ∷ js) ss rest))
  tuple-agrees i (suc n) no_more rest e end_items [] [] h = keep-equal way false false refl
  tuple-agrees i (suc n) (schema s ss) rest e end_items [] [] h = keep-equal way false false refl
  tuple-agrees i (suc n) no_more rest e (value.item v vs) (j ∷ js) (k ∷ ks) h =
      keep-from way _ _ _ (exchanged (maybe j rest) (by_places js no_more rest) (has_length n ks))
      (keep-both way _ _ _ _ (rest-says (codes "additionalItems") rest j k h.0 e.0) (tuple-agrees (suc i) n no_more rest e.1 vs js ks h.1))
  tuple-agrees i (suc n) (schema s ss) rest e (value.item v vs) (j ∷ js) (k ∷ ks) h =
      keep-from way _ _ _ (exchanged (j s) (by_places js ss rest) (has_length n ks))
      (keep-both way _ _ _ _ (h.0.agree s (conv (child (codes "items" ∷ place i ∷ []) s)) e.0) (tuple-agrees (suc i) n ss rest e.1 vs js ks h.1))
  tuple-agrees i n ss rest e end_items [] (k ∷ ks) h = absurd h
  tuple-agrees i n ss rest e end_items (j ∷ js) ks h = absurd h
  tuple-agrees i n ss rest e (value.item v vs) [] ks h = absurd h
  tuple-agrees i n ss rest e (value.item v vs) (j ∷ js) [] h = absurd h

  places-agree : (n : ℕ) (ss : Schemas) (rest contains : MaybeSchema) (c : ListRules) → fixed_size c contains ≡ Some n → AllParts Conv (filled 0 n ss (part_at (codes "additionalItems") rest))
      → (xs : Items) (js : List Judge) (ks : List entry.Judge) → ItemsMatch way st R xs js ks
      → Keeps way (lists_agree xs js (lists (by_place ss) rest contains c)) (in_places (entries_of (row_entries conv (filled 0 n ss (part_at (codes "additionalItems") rest)) no_entries)) ks)
  places-agree n ss rest contains c f e xs js ks h =
      keep-from way _ _ _
      ((λ i. by_places js ss rest && no-contains js contains (fixed-rules n contains c f).1 i && fixed-agree n contains c f xs js ks h i)
      ∙ ap (λ a. a && has_length n ks) (and_true (by_places js ss rest)))
      (tuple-agrees 0 n ss rest e xs js ks h)

  pub tuple-taken : (n : ℕ) (ss : Schemas) (rest contains : MaybeSchema) (c : ListRules) → fixed_size c contains ≡ Some n → AllParts Conv (listed_parts 0 n ss ++ further_parts (unlisted n ss) (part_at (codes "additionalItems") rest))
      → (xs : Items) (js : List Judge) (ks : List entry.Judge) → ItemsMatch way st R xs js ks
      → Keeps way (lists_agree xs js (lists (by_place ss) rest contains c)) (in_places (entries_of (row_entries conv (listed_parts 0 n ss) (alike_entries (unlisted n ss) (conv (part_at (codes "additionalItems") rest))))) ks)
  tuple-taken n ss rest contains c f e xs js ks h =
      let p = part_at (codes "additionalItems") rest in
      keep-to way _ _ _ (places-agree n ss rest contains c f (filled-known 0 n ss p e) xs js ks h) (ap (λ us. in_places us ks) (sym (all-places 0 n ss p)))

  -- ---- the rows

  module _ (r : Relations) (fol : List ℕ → Bool) (tgt : Target → Bool) (v : Value) (ps : Parts) (es : model.Parts entry.Judge) (w : View way st R r v ps es) (p : Plain) (ss : Same) (ls : Lists) (ns : Named) where
    -- what the lists of a value say by the schema and by the entry
    abbrev pub OfLists : (List entry.Judge → Bool) → Type 0
    OfLists f = (xs : Items) (js : List Judge) (ks : List entry.Judge) → ItemsMatch way st R xs js ks → Keeps way (lists_agree xs js ls) (f ks)

    pub vec-row : (e : Entry) → OfLists (λ ks. list_all (λ k. k e) ks) → has_type Array p.types ≡ true → is_bare p ss ≡ true → Agrees way st R r fol tgt v ps es (object p ss ls ns) (vec_entry e)
    vec-row e f t h = keep-from way _ _ _ (typed r v ps fol p ss ls ns Array t h) (by w)
      where
        by : {v : Value} {ps : Parts} {es : model.Parts entry.Judge} → View way st R r v ps es → Keeps way (is_kind v Array && of_kind_agrees r p v && parts_agree r v ps ls ns) (entry.each_item e es)
        by (of_null ps) = keep-equal way _ _ refl
        by (of_boolean b ps) = keep-equal way _ _ refl
        by (of_number z ps s) = keep-equal way _ _ refl
        by (of_text s ps) = keep-equal way _ _ refl
        by (of_list xs ps ks h) = f xs ps.items ks h
        by (of_object ms ps ks h am) = keep-equal way _ _ refl

    pub array-row : (e : Entry) (n : ℕ) → OfLists (λ ks. length ks == n && list_all (λ k. k e) ks) → has_type Array p.types ≡ true → is_bare p ss ≡ true → Agrees way st R r fol tgt v ps es (object p ss ls ns) (array_entry e n)
    array-row e n f t h = keep-from way _ _ _ (typed r v ps fol p ss ls ns Array t h) (by w)
      where
        by : {v : Value} {ps : Parts} {es : model.Parts entry.Judge} → View way st R r v ps es → Keeps way (is_kind v Array && of_kind_agrees r p v && parts_agree r v ps ls ns) (entry.of_length n es && entry.each_item e es)
        by (of_null ps) = keep-equal way _ _ refl
        by (of_boolean b ps) = keep-equal way _ _ refl
        by (of_number z ps s) = keep-equal way _ _ refl
        by (of_text s ps) = keep-equal way _ _ refl
        by (of_list xs ps ks h) = f xs ps.items ks h
        by (of_object ms ps ks h am) = keep-equal way _ _ refl

    pub tuple-row : (us : Entries) → OfLists (in_places (entries_of us)) → has_type Array p.types ≡ true → is_bare p ss ≡ true → Agrees way st R r fol tgt v ps es (object p ss ls ns) (tuple_entry us)
    tuple-row us f t h = keep-from way _ _ _ (typed r v ps fol p ss ls ns Array t h) (by w)
      where
        by : {v : Value} {ps : Parts} {es : model.Parts entry.Judge} → View way st R r v ps es → Keeps way (is_kind v Array && of_kind_agrees r p v && parts_agree r v ps ls ns) (entry.by_places (entries_of us) es)
        by (of_null ps) = keep-equal way _ _ refl
        by (of_boolean b ps) = keep-equal way _ _ refl
        by (of_number z ps s) = keep-equal way _ _ refl
        by (of_text s ps) = keep-equal way _ _ refl
        by (of_list xs ps ks h) = f xs ps.items ks h
        by (of_object ms ps ks h am) = keep-equal way _ _ refl
