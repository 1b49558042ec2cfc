-- Rows are sound where what they hold is.
use Rattle.std.proofs.Common.{◌≡◌, ℕ, zero, suc, List, [], ◌∷◌, length, Bool, true, false, ◌&&◌, ◌||◌, not, Option, Some, None, is_none, is_some, option_map, option_and_then, refl, sym, ap, ◌∙◌, subst, ◌⊎◌, inl, inr, nat_le}
use Rattle.std.specs.Prelude.{if◌then◌else◌}
use Rattle.std.specs.List.{list_all}
use Rattle.schema_defs.specs.declared.InstanceType.{InstanceType}
use Rattle.schema_defs.specs.declared.InstanceType.TheVariants.{Null, Boolean, Object, Array, Number, Text, Integer}
use Rattle.schema_defs.specs.Schema.{Types, one_type, many_types, Plain, Schema, boolean, object, Same, no_same, same_value, Lists, no_lists, lists, Named, no_named, named, MaybeSchema, no_schema, the_schema, no_list, the_list, Schemas, no_more, schema, schema_list, no_items, each_item, by_place, Properties, no_properties, property, Definition, Document}
use Rattle.schema_defs.specs.Counts.{has_properties}
use Rattle.enum_defs.specs.Words.{Name, has_type, same_type, without_same, without_lists, without_named, all_some, is_name, as_text}
use Rattle.enum_defs.specs.Kinds.{null_free}
use Rattle.convert_defs.proofs.Bare.{and_left, and_right, impossible, is-none, has_type-is, none-some, some-same, no-lists, no-named}
use Rattle.plain_defs.specs.Words as plain
use Rattle.plain_defs.specs.Words.{types_at_most, says_nothing, is_only, without_schemas, is_unsized, is_uncounted, is_flag, is_closed, distinct_texts, enumeration, constant, named_text, the_one, or_else, one_required, beside_null, less_null, lists_null_once}
use Rattle.plain_defs.specs.Rows.{Inner, rows_within, definition_row, plain_any, plain_boolean, plain_integer, plain_text, plain_list, plain_tuple, plain_map, plain_struct, plain_item, plain_reference, plain_option, plain_tagged, plain_cases, plain_kinds, plain_row, plain_typed, sized_text, formatted_text, holds_items, is_sized, holds_places, holds_members, holds_property, holds_properties, are_within, holds_fields, has_flag, is_shut_alone, has_row, leads_to_definition, with_null, is_null_alone, is_row_and_null, are_row_and_null, has_row_and_null, members_of_one, one_of, name_if_null_free, holding_case, cases, all_apart}
use Rattle.plain_laws.specs.Laws.{refers, names_no_number, is_sound, PlainIsSound}
use Rattle.plain_laws.proofs.Facts.{either, if-some, else-some, one-some, no-same, nothing, only, AtMost, at-most, Schemaless, schemaless}
use Rattle.plain_laws.proofs.NotNull.{row-cases, typed-cases}
use Rattle.plain_laws.proofs.Sound.{Sound, SoundSame, SoundLists, SoundNamed, SoundMaybe, SoundAll, SoundProperties, SoundDefinitions, sound-there}
use Rattle.plain_laws.proofs.Documents.{rows-of}

-- of a list of two types with null the other is told
null-beside : (o : Option Types) (k : InstanceType) → beside_null o ≡ Some k → same_type Number k ≡ false → names_no_number o ≡ true
null-beside None k e h = none-some k e
null-beside (Some (one_type l)) k e h = none-some k e
null-beside (Some (many_types [])) k e h = none-some k e
null-beside (Some (many_types (Null ∷ []))) k e h = none-some k e
null-beside (Some (many_types (_ ∷ []))) k e h = none-some k e
null-beside (Some (many_types (Null ∷ l ∷ []))) k e h = ap (λ b. not (b || false)) (ap (same_type Number) (some-same l k e) ∙ h)
null-beside (Some (many_types (Boolean ∷ Null ∷ []))) k e h = refl
null-beside (Some (many_types (Object ∷ Null ∷ []))) k e h = refl
null-beside (Some (many_types (Array ∷ Null ∷ []))) k e h = refl
null-beside (Some (many_types (Number ∷ Null ∷ []))) k e h = impossible (sym h ∙ ap (same_type Number) (sym (some-same Number k e)))
null-beside (Some (many_types (Text ∷ Null ∷ []))) k e h = refl
null-beside (Some (many_types (Integer ∷ Null ∷ []))) k e h = refl
null-beside (Some (many_types (_ ∷ _ ∷ []))) k e h = none-some k e
null-beside (Some (many_types (Null ∷ _ ∷ _ ∷ _))) k e h = none-some k e
null-beside (Some (many_types (_ ∷ Null ∷ _ ∷ _))) k e h = none-some k e
null-beside (Some (many_types (_ ∷ _ ∷ _ ∷ _))) k e h = none-some k e

module _ (d : Document) (inner : Inner) (rows : (s : Schema) → inner.row s ≡ true → Sound d s) (nulls : (s : Schema) → inner.nullable s ≡ true → Sound d s) (objects : (s : Schema) → inner.object s ≡ true → Sound d s) where
  -- ---- keywords of one schema

  said : (p : Plain) (ss : Same) (ls : Lists) (ns : Named) (o : Option Types) → p.types ≡ o → names_no_number o ≡ true → p.reference ≡ None → is_sound d (object p ss ls ns) ≡ true
  said p ss ls ns o t h q = λ i. refers d (q i) && (ap names_no_number t ∙ h) i

  leaf : (p : Plain) (ss : Same) (ls : Lists) (ns : Named) → is_sound d (object p ss ls ns) ≡ true → Schemaless ss ls ns → Sound d (object p ss ls ns)
  leaf p ss ls ns h g = (h, subst (SoundSame d) (sym g.same) tt, subst (SoundLists d) (sym g.lists) tt, subst (SoundNamed d) (sym g.named) tt)

  -- of that type alone
  typed-leaf : (k : InstanceType) (p q : Plain) (ss : Same) (ls : Lists) (ns : Named) (b : Bool) → not (same_type Number k) ≡ true → q.types ≡ p.types → q.reference ≡ p.reference → (is_only k q && b) ≡ true → without_schemas ss ls ns ≡ true → Sound d (object p ss ls ns)
  typed-leaf k p q ss ls ns b f t u h g =
      let n = only q k (and_left (is_only k q) b h) in
      leaf p ss ls ns (said p ss ls ns (Some (one_type k)) (sym t ∙ n.types) f (sym u ∙ n.most.reference)) (schemaless ss ls ns g)

  typed-owner : (k : InstanceType) (p : Plain) (ss : Same) (ls : Lists) (ns : Named) (b : Bool) → not (same_type Number k) ≡ true → (is_only k p && b) ≡ true → is_sound d (object p ss ls ns) ≡ true
  typed-owner k p ss ls ns b f h = let n = only p k (and_left (is_only k p) b h) in said p ss ls ns (Some (one_type k)) n.types f n.most.reference

  sound-any : (s : Schema) → plain_any d inner s ≡ true → Sound d s
  sound-any (boolean b) h = tt
  sound-any (object p ss ls ns) h =
      let n = nothing p (and_left (says_nothing p) _ h) in
      leaf p ss ls ns (said p ss ls ns None n.types refl n.most.reference) (schemaless ss ls ns (and_right (says_nothing p) _ h))

  sound-boolean : (s : Schema) → plain_boolean d inner s ≡ true → Sound d s
  sound-boolean (boolean b) h = tt
  sound-boolean (object p ss ls ns) h = typed-leaf Boolean p p ss ls ns _ refl refl refl h (and_right (is_only Boolean p) _ h)

  sound-integer : (s : Schema) → plain_integer d inner s ≡ true → Sound d s
  sound-integer (boolean b) h = tt
  sound-integer (object p ss ls ns) h =
      let q : Plain = record p { format = None; numbers = None } in
      typed-leaf Integer p q ss ls ns _ refl refl refl h (and_right _ (without_schemas ss ls ns) (and_right _ _ (and_right (is_only Integer q) _ h)))

  sound-sized : (s : Schema) → sized_text d inner s ≡ true → Sound d s
  sound-sized (boolean b) h = tt
  sound-sized (object p ss ls ns) h = let q : Plain = record p { texts = None } in typed-leaf Text p q ss ls ns _ refl refl refl h (and_right _ (without_schemas ss ls ns) (and_right (is_only Text q) _ h))

  sound-formatted : (s : Schema) → formatted_text d inner s ≡ true → Sound d s
  sound-formatted (boolean b) h = tt
  sound-formatted (object p ss ls ns) h = let q : Plain = record p { format = None } in typed-leaf Text p q ss ls ns _ refl refl refl h (and_right _ (without_schemas ss ls ns) (and_right (is_only Text q) _ h))

  sound-listed : (s : Schema) → is_some (enumeration s) ≡ true → Sound d s
  sound-listed (boolean b) h = tt
  sound-listed (object p ss ls ns) h =
      let q : Plain = record p { enum_values = None } in
      let i = if-some (is_only Text q && without_schemas ss ls ns) (distinct_texts p.enum_values) h in
      typed-leaf Text p q ss ls ns _ refl refl refl i.0 (and_right (is_only Text q) _ i.0)

  sound-constant : (s : Schema) → is_some (constant s) ≡ true → Sound d s
  sound-constant (boolean b) h = tt
  sound-constant (object p ss ls ns) h =
      let q : Plain = record p { const_value = None } in
      let i = if-some ((is_none p.types || has_type Text p.types) && (types_at_most q && without_schemas ss ls ns)) (option_and_then as_text p.const_value) h in
      let a = and_right (is_none p.types || has_type Text p.types) _ i.0 in
      leaf p ss ls ns (by (at-most q (and_left (types_at_most q) _ a)) (either (is_none p.types) (has_type Text p.types) (and_left (is_none p.types || has_type Text p.types) _ i.0))) (schemaless ss ls ns (and_right (types_at_most q) _ a))
    where
      by : AtMost (record p { const_value = None }) → (is_none p.types ≡ true) ⊎ (has_type Text p.types ≡ true) → is_sound d (object p ss ls ns) ≡ true
      by m (inl k) = said p ss ls ns None (is-none p.types k) refl m.reference
      by m (inr k) = said p ss ls ns (Some (one_type Text)) (has_type-is Text p.types k) refl m.reference

  sound-named : (s : Schema) → is_some (named_text s) ≡ true → Sound d s
  sound-named s h = by (else-some (constant s) (the_one (enumeration s)) h)
    where
      by : (is_some (constant s) ≡ true) ⊎ (is_some (the_one (enumeration s)) ≡ true) → Sound d s
      by (inl k) = sound-constant s k
      by (inr k) = sound-listed s (one-some (enumeration s) k)

  sound-text : (s : Schema) → plain_text d inner s ≡ true → Sound d s
  sound-text s h = by (either (sized_text d inner s) _ h)
    where
      by-2 : (is_some (enumeration s) ≡ true) ⊎ (is_some (named_text s) ≡ true) → Sound d s
      by-2 (inl k) = sound-listed s k
      by-2 (inr k) = sound-named s k

      by-1 : (formatted_text d inner s ≡ true) ⊎ ((is_some (enumeration s) || is_some (named_text s)) ≡ true) → Sound d s
      by-1 (inl k) = sound-formatted s k
      by-1 (inr k) = by-2 (either (is_some (enumeration s)) _ k)

      by : (sized_text d inner s ≡ true) ⊎ ((formatted_text d inner s || (is_some (enumeration s) || is_some (named_text s))) ≡ true) → Sound d s
      by (inl k) = sound-sized s k
      by (inr k) = by-1 (either (formatted_text d inner s) _ k)

  refers-to : (o : Option Name) → leads_to_definition d inner o ≡ true → refers d o ≡ true
  refers-to None h = refl
  refers-to (Some q) h = h

  sound-reference : (s : Schema) → plain_reference d inner s ≡ true → Sound d s
  sound-reference (boolean b) h = tt
  sound-reference (object p ss ls ns) h =
      let q : Plain = record p { reference = None } in
      let n = nothing q (and_left (says_nothing q) _ h) in
      let a = and_right (says_nothing q) _ h in
      leaf p ss ls ns (λ i. refers-to p.reference (and_left (leads_to_definition d inner p.reference) _ a) i && ap names_no_number n.types i) (schemaless ss ls ns (and_right (leads_to_definition d inner p.reference) _ a))

  -- ---- owners

  sound-all : (f : Schema → Bool) → ((s : Schema) → f s ≡ true → Sound d s) → (ss : Schemas) → list_all f (schema_list ss) ≡ true → SoundAll d ss
  sound-all f g no_more h = tt
  sound-all f g (schema s ss) h = (g s (and_left (f s) _ h), sound-all f g ss (and_right (f s) _ h))

  sound-items : (ls : Lists) → holds_items d inner ls ≡ true → SoundLists d ls
  sound-items no_lists h = tt
  sound-items (lists (each_item s) no_schema no_schema rules) h = (rows s (and_right (is_unsized rules) _ h), tt, tt)
  sound-items (lists (each_item s) no_schema (the_schema t) rules) h = impossible h
  sound-items (lists (each_item s) (the_schema t) contains rules) h = impossible h
  sound-items (lists no_items rest contains rules) h = impossible h
  sound-items (lists (by_place ss) rest contains rules) h = impossible h

  sound-places : (ls : Lists) → holds_places d inner ls ≡ true → SoundLists d ls
  sound-places no_lists h = tt
  sound-places (lists (by_place ss) no_schema no_schema rules) h = (sound-all inner.row rows ss (and_right (is_sized d inner (length (schema_list ss)) rules) _ h), tt, tt)
  sound-places (lists (by_place ss) no_schema (the_schema t) rules) h = impossible h
  sound-places (lists (by_place ss) (the_schema t) contains rules) h = impossible h
  sound-places (lists no_items rest contains rules) h = impossible h
  sound-places (lists (each_item s) rest contains rules) h = impossible h

  sound-members : (ns : Named) → holds_members d inner ns ≡ true → SoundNamed d ns
  sound-members no_named h = tt
  sound-members (named no_properties no_properties (the_schema s) no_schema rules) h = (tt, tt, rows s (and_right (plain.is_unruled rules) _ h), tt)
  sound-members (named no_properties no_properties (the_schema s) (the_schema t) rules) h = impossible h
  sound-members (named no_properties no_properties no_schema names rules) h = impossible h
  sound-members (named no_properties (property k s ps) rest names rules) h = impossible h
  sound-members (named (property k s ps) patterns rest names rules) h = impossible h

  sound-property : (required : List Name) (k : Name) (s : Schema) → holds_property d inner required k s ≡ true → Sound d s
  sound-property required k s h = by (either (inner.row s) _ h)
    where
      by : (inner.row s ≡ true) ⊎ ((not (is_name k required) && inner.nullable s) ≡ true) → Sound d s
      by (inl g) = rows s g
      by (inr g) = nulls s (and_right (not (is_name k required)) _ g)

  sound-properties : (required : List Name) (ps : Properties) → holds_properties d inner required ps ≡ true → SoundProperties d ps
  sound-properties required no_properties h = tt
  sound-properties required (property k s ps) h = (sound-property required k s (and_left (holds_property d inner required k s) _ h), sound-properties required ps (and_right (holds_property d inner required k s) _ h))

  sound-rest : (rest : MaybeSchema) → is_flag rest ≡ true → SoundMaybe d rest
  sound-rest no_schema h = tt
  sound-rest (the_schema (boolean b)) h = tt
  sound-rest (the_schema (object p ss ls ns)) h = impossible h

  sound-fields : (ns : Named) → holds_fields d inner ns ≡ true → (has_flag d inner ns ≡ true) ⊎ (has_row d inner ns ≡ true) → SoundNamed d ns
  sound-fields no_named h g = tt
  sound-fields (named props no_properties rest no_schema rules) h g =
      (sound-properties rules.required props (and_right (are_within d inner rules.required props) _ (and_right (is_uncounted rules) _ (and_right (has_properties props) _ h))), tt, by rest g, tt)
    where
      by : (rest : MaybeSchema) → (has_flag d inner (named props no_properties rest no_schema rules) ≡ true) ⊎ (has_row d inner (named props no_properties rest no_schema rules) ≡ true) → SoundMaybe d rest
      by rest (inl f) = sound-rest rest f
      by no_schema (inr f) = tt
      by (the_schema (boolean b)) (inr f) = tt
      by (the_schema (object q ss ls ns)) (inr f) = rows (object q ss ls ns) f
  sound-fields (named props no_properties rest (the_schema t) rules) h g = impossible h
  sound-fields (named props (property k s ps) rest names rules) h g = impossible h

  sound-shut : (ns : Named) → is_shut_alone d inner ns ≡ true → SoundNamed d ns
  sound-shut no_named h = tt
  sound-shut (named no_properties no_properties no_schema no_schema rules) h = (tt, tt, tt, tt)
  sound-shut (named no_properties no_properties (the_schema (boolean b)) no_schema rules) h = (tt, tt, tt, tt)
  sound-shut (named no_properties no_properties (the_schema (object p ss ls ns)) no_schema rules) h = impossible (and_right (plain.is_unruled rules) _ h)
  sound-shut (named no_properties no_properties rest (the_schema t) rules) h = impossible h
  sound-shut (named no_properties (property k s ps) rest names rules) h = impossible h
  sound-shut (named (property k s ps) patterns rest names rules) h = impossible h

  sound-list : (s : Schema) → plain_list d inner s ≡ true → Sound d s
  sound-list (boolean b) h = tt
  sound-list (object p ss ls ns) h =
      let a = and_right (is_only Array p) _ h in
      let b = and_right (without_same ss) _ a in
      (typed-owner Array p ss ls ns _ refl h, subst (SoundSame d) (sym (no-same ss (and_left (without_same ss) _ a))) tt, sound-items ls (and_left (holds_items d inner ls) _ b), subst (SoundNamed d) (sym (no-named ns (and_right (holds_items d inner ls) _ b))) tt)

  sound-tuple : (s : Schema) → plain_tuple d inner s ≡ true → Sound d s
  sound-tuple (boolean b) h = tt
  sound-tuple (object p ss ls ns) h =
      let a = and_right (is_only Array p) _ h in
      let b = and_right (without_same ss) _ a in
      (typed-owner Array p ss ls ns _ refl h, subst (SoundSame d) (sym (no-same ss (and_left (without_same ss) _ a))) tt, sound-places ls (and_left (holds_places d inner ls) _ b), subst (SoundNamed d) (sym (no-named ns (and_right (holds_places d inner ls) _ b))) tt)

  of-members : (p : Plain) (ss : Same) (ls : Lists) (ns : Named) (x : Bool) → (is_only Object p && (without_same ss && (without_lists ls && x))) ≡ true → (x ≡ true → SoundNamed d ns) → Sound d (object p ss ls ns)
  of-members p ss ls ns x h f =
      let a = and_right (is_only Object p) _ h in
      let b = and_right (without_same ss) _ a in
      (typed-owner Object p ss ls ns _ refl h, subst (SoundSame d) (sym (no-same ss (and_left (without_same ss) _ a))) tt, subst (SoundLists d) (sym (no-lists ls (and_left (without_lists ls) _ b))) tt, f (and_right (without_lists ls) _ b))

  sound-map : (s : Schema) → plain_map d inner s ≡ true → Sound d s
  sound-map (boolean b) h = tt
  sound-map (object p ss ls ns) h = of-members p ss ls ns (holds_members d inner ns) h (sound-members ns)

  pub sound-struct : (s : Schema) → plain_struct d inner s ≡ true → Sound d s
  sound-struct (boolean b) h = tt
  sound-struct (object p ss ls ns) h = of-members p ss ls ns ((holds_fields d inner ns && has_flag d inner ns) || is_shut_alone d inner ns) h (λ g. by (either (holds_fields d inner ns && has_flag d inner ns) _ g))
    where
      by : ((holds_fields d inner ns && has_flag d inner ns) ≡ true) ⊎ (is_shut_alone d inner ns ≡ true) → SoundNamed d ns
      by (inl g) = sound-fields ns (and_left (holds_fields d inner ns) _ g) (inl (and_right (holds_fields d inner ns) _ g))
      by (inr g) = sound-shut ns g

  pub sound-item : (s : Schema) → plain_item d inner s ≡ true → Sound d s
  sound-item (boolean b) h = tt
  sound-item (object p ss ls ns) h = of-members p ss ls ns (holds_fields d inner ns && has_row d inner ns) h (λ g. sound-fields ns (and_left (holds_fields d inner ns) _ g) (inr (and_right (holds_fields d inner ns) _ g)))

  sound-typed : (s : Schema) → plain_typed d inner s ≡ true → Sound d s
  sound-typed s h = typed-cases d inner (Sound d s) s h (sound-boolean s) (sound-integer s) (sound-text s) (sound-list s) (sound-tuple s) (sound-map s) (sound-struct s)

  -- ---- options

  not-number : (k : InstanceType) → not (same_type Number k) ≡ true → same_type Number k ≡ false
  not-number k h = by (same_type Number k) h
    where
      by : (b : Bool) → not b ≡ true → b ≡ false
      by true h = sym h
      by false h = refl

  sound-null : (p : Plain) (ss : Same) (ls : Lists) (ns : Named) (o : Option InstanceType) → beside_null p.types ≡ o → with_null d inner p ss ls ns o ≡ true → Sound d (object p ss ls ns)
  sound-null p ss ls ns None e h = impossible h
  sound-null p ss ls ns (Some k) e h =
      let s = sound-typed (object (less_null k p) ss ls ns) (and_right (lists_null_once p.enum_values) _ (and_right (is_none p.const_value) _ h)) in
      ((λ i. and_left (refers d p.reference) (not (same_type Number k)) s.0 i && null-beside p.types k e (not-number k (and_right (refers d p.reference) (not (same_type Number k)) s.0)) i), s.1, s.2, s.3)

  sound-null-alone : (s : Schema) → is_null_alone d inner s ≡ true → Sound d s
  sound-null-alone (boolean b) h = tt
  sound-null-alone (object p ss ls ns) h = typed-leaf Null p p ss ls ns _ refl refl refl h (and_right _ (without_schemas ss ls ns) (and_right _ _ (and_right (is_only Null p) _ h)))

  sound-both : (s n : Schema) → is_row_and_null d inner s n ≡ true → Sound d s × Sound d n
  sound-both s n h = (rows s (and_left (inner.row s) _ h), sound-null-alone n (and_right (null_free d s) _ (and_right (inner.row s) _ h)))

  sound-pair : (ss : Schemas) → are_row_and_null d inner ss ≡ true → SoundAll d ss
  sound-pair no_more h = impossible h
  sound-pair (schema s no_more) h = impossible h
  sound-pair (schema s (schema t (schema u us))) h = impossible h
  sound-pair (schema s (schema t no_more)) h = by (either (is_row_and_null d inner s t) _ h)
    where
      by : (is_row_and_null d inner s t ≡ true) ⊎ (is_row_and_null d inner t s ≡ true) → SoundAll d (schema s (schema t no_more))
      by (inl g) = let z = sound-both s t g in (z.0, (z.1, tt))
      by (inr g) = let z = sound-both t s g in (z.1, (z.0, tt))

  sound-row-or-null : (ss : Same) → has_row_and_null d inner ss ≡ true → SoundSame d ss
  sound-row-or-null no_same h = tt
  sound-row-or-null (same_value no_list (the_list ss) no_list no_schema false) h = (tt, sound-pair ss h, tt, tt)
  sound-row-or-null (same_value no_list no_list (the_list ss) no_schema false) h = (tt, tt, sound-pair ss h, tt)
  sound-row-or-null (same_value no_list no_list no_list none c) h = impossible h
  sound-row-or-null (same_value no_list (the_list ss) (the_list ts) none c) h = impossible h
  sound-row-or-null (same_value no_list (the_list ss) no_list (the_schema s) c) h = impossible h
  sound-row-or-null (same_value no_list (the_list ss) no_list no_schema true) h = impossible h
  sound-row-or-null (same_value no_list no_list (the_list ss) (the_schema s) c) h = impossible h
  sound-row-or-null (same_value no_list no_list (the_list ss) no_schema true) h = impossible h
  sound-row-or-null (same_value (the_list ss) x y none c) h = impossible h

  pub sound-option : (s : Schema) → plain_option d inner s ≡ true → Sound d s
  sound-option (boolean b) h = tt
  sound-option (object p ss ls ns) h = by (either (with_null d inner p ss ls ns (beside_null p.types)) _ h)
    where
      by : (with_null d inner p ss ls ns (beside_null p.types) ≡ true) ⊎ ((says_nothing p && (has_row_and_null d inner ss && (without_lists ls && without_named ns))) ≡ true) → Sound d (object p ss ls ns)
      by (inl g) = sound-null p ss ls ns (beside_null p.types) refl g
      by (inr g) =
          let n = nothing p (and_left (says_nothing p) _ g) in
          let a = and_right (says_nothing p) _ g in
          let b = and_right (has_row_and_null d inner ss) _ a in
          (said p ss ls ns None n.types refl n.most.reference, sound-row-or-null ss (and_left (has_row_and_null d inner ss) _ a), subst (SoundLists d) (sym (no-lists ls (and_left (without_lists ls) _ b))) tt, subst (SoundNamed d) (sym (no-named ns (and_right (without_lists ls) _ b))) tt)

  -- ---- choices

  sound-choice : (n : ℕ) (s : Schema) → nat_le n 0 ≡ false → nat_le n (length (one_of d inner s)) ≡ true → ((qs : Schemas) → schema_list qs ≡ one_of d inner s → SoundAll d qs) → Sound d s
  sound-choice n (boolean b) e h f = tt
  sound-choice n (object p ss ls ns) e h f = by (says_nothing p && (without_lists ls && without_named ns)) refl h f
    where
      by-same : (ss : Same) → says_nothing p ≡ true → without_lists ls ≡ true → without_named ns ≡ true → nat_le n (length (members_of_one d inner ss)) ≡ true → ((qs : Schemas) → schema_list qs ≡ members_of_one d inner ss → SoundAll d qs) → Sound d (object p ss ls ns)
      by-same (same_value no_list no_list (the_list qs) no_schema false) g a b h f =
          let x = nothing p g in
          (said p (same_value no_list no_list (the_list qs) no_schema false) ls ns None x.types refl x.most.reference, (tt, tt, f qs refl, tt), subst (SoundLists d) (sym (no-lists ls a)) tt, subst (SoundNamed d) (sym (no-named ns b)) tt)
      by-same no_same g a b h f = impossible (sym e ∙ h)
      by-same (same_value no_list no_list (the_list qs) no_schema true) g a b h f = impossible (sym e ∙ h)
      by-same (same_value no_list no_list (the_list qs) (the_schema t) c) g a b h f = impossible (sym e ∙ h)
      by-same (same_value no_list no_list no_list none c) g a b h f = impossible (sym e ∙ h)
      by-same (same_value no_list (the_list us) alone none c) g a b h f = impossible (sym e ∙ h)
      by-same (same_value (the_list us) some alone none c) g a b h f = impossible (sym e ∙ h)

      by : (b : Bool) → (says_nothing p && (without_lists ls && without_named ns)) ≡ b → nat_le n (length (if b then members_of_one d inner ss else [])) ≡ true → ((qs : Schemas) → schema_list qs ≡ (if b then members_of_one d inner ss else []) → SoundAll d qs) → Sound d (object p ss ls ns)
      by true g h f = let a = and_right (says_nothing p) _ g in by-same ss (and_left (says_nothing p) _ g) (and_left (without_lists ls) _ a) (and_right (without_lists ls) _ a) h f
      by false g h f = impossible (sym e ∙ h)

  sound-tagged : (s : Schema) → plain_tagged d inner s ≡ true → Sound d s
  sound-tagged s h =
      sound-choice 2 s refl (and_left (nat_le 2 (length (one_of d inner s))) _ h)
      (λ qs e. sound-all inner.object objects qs (ap (list_all inner.object) e ∙ and_left (list_all inner.object (one_of d inner s)) _ (and_right (nat_le 2 (length (one_of d inner s))) _ h)))

  sound-holding : (s : Schema) (ns : List Name) → holding_case d inner s ≡ Some ns → Sound d s
  sound-holding s ns h = by (inner.object s && is_closed s) refl h
    where
      by : (b : Bool) → (inner.object s && is_closed s) ≡ b → (if b then name_if_null_free d inner (one_required s) else None) ≡ Some ns → Sound d s
      by true e h = objects s (and_left (inner.object s) _ e)
      by false e h = none-some ns h

  sound-case : (s : Schema) (ns : List Name) → cases d inner s ≡ Some ns → Sound d s
  sound-case s ns h = by (enumeration s) refl h
    where
      by-2 : (o : Option Name) → named_text s ≡ o → or_else (option_map (λ t. t ∷ []) o) (holding_case d inner s) ≡ Some ns → Sound d s
      by-2 None e h = sound-holding s ns h
      by-2 (Some t) e h = sound-named s (ap is_some e)

      by : (o : Option (List Name)) → enumeration s ≡ o → or_else o (or_else (option_map (λ t. t ∷ []) (named_text s)) (holding_case d inner s)) ≡ Some ns → Sound d s
      by None e h = by-2 (named_text s) refl h
      by (Some ts) e h = sound-listed s (ap is_some e)

  sound-cases : (ss : Schemas) → is_some (all_some (cases d inner) (schema_list ss)) ≡ true → SoundAll d ss
  sound-cases no_more h = tt
  sound-cases (schema s ss) h = by (cases d inner s) refl (all_some (cases d inner) (schema_list ss)) refl h (sound-cases ss)
    where
      by : (x : Option (List Name)) → cases d inner s ≡ x → (y : Option (List (List Name))) → all_some (cases d inner) (schema_list ss) ≡ y → is_some (option_and_then (λ ns. option_map (λ nss. ns ∷ nss) y) x) ≡ true
          → (is_some (all_some (cases d inner) (schema_list ss)) ≡ true → SoundAll d ss) → SoundAll d (schema s ss)
      by None e y f h k = impossible h
      by (Some ns) e None f h k = impossible h
      by (Some ns) e (Some os) f h k = (sound-case s ns e, k (ap is_some f))

  apart-some : (o : Option (List (List Name))) → all_apart d inner o ≡ true → is_some o ≡ true
  apart-some None h = impossible h
  apart-some (Some nss) h = refl

  sound-cased : (s : Schema) → plain_cases d inner s ≡ true → Sound d s
  sound-cased s h =
      sound-choice 1 s refl (and_left (nat_le 1 (length (one_of d inner s))) _ h)
      (λ qs e. sound-cases qs (ap (λ ss. is_some (all_some (cases d inner) ss)) e ∙ apart-some (all_some (cases d inner) (one_of d inner s)) (and_right (nat_le 1 (length (one_of d inner s))) _ h)))

  sound-kinds : (s : Schema) → plain_kinds d inner s ≡ true → Sound d s
  sound-kinds s h =
      sound-choice 2 s refl (and_left (nat_le 2 (length (one_of d inner s))) _ h)
      (λ qs e. sound-all inner.row rows qs (ap (list_all inner.row) e ∙ and_left (list_all inner.row (one_of d inner s)) _ (and_right (nat_le 2 (length (one_of d inner s))) _ h)))

  pub sound-row : (s : Schema) → plain_row d inner s ≡ true → Sound d s
  sound-row s h = row-cases d inner (Sound d s) s h (sound-any s) (sound-typed s) (sound-reference s) (sound-tagged s) (sound-cased s) (sound-kinds s)

-- ---- all levels

pub record Sounds (d : Document) (n : ℕ) : Type 0 where
  pub rows : (s : Schema) → (rows_within d n).row s ≡ true → Sound d s
  pub nulls : (s : Schema) → (rows_within d n).nullable s ≡ true → Sound d s
  pub objects : (s : Schema) → (rows_within d n).object s ≡ true → Sound d s

sounds : (d : Document) (n : ℕ) → Sounds d n
sounds d zero = record { rows = λ s h. impossible h; nulls = λ s h. impossible h; objects = λ s h. impossible h }
sounds d (suc n) =
    let w = sounds d n in
    record { rows = sound-row d (rows_within d n) w.rows w.nulls w.objects; nulls = sound-option d (rows_within d n) w.rows w.nulls w.objects; objects = sound-struct d (rows_within d n) w.rows w.nulls w.objects }

sound-definition : (d : Document) (n : ℕ) (s : Schema) → definition_row d n s ≡ true → Sound d s
sound-definition d zero s h = impossible h
sound-definition d (suc n) s h = by (either ((rows_within d (suc n)).row s) _ h)
  where
    by : ((rows_within d (suc n)).row s ≡ true) ⊎ (plain_item d (rows_within d n) s ≡ true) → Sound d s
    by (inl k) = (sounds d (suc n)).rows s k
    by (inr k) = let w = sounds d n in sound-item d (rows_within d n) w.rows w.nulls w.objects s k

sound-definitions : (d : Document) (n : ℕ) (es : List Definition) → list_all (λ e. definition_row d n e.body) es ≡ true → SoundDefinitions d es
sound-definitions d n [] h = tt
sound-definitions d n (e ∷ es) h = (sound-definition d n e.body (and_left (definition_row d n e.body) _ h), sound-definitions d n es (and_right (definition_row d n e.body) _ h))

pub plain_is_sound : PlainIsSound
plain_is_sound d depth h =
    let g = rows-of d depth h in
    sound-there d ((sounds d depth).rows d.root (and_left ((rows_within d depth).row d.root) _ g)) (sound-definitions d depth d.definitions (and_right ((rows_within d depth).row d.root) _ g))
