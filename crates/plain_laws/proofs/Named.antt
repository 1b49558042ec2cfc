-- `oneOf` of texts and of closed objects with one property.
use Rattle.std.proofs.Common.{◌≡◌, ℕ, zero, suc, List, [], ◌∷◌, ◌++◌, map, length, Bool, true, false, ◌&&◌, not, Option, Some, None, is_some, option_map, option_and_then, refl, sym, ap, ◌∙◌, subst, nat_le, codes}
use Rattle.std.specs.Prelude.{if◌then◌else◌}
use Rattle.std.specs.List.{list_all, flat_map}
use Rattle.schema_defs.specs.Location.{Step, Location, place}
use Rattle.schema_defs.specs.Texts.{Relations}
use Rattle.schema_defs.specs.Schema.{Schema, object, Schemas, no_more, schema, schema_list, Properties, no_properties, property, Document}
use Rattle.enum_defs.specs.Words.{Name, all_some, all_differ, is_name, props_of, required_of}
use Rattle.enum_defs.specs.Kinds.{null_free}
use Rattle.enum_defs.specs.Shapes.{Case, text_case, is_null_schema, external_cases, all_cases, external_shape, if_differ, only_property, members_of}
use Rattle.convert_defs.specs.Shapes.{Member, members_from, external_rows}
use Rattle.convert_defs.specs.Table.{one_of_option, one_of_external, one_of_finding}
use Rattle.convert_defs.proofs.Bare.{and_left, and_right, impossible, some-same, none-some}
use Rattle.convert_walks.specs.Spot.{Branches}
use Rattle.plain_defs.specs.Words.{enumeration, constant, named_text, the_one, or_else, one_required, one_of_required, is_closed}
use Rattle.plain_defs.specs.Rows.{Inner, rows_within, one_of, name_if_null_free, holding_case, cases, all_apart, plain_cases}
use Rattle.plain_laws.proofs.Tree.{IsUnwalked, AllUnwalked, FindingFits, Fits}
use Rattle.plain_laws.proofs.NotNull.{constant-not-null, enumeration-not-null, null-struct}
use Rattle.plain_laws.proofs.Members.{IsTexts, listed-texts, constant-texts, is-object}
use Rattle.plain_laws.proofs.Choices.{Each, schemas-are, no-option, all-unwalked, choice-fits, ExternalFits, external-fits, texts-fit, objects-fit, object-cases}

module _ (r : Relations) (d : Document) (most : ℕ) (j : ℕ) where
  abbrev inner : Inner
  inner = rows_within d j

  -- a member with its cases, named so
  pub record IsNamed (s : Schema) (ns : List Name) : Type 0 where
    pub held : List Case
    pub has : external_cases s ≡ Some held
    pub named : map (λ c. c.name) held ≡ ns
    pub fits : (all : Branches) → AllUnwalked all → (l : Location) → ExternalFits r d most j all (l, s)
    pub unwalked : IsUnwalked s
    pub unlike_null : is_null_schema s ≡ false

  text-names : (ts : List Name) → map (λ c. c.name) (map text_case ts) ≡ ts
  text-names [] = refl
  text-names (t ∷ ts) = ap (λ us. t ∷ us) (text-names ts)

  by-texts : (s : Schema) (ts : List Name) → IsTexts s ts → is_null_schema s ≡ false → IsNamed s ts
  by-texts s ts t f = record { held = map text_case ts; has = t.cases; named = text-names ts; fits = λ all u l. texts-fit r d most j all l s ts t; unwalked = t.unwalked; unlike_null = f }

  by-list : (s : Schema) (ts : List Name) → enumeration s ≡ Some ts → IsNamed s ts
  by-list s ts e = by-texts s ts (listed-texts s ts e) (enumeration-not-null d inner s (ap is_some e))

  by-constant : (s : Schema) (t : Name) → constant s ≡ Some t → IsNamed s (t ∷ [])
  by-constant s t e = by-texts s (t ∷ []) (constant-texts s t e) (constant-not-null d inner s (ap is_some e))

  by-name : (s : Schema) (t : Name) → named_text s ≡ Some t → IsNamed s (t ∷ [])
  by-name s t h = by (constant s) refl h
    where
      one : (o : Option (List Name)) → the_one o ≡ Some t → o ≡ Some (t ∷ [])
      one None h = none-some t h
      one (Some []) h = none-some t h
      one (Some (u ∷ [])) h = ap (λ x. Some (x ∷ [])) (some-same u t h)
      one (Some (u ∷ v ∷ us)) h = none-some t h

      by : (o : Option Name) → constant s ≡ o → or_else o (the_one (enumeration s)) ≡ Some t → IsNamed s (t ∷ [])
      by None e h = by-list s (t ∷ []) (one (enumeration s) h)
      by (Some u) e h = by-constant s t (e ∙ h)

  -- the one property, with the case that holds it
  one-held : (c : Bool) (required : List Name) (ps : Properties) (ns : List Name) → name_if_null_free d inner (one_of_required required ps) ≡ Some ns → (cs : List Case) × (only_property c required ps ≡ Some cs) × (map (λ x. x.name) cs ≡ ns)
  one-held c required no_properties ns h = none-some ns h
  one-held c required (property k t (property l u ps)) ns h = none-some ns h
  one-held c required (property k t no_properties) ns h = by (is_name k required) h
    where
      by-null : (b : Bool) → (if b then Some (k ∷ []) else None) ≡ Some ns → k ∷ [] ≡ ns
      by-null true h = some-same (k ∷ []) ns h
      by-null false h = none-some ns h

      by : (b : Bool) → name_if_null_free d inner (if b then Some (k, t) else None) ≡ Some ns → (cs : List Case) × ((if b then Some (record { name = k; content = Some t; closed = c } ∷ []) else None) ≡ Some cs) × (map (λ x. x.name) cs ≡ ns)
      by true h = (record { name = k; content = Some t; closed = c } ∷ [], refl, by-null (null_free d t) h)
      by false h = none-some ns h

  by-object : (s : Schema) (ns : List Name) → holding_case d inner s ≡ Some ns → IsNamed s ns
  by-object s ns h = by (inner.object s && is_closed s) refl h
    where
      by-level : (i : ℕ) → i ≡ j → (rows_within d i).object s ≡ true → is_closed s ≡ true → name_if_null_free d inner (one_required s) ≡ Some ns → IsNamed s ns
      by-level zero e o c h = impossible o
      by-level (suc i) e o c h =
          let x = is-object d (rows_within d i) s o in
          let z = one-held (is_closed s) (required_of (members_of s)) (props_of (members_of s)) ns h in
          record {
            held = z.0;
            has = object-cases r d most s x ∙ z.1;
            named = z.2;
            fits = λ all u l. subst (λ k. ExternalFits r d most k all (l, s)) e (objects-fit r d most i all u l s o c);
            unwalked = x.unwalked;
            unlike_null = null-struct d (rows_within d i) s o;
          }

      by : (b : Bool) → (inner.object s && is_closed s) ≡ b → (if b then name_if_null_free d inner (one_required s) else None) ≡ Some ns → IsNamed s ns
      by true e h = by-level j refl (and_left (inner.object s) _ e) (and_right (inner.object s) _ e) h
      by false e h = none-some ns h

  pub is-named : (s : Schema) (ns : List Name) → cases d inner s ≡ Some ns → IsNamed s ns
  is-named s ns h = by (enumeration s) refl h
    where
      by-2 : (o : Option Name) → named_text s ≡ o → or_else (option_map (λ t. t ∷ []) o) (holding_case d inner s) ≡ Some ns → IsNamed s ns
      by-2 None e h = by-object s ns h
      by-2 (Some t) e h = subst (IsNamed s) (some-same (t ∷ []) ns h) (by-name s t e)

      by : (o : Option (List Name)) → enumeration s ≡ o → or_else o (or_else (option_map (λ t. t ∷ []) (named_text s)) (holding_case d inner s)) ≡ Some ns → IsNamed s ns
      by None e h = by-2 (named_text s) refl h
      by (Some ts) e h = by-list s ns (e ∙ h)

  -- ---- all members

  abbrev AllNamed : List Schema → List (List Name) → Type 0
  AllNamed [] [] = Unit {0}
  AllNamed (s ∷ ss) (ns ∷ nss) = IsNamed s ns × AllNamed ss nss
  AllNamed _ _ = ⊥

  all-named : (ss : List Schema) (nss : List (List Name)) → all_some (cases d inner) ss ≡ Some nss → AllNamed ss nss
  all-named [] nss h = subst (AllNamed []) (some-same [] nss h) tt
  all-named (s ∷ ss) nss h = by (cases d inner s) refl (all_some (cases d inner) ss) refl h (all-named ss)
    where
      by : (o : Option (List Name)) → cases d inner s ≡ o → (x : Option (List (List Name))) → all_some (cases d inner) ss ≡ x → option_and_then (λ ns. option_map (λ nss. ns ∷ nss) x) o ≡ Some nss
          → ((nss : List (List Name)) → all_some (cases d inner) ss ≡ Some nss → AllNamed ss nss) → AllNamed (s ∷ ss) nss
      by None e x f h k = none-some nss h
      by (Some ns) e None f h k = none-some nss h
      by (Some ns) e (Some others) f h k = subst (AllNamed (s ∷ ss)) (some-same (ns ∷ others) nss h) (is-named s ns e, k others f)

  map-both : (xs ys : List Case) → map (λ c. c.name) (xs ++ ys) ≡ map (λ c. c.name) xs ++ map (λ c. c.name) ys
  map-both [] ys = refl
  map-both (x ∷ xs) ys = ap (λ ns. x.name ∷ ns) (map-both xs ys)

  all-held : (ss : List Schema) (nss : List (List Name)) → AllNamed ss nss → (cs : List Case) × (all_cases ss ≡ Some cs) × (map (λ c. c.name) cs ≡ flat_map (λ ns. ns) nss)
  all-held [] [] h = ([], refl, refl)
  all-held [] (ns ∷ nss) h = absurd h
  all-held (s ∷ ss) [] h = absurd h
  all-held (s ∷ ss) (ns ∷ nss) h =
      let z = all-held ss nss h.1 in
      (h.0.held ++ z.0, (λ i. option_and_then (λ cs. option_map (λ others. cs ++ others) (z.1 i)) (h.0.has i)), map-both h.0.held z.0 ∙ (λ i. h.0.named i ++ z.2 i))

  external-is : (ss : List Schema) (nss : List (List Name)) → AllNamed ss nss → all_differ (flat_map (λ ns. ns) nss) ≡ true → (cs : List Case) × (external_shape ss ≡ Some cs)
  external-is ss nss h g =
      let z = all-held ss nss h in
      (z.0, ap (option_and_then (if_differ (λ c. c.name))) z.1 ∙ ap (λ b. if b then Some z.0 else None) (ap all_differ z.2 ∙ g))

  none-null : (ss : List Schema) (nss : List (List Name)) → AllNamed ss nss → list_all (λ s. not (is_null_schema s)) ss ≡ true
  none-null [] nss h = refl
  none-null (s ∷ ss) [] h = absurd h
  none-null (s ∷ ss) (ns ∷ nss) h = λ i. not (h.0.unlike_null i) && none-null ss nss h.1 i

  each-fits : (all : Branches) → AllUnwalked all → (k : Step) (n : ℕ) (qs : Schemas) (nss : List (List Name)) → AllNamed (schema_list qs) nss → Each (ExternalFits r d most j all) (members_from k n qs)
  each-fits all u k n no_more nss h = tt
  each-fits all u k n (schema s qs) [] h = absurd h
  each-fits all u k n (schema s qs) (ns ∷ nss) h = (h.0.fits all u (k ∷ place n ∷ []), each-fits all u k (suc n) qs nss h.1)

  each-unwalked : (k : Step) (n : ℕ) (qs : Schemas) (nss : List (List Name)) → AllNamed (schema_list qs) nss → Each (λ m. IsUnwalked m.1) (members_from k n qs)
  each-unwalked k n no_more nss h = tt
  each-unwalked k n (schema s qs) [] h = absurd h
  each-unwalked k n (schema s qs) (ns ∷ nss) h = (h.0.unwalked, each-unwalked k (suc n) qs nss h.1)

  named-fits : (name : List ℕ) (qs : Schemas) (nss : List (List Name)) → AllNamed (schema_list qs) nss → all_differ (flat_map (λ ns. ns) nss) ≡ true → FindingFits r d most false j (one_of_finding d name (members_from (codes "oneOf") 0 qs))
  named-fits name qs nss h g =
      let ms : List Member = members_from (codes "oneOf") 0 qs in
      let u = each-unwalked (codes "oneOf") 0 qs nss h in
      let e = external-is (schema_list qs) nss h g in
      subst (λ o. FindingFits r d most false j (one_of_option d ms o)) (sym (no-option (codes "oneOf") 0 qs (none-null (schema_list qs) nss h)))
      (subst (λ o. FindingFits r d most false j (one_of_external d ms (option_map (λ cs. external_rows ms) o))) (sym (ap external_shape (schemas-are (codes "oneOf") 0 qs) ∙ e.1))
      (external-fits r d most j ms (each-fits ms (all-unwalked ms u) (codes "oneOf") 0 qs nss h) u))

  pub row-cased : (s : Schema) → plain_cases d inner s ≡ true → Fits r d most false j s
  row-cased s h =
      choice-fits r d most j 1 inner s refl (and_left (nat_le 1 (length (one_of d inner s))) _ h)
      (λ name qs e. by name qs (all_some (cases d inner) (schema_list qs)) refl (ap (λ ss. all_apart d inner (all_some (cases d inner) ss)) e ∙ and_right (nat_le 1 (length (one_of d inner s))) _ h))
    where
      by : (name : List ℕ) (qs : Schemas) (o : Option (List (List Name))) → all_some (cases d inner) (schema_list qs) ≡ o → all_apart d inner o ≡ true → FindingFits r d most false j (one_of_finding d name (members_from (codes "oneOf") 0 qs))
      by name qs None e h = impossible h
      by name qs (Some nss) e h = named-fits name qs nss (all-named (schema_list qs) nss e) h
