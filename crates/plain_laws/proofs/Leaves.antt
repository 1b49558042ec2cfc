-- Rows of plain schemas that hold no schema.
use Rattle.std.proofs.Common.{◌≡◌, ℕ, List, [], ◌∷◌, ◌++◌, Bool, true, false, ◌&&◌, ◌||◌, not, Option, Some, None, is_none, is_some, option_map, option_and_then, refl, sym, ap, ◌⊎◌, inl, inr}
use Rattle.std.specs.Prelude.{if◌then◌else◌}
use Rattle.std.specs.List.{list_all, list_any}
use Rattle.json_value.specs.Value as value
use Rattle.json_value.specs.Value.{Value, null, text}
use Rattle.schema_defs.specs.declared.InstanceType.TheVariants.{Boolean, Text, Integer}
use Rattle.schema_defs.specs.declared.Format.{Format}
use Rattle.schema_defs.specs.Texts.{Relations}
use Rattle.schema_defs.specs.Schema.{one_type, Texts, Plain, Schema, boolean, object, no_same, no_lists, no_named, Document}
use Rattle.schema_defs.specs.Layer.{format_of}
use Rattle.schema_defs.specs.Admits.{definition_name, defined_as, is_root_reference}
use Rattle.enum_defs.specs.Words.{Name, has_type, as_text, all_some, all_differ}
use Rattle.model_defs.specs.Layer.{is_text, is_null}
use Rattle.entry_defs.specs.Entry.{Target, the_root, definition, boolean_entry, any_entry, reference}
use Rattle.convert_defs.specs.Row.{plainly, noted, asking, leaf_row, refused_row, bad_value, here, widened, null_note, string_note}
use Rattle.convert_defs.specs.IntegerRow.{note_if}
use Rattle.convert_defs.specs.Scalars.{text_finding, patterns_of, given_format, enumerated, kept_texts, listed_entry, wanted_of}
use Rattle.convert_defs.specs.Table.{finding_of, row_of_target, target_of}
use Rattle.convert_defs.proofs.Bare.{and_left, and_right, impossible, is-none, has_type-is}
use Rattle.plain_defs.specs.Words.{is_empty, are_lengths, distinct_texts, enumeration, constant, named_text, types_at_most, says_nothing, is_only, without_schemas, the_one}
use Rattle.plain_defs.specs.Rows.{Inner, plain_any, plain_boolean, plain_integer, is_integer_format, bounds_fit, is_text_format, sized_text, formatted_text, plain_text, leads_to_definition, plain_reference}
use Rattle.plain_laws.proofs.Facts.{either, if-some, bind-some, map-some, else-some, one-some, nothing, only, AtMost, at-most, Schemaless, schemaless, written}
use Rattle.plain_laws.proofs.Tree.{FindingFits, Fits}
use Rattle.plain_laws.proofs.Integers.{integer-quiet}
use Rattle.plain_laws.proofs.Findings.{finding-fits, leaf-fits, fits-as}

module _ (r : Relations) (d : Document) (most : ℕ) (inner : Inner) (j : ℕ) where
  abbrev Good : Schema → Type 0
  Good s = Fits r d most false j s

  -- ---- anything

  pub row-any : (s : Schema) → plain_any d inner s ≡ true → Good s
  row-any (boolean true) h = record { unstated = refl; unwalked = tt; finding = leaf-fits r d most false j any_entry }
  row-any (boolean false) h = impossible h
  row-any (object p ss ls ns) h =
      let n = nothing p (and_left (says_nothing p) _ h) in
      let m = n.most in
      let g = schemaless ss ls ns (and_right (says_nothing p) _ h) in
      fits-as r d most false j p ss ls ns p.title p.description None None None None None None None no_same no_lists no_named
      refl refl m.default m.walk n.types m.format m.enum_values m.numbers m.texts m.reference m.const_value g.same g.lists g.named (leaf-fits r d most false j any_entry)

  -- ---- booleans

  pub row-boolean : (s : Schema) → plain_boolean d inner s ≡ true → Good s
  row-boolean (boolean b) h = impossible h
  row-boolean (object p ss ls ns) h =
      let n = only p Boolean (and_left (is_only Boolean p) _ h) in
      let m = n.most in
      let g = schemaless ss ls ns (and_right (is_only Boolean p) _ h) in
      fits-as r d most false j p ss ls ns p.title p.description (Some (one_type Boolean)) None None None None None None no_same no_lists no_named
      refl refl m.default m.walk n.types m.format m.enum_values m.numbers m.texts m.reference m.const_value g.same g.lists g.named (leaf-fits r d most false j boolean_entry)

  -- ---- integers

  pub row-integer : (s : Schema) → plain_integer d inner s ≡ true → Good s
  row-integer (boolean b) h = impossible h
  row-integer (object p ss ls ns) h =
      let q : Plain = record p { format = None; numbers = None } in
      let n = only q Integer (and_left (is_only Integer q) _ h) in
      let m = n.most in
      let a = and_right (is_only Integer q) _ h in
      let b = and_right (is_integer_format d inner p.format) _ a in
      let g = schemaless ss ls ns (and_right (bounds_fit d inner p.format p.numbers) _ b) in
      fits-as r d most false j p ss ls ns p.title p.description (Some (one_type Integer)) p.format None p.numbers None None None no_same no_lists no_named
      refl refl m.default m.walk n.types refl m.enum_values refl m.texts m.reference m.const_value g.same g.lists g.named
      (finding-fits r d most false j (finding_of r d (object (written p.title p.description (Some (one_type Integer)) p.format None p.numbers None None None) no_same no_lists no_named))
      (record {
        notes = integer-quiet d inner p.title p.description p.format p.numbers (and_left (is_integer_format d inner p.format) _ a) (and_left (bounds_fit d inner p.format p.numbers) _ b);
        patterns = refl;
        places = refl;
        faults = refl;
        listed = refl;
        unmerged = refl;
      }) tt tt)

  -- ---- texts

  no-patterns : (x : Option Texts) → are_lengths x ≡ true → patterns_of x ≡ []
  no-patterns None h = refl
  no-patterns (Some t) h = by t.patterns h
    where
      by : (qs : List (List ℕ)) → is_empty qs ≡ true → qs ≡ []
      by [] h = refl
      by (q ∷ qs) h = impossible h

  row-4-sized : (s : Schema) → sized_text d inner s ≡ true → Good s
  row-4-sized (boolean b) h = impossible h
  row-4-sized (object p ss ls ns) h =
      let q : Plain = record p { texts = None } in
      let n = only q Text (and_left (is_only Text q) _ h) in
      let m = n.most in
      let a = and_right (is_only Text q) _ h in
      let g = schemaless ss ls ns (and_right (are_lengths p.texts) _ a) in
      fits-as r d most false j p ss ls ns p.title p.description (Some (one_type Text)) None None None p.texts None None no_same no_lists no_named
      refl refl m.default m.walk n.types m.format m.enum_values m.numbers refl m.reference m.const_value g.same g.lists g.named
      (finding-fits r d most false j (finding_of r d (object (written p.title p.description (Some (one_type Text)) None None None p.texts None None) no_same no_lists no_named))
      (record { notes = refl; patterns = no-patterns p.texts (and_left (are_lengths p.texts) _ a); places = refl; faults = refl; listed = refl; unmerged = refl }) tt tt)

  native-fits : (p : Plain) (o : Option Format) → p.texts ≡ None → is_some o ≡ true → FindingFits r d most false j (asking (patterns_of p.texts) (text_finding p o))
  native-fits p None e h = impossible h
  native-fits p (Some k) e h = finding-fits r d most false j (asking (patterns_of p.texts) (text_finding p (Some k))) (record { notes = ap (λ x. note_if (is_some x) (here widened string_note)) e; patterns = ap patterns_of e; places = refl; faults = refl; listed = refl; unmerged = refl }) tt tt

  row-4-formatted : (s : Schema) → formatted_text d inner s ≡ true → Good s
  row-4-formatted (boolean b) h = impossible h
  row-4-formatted (object p ss ls ns) h =
      let q : Plain = record p { format = None } in
      let n = only q Text (and_left (is_only Text q) _ h) in
      let m = n.most in
      let a = and_right (is_only Text q) _ h in
      let g = schemaless ss ls ns (and_right (is_text_format d inner p.format) _ a) in
      fits-as r d most false j p ss ls ns p.title p.description (Some (one_type Text)) p.format None None None None None no_same no_lists no_named
      refl refl m.default m.walk n.types refl m.enum_values m.numbers m.texts m.reference m.const_value g.same g.lists g.named
      (native-fits (written p.title p.description (Some (one_type Text)) p.format None None None None None) (option_and_then format_of p.format) refl (given p.format (and_left (is_text_format d inner p.format) _ a)))
    where
      given : (f : Option (List ℕ)) → is_text_format d inner f ≡ true → is_some (option_and_then format_of f) ≡ true
      given None h = impossible h
      given (Some f) h = h

  -- listed texts

  texts-only : (vs : List Value) → is_some (all_some as_text vs) ≡ true → (list_all (λ v. is_text v || is_null v) vs ≡ true) × (list_any is_null vs ≡ false)
  texts-only [] h = (refl, refl)
  texts-only (text s ∷ vs) h = texts-only vs (map-some (λ ys. s ∷ ys) (all_some as_text vs) h)
  texts-only (null ∷ vs) h = impossible h
  texts-only (value.boolean b ∷ vs) h = impossible h
  texts-only (value.number z ∷ vs) h = impossible h
  texts-only (value.fraction ∷ vs) h = impossible h
  texts-only (value.list xs ∷ vs) h = impossible h
  texts-only (value.object ms ∷ vs) h = impossible h

  pub listed-only : (o : Option (List Value)) → is_some (distinct_texts o) ≡ true → (vs : List Value) × (o ≡ Some vs) × (list_all (λ v. is_text v || is_null v) vs ≡ true) × (list_any is_null vs ≡ false)
  listed-only None h = impossible h
  listed-only (Some []) h = impossible h
  listed-only (Some (v ∷ vs)) h = let a = texts-only (v ∷ vs) (bind-some (λ ts. if all_differ ts then Some ts else None) (all_some as_text (v ∷ vs)) h) in (v ∷ vs, refl, a.0, a.1)

  enumerated-fits : (p : Plain) (vs : List Value) → p.texts ≡ None → p.format ≡ None → list_all (λ v. is_text v || is_null v) vs ≡ true → list_any is_null vs ≡ false → FindingFits r d most false j (asking (patterns_of p.texts) (enumerated r p vs))
  enumerated-fits p vs x f h g = by _ _ h g
    where
      by : (a b : Bool) → a ≡ true → b ≡ false
          → FindingFits r d most false j (asking (patterns_of p.texts) (if a then noted (note_if b (here widened null_note) ++ note_if (is_some (given_format p)) (here widened string_note)) (leaf_row (listed_entry b (wanted_of p) (kept_texts r p.texts vs))) else plainly (refused_row bad_value)))
      by true false h g = finding-fits r d most false j (asking (patterns_of p.texts) (noted (note_if (is_some (given_format p)) (here widened string_note)) (leaf_row (listed_entry false (wanted_of p) (kept_texts r p.texts vs)))))
          (record { notes = ap (λ o. note_if (is_some (option_and_then format_of o)) (here widened string_note)) f; patterns = ap patterns_of x; places = refl; faults = refl; listed = refl; unmerged = refl }) tt tt
      by true true h g = impossible (sym g)
      by false b h g = impossible h

  pub row-4-listed : (s : Schema) → is_some (enumeration s) ≡ true → Good s
  row-4-listed (boolean b) h = impossible h
  row-4-listed (object p ss ls ns) h =
      let q : Plain = record p { enum_values = None } in
      let i = if-some (is_only Text q && without_schemas ss ls ns) (distinct_texts p.enum_values) h in
      let n = only q Text (and_left (is_only Text q) _ i.0) in
      let m = n.most in
      let g = schemaless ss ls ns (and_right (is_only Text q) _ i.0) in
      let l = listed-only p.enum_values i.1 in
      fits-as r d most false j p ss ls ns p.title p.description (Some (one_type Text)) None (Some l.0) None None None None no_same no_lists no_named
      refl refl m.default m.walk n.types m.format l.1 m.numbers m.texts m.reference m.const_value g.same g.lists g.named
      (enumerated-fits (written p.title p.description (Some (one_type Text)) None (Some l.0) None None None None) l.0 refl refl l.2 l.3)

  constant-text : (o : Option Value) → is_some (option_and_then as_text o) ≡ true → (c : Name) × (o ≡ Some (text c))
  constant-text None h = impossible h
  constant-text (Some (text s)) h = (s, refl)
  constant-text (Some null) h = impossible h
  constant-text (Some (value.boolean b)) h = impossible h
  constant-text (Some (value.number z)) h = impossible h
  constant-text (Some value.fraction) h = impossible h
  constant-text (Some (value.list xs)) h = impossible h
  constant-text (Some (value.object ms)) h = impossible h

  pub row-4-constant : (s : Schema) → is_some (constant s) ≡ true → Good s
  row-4-constant (boolean b) h = impossible h
  row-4-constant (object p ss ls ns) h =
      let q : Plain = record p { const_value = None } in
      let i = if-some ((is_none p.types || has_type Text p.types) && (types_at_most q && without_schemas ss ls ns)) (option_and_then as_text p.const_value) h in
      let a = and_right (is_none p.types || has_type Text p.types) _ i.0 in
      let m = at-most q (and_left (types_at_most q) _ a) in
      let g = schemaless ss ls ns (and_right (types_at_most q) _ a) in
      let c = constant-text p.const_value i.1 in
      by m g c.0 c.1 (either (is_none p.types) (has_type Text p.types) (and_left (is_none p.types || has_type Text p.types) _ i.0))
    where
      by : AtMost (record p { const_value = None }) → Schemaless ss ls ns → (c : Name) → p.const_value ≡ Some (text c) → (is_none p.types ≡ true) ⊎ (has_type Text p.types ≡ true) → Good (object p ss ls ns)
      by m g c e (inl k) =
          fits-as r d most false j p ss ls ns p.title p.description None None None None None None (Some (text c)) no_same no_lists no_named
          refl refl m.default m.walk (is-none p.types k) m.format m.enum_values m.numbers m.texts m.reference e g.same g.lists g.named
          (enumerated-fits (written p.title p.description None None None None None None (Some (text c))) (text c ∷ []) refl refl refl refl)
      by m g c e (inr k) =
          fits-as r d most false j p ss ls ns p.title p.description (Some (one_type Text)) None None None None None (Some (text c)) no_same no_lists no_named
          refl refl m.default m.walk (has_type-is Text p.types k) m.format m.enum_values m.numbers m.texts m.reference e g.same g.lists g.named
          (enumerated-fits (written p.title p.description (Some (one_type Text)) None None None None None (Some (text c))) (text c ∷ []) refl refl refl refl)

  pub row-4-named : (s : Schema) → is_some (named_text s) ≡ true → Good s
  row-4-named s h = by (else-some (constant s) (the_one (enumeration s)) h)
    where
      by : (is_some (constant s) ≡ true) ⊎ (is_some (the_one (enumeration s)) ≡ true) → Good s
      by (inl k) = row-4-constant s k
      by (inr k) = row-4-listed s (one-some (enumeration s) k)

  pub row-text : (s : Schema) → plain_text d inner s ≡ true → Good s
  row-text s h = by (either (sized_text d inner s) _ h)
    where
      by-2 : (is_some (enumeration s) ≡ true) ⊎ (is_some (named_text s) ≡ true) → Good s
      by-2 (inl k) = row-4-listed s k
      by-2 (inr k) = row-4-named s k

      by-1 : (formatted_text d inner s ≡ true) ⊎ ((is_some (enumeration s) || is_some (named_text s)) ≡ true) → Good s
      by-1 (inl k) = row-4-formatted s k
      by-1 (inr k) = by-2 (either (is_some (enumeration s)) _ k)

      by : (sized_text d inner s ≡ true) ⊎ ((formatted_text d inner s || (is_some (enumeration s) || is_some (named_text s))) ≡ true) → Good s
      by (inl k) = row-4-sized s k
      by (inr k) = by-1 (either (formatted_text d inner s) _ k)

  -- ---- references

  reference-fits : (o : Option Target) → is_some o ≡ true → FindingFits r d most false j (plainly (row_of_target o))
  reference-fits None h = impossible h
  reference-fits (Some t) h = leaf-fits r d most false j (reference t)

  leads-on : (b : Bool) (n : Option Name) → not b ≡ true → is_some (if b then Some d.root else option_map (λ e. e.body) (defined_as d n)) ≡ true → is_some (if b then Some the_root else option_map definition n) ≡ true
  leads-on true n h g = impossible h
  leads-on false None h g = impossible g
  leads-on false (Some n) h g = refl

  target-there : (o : Option Name) → leads_to_definition d inner o ≡ true → (q : Name) × (o ≡ Some q) × (is_some (target_of q) ≡ true)
  target-there None h = impossible h
  target-there (Some q) h = (q, refl, leads-on (is_root_reference q) (definition_name q) (and_left (not (is_root_reference q)) _ h) (and_right (not (is_root_reference q)) _ h))

  pub row-reference : (s : Schema) → plain_reference d inner s ≡ true → Good s
  row-reference (boolean b) h = impossible h
  row-reference (object p ss ls ns) h =
      let q : Plain = record p { reference = None } in
      let n = nothing q (and_left (says_nothing q) _ h) in
      let m = n.most in
      let a = and_right (says_nothing q) _ h in
      let g = schemaless ss ls ns (and_right (leads_to_definition d inner p.reference) _ a) in
      let l = target-there p.reference (and_left (leads_to_definition d inner p.reference) _ a) in
      fits-as r d most false j p ss ls ns p.title p.description None None None None None (Some l.0) None no_same no_lists no_named
      refl refl m.default m.walk n.types m.format m.enum_values m.numbers m.texts l.1 m.const_value g.same g.lists g.named
      (reference-fits (target_of l.0) l.2)
