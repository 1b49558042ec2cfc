-- Each reference that is told is one of the document that is read.
use Rattle.std.proofs.Common.{◌≡◌, ℕ, List, [], ◌∷◌, Option, Some, None, option_map, Bool, true, false, true≢false, refl, sym, ap, subst, ◌∙◌}
use Rattle.std.specs.Prelude.{Contains, not, is_some, codes}
use Rattle.json_value.specs.Value as value
use Rattle.json_value.specs.Value.{Value, Members, null, number, fraction, text, list, member_at}
use Rattle.schema_defs.specs.declared.Setting.{Setting}
use Rattle.schema_defs.specs.Schema.{Schema, Document}
use Rattle.schema_defs.specs.Admits.{target}
use Rattle.schema_defs.specs.Children.{reference_of, schema_at}
use Rattle.schema_defs.specs.Read.{reading, lookup_of, member_readings, by_value, text_of, document_of}
use Rattle.schema_defs.proofs.Stand.{none_in, first_in}
use Rattle.schema_defs.proofs.Unknown.{keywords_are_members}
use Rattle.schema_faults.specs.Schemas.{schemas_of}
use Rattle.schema_faults.specs.Faults.{Place, Told, told_of, references_in, reference_texts, bad_reference_texts, bad_references, leads}
use Rattle.schema_faults.proofs.Targets.{leads_to_targets}
use Rattle.distinct_names.specs.Names.{NamesDiffer}
use Rattle.schema_laws.specs.Laws.{EachReferenceLeads, RefersThere, ToldReferencesAreRead}
use Rattle.schema_laws.proofs.Options.{IfThere}
use Rattle.schema_laws.proofs.Leads.{Present, reference_present}
use Rattle.schema_laws.proofs.Told.{told_from, text_there, filtered}
use Rattle.schema_laws.proofs.Resolved.{references_are_resolved}
use Rattle.schema_laws.proofs.Located.{schemas_are_read}

-- the reference that is told of a value is that of the schema it is read as
own : (w : Value) (s : Schema) (q : List ℕ) → (reading w).as_schema ≡ Some s → Contains (references_in w) q → reference_of s ≡ Some q
own null s q e c = absurd (none_in q c)
own (value.boolean b) s q e c = absurd (none_in q c)
own (number z) s q e c = absurd (none_in q c)
own fraction s q e c = absurd (none_in q c)
own (text t) s q e c = absurd (none_in q c)
own (list xs) s q e c = absurd (none_in q c)
own (value.object ms) s q e c =
    let stands : lookup_of (member_readings ms) (codes "$ref") ≡ Some (reading (text q)) = keywords_are_members (codes "$ref") ms ∙ ap (option_map reading) (text_there (member_at (codes "$ref") ms) q c) in
    let t = subst (IfThere (λ s. Present (lookup_of (member_readings ms) (codes "$ref")) (by_value text_of) (reference_of s))) e (reference_present (lookup_of (member_readings ms))) (reading (text q)) stands in
    t.2 ∙ sym t.1

no_target : {A : Type 0} (b : Bool) (o : Option A) → b ≡ is_some o → not b ≡ true → o ≡ None
no_target true o e h = absurd (true≢false (sym h))
no_target false None e h = refl
no_target false (Some x) e h = absurd (true≢false (sym e))

nothing : (ps : List Place) → ((p : Place) → Contains ps p → ⊥) → ps ≡ []
nothing [] h = refl
nothing (p ∷ ps) h = absurd (h p (first_in p ps))

module _ (setting : Setting) (v : Value) (d : Document) (e : document_of setting v ≡ Some d) (apart : NamesDiffer v) where
  refers : (p : Place) (f : Told) → ((b : Bool) (k : List ℕ) (w : Value) → Contains (f b k w) p.1 → Contains (references_in w) p.1) → Contains (told_of f v) p → RefersThere d p
  refers p f h c =
      let r = told_from f (schemas_of v) p c in
      let t = schemas_are_read setting v d e apart r.0 r.1 in
      (t.0, ap (schema_at d) (sym r.2) ∙ t.1, own r.0.value t.0 p.1 t.2 (h r.0.at_root r.0.keyword r.0.value r.3))

  bad_has_none : (p : Place) → Contains (bad_references v) p → target d p.1 ≡ None
  bad_has_none p c =
      let r = told_from (bad_reference_texts v) (schemas_of v) p c in
      no_target (leads v p.1) (target d p.1) (leads_to_targets setting v d e p.1) (filtered (λ q. not (leads v q)) (references_in r.0.value) p.1 r.3).1

  bad_refers : (p : Place) → Contains (bad_references v) p → RefersThere d p
  bad_refers p c = refers p (bad_reference_texts v) (λ b k w h. (filtered (λ q. not (leads v q)) (references_in w) p.1 h).0) c

  no_bad : EachReferenceLeads d → (p : Place) → Contains (bad_references v) p → ⊥
  no_bad h p c =
      let r = bad_refers p c in
      absurd (true≢false (sym (h p.0 r.0 p.1 r.1 r.2) ∙ ap is_some (bad_has_none p c)))

pub told_references_are_read : ToldReferencesAreRead
told_references_are_read setting v d e apart = record {
  all = λ p c. refers setting v d e apart p reference_texts (λ b k w h. h) c;
  bad = λ p c. (bad_refers setting v d e apart p c, bad_has_none setting v d e apart p c);
  none_is_bad = (references_are_resolved setting v d e, λ h. nothing (bad_references v) (no_bad setting v d e apart h));
}
