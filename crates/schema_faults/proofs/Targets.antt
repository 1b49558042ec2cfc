-- References lead to the definitions of the document that was read.
use Rattle.std.proofs.Common.{◌≡◌, ℕ, List, [], ◌∷◌, Option, Some, None, option_map, Bool, true, false, ◌||◌, bytes_eq, refl, sym, ap, ◌∙◌}
use Rattle.std.specs.Prelude.{is_some, unwrap_or, codes, if◌then◌else◌}
use Rattle.json_value.specs.Value as value
use Rattle.json_value.specs.Value.{Value, Members, null, number, fraction, text, list, member_at}
use Rattle.schema_defs.specs.declared.Setting.{Setting}
use Rattle.schema_defs.specs.Schema.{Schema, boolean, Properties, no_properties, Definition, Document}
use Rattle.schema_defs.specs.Admits.{target, defined, defined_as, definition_name, is_root_reference}
use Rattle.schema_defs.specs.Read.{◌⊛◌, lookup_of, optional, member_readings, joined, flat, schema_of, definitions_of, make_document, document_of}
use Rattle.schema_defs.proofs.Stand.{some_same, none_is_not}
use Rattle.schema_defs.proofs.Unknown.{keywords_are_members}
use Rattle.schema_faults.specs.Keywords.{names_in}
use Rattle.schema_faults.specs.Faults.{leads, defines, is_defined}
use Rattle.schema_faults.specs.Laws.{LeadsToTargets}
use Rattle.schema_faults.proofs.Documents.{good_at}
use Rattle.schema_faults.proofs.Definitions.{among, names_of, joined_names}
use Rattle.schema_faults.proofs.Roots.{Seen, as_named, seen}

chosen : (b : Bool) (e : Definition) (o : Option Definition) → is_some (if b then Some e else o) ≡ (b || is_some o)
chosen true e o = refl
chosen false e o = refl

defined_some : (n : List ℕ) (ds : List Definition) → is_some (defined n ds) ≡ among n (names_of ds)
defined_some n [] = refl
defined_some n (d ∷ ds) = chosen (bytes_eq n d.name) d (defined n ds) ∙ ap (λ b. bytes_eq n d.name || b) (defined_some n ds)

some_mapped : {A B : Type 0} (f : A → B) (o : Option A) → is_some (option_map f o) ≡ is_some o
some_mapped f None = refl
some_mapped f (Some x) = refl

-- what a reference that is not the root's leads to
by_name : (v : Value) (d : Document) → ((n : List ℕ) → defines v n ≡ among n (names_of d.definitions)) → (o : Option (List ℕ)) → is_defined v o ≡ is_some (defined_as d o)
by_name v d h None = refl
by_name v d h (Some n) = h n ∙ sym (defined_some n d.definitions)

either : (b : Bool) (s : Schema) (c : Bool) (o : Option Schema) → c ≡ is_some o → (if b then true else c) ≡ is_some (if b then Some s else o)
either true s c o h = refl
either false s c o h = h

at_target : (v : Value) (d : Document) → ((n : List ℕ) → defines v n ≡ among n (names_of d.definitions)) → (q : List ℕ) → leads v q ≡ is_some (target d q)
at_target v d h q =
    either (is_root_reference q) d.root (is_defined v (definition_name q)) (option_map (λ e. e.body) (defined_as d (definition_name q)))
    (by_name v d h (definition_name q) ∙ sym (some_mapped (λ (e : Definition). e.body) (defined_as d (definition_name q))))

both_named : (k l : List ℕ) (od oe : Option Value) (x y : Option (Option Properties)) → Seen k od x → Seen l oe y → (fs : List Definition) → flat (Some joined ⊛ x ⊛ y) ≡ Some fs
    → (n : List ℕ) → among n (names_of fs) ≡ (among n (names_in oe) || among n (names_in od))
both_named k l od oe None None hx hy fs e n = absurd (none_is_not fs e)
both_named k l od oe None (Some q) hx hy fs e n = absurd (none_is_not fs e)
both_named k l od oe (Some p) None hx hy fs e n = absurd (none_is_not fs e)
both_named k l od oe (Some p) (Some q) hx hy fs e n = joined_names (unwrap_or p no_properties) (unwrap_or q no_properties) fs e n ∙ (λ i. among n (hy.0 i) || among n (hx.0 i))

module _ (ms : Members) where
  named : (fs : List Definition) → definitions_of (lookup_of (member_readings ms)) ≡ Some fs → (n : List ℕ) → defines (value.object ms) n ≡ among n (names_of fs)
  unfolding definitions_of
  named fs e n =
      sym (both_named (codes "definitions") (codes "$defs") (member_at (codes "definitions") ms) (member_at (codes "$defs") ms) (as_named (member_at (codes "definitions") ms)) (as_named (member_at (codes "$defs") ms))
      (seen (codes "definitions") (member_at (codes "definitions") ms) (good_at ms (codes "definitions"))) (seen (codes "$defs") (member_at (codes "$defs") ms) (good_at ms (codes "$defs"))) fs
      (sym (λ i. flat (Some joined ⊛ optional (λ r. r.as_named) (keywords_are_members (codes "definitions") ms i) ⊛ optional (λ r. r.as_named) (keywords_are_members (codes "$defs") ms i))) ∙ e)
      n)

  whole : (s : Option Schema) (o : Option (List Definition)) → ((fs : List Definition) → o ≡ Some fs → (n : List ℕ) → defines (value.object ms) n ≡ among n (names_of fs))
      → (setting : Setting) (d : Document) → Some (make_document setting) ⊛ s ⊛ o ≡ Some d → (n : List ℕ) → defines (value.object ms) n ≡ among n (names_of d.definitions)
  whole None None h setting d e n = absurd (none_is_not d e)
  whole (Some s) None h setting d e n = absurd (none_is_not d e)
  whole None (Some fs) h setting d e n = absurd (none_is_not d e)
  whole (Some s) (Some fs) h setting d e n = h fs refl n ∙ ap (λ d. among n (names_of d.definitions)) (some_same (make_document setting s fs) d e)

pub leads_to_targets : LeadsToTargets
unfolding document_of
leads_to_targets setting null d e q = absurd (none_is_not d e)
leads_to_targets setting (value.boolean b) d e q = at_target (value.boolean b) d (λ n. ap (λ d. among n (names_of d.definitions)) (some_same (make_document setting (boolean b) []) d e)) q
leads_to_targets setting (number z) d e q = absurd (none_is_not d e)
leads_to_targets setting fraction d e q = absurd (none_is_not d e)
leads_to_targets setting (text s) d e q = absurd (none_is_not d e)
leads_to_targets setting (list xs) d e q = absurd (none_is_not d e)
leads_to_targets setting (value.object ms) d e q =
    at_target (value.object ms) d (whole ms (schema_of (lookup_of (member_readings ms))) (definitions_of (lookup_of (member_readings ms))) (named ms) setting d e) q
