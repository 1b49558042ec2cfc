-- Rows of subschemas: one member as it is, variants without a tag, and what is denied.
use Rattle.schema_defs.specs.declared.Setting.{Setting}
use Rattle.std.proofs.Common.{◌≡◌, ℕ, List, [], ◌∷◌, Bool, true, false, ◌&&◌, not, Option, Some, None, is_none, is_some, refl, sym, ap, ◌∙◌, true≢false, codes}
use Rattle.std.specs.Prelude.{if◌then◌else◌, ◌==◌}
use Rattle.std.specs.List.{list_any}
use Rattle.json_value.specs.Value.{Value, same}
use Rattle.schema_defs.specs.declared.InstanceType.{InstanceType}
use Rattle.schema_defs.specs.Location.{Step}
use Rattle.schema_defs.specs.Texts.{Relations}
use Rattle.schema_defs.specs.Schema.{Types, Plain, Schema, boolean, object, Same, same_value, no_list, the_list, no_schema, the_schema, Schemas, no_more, schema, Lists, Named, Document}
use Rattle.schema_defs.specs.Layer.{Parts, judge, judge_same, judge_any, judge_count, if_given, types_agree, is_listed}
use Rattle.model_defs.specs.Model.{deny_rule}
use Rattle.model_defs.specs.Layer as model
use Rattle.entry_defs.specs.Entry.{Target, Entry}
use Rattle.entry_defs.specs.Layer as entry
use Rattle.entry_defs.specs.Layer.{entry_takes, same_takes, some_takes}
use Rattle.convert_defs.specs.Row.{Way, widened, narrowed, here, not_note, type_note, Part, child, made, leaf_row, ruled_row, Finding, noted, plainly, add_notes, refused_row, nested_enum, bad_not, row_parts}
use Rattle.convert_defs.specs.Standing.{less_enum, of_type, no_keyword, alone}
use Rattle.enum_defs.specs.Words.{without_same, without_lists, without_named}
use Rattle.convert_defs.specs.IntegerRow.{note_if}
use Rattle.convert_defs.specs.Scalars.{is_owner, never_entry, wanted_of}
use Rattle.convert_defs.specs.Shapes.{Member, schemas_of, members_from, internal_members as internal_shape, option_member as option_shape}
use Rattle.convert_defs.specs.Table.{no_others, untagged_row, deny, under_not, denied, listed, not_finding, type_of_listed, has_one_type, all_of_finding, any_of_finding, any_of_others, one_of_finding, subschema_finding, finding_or}
use Rattle.enum_defs.specs.Exclusive.{exclusive}
use Rattle.convert_defs.specs.Laws.{Keeps, same_way}
use Rattle.convert_defs.proofs.Keeps.{keep-equal, keep-from, keep-then, keep-wider, free-note, free-left, free-right}
use Rattle.schema_defs.proofs.Spare.{RefsSame}
use Rattle.convert_defs.proofs.Views.{View, AllParts}
use Rattle.convert_defs.proofs.Bare.{and_left, and_right, same_bools, impossible, none-agrees, same-agrees, four, three, swapped}
use Rattle.convert_defs.proofs.Scalars.{never-takes}
use Rattle.convert_defs.proofs.Rows.{unlabeled, IsSound, Holds, IsClean, kind-quiet, parts-quiet}
use Rattle.enum_defs.proofs.Says.{says}
use Rattle.convert_defs.proofs.Untagged.{any-untagged}
use Rattle.convert_defs.specs.Apart.{all_apart, branches_apart}
use Rattle.convert_defs.proofs.External.{external-holds}
use Rattle.convert_defs.proofs.Tagged.{internal-holds}
use Rattle.convert_defs.proofs.AdjacentRows.{adjacent-holds}
use Rattle.convert_defs.proofs.OneOf.{ExclusiveSays, NullFreeSays, One, one-of-holds}
use Rattle.convert_defs.proofs.Nullable.{some-counted, option-agrees, option-refs, shape-says}

-- a schema without keywords but a type and those of the same value
lone : (t f : Bool) → (t && true && true && true && true && true && f) ≡ (t && f)
lone true f = refl
lone false f = refl

module _ (way : Way) (P : List ℕ → Type 0) (st : Setting) (R : Schema → Entry → Type 0) (conv : Part → Entry) (r : Relations) (fol : List ℕ → Bool) (tgt : Target → Bool) (v : Value) (ps : Parts) (es : model.Parts entry.Judge) (w : View way st R r v ps es) where
  -- what is denied
  pub deny-holds : (u : Schema) (part : Part) (name : List ℕ) (vs : List Value) → (is_listed v vs ≡ false → judge r v ps fol u ≡ false) → IsClean way (deny part vs)
      → Keeps way (not (judge r v ps fol u)) (entry_takes r v es tgt (unlabeled conv name (deny part vs).row))
  deny-holds u part name vs f = by (list_any is_owner vs)
    where
      refused : (b : Bool) → is_listed v vs ≡ b → not b ≡ true → judge r v ps fol u ≡ false
      refused true e n = impossible n
      refused false e n = f e

      by : (b : Bool) → IsClean way (if b then plainly (refused_row nested_enum) else noted (here narrowed not_note ∷ []) (ruled_row part (deny_rule vs)))
          → Keeps way (not (judge r v ps fol u)) (entry_takes r v es tgt (unlabeled conv name (if b then plainly (refused_row nested_enum) else noted (here narrowed not_note ∷ []) (ruled_row part (deny_rule vs))).row))
      by true c = absurd c.1
      by false c = ways way c.0.0
        where
          ways : (m : Way) → same_way m narrowed ≡ false → Keeps m (not (judge r v ps fol u)) (entry_takes r v es tgt (conv part) && not (is_listed v vs))
          ways narrowed g = impossible (sym g)
          ways widened g = λ t. ap not (refused (is_listed v vs) refl (and_right (entry_takes r v es tgt (conv part)) _ t))

  not-listed : (p : Plain) (ss : Same) (ls : Lists) (ns : Named) (o : Option (List Value)) → p.enum_values ≡ o → is_some o ≡ true → is_listed v (listed o) ≡ false → judge r v ps fol (object p ss ls ns) ≡ false
  not-listed p ss ls ns None e s n = impossible s
  not-listed p ss ls ns (Some vs) e s n = by (judge r v ps fol (object p ss ls ns)) refl
    where
      by : (b : Bool) → judge r v ps fol (object p ss ls ns) ≡ b → b ≡ false
      by true h = absurd (true≢false (sym (says r v ps fol p ss ls ns h).listed ∙ ap (if_given (is_listed v)) e ∙ n))
      by false h = refl

  admits-all : (p : Plain) (ss : Same) (ls : Lists) (ns : Named) → is_none p.types && no_others p ls ns && without_same ss ≡ true → judge r v ps fol (object p ss ls ns) ≡ true
  admits-all p ss ls ns t =
      let a = three (is_none p.types) (no_others p ls ns) (without_same ss) t in
      let f = four (is_none p.enum_values) (is_none p.const_value) (is_none p.reference) (is_none p.format && is_none p.numbers && is_none p.texts && without_lists ls && without_named ns) a.1 in
      let g = three (is_none p.format && is_none p.numbers && is_none p.texts) (without_lists ls) (without_named ns) f.3 in
      let k = three (is_none p.format) (is_none p.numbers) (is_none p.texts) g.0 in
      λ i. none-agrees (types_agree v) p.types a.0 i && none-agrees (is_listed v) p.enum_values f.0 i && none-agrees (same v) p.const_value f.1 i && kind-quiet r p k.0 k.1 k.2 v i && none-agrees fol p.reference f.2 i && parts-quiet r ps ls ns g.1 g.2 v i && same-agrees r v ps fol ss a.2 i

  abbrev Denies : Schema → List ℕ → Finding → Type 0
  Denies u name f = IsClean way f → Keeps way (not (judge r v ps fol u)) (entry_takes r v es tgt (unlabeled conv name f.row))

  pub not-holds : (name : List ℕ) (u : Schema) → IsClean way (not_finding name u) → Keeps way (not (judge r v ps fol u)) (entry_takes r v es tgt (unlabeled conv name (not_finding name u).row))
  not-holds name (boolean true) = λ c. keep-equal way _ _ (sym (never-takes way st R r fol tgt v ps es w name))
  not-holds name (boolean false) = λ c. keep-equal way _ _ refl
  not-holds name (object p ss ls ns) = all (is_none p.types && no_others p ls ns && without_same ss) refl
    where
      of-type : (o : Option InstanceType) → is_some p.enum_values ≡ true → Denies (object p ss ls ns) name (denied o (listed p.enum_values))
      of-type None e = λ c. absurd c.1
      of-type (Some k) e = deny-holds (object p ss ls ns) (made (alone (of_type k no_keyword))) name (listed p.enum_values) (not-listed p ss ls ns p.enum_values refl e)

      enum-alone : (b : Bool) → (is_none p.types && is_some p.enum_values && no_others (less_enum p) ls ns && without_same ss) ≡ b → Denies (object p ss ls ns) name (if b then denied (type_of_listed (listed p.enum_values)) (listed p.enum_values) else plainly (refused_row bad_not))
      enum-alone true e = of-type (type_of_listed (listed p.enum_values)) (four (is_none p.types) (is_some p.enum_values) (no_others (less_enum p) ls ns) (without_same ss) e).1
      enum-alone false e = λ c. absurd c.1

      typed : (b : Bool) → (has_one_type p.types && is_some p.enum_values) ≡ b
          → Denies (object p ss ls ns) name (if b then deny (under_not (object (less_enum p) ss ls ns)) (listed p.enum_values) else if is_none p.types && is_some p.enum_values && no_others (less_enum p) ls ns && without_same ss then denied (type_of_listed (listed p.enum_values)) (listed p.enum_values) else plainly (refused_row bad_not))
      typed true e = deny-holds (object p ss ls ns) (under_not (object (less_enum p) ss ls ns)) name (listed p.enum_values) (not-listed p ss ls ns p.enum_values refl (and_right (has_one_type p.types) _ e))
      typed false e = enum-alone (is_none p.types && is_some p.enum_values && no_others (less_enum p) ls ns && without_same ss) refl

      all : (b : Bool) → (is_none p.types && no_others p ls ns && without_same ss) ≡ b
          → Denies (object p ss ls ns) name (if b then plainly (leaf_row (never_entry name)) else if has_one_type p.types && is_some p.enum_values then deny (under_not (object (less_enum p) ss ls ns)) (listed p.enum_values) else if is_none p.types && is_some p.enum_values && no_others (less_enum p) ls ns && without_same ss then denied (type_of_listed (listed p.enum_values)) (listed p.enum_values) else plainly (refused_row bad_not))
      all true e = λ c. keep-equal way _ _ (ap not (admits-all p ss ls ns e) ∙ sym (never-takes way st R r fol tgt v ps es w name))
      all false e = typed (has_one_type p.types && is_some p.enum_values) refl

  -- ---- one subschema keyword

  module _ (d : Document) (set : st ≡ d.setting) (ex : ExclusiveSays way P st R conv r fol tgt v ps es w d) (nf : NullFreeSays way P st R conv r fol tgt v ps es w d) (p : Plain) (ls : Lists) (ns : Named) where
    -- the members alone
    abbrev Members : Same → Finding → Type 0
    Members ss f = RefsSame P ss → IsClean way f → AllParts (IsSound way P st R conv r fol tgt v ps es w) (row_parts f.row) → Keeps way (judge_same r v ps fol ss) (entry_takes r v es tgt (unlabeled conv (wanted_of p) f.row))

    all-of : (ss : Schemas) → Members (same_value (the_list ss) no_list no_list no_schema false) (all_of_finding (members_from (codes "allOf") 0 ss))
    all-of no_more = λ g0 c q. absurd c.1
    all-of (schema u no_more) = λ g0 c q. keep-from way _ _ _ (four-true (judge r v ps fol u)) (q.0.1 g0.0.0)
      where
        four-true : (b : Bool) → (b && true && true && true && true) ≡ b
        four-true true = refl
        four-true false = refl
    all-of (schema u (schema x xs)) = λ g0 c q. absurd c.1

    one-of : (k : Step) (us : Schemas) → all_apart us ≡ true → One way P st R conv r fol tgt v ps es w (wanted_of p) us (one_of_finding d (wanted_of p) (members_from k 0 us))
    one-of k us a =
        one-of-holds way P st R conv r fol tgt v ps es w d ex nf (wanted_of p) k us
        (λ ws e. external-holds way P st R conv r fol tgt v ps es w d (wanted_of p) k us ws e)
        (λ t n e. adjacent-holds way P st R conv r fol tgt v ps es w d (wanted_of p) k us a t e)
        (λ t n e. internal-holds way P st R conv r fol tgt v ps es w d (wanted_of p) k us a t (ap (λ x. internal_shape x (members_from k 0 us)) set ∙ e))
        (option_shape (members_from k 0 us)) refl

    any-of : (ss : Schemas) → all_apart ss ≡ true → Members (same_value no_list (the_list ss) no_list no_schema false) (any_of_finding d (wanted_of p) (members_from (codes "anyOf") 0 ss))
    any-of no_more a = λ g0 c q. keep-equal way _ _ (sym (never-takes way st R r fol tgt v ps es w (wanted_of p)))
    any-of (schema u us) a = by (option_shape (members_from (codes "anyOf") 0 (schema u us))) refl
      where
        three-true : (b : Bool) → (b && true && true) ≡ b
        three-true true = refl
        three-true false = refl

        -- exclusive members are as under oneOf
        counted : exclusive d (schemas_of (members_from (codes "anyOf") 0 (schema u us))) ≡ true → judge_any r v ps fol (schema u us) ≡ (judge_count r v ps fol (schema u us) == 1)
        counted e = same_bools _ _ (ex (codes "anyOf") (schema u us) e) (some-counted r v ps fol (schema u us))

        one-by-one : (b : Bool) → exclusive d (schemas_of (members_from (codes "anyOf") 0 (schema u us))) ≡ b → Members (same_value no_list (the_list (schema u us)) no_list no_schema false) (if b then one_of_finding d (wanted_of p) (members_from (codes "anyOf") 0 (schema u us)) else plainly (untagged_row (members_from (codes "anyOf") 0 (schema u us))))
        one-by-one true f = λ g0 c q. keep-from way _ _ _ (three-true (judge_any r v ps fol (schema u us)) ∙ counted f) (one-of (codes "anyOf") (schema u us) a g0.1 c q)
        one-by-one false f = λ g0 c q. keep-from way _ _ _ (three-true (judge_any r v ps fol (schema u us))) (any-untagged way P st R conv r fol tgt v ps es w (codes "anyOf") 0 (schema u us) _ g0.1 q)

        by : (o : Option Member) → option_shape (members_from (codes "anyOf") 0 (schema u us)) ≡ o → Members (same_value no_list (the_list (schema u us)) no_list no_schema false) (any_of_others d (wanted_of p) (members_from (codes "anyOf") 0 (schema u us)) o)
        by None e = one-by-one (exclusive d (schemas_of (members_from (codes "anyOf") 0 (schema u us)))) refl
        by (Some m) e = λ g0 c q. keep-from way _ _ _ (three-true (judge_any r v ps fol (schema u us)))
            (option-agrees r v ps fol way (codes "anyOf") (schema u us) m (entry_takes r v es tgt (conv (child m.0 m.1))) e c.0
            (q.0.1 (option-refs P (codes "anyOf") 0 (schema u us) m (shape-says r v ps fol (members_from (codes "anyOf") 0 (schema u us)) m e).1 g0.1)))

    counted-alone : (b : Bool) → (true && true && b && true) ≡ b
    counted-alone true = refl
    counted-alone false = refl

    members : (ss : Same) → branches_apart ss ≡ true → Members ss (finding_or (subschema_finding d (wanted_of p) ss))
    members (same_value (the_list us) no_list no_list no_schema false) a = all-of us
    members (same_value no_list (the_list us) no_list no_schema false) a = any-of us (and_left _ _ a)
    members (same_value no_list no_list no_list (the_schema u) false) a = λ g0 c q. not-holds (wanted_of p) u c
    members (same_value no_list no_list (the_list us) no_schema false) a = λ g0 c q. keep-from way _ _ _ (counted-alone (judge_count r v ps fol us == 1)) (one-of (codes "oneOf") us a g0.2 c q)
    members _ a = λ g0 c q. absurd c.1

    pub subschema-holds : (ss : Same) → branches_apart ss ≡ true → no_others p ls ns ≡ true → Holds way P st R conv r fol tgt v ps es w (object p ss ls ns) (add_notes (note_if (is_some p.types) (here widened type_note)) (finding_or (subschema_finding d (wanted_of p) ss)))
    subschema-holds ss a t = λ g0 c q.
        let f = four (is_none p.enum_values) (is_none p.const_value) (is_none p.reference) (is_none p.format && is_none p.numbers && is_none p.texts && without_lists ls && without_named ns) t in
        let g = three (is_none p.format && is_none p.numbers && is_none p.texts) (without_lists ls) (without_named ns) f.3 in
        let k = three (is_none p.format) (is_none p.numbers) (is_none p.texts) g.0 in
        keep-from way _ _ _ ((λ i. if_given (types_agree v) p.types && none-agrees (is_listed v) p.enum_values f.0 i && none-agrees (same v) p.const_value f.1 i && kind-quiet r p k.0 k.1 k.2 v i && none-agrees fol p.reference f.2 i && parts-quiet r ps ls ns g.1 g.2 v i && judge_same r v ps fol ss)
        ∙ lone (if_given (types_agree v) p.types) (judge_same r v ps fol ss) ∙ swapped (if_given (types_agree v) p.types) (judge_same r v ps fol ss))
        (keep-then way _ _ _ (keep-wider way (judge_same r v ps fol ss) (if_given (types_agree v) p.types) (λ e. untyped-says p.types (free-note way (is_some p.types) _ (free-left way _ (finding_or (subschema_finding d (wanted_of p) ss)).notes c.0) e)))
        (members ss a g0.1 (free-right way (note_if (is_some p.types) (here widened type_note)) _ c.0, c.1) q))
      where
        untyped-says : (o : Option Types) → is_some o ≡ false → if_given (types_agree v) o ≡ true
        untyped-says None e = refl
        untyped-says (Some ts) e = absurd (true≢false e)
