-- Rows of oneOf: the option, the only member, and variants without a tag.
use Rattle.schema_defs.specs.declared.Setting.{Setting}
use Rattle.std.proofs.Common.{◌≡◌, ℕ, suc, List, ◌++◌, map, Bool, true, false, ◌||◌, not, Option, Some, None, refl, ap, ◌∙◌, subst}
use Rattle.std.specs.Prelude.{if◌then◌else◌, ◌==◌}
use Rattle.std.specs.List.{list_any}
use Rattle.json_value.specs.Value.{Value}
use Rattle.schema_defs.specs.Location.{Step}
use Rattle.schema_defs.specs.Texts.{Relations}
use Rattle.schema_defs.specs.Schema.{Schema, Schemas, no_more, schema, Document}
use Rattle.schema_defs.specs.Layer.{Parts, judge, judge_any, judge_count}
use Rattle.schema_defs.proofs.Spare.{Refs, RefsAll}
use Rattle.model_defs.specs.Layer as model
use Rattle.entry_defs.specs.Entry.{Target, Entry}
use Rattle.entry_defs.specs.Layer as entry
use Rattle.entry_defs.specs.Layer.{entry_takes}
use Rattle.convert_defs.specs.Row.{Way, narrowed, widened, here, null_note, Part, by_contents, VariantRow, Finding, row_parts}
use Rattle.convert_defs.specs.IntegerRow.{note_if}
use Rattle.convert_defs.specs.Shapes.{Member, schemas_of, external_members as external_shape, members_from, is_odd_null, option_member as option_shape, adjacent_members as adjacent_shape, internal_members as internal_shape, TaggedShape}
use Rattle.enum_defs.specs.Exclusive.{exclusive}
use Rattle.enum_defs.specs.Kinds.{null_free}
use Rattle.convert_defs.specs.Table.{member_part, untagged_variant, odd_nulls, only_member, one_null_member, one_of_only, one_of_internal, one_of_adjacent, one_of_external, one_of_option}
use Rattle.convert_defs.specs.Convert.{is_closed}
use Rattle.convert_defs.specs.Laws.{Keeps, same_way, Free}
use Rattle.convert_defs.proofs.Keeps.{keep-from, keep-then, free-note, free-left, free-right}
use Rattle.convert_defs.proofs.Bare.{none-some, some-same, or_left, or_right, not_false}
use Rattle.convert_defs.proofs.Views.{View, AllParts}
use Rattle.convert_defs.proofs.Rows.{unlabeled, IsSound, IsClean}
use Rattle.convert_defs.proofs.Nullable.{some-counted, option-counts, option-agrees, option-refs, shape-says}
use Rattle.convert_defs.proofs.Untagged.{any-untagged}

module _ (way : Way) (P : List ℕ → Type 0) (st : Setting) (R : Schema → Entry → Type 0) (conv : Part → Entry) (r : Relations) (fol : List ℕ → Bool) (tgt : Target → Bool) (v : Value) (ps : Parts) (es : model.Parts entry.Judge) (w : View way st R r v ps es) where
  abbrev pub Counted : Schemas → Bool
  Counted us = judge_count r v ps fol us == 1

  -- what is known of exclusive members, and of those that are free of null
  abbrev pub ExclusiveSays : Document → Type 0
  ExclusiveSays d = (k : Step) (us : Schemas) → exclusive d (schemas_of (members_from k 0 us)) ≡ true → judge_any r v ps fol us ≡ true → Counted us ≡ true

  abbrev pub NullFreeSays : Document → Type 0
  NullFreeSays d = (s : Schema) → null_free d s ≡ true → judge r v ps fol s ≡ true → model.is_null v ≡ false

  abbrev pub One : List ℕ → Schemas → Finding → Type 0
  One name us f = RefsAll P us → IsClean way f → AllParts (IsSound way P st R conv r fol tgt v ps es w) (row_parts f.row) → Keeps way (Counted us) (entry_takes r v es tgt (unlabeled conv name f.row))

  module _ (d : Document) (ex : ExclusiveSays d) (nf : NullFreeSays d) (name : List ℕ) (k : Step) where
    only-one : (us : Schemas) (m : Member) → only_member (members_from k 0 us) ≡ Some m → Counted us ≡ judge r v ps fol m.1
    only-one no_more m e = none-some m e
    only-one (schema u no_more) m e = by (judge r v ps fol u) ∙ ap (λ x. judge r v ps fol x.1) (some-same _ m e)
      where
        by : (b : Bool) → ((if b then suc 0 else 0) == 1) ≡ b
        by true = refl
        by false = refl
    only-one (schema u (schema x us)) m e = none-some m e

    only-refs : (us : Schemas) (m : Member) → only_member (members_from k 0 us) ≡ Some m → RefsAll P us → Refs P m.1
    only-refs no_more m e g = none-some m e
    only-refs (schema u no_more) m e g = subst (λ x. Refs P x.1) (some-same _ m e) g.0
    only-refs (schema u (schema x us)) m e g = none-some m e

    -- just one, and some
    counted-some : (us : Schemas) → (same_way way widened ≡ true → exclusive d (schemas_of (members_from k 0 us)) ≡ true) → Keeps way (Counted us) (judge_any r v ps fol us)
    counted-some us f = by way f
      where
        by : (m : Way) → (same_way m widened ≡ true → exclusive d (schemas_of (members_from k 0 us)) ≡ true) → Keeps m (Counted us) (judge_any r v ps fol us)
        by narrowed f = λ t. some-counted r v ps fol us t
        by widened f = λ t. ex k us (f refl) t

    pub only-holds : (us : Schemas) (x : Option Member) → only_member (members_from k 0 us) ≡ x → One name us (one_of_only d (members_from k 0 us) x)
    only-holds us (Some m) e = λ g0 c q. keep-from way _ _ _ (only-one us m e) (q.0.1 (only-refs us m e g0))
    only-holds us None e = λ g0 c q.
        keep-then way _ _ _ (counted-some us (λ z. not_false _ (free-note way (not (exclusive d (schemas_of (members_from k 0 us)))) _ c.0 z)))
        (any-untagged way P st R conv r fol tgt v ps es w k 0 us (is_closed conv by_contents (map untagged_variant (members_from k 0 us))) g0 q)

    option-holds : (us : Schemas) (m : Member) → option_shape (members_from k 0 us) ≡ Some m → One name us (one_of_option d (members_from k 0 us) (Some m))
    option-holds us m e = λ g0 c q. by way e c.0 (q.0.1 (option-refs P k 0 us m (shape-says r v ps fol (members_from k 0 us) m e).1 g0))
      where
        by : (n : Way) → option_shape (members_from k 0 us) ≡ Some m → Free n (odd_nulls (members_from k 0 us) ++ note_if (not (null_free d m.1) || not (one_null_member (members_from k 0 us))) (here widened null_note))
            → Keeps n (judge r v ps fol m.1) (entry_takes r v es tgt (conv (member_part m))) → Keeps n (Counted us) (model.is_null v || entry_takes r v es tgt (conv (member_part m)))
        by narrowed e f h = λ t. option-agrees r v ps fol narrowed k us m (entry_takes r v es tgt (conv (member_part m))) e (free-left narrowed _ (note_if (not (null_free d m.1) || not (one_null_member (members_from k 0 us))) (here widened null_note)) f) h (some-counted r v ps fol us t)
        by widened e f h = λ t.
            let n = free-note widened (not (null_free d m.1) || not (one_null_member (members_from k 0 us))) _ (free-right widened (odd_nulls (members_from k 0 us)) _ f) refl in
            option-counts r v ps fol k us m e (free-note widened (list_any is_odd_null (members_from k 0 us)) _ (free-left widened _ (note_if (not (null_free d m.1) || not (one_null_member (members_from k 0 us))) (here widened null_note)) f) refl)
            (not_false _ (or_right (not (null_free d m.1)) _ n)) (nf m.1 (not_false _ (or_left (not (null_free d m.1)) _ n))) (either (model.is_null v) h t)
          where
            either : (b : Bool) → (entry_takes r v es tgt (conv (member_part m)) ≡ true → judge r v ps fol m.1 ≡ true) → (b || entry_takes r v es tgt (conv (member_part m))) ≡ true → (b || judge r v ps fol m.1) ≡ true
            either true h t = refl
            either false h t = h t

    -- shapes of tagged enums, where their lemmas are known
    module _ (us : Schemas)
        (external : (ws : List VariantRow) → external_shape (members_from k 0 us) ≡ Some ws → One name us (one_of_external d (members_from k 0 us) (Some ws)))
        (adjacent : (t : TaggedShape) → external_shape (members_from k 0 us) ≡ None → adjacent_shape (members_from k 0 us) ≡ Some t → One name us (one_of_adjacent d (members_from k 0 us) (Some t)))
        (internal : (t : TaggedShape) → external_shape (members_from k 0 us) ≡ None → internal_shape d.setting (members_from k 0 us) ≡ Some t → One name us (one_of_internal d (members_from k 0 us) (Some t))) where
      internal-holds : external_shape (members_from k 0 us) ≡ None → (x : Option TaggedShape) → internal_shape d.setting (members_from k 0 us) ≡ x → One name us (one_of_internal d (members_from k 0 us) x)
      internal-holds n (Some t) e = internal t n e
      internal-holds n None e = only-holds us (only_member (members_from k 0 us)) refl

      adjacent-holds : external_shape (members_from k 0 us) ≡ None → (x : Option TaggedShape) → adjacent_shape (members_from k 0 us) ≡ x → One name us (one_of_adjacent d (members_from k 0 us) x)
      adjacent-holds n (Some t) e = adjacent t n e
      adjacent-holds n None e = internal-holds n (internal_shape d.setting (members_from k 0 us)) refl

      external-holds : (x : Option (List VariantRow)) → external_shape (members_from k 0 us) ≡ x → One name us (one_of_external d (members_from k 0 us) x)
      external-holds (Some ws) e = external ws e
      external-holds None e = adjacent-holds e (adjacent_shape (members_from k 0 us)) refl

      pub one-of-holds : (x : Option Member) → option_shape (members_from k 0 us) ≡ x → One name us (one_of_option d (members_from k 0 us) x)
      one-of-holds (Some m) e = option-holds us m e
      one-of-holds None e = external-holds (external_shape (members_from k 0 us)) refl
