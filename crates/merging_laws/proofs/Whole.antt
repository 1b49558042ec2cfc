-- A schema whose row merges, and what stands in its place.
use Rattle.std.proofs.Common.{◌≡◌, ℕ, List, [], ◌++◌, Bool, true, false, ◌&&◌, Option, Some, None, is_none, is_some, refl, sym, ◌∙◌, subst}
use Rattle.std.specs.List.{list_all}
use Rattle.json_value.specs.Value.{Value, same, is_whole}
use Rattle.schema_defs.specs.Texts.{Relations, IsLawful}
use Rattle.schema_defs.specs.Schema.{Types, Plain, Schema, object, Same, Lists, Named, Schemas, schema_list, Document}
use Rattle.schema_defs.specs.Layer.{if_given, types_agree, is_listed, plain_agrees, parts_agree}
use Rattle.schema_defs.specs.Admits.{admits, parts_of, target, follow}
use Rattle.schema_defs.specs.Walks.{IsGuarded}
use Rattle.enum_defs.specs.Words.{without_lists, without_named}
use Rattle.convert_defs.specs.Row.{Note, Part, here, widened, type_note}
use Rattle.convert_defs.specs.IntegerRow.{note_if}
use Rattle.convert_defs.specs.Table.{notes_at, no_others}
use Rattle.convert_defs.proofs.Bare.{impossible, three, four, none-agrees}
use Rattle.convert_defs.proofs.Rows.{kind-quiet, parts-quiet}
use Rattle.merge_laws.specs.Laws.{Meets, IsProper, ProperDocument}
use Rattle.merge_laws.proofs.Steps.{and-1, and-2}
use Rattle.merge_laws.proofs.Main.{form}
use Rattle.convert_walks.specs.Spot.{Spot}
use Rattle.convert_walks.specs.Merging.{merged_at}
use Rattle.convert_walks.specs.Tree.{Standing, instead}
use Rattle.merging_laws.specs.Laws.{lone_all_of, type_notes, row_widens, MergesAs, by_target, by_body, by_members, Stands, RowAgrees, MergingRowsAgree}
use Rattle.merging_laws.proofs.Rows.{merged_rows_agree}
use Rattle.merging_laws.proofs.Forms.{rows_that_merge}
use Rattle.merging_laws.proofs.Standing.{standing_agrees}

-- without a note of a type there is none
no-type : (o : Option Types) → row_widens (note_if (is_some o) (here widened type_note) ++ []) ≡ false → is_none o ≡ true
no-type None h = refl
no-type (Some t) h = impossible (sym h)

module _ (r : Relations) (lawful : IsLawful r) (d : Document) (guarded : IsGuarded d) (proper : ProperDocument d) (v : Value) (whole : is_whole v ≡ true) (most n : ℕ) (o : Spot) (p : Plain) (ls : Lists) (ns : Named) where
  abbrev J : Schema → Bool
  J = admits r d v

  -- up to the notes of the merge alone
  stood : (s : Schema) (wanted : Bool) → wanted ≡ J s → (ps : List Part) → (t : Standing) → Stands r d v wanted (merged_at d most n o s ps) t → RowAgrees r d v s (merged_at d most n o s ps) t
  stood s wanted e ps t h = record {
    proper = h.proper;
    keeps = λ k j. h.keeps k (e ∙ j);
    adds_none = λ k w j. sym e ∙ h.adds_none k j;
  }

  -- a schema with a lone allOf says what its members say, but for its type
  split : (us : Schemas) → J (object p (lone_all_of us) ls ns)
      ≡ (((plain_agrees r p v && if_given (λ q. follow J (target d q)) p.reference) && parts_agree r v (parts_of r d v) ls ns) && (((list_all J (schema_list us) && true) && true) && true))
  split us = form r d guarded v p (lone_all_of us) ls ns

  members-say : (us : Schemas) → J (object p (lone_all_of us) ls ns) ≡ true → list_all J (schema_list us) ≡ true
  members-say us j = and-1 _ true (and-1 _ true (and-1 _ true (and-2 ((plain_agrees r p v && if_given (λ q. follow J (target d q)) p.reference) && parts_agree r v (parts_of r d v) ls ns) _ (sym (split us) ∙ j))))

  all-say : (us : Schemas) → no_others p ls ns ≡ true → is_none p.types ≡ true → list_all J (schema_list us) ≡ true → J (object p (lone_all_of us) ls ns) ≡ true
  all-say us others t l =
      let f = four (is_none p.enum_values) (is_none p.const_value) (is_none p.reference) (is_none p.format && is_none p.numbers && is_none p.texts && without_lists ls && without_named ns) others in
      let g = three (is_none p.format && is_none p.numbers && is_none p.texts) (without_lists ls) (without_named ns) f.3 in
      let k = three (is_none p.format) (is_none p.numbers) (is_none p.texts) g.0 in
      split us
      ∙ (λ i. (((none-agrees (types_agree v) p.types t i && none-agrees (is_listed v) p.enum_values f.0 i && none-agrees (same v) p.const_value f.1 i && kind-quiet r p k.0 k.1 k.2 v i)
      && none-agrees (λ q. follow J (target d q)) p.reference f.2 i) && parts-quiet r (parts_of r d v) ls ns g.1 g.2 v i) && (((l i && true) && true) && true))

  abbrev Says : List Part → Same → Type 0
  Says ps x = IsProper (object p x ls ns) → (row_widens (notes_at r d (object p x ls ns)) ≡ false → is_none p.types ≡ true)
      → (t : Standing) → instead o (object p x ls ns) (merged_at d most n o (object p x ls ns) ps) ≡ Some t → RowAgrees r d v (object p x ls ns) (merged_at d most n o (object p x ls ns) ps) t

  agrees : (ss : Same) → IsProper (object p ss ls ns) → (ps : List Part) → MergesAs p ss ls ns (notes_at r d (object p ss ls ns)) ps
      → (t : Standing) → instead o (object p ss ls ns) (merged_at d most n o (object p ss ls ns) ps) ≡ Some t → RowAgrees r d v (object p ss ls ns) (merged_at d most n o (object p ss ls ns) ps) t
  agrees ss h ps (by_target q e) t i =
      stood (object p ss ls ns) (J (object p ss ls ns)) refl ps t
      (standing_agrees r d v (J (object p ss ls ns)) o (object p ss ls ns) (merged_at d most n o (object p ss ls ns) ps)
      ((merged_rows_agree r lawful d guarded proper v whole most n o).of_target p ss ls ns ps q e h) t i)
  agrees ss h ps (by_body b qs e f) t i =
      stood (object p ss ls ns) (J (object p ss ls ns)) refl ps t
      (standing_agrees r d v (J (object p ss ls ns)) o (object p ss ls ns) (merged_at d most n o (object p ss ls ns) ps)
      (subst (λ x. Meets IsProper (J (object p ss ls ns)) J (merged_at d most n o (object p ss ls ns) x)) (sym f) ((merged_rows_agree r lawful d guarded proper v whole most n o).of_body p ss ls ns b qs e h)) t i)
  agrees ss h ps (by_members us e f g others notes) t i =
      subst (Says ps) (sym f) members h (λ w. no-type p.types (noted-same notes w)) t i
    where
      noted-same : {m : List Note} → m ≡ type_notes p → row_widens m ≡ false → row_widens (type_notes p) ≡ false
      noted-same q w = subst (λ x. row_widens x ≡ false) q w

      members : Says ps (lone_all_of us)
      members k none t i =
          let st = standing_agrees r d v (list_all J (schema_list us)) o (object p (lone_all_of us) ls ns) (merged_at d most n o (object p (lone_all_of us) ls ns) ps)
          (subst (λ x. Meets IsProper (list_all J (schema_list us)) J (merged_at d most n o (object p (lone_all_of us) ls ns) x)) (sym g) ((merged_rows_agree r lawful d guarded proper v whole most n o).of_members p us ls ns e k)) t i in
          record {
            proper = st.proper;
            keeps = λ a j. st.keeps a (members-say us j);
            adds_none = λ a w j. all-say us others (none w) (st.adds_none a j);
          }

pub merging_rows_agree : MergingRowsAgree
merging_rows_agree r lawful d guarded proper v whole most n o p ss ls ns h ps e t i = agrees r lawful d guarded proper v whole most n o p ls ns ss h ps (rows_that_merge r d p ss ls ns ps e) t i
