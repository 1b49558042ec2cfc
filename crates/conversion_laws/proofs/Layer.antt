-- One layer: each row of the table that converts agrees with its entry on a value, where its parts do. R says what schemas are converted to.
use Rattle.std.proofs.Common.{◌≡◌, ℕ, List, [], Bool, true, false, ◌&&◌, ◌||◌, not, Some, is_none, is_some, refl, sym, ap}
use Rattle.std.specs.Prelude.{◌==◌}
use Rattle.json_value.specs.Value.{Value}
use Rattle.schema_defs.specs.declared.InstanceType.TheVariants.{Object, Array, Text}
use Rattle.schema_defs.specs.Texts.{Relations}
use Rattle.schema_defs.specs.Schema.{Types, Plain, Schema, boolean, object, Same, Lists, Named, Document, Schemas}
use Rattle.schema_defs.specs.Layer.{Parts, types_agree, judge, judge_any, judge_count}
use Rattle.schema_defs.specs.Admits.{target}
use Rattle.model_defs.specs.Layer as model
use Rattle.entry_defs.specs.Entry.{Target, Entry, boolean_entry, integer_entry, text_entry, native_entry, any_entry, unit_entry, option_entry, vec_entry, set_entry, map_entry, tuple_entry, array_entry, reference, item}
use Rattle.entry_defs.specs.Layer as entry
use Rattle.entry_defs.specs.Layer.{entry_takes, shape_takes}
use Rattle.convert_defs.specs.Row.{Way, Part, Row, leaf_row, as_it_is_row, option_row, ruled_row, vec_row, set_row, array_row, tuple_row, map_row, pattern_map_row, struct_row, enum_row, merged_row, refused_row}
use Rattle.convert_defs.specs.Standing.{is_untyped, of_type}
use Rattle.enum_defs.specs.Words.{has_type, is_bare, without_lists, without_named}
use Rattle.convert_defs.specs.Table.{lines, finding_of, target_of, types_of_schema, subschema_finding, type_beside_null, constant_of, has_one_type}
use Rattle.convert_defs.specs.Scalars.{wanted_of, string_finding}
use Rattle.convert_defs.specs.Owners.{object_finding, array_finding}
use Rattle.convert_defs.specs.Convert.{labeled, entry_of}
use Rattle.schema_defs.specs.Location.{Step}
use Rattle.convert_defs.proofs.Views.{View}
use Rattle.convert_defs.proofs.Bare.{and_left, and_right, three, four, both}
use Rattle.convert_defs.specs.Laws.{Keeps, HasNamesApart}
use Rattle.convert_defs.proofs.Keeps.{keep-equal}
use Rattle.convert_defs.specs.Shapes.{schemas_of, members_from}
use Rattle.convert_defs.specs.Apart.{names_apart, branches_apart}
use Rattle.enum_defs.specs.Exclusive.{exclusive}
use Rattle.enum_defs.specs.Kinds.{null_free}
use Rattle.convert_defs.proofs.Scalars.{never-takes}
use Rattle.convert_defs.proofs.Members.{subschema-holds}
use Rattle.convert_defs.proofs.TypeLists.{type-list-holds}
use Rattle.convert_defs.proofs.Listed.{enumerated-holds}
use Rattle.convert_defs.proofs.Constants.{constant-text-holds}
use Rattle.convert_defs.proofs.Alone.{listed-alone-holds}
use Rattle.convert_defs.proofs.Options.{nullable-holds}
use Rattle.convert_defs.proofs.Rows.{unlabeled, Holds, AllHold, first-holds, string-holds, boolean-holds, array-holds, object-holds, null-holds, any-holds, reference-holds, typed-reference-holds, allowed-holds, all-types-hold, one-type-holds, untyped-holds, constant-holds, integer-holds}

module _ (way : Way) (r : Relations) (d : Document) (R : Schema → Entry → Type 0) (P : List ℕ → Type 0) (fol : List ℕ → Bool) (tgt : Target → Bool) (v : Value) (ps : Parts) (es : model.Parts entry.Judge) (w : View way d.setting R r v ps es) where
  module _ (refs : (q : List ℕ) (t : Target) → P q → target_of q ≡ Some t → Keeps way (fol q) (tgt t))
      (ref_types : (q : List ℕ) (ts : Types) → types_of_schema (target d q) ≡ Some ts → fol q ≡ true → types_agree v ts ≡ true)
      (ex : (k : Step) (us : Schemas) → exclusive d (schemas_of (members_from k 0 us)) ≡ true → judge_any r v ps fol us ≡ true → (judge_count r v ps fol us == 1) ≡ true)
      (nf : (s : Schema) → null_free d s ≡ true → judge r v ps fol s ≡ true → model.is_null v ≡ false) (conv : Part → Entry) where
    -- each line of the table
    all-hold : (p : Plain) (ss : Same) (ls : Lists) (ns : Named) → names_apart ns && branches_apart ss ≡ true → AllHold way P d.setting R conv r fol tgt v ps es w (object p ss ls ns) (lines r d p ss ls ns)
    all-hold p ss ls ns o = (
      (λ t g0 c q. absurd c.1),
      (
        (λ t. nullable-holds way P d.setting R conv r fol tgt v ps es w p ss ls ns (type_beside_null p.types) refl),
        (
          (λ t. string-holds way P d.setting R conv r fol tgt v ps es w p ss ls ns t),
          (
            (λ t. let f = and_left _ (without_named ns) t in let g = and_left _ (without_lists ls) f in let k = three (is_none p.types && is_some p.texts) (is_none p.numbers) (is_bare p ss) g in untyped-holds way P d.setting R conv r fol tgt v ps es w p ss ls ns Text (string_finding p) (and_left _ _ k.0) k.2 (string-holds way P d.setting R conv r fol tgt v ps es w (of_type Text p) ss ls ns k.2)),
            (
              (λ t. enumerated-holds way P d.setting R conv r fol tgt p ss ls ns v ps es w p.enum_values refl t),
              (
                (λ t. constant-text-holds way P d.setting R conv r fol tgt p ss ls ns v ps es w (constant_of p) refl t),
                (
                  (λ t. integer-holds way P d.setting R conv r fol tgt v ps es w p ss ls ns t),
                  (
                    (λ t. boolean-holds way P d.setting R conv r fol tgt v ps es w p ss ls ns t),
                    (
                      (λ t. let f = and_left (has_type Object p.types && is_none p.format) (is_bare p ss) t in object-holds way P d.setting R conv r fol tgt v ps es w p ss ls ns (and_left _ _ f) (and_right (has_type Object p.types && is_none p.format) _ t) ns refl (and_left _ _ o)),
                      (
                        (λ t. let f = three (is_untyped p && is_bare p ss) (without_lists ls) (not (without_named ns)) t in let g = both (is_untyped p) (is_bare p ss) f.0 in untyped-holds way P d.setting R conv r fol tgt v ps es w p ss ls ns Object (object_finding d.setting ns) (four (is_none p.types) (is_none p.format) (is_none p.numbers) (is_none p.texts) g.0).0 g.1 (object-holds way P d.setting R conv r fol tgt v ps es w (of_type Object p) ss ls ns refl g.1 ns refl (and_left _ _ o))),
                        (
                          (λ t. let f = and_left (has_type Array p.types && is_none p.format) (is_bare p ss) t in array-holds way P d.setting R conv r fol tgt v ps es w p ss ls ns (and_left _ _ f) (and_right (has_type Array p.types && is_none p.format) _ t) ls refl),
                          (
                            (λ t. let f = three (is_untyped p && is_bare p ss) (without_named ns) (not (without_lists ls)) t in let g = both (is_untyped p) (is_bare p ss) f.0 in untyped-holds way P d.setting R conv r fol tgt v ps es w p ss ls ns Array (array_finding ls) (four (is_none p.types) (is_none p.format) (is_none p.numbers) (is_none p.texts) g.0).0 g.1 (array-holds way P d.setting R conv r fol tgt v ps es w (of_type Array p) ss ls ns refl g.1 ls refl)),
                            (
                              (λ t. any-holds way P d.setting R conv r fol tgt v ps es w p ss ls ns t),
                              (
                                (λ t. null-holds way P d.setting R conv r fol tgt v ps es w p ss ls ns t),
                                (
                                  (λ t. reference-holds way P d.setting R conv r fol tgt v ps es w p ss ls ns refs t),
                                  (
                                    (λ t. typed-reference-holds way P d.setting R conv r fol tgt v ps es w p ss ls ns refs d ref_types t),
                                    (
                                      (λ t g0 c q. absurd c.1),
                                      (
                                        (λ t. allowed-holds way P d.setting R conv r fol tgt v ps es w p ss ls ns p.enum_values refl (and_right (has_one_type p.types) _ t)),
                                        (
                                          (λ t. listed-alone-holds way P d.setting R conv r fol tgt v ps es w p ss ls ns p.enum_values refl t),
                                          (
                                            (λ t. subschema-holds way P d.setting R conv r fol tgt v ps es w d refl ex nf p ls ns ss (and_right (names_apart ns) _ o) (and_right (is_some (subschema_finding d (wanted_of p) ss)) _ t)),
                                            (
                                              (λ t g0 c q. absurd c.1),
                                              (
                                                (λ t. constant-holds way P d.setting R conv r fol tgt v ps es w p ss ls ns),
                                                (
                                                  (λ t. all-types-hold way P d.setting R conv r fol tgt v ps es w p ss ls ns t),
                                                  (
                                                    (λ t. one-type-holds way P d.setting R conv r fol tgt v ps es w p ss ls ns p.types refl),
                                                    (
                                                      (λ t. type-list-holds way P d.setting R conv r fol tgt p ss ls ns v ps es w t),
                                                      tt,
                                                    ),
                                                  ),
                                                ),
                                              ),
                                            ),
                                          ),
                                        ),
                                      ),
                                    ),
                                  ),
                                ),
                              ),
                            ),
                          ),
                        ),
                      ),
                    ),
                  ),
                ),
              ),
            ),
          ),
        ),
      ),
    )

    pub layer-agrees : (s : Schema) → HasNamesApart s → Holds way P d.setting R conv r fol tgt v ps es w s (finding_of r d s)
    layer-agrees (boolean true) o = λ g0 c q. keep-equal way _ _ refl
    layer-agrees (boolean false) o = λ g0 c q. keep-equal way _ _ (sym (never-takes way d.setting R r fol tgt v ps es w []))
    layer-agrees (object p ss ls ns) o = first-holds way P d.setting R conv r fol tgt v ps es w (object p ss ls ns) (lines r d p ss ls ns) (all-hold p ss ls ns o)

  -- ---- names say nothing

  labeled-takes : (n : List ℕ) (e : Entry) → entry_takes r v es tgt (labeled n e) ≡ entry_takes r v es tgt e
  labeled-takes n (item l h) = refl
  labeled-takes n (option_entry e) = ap (λ b. model.is_null v || b) (labeled-takes n e)
  labeled-takes n boolean_entry = refl
  labeled-takes n (integer_entry g) = refl
  labeled-takes n text_entry = refl
  labeled-takes n (native_entry f) = refl
  labeled-takes n any_entry = refl
  labeled-takes n unit_entry = refl
  labeled-takes n (vec_entry e) = refl
  labeled-takes n (set_entry e) = refl
  labeled-takes n (map_entry k e) = refl
  labeled-takes n (tuple_entry us) = refl
  labeled-takes n (array_entry e m) = refl
  labeled-takes n (reference t) = refl

  pub renamed : (conv : Part → Entry) (l n : List ℕ) (w : Row) → entry_takes r v es tgt (unlabeled conv l w) ≡ entry_takes r v es tgt (entry_of conv n w)
  renamed conv l n (leaf_row e) = sym (labeled-takes n e)
  renamed conv l n (as_it_is_row p) = refl
  renamed conv l n (option_row p) = refl
  renamed conv l n (ruled_row p u) = refl
  renamed conv l n (vec_row p) = refl
  renamed conv l n (set_row p) = refl
  renamed conv l n (array_row p m) = refl
  renamed conv l n (tuple_row ps m p) = refl
  renamed conv l n (map_row k p) = refl
  renamed conv l n (pattern_map_row qs p) = refl
  renamed conv l n (struct_row c fs o) = refl
  renamed conv l n (enum_row tag c ws) = refl
  renamed conv l n (merged_row ps) = refl
  renamed conv l n (refused_row c) = refl
