-- The one keyword of subschemas that stands, by tests: as the table has it.
use Rattle.std.proofs.Common.{◌≡◌, ℕ, List, Bool, true, false, Option, None, refl, sym, true≢false}
use Rattle.schema_defs.specs.Schema.{Same, no_same, same_value, MaybeSchema, no_schema, the_schema, MaybeSchemas, no_list, the_list, Document}
use Rattle.convert_defs.specs.Table.{subschema_finding}
use Rattle.subschema_rows.specs.Only.{by_all, all_in, any_in, one_in, none_in, conditional_in}

module _ (d : Document) (name : List ℕ) where
  pub only_seen : (a b c : MaybeSchemas) (n : MaybeSchema) → subschema_finding d name (same_value a b c n false) ≡ by_all d name a b c n
  only_seen no_list no_list no_list no_schema = refl
  only_seen no_list no_list no_list (the_schema n) = refl
  only_seen no_list no_list (the_list c) no_schema = refl
  only_seen no_list no_list (the_list c) (the_schema n) = refl
  only_seen no_list (the_list b) no_list no_schema = refl
  only_seen no_list (the_list b) no_list (the_schema n) = refl
  only_seen no_list (the_list b) (the_list c) no_schema = refl
  only_seen no_list (the_list b) (the_list c) (the_schema n) = refl
  only_seen (the_list a) no_list no_list no_schema = refl
  only_seen (the_list a) no_list no_list (the_schema n) = refl
  only_seen (the_list a) no_list (the_list c) no_schema = refl
  only_seen (the_list a) no_list (the_list c) (the_schema n) = refl
  only_seen (the_list a) (the_list b) no_list no_schema = refl
  only_seen (the_list a) (the_list b) no_list (the_schema n) = refl
  only_seen (the_list a) (the_list b) (the_list c) no_schema = refl
  only_seen (the_list a) (the_list b) (the_list c) (the_schema n) = refl

  pub with_conditional : (a b c : MaybeSchemas) (n : MaybeSchema) → subschema_finding d name (same_value a b c n true) ≡ None
  with_conditional no_list no_list no_list no_schema = refl
  with_conditional no_list no_list no_list (the_schema n) = refl
  with_conditional no_list no_list (the_list c) no_schema = refl
  with_conditional no_list no_list (the_list c) (the_schema n) = refl
  with_conditional no_list (the_list b) no_list no_schema = refl
  with_conditional no_list (the_list b) no_list (the_schema n) = refl
  with_conditional no_list (the_list b) (the_list c) no_schema = refl
  with_conditional no_list (the_list b) (the_list c) (the_schema n) = refl
  with_conditional (the_list a) no_list no_list no_schema = refl
  with_conditional (the_list a) no_list no_list (the_schema n) = refl
  with_conditional (the_list a) no_list (the_list c) no_schema = refl
  with_conditional (the_list a) no_list (the_list c) (the_schema n) = refl
  with_conditional (the_list a) (the_list b) no_list no_schema = refl
  with_conditional (the_list a) (the_list b) no_list (the_schema n) = refl
  with_conditional (the_list a) (the_list b) (the_list c) no_schema = refl
  with_conditional (the_list a) (the_list b) (the_list c) (the_schema n) = refl

  pub keyword_seen : (ss : Same) → conditional_in ss ≡ false → subschema_finding d name ss ≡ by_all d name (all_in ss) (any_in ss) (one_in ss) (none_in ss)
  keyword_seen no_same h = refl
  keyword_seen (same_value a b c n false) h = only_seen a b c n
  keyword_seen (same_value a b c n true) h = absurd (true≢false h)

  pub conditional_seen : (ss : Same) → conditional_in ss ≡ true → subschema_finding d name ss ≡ None
  conditional_seen no_same h = refl
  conditional_seen (same_value a b c n true) h = with_conditional a b c n
  conditional_seen (same_value a b c n false) h = absurd (true≢false (sym h))
