-- Values that a schema states: those that its row lists, by its rule and by what its tree holds, and then its default.
use Rattle.std.specs.Prelude.{Result, Ok, Err, IfErr, IfOk}
use Rattle.std.proofs.Common.{◌≡◌, List, [], ◌∷◌, ◌++◌, map, Option, Some, None, refl, sym, ap, ◌∙◌}
use Rattle.json_value.specs.Value.{Value}
use Rattle.schema_defs.specs.Location.{Location}
use Rattle.schema_defs.specs.Texts.{Relations}
use Rattle.schema_defs.specs.Schema.{Schema}
use Rattle.entry_defs.specs.Table.{Table}
use Rattle.model_defs.specs.Model.{RuleD}
use Rattle.entry_defs.specs.Entry.{Entry}
use Rattle.convert_defs.specs.Row.{Row, leaf_row, as_it_is_row, option_row, ruled_row, vec_row, set_row, array_row, tuple_row, map_row, pattern_map_row, struct_row, enum_row, merged_row, refused_row}
use Rattle.convert_defs.specs.Values.{inner_of, listed_by, listed_in}
use Rattle.listed_reading.specs.Unread.{first_of as first_value}
use Rattle.convert_trees.specs.Unread.{At, unread_by, unread_of, unread_values, first_before, rule_in}
use Rattle.convert_trees.specs.Keeping.{ValuesD, with_before}

lists_none : (w : Row) → rule_in w ≡ None → listed_in w ≡ []
lists_none (ruled_row p rule) e = absurd (cc)
lists_none (leaf_row e') e = refl
lists_none (as_it_is_row p) e = refl
lists_none (option_row p) e = refl
lists_none (vec_row p) e = refl
lists_none (set_row p) e = refl
lists_none (array_row p n) e = refl
lists_none (tuple_row ps n p) e = refl
lists_none (map_row k p) e = refl
lists_none (pattern_map_row qs p) e = refl
lists_none (struct_row closed fs o) e = refl
lists_none (enum_row tag closing ws) e = refl
lists_none (merged_row ps) e = refl
lists_none (refused_row c) e = refl

lists_so : (w : Row) (rule : RuleD) → rule_in w ≡ Some rule → listed_in w ≡ listed_by rule
lists_so (ruled_row p rule') rule e = let same : rule' ≡ rule = cc in ap listed_by same
lists_so (leaf_row e') rule e = absurd (cc)
lists_so (as_it_is_row p) rule e = absurd (cc)
lists_so (option_row p) rule e = absurd (cc)
lists_so (vec_row p) rule e = absurd (cc)
lists_so (set_row p) rule e = absurd (cc)
lists_so (array_row p n) rule e = absurd (cc)
lists_so (tuple_row ps n p) rule e = absurd (cc)
lists_so (map_row k p) rule e = absurd (cc)
lists_so (pattern_map_row qs p) rule e = absurd (cc)
lists_so (struct_row closed fs o) rule e = absurd (cc)
lists_so (enum_row tag closing ws) rule e = absurd (cc)
lists_so (merged_row ps) rule e = absurd (cc)
lists_so (refused_row c) rule e = absurd (cc)

module _ (r : Relations) (k : Option Table) where
  by_none : (k : Option Table) (e : Entry) → unread_by r k e [] ≡ []
  by_none None e = refl
  by_none (Some t) e = refl

  -- a row without a rule lists nothing
  pub none_unread : (w : Row) → rule_in w ≡ None → (e : Entry) → None ≡ first_value (unread_by r k e (listed_in w))
  none_unread w h e = sym (ap first_value (ap (unread_by r k e) (lists_none w h) ∙ by_none k e))

  -- a ruled row lists what its rule does, for what the tree holds
  pub rule_unread : (w : Row) (rule : RuleD) → rule_in w ≡ Some rule → (x e : Entry) → e ≡ inner_of x
      → first_value (unread_by r k e (listed_by rule)) ≡ first_value (unread_by r k (inner_of x) (listed_in w))
  rule_unread w rule h x e g = λ i. first_value (unread_by r k (g i) (sym (lists_so w rule h) i))

-- ---- those that are listed, and then the default

pub first_listed : (us ds : List Value) (v : Value) → Some v ≡ first_value us → Some v ≡ first_value (us ++ ds)
first_listed [] ds v e = absurd (cc)
first_listed (u ∷ us) ds v e = e

pub first_default : (us ds : List Value) (o : Option Value) → None ≡ first_value us → first_value ds ≡ o → o ≡ first_value (us ++ ds)
first_default [] ds o e h = sym h
first_default (u ∷ us) ds o e h = absurd (cc)

-- ---- the first of them, at its place

at_head : (l : Location) (vs : List Value) (a : At) (o : Option At) (v : Value) → first_value vs ≡ Some v → a ≡ (l, v) → Some a ≡ first_before (map (λ v. (l, v)) vs) o
at_head l [] a o v e h = absurd (cc)
at_head l (w ∷ vs) a o v e h = let same : w ≡ v = cc in ap Some (h ∙ ap (λ v. (l, v)) (sym same))

no_head : (l : Location) (vs : List Value) (o : Option At) → first_value vs ≡ None → o ≡ first_before (map (λ v. (l, v)) vs) o
no_head l [] o e = refl
no_head l (w ∷ vs) o e = absurd (cc)

module _ (r : Relations) (l : Location) (s : Schema) (w : Row) (e : Entry) (v : ValuesD) where
  pub some_kept : (a : At) (x : Value) → Some x ≡ first_value (unread_values r v.known s w e) → a ≡ (l, x) → record { known = v.known; unread = Some a } ≡ with_before (unread_of r v.known l s w e) v
  some_kept a x k h = λ i. record { known = v.known; unread = at_head l (unread_values r v.known s w e) a v.unread x (sym k) h i }

  pub none_kept : None ≡ first_value (unread_values r v.known s w e) → v ≡ with_before (unread_of r v.known l s w e) v
  none_kept k = λ i. record { known = v.known; unread = no_head l (unread_values r v.known s w e) v.unread (sym k) i }

-- ---- what is said on success, and of an error

pub if_ok_mapped : {A E : Type 0} → (x : Result A E) (P Q : A → Type 0) → ((a : A) → P a → Q a) → IfOk x P → IfOk x Q
if_ok_mapped (Ok a) P Q f h = f a h
if_ok_mapped (Err e) P Q f h = h

pub if_err_mapped : {A E : Type 0} → (x : Result A E) (P Q : E → Type 0) → ((e : E) → P e → Q e) → IfErr x P → IfErr x Q
if_err_mapped (Ok a) P Q f h = h
if_err_mapped (Err e) P Q f h = f e h
