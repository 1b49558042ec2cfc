-- Admission is what its keywords say.
use Rattle.std.proofs.Common.{◌≡◌, ℕ, suc, ◌+◌, ◌∷◌, map, Bool, true, false, ◌&&◌, ◌||◌, not, refl, sym, ap, ◌∙◌, arith}
use Rattle.std.specs.Prelude.{◌==◌, count_by, if◌then◌else◌}
use Rattle.std.proofs.lemmas.List.Sums.{sum_by-cons}
use Rattle.std.specs.List.{list_any, list_all}
use Rattle.json_value.specs.Value.{Value, Items, Members, item, no_items, member, no_members, values, entries}
use Rattle.schema_defs.specs.Texts.{Relations}
use Rattle.schema_defs.specs.Schema.{Schema, boolean, object, Schemas, no_more, schema, schema_list, Document}
use Rattle.schema_defs.specs.Layer.{judge_all, judge_any, judge_count}
use Rattle.schema_defs.specs.Admits.{counts_as_absent, admits, admits_with, admits-level, item_judges, member_parts, parts_of, allowed}
use Rattle.schema_defs.specs.Laws.{Unfolds, AdmissionUnfolds, AnnotationsSayNothing, reference_admits}

module _ (r : Relations) (d : Document) where
  level : (v : Value) → admits_with r d (allowed d) v ≡ admits r d v
  level v = sym (admits-level r d v)

  judge_all-list : (v : Value) (ss : Schemas) → judge_all r v (parts_of r d v) (reference_admits r d v) ss ≡ list_all (admits_with r d (allowed d) v) (schema_list ss)
  judge_all-list v no_more = refl
  judge_all-list v (schema s ss) = ap (λ b. admits_with r d (allowed d) v s && b) (judge_all-list v ss)

  judge_any-list : (v : Value) (ss : Schemas) → judge_any r v (parts_of r d v) (reference_admits r d v) ss ≡ list_any (admits_with r d (allowed d) v) (schema_list ss)
  judge_any-list v no_more = refl
  judge_any-list v (schema s ss) = ap (λ b. admits_with r d (allowed d) v s || b) (judge_any-list v ss)

  counted : (b : Bool) (n m : ℕ) → n ≡ m → (if b then suc n else n) ≡ (if b then 1 else 0) + m
  counted true n m h = omega arith
  counted false n m h = omega arith

  judge_count-list : (v : Value) (ss : Schemas) → judge_count r v (parts_of r d v) (reference_admits r d v) ss ≡ count_by (admits_with r d (allowed d) v) (schema_list ss)
  judge_count-list v no_more = refl
  judge_count-list v (schema s ss) = counted (admits_with r d (allowed d) v s) _ _ (judge_count-list v ss)
      ∙ sym (sum_by-cons (λ x. if admits_with r d (allowed d) v x then 1 else 0) s (schema_list ss))

  item_judges-map : (vs : Items) → item_judges r d vs ≡ map (admits r d) (values vs)
  item_judges-map no_items = refl
  item_judges-map (item v vs) = ap (λ js. admits r d v ∷ js) (item_judges-map vs)

  each-map : (vs : Items) (s : Schema) → list_all (λ j. j s) (item_judges r d vs) ≡ list_all (λ v. admits r d v s) (values vs)
  each-map no_items s = refl
  each-map (item v vs) s = ap (λ b. admits r d v s && b) (each-map vs s)

  some-map : (vs : Items) (s : Schema) → list_any (λ j. j s) (item_judges r d vs) ≡ list_any (λ v. admits r d v s) (values vs)
  some-map no_items s = refl
  some-map (item v vs) s = ap (λ b. admits r d v s || b) (some-map vs s)

  member_parts-map : (ms : Members) → member_parts r d ms ≡ map (λ e. record { name = e.0; as_absent = counts_as_absent d.setting e.1; says = admits r d e.1 }) (entries ms)
  member_parts-map no_members = refl
  member_parts-map (member k v ms) = ap (λ js. record { name = k; as_absent = counts_as_absent d.setting v; says = admits r d v } ∷ js) (member_parts-map ms)

  pub unfolds : Unfolds r d
  unfolds = record {
    booleans = λ v b. ap (λ j. j (boolean b)) (admits-level r d v);
    objects = λ v p ss ls ns. ap (λ j. j (object p ss ls ns)) (admits-level r d v);
    references = λ v q. refl;
    all_of = λ v ss. judge_all-list v ss ∙ ap (λ j. list_all j (schema_list ss)) (level v);
    any_of = λ v ss. judge_any-list v ss ∙ ap (λ j. list_any j (schema_list ss)) (level v);
    one_of = λ v ss. ap (λ n. n == 1) (judge_count-list v ss ∙ ap (λ j. count_by j (schema_list ss)) (level v));
    negation = λ v s. ap (λ j. not (j s)) (level v);
    items = item_judges-map;
    each_item = λ vs s rest. each-map vs s;
    contains = some-map;
    members = member_parts-map;
    names = λ ms n s. refl;
  }

pub admission_unfolds : AdmissionUnfolds
admission_unfolds = unfolds

pub annotations_say_nothing : AnnotationsSayNothing
annotations_say_nothing r d v p ss ls ns t e w k =
    ap (λ j. j (object (record p { title = t; description = e; default = w; walk = k }) ss ls ns)) (admits-level r d v) ∙ sym (ap (λ j. j (object p ss ls ns)) (admits-level r d v))
