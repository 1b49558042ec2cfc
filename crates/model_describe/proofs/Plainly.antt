-- A table of items that is plain has no stand-in; and what describes it describes the items.
use Rattle.std.proofs.Common.{◌≡◌, ◌↔◌, ℕ, suc, List, [], ◌∷◌, ◌++◌, map, Bool, true, false, ◌&&◌, Option, Some, None, option_map, is_some, if◌then◌else◌, refl, sym, ap, subst, ◌∙◌, true≢false}
use Rattle.std.specs.List.{list_all, cons_option}
use Rattle.syntax_trees.specs.Item.{ItemD}
use Rattle.json_value.specs.Value.{Value}
use Rattle.attr_parts.specs.Diagnostics.{DiagnosticD}
use Rattle.container_defs.specs.Container.{ReadContainer}
use Rattle.container_defs.specs.Forms.{names_of, is_outside, leaves_forms}
use Rattle.container_defs.specs.Reader.{reader_model}
use Rattle.derive_model.specs.Items.{read_of, told_of, all_told, first_from}
use Rattle.model_defs.specs.Types.{TypeModel}
use Rattle.model_defs.specs.Model.{ContainerModel, ConversionsD}
use Rattle.describe_defs.specs.Plain.{is_plain_item, IsPlainTable}
use Rattle.describe_defs.specs.NotPlain.{outside_item, why_not_plain}
use Rattle.describe_defs.specs.Description.{description}
use Rattle.describe_defs.specs.Written.{description_value, HasSizes}
use Rattle.describe_defs.proofs.Decided.{plain_decided}
use Rattle.describe_defs.proofs.Exact.{descriptions_exact}
use Rattle.describe_defs.proofs.Guards.{descriptions_guarded}
use Rattle.describe_defs.proofs.WrittenDocument.{descriptions_written}
use Rattle.describe_laws.proofs.Faultless.{descriptions_faultless}
use Rattle.describe_laws.proofs.PlainDocument.{descriptions_plain}
use Rattle.model_describe.specs.Described.{as_it_stands, unless_told, model_or, described_model, described_models, models_in, IsPlainItems, IsDescription, IsTold, IsRefused}
use Rattle.model_describe.specs.declared.errors.DescribeError.{DescribeError}
use Rattle.model_describe.specs.declared.errors.DescribeError.TheVariants.{Memory, NotPlain}

first_part : (a b : Bool) → (a && b) ≡ true → a ≡ true
first_part true b h = refl
first_part false b h = h

second_part : (a b : Bool) → (a && b) ≡ true → b ≡ true
second_part true b h = h
second_part false b h = absurd (true≢false (sym h))

no_left : {A : Type 0} (xs ys : List A) → xs ++ ys ≡ [] → xs ≡ []
no_left [] ys h = refl
no_left (x ∷ xs) ys h = cc

no_right : {A : Type 0} (xs ys : List A) → xs ++ ys ≡ [] → ys ≡ []
no_right [] ys h = h
no_right (x ∷ xs) ys h = cc

module _ (names : List (List ℕ)) (k : ConversionsD) where
  -- ---- one item

  -- nothing is told of it, it is within the forms, and it stands as its model
  abbrev pub Stands : List DiagnosticD → Option ReadContainer → ContainerModel → Type 0
  Stands ds o m = (ds ≡ []) × (leaves_forms names k o ≡ false) × (Some m ≡ option_map reader_model o)

  module _ (ms : List ContainerModel) where
    inside_stands : (n : List ℕ) (c : ReadContainer) (b : Bool) → is_outside names k c ≡ b → is_plain_item ms k (if b then outside_item n else reader_model c) ≡ true
        → (is_outside names k c ≡ false) × ((if b then outside_item n else reader_model c) ≡ reader_model c)
    inside_stands n c true e h = absurd (true≢false (sym h))
    inside_stands n c false e h = (e, refl)

    item_stands : (n : List ℕ) (ds : List DiagnosticD) (o : Option ReadContainer) → is_plain_item ms k (model_or names k n (unless_told ds o)) ≡ true → Stands ds o (model_or names k n (unless_told ds o))
    item_stands n (d ∷ ds) o h = absurd (true≢false (sym h))
    item_stands n [] None h = absurd (true≢false (sym h))
    item_stands n [] (Some c) h = let f = inside_stands n c (is_outside names k c) refl h in (refl, f.0, ap Some f.1)

    -- ---- all of them

    abbrev all_plain : List ItemD → Bool
    all_plain is = list_all (is_plain_item ms k) (map (described_model names k) is)

    told_none : (is : List ItemD) → all_plain is ≡ true → all_told as_it_stands as_it_stands is ≡ []
    told_none [] h = refl
    told_none (i ∷ is) h =
        let one = item_stands i.name.text (told_of as_it_stands as_it_stands i) (read_of as_it_stands as_it_stands i) (first_part (is_plain_item ms k (described_model names k i)) (all_plain is) h) in
        let rest = told_none is (second_part (is_plain_item ms k (described_model names k i)) (all_plain is) h) in
        λ t. one.0 t ++ rest t

    none_outside : (is : List ItemD) (n : ℕ) → all_plain is ≡ true → first_from (leaves_forms names k) n (map (read_of as_it_stands as_it_stands) is) ≡ None
    none_outside [] n h = refl
    none_outside (i ∷ is) n h =
        let one = item_stands i.name.text (told_of as_it_stands as_it_stands i) (read_of as_it_stands as_it_stands i) (first_part (is_plain_item ms k (described_model names k i)) (all_plain is) h) in
        ap (λ b. if b then Some n else first_from (leaves_forms names k) (suc n) (map (read_of as_it_stands as_it_stands) is)) one.1
        ∙ none_outside is (suc n) (second_part (is_plain_item ms k (described_model names k i)) (all_plain is) h)

    all_stand : (is : List ItemD) → all_plain is ≡ true → map (described_model names k) is ≡ models_in is
    all_stand [] h = refl
    all_stand (i ∷ is) h =
        let one = item_stands i.name.text (told_of as_it_stands as_it_stands i) (read_of as_it_stands as_it_stands i) (first_part (is_plain_item ms k (described_model names k i)) (all_plain is) h) in
        let rest = all_stand is (second_part (is_plain_item ms k (described_model names k i)) (all_plain is) h) in
        λ t. cons_option (one.2 t) (rest t)

  -- ---- and back

  stands_again : (n : List ℕ) (ds : List DiagnosticD) (o : Option ReadContainer) → ds ≡ [] → leaves_forms names k o ≡ false → Some (model_or names k n (unless_told ds o)) ≡ option_map reader_model o
  stands_again n (d ∷ ds) o e h = cc
  stands_again n [] None e h = absurd (true≢false h)
  stands_again n [] (Some c) e h = ap (λ b. Some (if b then outside_item n else reader_model c)) h

  is_first : (b : Bool) (n : ℕ) (rest : Option ℕ) → (if b then Some n else rest) ≡ None → (b ≡ false) × (rest ≡ None)
  is_first true n rest h = absurd (true≢false (ap is_some h))
  is_first false n rest h = (refl, h)

  all_again : (is : List ItemD) (n : ℕ) → all_told as_it_stands as_it_stands is ≡ [] → first_from (leaves_forms names k) n (map (read_of as_it_stands as_it_stands) is) ≡ None
      → map (described_model names k) is ≡ models_in is
  all_again [] n t h = refl
  all_again (i ∷ is) n t h =
      let f = is_first (leaves_forms names k (read_of as_it_stands as_it_stands i)) n (first_from (leaves_forms names k) (suc n) (map (read_of as_it_stands as_it_stands) is)) h in
      let one = stands_again i.name.text (told_of as_it_stands as_it_stands i) (read_of as_it_stands as_it_stands i) (no_left (told_of as_it_stands as_it_stands i) (all_told as_it_stands as_it_stands is) t) f.0 in
      let rest = all_again is (suc n) (no_right (told_of as_it_stands as_it_stands i) (all_told as_it_stands as_it_stands is) t) f.1 in
      λ x. cons_option (one x) (rest x)

-- ---- descriptions of items

module _ (k : ConversionsD) (is : List ItemD) (root : TypeModel) where
  abbrev pub told : List ContainerModel → Option (Option ℕ)
  told ms = why_not_plain ms k root

  stand : told (described_models k is) ≡ None → described_models k is ≡ models_in is
  stand h = all_stand (names_of is) k (described_models k is) is ((plain_decided (described_models k is) k root).0 h).items

  pub plain_items : (ms : List ContainerModel) → ms ≡ described_models k is → told ms ≡ None → IsPlainItems k is root
  plain_items ms e n =
      let h : told (described_models k is) ≡ None = sym (ap told e) ∙ n in
      let p = (plain_decided (described_models k is) k root).0 h in
      record {
        told = told_none (names_of is) k (described_models k is) is p.items;
        inside = none_outside (names_of is) k (described_models k is) is 0 p.items;
        plain = subst (λ ms. IsPlainTable ms k root) (stand h) p;
      }

  pub is_value : (ms : List ContainerModel) (v : Value) → ms ≡ described_models k is → told ms ≡ None → v ≡ description_value ms k root → v ≡ description_value (models_in is) k root
  is_value ms v e n d = d ∙ ap (λ l. description_value l k root) (e ∙ stand (sym (ap told e) ∙ n))

  pub is_description : (ms : List ContainerModel) (v : Value) → HasSizes k → ms ≡ described_models k is → told ms ≡ None → v ≡ description_value ms k root → IsDescription k is root v
  is_description ms v sizes e n d =
      let p = (plain_items ms e n).plain in
      let f = descriptions_faultless (models_in is) k root p sizes in
      subst (IsDescription k is root) (sym (is_value ms v e n d)) (record {
        document = description (models_in is) k root;
        read = record {
          readable = ((f.well_formed, f.resolved), f.whole);
          read = descriptions_written (models_in is) k root p sizes;
          guarded = descriptions_guarded (models_in is) k root p;
        };
        plain = descriptions_plain (models_in is) k root p;
        exact = λ relations w small. descriptions_exact (models_in is) k root p relations w small;
      })

  pub is_refused : (ms : List ContainerModel) (error : DescribeError) → ms ≡ described_models k is → IsTold (told ms) error → IsRefused k is root error
  is_refused ms Memory e h = tt
  is_refused ms (NotPlain o) e h = (
    sym (ap told e) ∙ h,
    λ p.
        true≢false (ap is_some (sym (sym (ap told e) ∙ h) ∙ ap told (all_again (names_of is) k is 0 p.told p.inside) ∙ (plain_decided (models_in is) k root).1 p.plain)),
  )
