-- Why there is no module, and what there is else.
use Rattle.std.proofs.Common.{◌≡◌, ℕ, suc, List, [], ◌∷◌, ◌++◌, map, true, Option, Some, None, option_map, refl, sym, ap, subst, ◌∙◌}
use Rattle.std.specs.Prelude.{if◌then◌else◌}
use Rattle.std.specs.List.{list_all, flat_map, filter_map, cons_option}
use Rattle.syntax_trees.specs.Item.{ItemD, item_view}
use Rattle.syntax_trees.specs.declared.item.DeriveInput.{DeriveInput}
use Rattle.attr_parts.specs.Diagnostics.{DiagnosticD}
use Rattle.attr_parts.specs.declared.derive.Derive.{Derive}
use Rattle.attr_parts.specs.declared.derive.Derive.TheVariants.{Serialize, Deserialize}
use Rattle.attr_defs.specs.Container.{container_diagnostics}
use Rattle.attr_defs.specs.Renames.{Meaning}
use Rattle.attr_defs.specs.Texts.{lexed}
use Rattle.model_defs.specs.Model.{ContainerModel, ConversionsD}
use Rattle.container_defs.specs.Checks.{marked}
use Rattle.container_defs.specs.Container.{ReadContainer}
use Rattle.container_defs.specs.Model.{model_of, diagnostics_of, members_told, told_at_last}
use Rattle.container_defs.specs.Reading.{container_of as container_read}
use Rattle.container_defs.specs.Reader.{reader_model, item_models}
use Rattle.container_defs.specs.Forms.{names_of, is_outside, leaves_forms}
use Rattle.evolve_defs.specs.Tables.{IsTame}
use Rattle.example_laws.specs.Fitted.{are_names_texts, IsFitted}
use Rattle.fitted_laws.proofs.Fitted.{items_fitted}
use Rattle.form_laws.specs.Laws.{AreFit}
use Rattle.form_laws.proofs.Inside.{items_fit}
use Rattle.tame_laws.proofs.Tame.{items_tame}
use Rattle.value_models.specs.declared.container.Container.{Container}
use Rattle.value_models.specs.ContainerView.{containers_view}
use Rattle.derive_model.proofs.Inside.{none_outside}
use Rattle.derive_model.proofs.Named.{containers_named}
use Rattle.derive_model.specs.Items.{private, container_of, read_of, told_of, all_told, first_from, first_outside}
use Rattle.derive_model.specs.ModuleView.{IsTold, IsForm, IsWhy, containers_read}
use Rattle.derive_model.specs.declared.module.Module.{Module}
use Rattle.derive_model.specs.declared.errors.ModuleError.{ModuleError}
use Rattle.derive_model.specs.declared.errors.ModuleError.TheVariants.{Memory, Diagnostics, Form}

-- what is read of each, and then what is made of it
pub made_of_read : {X Y Z : Type 0} (read : X → Option Y) (model : Y → Z) (xs : List X) → filter_map (option_map model) (map read xs) ≡ filter_map (λ x. option_map model (read x)) xs
made_of_read read model [] = refl
made_of_read read model (x ∷ xs) = ap (cons_option (option_map model (read x))) (made_of_read read model xs)

-- ---- what was collected

none_before : (old new told : List DiagnosticD) → old ≡ [] → new ≡ old ++ told → new ≡ told
none_before old new told e n = n ∙ ap (λ l. l ++ told) e

pub none_told : (old new told : List DiagnosticD) → old ≡ [] → new ≡ old ++ told → new ≡ [] → told ≡ []
none_told old new told e n h = sym (none_before old new told e n) ∙ h

pub error_told : (old new told : List DiagnosticD) (error : ModuleError) → old ≡ [] → new ≡ old ++ told → IsTold new error → IsTold told error
error_told old new told error e n h = subst (λ l. IsTold l error) (none_before old new told e n) h

-- ---- where nothing is told

no_left : {A : Type 0} (xs ys : List A) → xs ++ ys ≡ [] → xs ≡ []
no_left [] ys h = refl
no_left (x ∷ xs) ys h = cc

no_right : {A : Type 0} (xs ys : List A) → xs ++ ys ≡ [] → ys ≡ []
no_right [] ys h = h
no_right (x ∷ xs) ys h = cc

module _ (v f : Meaning) where
  -- a union is told
  one_read : (derive told : Derive) (i : ItemD) (o : Option ReadContainer) (rest : List ReadContainer) (all : List (Option ReadContainer)) → told_at_last told i o ≡ [] → map Some rest ≡ all
      → map Some (cons_option (option_map (marked derive) o) rest) ≡ option_map (marked derive) o ∷ all
  one_read derive told i None rest all h r = cc
  one_read derive told i (Some c) rest all h r = ap (λ xs. Some (marked derive c) ∷ xs) r

  pub all_read : (derive : Derive) (is : List ItemD) (cs : List ReadContainer) → all_told v f is ≡ [] → cs ≡ filter_map (container_of v f derive) is → map Some cs ≡ map (container_of v f derive) is
  all_read derive is cs h e = ap (map Some) e ∙ each is h
    where
      each : (is : List ItemD) → all_told v f is ≡ [] → map Some (filter_map (container_of v f derive) is) ≡ map (container_of v f derive) is
      each [] h = refl
      each (i ∷ is) h =
          let here = no_left (diagnostics_of lexed v f private i Serialize) (diagnostics_of lexed v f private i Deserialize) (no_left (told_of v f i) (all_told v f is) h) in
          let read = container_read lexed v f private i in
          let last = no_right (members_told lexed i.body) (told_at_last Serialize i read) (no_right (container_diagnostics lexed i) (members_told lexed i.body ++ told_at_last Serialize i read) here) in
          one_read derive Serialize i read (filter_map (container_of v f derive) is) (map (container_of v f derive) is) last (each is (no_right (told_of v f i) (all_told v f is) h))

  -- nothing is told for reading
  none_read : (is : List ItemD) → all_told v f is ≡ [] → flat_map (λ i. diagnostics_of lexed v f private i Deserialize) is ≡ []
  none_read [] h = refl
  none_read (i ∷ is) h =
      let here = no_right (diagnostics_of lexed v f private i Serialize) (diagnostics_of lexed v f private i Deserialize) (no_left (told_of v f i) (all_told v f is) h) in
      let rest = none_read is (no_right (told_of v f i) (all_told v f is) h) in
      λ x. here x ++ rest x

-- ---- what was read of those items

first_of : (names : List (List ℕ)) (k : ConversionsD) (i : ℕ) (cs : List ReadContainer) → first_from (leaves_forms names k) i (map Some cs) ≡ first_from (is_outside names k) i cs
first_of names k i [] = refl
first_of names k i (c ∷ cs) = ap (λ o. if is_outside names k c then Some i else o) (first_of names k (suc i) cs)

module _ (v f : Meaning) (k : ConversionsD) (xs ys : List DeriveInput) (cs : List ReadContainer) (s : xs ≡ ys) (e : map Some cs ≡ map (read_of v f) (map item_view ys)) where
  first_read : (o : Option ℕ) → o ≡ first_from (is_outside (names_of (map item_view xs)) k) 0 cs → first_outside v f k (map item_view ys) ≡ o
  first_read o m =
      let names = names_of (map item_view ys) in
      sym (m ∙ ap (λ js. first_from (is_outside (names_of (map item_view js)) k) 0 cs) s ∙ sym (first_of names k 0 cs) ∙ ap (first_from (leaves_forms names k) 0) e)

  pub inside_of : (o : Option ℕ) → o ≡ first_from (is_outside (names_of (map item_view xs)) k) 0 cs → o ≡ None → first_outside v f k (map item_view ys) ≡ None
  inside_of o m h = first_read o m ∙ h

  pub form_of : (o : Option ℕ) (error : ModuleError) → o ≡ first_from (is_outside (names_of (map item_view xs)) k) 0 cs → IsForm o error → IsForm (first_outside v f k (map item_view ys)) error
  form_of o error m h = subst (λ a. IsForm a error) (sym (first_read o m)) h

all_made : {Y Z : Type 0} (model : Y → Z) (ys : List Y) → map model ys ≡ filter_map (option_map model) (map Some ys)
all_made model [] = refl
all_made model (y ∷ ys) = ap (λ zs. model y ∷ zs) (all_made model ys)

pub models_of_read : (v f : Meaning) (is : List ItemD) (cs : List ReadContainer) (ms : List ContainerModel) → ms ≡ map reader_model cs → map Some cs ≡ map (read_of v f) is → ms ≡ item_models lexed v f private Deserialize is
models_of_read v f is cs ms m e = m ∙ all_made reader_model cs ∙ ap (filter_map (option_map reader_model)) e ∙ made_of_read (read_of v f) reader_model is

-- ---- what the models have

module _ (v f : Meaning) (k : ConversionsD) (is : List ItemD) (cs : List Container) (same : containers_view cs ≡ item_models lexed v f private Deserialize is) (h : first_outside v f k is ≡ None) where
  pub fit_models : AreFit (containers_view cs)
  fit_models = subst AreFit (sym same) (items_fit lexed v f private Deserialize k is (none_outside v f k is h))

  pub tame_models : all_told v f is ≡ [] → IsTame (containers_view cs)
  tame_models t = subst IsTame (sym same) (items_tame lexed v f private Deserialize k is (none_read v f is t) (none_outside v f k is h))

  pub fitted_models : all_told v f is ≡ [] → IsFitted (containers_view cs) k
  fitted_models t =
      subst (λ ms. IsFitted ms k) (sym same)
      (items_fitted lexed v f private Deserialize k is (none_outside v f k is h) (none_read v f is t) (subst (λ ms. list_all (λ m. are_names_texts m.body) ms ≡ true) same (containers_named cs)))

-- what was read for each derive
pub by_derive : (v f : Meaning) (is : List ItemD) (m : Module) (written read : List ReadContainer) → containers_read m Serialize ≡ written → containers_read m Deserialize ≡ read
    → map Some written ≡ map (container_of v f Serialize) is → map Some read ≡ map (container_of v f Deserialize) is → (d : Derive) → map Some (containers_read m d) ≡ map (λ i. model_of lexed v f private i d) is
by_derive v f is m written read w r s d Serialize = ap (map Some) w ∙ s
by_derive v f is m written read w r s d Deserialize = ap (map Some) r ∙ d

-- ---- why

module _ (v f : Meaning) (k : ConversionsD) (is : List ItemD) (error : ModuleError) where
  pub why_form : all_told v f is ≡ [] → IsForm (first_outside v f k is) error → IsWhy v f k is error
  why_form t h = by error h
    where
      by : (e : ModuleError) → IsForm (first_outside v f k is) e → IsWhy v f k is e
      by Memory h = tt
      by (Diagnostics ds) h = absurd h
      by (Form i) h = (t, h)

  pub why_told : IsTold (all_told v f is) error → IsWhy v f k is error
  why_told h = by error h
    where
      by : (e : ModuleError) → IsTold (all_told v f is) e → IsWhy v f k is e
      by Memory h = tt
      by (Diagnostics ds) h = h
      by (Form i) h = absurd h
