-- A definition is found by its name, as names differ; and where it stands.
use Rattle.std.proofs.Common.{◌≡◌, ℕ, List, [], ◌∷◌, ◌++◌, map, Bool, true, false, ◌||◌, refl, sym, ap, ◌∙◌, subst, ◌⊎◌, inl, inr, true≢false, bytes_eq}
use Rattle.std.specs.Prelude.{Option, Some, None, Contains, is_some, option_map, codes, if◌then◌else◌}
use Rattle.std.specs.List.{list_any}
use Rattle.std.specs.declared.cmp.Ordering.TheVariants.{Less}
use Rattle.std.specs.Ordering.{nat_cmp, is_eq}
use Rattle.std.specs.Cmp.Lexicographic.{slice_cmp}
use Rattle.std.proofs.lemmas.Cmp.{nat_list_cmp_total}
use Rattle.std.proofs.lemmas.Map.Text.{is_eq-slice_cmp}
use Rattle.std.proofs.lemmas.Slice.Eq.{bytes_eq-Decides}
use Rattle.json_value.specs.Value.{same_bool}
use Rattle.schema_defs.specs.Location.{Location}
use Rattle.schema_defs.specs.Schema.{Definition, Document, Schema}
use Rattle.schema_defs.specs.Admits.{defined, definition_word, definition_location}
use Rattle.schema_defs.specs.Children.{schema_at}
use Rattle.schema_defs.specs.Laws.{NamesRise, IsBelowNext}
use Rattle.schema_defs.proofs.Stand.{none_in, first_or_rest, first_in, rest_in}
use Rattle.schema_defs.proofs.Guarded.{defined_named}
use Rattle.convert_defs.specs.RootReference.{has_root}
use Rattle.root_references.specs.Named.{body_has_root, named_has_root}

below_all : (n : List ℕ) (ds : List Definition) → IsBelowNext n (map (λ e. e.name) ds) → NamesRise (map (λ e. e.name) ds) → (x : Definition) → Contains ds x → slice_cmp nat_cmp n x.name ≡ Less
below_all n [] b h x c = absurd (none_in x c)
below_all n (d ∷ ds) b h x c = elim (first_or_rest d ds x c) [
  | inl e ↦ subst (λ (y : Definition). slice_cmp nat_cmp n y.name ≡ Less) e b
  | inr g ↦ nat_list_cmp_total.trans n d.name x.name b (below_all d.name ds h.0 h.1 x g)
]

below_differs : (n m : List ℕ) → slice_cmp nat_cmp n m ≡ Less → n ≡ m → ⊥
below_differs n m l e = true≢false (sym ((bytes_eq-Decides n m).1 e) ∙ sym (is_eq-slice_cmp n m) ∙ ap is_eq l)

pub found : (ds : List Definition) → NamesRise (map (λ e. e.name) ds) → (e : Definition) → Contains ds e → defined e.name ds ≡ Some e
found [] h e c = absurd (none_in e c)
found (d ∷ ds) h e c = by_test (bytes_eq e.name d.name) refl (first_or_rest d ds e c) (found ds h.1 e)
  where
    by_test : (b : Bool) → bytes_eq e.name d.name ≡ b → (d ≡ e) ⊎ Contains ds e → (Contains ds e → defined e.name ds ≡ Some e) → (if b then Some d else defined e.name ds) ≡ Some e
    by_test true p (inl g) r = ap Some g
    by_test true p (inr g) r = absurd (below_differs d.name e.name (below_all d.name ds h.0 h.1 e g) (sym ((bytes_eq-Decides e.name d.name).0 p)))
    by_test false p (inl g) r = absurd (true≢false (sym ((bytes_eq-Decides e.name d.name).1 (ap (λ x. x.name) (sym g))) ∙ p))
    by_test false p (inr g) r = r g

-- of those of a list that are found in all, whether one has such a reference
has_root_of : (all ds : List Definition) → ((e : Definition) → Contains ds e → defined e.name all ≡ Some e)
    → list_any (λ e. has_root e.body) ds ≡ list_any (named_has_root all) (map (λ e. e.name) ds)
has_root_of all [] h = refl
has_root_of all (d ∷ ds) h =
    (λ i. body_has_root (sym (h d (first_in d ds)) i) || list_any (λ e. has_root e.body) ds)
    ∙ ap (λ b. named_has_root all d.name || b) (has_root_of all ds (λ e c. h e (rest_in d ds e c)))

pub any_by_name : (d : Document) → NamesRise (map (λ e. e.name) d.definitions) → list_any (λ e. has_root e.body) d.definitions ≡ list_any (named_has_root d.definitions) (map (λ e. e.name) d.definitions)
any_by_name d h = has_root_of d.definitions d.definitions (found d.definitions h)

-- ---- where a definition stands

abbrev pub stands_under_defs : Document → List ℕ → Bool
stands_under_defs d n = is_some (schema_at d (codes "$defs" ∷ n ∷ []))

under_found : (d : Document) (n : List ℕ) (e : Definition) → defined n d.definitions ≡ Some e → stands_under_defs d n ≡ e.under_defs
under_found d n e f = by_word e.under_defs refl
  where
    by_word : (b : Bool) → e.under_defs ≡ b → stands_under_defs d n ≡ b
    by_word true k = let same : same_bool e.under_defs true ≡ true = ap (λ b. same_bool b true) k in rw (f, same) refl
    by_word false k = let other : same_bool e.under_defs true ≡ false = ap (λ b. same_bool b true) k in rw (f, other) refl

pub stands_at : (d : Document) (e : Definition) → defined e.name d.definitions ≡ Some e → definition_word (stands_under_defs d e.name) ∷ e.name ∷ [] ≡ definition_location e
stands_at d e f = ap (λ b. definition_word b ∷ e.name ∷ []) (under_found d e.name e f)
