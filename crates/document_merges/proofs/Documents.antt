-- The definitions of a document, one after another.
use Rattle.std.proofs.Common.{◌≡◌, ℕ, List, [], ◌∷◌, ◌++◌, map, refl, sym, ap, ◌∙◌, append_assoc, append-nil}
use Rattle.std.specs.Prelude.{Some, Contains, option_map}
use Rattle.schema_defs.specs.Texts.{Relations}
use Rattle.schema_defs.specs.Schema.{Schema, Definition, Document}
use Rattle.schema_defs.specs.Admits.{defined, definition_location, definition_word}
use Rattle.schema_defs.specs.Laws.{NamesRise}
use Rattle.schema_defs.proofs.Stand.{first_in, rest_in}
use Rattle.convert_walks.specs.Tree.{definition_spot, definition_trees, tree_at}
use Rattle.root_references.proofs.Found.{found, stands_at}
use Rattle.document_merges.specs.Definitions.{is_under_defs, begun_at, named_spot}
use Rattle.document_merges.specs.Merges.{MergeD, merges_in}
use Rattle.document_merges.proofs.Found.{merges_of_both}

-- its body is found by its name
pub body_is : (n : List ℕ) (es : List Definition) (s t : Schema) → Some t ≡ option_map (λ (e : Definition). e.body) (defined n es) → option_map (λ (e : Definition). e.body) (defined n es) ≡ Some s → t ≡ s
body_is n es s t e h = let k : Some t ≡ Some s = e ∙ h in cc

module _ (d : Document) (most m : ℕ) where
  abbrev pub merges_of_definitions : Relations → List Definition → List MergeD
  merges_of_definitions r es = merges_in (definition_trees r d most m es)

  abbrev pub merges_of_definition : Relations → Definition → List MergeD
  merges_of_definition r e = merges_in (tree_at r d most m (definition_spot r d most m e) e.body)

  -- the definitions that are left, by their names
  pub record Left (names : List (List ℕ)) (first old : List MergeD) : Type 0 where
    pub rest : List Definition
    pub names_are : names ≡ map (λ e. e.name) rest
    pub among : (e : Definition) → Contains rest e → Contains d.definitions e
    pub told : (r : Relations) → old ++ merges_of_definitions r rest ≡ first ++ merges_of_definitions r d.definitions

  pub left_all : (names : List (List ℕ)) (first : List MergeD) → names ≡ map (λ e. e.name) d.definitions → Left names first first
  left_all names first e = record { rest = d.definitions; names_are = e; among = λ x c. c; told = λ r. refl }

  module _ (rise : NamesRise (map (λ e. e.name) d.definitions)) (n : List ℕ) (names : List (List ℕ)) (first old new : List MergeD) where
    module _ (x : Definition) (name_is : x.name ≡ n) (stands : Contains d.definitions x) where
      there : option_map (λ (e : Definition). e.body) (defined n d.definitions) ≡ Some x.body
      there = ap (λ n. option_map (λ (e : Definition). e.body) (defined n d.definitions)) (sym name_is) ∙ ap (option_map (λ (e : Definition). e.body)) (found d.definitions rise x stands)

      place_is : definition_word (is_under_defs d n) ∷ n ∷ [] ≡ definition_location x
      place_is = ap (λ n. definition_word (is_under_defs d n) ∷ n ∷ []) (sym name_is) ∙ stands_at d x (found d.definitions rise x stands)

      tree_is : (r : Relations) → merges_in (tree_at r d most m (named_spot d n) x.body) ≡ merges_of_definition r x
      tree_is r = λ i. merges_in (tree_at r d most m (begun_at (place_is i) (Some (sym name_is i))) x.body)

    abbrev Adds : Type 0
    Adds = (r : Relations) (s : Schema) → option_map (λ (e : Definition). e.body) (defined n d.definitions) ≡ Some s → new ≡ old ++ merges_in (tree_at r d most m (named_spot d n) s)

    one_on : (rest : List Definition) → n ∷ names ≡ map (λ e. e.name) rest → ((e : Definition) → Contains rest e → Contains d.definitions e)
        → ((r : Relations) → old ++ merges_of_definitions r rest ≡ first ++ merges_of_definitions r d.definitions) → Adds → Left names first new
    one_on [] e among told adds = absurd (cc)
    one_on (x ∷ xs) e among told adds =
        let name_is : x.name ≡ n = cc in
        let stands = among x (first_in x xs) in
        record {
          rest = xs;
          names_are = cc;
          among = λ y c. among y (rest_in x xs y c);
          told = λ r.
              ap (λ ms. ms ++ merges_of_definitions r xs) (adds r x.body (there x name_is stands) ∙ ap (λ ms. old ++ ms) (tree_is x name_is stands r))
              ∙ append_assoc old (merges_of_definition r x) (merges_of_definitions r xs)
              ∙ ap (λ ms. old ++ ms) (sym (merges_of_both (tree_at r d most m (definition_spot r d most m x) x.body) (definition_trees r d most m xs)))
              ∙ told r;
        }

    pub left_on : Left (n ∷ names) first old → Adds → Left names first new
    left_on l adds = one_on l.rest l.names_are l.among l.told adds

  -- ---- none is left

  none_left : (r : Relations) (first old : List MergeD) (rest : List Definition) → [] ≡ map (λ e. e.name) rest
      → old ++ merges_of_definitions r rest ≡ first ++ merges_of_definitions r d.definitions → old ≡ first ++ merges_of_definitions r d.definitions
  none_left r first old [] e t = sym (append-nil old) ∙ t
  none_left r first old (x ∷ xs) e t = absurd (cc)

  pub left_none : (names : List (List ℕ)) (first old : List MergeD) → names ≡ [] → Left names first old → (r : Relations) → old ≡ first ++ merges_of_definitions r d.definitions
  left_none names first old e l r = none_left r first old l.rest (sym e ∙ l.names_are) (l.told r)
