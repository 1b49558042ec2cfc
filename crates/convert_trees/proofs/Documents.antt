-- The definitions of a document, one after another.
use Rattle.std.proofs.Common.{◌≡◌, ℕ, List, [], ◌∷◌, ◌++◌, map, sym, ap, subst, ◌∙◌, append_assoc, append-nil}
use Rattle.std.specs.Prelude.{Some, Contains, option_map}
use Rattle.schema_defs.specs.Texts.{Relations}
use Rattle.schema_defs.specs.Schema.{Schema, Definition, Document}
use Rattle.schema_defs.specs.Admits.{defined, definition_location, definition_word}
use Rattle.schema_defs.specs.Laws.{NamesRise}
use Rattle.schema_defs.proofs.Stand.{first_in, rest_in}
use Rattle.entry_defs.specs.Entry.{definition}
use Rattle.entry_defs.specs.Table.{TargetEntry, ItemEntry}
use Rattle.convert_defs.specs.Convert.{as_item}
use Rattle.convert_walks.specs.Tree.{Node, definition_spot, definition_target, definition_trees, entry_at, tree_at}
use Rattle.schema_tree.specs.Fault.{FaultD}
use Rattle.root_references.proofs.Found.{found, stands_at}
use Rattle.document_merges.specs.Definitions.{is_under_defs, begun_at, named_spot}
use Rattle.document_merges.specs.Merges.{merges_in}
use Rattle.convert_trees.specs.Keeping.{KeptD}
use Rattle.convert_trees.specs.Told.{IsTold, Refuses, Begins}
use Rattle.convert_trees.proofs.Telling.{Passed, passed_none, passed_on, passed_all, passed_refuses, passed_begins}

module _ (r : Relations) (d : Document) (most m : ℕ) where
  abbrev pub targets_from : List Definition → List TargetEntry
  targets_from es = map (definition_target r d most m) es

  abbrev pub all_trees : List Node
  all_trees = definition_trees r d most m d.definitions

  abbrev pub tree_of : Definition → List Node
  tree_of e = tree_at r d most m (definition_spot r d most m e) e.body

  -- the definitions that are left, by their names
  pub record Left (names : List (List ℕ)) (targets : List TargetEntry) (old new : KeptD) : Type 0 where
    pub rest : List Definition
    pub names_are : names ≡ map (λ e. e.name) rest
    pub among : (e : Definition) → Contains rest e → Contains d.definitions e
    pub targets_are : targets ++ targets_from rest ≡ targets_from d.definitions
    pub told : Passed r d most m all_trees (definition_trees r d most m rest) old new

  pub left_all : (k : KeptD) (names : List (List ℕ)) (targets : List TargetEntry) → names ≡ map (λ e. e.name) d.definitions → targets ≡ [] → Left names targets k k
  left_all k names targets e g = record {
    rest = d.definitions;
    names_are = e;
    among = λ x c. c;
    targets_are = ap (λ ts. ts ++ targets_from d.definitions) g;
    told = passed_none r d most m all_trees k;
  }

  -- the first of those that are left
  pub record First (n : List ℕ) (names : List (List ℕ)) (targets : List TargetEntry) (old new : KeptD) : Type 0 where
    pub here : Definition
    pub name_is : here.name ≡ n
    pub stands : Contains d.definitions here
    pub behind : List Definition
    pub names_are : names ≡ map (λ e. e.name) behind
    pub among : (e : Definition) → Contains behind e → Contains d.definitions e
    pub targets_are : targets ++ targets_from (here ∷ behind) ≡ targets_from d.definitions
    pub told : Passed r d most m all_trees (tree_of here ++ definition_trees r d most m behind) old new

  first_of : (rest : List Definition) (n : List ℕ) (names : List (List ℕ)) (targets : List TargetEntry) (old new : KeptD)
      → n ∷ names ≡ map (λ e. e.name) rest → ((e : Definition) → Contains rest e → Contains d.definitions e) → targets ++ targets_from rest ≡ targets_from d.definitions
      → Passed r d most m all_trees (definition_trees r d most m rest) old new → First n names targets old new
  first_of [] n names targets old new e a t p = absurd (cc)
  first_of (x ∷ xs) n names targets old new e a t p = record {
    here = x;
    name_is = cc;
    stands = a x (first_in x xs);
    behind = xs;
    names_are = cc;
    among = λ y c. a y (rest_in x xs y c);
    targets_are = t;
    told = p;
  }

  pub first_left : (n : List ℕ) (names : List (List ℕ)) (targets : List TargetEntry) (old new : KeptD) → Left (n ∷ names) targets old new → First n names targets old new
  first_left n names targets old new l = first_of l.rest n names targets old new l.names_are l.among l.targets_are l.told

  -- what is told of it, by its name
  module _ (rise : NamesRise (map (λ e. e.name) d.definitions)) (n : List ℕ) (names : List (List ℕ)) (targets : List TargetEntry) (old new : KeptD) (f : First n names targets old new) where
    pub body_of : (s : Schema) → Some s ≡ option_map (λ (e : Definition). e.body) (defined n d.definitions) → s ≡ f.here.body
    body_of s e =
        let k : Some s ≡ Some f.here.body = e ∙ ap (λ n. option_map (λ (e : Definition). e.body) (defined n d.definitions)) (sym f.name_is) ∙ ap (option_map (λ (e : Definition). e.body)) (found d.definitions rise f.here f.stands) in
        cc

    place_is : definition_word (is_under_defs d n) ∷ n ∷ [] ≡ definition_location f.here
    place_is = ap (λ n. definition_word (is_under_defs d n) ∷ n ∷ []) (sym f.name_is) ∙ stands_at d f.here (found d.definitions rise f.here f.stands)

    spot_is : named_spot d n ≡ definition_spot r d most m f.here
    spot_is = λ i. begun_at (place_is i) (Some (sym f.name_is i))

    tree_is : (s : Schema) → s ≡ f.here.body → tree_at r d most m (named_spot d n) s ≡ tree_of f.here
    tree_is s e = λ i. tree_at r d most m (spot_is i) (e i)

    pub goes_on : (s : Schema) (item : ItemEntry) (later : KeptD) (targets' : List TargetEntry) → s ≡ f.here.body → item ≡ as_item n (entry_at r d most m (named_spot d n) s)
        → targets' ≡ targets ++ record { target = definition n; led_to = item } ∷ []
        → IsTold r d most m (tree_at r d most m (named_spot d n) s) new later → Left names targets' old later
    goes_on s item later targets' e i g t =
        let led : item ≡ as_item f.here.name (entry_at r d most m (definition_spot r d most m f.here) f.here.body) = i ∙ (λ j. as_item (sym f.name_is j) (entry_at r d most m (spot_is j) (e j))) in
        let here_is : record { target = definition n; led_to = item } ≡ definition_target r d most m f.here = λ j. record { target = definition (sym f.name_is j); led_to = led j } in
        record {
          rest = f.behind;
          names_are = f.names_are;
          among = f.among;
          targets_are = ap (λ ts. ts ++ targets_from f.behind) g ∙ append_assoc targets _ (targets_from f.behind) ∙ ap (λ x. targets ++ x ∷ targets_from f.behind) here_is ∙ f.targets_are;
          told = passed_on r d most m all_trees (tree_of f.here) (definition_trees r d most m f.behind) old new later f.told
              (subst (λ (ts : List Node). IsTold r d most m ts new later) (tree_is s e) t);
        }

    pub stops : (s : Schema) (fault : FaultD) (a b : ℕ) → s ≡ f.here.body → Refuses r d most m a b (tree_at r d most m (named_spot d n) s) fault → Refuses r d most m a b all_trees fault
    stops s fault a b e k =
        passed_refuses r d most m fault a b all_trees (tree_of f.here) (definition_trees r d most m f.behind) old new f.told
        (subst (λ (ts : List Node). Refuses r d most m a b ts fault) (tree_is s e) k)

    pub begins_here : (s : Schema) → s ≡ f.here.body → Begins old.merges (merges_in all_trees) → Begins new.merges (merges_in (tree_at r d most m (named_spot d n) s))
    begins_here s e b =
        subst (λ (ts : List Node). Begins new.merges (merges_in ts)) (sym (tree_is s e))
        (passed_begins r d most m all_trees (tree_of f.here) (definition_trees r d most m f.behind) old new f.told b)

  -- ---- none is left

  pub all_done : (names : List (List ℕ)) (targets : List TargetEntry) (old new : KeptD) → names ≡ [] → Left names targets old new → targets ≡ targets_from d.definitions
  all_done names targets old new e l = none_left l.rest (sym e ∙ l.names_are) l.targets_are
    where
      none_left : (rest : List Definition) → [] ≡ map (λ e. e.name) rest → targets ++ targets_from rest ≡ targets_from d.definitions → targets ≡ targets_from d.definitions
      none_left [] e t = sym (append-nil targets) ∙ t
      none_left (x ∷ xs) e t = absurd (cc)

  pub all_told : (names : List (List ℕ)) (targets : List TargetEntry) (old new : KeptD) → names ≡ [] → Left names targets old new → IsTold r d most m all_trees old new
  all_told names targets old new e l = none_left l.rest (sym e ∙ l.names_are) l.told
    where
      none_left : (rest : List Definition) → [] ≡ map (λ e. e.name) rest → Passed r d most m all_trees (definition_trees r d most m rest) old new → IsTold r d most m all_trees old new
      none_left [] e p = passed_all r d most m all_trees old new p
      none_left (x ∷ xs) e p = absurd (cc)
