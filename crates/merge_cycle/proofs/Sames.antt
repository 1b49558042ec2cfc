-- Subschemas: lists one after another, and the members of anyOf and oneOf.
use Rattle.std.proofs.Common.{◌≡◌, ℕ, zero, suc, ◌+◌, ◌<◌, List, [], ◌∷◌, ◌++◌, true, take, drop, length, get_or, append-nil, refl, sym, ap, ◌∙◌, arith}
use Rattle.std.specs.Prelude.{Result, Ok, Err}
use Rattle.std.proofs.lemmas.List.{drop_more, length-map}
use Rattle.schema_defs.specs.Schema.{Schema, boolean, Document, Same, no_same, same_value, MaybeSchema, no_schema, the_schema, MaybeSchemas, no_list, the_list, Schemas, no_more, schema, schemas}
use Rattle.schema_types.specs.declared.schema.Schema as tree
use Rattle.schema_types.specs.View.{schema_view, schemas_view}
use Rattle.merge_defs.specs.Outcome.{Note, Outcome, fault, never, answer, and_then, mapped}
use Rattle.merge_defs.specs.Members as defs
use Rattle.merge_defs.specs.Members.{fates, fate, none_kept, with_each, with_all, without, with_any, with_one, with_same, with_fate}
use Rattle.merge_defs.specs.Less.{less_each, merge_from}
use Rattle.merge_walked.proofs.Lists.{relisted}
use Rattle.merge_steps.specs.declared.stop.Stop.{Stop}
use Rattle.merge_steps.specs.Ends.{Ends, Leads}
use Rattle.merge_steps.proofs.Leading.{led, leads_by, leads_on}
use Rattle.merge_steps.proofs.Ending.{on, on_leads, off}
use Rattle.merge_branches.specs.declared.branch.Branch.{Branch}
use Rattle.merge_branches.specs.declared.branch.Branch.TheVariants.{Any, One}
use Rattle.merge_branches.specs.declared.kept.Kept.{Kept}
use Rattle.merge_branches.specs.Kept.{after_kept, branches_outcome, fates_from, finish_of, kept_view}
use Rattle.merge_branches.specs.Parts.{all_listed, any_listed, listed_or_none, none_listed, one_listed, some_listed}
use Rattle.merge_branches.proofs.Listed.{list_of}
use Rattle.merge_cycle.specs.Finds.{Finds}
use Rattle.merge_cycle.specs.Within.{folded}
use Rattle.merge_cycle.proofs.Steps.{found_off}

-- ---- one after another

then_same : {A B : Type 0} (o : Outcome A) (k h : A → Outcome B) → ((a : A) → k a ≡ h a) → and_then o k ≡ and_then o h
then_same o k h e = (λ i. and_then o (λ a. e a i))

module _ (d : Document) (join less : Schema → Schema → Outcome Schema) where
  pub each_folded : (ss : Schemas) (b : Schema) → with_each d join less ss b ≡ folded join ss b
  each_folded no_more b = refl
  each_folded (schema s ss) b = then_same (join b s) (with_each d join less ss) (folded join ss) (each_folded ss)

  pub less_folded : (ss : Schemas) (b : Schema) → less_each join less ss b ≡ folded less ss b
  less_folded no_more b = refl
  less_folded (schema s ss) b = then_same (less b s) (less_each join less ss) (folded less ss) (less_folded ss)

  pub merge_folded : (ss : Schemas) (b : Schema) → merge_from join less b ss ≡ folded join ss b
  merge_folded no_more b = refl
  merge_folded (schema s ss) b = then_same (join b s) (λ m. merge_from join less m ss) (folded join ss) (merge_folded ss)

after_nothing : {A : Type 0} (o : Outcome A) → and_then o (λ a. answer [] a) ≡ o
after_nothing (fault f) = refl
after_nothing (never ns) = refl
after_nothing (answer ns a) = ap (λ ms. answer ms a) (append-nil ns)

-- ---- the subschemas of a side

module _ (d : Document) (join less : Schema → Schema → Outcome Schema) where
  all_folded : (ss : MaybeSchemas) (b : Schema) → with_all d join less ss b ≡ folded join (schemas (listed_or_none ss)) b
  all_folded no_list b = refl
  all_folded (the_list ss) b = each_folded d join less ss b ∙ ap (λ ts. folded join ts b) (relisted ss)

  none_folded : (s : MaybeSchema) (b : Schema) → without d join less s b ≡ folded less (schemas (some_listed s)) b
  none_folded no_schema b = refl
  none_folded (the_schema s) b = sym (after_nothing (less b s))

  any_branch : (ss : MaybeSchemas) (b : Schema) → with_any d join less ss b ≡ branches_outcome d join Any ss b
  any_branch no_list b = refl
  any_branch (the_list ss) b = refl

  one_branch : (ss : MaybeSchemas) (b : Schema) → with_one d join less ss b ≡ branches_outcome d join One ss b
  one_branch no_list b = refl
  one_branch (the_list ss) b = refl

  -- as lists that are merged one after another
  abbrev pub listed_then : List Schema → List Schema → MaybeSchemas → MaybeSchemas → Schema → Outcome Schema
  listed_then all none any one b =
      and_then (folded join (schemas all) b) (λ b1. and_then (folded less (schemas none) b1) (λ b2. and_then (branches_outcome d join Any any b2) (branches_outcome d join One one)))

  with_lists : (ss : Same) (b : Schema) → with_same d join less ss b ≡ listed_then (all_listed ss) (none_listed ss) (any_listed ss) (one_listed ss) b
  with_lists no_same b = refl
  with_lists (same_value all any one none c) b =
      (λ i. and_then (all_folded all b i) (λ b1. and_then (none_folded none b1 i) (λ b2. and_then (any_branch any b2 i) (λ b3. one_branch one b3 i))))

  module _ (ss : Same) (all none : List tree.Schema) (any one : MaybeSchemas) (ha : schemas_view all ≡ all_listed ss) (hn : schemas_view none ≡ none_listed ss) (hy : any ≡ any_listed ss) (ho : one ≡ one_listed ss) (b : Schema) where
    abbrev after_any : Schema → Outcome Schema
    after_any = branches_outcome d join One one

    abbrev after_none : Schema → Outcome Schema
    after_none b2 = and_then (branches_outcome d join Any any b2) after_any

    abbrev after_all : Schema → Outcome Schema
    after_all b1 = and_then (folded less (schemas (schemas_view none)) b1) after_none

    begins : with_same d join less ss b ≡ listed_then (schemas_view all) (schemas_view none) any one b
    begins = with_lists ss b ∙ (λ i. listed_then (sym ha i) (sym hn i) (sym hy i) (sym ho i) b)

    pub off_all : (n0 n1 : List Note) (e : Stop) → Ends schema_view n0 n1 (folded join (schemas (schemas_view all)) b) (Err e) → Ends schema_view n0 n1 (with_same d join less ss b) (Err e)
    off_all n0 n1 e s = led (leads_by begins) (off after_all e s)

    module _ (n0 n1 : List Note) (x : tree.Schema) (s : Ends schema_view n0 n1 (folded join (schemas (schemas_view all)) b) (Ok x)) where
      to_none : Leads n0 n1 (with_same d join less ss b) (after_all (schema_view x))
      to_none = leads_on (leads_by begins) (on_leads after_all x s)

      pub off_none : (n2 : List Note) (e : Stop) → Ends schema_view n1 n2 (folded less (schemas (schemas_view none)) (schema_view x)) (Err e) → Ends schema_view n0 n2 (with_same d join less ss b) (Err e)
      off_none n2 e t = led to_none (off after_none e t)

      module _ (n2 : List Note) (y : tree.Schema) (t : Ends schema_view n1 n2 (folded less (schemas (schemas_view none)) (schema_view x)) (Ok y)) where
        to_any : Leads n0 n2 (with_same d join less ss b) (after_none (schema_view y))
        to_any = leads_on to_none (on_leads after_none y t)

        pub off_any : (n3 : List Note) (e : Stop) → Ends schema_view n2 n3 (branches_outcome d join Any any (schema_view y)) (Err e) → Ends schema_view n0 n3 (with_same d join less ss b) (Err e)
        off_any n3 e u = led to_any (off after_any e u)

        pub to_one : (n3 n4 : List Note) (z : tree.Schema) (r : Result tree.Schema Stop) → Ends schema_view n2 n3 (branches_outcome d join Any any (schema_view y)) (Ok z) → Ends schema_view n3 n4 (branches_outcome d join One one (schema_view z)) r
            → Ends schema_view n0 n4 (with_same d join less ss b) r
        to_one n3 n4 z r u w = led to_any (on after_any z u w)

-- ---- the members of anyOf and oneOf

module _ (d : Document) (join : Schema → Schema → Outcome Schema) (branch : Branch) (ms : List tree.Schema) (b : Schema) where
  members_seen : branches_outcome d join branch (the_list (schemas (schemas_view ms))) b ≡ and_then (fates join b [] (schemas_view ms)) (finish_of d branch (schemas_view ms))
  members_seen = ap (λ l. and_then (fates join b [] l) (finish_of d branch l)) (list_of (schemas_view ms))

  pub members_on : {r : Result tree.Schema Stop} (n0 n1 n2 : List Note) (k : Kept) → Ends kept_view n0 n1 (fates join b [] (schemas_view ms)) (Ok k) → Ends schema_view n1 n2 (finish_of d branch (schemas_view ms) (kept_view k)) r
      → Ends schema_view n0 n2 (branches_outcome d join branch (the_list (schemas (schemas_view ms))) b) r
  members_on n0 n1 n2 k s t = led (leads_by members_seen) (on (finish_of d branch (schemas_view ms)) k s t)

  pub members_off : (n0 n1 : List Note) (e : Stop) → Ends kept_view n0 n1 (fates join b [] (schemas_view ms)) (Err e) → Ends schema_view n0 n1 (branches_outcome d join branch (the_list (schemas (schemas_view ms))) b) (Err e)
  members_off n0 n1 e s = led (leads_by members_seen) (off (finish_of d branch (schemas_view ms)) e s)

element_at : (xs : List tree.Schema) (n : ℕ) (m : tree.Schema) → n < length xs → m ≡ get_or xs n m → schema_view m ≡ get_or (schemas_view xs) n (boolean true)
element_at [] n m h e = absurd (omega (arith, h))
element_at (x ∷ xs) zero m h e = ap schema_view e
element_at (x ∷ xs) (suc n) m h e = let k : n < length xs = omega (arith, h) in element_at xs n m k e

module _ (join : Schema → Schema → Outcome Schema) (b : Schema) (ms : List tree.Schema) where
  -- a fault of the merge of a member
  pub fates_off : (n0 n1 told0 told1 : List Note) (n : ℕ) (k : defs.Kept) (m first second : tree.Schema) (x : Stop) → n < length ms → m ≡ get_or ms n m → schema_view first ≡ b → schema_view second ≡ schema_view m
      → Finds told0 told1 (join (schema_view first) (schema_view second)) (Err x) → Ends kept_view n0 n1 (fates_from join b (schemas_view ms) n k) (Err x)
  fates_off n0 n1 told0 told1 n k m first second x h e hf hs f =
      let ss = schemas_view ms in
      let s = get_or ss n (boolean true) in
      let inside : n < length ss = omega (arith, h, length-map ms schema_view) in
      let F : Outcome Schema → Outcome defs.Kept = λ o. mapped (after_kept k) (and_then (fate b s (take n ss ++ drop (n + 1) ss) o) (λ g. mapped (with_fate g) (fates join b (take n ss ++ s ∷ []) (drop (n + 1) ss)))) in
      let same : fates_from join b ss n k ≡ F (join (schema_view first) (schema_view second)) =
      ap (λ ys. mapped (after_kept k) (fates join b (take n ss) ys)) (drop_more ss n (boolean true) inside)
      ∙ (λ i. F (join (sym hf i) (sym (hs ∙ element_at ms n m h e) i))) in
      led (leads_by same) (found_off F (λ g. refl) x f)
