-- What is left of an object, and a public call's answer.
use Rattle.std.proofs.Common.{◌≡◌, ℕ, List, [], ◌++◌, true, false, refl, sym, ap, ◌∙◌, subst}
use Rattle.std.specs.Prelude.{Option, Some, None, option_map, Result, Ok, Err, IfOk, IfErr}
use Rattle.std.specs.Option.{IfSome}
use Rattle.schema_defs.specs.Schema.{Schema, Document, Properties, no_properties, schemas}
use Rattle.schema_types.specs.declared.schema.Schema as tree
use Rattle.schema_types.specs.View.{schema_view, schemas_view}
use Rattle.merge_defs.specs.Outcome as defs
use Rattle.merge_defs.specs.Outcome.{Note, Outcome, fault, never, answer, noted, and_then, mapped, turned}
use Rattle.merge_defs.specs.Less.{less_each, less_merged, merge_from, turned_outcome}
use Rattle.merge_parts.specs.View.{fault_view}
use Rattle.merge_parts.specs.Steps.{Faults, Steps, given}
use Rattle.merge_parts.specs.declared.fault.MergeFault.{MergeFault}
use Rattle.merge_steps.specs.declared.stop.Stop.{Stop}
use Rattle.merge_steps.specs.declared.stop.Stop.TheVariants.{Never, Fault}
use Rattle.merge_steps.specs.Ends.{Ends, Goes, Leads, found_of}
use Rattle.merge_steps.proofs.Leading.{noted_twice, led, leads_by, leads_on, mapped_leads}
use Rattle.merge_steps.proofs.Ending.{on, on_leads, off, maps_off}
use Rattle.merge_members.specs.declared.plan.Entry.{Entry}
use Rattle.merge_members.specs.declared.gathered.Gathered.{Gathered}
use Rattle.merge_members.specs.Plans.{entries_then, gathered_outcome, properties_in}
use Rattle.merge_less.specs.declared.taking.Listed.{Listed}
use Rattle.merge_less.specs.Taking.{less_all_outcome, less_listed_outcome, with_properties}
use Rattle.merge_sides.proofs.Going.{goes_leads}
use Rattle.merge_cycle.specs.declared.how.How.TheVariants.{Join, Less}
use Rattle.merge_cycle.specs.Finds.{Finds}
use Rattle.merge_cycle.specs.Within.{join_within, less_within, asked, folded}
use Rattle.merge_cycle.proofs.Levels.{bare_join, bare_less}
use Rattle.merge_cycle.proofs.Sames.{less_folded, merge_folded}
use Rattle.merge_cycle.proofs.Steps.{bare_fault, found_off, goes_off}

-- ---- what is left of an object, step by step

module _ (d : Document) (most n : ℕ) (object : Schema) (es : List Entry) (any none : List tree.Schema) (all : Option Listed) where
  abbrev join : Schema → Schema → Outcome Schema
  join = join_within d most n

  abbrev less : Schema → Schema → Outcome Schema
  less = less_within d most n

  abbrev names : Outcome Properties
  names = entries_then less true false es (answer [] no_properties)

  abbrev after_none : Schema → Outcome Schema
  after_none = less_all_outcome join less all

  abbrev after_any : Schema → Outcome Schema
  after_any s = and_then (merge_from join less s (schemas (schemas_view none))) after_none

  abbrev after_names : Schema → Outcome Schema
  after_names s = and_then (less_each join less (schemas (schemas_view any)) s) after_any

  abbrev pub whole : Outcome Schema
  whole = and_then (mapped (with_properties object) names) after_names

  -- what the steps are asked as
  seen_names : entries_then (asked d most n None Less) true false es (answer [] no_properties) ≡ names
  seen_names = ap (λ f. entries_then f true false es (answer [] no_properties)) (bare_less d most n)

  seen_any : (s : Schema) → less_each join less (schemas (schemas_view any)) s ≡ folded (asked d most n None Less) (schemas (schemas_view any)) s
  seen_any s = less_folded d join less (schemas (schemas_view any)) s ∙ ap (λ f. folded f (schemas (schemas_view any)) s) (sym (bare_less d most n))

  seen_none : (s : Schema) → merge_from join less s (schemas (schemas_view none)) ≡ folded (asked d most n None Join) (schemas (schemas_view none)) s
  seen_none s = merge_folded d join less (schemas (schemas_view none)) s ∙ ap (λ f. folded f (schemas (schemas_view none)) s) (sym (bare_join d most n))

  abbrev left_in : Gathered → Outcome Properties
  left_in g = gathered_outcome true g.clashes (properties_in g) (answer [] no_properties)

  pub off_names : (n0 n1 : List Note) (e : Stop) → Goes left_in n0 n1 (entries_then (asked d most n None Less) true false es (answer [] no_properties)) (Err e) → Ends schema_view n0 n1 whole (Err e)
  off_names n0 n1 e g =
      let P : Outcome Properties → Type 0 = λ o. Ends (λ (ps : Properties). ps) n0 n1 o (Err e) in
      let inner : Ends (λ (s : Schema). s) n0 n1 (mapped (with_properties object) names) (Err e) = maps_off (with_properties object) e (subst P seen_names (goes_off e g)) in
      off after_names e inner

  module _ (n0 n1 : List Note) (g : Gathered) (hg : Goes left_in n0 n1 (entries_then (asked d most n None Less) true false es (answer [] no_properties)) (Ok g)) where
    to_object : Leads n0 n1 (mapped (with_properties object) names) (mapped (with_properties object) (left_in g))
    to_object =
        let P : Outcome Properties → Type 0 = λ o. Leads n0 n1 o (left_in g) in
        mapped_leads (with_properties object) (subst P seen_names (goes_leads g hg))

    pub off_object : (n2 : List Note) (e : Stop) → Ends schema_view n1 n2 (mapped (with_properties object) (left_in g)) (Err e) → Ends schema_view n0 n2 whole (Err e)
    off_object n2 e s =
        let inner : Ends schema_view n0 n2 (mapped (with_properties object) names) (Err e) = led to_object s in
        off after_names e inner

    module _ (n2 : List Note) (x : tree.Schema) (s : Ends schema_view n1 n2 (mapped (with_properties object) (left_in g)) (Ok x)) where
      to_any : Leads n0 n2 whole (after_names (schema_view x))
      to_any =
          let inner : Ends schema_view n0 n2 (mapped (with_properties object) names) (Ok x) = led to_object s in
          on_leads after_names x inner

      pub off_any : (n3 : List Note) (e : Stop) → Ends schema_view n2 n3 (folded (asked d most n None Less) (schemas (schemas_view any)) (schema_view x)) (Err e) → Ends schema_view n0 n3 whole (Err e)
      off_any n3 e t =
          let inner : Ends schema_view n2 n3 (less_each join less (schemas (schemas_view any)) (schema_view x)) (Err e) = led (leads_by (seen_any (schema_view x))) t in
          led to_any (off after_any e inner)

      module _ (n3 : List Note) (y : tree.Schema) (t : Ends schema_view n2 n3 (folded (asked d most n None Less) (schemas (schemas_view any)) (schema_view x)) (Ok y)) where
        to_none : Leads n0 n3 whole (after_any (schema_view y))
        to_none =
            let inner : Ends schema_view n2 n3 (less_each join less (schemas (schemas_view any)) (schema_view x)) (Ok y) = led (leads_by (seen_any (schema_view x))) t in
            leads_on to_any (on_leads after_any y inner)

        pub off_none : (n4 : List Note) (e : Stop) → Ends schema_view n3 n4 (folded (asked d most n None Join) (schemas (schemas_view none)) (schema_view y)) (Err e) → Ends schema_view n0 n4 whole (Err e)
        off_none n4 e u =
            let inner : Ends schema_view n3 n4 (merge_from join less (schema_view y) (schemas (schemas_view none))) (Err e) = led (leads_by (seen_none (schema_view y))) u in
            led to_none (off after_none e inner)

        pub to_all : (n4 n5 : List Note) (z : tree.Schema) (r : Result tree.Schema Stop) → Ends schema_view n3 n4 (folded (asked d most n None Join) (schemas (schemas_view none)) (schema_view y)) (Ok z)
            → Ends schema_view n4 n5 (after_none (schema_view z)) r → Ends schema_view n0 n5 whole r
        to_all n4 n5 z r u w =
            let inner : Ends schema_view n3 n4 (merge_from join less (schema_view y) (schemas (schemas_view none))) (Ok z) = led (leads_by (seen_none (schema_view y))) u in
            led to_none (on after_none z inner w)

-- ---- the merge of allOf is taken away

module _ (join less : Schema → Schema → Outcome Schema) (s : Schema) where
  -- what is made of the merge
  abbrev pub taking : Outcome Schema → Outcome Schema
  taking o = less_merged join less s (turned_outcome o)

  taking_fault : (f : defs.Fault) → taking (fault f) ≡ fault f
  taking_fault f = refl

  -- the merge is known by its notes and what it found
  pub taken_none : (inner before after : List Note) (o : Outcome Schema) (x : tree.Schema) → schema_view x ≡ s → Steps [] inner o None → after ≡ before ++ turned inner → Ends schema_view before after (taking o) (Ok x)
  taken_none inner before after o x e h k =
      record { told = ap (λ p. noted before (taking p)) (known o h) ∙ (λ i. answer (sym k i) (sym e i)) }
    where
      known : (p : Outcome Schema) → Steps [] inner p None → p ≡ never inner
      known (fault f) q = q.told
      known (never ns) q = q.told
      known (answer ns a) q = q.told

  pub taken_some : (inner before mid after : List Note) (o : Outcome Schema) (m : tree.Schema) (r : Result tree.Schema Stop) → Steps [] inner o (Some (schema_view m)) → mid ≡ before ++ turned inner
      → Ends schema_view mid after (less s (schema_view m)) r → Ends schema_view before after (taking o) r
  taken_some inner before mid after o m r h k t =
      led (record { told = ap (λ p. noted before (taking p)) (known o h) ∙ noted_twice before (turned inner) (less s (schema_view m)) ∙ ap (λ ns. noted ns (less s (schema_view m))) (sym k) }) t
    where
      known : (p : Outcome Schema) → Steps [] inner p (Some (schema_view m)) → p ≡ answer inner (schema_view m)
      known (fault f) q = q.told
      known (never ns) q = q.told
      known (answer ns a) q = q.told

  pub taken_off : (before after old new : List Note) (o : Outcome Schema) (e : Stop) → Finds old new o (Err e) → Ends schema_view before after (taking o) (Err e)
  taken_off before after old new o e f = found_off taking taking_fault e f

-- the same of the members of allOf
module _ (d : Document) (most n : ℕ) (l : Listed) (s : Schema) where
  abbrev merge : Outcome Schema
  merge = folded (asked d most n None Join) (schemas (schemas_view l.rest.items)) (schema_view l.first)

  seen : less_listed_outcome (join_within d most n) (less_within d most n) l s ≡ taking (join_within d most n) (less_within d most n) s merge
  seen =
      ap (taking (join_within d most n) (less_within d most n) s)
      (merge_folded d (join_within d most n) (less_within d most n) (schemas (schemas_view l.rest.items)) (schema_view l.first)
      ∙ ap (λ f. folded f (schemas (schemas_view l.rest.items)) (schema_view l.first)) (sym (bare_join d most n)))

  -- what was found, by its notes alone
  alone : (old inner : List Note) (found : Option tree.Schema) (sought : Option tree.Schema) → Finds old inner merge (Ok found) → old ≡ [] → found ≡ sought → Steps [] inner merge (option_map schema_view sought)
  alone old inner found sought h e k = record { told = (λ i. noted (sym e i) merge) ∙ h.told ∙ ap (λ o. given inner (option_map schema_view o)) k }

  pub listed_none : (old inner before after : List Note) (found : Option tree.Schema) (x : tree.Schema) → Finds old inner merge (Ok found) → old ≡ [] → found ≡ None → schema_view x ≡ s → after ≡ before ++ turned inner
      → Ends schema_view before after (less_listed_outcome (join_within d most n) (less_within d most n) l s) (Ok x)
  listed_none old inner before after found x h e k same w = led (leads_by seen) (taken_none (join_within d most n) (less_within d most n) s inner before after merge x same (alone old inner found None h e k) w)

  pub listed_some : (old inner before mid after : List Note) (found : Option tree.Schema) (m : tree.Schema) (r : Result tree.Schema Stop) → Finds old inner merge (Ok found) → old ≡ [] → found ≡ Some m → mid ≡ before ++ turned inner
      → Ends schema_view mid after (less_within d most n s (schema_view m)) r → Ends schema_view before after (less_listed_outcome (join_within d most n) (less_within d most n) l s) r
  listed_some old inner before mid after found m r h e k w t = led (leads_by seen) (taken_some (join_within d most n) (less_within d most n) s inner before mid after merge m r (alone old inner found (Some m) h e k) w t)

  pub listed_off : (old inner before after : List Note) (x : Stop) → Finds old inner merge (Err x) → Ends schema_view before after (less_listed_outcome (join_within d most n) (less_within d most n) l s) (Err x)
  listed_off old inner before after x h = led (leads_by seen) (taken_off (join_within d most n) (less_within d most n) s before after old inner merge x h)

-- ---- what a call answers

module _ (before after : List Note) (o : Outcome Schema) where
  pub answers : (r : Result tree.Schema Stop) (q : Result (Option tree.Schema) MergeFault) → q ≡ found_of r → Ends schema_view before after o r → IfOk q (λ x. Steps before after o (option_map schema_view x))
  answers (Ok s) q e h = subst (λ p. IfOk p (λ x. Steps before after o (option_map schema_view x))) (sym e) (record { told = h.told })
  answers (Err Never) q e h = subst (λ p. IfOk p (λ x. Steps before after o (option_map schema_view x))) (sym e) (record { told = h.told })
  answers (Err (Fault f)) q e h = subst (λ p. IfOk p (λ x. Steps before after o (option_map schema_view x))) (sym e) tt

  pub refuses : (r : Result tree.Schema Stop) (q : Result (Option tree.Schema) MergeFault) → q ≡ found_of r → Ends schema_view before after o r → IfErr q (λ f. Faults f o)
  refuses (Ok s) q e h = subst (λ p. IfErr p (λ f. Faults f o)) (sym e) tt
  refuses (Err Never) q e h = subst (λ p. IfErr p (λ f. Faults f o)) (sym e) tt
  refuses (Err (Fault f)) q e h = subst (λ p. IfErr p (λ g. Faults g o)) (sym e) (record { told = bare (fault_view f) h.told })
    where
      bare : (m : Option defs.Fault) → IfSome (option_map fault m) (λ p. noted before o ≡ p) → IfSome m (λ g. o ≡ fault g)
      bare None k = tt
      bare (Some g) k = bare_fault before o g k
