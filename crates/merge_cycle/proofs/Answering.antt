-- What the public calls answer.
use Rattle.std.proofs.Common.{◌≡◌, ℕ, suc, ◌+◌, List, None, refl, sym, ap, ◌∙◌, arith}
use Rattle.std.specs.Prelude.{Option, Some, option_map, Result, Ok, Err, IfOk, IfErr}
use Rattle.schema_defs.specs.Schema.{Schema, Document, Same, Schemas}
use Rattle.schema_types.specs.declared.schema.Schema as tree
use Rattle.schema_types.specs.View.{schema_view}
use Rattle.merge_defs.specs.Outcome.{Note, Outcome, mapped}
use Rattle.merge_defs.specs.Less.{merge_from, merge_schemas}
use Rattle.merge_defs.specs.Members.{refused, with_same}
use Rattle.merge_defs.specs.Merge.{tidied}
use Rattle.merge_walks.specs.Carried.{Walk, opened, same_inside}
use Rattle.merge_walks.specs.Made.{settled}
use Rattle.merge_walks.specs.Walked.{join_by_walks, less_by_walks, merge_by_walks, with_by_walks, parts_within, walk_of}
use Rattle.merge_parts.specs.Steps.{Faults, Steps}
use Rattle.merge_parts.specs.declared.fault.MergeFault.{MergeFault}
use Rattle.merge_steps.specs.declared.stop.Stop.{Stop}
use Rattle.merge_steps.specs.Ends.{Ends, Goes, Leads, found_of}
use Rattle.merge_steps.proofs.Leading.{led, leads_by, leads_on, mapped_leads}
use Rattle.merge_steps.proofs.Ending.{ends_as, maps_off}
use Rattle.merge_sides.proofs.Going.{goes_leads}
use Rattle.merge_cycle.specs.declared.how.How.TheVariants.{Join, Less}
use Rattle.merge_cycle.specs.Within.{join_within, less_within, asked, folded}
use Rattle.merge_cycle.proofs.Levels.{ends_by, bare_join}
use Rattle.merge_cycle.proofs.Sames.{merge_folded}
use Rattle.merge_cycle.proofs.Steps.{ends_leads, goes_off}
use Rattle.merge_cycle.proofs.Taken.{answers, refuses}

module _ (d : Document) (most : ℕ) where
  pub join_at : (n left : ℕ) (a b : Schema) → left ≡ n + 1 → join_by_walks d most n a b ≡ join_within d most left a b
  unfolding join_within
  join_at n left a b e = let h : left ≡ suc n = omega (arith, e) in sym (ap (λ k. (parts_within d most k).join a b) h)

  pub less_at : (n left : ℕ) (a b : Schema) → left ≡ n + 1 → less_by_walks d most n a b ≡ less_within d most left a b
  unfolding less_within
  less_at n left a b e = let h : left ≡ suc n = omega (arith, e) in sym (ap (λ k. (parts_within d most k).less a b) h)

  join_of : (n left : ℕ) → left ≡ n + 1 → join_by_walks d most n ≡ join_within d most left
  join_of n left e = (λ i a b. join_at n left a b e i)

  less_of : (n left : ℕ) → left ≡ n + 1 → less_by_walks d most n ≡ less_within d most left
  less_of n left e = (λ i a b. less_at n left a b e i)

  -- of a list that is divided
  pub list_at : (n left : ℕ) (ss rest : Schemas) (first : Schema) → left ≡ n + 1
      → ((join less : Schema → Schema → Outcome Schema) → merge_from join less first rest ≡ merge_schemas join less ss)
      → merge_by_walks d most n ss ≡ folded (asked d most left None Join) rest first
  list_at n left ss rest first e h =
      sym (h (join_by_walks d most n) (less_by_walks d most n))
      ∙ merge_folded d (join_by_walks d most n) (less_by_walks d most n) rest first
      ∙ ap (λ f. folded f rest first) (join_of n left e ∙ sym (bare_join d most left))

  module _ (n left : ℕ) (e : left ≡ n + 1) (before after : List Note) (r : Result tree.Schema Stop) (q : Result (Option tree.Schema) MergeFault) (h : q ≡ found_of r) where
    pub joined : (a b : Schema) → Ends schema_view before after (join_within d most left a b) r → IfOk q (λ x. Steps before after (join_by_walks d most n a b) (option_map schema_view x))
    joined a b s = answers before after (join_by_walks d most n a b) r q h (ends_by (join_at n left a b e) s)

    pub join_fails : (a b : Schema) → Ends schema_view before after (join_within d most left a b) r → IfErr q (λ f. Faults f (join_by_walks d most n a b))
    join_fails a b s = refuses before after (join_by_walks d most n a b) r q h (ends_by (join_at n left a b e) s)

    pub lessened : (a b : Schema) → Ends schema_view before after (less_within d most left a b) r → IfOk q (λ x. Steps before after (less_by_walks d most n a b) (option_map schema_view x))
    lessened a b s = answers before after (less_by_walks d most n a b) r q h (ends_by (less_at n left a b e) s)

    pub less_fails : (a b : Schema) → Ends schema_view before after (less_within d most left a b) r → IfErr q (λ f. Faults f (less_by_walks d most n a b))
    less_fails a b s = refuses before after (less_by_walks d most n a b) r q h (ends_by (less_at n left a b e) s)

    pub merged : (ss rest : Schemas) (first : Schema) → ((join less : Schema → Schema → Outcome Schema) → merge_from join less first rest ≡ merge_schemas join less ss)
        → Ends schema_view before after (folded (asked d most left None Join) rest first) r → IfOk q (λ x. Steps before after (merge_by_walks d most n ss) (option_map schema_view x))
    merged ss rest first k s = answers before after (merge_by_walks d most n ss) r q h (ends_by (list_at n left ss rest first e k) s)

    pub merge_fails : (ss rest : Schemas) (first : Schema) → ((join less : Schema → Schema → Outcome Schema) → merge_from join less first rest ≡ merge_schemas join less ss)
        → Ends schema_view before after (folded (asked d most left None Join) rest first) r → IfErr q (λ f. Faults f (merge_by_walks d most n ss))
    merge_fails ss rest first k s = refuses before after (merge_by_walks d most n ss) r q h (ends_by (list_at n left ss rest first e k) s)

-- ---- a body with subschemas

module _ (d : Document) (most n : ℕ) (b : Schema) (ss : Same) where
  abbrev by : Walk → Schema → Same → Outcome Schema
  by w body same = mapped (settled w) (refused same (mapped tidied (with_same d (asked d most n (Some w) Join) (asked d most n (Some w) Less) same body)))

  with_at : with_by_walks d most n b ss ≡ by (walk_of b) (opened b) (same_inside (walk_of b) ss)
  unfolding asked join_within less_within
  with_at = refl

  module _ (side : Schema) (hb : side ≡ b) (w : Walk) (hw : w ≡ walk_of side) (body : Schema) (ho : body ≡ opened side) (same : Same) (hs : same ≡ same_inside w ss) where
    abbrev joined_with : Outcome Schema
    joined_with = with_same d (asked d most n (Some w) Join) (asked d most n (Some w) Less) same body

    begins : with_by_walks d most n b ss ≡ by w body same
    begins =
        let ew : walk_of b ≡ w = ap walk_of (sym hb) ∙ sym hw in
        let eo : opened b ≡ body = ap opened (sym hb) ∙ sym ho in
        let es : same_inside (walk_of b) ss ≡ same = ap (λ v. same_inside v ss) ew ∙ sym hs in
        with_at ∙ (λ i. by (ew i) (eo i) (es i))

    -- what is unsupported
    pub off_refused : {U : Type 0} (ns : List Note) (e : Stop) → Goes (λ (u : U). mapped tidied joined_with) ns ns (refused same (mapped tidied joined_with)) (Err e) → Ends schema_view ns ns (with_by_walks d most n b ss) (Err e)
    off_refused ns e g =
        let inner : Ends (λ (s : Schema). s) ns ns (refused same (mapped tidied joined_with)) (Err e) = goes_off e g in
        led (leads_by begins) (maps_off (settled w) e inner)

    module _ {U : Type 0} (u : U) (n0 n1 : List Note) (hg : Goes (λ (u : U). mapped tidied joined_with) n0 n0 (refused same (mapped tidied joined_with)) (Ok u)) where
      to_merge : Leads n0 n0 (with_by_walks d most n b ss) (mapped (settled w) (mapped tidied joined_with))
      to_merge = leads_on (leads_by begins) (mapped_leads (settled w) (goes_leads u hg))

      pub off_merge : (e : Stop) → Ends schema_view n0 n1 joined_with (Err e) → Ends schema_view n0 n1 (with_by_walks d most n b ss) (Err e)
      off_merge e s =
          let inner : Ends schema_view n0 n1 (mapped tidied joined_with) (Err e) = maps_off tidied e s in
          led to_merge (maps_off (settled w) e inner)

      pub to_end : (x z : tree.Schema) → Ends schema_view n0 n1 joined_with (Ok x) → schema_view z ≡ settled w (tidied (schema_view x)) → Ends schema_view n0 n1 (with_by_walks d most n b ss) (Ok z)
      to_end x z s e = led (leads_on to_merge (mapped_leads (settled w) (mapped_leads tidied (ends_leads x s)))) (ends_as z e)
