-- One of several is merged with an object without what stands aside of it.
use Rattle.std.proofs.Common.{◌≡◌, ℕ, zero, suc, List, ◌∷◌, true, false, true≢false, refl, sym, ap, ◌∙◌}
use Rattle.std.specs.Prelude.{not, Option, Some, None, Result, Ok, Err, IsErrAnd}
use Rattle.json_value.specs.Value.{null}
use Rattle.schema_defs.specs.Schema.{Schema, schemas, Document}
use Rattle.schema_defs.specs.Admits.{counts_as_absent}
use Rattle.enum_defs.proofs.Tests.{and_left, and_right, not_true}
use Rattle.schema_types.specs.declared.schema.Schema as tree
use Rattle.schema_types.specs.View.{schema_view, schemas_view}
use Rattle.merge_defs.specs.Outcome.{Note, Outcome, mapped}
use Rattle.merge_walks.specs.Carried.{Walk}
use Rattle.merge_walks.specs.Walked.{parts_within}
use Rattle.merge_steps.specs.declared.stop.Stop.{Stop}
use Rattle.merge_steps.specs.Ends.{Ends, Leads}
use Rattle.merge_steps.proofs.Leading.{leads_by, leads_on}
use Rattle.merge_steps.proofs.Ending.{maps, maps_off, on_leads}
use Rattle.merge_apart.specs.declared.aside.Parted.{Parted}
use Rattle.merge_apart.specs.Aside.{Aside, with_aside, are_settled, is_each_once, merges_apart}
use Rattle.merge_apart.specs.View.{aside_view, parted_view, IsSettled}
use Rattle.merge_apart.proofs.Law.{merged_apart, made_apart}
use Rattle.merge_cycle.specs.declared.how.How.{How}
use Rattle.merge_cycle.specs.declared.how.How.TheVariants.{Join, Less}
use Rattle.merge_cycle.specs.Within.{asked, folded, join_within, merges_beside}
use Rattle.merge_cycle.proofs.Levels.{ends_by}
use Rattle.merge_cycle.proofs.Steps.{handed}

module _ (d : Document) (most : ℕ) (a : Aside) (s t : Schema) (settled : are_settled a.properties ≡ true) (once : is_each_once a.properties ≡ true) where
  joined_apart : (n : ℕ) (o : Option Walk) → counts_as_absent d.setting null ≡ false → merges_apart a s t ≡ true → asked d most n o Join (with_aside a s) t ≡ mapped (with_aside a) (asked d most n o Join s t)
  unfolding asked join_within
  joined_apart zero None strict apart = refl
  joined_apart (suc n) None strict apart = merged_apart d most (parts_within d most n).join (parts_within d most n).less a s t strict settled once apart
  joined_apart zero (Some w) strict apart = refl
  joined_apart (suc n) (Some w) strict apart = made_apart d most (parts_within d most n).join (parts_within d most n).less w a s t strict settled once apart

  pub asked_apart : (n : ℕ) (o : Option Walk) (h : How) → merges_beside d h a s t ≡ true → asked d most n o h (with_aside a s) t ≡ mapped (with_aside a) (asked d most n o h s t)
  asked_apart n o Join m =
      let keeps : not (counts_as_absent d.setting null) ≡ true = and_left (not (counts_as_absent d.setting null)) (merges_apart a s t) m in
      joined_apart n o (not_true (counts_as_absent d.setting null) keeps) (and_right (not (counts_as_absent d.setting null)) (merges_apart a s t) m)
  asked_apart n o Less m = absurd (true≢false (sym m))

-- ---- a step of the fold

module _ (d : Document) (most n : ℕ) (o : Option Walk) (h : How) (p : Parted) (whole : Schema) (t : Schema) (seen : parted_view p ≡ whole) (settled : IsSettled p.aside) (m : merges_beside d h (aside_view p.aside) (schema_view p.body) t ≡ true) where
  asked_whole : asked d most n o h whole t ≡ mapped (with_aside (aside_view p.aside)) (asked d most n o h (schema_view p.body) t)
  asked_whole = ap (λ z. asked d most n o h z t) (sym seen) ∙ asked_apart d most (aside_view p.aside) (schema_view p.body) t settled.settled settled.once n o h m

  pub ends_apart : {before after : List Note} (x : tree.Schema) → Ends schema_view before after (asked d most n o h (schema_view p.body) t) (Ok x)
      → Ends parted_view before after (asked d most n o h whole t) (Ok (record { body = x; aside = p.aside }))
  ends_apart x s = ends_by asked_whole (maps (with_aside (aside_view p.aside)) x (record { body = x; aside = p.aside }) s refl)

  pub stops_apart : {before after : List Note} (e : Stop) (r : Result Parted Stop) → IsErrAnd r (λ f. f ≡ e) → Ends schema_view before after (asked d most n o h (schema_view p.body) t) (Err e)
      → Ends parted_view before after (asked d most n o h whole t) r
  stops_apart e r k s = ends_by asked_whole (handed e r k (maps_off (with_aside (aside_view p.aside)) e s))

pub folded_on : {before after : List Note} (f : Schema → Schema → Outcome Schema) (all rest : List tree.Schema) (x : tree.Schema) (p q : Parted) → all ≡ x ∷ rest
    → Ends parted_view before after (f (parted_view p) (schema_view x)) (Ok q) → Leads before after (folded f (schemas (schemas_view all)) (parted_view p)) (folded f (schemas (schemas_view rest)) (parted_view q))
folded_on f all rest x p q e s = leads_on (leads_by (ap (λ xs. folded f (schemas (schemas_view xs)) (parted_view p)) e)) (on_leads (folded f (schemas (schemas_view rest))) q s)
